-- What views of a welcome's entries and of a commit's proposals show.
use Rattle.std.specs.Prelude.{◌≡◌}
use Rattle.mls_leaf.specs.Faults.{Spells}
use Rattle.mls_leaf.specs.Proposal.{proposal}
use Rattle.mls_types.specs.declared.welcome.EncryptedGroupSecrets.{EncryptedGroupSecrets}
use Rattle.mls_types.specs.declared.commit.ProposalOrRef.{ProposalOrRef}
use Rattle.mls_types.specs.declared.commit.ProposalOrRef.TheVariants as shown
use Rattle.mls_view.specs.declared.entries.EncryptedGroupSecretsView.{EncryptedGroupSecretsView}
use Rattle.mls_view.specs.declared.entries.ProposalOrRefView.{ProposalOrRefView}
use Rattle.mls_view.specs.declared.entries.ProposalOrRefView.TheVariants.{Proposal, Reference}

-- EncryptedGroupSecrets (RFC 9420, 12.4.3.1)
pub record ShowsSecrets (view : EncryptedGroupSecretsView) (entry : EncryptedGroupSecrets) : Type 0 where
  pub new_member : view.new_member.now ≡ entry.new_member
  pub kem_output : view.kem_output.now ≡ entry.encrypted_group_secrets.kem_output
  pub ciphertext : view.ciphertext.now ≡ entry.encrypted_group_secrets.ciphertext

-- ProposalOrRef (RFC 9420, 12.4)
abbrev pub ShowsProposalOrRef : ProposalOrRefView → ProposalOrRef → Type 0
ShowsProposalOrRef (Proposal part) (shown.Proposal made) = Spells proposal made part
ShowsProposalOrRef (Reference text) (shown.Reference reference) = text.now ≡ reference
ShowsProposalOrRef view entry = ⊥
