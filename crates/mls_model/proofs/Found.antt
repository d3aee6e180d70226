-- What a member found in a message that it took.
use Rattle.std.specs.Prelude.{◌≡◌, ◌⊎◌, ℕ, ◌^◌, ◌-◌, nat_lt, true, not, List, None, Ok}
use Rattle.mls_leaf.specs.declared.proposal.Proposal.{Proposal}
use Rattle.mls_types.specs.SignedParts.{framed_content_of}
use Rattle.mls_types.specs.declared.commit.Commit.{Commit}
use Rattle.mls_types.specs.declared.message.MlsMessage.TheVariants as message
use Rattle.mls_types.specs.declared.public_message.PublicMessage.{PublicMessage}
use Rattle.mls_types.specs.declared.signed.SignedBody.{SignedBody}
use Rattle.mls_types.specs.declared.signed.SignedBody.TheVariants as body_of
use Rattle.mls_types.specs.declared.signed.SignedContent.{SignedContent}
use Rattle.mls_suite.specs.Crypto.{Crypto}
use Rattle.mls_model.specs.declared.effect.Effect.{Effect}
use Rattle.mls_model.specs.PublicState.{Used}
use Rattle.mls_model.specs.Commit.{Change, change_of_commit}
use Rattle.mls_model.specs.Member.{Member, find_proposals}
use Rattle.mls_model.specs.Messages.{decode_message, sender_leaf}
use Rattle.mls_model.specs.Verdict.{bytes_verdict, own_pending}
use Rattle.mls_model.specs.VerdictFindings.{IsFramed, WasKnown, IsNowKept, WasRemoved, HasFollowed, DidPending}

abbrev pub ProposalDid : Crypto → Member → SignedContent → List ℕ → Proposal → Effect × Member → Type 0
ProposalDid c m v bytes said x = WasKnown m v x ⊎ IsNowKept c m v bytes said x

-- what all receivers of a commit find
pub record CommitDid (c : Crypto) (m : Member) (v : SignedContent) (commit : Commit) (tag : List ℕ) (x : Effect × Member) : Type 0 where
  pub below : nat_lt m.public.context.epoch (2 ^ 64 - 1) ≡ true
  pub used : List Used
  pub uses : find_proposals m.kept (sender_leaf v.sender) commit.proposals ≡ Ok used
  pub change : Change
  pub change_is : change_of_commit c m.public (sender_leaf v.sender) used commit (framed_content_of v) v.signature ≡ Ok change
  pub did : WasRemoved m used x ⊎ HasFollowed c m v commit tag used change x

-- ---- any message

abbrev pub ContentDid : Crypto → Member → SignedContent → List ℕ → SignedBody → Effect × Member → Type 0
ContentDid c m v bytes (body_of.Application text) x = ⊥
ContentDid c m v bytes (body_of.Proposal said) x = ProposalDid c m v bytes said x
ContentDid c m v bytes (body_of.Commit commit tag) x = CommitDid c m v commit tag x

-- bytes that are not its pending commit
pub record ReceivedDid (c : Crypto) (m : Member) (bytes : List ℕ) (x : Effect × Member) : Type 0 where
  pub said : PublicMessage
  pub decodes : decode_message bytes ≡ Ok (message.PublicMessage said)
  pub is_framed : IsFramed c m said bytes
  pub did : ContentDid c m said.content bytes said.content.body x

pub record DidOther (c : Crypto) (m : Member) (bytes : List ℕ) (x : Effect × Member) : Type 0 where
  pub free : own_pending m.pending bytes ≡ None
  pub is : bytes_verdict c m bytes ≡ Ok x

pub record VerdictDid (c : Crypto) (m : Member) (bytes : List ℕ) (x : Effect × Member) : Type 0 where
  pub active : not m.gone ≡ true
  pub did : DidPending m bytes x ⊎ DidOther c m bytes x
