-- Codes of members and their parts, by which proofs tell their values apart.
use Rattle.std.specs.Prelude.{ℕ, Bool, List, Option}
use Rattle.std.proofs.Common.{refl}
use Rattle.std.specs.Coded.{Coded, code_by, coded×, coded_ℕ, coded_bool, coded_list, coded_option}
use Rattle.mls_leaf.specs.declared.proposal.Proposal.{Proposal}
use Rattle.mls_treekem_model.specs.Keys.{PrivateKeys}
use Rattle.mls_model.specs.PublicState.{PublicState}
use Rattle.mls_model.specs.Member.{KeptProposal, Pending, Member}
use Rattle.mls_public_group.specs.Codes.{coded_bytes, coded_proposal}
use Rattle.mls_public_group.specs.PublicCodes.{coded_public}

abbrev pub coded_keys : Coded PrivateKeys
coded_keys =
    code_by (ℕ × (List ℕ × List (Option (List ℕ)))) (coded× coded_ℕ (coded× coded_bytes (coded_list (coded_option coded_bytes))))
    (λ k. (k.leaf, (k.own, k.above))) (λ x. record { leaf = x.0; own = x.1.0; above = x.1.1 }) (λ _. refl)

abbrev pub coded_kept : Coded KeptProposal
coded_kept =
    code_by (List ℕ × (List ℕ × (Proposal × (ℕ × Option (List ℕ))))) (coded× coded_bytes (coded× coded_bytes (coded× coded_proposal (coded× coded_ℕ (coded_option coded_bytes)))))
    (λ k. (k.reference, (k.message, (k.proposal, (k.sender, k.own_key)))))
    (λ x. record { reference = x.0; message = x.1.0; proposal = x.1.1.0; sender = x.1.1.1.0; own_key = x.1.1.1.1 }) (λ _. refl)

abbrev pub coded_pending : Coded Pending
coded_pending =
    code_by (List ℕ × (PublicState × (List ℕ × PrivateKeys))) (coded× coded_bytes (coded× coded_public (coded× coded_bytes coded_keys)))
    (λ p. (p.message, (p.public, (p.epoch_secret, p.keys)))) (λ x. record { message = x.0; public = x.1.0; epoch_secret = x.1.1.0; keys = x.1.1.1 }) (λ _. refl)

abbrev pub coded_member : Coded Member
coded_member =
    code_by (Bool × (PublicState × (List ℕ × (PrivateKeys × (List ℕ × (List KeptProposal × Option Pending))))))
    (coded× coded_bool (coded× coded_public (coded× coded_bytes (coded× coded_keys (coded× coded_bytes (coded× (coded_list coded_kept) (coded_option coded_pending)))))))
    (λ m. (m.gone, (m.public, (m.epoch_secret, (m.keys, (m.signing, (m.kept, m.pending)))))))
    (λ x. record { gone = x.0; public = x.1.0; epoch_secret = x.1.1.0; keys = x.1.1.1.0; signing = x.1.1.1.1.0; kept = x.1.1.1.1.1.0; pending = x.1.1.1.1.1.1 }) (λ _. refl)
