-- When members agree, and when they keep the same proposals.
use Rattle.std.specs.Prelude.{◌≡◌, ◌⊎◌, ℕ, List, [], ◌∷◌, option_map, Some}
use Rattle.mls_types.specs.declared.commit.ProposalOrRef.{ProposalOrRef}
use Rattle.mls_types.specs.declared.commit.ProposalOrRef.TheVariants as listed
use Rattle.mls_schedule.specs.Epoch.{nine_secrets}
use Rattle.mls_schedule.specs.Twins.{Twins}
use Rattle.mls_model.specs.Member.{KeptProposal, Member, kept_under}

-- ---- agreement

-- two members hold one public state; `confirmed` is a part of `context`, named for itself
pub record Agree (m n : Member) : Type 0 where
  pub tree : m.public.tree ≡ n.public.tree
  pub context : m.public.context ≡ n.public.context
  pub confirmed : m.public.context.confirmed_transcript_hash ≡ n.public.context.confirmed_transcript_hash
  pub interim : m.public.interim ≡ n.public.interim

-- two members hold one epoch secret, and so the nine secrets that it gives (RFC 9420, 8)
pub record AgreeSecret (m n : Member) : Type 0 where
  pub epoch : m.epoch_secret ≡ n.epoch_secret
  pub nine : nine_secrets m.epoch_secret ≡ nine_secrets n.epoch_secret

-- two members hold one epoch secret, or two that give one confirmation tag (RFC 9420, 6.1)
abbrev pub AgreeOrTwins : Member → Member → Type 0
AgreeOrTwins m n = AgreeSecret m n ⊎ Twins m.epoch_secret n.epoch_secret m.public.context.confirmed_transcript_hash

-- ---- what members keep

-- under the references that a list names these very messages are kept, in the list's order (RFC 9420, 12.4)
unfoldable pub Keeps : List KeptProposal → List ProposalOrRef → List (List ℕ) → Type 0
Keeps kept [] [] = Unit {0}
Keeps kept [] (b ∷ bs) = ⊥
Keeps kept (listed.Proposal said ∷ xs) bs = Keeps kept xs bs
Keeps kept (listed.Reference reference ∷ xs) [] = ⊥
Keeps kept (listed.Reference reference ∷ xs) (b ∷ bs) =
    (option_map (λ (k : KeptProposal). k.message) (kept_under kept reference) ≡ Some b) × Keeps kept xs bs
