-- What holds of the next public state, and of the names in an entry, by their definitions alone.
use Rattle.std.proofs.Common.{◌≡◌, ℕ, Bool, true, false, cond, find, List, [], ◌∷◌, Option, Some, None, Ok, refl, ap, subst}
use Rattle.std.specs.Prelude.{option_map}
use Rattle.std.specs.List.{AllByRecursion}
use Rattle.mls_wire.specs.Checks.{require_some}
use Rattle.mls_wire.specs.Reading.{◌>>=◌}
use Rattle.mls_wire.proofs.CheckLaws.{bind_ok}
use Rattle.mls_types.specs.declared.commit.ProposalOrRef.{ProposalOrRef}
use Rattle.mls_types.specs.declared.commit.ProposalOrRef.TheVariants as listed
use Rattle.mls_model.specs.PublicState.{Used}
use Rattle.mls_model.specs.Commit.{public_with, next_public}
use Rattle.mls_model.specs.Member.{KeptProposal, kept_under, find_proposals, named_proposals}
use Rattle.mls_model.specs.Journal.{names_in}
use Rattle.mls_model.specs.Agreement.{Keeps}
use Rattle.mls_model.specs.CommitLaws.{NextIsRefused, NextIsBody, NamesInOrder, NamesAreHeld}

-- ---- one that is kept

-- what all that is kept has, a found one has
pub found_good : (P : KeptProposal → Type 0) (test : KeptProposal → Bool) (kept : List KeptProposal) (k : KeptProposal) → AllByRecursion P kept → find test kept ≡ Some k → P k
found_good P test [] k all e = absurd cc
found_good P test (x ∷ xs) k all e = by_test (test x) (find test xs) (found_good P test xs k all.1) e
  where
    by_test : (b : Bool) (o : Option KeptProposal) → (o ≡ Some k → P k) → cond b (Some x) o ≡ Some k → P k
    by_test true o rest is = let same : x ≡ k = cc in subst P same all.0
    by_test false o rest is = rest is

pub next_is_refused : NextIsRefused
unfolding next_public
next_is_refused c p committer used commit said signature tag n e = rw e refl

pub next_is_body : NextIsBody
unfolding next_public public_with
next_is_body c p committer used commit said signature tag change e = rw e refl

keeps_at : (kept : List KeptProposal) (r : List ℕ) (xs : List ProposalOrRef) (o : Option KeptProposal) (i : ℕ) (us : List Used) → kept_under kept r ≡ o →
    ((require_some 60 o >>= λ k. Ok (record { proposal = k.proposal; sender = k.sender; is_full = false })) >>= λ u. find_proposals kept i xs >>= λ vs. Ok (u ∷ vs)) ≡ Ok us →
    (k : KeptProposal) × (kept_under kept r ≡ Some k) × ((vs : List Used) × (find_proposals kept i xs ≡ Ok vs))
keeps_at kept r xs None i us e f = absurd cc
keeps_at kept r xs (Some k) i us e f =
    let s = bind_ok (find_proposals kept i xs) (λ vs. Ok (record { proposal = k.proposal; sender = k.sender; is_full = false } ∷ vs)) us f in
    (k, e, (s.0, s.1))

pub keeps_more : (kept : List KeptProposal) (r : List ℕ) (xs : List ProposalOrRef) (k : KeptProposal) → kept_under kept r ≡ Some k → Keeps kept xs (names_in kept xs) →
    Keeps kept (listed.Reference r ∷ xs) (names_in kept (listed.Reference r ∷ xs))
unfolding Keeps names_in named_proposals
keeps_more kept r xs k e h = rw e (ap (option_map (λ (x : KeptProposal). x.message)) e, h)

pub names_in_order : NamesInOrder
unfolding find_proposals Keeps names_in named_proposals
names_in_order kept i [] us e = tt
names_in_order kept i (listed.Proposal said ∷ xs) us e =
    let s = bind_ok (find_proposals kept i xs) (λ vs. Ok (record { proposal = said; sender = i; is_full = true } ∷ vs)) us e in
    names_in_order kept i xs s.0 s.1
names_in_order kept i (listed.Reference r ∷ xs) us e =
    let k = keeps_at kept r xs (kept_under kept r) i us refl e in
    keeps_more kept r xs k.0 k.1 (names_in_order kept i xs k.2.0 k.2.1)

pub by_option : (o : Option KeptProposal) (b : List ℕ) → option_map (λ (k : KeptProposal). k.message) o ≡ Some b → (k : KeptProposal) × (o ≡ Some k) × (k.message ≡ b)
by_option None b e = absurd cc
by_option (Some k) b e = (k, refl, cc)

pub names_are_held : NamesAreHeld
unfolding Keeps names_in named_proposals
names_are_held kept [] [] h = refl
names_are_held kept [] (b ∷ bs) h = absurd h
names_are_held kept (listed.Proposal said ∷ xs) bs h = names_are_held kept xs bs h
names_are_held kept (listed.Reference r ∷ xs) [] h = absurd h
names_are_held kept (listed.Reference r ∷ xs) (b ∷ bs) h =
    let k = by_option (kept_under kept r) b h.0 in
    rw (k.1, names_are_held kept xs bs h.1, k.2) refl
