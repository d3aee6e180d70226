-- The proposals that a commit uses, by what a member keeps and by what stands in an entry.
use Rattle.std.proofs.Common.{◌≡◌, ℕ, suc, ◌≤◌, length, arith, true, false, List, [], ◌∷◌, Option, Some, None, Result, Ok, refl, sym, ap, subst, ◌∙◌}
use Rattle.std.specs.Prelude.{map}
use Rattle.mls_wire.specs.Reading.{◌>>=◌}
use Rattle.mls_wire.specs.Laws.{bind_ok, ok_is}
use Rattle.mls_leaf.specs.KeyPackage.{key_package}
use Rattle.mls_leaf.specs.declared.key_package.KeyPackage.{KeyPackage}
use Rattle.mls_types.specs.declared.commit.ProposalOrRef.{ProposalOrRef}
use Rattle.mls_types.specs.declared.commit.ProposalOrRef.TheVariants as listed
use Rattle.mls_suite.specs.Crypto.{Crypto}
use Rattle.mls_model.specs.Agreement.{Keeps}
use Rattle.mls_model.specs.MemberInvariant.{IsGoodKept}
use Rattle.mls_model.proofs.CommitLaws.{names_in_order, by_option, keeps_more, found_good}
use Rattle.mls_model.specs.Journal.{names_in, used_of, adds_in, removes_in}
use Rattle.mls_model.specs.Member.{KeptProposal, Member, kept_under, find_proposal, find_proposals, named_proposals}
use Rattle.mls_model.specs.Proposals.{adds, removed_leaves}
use Rattle.mls_model.specs.PublicState.{Used}
use Rattle.mls_model.specs.JournalState.{used_in, used_by_names}
use Rattle.mls_theorems.specs.UsedProposals.{AreGoodKept, UsedByNames, UsedByEntry, UsedAlike, IsUsedAlike, UsedForOther, RemovesIn, AddsIn, UsedSame}

-- ---- one that is kept

pub kept_good : (c : Crypto) (m : Member) (kept : List KeptProposal) (reference : List ℕ) (k : KeptProposal) → AreGoodKept c m kept → kept_under kept reference ≡ Some k → IsGoodKept c m k
unfolding kept_under
kept_good c m kept reference k all e = found_good (IsGoodKept c m) _ kept k all e

-- what its message says is what is used of it
pub used_kept : (c : Crypto) (m : Member) (k : KeptProposal) → IsGoodKept c m k → used_in k.message ≡ Ok (record { proposal = k.proposal; sender = k.sender; is_full = false })
unfolding used_in
used_kept c m k g = rw (g.decodes, g.says, g.from) refl

pub used_by_names_lem : UsedByNames
unfolding find_proposals used_by_names Keeps
used_by_names_lem c m kept i [] [] good h = refl
used_by_names_lem c m kept i [] (b ∷ bs) good h = absurd h
used_by_names_lem c m kept i (listed.Proposal said ∷ xs) bs good h =
    ap (λ (r : Result (List Used) ℕ). r >>= λ us. Ok (record { proposal = said; sender = i; is_full = true } ∷ us)) (used_by_names_lem c m kept i xs bs good h)
used_by_names_lem c m kept i (listed.Reference r ∷ xs) [] good h = absurd h
used_by_names_lem c m kept i (listed.Reference r ∷ xs) (b ∷ bs) good h =
    let k = by_option (kept_under kept r) b h.0 in
    let g : IsGoodKept c m k.0 = kept_good c m kept r k.0 good k.1 in
    let u : used_in b ≡ Ok (record { proposal = k.0.proposal; sender = k.0.sender; is_full = false }) = subst (λ (x : List ℕ). used_in x ≡ Ok (record { proposal = k.0.proposal; sender = k.0.sender; is_full = false })) k.2 (used_kept c m k.0 g) in
    rw (k.1, u, used_by_names_lem c m kept i xs bs good h.1) refl

pub used_by_entry : UsedByEntry
used_by_entry c m kept i list us good e = sym (used_by_names_lem c m kept i list (names_in kept list) good (names_in_order kept i list us e)) ∙ e

pub used_alike : UsedAlike
used_alike c maker m i list us good good' keeps e =
    used_by_names_lem c m m.kept i list (names_in maker.kept list) good' keeps ∙ used_by_entry c maker maker.kept i list us good e

one_alike : (kept : List KeptProposal) (j : ℕ) (x : ProposalOrRef) (xs : List ProposalOrRef) (u w : Used) (us : List Used) → find_proposal kept j x ≡ Ok w → w.proposal ≡ u.proposal → IsUsedAlike kept j xs us → IsUsedAlike kept j (x ∷ xs) (u ∷ us)
unfolding find_proposals removed_leaves adds
one_alike kept j x xs u w us e p a = record {
  used = w ∷ a.used;
  is = rw (e, a.is) refl;
  removes = rw (p, a.removes) refl;
  adding = rw (p, a.adding) refl;
}

used_first : (kept : List KeptProposal) (i j : ℕ) (x : ProposalOrRef) (u : Used) → find_proposal kept i x ≡ Ok u → (w : Used) × (find_proposal kept j x ≡ Ok w) × (w.proposal ≡ u.proposal)
used_first kept i j (listed.Proposal said) u e = (record { proposal = said; sender = j; is_full = true }, refl, cc)
used_first kept i j (listed.Reference r) u e = (u, e, refl)

pub used_for_other : UsedForOther
unfolding find_proposals removed_leaves adds
used_for_other kept i j [] us e =
    let f : [] ≡ us = ok_is [] us e in
    subst (λ (l : List Used). IsUsedAlike kept j [] l) f (record { used = []; is = refl; removes = refl; adding = refl })
used_for_other kept i j (x ∷ xs) us e =
    let s = bind_ok (find_proposal kept i x) (λ u. find_proposals kept i xs >>= λ vs. Ok (u ∷ vs)) us e in
    let t = bind_ok (find_proposals kept i xs) (λ vs. Ok (s.0 ∷ vs)) us s.2 in
    let w = used_first kept i j x s.0 s.1 in
    subst (λ (l : List Used). IsUsedAlike kept j (x ∷ xs) l) (ok_is (s.0 ∷ t.0) us t.2) (one_alike kept j x xs s.0 w.0 t.0 w.1 w.2 (used_for_other kept i j xs t.0 t.1))

pub removes_in_lem : RemovesIn
unfolding removes_in
removes_in_lem kept i list us e = let a = used_for_other kept i 0 list us e in ap (λ (r : Result (List Used) ℕ). removed_leaves (used_of r)) a.is ∙ a.removes

pub adds_in_lem : AddsIn
unfolding adds_in
adds_in_lem kept i list us e =
    let a = used_for_other kept i 0 list us e in
    ap (λ (r : Result (List Used) ℕ). map (λ (offered : KeyPackage). key_package.spell offered) (adds (used_of r))) a.is
    ∙ ap (λ (offers : List KeyPackage). map (λ (offered : KeyPackage). key_package.spell offered) offers) a.adding

-- ---- the same without a premise that all is kept: there are as many names as references

abbrev one_more : ProposalOrRef → ℕ → ℕ
one_more (listed.Proposal said) n = n
one_more (listed.Reference r) n = suc n

unfoldable references : List ProposalOrRef → ℕ
references [] = 0
references (x ∷ xs) = one_more x (references xs)

keeps_count : (kept : List KeptProposal) (list : List ProposalOrRef) (names : List (List ℕ)) → Keeps kept list names → length names ≡ references list
unfolding Keeps references
keeps_count kept [] [] h = refl
keeps_count kept [] (b ∷ bs) h = absurd h
keeps_count kept (listed.Proposal said ∷ xs) bs h = keeps_count kept xs bs h
keeps_count kept (listed.Reference r ∷ xs) [] h = absurd h
keeps_count kept (listed.Reference r ∷ xs) (b ∷ bs) h = ap suc (keeps_count kept xs bs h.1)

names_at : List (List ℕ) → Option KeptProposal → List (List ℕ)
names_at names None = names
names_at names (Some k) = k.message ∷ names

names_first : (kept : List KeptProposal) (r : List ℕ) (xs : List ProposalOrRef) (o : Option KeptProposal) → kept_under kept r ≡ o → names_in kept (listed.Reference r ∷ xs) ≡ names_at (names_in kept xs) o
unfolding names_in named_proposals names_at
names_first kept r xs None e = rw e refl
names_first kept r xs (Some k) e = rw e refl

at_most : (names : List (List ℕ)) (o : Option KeptProposal) (n : ℕ) → length names ≤ n → length (names_at names o) ≤ suc n
unfolding names_at
at_most names None n le = omega arith
at_most names (Some k) n le = omega arith

names_count : (kept : List KeptProposal) (list : List ProposalOrRef) → length (names_in kept list) ≤ references list
unfolding names_in named_proposals references
names_count kept [] = omega arith
names_count kept (listed.Proposal said ∷ xs) = names_count kept xs
names_count kept (listed.Reference r ∷ xs) =
    rw (names_first kept r xs (kept_under kept r) refl) (at_most (names_in kept xs) (kept_under kept r) (references xs) (names_count kept xs))

named_by : (kept : List KeptProposal) (r : List ℕ) (xs : List ProposalOrRef) (o : Option KeptProposal) → kept_under kept r ≡ o → (length (names_in kept xs) ≡ references xs → Keeps kept xs (names_in kept xs)) → length (names_in kept (listed.Reference r ∷ xs)) ≡ suc (references xs) →
    Keeps kept (listed.Reference r ∷ xs) (names_in kept (listed.Reference r ∷ xs))
unfolding names_at
named_by kept r xs None e more h =
    let n : length (names_in kept xs) ≡ suc (references xs) = sym (ap length (names_first kept r xs None e)) ∙ h in
    absurd (omega (arith, n, names_count kept xs))
named_by kept r xs (Some k) e more h =
    let n : suc (length (names_in kept xs)) ≡ suc (references xs) = sym (ap length (names_first kept r xs (Some k) e)) ∙ h in
    keeps_more kept r xs k e (more (omega (arith, n)))

all_named : (kept : List KeptProposal) (list : List ProposalOrRef) → length (names_in kept list) ≡ references list → Keeps kept list (names_in kept list)
unfolding Keeps names_in named_proposals references
all_named kept [] h = tt
all_named kept (listed.Proposal said ∷ xs) h = all_named kept xs h
all_named kept (listed.Reference r ∷ xs) h = named_by kept r xs (kept_under kept r) refl (all_named kept xs) h

pub used_same : UsedSame
used_same c maker m i list good good' keeps =
    used_by_names_lem c m m.kept i list (names_in maker.kept list) good' keeps
    ∙ sym (used_by_names_lem c maker maker.kept i list (names_in maker.kept list) good (all_named maker.kept list (keeps_count m.kept list (names_in maker.kept list) keeps)))
