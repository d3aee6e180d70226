-- What a good member keeps, among the proposals that a commit uses.
use Rattle.std.proofs.Common.{◌≡◌, ◌≢◌, ℕ, suc, ◌==◌, true, false, List, [], ◌∷◌, filter_map, Option, Some, None, Ok, refl, sym, ◌∙◌, ap, subst, ne_eqb, inl, inr}
use Rattle.std.specs.List.{AllByRecursion, cons_option}
use Rattle.std.proofs.lemmas.Bool.{cases_eq, true≢false}
use Rattle.mls_wire.specs.Checks.{require_some}
use Rattle.mls_leaf.specs.declared.leaf.LeafNode.{LeafNode}
use Rattle.mls_leaf.specs.declared.proposal.Proposal.{Proposal}
use Rattle.mls_leaf.specs.declared.proposal.Proposal.TheVariants as proposal
use Rattle.mls_types.specs.declared.commit.ProposalOrRef.{ProposalOrRef}
use Rattle.mls_types.specs.declared.commit.ProposalOrRef.TheVariants as listed
use Rattle.mls_suite.specs.Crypto.{Crypto}
use Rattle.mls_tree_model.specs.Sets.{has}
use Rattle.mls_model.specs.PublicState.{Used}
use Rattle.mls_model.specs.Proposals.{update_in, updates}
use Rattle.mls_model.specs.Member.{KeptProposal, Member, kept_under, find_proposal, find_proposals, named_proposal, named_proposals, first_key, first_own_key}
use Rattle.mls_model.specs.MemberInvariant.{HasOwnKey, IsGoodKept}
use Rattle.mls_theorems.specs.CommitLaws.{HasPassed, AllHavePassed}
use Rattle.mls_theorems.specs.KeyLaws.{OwnsUpdate, UsedHavePassed, UsedAreOwned}
use Rattle.mls_wire.proofs.CheckLaws.{bind_ok, given_ok}
use Rattle.mls_model.proofs.CommitLaws.{found_good}

-- ---- one that is kept

module _ (c : Crypto) (m : Member) (good : AllByRecursion (IsGoodKept c m) m.kept) where
  kept_good : (reference : List ℕ) (k : KeptProposal) → kept_under m.kept reference ≡ Some k → IsGoodKept c m k
  unfolding kept_under
  kept_good reference k e = found_good (IsGoodKept c m) _ m.kept k good e

-- a list's first, and the others
record UsesFirst (kept : List KeptProposal) (i : ℕ) (x : ProposalOrRef) (xs : List ProposalOrRef) (used : List Used) : Type 0 where
  first : Used
  one : find_proposal kept i x ≡ Ok first
  later : List Used
  others : find_proposals kept i xs ≡ Ok later
  whole : first ∷ later ≡ used

uses_first : (kept : List KeptProposal) (i : ℕ) (x : ProposalOrRef) (xs : List ProposalOrRef) (used : List Used) → find_proposals kept i (x ∷ xs) ≡ Ok used → UsesFirst kept i x xs used
unfolding find_proposals
uses_first kept i x xs used h =
    let first = bind_ok (find_proposal kept i x) _ used h in
    let later = bind_ok (find_proposals kept i xs) _ used first.2 in
    record { first = first.0; one = first.1; later = later.0; others = later.1; whole = cc }

uses_none : (kept : List KeptProposal) (i : ℕ) (used : List Used) → find_proposals kept i [] ≡ Ok used → [] ≡ used
unfolding find_proposals
uses_none kept i used h = cc

full_one : Proposal → ℕ → Used
full_one said i = record { proposal = said; sender = i; is_full = true }

kept_one : KeptProposal → Used
kept_one k = record { proposal = k.proposal; sender = k.sender; is_full = false }

uses_full : (kept : List KeptProposal) (i : ℕ) (said : Proposal) (u : Used) → find_proposal kept i (listed.Proposal said) ≡ Ok u → full_one said i ≡ u
unfolding full_one
uses_full kept i said u h = cc

uses_kept : (kept : List KeptProposal) (i : ℕ) (reference : List ℕ) (u : Used) → find_proposal kept i (listed.Reference reference) ≡ Ok u → (k : KeptProposal) × (kept_under kept reference ≡ Some k) × (kept_one k ≡ u)
unfolding kept_one
uses_kept kept i reference u h =
    let found = bind_ok (require_some 60 (kept_under kept reference)) _ u h in
    (found.0, given_ok 60 (kept_under kept reference) found.0 found.1, cc)

-- ---- they have passed their checks

full_passed : (c : Crypto) (m : Member) (said : Proposal) (i : ℕ) → HasPassed c m.public (full_one said i)
unfolding full_one
full_passed c m said i e = absurd (true≢false e)

kept_passed : (c : Crypto) (m : Member) (k : KeptProposal) → IsGoodKept c m k → HasPassed c m.public (kept_one k)
unfolding kept_one
kept_passed c m k g e = g.checked

passed_all : (c : Crypto) (m : Member) (i : ℕ) → AllByRecursion (IsGoodKept c m) m.kept → (list : List ProposalOrRef) (used : List Used) → find_proposals m.kept i list ≡ Ok used → AllHavePassed c m.public used
passed_all c m i good [] used h = subst (AllHavePassed c m.public) (uses_none m.kept i used h) tt
passed_all c m i good (listed.Proposal said ∷ xs) used h =
    let f = uses_first m.kept i (listed.Proposal said) xs used h in
    let one = subst (HasPassed c m.public) (uses_full m.kept i said f.first f.one) (full_passed c m said i) in
    subst (AllHavePassed c m.public) f.whole (one, passed_all c m i good xs f.later f.others)
passed_all c m i good (listed.Reference reference ∷ xs) used h =
    let f = uses_first m.kept i (listed.Reference reference) xs used h in
    let k = uses_kept m.kept i reference f.first f.one in
    let one = subst (HasPassed c m.public) k.2 (kept_passed c m k.0 (kept_good c m good reference k.0 k.1)) in
    subst (AllHavePassed c m.public) f.whole (one, passed_all c m i good xs f.later f.others)

pub used_have_passed : UsedHavePassed
used_have_passed c m i list used good h = passed_all c m i good list used h

-- ---- and those of the member itself are owned

module _ (c : Crypto) (j : ℕ) where
  -- an update of another leaf before them
  owns_later : (u : ℕ × LeafNode) (us : List (ℕ × LeafNode)) (own : Option (List ℕ)) → (u.0 ≡ j → ⊥) → OwnsUpdate c j us own → OwnsUpdate c j (u ∷ us) own
  unfolding has
  owns_later u us None ne h = let e : (u.0 == j) ≡ false = ne_eqb u.0 j ne in rw e h
  owns_later u us (Some key) ne h = record { place = suc h.place; leaf = h.leaf; at = h.at; fits = h.fits }

  owns_first : (leaf : LeafNode) (us : List (ℕ × LeafNode)) (key : List ℕ) → c.public key ≡ leaf.encryption_key → OwnsUpdate c j ((j, leaf) ∷ us) (Some key)
  owns_first leaf us key fits = record { place = 0; leaf = leaf; at = refl; fits = fits }

  -- one proposal before them, of another or of the member itself
  owns_other : (u : Used) (said : Proposal) (us : List (ℕ × LeafNode)) (own : Option (List ℕ)) → (u.sender ≡ j → ⊥) → OwnsUpdate c j us own → OwnsUpdate c j (cons_option (update_in u said) us) own
  owns_other u (proposal.Add offered) us own ne h = h
  owns_other u (proposal.Update leaf) us own ne h = owns_later (u.sender, leaf) us own ne h
  owns_other u (proposal.Remove leaf) us own ne h = h
  owns_other u (proposal.GroupContextExtensions list) us own ne h = h

  owns_own : (u : Used) (said : Proposal) (us : List (ℕ × LeafNode)) (key own : Option (List ℕ)) → u.sender ≡ j → HasOwnKey c said key → OwnsUpdate c j us own → OwnsUpdate c j (cons_option (update_in u said) us) (first_key key own)
  owns_own u (proposal.Add offered) us key own is has_key h = subst (λ k. OwnsUpdate c j us (first_key k own)) (sym has_key) h
  owns_own u (proposal.Update leaf) us key own is has_key h =
      subst (λ k. OwnsUpdate c j ((u.sender, leaf) ∷ us) (first_key k own)) (sym has_key.1) (subst (λ i. OwnsUpdate c j ((i, leaf) ∷ us) (Some has_key.0)) (sym is) (owns_first leaf us has_key.0 has_key.2))
  owns_own u (proposal.Remove leaf) us key own is has_key h = subst (λ k. OwnsUpdate c j us (first_key k own)) (sym has_key) h
  owns_own u (proposal.GroupContextExtensions list) us key own is has_key h = subst (λ k. OwnsUpdate c j us (first_key k own)) (sym has_key) h

updates_first_is : (u : Used) (us : List Used) → updates (u ∷ us) ≡ cons_option (update_in u u.proposal) (updates us)
unfolding updates
updates_first_is u us = refl

module _ (c : Crypto) (m : Member) where
  owns_full : (said : Proposal) (i : ℕ) (us : List Used) (own : Option (List ℕ)) → (i ≡ m.keys.leaf → ⊥) → OwnsUpdate c m.keys.leaf (updates us) own → OwnsUpdate c m.keys.leaf (updates (full_one said i ∷ us)) own
  unfolding full_one
  owns_full said i us own ne h =
      let u : Used = record { proposal = said; sender = i; is_full = true } in
      subst (λ ys. OwnsUpdate c m.keys.leaf ys own) (sym (updates_first_is u us)) (owns_other c m.keys.leaf u said (updates us) own ne h)

  owns_kept : (k : KeptProposal) (us : List Used) (own : Option (List ℕ)) → IsGoodKept c m k → OwnsUpdate c m.keys.leaf (updates us) own → OwnsUpdate c m.keys.leaf (updates (kept_one k ∷ us)) (first_key k.own_key own)
  unfolding kept_one
  owns_kept k us own g h =
      let u : Used = record { proposal = k.proposal; sender = k.sender; is_full = false } in
      subst (λ ys. OwnsUpdate c m.keys.leaf ys (first_key k.own_key own)) (sym (updates_first_is u us)) (elim (cases_eq k.sender m.keys.leaf) [
        | inl is ↦ owns_own c m.keys.leaf u k.proposal (updates us) k.own_key own is (g.own is) h
        | inr ne ↦ subst (λ key. OwnsUpdate c m.keys.leaf (cons_option (update_in u k.proposal) (updates us)) (first_key key own)) (sym (g.others ne)) (owns_other c m.keys.leaf u k.proposal (updates us) own ne h)
      ])

named_full : (kept : List KeptProposal) (said : Proposal) (xs : List ProposalOrRef) → named_proposals kept (listed.Proposal said ∷ xs) ≡ named_proposals kept xs
unfolding named_proposals
named_full kept said xs = refl

named_kept : (kept : List KeptProposal) (reference : List ℕ) (xs : List ProposalOrRef) (k : KeptProposal) → kept_under kept reference ≡ Some k → named_proposals kept (listed.Reference reference ∷ xs) ≡ k ∷ named_proposals kept xs
unfolding named_proposals
named_kept kept reference xs k e = ap (λ o. cons_option o (filter_map (named_proposal kept) xs)) e

no_key : (kept : List KeptProposal) → first_own_key (named_proposals kept []) ≡ None
unfolding named_proposals first_own_key
no_key kept = refl

no_updates : (c : Crypto) (j : ℕ) → OwnsUpdate c j (updates []) None
unfolding updates has
no_updates c j = refl

key_first : (k : KeptProposal) (ks : List KeptProposal) → first_own_key (k ∷ ks) ≡ first_key k.own_key (first_own_key ks)
unfolding first_own_key
key_first k ks = refl

owned_all : (c : Crypto) (m : Member) (i : ℕ) → AllByRecursion (IsGoodKept c m) m.kept → i ≢ m.keys.leaf → (list : List ProposalOrRef) (used : List Used) → find_proposals m.kept i list ≡ Ok used → OwnsUpdate c m.keys.leaf (updates used) (first_own_key (named_proposals m.kept list))
owned_all c m i good ne [] used h =
    subst (λ us. OwnsUpdate c m.keys.leaf (updates us) (first_own_key (named_proposals m.kept []))) (uses_none m.kept i used h) (subst (OwnsUpdate c m.keys.leaf (updates [])) (sym (no_key m.kept)) (no_updates c m.keys.leaf))
owned_all c m i good ne (listed.Proposal said ∷ xs) used h =
    let f = uses_first m.kept i (listed.Proposal said) xs used h in
    let rest = owned_all c m i good ne xs f.later f.others in
    let one = owns_full c m said i f.later (first_own_key (named_proposals m.kept xs)) ne rest in
    let list = ap (λ u. u ∷ f.later) (uses_full m.kept i said f.first f.one) ∙ f.whole in
    subst (λ us. OwnsUpdate c m.keys.leaf (updates us) (first_own_key (named_proposals m.kept (listed.Proposal said ∷ xs)))) list
    (subst (λ ks. OwnsUpdate c m.keys.leaf (updates (full_one said i ∷ f.later)) (first_own_key ks)) (sym (named_full m.kept said xs)) one)
owned_all c m i good ne (listed.Reference reference ∷ xs) used h =
    let f = uses_first m.kept i (listed.Reference reference) xs used h in
    let k = uses_kept m.kept i reference f.first f.one in
    let rest = owned_all c m i good ne xs f.later f.others in
    let one = owns_kept c m k.0 f.later (first_own_key (named_proposals m.kept xs)) (kept_good c m good reference k.0 k.1) rest in
    let list = ap (λ u. u ∷ f.later) k.2 ∙ f.whole in
    let keys = ap first_own_key (named_kept m.kept reference xs k.0 k.1) ∙ key_first k.0 (named_proposals m.kept xs) in
    subst (λ us. OwnsUpdate c m.keys.leaf (updates us) (first_own_key (named_proposals m.kept (listed.Reference reference ∷ xs)))) list
    (subst (OwnsUpdate c m.keys.leaf (updates (kept_one k.0 ∷ f.later))) (sym keys) one)

pub used_are_owned : UsedAreOwned
used_are_owned c m i list used good ne h = owned_all c m i good ne list used h
