-- Those whom a commit adds have short KeyPackages.
use Rattle.std.proofs.Common.{◌≡◌, ℕ, ◌+◌, ◌<◌, ◌^◌, List, [], ◌∷◌, length, map, sym, ap, subst, ◌∙◌, arith}
use Rattle.std.specs.List.{AllByRecursion, zip, cons_option}
use Rattle.std.proofs.lemmas.List.{length-map}
use Rattle.mls_leaf.specs.KeyPackage.{key_package}
use Rattle.mls_leaf.specs.declared.key_package.KeyPackage.{KeyPackage}
use Rattle.mls_leaf.specs.declared.proposal.Proposal.{Proposal}
use Rattle.mls_leaf.specs.declared.proposal.Proposal.TheVariants.{Add, Update, Remove, GroupContextExtensions}
use Rattle.mls_model.specs.PublicState.{Used}
use Rattle.mls_model.specs.Proposals.{adds, add_in}
use Rattle.mls_public_group.specs.Short.{IsBelow, IsProposalBelow, AreBelow}
use Rattle.mls_public_group.proofs.ShortLaws.{add_below, proposal_below}
use Rattle.mls_welcome.specs.Joiners.{package_and_leaf_of, AreShortJoiners}
use Rattle.mls_welcome.specs.declared.welcome_message.Joiner.{Joiner}
use Rattle.mls_make.specs.CommitCall.{AreShortUsed}

-- each proposal that is used is short
pub used_short : (used : List Used) → AreShortUsed used → AreBelow (2 ^ 28) used
used_short [] h = tt
used_short (u ∷ us) h = (proposal_below (2 ^ 28) u.proposal h.0.0, used_short us h.1)

-- ---- KeyPackages

module _ (n : ℕ) where
  add_here : (p : Proposal) (ys : List KeyPackage) → IsProposalBelow n p → AllByRecursion (λ (x : KeyPackage). IsBelow n key_package x) ys → AllByRecursion (λ (x : KeyPackage). IsBelow n key_package x) (cons_option (add_in p) ys)
  add_here (Add x) ys b h = (add_below n x b, h)
  add_here (Update x) ys b h = h
  add_here (Remove i) ys b h = h
  add_here (GroupContextExtensions list) ys b h = h

  packages_below : (used : List Used) → AreBelow n used → AllByRecursion (λ (x : KeyPackage). IsBelow n key_package x) (adds used)
  unfolding adds
  packages_below [] h = tt
  packages_below (u ∷ us) h = add_here u.proposal (adds us) h.0 (packages_below us h.1)

  places_below : (xs : List KeyPackage) (is : List ℕ) → AllByRecursion (λ (x : KeyPackage). IsBelow n key_package x) xs → AllByRecursion (λ (x : KeyPackage × ℕ). IsBelow n key_package x.0) (zip xs is)
  places_below [] is h = tt
  places_below (x ∷ xs) [] h = tt
  places_below (x ∷ xs) (i ∷ is) h = (h.0, places_below xs is h.1)

-- ---- joiners

of_places : (js : List Joiner) → AllByRecursion (λ (x : KeyPackage × ℕ). IsBelow (2 ^ 28) key_package x.0) (map package_and_leaf_of js) → AreShortJoiners js
of_places [] h = tt
of_places (j ∷ js) h = (h.0, of_places js h.1)

pub joiners_short : (used : List Used) (added : List ℕ) (js : List Joiner) → AreBelow (2 ^ 28) used → map package_and_leaf_of js ≡ zip (adds used) added → AreShortJoiners js
joiners_short used added js below places =
    of_places js (subst (AllByRecursion (λ (x : KeyPackage × ℕ). IsBelow (2 ^ 28) key_package x.0)) (sym places) (places_below (2 ^ 28) (adds used) added (packages_below (2 ^ 28) used below)))

-- there are as many as places
joiners_counted : (js : List Joiner) (places : List (KeyPackage × ℕ)) → map package_and_leaf_of js ≡ places → length js ≡ length places
joiners_counted js places is = sym (length-map js package_and_leaf_of) ∙ ap length is

pub joiners_fit : (first : ℕ) (js : List Joiner) (places : List (KeyPackage × ℕ)) → map package_and_leaf_of js ≡ places → first + length places < 2 ^ 32 → first + length js < 2 ^ 32
joiners_fit first js places is lt = let same : length js ≡ length places = joiners_counted js places is in omega arith
