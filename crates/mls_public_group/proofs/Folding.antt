-- The updates, removes and adds of a commit, one proposal after the other.
use Rattle.std.proofs.Common.{◌≡◌, ℕ, ◌+◌, ◌<◌, ◌≤◌, ◌==◌, nat_eq, nat_le, Bool, true, false, ◌||◌, List, [], ◌∷◌, ◌++◌, length, get_or, drop, Option, Some, None, Result, Ok, Err, refl, sym, ap, ◌∙◌, arith, append-nil, append_assoc, length-append}
use Rattle.std.proofs.lemmas.Bool.{le-leb, lt-leb}
use Rattle.std.proofs.lemmas.List.{length-map}
use Rattle.std.specs.Prelude.{map, if◌then◌else◌}
use Rattle.std.specs.List.{cons_option, list_any}
use Rattle.mls_wire.specs.Checks.{Passed, passed, ◌>>◌}
use Rattle.mls_suite.specs.Crypto.{Crypto}
use Rattle.mls_tree_model.specs.Sets.{has, same_bytes, count, is_distinct}
use Rattle.mls_wire.specs.Reading.{◌>>=◌}
use Rattle.mls_wire.specs.Laws.{ok_is}
use Rattle.mls_leaf.specs.declared.extension.Extension.{Extension}
use Rattle.mls_leaf.specs.declared.leaf.LeafNode.{LeafNode}
use Rattle.mls_leaf.specs.declared.key_package.KeyPackage.{KeyPackage}
use Rattle.mls_leaf.specs.declared.proposal.Proposal.{Proposal}
use Rattle.mls_leaf.specs.declared.proposal.Proposal.TheVariants.{Add, Update, Remove, GroupContextExtensions}
use Rattle.mls_tree_model.specs.Term.{Term}
use Rattle.mls_tree.specs.Tree.{add_answer, update_answer, remove_answer}
use Rattle.mls_model.specs.PublicState.{PublicState, Used}
use Rattle.mls_model.specs.Proposals.{update_in, remove_in, add_in, extensions_in, updates, updated_leaves, removed_leaves, adds, extension_lists, first_list, extensions_after, package_reference, proposal_checks, full_checks}
use Rattle.mls_model.specs.Commit.{Edits, apply_updates, apply_removes, apply_adds}
use Rattle.mls_public_group.specs.ProposalList.{proposal_list_checks, edit_tree, prepend_added}
use Rattle.mls_public_group.proofs.Rest.{here, over}

-- ---- what one proposal is

no_update : (u : Used) (p : Proposal) → ((x : LeafNode) → p ≡ Update x → ⊥) → update_in u p ≡ None
no_update u (Add x) other = refl
no_update u (Update x) other = absurd (other x refl)
no_update u (Remove i) other = refl
no_update u (GroupContextExtensions list) other = refl

no_remove : (p : Proposal) → ((i : ℕ) → p ≡ Remove i → ⊥) → remove_in p ≡ None
no_remove (Add x) other = refl
no_remove (Update x) other = refl
no_remove (Remove i) other = absurd (other i refl)
no_remove (GroupContextExtensions list) other = refl

no_add : (p : Proposal) → ((x : KeyPackage) → p ≡ Add x → ⊥) → add_in p ≡ None
no_add (Add x) other = absurd (other x refl)
no_add (Update x) other = refl
no_add (Remove i) other = refl
no_add (GroupContextExtensions list) other = refl

no_list : (p : Proposal) → ((list : List Extension) → p ≡ GroupContextExtensions list → ⊥) → extensions_in p ≡ None
no_list (Add x) other = refl
no_list (Update x) other = refl
no_list (Remove i) other = refl
no_list (GroupContextExtensions list) other = absurd (other list refl)

pub update_is : (u : Used) (x : LeafNode) → u.proposal ≡ Update x → updates (u ∷ []) ≡ (u.sender, x) ∷ []
unfolding updates
update_is u x e = rw e refl

pub update_isnt : (u : Used) → ((x : LeafNode) → u.proposal ≡ Update x → ⊥) → updates (u ∷ []) ≡ []
unfolding updates
update_isnt u other = rw (no_update u u.proposal other) refl

pub updated_is : (u : Used) (x : LeafNode) → u.proposal ≡ Update x → updated_leaves (u ∷ []) ≡ u.sender ∷ []
unfolding updated_leaves
updated_is u x e = rw (update_is u x e) refl

pub updated_isnt : (u : Used) → ((x : LeafNode) → u.proposal ≡ Update x → ⊥) → updated_leaves (u ∷ []) ≡ []
unfolding updated_leaves
updated_isnt u other = rw (update_isnt u other) refl

pub removed_is : (u : Used) (i : ℕ) → u.proposal ≡ Remove i → removed_leaves (u ∷ []) ≡ i ∷ []
unfolding removed_leaves
removed_is u i e = rw e refl

pub removed_isnt : (u : Used) → ((i : ℕ) → u.proposal ≡ Remove i → ⊥) → removed_leaves (u ∷ []) ≡ []
unfolding removed_leaves
removed_isnt u other = rw (no_remove u.proposal other) refl

pub add_is : (u : Used) (x : KeyPackage) → u.proposal ≡ Add x → adds (u ∷ []) ≡ x ∷ []
unfolding adds
add_is u x e = rw e refl

pub add_isnt : (u : Used) → ((x : KeyPackage) → u.proposal ≡ Add x → ⊥) → adds (u ∷ []) ≡ []
unfolding adds
add_isnt u other = rw (no_add u.proposal other) refl

pub list_is : (u : Used) (list : List Extension) → u.proposal ≡ GroupContextExtensions list → extension_lists (u ∷ []) ≡ list ∷ []
unfolding extension_lists
list_is u list e = rw e refl

pub list_isnt : (u : Used) → ((list : List Extension) → u.proposal ≡ GroupContextExtensions list → ⊥) → extension_lists (u ∷ []) ≡ []
unfolding extension_lists
list_isnt u other = rw (no_list u.proposal other) refl

-- ---- the first of several, and the others

one_more : {A : Type 0} (o : Option A) (ys : List A) → cons_option o ys ≡ cons_option o [] ++ ys
one_more None ys = refl
one_more (Some y) ys = refl

pub updates_split : (u : Used) (us : List Used) → updates (u ∷ us) ≡ updates (u ∷ []) ++ updates us
unfolding updates
updates_split u us = one_more (update_in u u.proposal) _

firsts : (o : Option (ℕ × LeafNode)) (ys : List (ℕ × LeafNode)) → map (λ (v : ℕ × LeafNode). v.0) (cons_option o ys) ≡ map (λ (v : ℕ × LeafNode). v.0) (cons_option o []) ++ map (λ (v : ℕ × LeafNode). v.0) ys
firsts None ys = refl
firsts (Some y) ys = refl

pub updated_split : (u : Used) (us : List Used) → updated_leaves (u ∷ us) ≡ updated_leaves (u ∷ []) ++ updated_leaves us
unfolding updated_leaves updates
updated_split u us = firsts (update_in u u.proposal) _

pub removed_split : (u : Used) (us : List Used) → removed_leaves (u ∷ us) ≡ removed_leaves (u ∷ []) ++ removed_leaves us
unfolding removed_leaves
removed_split u us = one_more (remove_in u.proposal) _

pub adds_split : (u : Used) (us : List Used) → adds (u ∷ us) ≡ adds (u ∷ []) ++ adds us
unfolding adds
adds_split u us = one_more (add_in u.proposal) _

pub lists_split : (u : Used) (us : List Used) → extension_lists (u ∷ us) ≡ extension_lists (u ∷ []) ++ extension_lists us
unfolding extension_lists
lists_split u us = one_more (extensions_in u.proposal) _

references : (o : Option KeyPackage) (ys : List KeyPackage) → map package_reference (cons_option o ys) ≡ map package_reference (cons_option o []) ++ map package_reference ys
references None ys = refl
references (Some y) ys = refl

pub references_split : (u : Used) (us : List Used) → map package_reference (adds (u ∷ us)) ≡ map package_reference (adds (u ∷ [])) ++ map package_reference (adds us)
unfolding adds
references_split u us = references (add_in u.proposal) _

module _ {A : Type 0} (f : List Used → List A) where
  -- one more is gathered, the others are still to come
  pub gathered : ((u : Used) (us : List Used) → f (u ∷ us) ≡ f (u ∷ []) ++ f us) → (us : List Used) (k : ℕ) (u : Used) (old new whole : List A) → k < length us → u ≡ get_or us k u → new ≡ old ++ f (u ∷ []) → old ++ f (drop k us) ≡ whole → new ++ f (drop (k + 1) us) ≡ whole
  gathered parts us k u old new whole lt at is so_far =
      ap (λ ys. ys ++ f (drop (k + 1) us)) is ∙ append_assoc old (f (u ∷ [])) (f (drop (k + 1) us))
      ∙ ap (λ ys. old ++ ys) (sym (parts u (drop (k + 1) us)) ∙ sym (ap f (here us k u lt at))) ∙ so_far

  pub all_gathered : f [] ≡ [] → (us : List Used) (k : ℕ) (xs whole : List A) → length us ≤ k → xs ++ f (drop k us) ≡ whole → xs ≡ whole
  all_gathered none us k xs whole le so_far =
      sym (append-nil xs) ∙ ap (λ ys. xs ++ ys) (sym none ∙ sym (ap f (over us k le))) ∙ so_far

pub updated_none : updated_leaves [] ≡ []
unfolding updated_leaves updates
updated_none = refl

pub removed_none : removed_leaves [] ≡ []
unfolding removed_leaves
removed_none = refl

pub references_none : map package_reference (adds []) ≡ []
unfolding adds
references_none = refl

-- what one proposal adds to a list of leaves or references
module _ (u v : Used) (seen : v ≡ u) where
  pub updated_one : (old new : List ℕ) (x : LeafNode) → v.proposal ≡ Update x → new ≡ old ++ v.sender ∷ [] → new ≡ old ++ updated_leaves (u ∷ [])
  updated_one old new x is pushed = pushed ∙ ap (λ ys. old ++ ys) (sym (updated_is v x is) ∙ ap (λ (w : Used). updated_leaves (w ∷ [])) seen)

  pub updated_same : (old : List ℕ) → ((x : LeafNode) → v.proposal ≡ Update x → ⊥) → old ≡ old ++ updated_leaves (u ∷ [])
  updated_same old other = sym (append-nil old) ∙ ap (λ ys. old ++ ys) (sym (updated_isnt v other) ∙ ap (λ (w : Used). updated_leaves (w ∷ [])) seen)

  pub removed_one : (old new : List ℕ) (i : ℕ) → v.proposal ≡ Remove i → new ≡ old ++ i ∷ [] → new ≡ old ++ removed_leaves (u ∷ [])
  removed_one old new i is pushed = pushed ∙ ap (λ ys. old ++ ys) (sym (removed_is v i is) ∙ ap (λ (w : Used). removed_leaves (w ∷ [])) seen)

  pub removed_same : (old : List ℕ) → ((i : ℕ) → v.proposal ≡ Remove i → ⊥) → old ≡ old ++ removed_leaves (u ∷ [])
  removed_same old other = sym (append-nil old) ∙ ap (λ ys. old ++ ys) (sym (removed_isnt v other) ∙ ap (λ (w : Used). removed_leaves (w ∷ [])) seen)

  pub reference_one : (old new : List (List ℕ)) (x : KeyPackage) → v.proposal ≡ Add x → new ≡ old ++ package_reference x ∷ [] → new ≡ old ++ map package_reference (adds (u ∷ []))
  reference_one old new x is pushed = pushed ∙ ap (λ ys. old ++ ys) (sym (ap (map package_reference) (add_is v x is)) ∙ ap (λ (w : Used). map package_reference (adds (w ∷ []))) seen)

  pub reference_same : (old : List (List ℕ)) → ((x : KeyPackage) → v.proposal ≡ Add x → ⊥) → old ≡ old ++ map package_reference (adds (u ∷ []))
  reference_same old other = sym (append-nil old) ∙ ap (λ ys. old ++ ys) (sym (ap (map package_reference) (add_isnt v other)) ∙ ap (λ (w : Used). map package_reference (adds (w ∷ []))) seen)

-- ---- the checks of those given in full

module _ (c : Crypto) (p : PublicState) (u : Used) (us : List Used) where
  pub full_more : (if u.is_full then proposal_checks c p u.sender u.proposal else Ok passed) ≡ Ok passed → full_checks c p (u ∷ us) ≡ full_checks c p us
  unfolding full_checks
  full_more h = ap (λ (r : Result Passed ℕ). r >> full_checks c p us) h

  pub full_fail : (n : ℕ) → (if u.is_full then proposal_checks c p u.sender u.proposal else Ok passed) ≡ Err n → full_checks c p (u ∷ us) ≡ Err n
  unfolding full_checks
  full_fail n h = ap (λ (r : Result Passed ℕ). r >> full_checks c p us) h

pub full_end : (c : Crypto) (p : PublicState) → full_checks c p [] ≡ Ok passed
unfolding full_checks
full_end c p = refl

-- ---- the committer

-- what a search for a number answers
pub has_any : (xs : List ℕ) (x : ℕ) → list_any (λ y. y == x) xs ≡ has xs x
unfolding has
has_any [] x = refl
has_any (y ∷ ys) x = ap (λ b. (y == x) || b) (has_any ys x)

has_found : (xs ys : List ℕ) (x : ℕ) (found answer : Bool) → ys ≡ xs → found ≡ list_any (λ y. y == x) ys → found ≡ answer → has xs x ≡ answer
has_found xs ys x found answer same is told = sym (is ∙ ap (list_any (λ y. y == x)) same ∙ has_any xs x) ∙ told

module _ (committer : ℕ) (used : List Used) (ys : List ℕ) (found : Bool) (same : ys ≡ updated_leaves used) (is : found ≡ list_any (λ y. y == committer) ys) where
  pub apart_updated : found ≡ true → proposal_list_checks committer used ≡ Err 61
  unfolding proposal_list_checks
  apart_updated told = rw (has_found (updated_leaves used) ys committer found true same is told) refl

  module _ (no : found ≡ false) (zs : List ℕ) (other : Bool) (alike : zs ≡ removed_leaves used) (tells : other ≡ list_any (λ y. y == committer) zs) where
    pub apart_removed : other ≡ true → proposal_list_checks committer used ≡ Err 62
    unfolding proposal_list_checks
    apart_removed told = rw (has_found (updated_leaves used) ys committer found false same is no, has_found (removed_leaves used) zs committer other true alike tells told) refl

    module _ (nor : other ≡ false) (all : List ℕ) (r : Bool) (joined : all ≡ ys ++ zs) (decides : r ≡ is_distinct nat_eq all) where
      differ_is : is_distinct nat_eq (updated_leaves used ++ removed_leaves used) ≡ r
      differ_is = sym (decides ∙ ap (is_distinct nat_eq) (joined ∙ ap (λ xs. xs ++ zs) same ∙ ap (λ xs. updated_leaves used ++ xs) alike))

      pub apart_twice : r ≡ false → proposal_list_checks committer used ≡ Err 63
      unfolding proposal_list_checks
      apart_twice told = rw (has_found (updated_leaves used) ys committer found false same is no, has_found (removed_leaves used) zs committer other false alike tells nor, differ_is, told) refl

      module _ (differ : r ≡ true) (n : ℕ) (counted : n ≡ length (extension_lists used)) where
        few_is : (b : Bool) → nat_le n 1 ≡ b → nat_le (length (extension_lists used)) 1 ≡ b
        few_is b h = ap (λ (k : ℕ). nat_le k 1) (sym counted) ∙ h

        pub apart_second : 1 < n → proposal_list_checks committer used ≡ Err 68
        unfolding proposal_list_checks
        apart_second more = rw (has_found (updated_leaves used) ys committer found false same is no, has_found (removed_leaves used) zs committer other false alike tells nor, differ_is, differ, few_is false (lt-leb n 1 more)) refl

        pub apart_fine : n ≤ 1 → proposal_list_checks committer used ≡ Ok passed
        unfolding proposal_list_checks
        apart_fine few = rw (has_found (updated_leaves used) ys committer found false same is no, has_found (removed_leaves used) zs committer other false alike tells nor, differ_is, differ, few_is true (le-leb n 1 few)) refl

-- ---- lists of extensions

-- what one proposal has
module _ (u v : Used) (seen : v ≡ u) where
  pub one_list : (list : List Extension) → v.proposal ≡ GroupContextExtensions list → length (extension_lists (u ∷ [])) ≡ 1
  one_list list is = ap (λ (w : Used). length (extension_lists (w ∷ []))) (sym seen) ∙ ap length (list_is v list is)

  pub no_lists : ((list : List Extension) → v.proposal ≡ GroupContextExtensions list → ⊥) → length (extension_lists (u ∷ [])) ≡ 0
  no_lists other = ap (λ (w : Used). length (extension_lists (w ∷ []))) (sym seen) ∙ ap length (list_isnt v other)

-- those that are counted, and those to come
pub lists_more : (us : List Used) (k : ℕ) (u : Used) → k < length us → u ≡ get_or us k u → length (extension_lists (drop k us)) ≡ length (extension_lists (u ∷ [])) + length (extension_lists (drop (k + 1) us))
lists_more us k u lt at =
    ap (λ (l : List Used). length (extension_lists l)) (here us k u lt at)
    ∙ ap length (lists_split u (drop (k + 1) us))
    ∙ length-append (extension_lists (u ∷ [])) (extension_lists (drop (k + 1) us))

lists_none : length (extension_lists []) ≡ 0
unfolding extension_lists
lists_none = refl

pub lists_over : (us : List Used) (k : ℕ) → length us ≤ k → length (extension_lists (drop k us)) ≡ 0
lists_over us k le = ap (λ (l : List Used). length (extension_lists l)) (over us k le) ∙ lists_none

first_of : (old : List Extension) (o : Option (List Extension)) (list : List Extension) (lists : List (List Extension)) → o ≡ Some list → first_list old (cons_option o lists) ≡ list
first_of old o list lists is = rw is refl

later_of : (old : List Extension) (o : Option (List Extension)) (lists : List (List Extension)) → o ≡ None → first_list old (cons_option o lists) ≡ first_list old lists
later_of old o lists is = rw is refl

listed : (p : Proposal) (list : List Extension) → p ≡ GroupContextExtensions list → extensions_in p ≡ Some list
listed p list is = rw is refl

module _ (old : List Extension) (us : List Used) (k : ℕ) (u v : Used) (lt : k < length us) (at : u ≡ get_or us k u) (seen : v ≡ u) where
  from_here : extensions_after old (drop k us) ≡ extensions_after old (v ∷ drop (k + 1) us)
  from_here = ap (extensions_after old) (here us k u lt at) ∙ ap (λ (w : Used). extensions_after old (w ∷ drop (k + 1) us)) (sym seen)

  -- the first list that is found
  pub list_found : (list : List Extension) → v.proposal ≡ GroupContextExtensions list → extensions_after old (drop k us) ≡ list
  unfolding extensions_after extension_lists
  list_found list is = from_here ∙ first_of old (extensions_in v.proposal) list (extension_lists (drop (k + 1) us)) (listed v.proposal list is)

  pub list_passed : ((list : List Extension) → v.proposal ≡ GroupContextExtensions list → ⊥) → extensions_after old (drop k us) ≡ extensions_after old (drop (k + 1) us)
  unfolding extensions_after extension_lists
  list_passed other = from_here ∙ later_of old (extensions_in v.proposal) (extension_lists (drop (k + 1) us)) (no_list v.proposal other)

pub extended_over : (old : List Extension) (us : List Used) (k : ℕ) → length us ≤ k → extensions_after old (drop k us) ≡ old
unfolding extensions_after extension_lists
extended_over old us k le = ap (extensions_after old) (over us k le)

-- ---- updates

update_whole : (r : Result Term ℕ) → (r >>= λ x. apply_updates x []) ≡ r
unfolding apply_updates
update_whole (Ok x) = refl
update_whole (Err n) = refl

update_alone : (t : Term) (n : ℕ) (x : LeafNode) → apply_updates t ((n, x) ∷ []) ≡ update_answer t n x
unfolding apply_updates
update_alone t n x = update_whole (update_answer t n x)

-- of a proposal u whose parts v shows
pub update_one : (t : Term) (u v : Used) (r : Result Term ℕ) (x y : LeafNode) → v ≡ u → v.proposal ≡ Update x → y ≡ x → update_answer t v.sender y ≡ r → apply_updates t (updates (u ∷ [])) ≡ r
update_one t u v r x y seen is same done =
    sym (ap (λ (w : Used). apply_updates t (updates (w ∷ []))) seen)
    ∙ ap (apply_updates t) (update_is v x is)
    ∙ update_alone t v.sender x
    ∙ sym (ap (update_answer t v.sender) same)
    ∙ done

pub update_none : (t : Term) (u v : Used) → v ≡ u → ((x : LeafNode) → v.proposal ≡ Update x → ⊥) → apply_updates t (updates (u ∷ [])) ≡ Ok t
unfolding apply_updates
update_none t u v seen other = sym (ap (λ (w : Used). apply_updates t (updates (w ∷ []))) seen) ∙ ap (apply_updates t) (update_isnt v other)

after_update : (r : Result Term ℕ) (s : Term) (ys : List (ℕ × LeafNode)) → (r >>= λ x. apply_updates x []) ≡ Ok s → (r >>= λ x. apply_updates x ys) ≡ apply_updates s ys
unfolding apply_updates
after_update (Ok x) s ys h = ap (λ y. apply_updates y ys) (ok_is x s h)
after_update (Err n) s ys h = cc

refused_update : (r : Result Term ℕ) (n : ℕ) (ys : List (ℕ × LeafNode)) → (r >>= λ x. apply_updates x []) ≡ Err n → (r >>= λ x. apply_updates x ys) ≡ Err n
unfolding apply_updates
refused_update (Ok x) n ys h = cc
refused_update (Err m) n ys h = cc

update_then : (t : Term) (o : Option (ℕ × LeafNode)) (s : Term) (ys : List (ℕ × LeafNode)) → apply_updates t (cons_option o []) ≡ Ok s → apply_updates t (cons_option o ys) ≡ apply_updates s ys
unfolding apply_updates
update_then t None s ys h = ap (λ y. apply_updates y ys) (ok_is t s h)
update_then t (Some v) s ys h = after_update (update_answer t v.0 v.1) s ys h

update_stops : (t : Term) (o : Option (ℕ × LeafNode)) (n : ℕ) (ys : List (ℕ × LeafNode)) → apply_updates t (cons_option o []) ≡ Err n → apply_updates t (cons_option o ys) ≡ Err n
unfolding apply_updates
update_stops t None n ys h = cc
update_stops t (Some v) n ys h = refused_update (update_answer t v.0 v.1) n ys h

module _ (t : Term) (u : Used) (us : List Used) where
  pub updates_more : (s : Term) → apply_updates t (updates (u ∷ [])) ≡ Ok s → apply_updates t (updates (u ∷ us)) ≡ apply_updates s (updates us)
  unfolding updates
  updates_more s h = update_then t (update_in u u.proposal) s _ h

  pub updates_fail : (n : ℕ) → apply_updates t (updates (u ∷ [])) ≡ Err n → apply_updates t (updates (u ∷ us)) ≡ Err n
  unfolding updates
  updates_fail n h = update_stops t (update_in u u.proposal) n _ h

pub updates_end : (t : Term) → apply_updates t (updates []) ≡ Ok t
unfolding apply_updates updates
updates_end t = refl

-- ---- removes

module _ (t : Term) (i : ℕ) (is : List ℕ) where
  pub removes_more : (s : Term) → remove_answer t i ≡ Ok s → apply_removes t (i ∷ is) ≡ apply_removes s is
  unfolding apply_removes
  removes_more s h = rw h refl

  pub removes_fail : (n : ℕ) → remove_answer t i ≡ Err n → apply_removes t (i ∷ is) ≡ Err n
  unfolding apply_removes
  removes_fail n h = rw h refl

pub removes_end : (t : Term) → apply_removes t [] ≡ Ok t
unfolding apply_removes
removes_end t = refl

-- ---- adds

abbrev made : Term → List ℕ → Edits
made t added = record { tree = t; added = added }

-- no proposals leave the tree
pub untouched : (t u : Term) (added : List ℕ) → u ≡ t → added ≡ [] → edit_tree t [] ≡ Ok (made u added)
unfolding edit_tree apply_updates updates apply_removes removed_leaves apply_adds adds
untouched t u added same none = sym (ap (λ (v : Term). Ok (made v added)) same ∙ ap (λ (xs : List ℕ). Ok (made t xs)) none)

-- an add before those that follow
abbrev before : ℕ → Result Edits ℕ → Result Edits ℕ
before i r = r >>= λ later. Ok (made later.tree (i ∷ later.added))

regrouped : (front : List ℕ) (i : ℕ) (r : Result Edits ℕ) → prepend_added front (before i r) ≡ prepend_added (front ++ i ∷ []) r
regrouped front i (Ok e) = ap (λ xs. Ok (made e.tree xs)) (sym (append_assoc front (i ∷ []) e.added))
regrouped front i (Err n) = refl

again : (front : List ℕ) (t : Term) (rest : List ℕ) (s : Term) (ys : List KeyPackage) → made t front ≡ made s rest → prepend_added front (apply_adds t ys) ≡ prepend_added rest (apply_adds s ys)
again front t rest s ys e = ap (λ (m : Edits). prepend_added m.added (apply_adds m.tree ys)) e

after_add : (front : List ℕ) (r : Result (ℕ × Term) ℕ) (s : Term) (rest : List ℕ) (ys : List KeyPackage)
    → prepend_added front (r >>= λ first. before first.0 (apply_adds first.1 [])) ≡ Ok (made s rest) → prepend_added front (r >>= λ first. before first.0 (apply_adds first.1 ys)) ≡ prepend_added rest (apply_adds s ys)
unfolding apply_adds
after_add front (Ok first) s rest ys h =
    regrouped front first.0 (apply_adds first.1 ys) ∙ again (front ++ first.0 ∷ []) first.1 rest s ys (ok_is (made first.1 (front ++ first.0 ∷ [])) (made s rest) h)
after_add front (Err n) s rest ys h = cc

refused_add : (front : List ℕ) (r : Result (ℕ × Term) ℕ) (n : ℕ) (ys : List KeyPackage)
    → prepend_added front (r >>= λ first. before first.0 (apply_adds first.1 [])) ≡ Err n → prepend_added front (r >>= λ first. before first.0 (apply_adds first.1 ys)) ≡ Err n
unfolding apply_adds
refused_add front (Ok first) n ys h = cc
refused_add front (Err m) n ys h = cc

add_then : (front : List ℕ) (t : Term) (o : Option KeyPackage) (s : Term) (rest : List ℕ) (ys : List KeyPackage) → prepend_added front (apply_adds t (cons_option o [])) ≡ Ok (made s rest) → prepend_added front (apply_adds t (cons_option o ys)) ≡ prepend_added rest (apply_adds s ys)
unfolding apply_adds
add_then front t None s rest ys h =
    again front t rest s ys (sym (ap (made t) (append-nil front)) ∙ ok_is (made t (front ++ [])) (made s rest) h)
add_then front t (Some x) s rest ys h = after_add front (add_answer t x.leaf_node) s rest ys h

add_stops : (front : List ℕ) (t : Term) (o : Option KeyPackage) (n : ℕ) (ys : List KeyPackage) → prepend_added front (apply_adds t (cons_option o [])) ≡ Err n → prepend_added front (apply_adds t (cons_option o ys)) ≡ Err n
unfolding apply_adds
add_stops front t None n ys h = cc
add_stops front t (Some x) n ys h = refused_add front (add_answer t x.leaf_node) n ys h

add_alone : (front : List ℕ) (r : Result (ℕ × Term) ℕ) → Result Edits ℕ
add_alone front r = r >>= λ first. Ok (made first.1 (front ++ first.0 ∷ []))

add_whole : (front : List ℕ) (r : Result (ℕ × Term) ℕ) → prepend_added front (r >>= λ first. before first.0 (apply_adds first.1 [])) ≡ add_alone front r
unfolding apply_adds add_alone
add_whole front (Ok first) = refl
add_whole front (Err n) = refl

added_alone : (t : Term) (front : List ℕ) (x : LeafNode) (r : Result (ℕ × Term) ℕ) (k : KeyPackage) → x ≡ k.leaf_node → add_answer t x ≡ r → prepend_added front (apply_adds t (k ∷ [])) ≡ add_alone front r
unfolding apply_adds
added_alone t front x r k same done = add_whole front (add_answer t k.leaf_node) ∙ ap (add_alone front) (sym (ap (add_answer t) same) ∙ done)

module _ (t : Term) (u v : Used) (front : List ℕ) (seen : v ≡ u) where
  pub add_done : (x : KeyPackage) (y : LeafNode) (i : ℕ) (s : Term) → v.proposal ≡ Add x → y ≡ x.leaf_node → add_answer t y ≡ Ok (i, s) → prepend_added front (apply_adds t (adds (u ∷ []))) ≡ Ok (made s (front ++ i ∷ []))
  unfolding add_alone
  add_done x y i s is same done =
      sym (ap (λ (w : Used). prepend_added front (apply_adds t (adds (w ∷ [])))) seen)
      ∙ ap (λ xs. prepend_added front (apply_adds t xs)) (add_is v x is) ∙ added_alone t front y (Ok (i, s)) x same done

  pub add_refused : (x : KeyPackage) (y : LeafNode) (n : ℕ) → v.proposal ≡ Add x → y ≡ x.leaf_node → add_answer t y ≡ Err n → prepend_added front (apply_adds t (adds (u ∷ []))) ≡ Err n
  unfolding add_alone
  add_refused x y n is same done =
      sym (ap (λ (w : Used). prepend_added front (apply_adds t (adds (w ∷ [])))) seen)
      ∙ ap (λ xs. prepend_added front (apply_adds t xs)) (add_is v x is) ∙ added_alone t front y (Err n) x same done

  pub add_none : ((x : KeyPackage) → v.proposal ≡ Add x → ⊥) → prepend_added front (apply_adds t (adds (u ∷ []))) ≡ Ok (made t front)
  unfolding apply_adds
  add_none other =
      sym (ap (λ (w : Used). prepend_added front (apply_adds t (adds (w ∷ [])))) seen)
      ∙ ap (λ xs. prepend_added front (apply_adds t xs)) (add_isnt v other) ∙ ap (λ xs. Ok (made t xs)) (append-nil front)

module _ (t : Term) (front : List ℕ) (u : Used) (us : List Used) where
  pub adds_more : (s : Term) (rest : List ℕ) → prepend_added front (apply_adds t (adds (u ∷ []))) ≡ Ok (made s rest) → prepend_added front (apply_adds t (adds (u ∷ us))) ≡ prepend_added rest (apply_adds s (adds us))
  unfolding adds
  adds_more s rest h = add_then front t (add_in u.proposal) s rest _ h

  pub adds_fail : (n : ℕ) → prepend_added front (apply_adds t (adds (u ∷ []))) ≡ Err n → prepend_added front (apply_adds t (adds (u ∷ us))) ≡ Err n
  unfolding adds
  adds_fail n h = add_stops front t (add_in u.proposal) n _ h

pub adds_end : (t : Term) (front : List ℕ) → prepend_added front (apply_adds t (adds [])) ≡ Ok (made t front)
unfolding apply_adds adds
adds_end t front = ap (λ xs. Ok (made t xs)) (append-nil front)

-- with nothing in front
pub adds_alone : (r : Result Edits ℕ) → prepend_added [] r ≡ r
adds_alone (Ok e) = refl
adds_alone (Err n) = refl

-- ---- how many KeyPackages are added

-- what one proposal adds
module _ (u v : Used) (seen : v ≡ u) where
  pub one_add : (x : KeyPackage) → v.proposal ≡ Add x → length (adds (u ∷ [])) ≡ 1
  one_add x is = ap (λ (w : Used). length (adds (w ∷ []))) (sym seen) ∙ ap length (add_is v x is)

  pub no_adds : ((x : KeyPackage) → v.proposal ≡ Add x → ⊥) → length (adds (u ∷ [])) ≡ 0
  no_adds other = ap (λ (w : Used). length (adds (w ∷ []))) (sym seen) ∙ ap length (add_isnt v other)

-- those that are counted, and those to come
pub adds_from : (us : List Used) (k : ℕ) (u : Used) → k < length us → u ≡ get_or us k u → length (adds (drop k us)) ≡ length (adds (u ∷ [])) + length (adds (drop (k + 1) us))
adds_from us k u lt at =
    ap (λ (l : List Used). length (adds l)) (here us k u lt at)
    ∙ ap length (adds_split u (drop (k + 1) us))
    ∙ length-append (adds (u ∷ [])) (adds (drop (k + 1) us))

adds_none : length (adds []) ≡ 0
unfolding adds
adds_none = refl

pub adds_over : (us : List Used) (k : ℕ) → length us ≤ k → length (adds (drop k us)) ≡ 0
adds_over us k le = ap (λ (l : List Used). length (adds l)) (over us k le) ∙ adds_none

distinct_below : (xs : List (List ℕ)) → length xs < 2 → is_distinct same_bytes xs ≡ true
unfolding is_distinct count
distinct_below [] lt = refl
distinct_below (x ∷ []) lt = refl
distinct_below (x ∷ (y ∷ ys)) lt = absurd (omega (arith, lt))

-- fewer than two have no reference twice
pub few_distinct : (used : List Used) (n : ℕ) → n ≡ length (adds used) → n < 2 → is_distinct same_bytes (map package_reference (adds used)) ≡ true
few_distinct used n counted few = distinct_below (map package_reference (adds used)) (omega (arith, length-map (adds used) package_reference, counted, few))
