-- Edits keep a sound tree.
use Rattle.std.proofs.Common.{◌≡◌, ℕ, ◌<◌, ◌≤◌, Bool, true, false, if◌then◌else◌, List, [], ◌∷◌, filter_map, Option, Some, None, IsSome, Result, Ok, refl, subst, arith, leb-true}
use Rattle.std.proofs.lemmas.Bool.{and_from}
use Rattle.std.specs.List.{AllByRecursion, cons_option}
use Rattle.mls_wire.specs.Checks.{Passed, passed}
use Rattle.mls_leaf.specs.declared.leaf.LeafNode.{LeafNode}
use Rattle.mls_leaf.specs.declared.key_package.KeyPackage.{KeyPackage}
use Rattle.mls_leaf.specs.declared.proposal.Proposal.{Proposal}
use Rattle.mls_leaf.specs.declared.proposal.Proposal.TheVariants as proposal
use Rattle.mls_suite.specs.Crypto.{Crypto}
use Rattle.mls_checks.specs.declared.checks.LeafUse.TheVariants as leaf_node_source
use Rattle.mls_checks.specs.Checks.{replacement_checks}
use Rattle.mls_tree_model.specs.Term.{Term, width, leaf_of}
use Rattle.mls_tree_model.specs.Edits.{put, add, place_in, remove}
use Rattle.mls_tree_model.proofs.Equations.{update_is}
use Rattle.mls_tree_model.specs.Good.{Rules, IsSound, AreFit, is_within}
use Rattle.mls_tree_model.proofs.SoundLaws.{sound_of_good, good_of_sound, sound_update, sound_remove, sound_add}
use Rattle.mls_tree.specs.Tree.{max_leaves, member_at}
use Rattle.mls_tree.proofs.FitLaws.{package_fit, replacement_fit}
use Rattle.mls_tree.specs.Rules.{rules_of}
use Rattle.mls_model.specs.PublicState.{PublicState, Used}
use Rattle.mls_model.specs.Proposals.{update_checks, proposal_checks, full_checks, update_in, add_in, updates, updated_leaves, removed_leaves, adds}
use Rattle.mls_model.specs.Commit.{Edits}
use Rattle.mls_theorems.specs.EditLaws.{IsEdited}
use Rattle.mls_theorems.specs.CommitLaws.{AllHavePassed, EditsSound, EditsGood, EditsWithin}
use Rattle.mls_wire.specs.CheckLaws.{required}
use Rattle.mls_wire.proofs.CheckLaws.{bind_ok, then_ok}
use Rattle.mls_theorems.proofs.Inversion.{edited_steps}
use Rattle.mls_tree_model.proofs.TakenLaws.{Taken, taken_at, some_at, taken_remove, left_remove}
use Rattle.mls_theorems.proofs.Folds.{updates_keep, removes_keep, adds_keep}
use Rattle.mls_theorems.proofs.Staying.{none_is, still_here, still_after_updates}

-- ---- leaves that passed their checks

-- an update that passed its checks is fit in its place
pub update_fit : (c : Crypto) (p : PublicState) (i : ℕ) (x : LeafNode) → update_checks c p i x ≡ Ok passed → AreFit (rules_of c p.context.group_id) i x []
unfolding update_checks
update_fit c p i x h =
    let old = bind_ok (member_at p.tree i) _ passed h in
    let replaced = then_ok (replacement_checks c x old.0 leaf_node_source.Update p.context.group_id i) _ passed old.2 in
    replacement_fit c p.context.group_id x old.0 leaf_node_source.Update i [] replaced.0 (and_from (c.key_ok x.encryption_key) _ (required 36 _ passed replaced.1) refl)

-- ---- all proposals of a commit

with_option : {B : Type 0} (Q : B → Type 0) (o : Option B) (ys : List B) → ((y : B) → o ≡ Some y → Q y) → AllByRecursion Q ys → AllByRecursion Q (cons_option o ys)
with_option Q None ys here rest = rest
with_option Q (Some y) ys here rest = (here y refl, rest)

pub all_kept : {A B : Type 0} (f : A → Option B) (P : A → Type 0) (Q : B → Type 0) → ((x : A) (y : B) → f x ≡ Some y → P x → Q y) → (xs : List A) → AllByRecursion P xs → AllByRecursion Q (filter_map f xs)
all_kept f P Q step [] h = tt
all_kept f P Q step (x ∷ xs) h = with_option Q (f x) (filter_map f xs) (λ y e. step x y e h.0) (all_kept f P Q step xs h.1)

-- each proposal has passed its checks: here, or when it came
abbrev pub HasPassedChecks : Crypto → PublicState → Used → Type 0
HasPassedChecks c p u = proposal_checks c p u.sender u.proposal ≡ Ok passed

here_or_before : (full : Bool) (r : Result Passed ℕ) → (if full then r else Ok passed) ≡ Ok passed → (full ≡ false → r ≡ Ok passed) → r ≡ Ok passed
here_or_before true r h before = h
here_or_before false r h before = before refl

pub all_passed : (c : Crypto) (p : PublicState) (used : List Used) → full_checks c p used ≡ Ok passed → AllHavePassed c p used → AllByRecursion (HasPassedChecks c p) used
unfolding full_checks
all_passed c p [] h before = tt
all_passed c p (u ∷ us) h before =
    let parts = then_ok (if u.is_full then proposal_checks c p u.sender u.proposal else Ok passed) (full_checks c p us) passed h in
    (here_or_before u.is_full (proposal_checks c p u.sender u.proposal) parts.0 before.0, all_passed c p us parts.1 before.1)

module _ (c : Crypto) (p : PublicState) where
  update_at : (u : Used) (q : Proposal) (y : ℕ × LeafNode) → update_in u q ≡ Some y → proposal_checks c p u.sender q ≡ Ok passed → AreFit (rules_of c p.context.group_id) y.0 y.1 []
  unfolding proposal_checks
  update_at u (proposal.Add offered) y is h = absurd cc
  update_at u (proposal.Update leaf) y is h =
      let same : (u.sender, leaf) ≡ y = cc in
      subst (λ (z : ℕ × LeafNode). AreFit (rules_of c p.context.group_id) z.0 z.1 []) same (update_fit c p u.sender leaf h)
  update_at u (proposal.Remove leaf) y is h = absurd cc
  update_at u (proposal.GroupContextExtensions list) y is h = absurd cc

  add_at : (u : Used) (q : Proposal) (y : KeyPackage) → add_in q ≡ Some y → proposal_checks c p u.sender q ≡ Ok passed → (j : ℕ) → AreFit (rules_of c p.context.group_id) j y.leaf_node []
  unfolding proposal_checks
  add_at u (proposal.Add offered) y is h j =
      let same : offered ≡ y = cc in
      subst (λ (z : KeyPackage). AreFit (rules_of c p.context.group_id) j z.leaf_node []) same (package_fit c p.context.group_id offered h j)
  add_at u (proposal.Update leaf) y is h j = absurd cc
  add_at u (proposal.Remove leaf) y is h j = absurd cc
  add_at u (proposal.GroupContextExtensions list) y is h j = absurd cc

  updates_fit : (used : List Used) → AllByRecursion (HasPassedChecks c p) used → AllByRecursion (λ (u : ℕ × LeafNode). AreFit (rules_of c p.context.group_id) u.0 u.1 []) (updates used)
  unfolding updates
  updates_fit used h = all_kept (λ (u : Used). update_in u u.proposal) (HasPassedChecks c p) _ (λ u y is passes. update_at u u.proposal y is passes) used h

  adds_fit : (used : List Used) → AllByRecursion (HasPassedChecks c p) used → AllByRecursion (λ (k : KeyPackage). (j : ℕ) → AreFit (rules_of c p.context.group_id) j k.leaf_node []) (adds used)
  unfolding adds
  adds_fit used h = all_kept (λ (u : Used). add_in u.proposal) (HasPassedChecks c p) _ (λ u y is passes. add_at u u.proposal y is passes) used h

-- ---- the edits

module _ (rules : Rules) where
  sound_updated : (t : Term) (u : ℕ × LeafNode) → AreFit rules u.0 u.1 [] → u.0 < width t → IsSound rules t → IsSound rules (put 0 t u.0 (Some u.1))
  sound_updated t u fit inside g = subst (IsSound rules) (update_is t u.0 u.1) (sound_update rules t u.0 u.1 g inside fit)

  record SoundWith (i : ℕ) (x : LeafNode) (t : Term) : Type 0 where
    sound : IsSound rules t
    taken : Taken i x t

  sound_removed : (i : ℕ) (x : LeafNode) (t : Term) (r : ℕ) → (i ≡ r → ⊥) → r < width t → SoundWith i x t → SoundWith i x (remove t r)
  sound_removed i x t r ne inside g =
      record {
        sound = sound_remove rules t r g.sound inside (left_remove t r i x inside ne g.taken);
        taken = taken_remove t r i x inside ne g.taken;
      }

  narrow : (t : Term) → IsSound rules t → width t ≤ rules.limit
  unfolding is_within
  narrow t g = leb-true (width t) rules.limit g.within

  sound_added : rules.limit ≡ max_leaves → (t : Term) (k : KeyPackage) → ((j : ℕ) → AreFit rules j k.leaf_node []) → width (add t k.leaf_node) ≤ max_leaves → IsSound rules t → IsSound rules (add t k.leaf_node)
  sound_added limit t k fit within g =
      sound_add rules t k.leaf_node g (omega arith) (fit (place_in t))

pub sound_edits : (c : Crypto) (p : PublicState) (i : ℕ) (used : List Used) (e : Edits) → IsEdited c p i used e → IsSound (rules_of c p.context.group_id) p.tree → AllHavePassed c p used → IsSome (leaf_of p.tree i) → IsSound (rules_of c p.context.group_id) e.tree
unfolding updated_leaves
sound_edits c p i used e s g before some =
    let rules = rules_of c p.context.group_id in
    let x = some_at (leaf_of p.tree i) some in
    let fine = all_passed c p used s.full before in
    let one = updates_keep (IsSound rules) _ (sound_updated rules) (updates used) (updates_fit c p used fine) p.tree s.after_updates s.updating g in
    let there = still_after_updates i x.0 p.tree (updates used) s.not_updated p.tree s.after_updates s.updating (still_here i x.0 p.tree (taken_at p.tree i x.0 x.1)) in
    let two = removes_keep (SoundWith rules i x.0) _ (sound_removed rules i x.0) (removed_leaves used) (none_is (removed_leaves used) i s.not_removed) s.after_updates s.after_removes s.removing (record { sound = one; taken = there.taken }) in
    adds_keep (IsSound rules) _ (sound_added rules refl) (adds used) (adds_fit c p used fine) s.after_removes e s.adding two.sound

pub edits_sound : EditsSound
edits_sound c p i used e g before some h =
    let s = edited_steps c p i used e h in
    good_of_sound (rules_of c p.context.group_id) e.tree (sound_edits c p i used e s g before some) s.keys s.clients

pub edits_good : EditsGood
edits_good c p i used e g before some h = edits_sound c p i used e (sound_of_good (rules_of c p.context.group_id) p.tree g) before some h

pub edits_within : EditsWithin
edits_within c p i used e g before some h =
    let k = edits_good c p i used e g before some h in
    narrow (rules_of c p.context.group_id) e.tree (sound_of_good (rules_of c p.context.group_id) e.tree k)
