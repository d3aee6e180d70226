-- Whether each member passes a test, by the leaves one after another.
use Rattle.std.proofs.Common.{◌≡◌, ◌+◌, ◌<◌, ◌≤◌, ◌&&◌, ℕ, Bool, true, false, List, Option, None, Some, arith, inl, inr, refl, sym, ap, subst, ◌∙◌}
use Rattle.std.proofs.lemmas.Bool.{and_from, cases_lt}
use Rattle.mls_leaf.specs.declared.leaf.LeafNode.{LeafNode}
use Rattle.mls_suite.specs.Crypto.{Crypto}
use Rattle.mls_checks.specs.Leaf.{is_capable, is_signed}
use Rattle.mls_tree_model.specs.Good.{is_all_capable, is_all_signed}
use Rattle.mls_tree_model.specs.Keys.{all_members, passes}
use Rattle.mls_tree_model.specs.Term.{Term, Leaf, Branch, leaf_at, leaf_of, width}
use Rattle.mls_tree_model.proofs.Equations.{all_members_branch, all_members_leaf, leaf_at_leaf, leaf_at_left, leaf_at_right, leaf_of_in, width_branch, width_leaf}
use Rattle.mls_tree.specs.Rules.{rules_of}
use Rattle.mls_cli_place.specs.TreePlace.{IsFirstFailing, TellsRule, leaf_is_capable, leaf_is_signed}

no_and : (x : Bool) → (x && false) ≡ false
no_and true = refl
no_and false = refl

abbrev Passes : (ℕ → LeafNode → Bool) → ℕ → Term → ℕ → Bool
Passes p b t j = passes p j (leaf_at b t j)

all_pass : (p : ℕ → LeafNode → Bool) (b : ℕ) (t : Term) → ((j : ℕ) → b ≤ j → j < b + width t → Passes p b t j ≡ true) → all_members p b t ≡ true
all_pass p b (Leaf v) h = all_members_leaf p b v ∙ ap (passes p b) (sym (leaf_at_leaf b v b)) ∙ h b (omega arith) (omega (arith, width_leaf v))
all_pass p b (Branch c l r) h =
    let left = all_pass p b l (λ j low lt. ap (passes p j) (sym (leaf_at_left b c l r j lt)) ∙ h j low (omega (arith, lt, width_branch c l r))) in
    let right = all_pass p (b + width l) r (λ j low lt. ap (passes p j) (sym (leaf_at_right b c l r j low)) ∙ h j (omega (arith, low)) (omega (arith, lt, width_branch c l r))) in
    all_members_branch b c l r p ∙ and_from _ _ left right

one_fails : (p : ℕ → LeafNode → Bool) (b : ℕ) (t : Term) (i : ℕ) → b ≤ i → i < b + width t → Passes p b t i ≡ false → all_members p b t ≡ false
one_fails p b (Leaf v) i low lt h =
    let same : i ≡ b = omega (arith, low, lt, width_leaf v) in
    all_members_leaf p b v ∙ subst (λ (k : ℕ). passes p k v ≡ false) same (ap (passes p i) (sym (leaf_at_leaf b v i)) ∙ h)
one_fails p b (Branch c l r) i low lt h =
    elim (cases_lt i (b + width l)) [
      | inl s ↦
          let left = one_fails p b l i low s (ap (passes p i) (sym (leaf_at_left b c l r i s)) ∙ h) in
          all_members_branch b c l r p ∙ ap (λ (x : Bool). x && all_members p (b + width l) r) left
      | inr ge ↦
          let right = one_fails p (b + width l) r i ge (omega (arith, lt, width_branch c l r)) (ap (passes p i) (sym (leaf_at_right b c l r i ge)) ∙ h) in
          all_members_branch b c l r p ∙ ap (λ (x : Bool). all_members p b l && x) right ∙ no_and (all_members p b l)
    ]

told : (p : ℕ → LeafNode → Bool) (t : Term) (found : Option ℕ) → IsFirstFailing (λ i. passes p i (leaf_of t i)) (width t) found → TellsRule (all_members p 0 t) found
told p t None h = all_pass p 0 t (λ j low lt. ap (passes p j) (sym (leaf_of_in t j (omega (arith, lt)))) ∙ h j (omega (arith, lt)))
told p t (Some i) h = one_fails p 0 t i (omega arith) (omega (arith, h.0)) (ap (passes p i) (sym (leaf_of_in t i h.0)) ∙ h.1)

pub signed_told : (c : Crypto) (group : List ℕ) (t : Term) (found : Option ℕ) → IsFirstFailing (leaf_is_signed c group t) (width t) found → TellsRule (is_all_signed (rules_of c group) t) found
unfolding is_all_signed
signed_told c group t found h = told (is_signed c group) t found h

pub capable_told : (c : Crypto) (group : List ℕ) (suite : ℕ) (t : Term) (found : Option ℕ) → c.number ≡ suite → IsFirstFailing (leaf_is_capable suite t) (width t) found → TellsRule (is_all_capable (rules_of c group) t) found
unfolding is_all_capable
capable_told c group suite t found e h = told (λ j v. is_capable c.number v) t found (subst (λ (n : ℕ). IsFirstFailing (leaf_is_capable n t) (width t) found) (sym e) h)
