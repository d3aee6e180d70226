-- How many nodes of a resolution aren't among added leaves, and a bound of it.
use Rattle.std.proofs.Common.{◌≡◌, ℕ, suc, ◌+◌, ◌*◌, ◌%◌, ◌<◌, ◌≤◌, not, Bool, true, false, cond, List, [], ◌∷◌, length, get_or, Some, None, refl, sym, ◌∙◌, ap, arith}
use mir.Val.{bool_byte}
use Rattle.std.specs.Prelude.{nat_le}
use Rattle.std.proofs.lemmas.Bool.{and_parts, leb-true, false_from_ne_true}
use Rattle.mls_leaf.specs.Parent.{rises_from}
use Rattle.mls_leaf.proofs.ParentLaws.{rises_from-cons}
use Rattle.mls_leaf.specs.declared.leaf.LeafNode.{LeafNode}
use Rattle.mls_tree_model.specs.Sets.{has, less, leaf_numbers}
use Rattle.mls_tree_model.proofs.SetLaws.{of_leaf_numbers}
use Rattle.mls_tree_model.specs.Way.{target_count}
use Rattle.mls_tree_model.specs.Term.{Leaf}
use Rattle.mls_tree_model.proofs.Equations.{resolution_blank_leaf, resolution_leaf}

-- ---- how long a rising list is

pub rising_length : (high low : ℕ) (us : List ℕ) → ((k : ℕ) → k < length us → get_or us k 0 < high) → rises_from low us ≡ true → low ≤ high → low + length us ≤ high
rising_length high low [] all rise le = omega arith
rising_length high low (u ∷ us) all rise le =
    let both = and_parts (nat_le low u) (rises_from (u + 1) us) (sym (rises_from-cons low u us) ∙ rise) in
    let above = leb-true low u both.0 in
    let below = all 0 (omega arith) in
    let more = rising_length high (u + 1) us (λ k lt. all (suc k) (omega arith)) both.1 (omega arith) in
    omega arith

-- ---- of a node

one_or_none : (n : ℕ) (t : Bool) → length (cond t (n ∷ []) []) ≡ bool_byte t
one_or_none n true = refl
one_or_none n false = refl

pub one_target : (added : List ℕ) (b : ℕ) (v : LeafNode) → target_count added b (Leaf (Some v)) ≡ bool_byte (not (has (leaf_numbers added) (2 * b)))
one_target added b v =
    ap (λ ys. length (less (leaf_numbers added) ys)) (resolution_leaf b v) ∙ one_or_none (2 * b) (not (has (leaf_numbers added) (2 * b)))

pub no_target : (added : List ℕ) (b : ℕ) → target_count added b (Leaf None) ≡ 0
no_target added b = ap (λ ys. length (less (leaf_numbers added) ys)) (resolution_blank_leaf b)

-- a parent is no leaf
pub odd_off : (d : ℕ) (us : List ℕ) → d % 2 ≡ 1 → has (leaf_numbers us) d ≡ false
odd_off d us odd =
    false_from_ne_true _ (λ h. let g = of_leaf_numbers us d h in let twice : d ≡ 2 * g.0 = g.1 in absurd (omega arith))
