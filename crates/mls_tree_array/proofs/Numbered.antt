-- What stands at the number of a leaf or a node, by its place in the list.
use Rattle.std.proofs.Common.{◌≡◌, ℕ, zero, suc, ◌+◌, ◌-◌, ◌*◌, ◌^◌, ◌<◌, List, length, get_or, take, drop, Option, None, sym, ◌∙◌, ap, inl, inr, arith, length-drop, pow-suc}
use Rattle.std.proofs.lemmas.List.{get_or-take, get_or-drop, get_or_past, length-take-le}
use Rattle.std.proofs.lemmas.Bool.{cases_lt}
use Rattle.mls_leaf.specs.declared.node.Node.{Node}
use Rattle.mls_treemath.specs.Paths.{nodes_in}
use Rattle.mls_treemath.proofs.Sizes.{nodes_in-suc}
use Rattle.mls_tree_model.specs.Term.{width, leaf_at, leaf_of}
use Rattle.mls_tree_model.specs.Arrays.{leaf_in, parent_in, term_of, node_at}
use Rattle.mls_tree_model.proofs.Equations.{leaf_at_leaf, leaf_at_left, leaf_at_right, leaf_of_in, leaf_of_out}
use Rattle.mls_tree_model.proofs.ArrayLaws.{node-in_order}
use Rattle.mls_tree_array.specs.Standing.{Stands}
use Rattle.mls_tree_model.proofs.ArrayLaws.{nodes_in-leaves, term_of-zero, term_of-suc}
use Rattle.mls_tree_model.proofs.ArrayLaws.{width-term_of}

-- ---- leaves

-- leaf k from the first on is in the place 2 k
leaf_in_place : (h b k : ℕ) (xs : List (Option Node)) → length xs ≡ nodes_in h → k < 2 ^ h → leaf_at b (term_of h xs) (b + k) ≡ leaf_in (get_or xs (2 * k) None)
leaf_in_place zero b k xs all low =
    let z : 0 ≡ 2 * k = omega arith in
    ap (λ t. leaf_at b t (b + k)) (term_of-zero xs)
    ∙ leaf_at_leaf b (leaf_in (get_or xs 0 None)) (b + k)
    ∙ ap (λ j. leaf_in (get_or xs j None)) z
leaf_in_place (suc h) b k xs all low =
    let l : List (Option Node) = take (nodes_in h) xs in
    let r : List (Option Node) = drop (suc (nodes_in h)) xs in
    let sum : length xs ≡ nodes_in h + suc (nodes_in h) = all ∙ nodes_in-suc h in
    let half : width (term_of h l) ≡ 2 ^ h = width-term_of h l in
    let nodes : suc (nodes_in h) ≡ 2 * 2 ^ h = nodes_in-leaves h in
    let twice : 2 ^ suc h ≡ 2 * 2 ^ h = omega (arith, pow-suc 2 h) in
    ap (λ t. leaf_at b t (b + k)) (term_of-suc h xs)
    ∙ elim (cases_lt k (2 ^ h)) [
      | inl left ↦
          leaf_at_left b (parent_in (get_or xs (nodes_in h) None)) (term_of h l) (term_of h r) (b + k) (omega arith)
          ∙ leaf_in_place h b k l (length-take-le (nodes_in h) xs (omega arith)) left
          ∙ ap leaf_in (get_or-take (nodes_in h) xs (2 * k) None (omega arith))
      | inr right ↦
          let j : ℕ = k - 2 ^ h in
          let on : b + k ≡ b + width (term_of h l) + j = omega arith in
          let place : suc (nodes_in h) + 2 * j ≡ 2 * k = omega arith in
          leaf_at_right b (parent_in (get_or xs (nodes_in h) None)) (term_of h l) (term_of h r) (b + k) (omega arith)
          ∙ ap (leaf_at (b + width (term_of h l)) (term_of h r)) on
          ∙ leaf_in_place h (b + width (term_of h l)) j r (length-drop (suc (nodes_in h)) xs ∙ omega arith) (omega arith)
          ∙ ap leaf_in (get_or-drop (suc (nodes_in h)) xs (2 * j) None ∙ ap (λ p. get_or xs p None) place)
    ]

pub leaf_of-term_of : (h i : ℕ) (xs : List (Option Node)) → length xs ≡ nodes_in h → leaf_of (term_of h xs) i ≡ leaf_in (get_or xs (2 * i) None)
leaf_of-term_of h i xs all =
    let w : width (term_of h xs) ≡ 2 ^ h = width-term_of h xs in
    let nodes : suc (nodes_in h) ≡ 2 * 2 ^ h = nodes_in-leaves h in
    elim (cases_lt i (2 ^ h)) [
      | inl low ↦
          let zero_on : i ≡ 0 + i = omega arith in
          leaf_of_in (term_of h xs) i (omega arith) ∙ ap (leaf_at 0 (term_of h xs)) zero_on ∙ leaf_in_place h 0 i xs all low
      | inr high ↦ leaf_of_out (term_of h xs) i (omega arith) ∙ sym (ap leaf_in (get_or_past xs (2 * i) None (omega arith)))
    ]

-- ---- nodes

pub node_at-standing : (h x : ℕ) (xs : List (Option Node)) → Stands h xs → node_at 0 (term_of h xs) x ≡ get_or xs x None
node_at-standing h x xs stands =
    let zero_on : x ≡ 2 * 0 + x = omega arith in
    ap (node_at 0 (term_of h xs)) zero_on
    ∙ node-in_order 0 (term_of h xs) x
    ∙ ap (λ ys. get_or ys x None) stands.order
