-- Trees that grow.
use Rattle.std.proofs.Common.{◌≡◌, ℕ, suc, ◌+◌, List, ◌++◌, length, replicate, Option, None, sym, ◌∙◌, ap, arith}
use Rattle.mls_leaf.specs.declared.node.Node.{Node}
use Rattle.mls_treemath.specs.Paths.{nodes_in}
use Rattle.mls_tree_model.specs.Edits.{grow}
use Rattle.mls_tree_model.specs.Arrays.{term_of, in_order}
use Rattle.mls_tree_array.specs.Standing.{Stands}
use Rattle.mls_tree_array.proofs.StandingLaws.{in_order-grow}

pub grown : (h n : ℕ) (xs ys : List (Option Node)) → Stands h xs → n ≡ length xs + 1 → ys ≡ xs ++ replicate n None → ys ≡ in_order (grow (term_of h xs))
grown h n xs ys stands many is =
    let count : n ≡ suc (nodes_in h) = let size = stands.size in omega arith in
    is ∙ ap (λ k. xs ++ replicate k None) count ∙ sym (in_order-grow h xs stands)
