-- What the checks of a whole tree are called with, and what they show.
use Rattle.std.proofs.Common.{◌≡◌, ℕ, ◌^◌, ◌<◌, ◌≤◌, true, List, length, Option, Result, Ok, Err, OnOk, arith, ap, sym, ◌∙◌}
use Rattle.mls_wire.specs.Checks.{passed, Answers}
use Rattle.mls_leaf.specs.declared.node.Node.{Node}
use Rattle.mls_treemath.specs.Limits.{max_height}
use Rattle.mls_treemath.specs.Paths.{nodes_in}
use Rattle.mls_treemath.proofs.Sizes.{nodes_in-pow, nodes_in_up}
use Rattle.mls_tree_model.specs.Term.{Term, height, is_perfect}
use Rattle.mls_tree_model.specs.Lists.{all_parents, rises_here}
use Rattle.mls_tree_model.specs.Good.{Rules, IsGood, has_good_shape, is_within, tree_checks}
use Rattle.mls_tree_model.proofs.GoodLaws.{good_from_checks}
use Rattle.mls_tree_array.specs.Standing.{Stands}
use Rattle.mls_tree.specs.declared.error.TreeError.{TreeError}
use Rattle.mls_tree.specs.Faults.{number_of}

-- a tree of a height that is allowed has fewer than 2^32 nodes
pub size_fits : (h : ℕ) (xs : List (Option Node)) → Stands h xs → h ≤ max_height → length xs < 2 ^ 32
size_fits h xs stands low =
    let size = stands.size in
    let up : nodes_in h ≤ nodes_in max_height = nodes_in_up h max_height low in
    let top = nodes_in-pow max_height in
    omega arith

-- a tree of good shape that its checks accept is good, as its lists rise
pub good_checked : {A : Type 0} (rules : Rules) (s t : Term) → s ≡ t → (r : Result A TreeError) → Answers (λ _. passed) number_of (tree_checks rules s) r → OnOk r (all_parents rises_here 0 s ≡ true) → is_perfect (height t) t ≡ true → is_within rules.limit t ≡ true → OnOk r (has_good_shape t ≡ true → IsGood rules t)
good_checked rules s t at (Ok v) answer rising perfect within = λ shape.
    good_from_checks rules t perfect (ap (all_parents rises_here 0) (sym at) ∙ rising) shape within (ap (tree_checks rules) (sym at) ∙ answer)
good_checked rules s t at (Err e) answer rising perfect within = tt
