-- What nodes that were sent stand for, where they stand for a tree.
use Rattle.std.proofs.Common.{◌≡◌, true, List, Option, Ok}
use Rattle.mls_wire.proofs.CheckLaws.{require_ok}
use Rattle.mls_leaf.specs.declared.node.Node.{Node}
use Rattle.mls_tree_model.specs.Term.{Term, is_full_width}
use Rattle.mls_tree_model.specs.Good.{is_within}
use Rattle.mls_tree_model.specs.Arrays.{sent_term, has_last, alternates, from_nodes}
use Rattle.mls_tree.specs.Tree.{max_leaves}

pub sent_is : (xs : List (Option Node)) (t : Term) → from_nodes max_leaves xs ≡ Ok t → (sent_term xs ≡ t) × (is_full_width (sent_term xs) ≡ true) × (is_within max_leaves (sent_term xs) ≡ true)
unfolding from_nodes
sent_is xs t h =
    let one = require_ok 20 (has_last xs) _ t h in
    let two = require_ok 20 (alternates true xs) _ t one.1 in
    let three = require_ok 20 (is_full_width (sent_term xs)) _ t two.1 in
    let four = require_ok 21 (is_within max_leaves (sent_term xs)) _ t three.1 in
    (cc, three.0, four.0)
