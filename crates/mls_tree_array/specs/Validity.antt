-- What the check of a tree's parent hashes answers (RFC 9420, 7.9.2).
use Rattle.std.specs.Prelude.{◌≡◌, ℕ, Bool, Option}
use Rattle.mls_leaf.specs.Parent.{Parent}
use Rattle.mls_leaf.specs.declared.node.Node.{Node}
use Rattle.mls_tree_model.specs.Term.{Term}
use Rattle.mls_tree_model.specs.Lists.{all_parents}
use Rattle.mls_tree_model.specs.Hashes.{has_witness, is_parent_hash_valid}
use Rattle.mls_tree_array.specs.Subtrees.{Subtree}
use Rattle.mls_tree_array.specs.RightLists.{root_passes}

-- it is told whether a side has a node that ties it to the parent over it and another side
abbrev pub AnswersWitness : Parent → Subtree → Subtree → Bool → Type 0
AnswersWitness p side other answer = answer ≡ has_witness p side.first side.term other.first other.term

-- it is told whether a parent over two sides is parent-hash valid
abbrev pub AnswersValid : Parent → Subtree → Subtree → Bool → Type 0
AnswersValid p left right answer = answer ≡ is_parent_hash_valid left.first p left.term right.term

-- it is told whether the root over two sides is parent-hash valid, where it isn't blank
abbrev pub AnswersRoot : Option Node → Subtree → Subtree → Bool → Type 0
AnswersRoot root left right answer = answer ≡ root_passes is_parent_hash_valid left root right

-- whether each parent of a tree is parent-hash valid
abbrev pub are_parents_valid : ℕ → Term → Bool
are_parents_valid b t = all_parents is_parent_hash_valid b t
