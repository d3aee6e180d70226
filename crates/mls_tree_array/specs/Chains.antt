-- What is told of witnesses and their chains (RFC 9420, 7.9.2).
use Rattle.std.specs.Prelude.{◌≡◌, ℕ, Option}
use Rattle.std.specs.Global.{Vec}
use Rattle.mls_leaf.specs.Parent.{Parent}
use Rattle.mls_leaf.specs.declared.node.Node.{Node}
use Rattle.mls_tree_model.specs.Arrays.{parent_in}
use Rattle.mls_tree_array.specs.Additions.{Adds}
use Rattle.mls_tree_model.specs.LastPath.{witness, witness_of, chain_at}
use Rattle.mls_tree_array.specs.Subtrees.{Subtree, root_number}

-- the witness of a parent on a side was found, by another side
abbrev pub FindsWitness : Parent → Subtree → Subtree → Option ℕ → Type 0
FindsWitness p side other found = found ≡ witness p side.first side.term other.first other.term

-- the witness of what stands over two sides was found
abbrev pub FindsWitnessOf : Option Parent → Subtree → Subtree → Option ℕ → Type 0
FindsWitnessOf c left right found = found ≡ witness_of c left.first left.term right.term

-- the witness of the root that stands in a place over two sides was found
abbrev pub FindsRootWitness : Option Node → Subtree → Subtree → Option ℕ → Type 0
FindsRootWitness root left right found = FindsWitnessOf (parent_in root) left right found

-- the chain of witnesses from node x of a tree was added
abbrev pub AddsChain : Subtree → ℕ → Vec ℕ → Vec ℕ → Type 0
AddsChain t x old new = Adds (chain_at t.first t.term x) old new

-- a list is the chain of witnesses from a tree's root
abbrev pub HasChain : Subtree → Vec ℕ → Type 0
HasChain t list = list.items ≡ chain_at t.first t.term (root_number t.first t.term)
