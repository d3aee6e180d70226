-- What is seen of the nodes of a tree while they are read past, one after the other.
use Rattle.std.specs.Prelude.{◌≡◌, ◌≢◌, ℕ, ◌+◌, ◌-◌, ◌^◌, ◌≤◌, nat_lt, ◌==◌, true, false, not, ◌&&◌, if◌then◌else◌, List, [], ◌∷◌, length, min, Option, Some, None, Result, Ok, Err}
use Rattle.mls_leaf.specs.Faults.{Spells}
use Rattle.mls_leaf.specs.Limits.{input_limit}
use Rattle.mls_leaf.specs.Node.{node}
use Rattle.mls_leaf.specs.declared.node.Node.{Node}
use Rattle.mls_leaf.specs.declared.node.Node.TheVariants.{Leaf as in_leaf, Parent as in_parent}
use Rattle.mls_wire.specs.Combine.{optional}
use Rattle.mls_wire.specs.Reading.{◌>>=◌}
use Rattle.mls_wire.specs.Whole.{whole}
use Rattle.mls_types.specs.GroupInfo.{ratchet_tree}
use Rattle.mls_treemath.specs.Limits.{max_height}
use Rattle.mls_treemath.specs.Paths.{nodes_in}
use Rattle.mls_tree_model.specs.Arrays.{from_nodes}
use Rattle.mls_tree_model.specs.Term.{Term}
use Rattle.mls_tree.specs.Faults.{number_of}
use Rattle.mls_tree.specs.Tree.{max_leaves}
use Rattle.mls_tree.specs.declared.error.TreeError.{TreeError}
use Rattle.mls_tree_view.specs.declared.long_list.Kind.{Kind}
use Rattle.mls_tree_view.specs.declared.long_list.Kind.TheVariants.{Blank, Leaf, Parent}
use Rattle.mls_tree_view.specs.declared.long_list.Passed.{Passed}

-- what stands in a place
abbrev pub kind_of : Option Node → Kind
kind_of None = Blank
kind_of (Some (in_leaf v)) = Leaf
kind_of (Some (in_parent p)) = Parent

-- the kind of node that a number stands for (RFC 9420, section 12.4.3.3)
abbrev pub kind_of_number : ℕ → Kind
kind_of_number number = if number == 1 then Leaf else Parent

-- Whatever the bytes of a place spell, this is its kind.
abbrev pub SpellsKind : List ℕ → Kind → Type 0
SpellsKind bytes kind = (cell : Option Node) → Spells (optional node) cell bytes → kind ≡ kind_of cell

-- no node was passed
abbrev pub nothing_passed : Passed
nothing_passed = record { count = 0; is_even = true; is_placed = true; is_last_taken = false; leaf_end = 0 }

abbrev pub one_more : ℕ → ℕ
one_more n = min (n + 1) (2 ^ 64 - 1)

-- one node more
unfoldable pub next : Passed → Kind → Passed
next p Blank = record { count = one_more p.count; is_even = not p.is_even; is_placed = p.is_placed; is_last_taken = false; leaf_end = p.leaf_end }
next p Leaf = record { count = one_more p.count; is_even = not p.is_even; is_placed = p.is_placed && p.is_even; is_last_taken = true; leaf_end = if p.is_even then one_more p.count else p.leaf_end }
next p Parent = record { count = one_more p.count; is_even = not p.is_even; is_placed = p.is_placed && not p.is_even; is_last_taken = true; leaf_end = p.leaf_end }

-- what is known behind these nodes too
unfoldable pub behind : Passed → List (Option Node) → Passed
behind p [] = p
behind p (c ∷ cs) = behind (next p (kind_of c)) cs

-- Whatever nodes the bytes of a list spell, this is known behind all of them.
abbrev pub PassesAll : List ℕ → Passed → Type 0
PassesAll bytes p = (cells : List (Option Node)) → Spells ratchet_tree cells bytes → p ≡ behind nothing_passed cells

-- what more nodes than a tree has are refused with, where the tree of that height holds them
abbrev pub refusal_of : Passed → ℕ → ℕ
refusal_of p h = if p.is_last_taken && p.is_placed && nat_lt (2 ^ h) p.leaf_end then 21 else 20

-- The nodes that all of the bytes spell, of which there are at most as many as an input may have, if they spell nodes.
pub record AreNodes (bytes part : List ℕ) : Type 0 where
  pub cells : List (Option Node)
  pub is_read : whole ratchet_tree input_limit bytes ≡ Ok cells
  pub spells : Spells ratchet_tree cells part

abbrev pub FindsPlaces : List ℕ → Option (List ℕ) → Type 0
FindsPlaces bytes None = (cells : List (Option Node)) → whole ratchet_tree input_limit bytes ≡ Ok cells → ⊥
FindsPlaces bytes (Some part) = AreNodes bytes part

-- Whatever nodes the bytes of a list spell, they are refused so as the nodes of a tree, also when an allocation fails.
abbrev pub RefusesList : List ℕ → TreeError → Type 0
RefusesList bytes e = ((cells : List (Option Node)) → Spells ratchet_tree cells bytes → from_nodes max_leaves cells ≡ Err (number_of e)) × (number_of e ≢ 1)

-- Whatever nodes the bytes of a list spell, they aren't more than a tree has.
abbrev pub IsFewNodes : List ℕ → Type 0
IsFewNodes bytes = (cells : List (Option Node)) → Spells ratchet_tree cells bytes → length cells ≤ nodes_in max_height

-- the tree of the nodes that all of the bytes spell
abbrev pub sent_tree : List ℕ → Result Term ℕ
sent_tree bytes = whole ratchet_tree input_limit bytes >>= from_nodes max_leaves

-- The tree that the bytes spell is refused so, also when an allocation fails.
abbrev pub RefusesTree : List ℕ → TreeError → Type 0
RefusesTree bytes e = (sent_tree bytes ≡ Err (number_of e)) × (number_of e ≢ 1)

-- The bytes spell no more nodes than a tree has.
abbrev pub HasFewNodes : List ℕ → Type 0
HasFewNodes bytes = (cells : List (Option Node)) → whole ratchet_tree input_limit bytes ≡ Ok cells → length cells ≤ nodes_in max_height
