-- A walk over the nodes of a list, and what is known of those that it has passed.
use Rattle.std.proofs.Common.{◌≡◌, ℕ, ◌<◌, ◌≤◌, List, [], ◌∷◌, ◌++◌, length, get_or, Option, Some, None, refl, ◌∙◌, ap, subst, arith}
use Rattle.std.specs.Int.{w8}
use Rattle.mls_wire.specs.Combine.{optional}
use Rattle.mls_wire.specs.Reading.{uint}
use Rattle.mls_leaf.specs.Faults.{Spells}
use Rattle.mls_leaf.specs.Leaf.{leaf_node}
use Rattle.mls_leaf.specs.Parent.{Parent}
use Rattle.mls_leaf.specs.ParentNode.{parent_node}
use Rattle.mls_leaf.specs.declared.leaf.LeafNode.{LeafNode}
use Rattle.mls_leaf.specs.Node.{node}
use Rattle.mls_leaf.specs.declared.node.Node.{Node}
use Rattle.mls_leaf.specs.declared.node.Node.TheVariants.{Leaf as in_leaf, Parent as in_parent}
use Rattle.mls_view.specs.Views.{AreItems, LendsNextItem}
use Rattle.mls_tree_view.specs.LongList.{behind, next, kind_of, kind_of_number, nothing_passed, SpellsKind}
use Rattle.mls_tree_view.specs.declared.long_list.Kind.{Kind}
use Rattle.mls_tree_view.specs.declared.long_list.Kind.TheVariants.{Blank}
use Rattle.mls_tree_view.specs.declared.long_list.Passed.{Passed}

-- The walk has some cells left, and with them all would be known that is known of all.
pub record Reaches (cells : List (Option Node)) (walk : List ℕ) (p : Passed) : Type 0 where
  pub left : List (Option Node)
  pub items : AreItems (optional node) left walk
  pub same : behind p left ≡ behind nothing_passed cells

pub begun : (cells : List (Option Node)) (walk : List ℕ) (p : Passed) → p ≡ nothing_passed → AreItems (optional node) cells walk → Reaches cells walk p
begun cells walk p is items = record { left = cells; items = items; same = ap (λ (q : Passed). behind q cells) is }

pub step_on : (cells : List (Option Node)) (old new part : List ℕ) (lent : Option (List ℕ)) (p q : Passed) (kind : Kind)
    → Reaches cells old p
    → ((vs : List (Option Node)) → AreItems (optional node) vs old → LendsNextItem (optional node) vs lent new)
    → lent ≡ Some part → SpellsKind part kind → q ≡ next p kind → Reaches cells new q
unfolding behind
step_on cells old new part lent p q kind at lends is spells more =
    by_left at.left (subst (λ (o : Option (List ℕ)). LendsNextItem (optional node) at.left o new) is (lends at.left at.items)) at.same
  where
    by_left : (left : List (Option Node)) → LendsNextItem (optional node) left (Some part) new → behind p left ≡ behind nothing_passed cells → Reaches cells new q
    by_left [] found same = absurd found
    by_left (c ∷ cs) found same =
        record { left = cs; items = found.1; same = ap (λ (k : Passed). behind k cs) (more ∙ ap (next p) (spells c found.0)) ∙ same }

pub all_passed : (cells : List (Option Node)) (old new : List ℕ) (lent : Option (List ℕ)) (p : Passed)
    → Reaches cells old p
    → ((vs : List (Option Node)) → AreItems (optional node) vs old → LendsNextItem (optional node) vs lent new)
    → lent ≡ None → p ≡ behind nothing_passed cells
unfolding behind
all_passed cells old new lent p at lends is =
    by_left at.left (subst (λ (o : Option (List ℕ)). LendsNextItem (optional node) at.left o new) is (lends at.left at.items)) at.same
  where
    by_left : (left : List (Option Node)) → LendsNextItem (optional node) left None new → behind p left ≡ behind nothing_passed cells → p ≡ behind nothing_passed cells
    by_left [] nil same = same
    by_left (c ∷ cs) found same = absurd found

-- ---- the first two bytes of a place

zero_byte : uint w8 0 ≡ 0 ∷ []
unfolding uint
zero_byte = refl

one_byte : uint w8 1 ≡ 1 ∷ []
unfolding uint
one_byte = refl

two_byte : uint w8 2 ≡ 2 ∷ []
unfolding uint
two_byte = refl

leaf_second : (v : LeafNode) → node.spell (in_leaf v) ≡ uint w8 1 ++ leaf_node.spell v
unfolding node
leaf_second v = refl

parent_second : (p : Parent) → node.spell (in_parent p) ≡ uint w8 2 ++ parent_node.spell p
unfolding node
parent_second p = refl

blank_is : (bytes : List ℕ) → Spells (optional node) None bytes → bytes ≡ 0 ∷ []
blank_is bytes spells = spells.spelled ∙ ap (λ (b : List ℕ). b ++ []) zero_byte

leaf_is : (v : LeafNode) (bytes : List ℕ) → Spells (optional node) (Some (in_leaf v)) bytes → bytes ≡ 1 ∷ 1 ∷ leaf_node.spell v
leaf_is v bytes spells =
    spells.spelled
    ∙ ap (λ (b : List ℕ). b ++ node.spell (in_leaf v)) one_byte
    ∙ ap (λ (b : List ℕ). 1 ∷ b) (leaf_second v ∙ ap (λ (b : List ℕ). b ++ leaf_node.spell v) one_byte)

parent_is : (p : Parent) (bytes : List ℕ) → Spells (optional node) (Some (in_parent p)) bytes → bytes ≡ 1 ∷ 2 ∷ parent_node.spell p
parent_is p bytes spells =
    spells.spelled
    ∙ ap (λ (b : List ℕ). b ++ node.spell (in_parent p)) one_byte
    ∙ ap (λ (b : List ℕ). 1 ∷ b) (parent_second p ∙ ap (λ (b : List ℕ). b ++ parent_node.spell p) two_byte)

-- the second byte of a place that has two is the kind of its node
pub long_place : (bytes : List ℕ) (number : ℕ) (kind : Kind) → 1 < length bytes → number ≡ get_or bytes 1 0 → kind ≡ kind_of_number number → SpellsKind bytes kind
long_place bytes number kind long is e = by_cell
  where
    by_cell : (cell : Option Node) → Spells (optional node) cell bytes → kind ≡ kind_of cell
    by_cell None spells = let one = ap length (blank_is bytes spells) in absurd (omega (arith, one, long))
    by_cell (Some (in_leaf v)) spells =
        let second : number ≡ 1 = is ∙ ap (λ (b : List ℕ). get_or b 1 0) (leaf_is v bytes spells) in
        e ∙ ap kind_of_number second
    by_cell (Some (in_parent p)) spells =
        let second : number ≡ 2 = is ∙ ap (λ (b : List ℕ). get_or b 1 0) (parent_is p bytes spells) in
        e ∙ ap kind_of_number second

-- a place with one byte is blank
pub short_place : (bytes : List ℕ) → length bytes ≤ 1 → SpellsKind bytes Blank
short_place bytes short = by_cell
  where
    by_cell : (cell : Option Node) → Spells (optional node) cell bytes → Blank ≡ kind_of cell
    by_cell None spells = refl
    by_cell (Some (in_leaf v)) spells = let two = ap length (leaf_is v bytes spells) in absurd (omega (arith, two, short))
    by_cell (Some (in_parent p)) spells = let two = ap length (parent_is p bytes spells) in absurd (omega (arith, two, short))
