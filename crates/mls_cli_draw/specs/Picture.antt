-- The picture of a ratchet tree, as text: a row for each node, with the root at the left. Rows are lists of characters.
use Rattle.std.specs.Prelude.{encode_utf8_all, ◌≡◌, ◌==◌, ◌%◌, ◌/◌, ◌-◌, ◌&&◌, ℕ, zero, suc, Bool, true, false, nat_le, nat_lt, if◌then◌else◌, List, [], ◌∷◌, ◌++◌, codes, length, map, take, Option, Some, None, IfOk, Result}
use Rattle.std.specs.List.{flat_map, list_all, list_any, range_with_len}
use Rattle.std.specs.Fmt.{decimal}
use Rattle.hex.specs.Hex.{encode_lower}
use Rattle.mls_leaf.specs.Parent.{Parent}
use Rattle.mls_leaf.specs.declared.leaf.LeafNode.{LeafNode}
use Rattle.mls_leaf.specs.declared.node.Node.{Node}
use Rattle.mls_leaf.specs.declared.node.Node.TheVariants as node
use Rattle.mls_tree_model.specs.Term.{Term, Leaf, Branch, size}
use Rattle.mls_tree_model.specs.Arrays.{node_at}
use Rattle.mls_tree_model.specs.LastPath.{last_path}
use Rattle.mls_cli_text.specs.Page.{Page, good, page_of}
use Rattle.mls_cli_text.specs.declared.page.Page as code
use Rattle.mls_cli_draw.specs.declared.row.Row.{Row}
use Rattle.mls_cli_draw.specs.declared.stem.Side.{Side}
use Rattle.mls_cli_draw.specs.declared.stem.Side.TheVariants.{Over, Under}

-- ---- what stands before a node: lines to its parent and between others

-- before the root of a subtree, by the side of its parent on which it is
abbrev pub corner : Side → List ℕ
corner Over = codes "┌─"
corner Under = codes "└─"

-- before the other rows of the subtree, by the side of its root: a bar between the root and its parent
abbrev pub beside : Side → Side → List ℕ
beside Over Over = codes "  "
beside Over Under = codes "│ "
beside Under Over = codes "│ "
beside Under Under = codes "  "

-- before node x of a subtree on that side of its parent
unfoldable pub stem_below : Side → Term → ℕ → List ℕ
stem_below side (Leaf v) x = corner side
stem_below side (Branch c l r) x =
    if nat_lt x (size l) then beside side Over ++ stem_below Over l x
    else if x == size l then corner side
    else beside side Under ++ stem_below Under r (x - suc (size l))

-- before node x of a whole tree
unfoldable pub stem : Term → ℕ → List ℕ
stem (Leaf v) x = []
stem (Branch c l r) x =
    if nat_lt x (size l) then stem_below Over l x
    else if x == size l then []
    else stem_below Under r (x - suc (size l))

-- ---- nodes

-- a printable character of ASCII
abbrev pub is_printable : ℕ → Bool
is_printable b = nat_le 32 b && nat_le b 126

-- an identity (RFC 9420, 5.3): between quotes where all of its bytes are printable, else in hex
abbrev pub identity_text : List ℕ → List ℕ
identity_text bs =
    if list_all is_printable bs then (codes "\"" ++ bs) ++ codes "\"" else encode_lower bs

-- whether node x is among these, as those of the last path
abbrev pub is_on : List ℕ → ℕ → Bool
is_on path x = list_any (λ (y : ℕ). y == x) path

-- what stands behind the mark of a member's leaf, and of a parent: a star where the node is on the last path
abbrev pub gap : Bool → List ℕ
gap true = codes "*"
gap false = codes " "

abbrev pub star : Bool → List ℕ
star true = codes "*"
star false = []

-- a member's leaf, by its index
abbrev pub leaf_text : Bool → ℕ → LeafNode → List ℕ
leaf_text on i v =
    codes "■" ++ (gap on ++ (decimal i ++ (codes " " ++ identity_text v.credential.identity)))

abbrev pub spaced_numbers : List ℕ → List ℕ
spaced_numbers ns = flat_map (λ (n : ℕ). codes " " ++ decimal n) ns

-- a parent, with the indexes of its unmerged leaves (RFC 9420, 7.1)
abbrev pub unmerged_text : List ℕ → List ℕ
unmerged_text [] = []
unmerged_text (n ∷ ns) = codes " unmerged" ++ spaced_numbers (n ∷ ns)

abbrev pub parent_text : Bool → Parent → List ℕ
parent_text on p = codes "●" ++ (star on ++ unmerged_text p.unmerged_leaves)

-- a blank leaf with its index, or a blank parent: neither is on the last path
abbrev pub blank_text : ℕ → List ℕ
blank_text x = if x % 2 == 0 then codes "□ " ++ decimal (x / 2) else codes "○"

-- what is drawn at place x of an array
abbrev pub node_text : Bool → ℕ → Option Node → List ℕ
node_text on x None = blank_text x
node_text on x (Some (node.Leaf v)) = leaf_text on (x / 2) v
node_text on x (Some (node.Parent p)) = parent_text on p

-- ---- rows

-- cut to so many columns: where there are more characters, the last column is dots
unfoldable pub cut : ℕ → List ℕ → List ℕ
cut zero cs = []
cut (suc n) cs = if nat_lt (suc n) (length cs) then take n cs ++ codes "…" else cs

abbrev pub cut_to : Option ℕ → List ℕ → List ℕ
cut_to None cs = cs
cut_to (Some n) cs = cut n cs

-- the row of node x, where the last path has these nodes
unfoldable pub row : Option ℕ → List ℕ → Term → ℕ → List ℕ
row columns path t x = cut_to columns (stem t x ++ node_text (is_on path x) x (node_at 0 t x))

-- the picture: the rows of all nodes in the order of an array (RFC 9420, appendix C)
unfoldable pub picture : Option ℕ → Term → Page (List ℕ)
picture columns t = good (map (row columns (last_path t) t) (range_with_len 0 (size t)))

-- a row as it is printed, in UTF-8
abbrev pub row_text : List ℕ → List ℕ
row_text cs = encode_utf8_all cs ++ codes "\n"

-- ---- of the code's values

abbrev pub characters_of : Row → List ℕ
characters_of r = r.characters.items

-- Where there is memory for it, this page of rows is made.
abbrev pub DrawsPage : {X : Type 0} → Result (code.Page Row) X → Page (List ℕ) → Type 0
DrawsPage result page = IfOk result (λ (p : code.Page Row). page_of characters_of p ≡ page)
