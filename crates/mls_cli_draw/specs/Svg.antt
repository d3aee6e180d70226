-- The picture of a ratchet tree as an SVG file: its leaves in a row, its parents in levels over them, and lines from each
-- parent to its children. Rows are lists of characters.
use Rattle.std.specs.Prelude.{◌==◌, ◌+◌, ◌-◌, ◌*◌, ◌/◌, ℕ, Bool, true, false, if◌then◌else◌, List, [], ◌∷◌, ◌++◌, codes, Option, Some, None}
use Rattle.std.specs.List.{flat_map}
use Rattle.std.specs.Fmt.{decimal}
use Rattle.mls_leaf.specs.Parent.{Parent}
use Rattle.mls_leaf.specs.declared.leaf.LeafNode.{LeafNode}
use Rattle.mls_tree_model.specs.LastPath.{last_path}
use Rattle.mls_tree_model.specs.Term.{Term, Leaf, Branch, height, size, width}
use Rattle.mls_cli_text.specs.Page.{Page, good}
use Rattle.mls_cli_draw.specs.Picture.{cut, identity_text, is_on, spaced_numbers}
use Rattle.mls_cli_draw.specs.SvgStyle.{style}
use Rattle.mls_cli_draw.specs.declared.point.Point.{Point}

-- ---- where nodes lie: the middle of a subtree's own node, where its first leaf is b

-- from the left: a leaf in the middle of a column of 80 units, a parent between its children
unfoldable pub across : ℕ → Term → ℕ
across b (Leaf v) = 80 * b + 40
across b (Branch c l r) = (across b l + across (b + width l) r) / 2

-- and 72 units down for each node over it
abbrev pub point : ℕ → ℕ → Term → Point
point depth b t = record { x = across b t; y = 72 * depth }

-- ---- parts of a row

-- a text, and a number behind it
abbrev pub numbered : List ℕ → ℕ → List ℕ
numbered text n = text ++ decimal n

-- characters in XML, where four have names
abbrev pub escaped_character : ℕ → List ℕ
escaped_character c =
    if c == 38 then codes "&amp;"
    else if c == 60 then codes "&lt;"
    else if c == 62 then codes "&gt;"
    else if c == 34 then codes "&quot;"
    else c ∷ []

abbrev pub escaped : List ℕ → List ℕ
escaped cs = flat_map escaped_character cs

-- what follows is drawn in this class, around this point
unfoldable pub group : List ℕ → Point → List ℕ
group class p =
    codes "<g class=\"" ++ (class ++ (numbered (codes "\" transform=\"translate(") p.x
    ++ (numbered (codes " ") p.y ++ codes ")\">")))

-- the lines from a parent to its children, which end at their upper edges, 19 units over their middles
unfoldable pub lines : Point → Point → Point → List ℕ
lines p left right =
    numbered (codes "<path d=\"M") left.x ++ numbered (codes " ") (left.y - 19)
    ++ numbered (codes "V") p.y ++ numbered (codes "H") right.x
    ++ numbered (codes "V") (right.y - 19) ++ codes "\"/>"

-- ---- leaves

-- a box with the leaf's number as a node, and its index under it
unfoldable pub box : ℕ → List ℕ
box i =
    numbered
    (codes "<rect x=\"-22\" y=\"-18\" width=\"44\" height=\"36\" rx=\"9\"/><text y=\"4\">") (2 * i)
    ++ (numbered (codes "</text><text class=\"index\" y=\"34\">leaf ") i ++ codes "</text>")

-- an identity: whole as a tooltip, and cut to 11 characters under the index
unfoldable pub named : List ℕ → List ℕ
named cs =
    codes "<title>" ++ escaped cs
    ++ codes "</title><text class=\"identity\" xml:space=\"preserve\" y=\"51\">"
    ++ escaped (cut 11 cs) ++ codes "</text>"

-- the class of a member's leaf: another where it is on the last path
abbrev pub leaf_class : Bool → List ℕ
leaf_class true = codes "renewed leaf"
leaf_class false = codes "leaf"

-- what is drawn of a leaf, besides its box
abbrev pub leaf_front : Point → Bool → Option LeafNode → List ℕ
leaf_front p on None = group (codes "blank leaf") p
leaf_front p on (Some v) = group (leaf_class on) p ++ named (identity_text v.credential.identity)

-- the row of leaf i
abbrev pub leaf_row : ℕ → Point → Bool → Option LeafNode → List ℕ
leaf_row i p on v = leaf_front p on v ++ box i ++ codes "</g>"

-- ---- parents

-- a circle with the parent's number as a node
unfoldable pub circle : ℕ → List ℕ
circle n = numbered (codes "<circle r=\"18\"/><text y=\"4\">") n ++ codes "</text>"

-- numbers of unmerged leaves: all as a tooltip, and cut to 13 characters under the circle
unfoldable pub marked : List ℕ → List ℕ
marked cs =
    codes "<title>unmerged" ++ (cs
    ++ (codes "</title><text class=\"unmerged\" y=\"33\">unmerged</text><text class=\"unmerged\" y=\"46\">"
    ++ (cut 13 cs ++ codes "</text>")))

abbrev pub unmerged_marks : List ℕ → List ℕ
unmerged_marks [] = []
unmerged_marks (n ∷ ns) = marked (spaced_numbers (n ∷ ns))

-- the class of a parent that isn't blank: another where it is on the last path
abbrev pub parent_class : Bool → List ℕ
parent_class true = codes "renewed parent"
parent_class false = codes "parent"

-- what is drawn of a parent, besides its lines and its circle
abbrev pub parent_front : Point → Bool → Option Parent → List ℕ
parent_front p on None = group (codes "blank parent") p
parent_front p on (Some q) = group (parent_class on) p ++ unmerged_marks q.unmerged_leaves

-- the row of node n, a parent at p
abbrev pub parent_row : ℕ → Point → Point → Point → Bool → Option Parent → List ℕ
parent_row n p left right on c =
    lines p left right ++ parent_front p on c ++ circle n ++ codes "</g>"

-- ---- the picture

-- the rows of a subtree whose first leaf is b, with so many nodes over it, in the order of an array (RFC 9420,
-- appendix C), where the last path has these nodes
unfoldable pub drawn : List ℕ → ℕ → ℕ → Term → List (List ℕ)
drawn path depth b (Leaf v) =
    leaf_row b (point depth b (Leaf v)) (is_on path (2 * b)) v ∷ []
drawn path depth b (Branch c l r) =
    drawn path (depth + 1) b l
    ++ (parent_row (2 * b + size l) (point depth b (Branch c l r)) (point (depth + 1) b l)
    (point (depth + 1) (b + width l) r) (is_on path (2 * b + size l)) c
    ∷ drawn path (depth + 1) (b + width l) r)

-- the first row, by the picture's width and height
abbrev pub opened : ℕ → ℕ → List ℕ
opened wide high =
    numbered (codes "<svg xmlns=\"http://www.w3.org/2000/svg\" width=\"") wide
    ++ numbered (codes "\" height=\"") high
    ++ numbered (codes "\" viewBox=\"-16 -40 ") wide ++ numbered (codes " ") high ++ codes "\">"

-- the picture: a column for each leaf and a level for each height, and a margin around them
unfoldable pub svg_picture : Term → Page (List ℕ)
svg_picture t =
    good
    ((opened (80 * width t + 32) (72 * height t + 116) ∷ style)
    ++ (drawn (last_path t) 0 0 t ++ codes "</svg>" ∷ []))
