-- The rows of a subtree in an SVG picture.
use Rattle.std.proofs.Common.{◌≡◌, ◌∙◌, ◌<◌, ◌≤◌, ◌+◌, ◌*◌, ◌/◌, ◌++◌, ℕ, zero, suc, Bool, true, List, [], ◌∷◌, Option, Some, None, Result, Ok, Err, codes, get_or, map, refl, ap, subst, sym, true≢false, arith, append_assoc}
use Rattle.std.proofs.lemmas.List.{map-append}
use Rattle.mls_leaf.specs.Parent.{Parent}
use Rattle.mls_leaf.specs.declared.leaf.LeafNode.{LeafNode}
use Rattle.mls_leaf.specs.declared.node.Node.{Node}
use Rattle.mls_tree_model.specs.Term.{Term, Leaf, Branch, height, is_perfect, size, width}
use Rattle.mls_tree_model.specs.LastPath.{last_path}
use Rattle.mls_tree_model.specs.Arrays.{leaf_cell, leaf_in, node_at, own_node, parent_cell, parent_in, to_nodes}
use Rattle.mls_tree_model.proofs.Equations.{at_node_here, at_node_leaf, at_node_left, at_node_right}
use Rattle.mls_tree_model.proofs.ShapeLaws.{size-width, width-perfect}
use Rattle.mls_cli_draw.specs.Picture.{characters_of, is_on}
use Rattle.mls_cli_draw.specs.Svg.{across, drawn, leaf_row, opened, parent_row, point}
use Rattle.mls_cli_draw.specs.SvgStyle.{style}
use Rattle.mls_cli_draw.specs.SvgSubtrees.{HasRoom, IsHeight, IsSubtree, left_half, middle, own_number, PushesSubtree, right_half}
use Rattle.mls_cli_draw.specs.declared.point.Point.{Point}
use Rattle.mls_cli_draw.specs.declared.point.Subtree.{Subtree}
use Rattle.mls_cli_draw.specs.declared.row.Row.{Row}
use Rattle.mls_cli_draw.proofs.Drawn.{sent_node}
use Rattle.mls_cli_draw.proofs.Stems.{halves, one_leaf, sides}

-- ---- where nodes lie

between : (b w u x y : ℕ) → x ≡ 80 * b + 40 * w → y ≡ 80 * (b + w) + 40 * u → w ≡ u → (x + y) / 2 ≡ 80 * b + 40 * (w + u)
between b w u x y e f g = omega arith

across_is : (h b : ℕ) (t : Term) → is_perfect h t ≡ true → across b t ≡ 80 * b + 40 * width t
unfolding across is_perfect width
across_is h b (Leaf v) p = refl
across_is zero b (Branch c l r) p = absurd (true≢false (sym p))
across_is (suc h) b (Branch c l r) p =
    let both = sides (is_perfect h l) (is_perfect h r) p in
    between b (width l) (width r) _ _ (across_is h b l both.0) (across_is h (b + width l) r both.1) (width-perfect h l both.0 ∙ sym (width-perfect h r both.1))

abbrev at : ℕ → ℕ → Point
at x y = record { x = x; y = y }

point_is : (h depth b leaves : ℕ) (t : Term) → is_perfect h t ≡ true → width t ≡ leaves → middle (record { first = b; leaves = leaves; depth = depth }) ≡ point depth b t
point_is h depth b leaves t p e =
    let same : 80 * b + 40 * leaves ≡ across b t = ap (λ (w : ℕ). 80 * b + 40 * w) (sym e) ∙ sym (across_is h b t p) in
    ap (λ (x : ℕ). at x (72 * depth)) same

-- ---- which nodes they are

leaf_in_cell : (v : Option LeafNode) → leaf_in (leaf_cell v) ≡ v
leaf_in_cell None = refl
leaf_in_cell (Some v) = refl

parent_in_cell : (c : Option Parent) → parent_in (parent_cell c) ≡ c
parent_in_cell None = refl
parent_in_cell (Some p) = refl

leaf_node : (b n : ℕ) (v : Option LeafNode) → n ≡ 2 * b → node_at b (Leaf v) n ≡ leaf_cell v
unfolding node_at
leaf_node b n v e = at_node_leaf b v None own_node n e

parent_node : (b n : ℕ) (c : Option Parent) (l r : Term) → n ≡ 2 * b + size l → node_at b (Branch c l r) n ≡ parent_cell c
unfolding node_at
parent_node b n c l r e = at_node_here None own_node b c l r n e

left_node : (b n : ℕ) (c : Option Parent) (l r : Term) → n < 2 * b + size l → node_at b (Branch c l r) n ≡ node_at b l n
unfolding node_at
left_node b n c l r lt = at_node_left None own_node b c l r n lt

right_node : (b n : ℕ) (c : Option Parent) (l r : Term) → 2 * b + size l < n → node_at b (Branch c l r) n ≡ node_at (b + width l) r n
unfolding node_at
right_node b n c l r lt = at_node_right None own_node b c l r n lt

-- ---- halves

left_is : (h : ℕ) (c : Option Parent) (l r : Term) (s : Subtree) (nodes : List (Option Node)) → IsSubtree h (Branch c l r) s nodes → (k : ℕ) × IsSubtree k l (left_half s) nodes
unfolding size
left_is h c l r s nodes is =
    let both = halves h s.leaves c l r is.perfect is.leaves_are in (
      both.below,
      record {
        perfect = both.left;
        leaves_are = both.left_leaves;
        held = λ x lt. is.held x (omega arith) ∙ left_node s.first (2 * s.first + x) c l r (omega arith);
      },
    )

right_is : (h : ℕ) (c : Option Parent) (l r : Term) (s : Subtree) (nodes : List (Option Node)) → IsSubtree h (Branch c l r) s nodes → (k : ℕ) × IsSubtree k r (right_half s) nodes
unfolding size
right_is h c l r s nodes is =
    let both = halves h s.leaves c l r is.perfect is.leaves_are in
    let beyond : suc (size l) ≡ 2 * (s.leaves / 2) = omega (arith, size-width l, both.left_leaves) in
    let first : s.first + width l ≡ s.first + s.leaves / 2 = ap (λ (w : ℕ). s.first + w) both.left_leaves in (
      both.below,
      record {
        perfect = both.right;
        leaves_are = both.right_leaves;
        held = λ x lt.
            let place : 2 * (s.first + s.leaves / 2) + x ≡ 2 * s.first + (suc (size l) + x) = omega (arith, beyond) in
            ap (λ (n : ℕ). get_or nodes n None) place ∙ is.held (suc (size l) + x) (omega arith)
            ∙ ap (node_at s.first (Branch c l r)) (sym place)
            ∙ right_node s.first (2 * (s.first + s.leaves / 2) + x) c l r (omega (arith, beyond))
            ∙ ap (λ (b : ℕ). node_at b r (2 * (s.first + s.leaves / 2) + x)) first;
      },
    )

-- ---- rows

pushed_row : (old new : List Row) (row : Row) → new ≡ old ++ row ∷ [] → map characters_of new ≡ map characters_of old ++ row.characters.items ∷ []
pushed_row old new row e = ap (map characters_of) e ∙ map-append characters_of old (row ∷ [])

leaf_drawn : (s : Subtree) (nodes : List (Option Node)) (path : List ℕ) (found : Option Node) (row : Row) (old new : List Row) → s.leaves ≤ 1 → found ≡ get_or nodes (2 * s.first) None → row.characters.items ≡ leaf_row s.first (middle s) (is_on path (2 * s.first)) (leaf_in found) → new ≡ old ++ row ∷ [] → (h : ℕ) (t : Term) → IsSubtree h t s nodes → map characters_of new ≡ map characters_of old ++ drawn path s.depth s.first t
unfolding drawn size
leaf_drawn s nodes path found row old new few look drawn_as push h (Branch c l r) is = absurd (let some = (halves h s.leaves c l r is.perfect is.leaves_are).some in omega (arith, some, few))
leaf_drawn s nodes path found row old new few look drawn_as push h (Leaf v) is =
    let here : 2 * s.first ≡ 2 * s.first + 0 = omega arith in
    let node : found ≡ leaf_cell v = look ∙ ap (λ (n : ℕ). get_or nodes n None) here ∙ is.held 0 (omega arith) ∙ leaf_node s.first (2 * s.first + 0) v (omega arith) in
    let leaf : leaf_in found ≡ v = ap leaf_in node ∙ leaf_in_cell v in
    let place : middle s ≡ point s.depth s.first (Leaf v) = point_is h s.depth s.first s.leaves (Leaf v) is.perfect is.leaves_are in
    let on : Bool = is_on path (2 * s.first) in
    pushed_row old new row push
    ∙ ap (λ (cs : List ℕ). map characters_of old ++ cs ∷ []) (drawn_as ∙ ap (leaf_row s.first (middle s) on) leaf ∙ ap (λ (p : Point). leaf_row s.first p on v) place)

row_is : (s : Subtree) (h : ℕ) (c : Option Parent) (l r : Term) (nodes : List (Option Node)) (path : List ℕ) (found : Option Node) → IsSubtree h (Branch c l r) s nodes → found ≡ get_or nodes (own_number s) None → parent_row (own_number s) (middle s) (middle (left_half s)) (middle (right_half s)) (is_on path (own_number s)) (parent_in found) ≡ parent_row (2 * s.first + size l) (point s.depth s.first (Branch c l r)) (point (s.depth + 1) s.first l) (point (s.depth + 1) (s.first + width l) r) (is_on path (2 * s.first + size l)) c
unfolding size
row_is s h c l r nodes path found is look =
    let both = halves h s.leaves c l r is.perfect is.leaves_are in
    let number : own_number s ≡ 2 * s.first + size l = omega (arith, both.left_nodes) in
    let node : found ≡ parent_cell c = look ∙ ap (λ (n : ℕ). get_or nodes n None) number ∙ is.held (size l) (omega arith) ∙ parent_node s.first (2 * s.first + size l) c l r refl in
    let parent : parent_in found ≡ c = ap parent_in node ∙ parent_in_cell c in
    let own : middle s ≡ point s.depth s.first (Branch c l r) = point_is h s.depth s.first s.leaves (Branch c l r) is.perfect is.leaves_are in
    let left : middle (left_half s) ≡ point (s.depth + 1) s.first l = point_is both.below (s.depth + 1) s.first (s.leaves / 2) l both.left both.left_leaves in
    let right : middle (right_half s) ≡ point (s.depth + 1) (s.first + s.leaves / 2) r = point_is both.below (s.depth + 1) (s.first + s.leaves / 2) (s.leaves / 2) r both.right both.right_leaves in
    let first : point (s.depth + 1) (s.first + s.leaves / 2) r ≡ point (s.depth + 1) (s.first + width l) r = ap (λ (w : ℕ). point (s.depth + 1) (s.first + w) r) (sym both.left_leaves) in
    let on : Bool = is_on path (2 * s.first + size l) in
    ap (λ (n : ℕ). parent_row n (middle s) (middle (left_half s)) (middle (right_half s)) (is_on path n) (parent_in found)) number
    ∙ ap (λ (p : Point). parent_row (2 * s.first + size l) p (middle (left_half s)) (middle (right_half s)) on (parent_in found)) own
    ∙ ap (λ (p : Point). parent_row (2 * s.first + size l) (point s.depth s.first (Branch c l r)) p (middle (right_half s)) on (parent_in found)) left
    ∙ ap (λ (p : Point). parent_row (2 * s.first + size l) (point s.depth s.first (Branch c l r)) (point (s.depth + 1) s.first l) p on (parent_in found)) (right ∙ first)
    ∙ ap (λ (d : Option Parent). parent_row (2 * s.first + size l) (point s.depth s.first (Branch c l r)) (point (s.depth + 1) s.first l) (point (s.depth + 1) (s.first + width l) r) on d) parent

joined : (old left row right mid_1 mid_2 new : List (List ℕ)) → mid_1 ≡ old ++ left → mid_2 ≡ mid_1 ++ row → new ≡ mid_2 ++ right → new ≡ old ++ (left ++ (row ++ right))
joined old left row right mid_1 mid_2 new e f g =
    g ∙ ap (λ xs. xs ++ right) (f ∙ ap (λ xs. xs ++ row) e) ∙ append_assoc (old ++ left) row right ∙ append_assoc old left (row ++ right)

fork_drawn : {T X : Type 0} (s : Subtree) (nodes : List (Option Node)) (path : List ℕ) (found : Option Node) (row : Row) (old mid_1 mid_2 new : List Row) (q : Result T X) → 1 < s.leaves → ((h : ℕ) (t : Term) → IsSubtree h t (left_half s) nodes → map characters_of mid_1 ≡ map characters_of old ++ drawn path (s.depth + 1) s.first t) → found ≡ get_or nodes (own_number s) None → row.characters.items ≡ parent_row (own_number s) (middle s) (middle (left_half s)) (middle (right_half s)) (is_on path (own_number s)) (parent_in found) → mid_2 ≡ mid_1 ++ row ∷ [] → PushesSubtree (right_half s) nodes path mid_2 new q → PushesSubtree s nodes path old new q
unfolding drawn width
fork_drawn s nodes path found row old mid_1 mid_2 new (Err e) some left look drawn_as push right h t is = tt
fork_drawn s nodes path found row old mid_1 mid_2 new (Ok u) some left look drawn_as push right h (Leaf v) is = absurd (one_leaf 1 s.leaves is.leaves_are refl some)
fork_drawn s nodes path found row old mid_1 mid_2 new (Ok u) some left look drawn_as push right h (Branch c l r) is =
    let on_left = left_is h c l r s nodes is in
    let on_right = right_is h c l r s nodes is in
    let first : s.first + s.leaves / 2 ≡ s.first + width l = ap (λ (w : ℕ). s.first + w) (sym (halves h s.leaves c l r is.perfect is.leaves_are).left_leaves) in
    joined (map characters_of old) (drawn path (s.depth + 1) s.first l) (_ ∷ []) (drawn path (s.depth + 1) (s.first + width l) r) (map characters_of mid_1) (map characters_of mid_2) (map characters_of new)
    (left on_left.0 l on_left.1)
    (pushed_row mid_1 mid_2 row push ∙ ap (λ (cs : List ℕ). map characters_of mid_1 ++ cs ∷ []) (drawn_as ∙ row_is s h c l r nodes path found is look))
    (right on_right.0 r on_right.1 ∙ ap (λ (b : ℕ). map characters_of mid_2 ++ drawn path (s.depth + 1) b r) first)

-- ---- of what the code's calls answer

pub left_room : (s u : Subtree) → u ≡ left_half s → 1 < s.leaves → HasRoom s → HasRoom u
left_room s u e some room = subst HasRoom (sym e) (record { leaves_fit = omega (arith, room.leaves_fit, some); depth_fits = omega (arith, room.depth_fits, some) })

pub right_room : (s u : Subtree) → u ≡ right_half s → 1 < s.leaves → HasRoom s → HasRoom u
right_room s u e some room = subst HasRoom (sym e) (record { leaves_fit = omega (arith, room.leaves_fit, some); depth_fits = omega (arith, room.depth_fits, some) })

pub leaf_pushed : (s : Subtree) (p : Point) (nodes : List (Option Node)) (path : List ℕ) (on : Bool) (found : Option Node) (row : Row) (old new : List Row) → s.leaves ≤ 1 → p ≡ middle s → on ≡ is_on path (2 * s.first) → found ≡ get_or nodes (2 * s.first) None → row.characters.items ≡ leaf_row s.first p on (leaf_in found) → new ≡ old ++ row ∷ [] → (h : ℕ) (t : Term) → IsSubtree h t s nodes → map characters_of new ≡ map characters_of old ++ drawn path s.depth s.first t
leaf_pushed s p nodes path on found row old new few place marked look is push =
    leaf_drawn s nodes path found row old new few look
    (is ∙ ap (λ (q : Point). leaf_row s.first q on (leaf_in found)) place ∙ ap (λ (m : Bool). leaf_row s.first (middle s) m (leaf_in found)) marked) push

pub fork_pushed : {T X : Type 0} (s u v : Subtree) (p on_left on_right : Point) (n : ℕ) (nodes : List (Option Node)) (path : List ℕ) (on : Bool) (found : Option Node) (row : Row) (old mid_1 mid_2 new : List Row) (q : Result T X) → 1 < s.leaves → u ≡ left_half s → v ≡ right_half s → p ≡ middle s → on_left ≡ middle u → on_right ≡ middle v → n ≡ own_number s → ((h : ℕ) (t : Term) → IsSubtree h t u nodes → map characters_of mid_1 ≡ map characters_of old ++ drawn path u.depth u.first t) → on ≡ is_on path n → found ≡ get_or nodes n None → row.characters.items ≡ parent_row n p on_left on_right on (parent_in found) → mid_2 ≡ mid_1 ++ row ∷ [] → PushesSubtree v nodes path mid_2 new q → PushesSubtree s nodes path old new q
fork_pushed s u v p on_left on_right n nodes path on found row old mid_1 mid_2 new q some eu ev ep el er en left marked look is push right =
    let here : on ≡ is_on path (own_number s) = marked ∙ ap (is_on path) en in
    fork_drawn s nodes path found row old mid_1 mid_2 new q some
    (subst (λ (w : Subtree). (h : ℕ) (t : Term) → IsSubtree h t w nodes → map characters_of mid_1 ≡ map characters_of old ++ drawn path w.depth w.first t) eu left)
    (look ∙ ap (λ (m : ℕ). get_or nodes m None) en)
    (is ∙ ap (λ (m : ℕ). parent_row m p on_left on_right on (parent_in found)) en
    ∙ ap (λ (a : Point). parent_row (own_number s) a on_left on_right on (parent_in found)) ep
    ∙ ap (λ (a : Point). parent_row (own_number s) (middle s) a on_right on (parent_in found)) (el ∙ ap middle eu)
    ∙ ap (λ (a : Point). parent_row (own_number s) (middle s) (middle (left_half s)) a on (parent_in found)) (er ∙ ap middle ev)
    ∙ ap (λ (m : Bool). parent_row (own_number s) (middle s) (middle (left_half s)) (middle (right_half s)) m (parent_in found)) here)
    push
    (subst (λ (w : Subtree). PushesSubtree w nodes path mid_2 new q) ev right)

-- ---- of a whole tree

pub whole_is : (h : ℕ) (t : Term) (leaves : ℕ) (nodes : List (Option Node)) → is_perfect h t ≡ true → width t ≡ leaves → nodes ≡ to_nodes t → IsSubtree h t (record { first = 0; leaves = leaves; depth = 0 }) nodes
whole_is h t leaves nodes p e n = record {
  perfect = p;
  leaves_are = e;
  held = λ x lt. let here : 2 * 0 + x ≡ x = omega arith in ap (λ ns. get_or ns (2 * 0 + x) None) n ∙ ap (λ (m : ℕ). get_or (to_nodes t) m None) here ∙ sent_node t x ∙ ap (node_at 0 t) (sym here);
}

pub picture_is : (t : Term) (path : List ℕ) (wide high : ℕ) (first : Row) (start a b d e : List Row) → path ≡ last_path t → start ≡ [] → a ≡ start ++ first ∷ [] → first.characters.items ≡ opened wide high → map characters_of b ≡ map characters_of a ++ style → map characters_of d ≡ map characters_of b ++ drawn path 0 0 t → map characters_of e ≡ map characters_of d ++ codes "</svg>" ∷ [] → wide ≡ 80 * width t + 32 → high ≡ 72 * height t + 116 → map characters_of e ≡ (opened (80 * width t + 32) (72 * height t + 116) ∷ style) ++ (drawn (last_path t) 0 0 t ++ codes "</svg>" ∷ [])
picture_is t path wide high first start a b d e last none opening is styled subtree closed across down =
    let row : first.characters.items ≡ opened (80 * width t + 32) (72 * height t + 116) = is ∙ ap (λ (w : ℕ). opened w high) across ∙ ap (opened (80 * width t + 32)) down in
    let begun : map characters_of a ≡ opened (80 * width t + 32) (72 * height t + 116) ∷ [] = ap (map characters_of) (opening ∙ ap (λ rows. rows ++ first ∷ []) none) ∙ ap (λ (cs : List ℕ). cs ∷ []) row in
    let nodes : map characters_of d ≡ map characters_of b ++ drawn (last_path t) 0 0 t = subtree ∙ ap (λ (xs : List ℕ). map characters_of b ++ drawn xs 0 0 t) last in
    closed ∙ ap (λ rows. rows ++ codes "</svg>" ∷ []) (nodes ∙ ap (λ rows. rows ++ drawn (last_path t) 0 0 t) (styled ∙ ap (λ rows. rows ++ style) begun))
    ∙ append_assoc (opened (80 * width t + 32) (72 * height t + 116) ∷ style) (drawn (last_path t) 0 0 t) (codes "</svg>" ∷ [])

pub low_height : (leaves : ℕ) → leaves ≤ 1 → IsHeight leaves 0
unfolding height
low_height leaves few h (Leaf v) p w = refl
low_height leaves few h (Branch c l r) p w = absurd (let some = (halves h leaves c l r p w).some in omega (arith, some, few))

pub next_height : (leaves n : ℕ) → 1 < leaves → IsHeight (leaves / 2) n → IsHeight leaves (1 + n)
unfolding height width
next_height leaves n some half h (Leaf v) p w = absurd (one_leaf 1 leaves w refl some)
next_height leaves n some half h (Branch c l r) p w =
    let both = halves h leaves c l r p w in
    let low : n ≡ height l = half both.below l both.left both.left_leaves in
    omega (arith, low)
