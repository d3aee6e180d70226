-- The way down to the node where the ways to two places part.
use Rattle.std.proofs.Common.{◌≡◌, ℕ, suc, ◌+◌, ◌-◌, ◌*◌, ◌^◌, ◌<◌, ◌≤◌, inl, inr, true, false, [], ◌∷◌, Option, Some, None, min, max, refl, sym, ◌∙◌, ap, subst, arith}
use Rattle.std.proofs.Math.Nat.{pow-suc}
use Rattle.std.proofs.lemmas.Bool.{cases_order, cases_lt}
use Rattle.mls_treemath.specs.Paths.{Path, nodes_in, root_of, index_of, longer, path_to}
use Rattle.mls_treemath.proofs.Sizes.{nodes_in-suc, nodes_in-pow, suc-root_of, root_of-suc, nodes_in-zero}
use Rattle.mls_treemath.proofs.Ways.{Node, node_at, no_node, path_left, path_root, path_right, same_some}
use Rattle.mls_treemath.specs.Steps.{common_front, height_of, parting, parting_among, common_ancestor_of, IsTreeOf}
use Rattle.mls_treemath.specs.Descent.{parting_index, HoldsBoth}
use Rattle.mls_treemath.proofs.Moves.{limit_fits, nodes_of}

apart_at : (h u v : ℕ) (p q : Path) → path_to h u ≡ Some p → path_to h v ≡ Some q → parting_index h u v ≡ Some (index_of h (common_front p q))
unfolding parting
apart_at h u v p q to_u to_v = ap (λ o. parting h o (path_to h v)) to_u ∙ ap (parting h (Some p)) to_v

-- both on the left side
apart_left : (h u v z : ℕ) → u < nodes_in h → v < nodes_in h → parting_index h u v ≡ Some z → parting_index (suc h) u v ≡ Some z
unfolding longer common_front index_of
apart_left h u v z low low' e =
    let m : Node h u = node_at h u low in
    let m' : Node h v = node_at h v low' in
    apart_at (suc h) u v (false ∷ m.way) (false ∷ m'.way) (path_left h u low ∙ ap (longer false) m.leads) (path_left h v low' ∙ ap (longer false) m'.leads)
    ∙ sym (apart_at h u v m.way m'.way m.leads m'.leads) ∙ e

-- both on the right side
apart_right : (h u v z : ℕ) → nodes_in h < u → u < nodes_in (suc h) → nodes_in h < v → v < nodes_in (suc h) → parting_index h (u - suc (nodes_in h)) (v - suc (nodes_in h)) ≡ Some z → parting_index (suc h) u v ≡ Some (suc (nodes_in h) + z)
unfolding longer common_front index_of
apart_right h u v z high within high' within' e =
    let m : Node h (u - suc (nodes_in h)) = node_at h (u - suc (nodes_in h)) (omega (arith, nodes_in-suc h)) in
    let m' : Node h (v - suc (nodes_in h)) = node_at h (v - suc (nodes_in h)) (omega (arith, nodes_in-suc h)) in
    let rest : index_of h (common_front m.way m'.way) ≡ z = same_some (sym (apart_at h (u - suc (nodes_in h)) (v - suc (nodes_in h)) m.way m'.way m.leads m'.leads) ∙ e) in
    apart_at (suc h) u v (true ∷ m.way) (true ∷ m'.way) (path_right h u high ∙ ap (longer true) m.leads) (path_right h v high' ∙ ap (longer true) m'.leads)
    ∙ ap (λ k. Some (suc (nodes_in h) + k)) rest

-- the way to a place on the left side, and on the right side
way_left : (h u : ℕ) → u < nodes_in h → (p : Path) × (path_to (suc h) u ≡ Some (false ∷ p))
unfolding longer
way_left h u low = let m : Node h u = node_at h u low in (m.way, path_left h u low ∙ ap (longer false) m.leads)

way_right : (h u : ℕ) → nodes_in h < u → u < nodes_in (suc h) → (p : Path) × (path_to (suc h) u ≡ Some (true ∷ p))
unfolding longer
way_right h u high within =
    let m : Node h (u - suc (nodes_in h)) = node_at h (u - suc (nodes_in h)) (omega (arith, nodes_in-suc h)) in
    (m.way, path_right h u high ∙ ap (longer true) m.leads)

-- one at the root, or one on each side
common_none : (p : Path) → common_front p [] ≡ []
unfolding common_front
common_none [] = refl
common_none (b ∷ p) = refl

apart_root : (h u v : ℕ) (q : Path) → u ≡ nodes_in h → path_to (suc h) v ≡ Some q → parting_index (suc h) u v ≡ Some (nodes_in h)
unfolding common_front index_of root_of
apart_root h u v q at to = apart_at (suc h) u v [] q (path_root h u at) to

apart_root' : (h u v : ℕ) (p : Path) → path_to (suc h) u ≡ Some p → v ≡ nodes_in h → parting_index (suc h) u v ≡ Some (nodes_in h)
unfolding index_of root_of
apart_root' h u v p to at = apart_at (suc h) u v p [] to (path_root h v at) ∙ ap (λ q. Some (index_of (suc h) q)) (common_none p)

apart_between : (h u v : ℕ) → u < nodes_in h → nodes_in h < v → v < nodes_in (suc h) → parting_index (suc h) u v ≡ Some (nodes_in h)
unfolding common_front index_of root_of
apart_between h u v low high within =
    let l = way_left h u low in let r = way_right h v high within in
    apart_at (suc h) u v (false ∷ l.0) (true ∷ r.0) l.1 r.1

apart_across : (h u v : ℕ) → nodes_in h < u → u < nodes_in (suc h) → v < nodes_in h → parting_index (suc h) u v ≡ Some (nodes_in h)
unfolding common_front index_of root_of
apart_across h u v high within low =
    let l = way_left h v low in let r = way_right h u high within in
    apart_at (suc h) u v (true ∷ r.0) (false ∷ l.0) r.1 l.1

apart_here : (h u v : ℕ) → u < nodes_in (suc h) → v < nodes_in (suc h) → (u < nodes_in h → v < nodes_in h → ⊥) → (nodes_in h < u → nodes_in h < v → ⊥) → parting_index (suc h) u v ≡ Some (nodes_in h)
apart_here h u v within within' not_left not_right =
    elim (cases_order u (nodes_in h)) [
      | inl at ↦ let m : Node (suc h) v = node_at (suc h) v within' in apart_root h u v m.way at m.leads
      | inr (inl low) ↦ elim (cases_order v (nodes_in h)) [
        | inl at ↦ let m : Node (suc h) u = node_at (suc h) u within in apart_root' h u v m.way m.leads at
        | inr (inl low') ↦ absurd (not_left low low')
        | inr (inr high') ↦ apart_between h u v low high' within'
      ]
      | inr (inr high) ↦ elim (cases_order v (nodes_in h)) [
        | inl at ↦ let m : Node (suc h) u = node_at (suc h) u within in apart_root' h u v m.way m.leads at
        | inr (inl low') ↦ apart_across h u v high within low'
        | inr (inr high') ↦ absurd (not_right high high')
      ]
    ]

-- ---- the descent

pub reached_root : (n h x y : ℕ) → IsTreeOf n h → x < 2 * n - 1 → y < 2 * n - 1 → HoldsBoth n x y h (n - 1)
unfolding parting_among
reached_root n h x y t low low' =
    let leaves : n ≡ 2 ^ h = t.leaves in
    let size : suc (nodes_in h) ≡ 2 * n = omega (arith, nodes_in-pow h, pow-suc 2 h) in
    let plain_x : x ≡ x - 0 = omega arith in
    let plain_y : y ≡ y - 0 = omega arith in
    let plain : (z : ℕ) → z ≡ 0 + z = λ z. omega arith in
    record {
      first = 0;
      from_x = omega arith;
      x_within = omega arith;
      from_y = omega arith;
      y_within = omega arith;
      place = omega (arith, suc-root_of h);
      room = omega (arith, nodes_in-pow h, limit_fits h t.within);
      rest = λ z e. ap (λ o. parting_among o x y) t.is ∙ ap (λ u. parting_index h u y) plain_x ∙ ap (parting_index h (x - 0)) plain_y ∙ e ∙ ap Some (plain z);
    }

-- the distance to the roots of both sides
side_distance : (k : ℕ) → nodes_in k ≡ root_of k + 2 ^ k
side_distance k = omega (arith, nodes_in-pow k, suc-root_of k, pow-suc 2 k)

pub reached_left : (n x y k node : ℕ) → HoldsBoth n x y (suc k) node → x < node → y < node → (2 ^ k ≤ node) × HoldsBoth n x y k (node - 2 ^ k)
reached_left n x y k node r low low' =
    let place : node ≡ r.first + nodes_in k = r.place ∙ ap (λ m. r.first + m) (root_of-suc k) in
    let size : nodes_in (suc k) ≡ nodes_in k + suc (nodes_in k) = nodes_in-suc k in
    let from_x : r.first ≤ x = r.from_x in
    let from_y : r.first ≤ y = r.from_y in
    let room : r.first + nodes_in (suc k) < 2 ^ 32 = r.room in (
      omega (arith, side_distance k),
      record {
        first = r.first;
        from_x = from_x;
        x_within = omega arith;
        from_y = from_y;
        y_within = omega arith;
        place = omega (arith, side_distance k);
        room = omega arith;
        rest = λ z e. r.rest z (apart_left k (x - r.first) (y - r.first) z (omega arith) (omega arith) e);
      },
    )

pub reached_right : (n x y k node : ℕ) → HoldsBoth n x y (suc k) node → node < x → node < y → (node + 2 ^ k < 2 ^ 32) × HoldsBoth n x y k (node + 2 ^ k)
reached_right n x y k node r high high' =
    let place : node ≡ r.first + nodes_in k = r.place ∙ ap (λ m. r.first + m) (root_of-suc k) in
    let size : nodes_in (suc k) ≡ nodes_in k + suc (nodes_in k) = nodes_in-suc k in
    let within : x < r.first + nodes_in (suc k) = r.x_within in
    let within' : y < r.first + nodes_in (suc k) = r.y_within in
    let room : r.first + nodes_in (suc k) < 2 ^ 32 = r.room in
    let mid : ℕ = suc (nodes_in k) in
    let shift_x : x - r.first - suc (nodes_in k) ≡ x - (r.first + suc (nodes_in k)) = omega arith in
    let shift_y : y - r.first - suc (nodes_in k) ≡ y - (r.first + suc (nodes_in k)) = omega arith in (
      omega (arith, side_distance k),
      record {
        first = r.first + suc (nodes_in k);
        from_x = omega arith;
        x_within = omega arith;
        from_y = omega arith;
        y_within = omega arith;
        place = omega (arith, suc-root_of k, side_distance k);
        room = omega arith;
        rest = λ z e.
            let deeper : parting_index k (x - r.first - suc (nodes_in k)) (y - r.first - suc (nodes_in k)) ≡ Some z =
            ap (λ u. parting_index k u (y - r.first - suc (nodes_in k))) shift_x ∙ ap (parting_index k (x - (r.first + suc (nodes_in k)))) shift_y ∙ e in
            let sum : r.first + (suc (nodes_in k) + z) ≡ r.first + suc (nodes_in k) + z = omega arith in
            r.rest (suc (nodes_in k) + z) (apart_right k (x - r.first) (y - r.first) z (omega arith) (omega arith) (omega arith) (omega arith) deeper) ∙ ap Some sum;
      },
    )

pub reached_here : (n x y k node : ℕ) → HoldsBoth n x y (suc k) node → (x < node → y < node → ⊥) → (node < x → node < y → ⊥) → common_ancestor_of n x y ≡ Some node
reached_here n x y k node r not_left not_right =
    let place : node ≡ r.first + nodes_in k = r.place ∙ ap (λ m. r.first + m) (root_of-suc k) in
    let from_x : r.first ≤ x = r.from_x in
    let from_y : r.first ≤ y = r.from_y in
    let within : x < r.first + nodes_in (suc k) = r.x_within in
    let within' : y < r.first + nodes_in (suc k) = r.y_within in
    r.rest (nodes_in k) (apart_here k (x - r.first) (y - r.first) (omega arith) (omega arith)
    (λ low low'. not_left (omega arith) (omega arith)) (λ high high'. not_right (omega arith) (omega arith)))
    ∙ ap Some (sym place)

apart_leaf : (u v : ℕ) → u ≡ 0 → v ≡ 0 → parting_index 0 u v ≡ Some (root_of 0)
unfolding path_to parting common_front index_of
apart_leaf u v e e' = rw (e, e') refl

pub reached_leaf : (n x y node : ℕ) → HoldsBoth n x y 0 node → common_ancestor_of n x y ≡ Some node
reached_leaf n x y node r =
    let one : nodes_in 0 ≡ 1 = nodes_in-zero in
    let from_x : r.first ≤ x = r.from_x in
    let from_y : r.first ≤ y = r.from_y in
    let within : x < r.first + nodes_in 0 = r.x_within in
    let within' : y < r.first + nodes_in 0 = r.y_within in
    r.rest (root_of 0) (apart_leaf (x - r.first) (y - r.first) (omega arith) (omega arith)) ∙ ap Some (sym r.place)

-- ---- outside the tree

pub apart_without_tree : (n x y : ℕ) → height_of n ≡ None → common_ancestor_of n x y ≡ None
unfolding parting_among
apart_without_tree n x y none = ap (λ o. parting_among o x y) none

no_second : (h : ℕ) (o : Option Path) → parting h o None ≡ None
unfolding parting
no_second h None = refl
no_second h (Some p) = refl

pub apart_past_first : (n h x y : ℕ) → IsTreeOf n h → 2 * n - 1 ≤ x → common_ancestor_of n x y ≡ None
unfolding parting_among parting
apart_past_first n h x y t past =
    let size : suc (nodes_in h) ≡ 2 * n = nodes_of n h t in
    ap (λ o. parting_among o x y) t.is ∙ ap (λ o. parting h o (path_to h y)) (no_node h x (omega arith))

pub apart_past_second : (n h x y : ℕ) → IsTreeOf n h → 2 * n - 1 ≤ y → common_ancestor_of n x y ≡ None
unfolding parting_among
apart_past_second n h x y t past =
    let size : suc (nodes_in h) ≡ 2 * n = nodes_of n h t in
    ap (λ o. parting_among o x y) t.is ∙ ap (parting h (path_to h x)) (no_node h y (omega arith)) ∙ no_second h (path_to h x)

-- ---- the steps of the code

pub step_low : (n x y h k s node : ℕ) → s ≡ 2 ^ k → h ≡ suc k → HoldsBoth n x y h node → s ≤ node
step_low n x y h k s node is up r =
    let root : root_of h ≡ nodes_in k = ap root_of up ∙ root_of-suc k in
    let place : node ≡ r.first + root_of h = r.place in
    omega (arith, side_distance k)

pub step_high : (n x y h k s node : ℕ) → s ≡ 2 ^ k → h ≡ suc k → HoldsBoth n x y h node → node + s < 2 ^ 32
step_high n x y h k s node is up r =
    let root : root_of h ≡ nodes_in k = ap root_of up ∙ root_of-suc k in
    let size : nodes_in h ≡ nodes_in k + suc (nodes_in k) = ap nodes_in up ∙ nodes_in-suc k in
    let place : node ≡ r.first + root_of h = r.place in
    let room : r.first + nodes_in h < 2 ^ 32 = r.room in
    omega (arith, side_distance k)

pub turn_left : (n x y h k s node : ℕ) → s ≡ 2 ^ k → h ≡ suc k → HoldsBoth n x y h node → max x y < node → HoldsBoth n x y k (node - s)
turn_left n x y h k s node is up r low =
    rw is ((reached_left n x y k node (subst (λ m. HoldsBoth n x y m node) up r) (omega arith) (omega arith)).1)

pub turn_right : (n x y h k s node : ℕ) → s ≡ 2 ^ k → h ≡ suc k → HoldsBoth n x y h node → node < min x y → HoldsBoth n x y k (node + s)
turn_right n x y h k s node is up r high =
    rw is ((reached_right n x y k node (subst (λ m. HoldsBoth n x y m node) up r) (omega arith) (omega arith)).1)

pub no_turn : (n x y h k node : ℕ) → h ≡ suc k → HoldsBoth n x y h node → node ≤ max x y → min x y ≤ node → common_ancestor_of n x y ≡ Some node
no_turn n x y h k node up r some_right some_left =
    reached_here n x y k node (subst (λ m. HoldsBoth n x y m node) up r) (λ low low'. absurd (omega arith)) (λ high high'. absurd (omega arith))

pub at_leaf : (n x y h node : ℕ) → h ≡ 0 → HoldsBoth n x y h node → common_ancestor_of n x y ≡ Some node
at_leaf n x y h node none r = reached_leaf n x y node (subst (λ m. HoldsBoth n x y m node) none r)

pub apart_past : (n h x y : ℕ) → IsTreeOf n h → 2 * n - 1 ≤ max x y → common_ancestor_of n x y ≡ None
apart_past n h x y t past = elim (cases_lt x (2 * n - 1)) [
  | inl low ↦ apart_past_second n h x y t (omega arith)
  | inr high ↦ apart_past_first n h x y t high
]
