-- The nodes of a tree have a spelling: each leaf has one, and keys and parent hashes are short.
use Rattle.std.proofs.Common.{◌≡◌, ℕ, zero, suc, ◌+◌, ◌*◌, ◌≤◌, ◌^◌, Bool, true, false, ◌&&◌, List, [], ◌∷◌, length, Option, Some, None, refl, sym, ap, ◌∙◌, arith, lit<, inl, inr}
use Rattle.std.specs.Prelude.{nat_lt, nat_le}
use Rattle.std.specs.List.{AllByRecursion, list_all, flat_map}
use Rattle.std.proofs.lemmas.Bool.{cases_lt, cases_Bool, and_parts, leb-true, ltb-true, lt-ltb}
use Rattle.std.proofs.lemmas.List.{length-append}
use Rattle.mls_wire.specs.Combine.{uint32}
use Rattle.mls_wire.specs.Reading.{uint}
use Rattle.mls_kdf.specs.Lengths.{length-sha256}
use Rattle.mls_leaf.specs.Leaf.{leaf_node}
use Rattle.mls_leaf.specs.Node.{node}
use Rattle.mls_leaf.specs.Parent.{Parent, rises_from}
use Rattle.mls_leaf.specs.ParentNode.{parent_node}
use Rattle.mls_leaf.proofs.ParentLaws.{rises_from-cons, run_spelling-rising, RunFits-rising}
use Rattle.mls_leaf.specs.declared.leaf.LeafNode.{LeafNode}
use Rattle.mls_leaf.specs.declared.node.Node.{Node}
use Rattle.mls_tree.specs.Tree.{max_leaves}
use Rattle.mls_tree_model.specs.Arrays.{leaf_cell, parent_cell, in_order, before, without_last_blanks, to_nodes}
use Rattle.mls_tree_model.specs.Edits.{put, enter, list_leaf, grow, trim, first_blank, room_for, place_in, add, remove}
use Rattle.mls_tree_model.proofs.Equations.{put_left, put_right, enter_left, enter_right, merge_left, merge_right, trim_full, trim_empty, add_is, remove_is}
use Rattle.mls_tree_model.specs.Hashes.{parent_hash}
use Rattle.mls_tree_model.specs.Inputs.{sibling_hash}
use Rattle.mls_tree_model.specs.Lists.{parent_passes, all_parents, rises_here}
use Rattle.mls_tree_model.specs.Merge.{new_parent, keys_below, hash_below, merge}
use Rattle.mls_tree_model.specs.Resolution.{is_reached}
use Rattle.mls_tree_model.specs.Term.{Term, Leaf, Branch, width, height, blanks, has_leaf}
use Rattle.mls_treekem_model.specs.Lists.{below_here}
use Rattle.mls_model.specs.MemberInvariant.{NodeFits}
use Rattle.mls_theorems.proofs.One.{all_both, all_parted}
use Rattle.mls_theorems.specs.NodeSpelling.{LeafFits, IsShort, ParentShort, PartsFit}

-- ---- edits keep it

leaf_put : (b : ℕ) (v : Option LeafNode) (i : ℕ) (x : Option LeafNode) → LeafFits x → PartsFit (put b (Leaf v) i x)
unfolding put PartsFit
leaf_put b v i x fits = fits

pub parts_put : (b : ℕ) (t : Term) (i : ℕ) (x : Option LeafNode) → LeafFits x → PartsFit t → PartsFit (put b t i x)
unfolding PartsFit
parts_put b (Leaf v) i x fits h = leaf_put b v i x fits
parts_put b (Branch c l r) i x fits h = elim (cases_lt i (b + width l)) [
  | inl lt ↦ rw (put_left b c l r i x lt) (tt, (parts_put b l i x fits h.1.0, h.1.1))
  | inr ge ↦ rw (put_right b c l r i x ge) (tt, (h.1.0, parts_put (b + width l) r i x fits h.1.1))
]

short_listing : (i : ℕ) (c : Option Parent) → ParentShort c → ParentShort (list_leaf i c)
short_listing i None h = tt
short_listing i (Some p) h = h

leaf_enter : (b : ℕ) (v : Option LeafNode) (i : ℕ) (x : LeafNode) → leaf_node.Fits x → PartsFit (enter b (Leaf v) i x)
unfolding enter PartsFit
leaf_enter b v i x fits = fits

pub parts_enter : (b : ℕ) (t : Term) (i : ℕ) (x : LeafNode) → leaf_node.Fits x → PartsFit t → PartsFit (enter b t i x)
unfolding PartsFit
parts_enter b (Leaf v) i x fits h = leaf_enter b v i x fits
parts_enter b (Branch c l r) i x fits h = elim (cases_lt i (b + width l)) [
  | inl lt ↦ rw (enter_left b c l r i x lt) (short_listing i c h.0, (parts_enter b l i x fits h.1.0, h.1.1))
  | inr ge ↦ rw (enter_right b c l r i x ge) (short_listing i c h.0, (h.1.0, parts_enter (b + width l) r i x fits h.1.1))
]

pub parts_blanks : (h : ℕ) → PartsFit (blanks h)
unfolding PartsFit blanks
parts_blanks zero = tt
parts_blanks (suc h) = (tt, (parts_blanks h, parts_blanks h))

leaf_trim : (v : Option LeafNode) → LeafFits v → PartsFit (trim (Leaf v))
unfolding trim PartsFit
leaf_trim v h = h

pub parts_trim : (t : Term) → PartsFit t → PartsFit (trim t)
unfolding PartsFit
parts_trim (Leaf v) h = leaf_trim v h
parts_trim (Branch c l r) h = elim (cases_Bool (has_leaf r)) [
  | inl e ↦ rw (trim_full c l r e) h
  | inr e ↦ rw (trim_empty c l r e) (parts_trim l h.1.0)
]

pub parts_remove : (t : Term) (i : ℕ) → PartsFit t → PartsFit (remove t i)
parts_remove t i h = rw (remove_is t i) (parts_trim (put 0 t i None) (parts_put 0 t i None tt h))

room_parts : (o : Option ℕ) (t : Term) → PartsFit t → PartsFit (room_for o t)
unfolding grow PartsFit
room_parts None t h = (tt, (h, parts_blanks (height t)))
room_parts (Some i) t h = h

pub parts_add : (t : Term) (x : LeafNode) → leaf_node.Fits x → PartsFit t → PartsFit (add t x)
parts_add t x fits h = rw (add_is t x) (parts_enter 0 (room_for (first_blank 0 t) t) (place_in t) x fits (room_parts (first_blank 0 t) t h))

-- ---- and paths

length-parent_hash : (p : Parent) (m : ℕ) (s : Term) → length (parent_hash p m s) ≡ 32
unfolding parent_hash sibling_hash
length-parent_hash p m s = length-sha256 _

hash_short : (p : Parent) (m : ℕ) (s : Term) → IsShort (parent_hash p m s)
hash_short p m s = omega (arith, length-parent_hash p m s)

new_short : (t : Bool) (ks : List (List ℕ)) (h : List ℕ) → AllByRecursion IsShort ks → IsShort h → ParentShort (new_parent t ks h)
new_short false ks h short hs = tt
new_short true [] h short hs = tt
new_short true (k ∷ ks) h short hs = (short.0, hs)

below_short : (t : Bool) (ks : List (List ℕ)) → AllByRecursion IsShort ks → AllByRecursion IsShort (keys_below t ks)
below_short false ks short = short
below_short true [] short = tt
below_short true (k ∷ ks) short = short.1

down_short : (c : Option Parent) (m : ℕ) (s : Term) (h : List ℕ) → IsShort h → IsShort (hash_below c m s h)
down_short None m s h hs = hs
down_short (Some p) m s h hs = hash_short p m s

leaf_merge : (b : ℕ) (v : Option LeafNode) (i : ℕ) (ks : List (List ℕ)) (h : List ℕ) (x : LeafNode) → leaf_node.Fits x → PartsFit (merge b (Leaf v) i ks h x)
unfolding merge PartsFit
leaf_merge b v i ks h x fits = fits

pub parts_merge : (b : ℕ) (t : Term) (i : ℕ) (ks : List (List ℕ)) (h : List ℕ) (x : LeafNode) → leaf_node.Fits x → AllByRecursion IsShort ks → IsShort h → PartsFit t → PartsFit (merge b t i ks h x)
unfolding PartsFit
parts_merge b (Leaf v) i ks h x fits short hs p = leaf_merge b v i ks h x fits
parts_merge b (Branch c l r) i ks h x fits short hs p = elim (cases_lt i (b + width l)) [
  | inl lt ↦
      let t : Bool = is_reached (b + width l) r in
      rw (merge_left b c l r i ks h x lt)
      (new_short t ks h short hs, (parts_merge b l i (keys_below t ks) (hash_below (new_parent t ks h) (b + width l) r h) x fits (below_short t ks short) (down_short (new_parent t ks h) (b + width l) r h hs) p.1.0, p.1.1))
  | inr ge ↦
      let t : Bool = is_reached b l in
      rw (merge_right b c l r i ks h x ge)
      (new_short t ks h short hs, (p.1.0, parts_merge (b + width l) r i (keys_below t ks) (hash_below (new_parent t ks h) b l h) x fits (below_short t ks short) (down_short (new_parent t ks h) b l h hs) p.1.1))
]

-- ---- with right lists all nodes have a spelling

leaf_fits : (v : Option LeafNode) → LeafFits v → NodeFits (leaf_cell v)
unfolding node
leaf_fits None h = tt
leaf_fits (Some x) h = (lit< tt, h)

leaf_parts : (v : Option LeafNode) → NodeFits (leaf_cell v) → LeafFits v
unfolding node
leaf_parts None h = tt
leaf_parts (Some x) h = h.1

parent_parts : (c : Option Parent) → NodeFits (parent_cell c) → ParentShort c
unfolding node parent_node
parent_parts None h = tt
parent_parts (Some p) h = (h.1.0, h.1.1.0)

-- what has a spelling has its parts
pub parts_of : (t : Term) → AllByRecursion NodeFits (in_order t) → PartsFit t
unfolding in_order PartsFit
parts_of (Leaf v) h = leaf_parts v h.0
parts_of (Branch c l r) h =
    let p = all_parted NodeFits (in_order l) (parent_cell c ∷ in_order r) h in
    (parent_parts c p.1.0, (parts_of l p.0, parts_of r p.1.1))

-- entries of a rising list below a number are no more than that many
few : (low high : ℕ) (us : List ℕ) → rises_from low us ≡ true → list_all (λ u. nat_lt u high) us ≡ true → low ≤ high → length us + low ≤ high
few low high [] r l le = omega arith
few low high (u ∷ us) r l le =
    let p = and_parts (nat_le low u) (rises_from (u + 1) us) (sym (rises_from-cons low u us) ∙ r) in
    let q = and_parts (nat_lt u high) (list_all (λ v. nat_lt v high) us) l in
    let a = leb-true _ _ p.0 in
    let c = ltb-true _ _ q.0 in
    let rest = few (u + 1) high us p.1 q.1 (omega arith) in
    omega arith

entries_fit : (high : ℕ) (us : List ℕ) → high ≤ 2 ^ 32 → list_all (λ u. nat_lt u high) us ≡ true → AllByRecursion uint32.Fits us
entries_fit high [] le l = tt
entries_fit high (u ∷ us) le l =
    let q = and_parts (nat_lt u high) (list_all (λ v. nat_lt v high) us) l in
    let c = ltb-true _ _ q.0 in
    (omega arith, entries_fit high us le q.1)

four_each : (us : List ℕ) → length (flat_map uint32.spell us) ≡ 4 * length us
unfolding uint
four_each [] = refl
four_each (u ∷ us) = omega (arith, length-append (uint32.spell u) (flat_map uint32.spell us), four_each us)

below_all : (b high n : ℕ) (us : List ℕ) → n ≤ high → list_all (λ u. nat_le b u && nat_lt u n) us ≡ true → list_all (λ u. nat_lt u high) us ≡ true
below_all b high n [] le l = refl
below_all b high n (u ∷ us) le l =
    let q = and_parts (nat_le b u && nat_lt u n) (list_all (λ v. nat_le b v && nat_lt v n) us) l in
    let c = ltb-true _ _ (and_parts (nat_le b u) (nat_lt u n) q.0).1 in
    let lt : nat_lt u high ≡ true = lt-ltb u high (omega arith) in
    rw lt (below_all b high n us le q.1)

parent_fits : (b : ℕ) (c : Option Parent) (l r : Term) → b + (width l + width r) ≤ max_leaves → ParentShort c → parent_passes below_here b c l r ≡ true → parent_passes rises_here b c l r ≡ true → NodeFits (parent_cell c)
unfolding node parent_node below_here rises_here
parent_fits b None l r le short low rise = tt
parent_fits b (Some p) l r le short low rise =
    let us : List ℕ = p.unmerged_leaves in
    let all : list_all (λ u. nat_lt u max_leaves) us ≡ true = below_all b max_leaves (b + (width l + width r)) us le low in
    let n = few 0 max_leaves us rise all (omega arith) in
    let long = ap length (run_spelling-rising 0 us) ∙ four_each us in
    (lit< tt, (short.0, (short.1, (RunFits-rising 0 us rise (entries_fit max_leaves us (lit< tt) all), omega arith))))

pub nodes_fit : (b : ℕ) (t : Term) → b + width t ≤ max_leaves → PartsFit t → all_parents below_here b t ≡ true → all_parents rises_here b t ≡ true → AllByRecursion NodeFits (in_order t)
unfolding in_order PartsFit all_parents width
nodes_fit b (Leaf v) le h low rise = (leaf_fits v h, tt)
nodes_fit b (Branch c l r) le h low rise =
    let p = and_parts (parent_passes below_here b c l r) _ low in
    let p' = and_parts (all_parents below_here b l) _ p.1 in
    let q = and_parts (parent_passes rises_here b c l r) _ rise in
    let q' = and_parts (all_parents rises_here b l) _ q.1 in
    all_both NodeFits (in_order l) (parent_cell c ∷ in_order r) (nodes_fit b l (omega arith) h.1.0 p'.0 q'.0)
    (parent_fits b c l r le h.0 p.0 q.0, nodes_fit (b + width l) r (omega arith) h.1.1 p'.1 q'.1)

-- ---- and so have those that are sent

before_fit : (c : Option Node) (ds : List (Option Node)) → NodeFits c → AllByRecursion NodeFits ds → AllByRecursion NodeFits (before c ds)
before_fit None [] h hs = tt
before_fit None (d ∷ ds) h hs = (tt, hs)
before_fit (Some n) ds h hs = (h, hs)

cut_fit : (cs : List (Option Node)) → AllByRecursion NodeFits cs → AllByRecursion NodeFits (without_last_blanks cs)
unfolding without_last_blanks
cut_fit [] h = tt
cut_fit (c ∷ cs) h = before_fit c (without_last_blanks cs) h.0 (cut_fit cs h.1)

pub sent_nodes_fit : (t : Term) → AllByRecursion NodeFits (in_order t) → AllByRecursion NodeFits (to_nodes t)
unfolding to_nodes
sent_nodes_fit t h = cut_fit (in_order t) h
