-- What a joiner takes: exact keys whatever comes, and the committer's secrets where the path is made.
use Rattle.std.proofs.Common.{◌≡◌, ℕ, ◌+◌, ◌<◌, ◌≤◌, ◌↔◌, Bool, true, false, not, ◌&&◌, ◌==◌, if◌then◌else◌, List, [], ◌∷◌, Option, Some, None, Result, Ok, Err, refl, ap, sym, ◌∙◌, subst, inl, inr, arith, eq-eqb, lt-ltb}
use Rattle.std.specs.Str.{bytes_eq}
use Rattle.std.proofs.lemmas.Slice.Eq.{bytes_eq-Decides}
use Rattle.std.proofs.lemmas.Bool.{and_parts, cases_lt, or_right, cond-true}
use Rattle.std.proofs.Math.Bool.{or-false}
use Rattle.mls_wire.specs.Laws.{bind_ok}
use Rattle.mls_leaf.specs.Parent.{Parent}
use Rattle.mls_leaf.specs.declared.leaf.LeafNode.{LeafNode}
use Rattle.mls_tree_model.specs.Sets.{has}
use Rattle.mls_tree_model.specs.Term.{Term, Leaf, Branch, width, leaf_at}
use Rattle.mls_tree_model.specs.Way.{Step, step_at, way, is_filtered, is_beside}
use Rattle.mls_tree_model.specs.Edits.{enter, list_leaf}
use Rattle.mls_tree_model.specs.Merge.{merge, new_parent, keys_below, hash_below, parent_beside, keys_beside, hash_beside}
use Rattle.mls_tree_model.specs.Hashes.{parent_hash}
use Rattle.mls_tree_model.proofs.Equations.{way_left, way_right, merge_left, merge_right, enter_left, enter_right}
use Rattle.mls_tree_model.specs.Laws.{IsIn}
use Rattle.mls_tree_model.proofs.SetLaws.{has-with}
use Rattle.mls_tree_model.proofs.ShapeLaws.{width-enter}
use Rattle.mls_tree_model.proofs.MergeLaws.{width-merge}
use Rattle.mls_suite.specs.Crypto.{Crypto}
use Rattle.mls_treekem_model.specs.Chain.{chain, node_key, node_public}
use Rattle.mls_treekem_model.specs.Keys.{Keys, HoldsKey, HoldsDueKey, AreKeysAlong, AreKeysOnWay, Exact, leaf_only}
use Rattle.mls_treekem_model.specs.Make.{climb_past_node, climb_past_blank, Climb, one_if, filtered_count, secret_above, key_if, made_keys, climb_make, more_if, path_keys}
use Rattle.mls_treekem_model.specs.Seal.{Choose}
use Rattle.mls_treekem_model.specs.Join.{climb_past_present, require_present, climb_take, is_due, is_complete, take_keys, ListsAt, AllList, secret_for, take_answer}
use Rattle.mls_treekem_model.proofs.HeightLaws.{leaf_is_on_way}
use Rattle.mls_treekem_model.proofs.MeetLaws.{Meets, meets_from, along_from}
use Rattle.mls_treekem_model.proofs.MakeLaws.{merged_way, way_merge}
use Rattle.mls_treekem_model.proofs.OpenLaws.{beside_filtered}
use Rattle.mls_treekem_model.specs.Laws.{EnteredLists, LeafExact, LeafHasDue, TakeInside, shared_keys}
use Rattle.mls_treekem_model.specs.Tame.{TameAt, TameAlong}

-- a key that is had is the parent's, which doesn't list the leaf
abbrev pub Sound : Crypto → ℕ → Option Parent → Option (List ℕ) → Type 0
Sound c j p None = Unit {0}
Sound c j None (Some k) = ⊥
Sound c j (Some p) (Some k) = (has p.unmerged_leaves j ≡ false) × (c.public k ≡ p.encryption_key)

pub record Sounds (c : Crypto) (j : ℕ) (p : Option Parent) (m m' : Climb) : Type 0 where
  pub top : Option (List ℕ)
  pub keys_are : m'.keys ≡ top ∷ m.keys
  pub sound : Sound c j p top

pub not_and : (a b : Bool) → (not a && b) ≡ true → (a ≡ false) × (b ≡ true)
not_and true b h = cc
not_and false b h = (refl, h)

pub sounds : (c : Crypto) (j : ℕ) (p : Option Parent) (m m' : Climb) → climb_past_present c j p m ≡ Ok m' → Sounds c j p m m'
sounds c j None m m' h =
    let made : Climb = climb_past_blank m in
    let e : made ≡ m' = cc in
    record { top = None; keys_are = sym (ap (λ (z : Climb). z.keys) e); sound = tt }
sounds c j (Some p) m m' h = by_test (not (has p.unmerged_leaves j) && bytes_eq (node_public c m.secret) p.encryption_key) refl h
  where
    by_test : (t : Bool) → (not (has p.unmerged_leaves j) && bytes_eq (node_public c m.secret) p.encryption_key) ≡ t →
        if◌then◌else◌ {A = Result Climb ℕ} t (Ok (climb_past_node c m)) (Err 34) ≡ Ok m' → Sounds c j (Some p) m m'
    by_test true e h =
        let made : Climb = climb_past_node c m in
        let q : made ≡ m' = cc in
        let f = not_and (has p.unmerged_leaves j) (bytes_eq (node_public c m.secret) p.encryption_key) e in
        record { top = Some (node_key c m.secret); keys_are = sym (ap (λ (z : Climb). z.keys) q); sound = (f.0, (bytes_eq-Decides (node_public c m.secret) p.encryption_key).0 f.1) }
    by_test false e h = cc

pub present_is : (p : Option Parent) (m m' : Climb) → require_present p m ≡ Ok m' → m ≡ m'
present_is None m m' h = cc
present_is (Some p) m m' h = cc

meets_take : (c : Crypto) (j : ℕ) (ss : List Step) (ks : Keys) (secret : List ℕ) (m : Climb) →
    Meets c (Sound c j) j ss ks → climb_take c ss j ks secret ≡ Ok m → Meets c (Sound c j) j ss m.keys
unfolding Meets climb_take
meets_take c j [] ks secret m h e = absurd h
meets_take c j (s ∷ ss) [] secret m h e = absurd h
meets_take c j (s ∷ ss) (o ∷ ks) secret m h e =
    let b = bind_ok (if is_beside s j then require_present s.parent (record { secret = secret; keys = ks }) else climb_take c ss j ks secret) (λ z. climb_past_present c j s.parent z) m e in
    let p = sounds c j s.parent b.0 m b.2 in
    subst (λ (zs : Keys). Meets c (Sound c j) j (s ∷ ss) zs) (sym p.keys_are)
    (p.sound, by_side (is_beside s j) b.0 b.1 h.1 (meets_take c j ss ks secret b.0))
  where
    by_side : (t : Bool) (m0 : Climb) → (if t then require_present s.parent (record { secret = secret; keys = ks }) else climb_take c ss j ks secret) ≡ Ok m0 →
        Choose t (AreKeysOnWay c (Sound c j) s.first s.other j ks) (Meets c (Sound c j) j ss ks) →
        (Meets c (Sound c j) j ss ks → climb_take c ss j ks secret ≡ Ok m0 → Meets c (Sound c j) j ss m0.keys) →
        Choose t (AreKeysOnWay c (Sound c j) s.first s.other j m0.keys) (Meets c (Sound c j) j ss m0.keys)
    by_side true m0 e h rec =
        let made : Climb = record { secret = secret; keys = ks } in
        let q : made ≡ m0 = present_is s.parent made m0 e in
        subst (λ (z : Climb). AreKeysOnWay c (Sound c j) s.first s.other j z.keys) q h
    by_side false m0 e h rec = rec h e

own_sound : (c : Crypto) (j : ℕ) (ss : List Step) (x : LeafNode) (sk : List ℕ) → c.public sk ≡ x.encryption_key → AreKeysAlong c (Sound c j) ss (Some x) (leaf_only ss sk)
unfolding AreKeysAlong leaf_only
own_sound c j [] x sk h = h
own_sound c j (s ∷ ss) x sk h = (tt, own_sound c j ss x sk h)

fits_from : (c : Crypto) (j : ℕ) (p : Option Parent) (o : Option (List ℕ)) → Sound c j p o → is_due j p o ≡ true → HoldsDueKey c j p o
fits_from c j None None h d = tt
fits_from c j None (Some k) h d = absurd h
fits_from c j (Some p) None h d = subst (λ (t : Bool). HoldsKey c t p None) (sym d ∙ or-false (has p.unmerged_leaves j)) tt
fits_from c j (Some p) (Some k) h d = subst (λ (t : Bool). HoldsKey c t p (Some k)) (sym h.0) h.1

exact_from : (c : Crypto) (j : ℕ) (ss : List Step) (x : Option LeafNode) (ks : Keys) → AreKeysAlong c (Sound c j) ss x ks → is_complete j ss ks ≡ true → AreKeysAlong c (HoldsDueKey c j) ss x ks
unfolding AreKeysAlong is_complete
exact_from c j [] x ks h d = h
exact_from c j (s ∷ ss) x [] h d = absurd h
exact_from c j (s ∷ ss) x (o ∷ ks) h d =
    let e = and_parts (is_due j s.parent o) (is_complete j ss ks) d in
    (fits_from c j s.parent o h.0 e.0, exact_from c j ss x ks h.1 e.1)

pub take_exact : (c : Crypto) (t : Term) (i j : ℕ) (x : LeafNode) (sk secret : List ℕ) (m : Climb) → IsIn 0 t i → IsIn 0 t j → (j ≡ i → ⊥) →
    leaf_at 0 t j ≡ Some x → c.public sk ≡ x.encryption_key → take_keys c t i j sk secret ≡ Ok m → Exact c 0 t j m.keys
unfolding take_keys
take_exact c t i j x sk secret m hi hj ne leaf own e =
    let b = bind_ok (climb_take c (way 0 t i) j (leaf_only (way 0 t j) sk) secret) (λ z. if◌then◌else◌ {A = Result Climb ℕ} (is_complete j (way 0 t j) z.keys) (Ok z) (Err 35)) m e in
    let start : AreKeysOnWay c (Sound c j) 0 t j (leaf_only (way 0 t j) sk) = rw leaf (own_sound c j (way 0 t j) x sk own) in
    let before : Meets c (Sound c j) j (way 0 t i) (leaf_only (way 0 t j) sk) = meets_from c (Sound c j) i j ne 0 t (leaf_only (way 0 t j) sk) hi hj start in
    let after : Meets c (Sound c j) j (way 0 t i) b.0.keys = meets_take c j (way 0 t i) (leaf_only (way 0 t j) sk) secret b.0 before b.1 in
    let sound : AreKeysOnWay c (Sound c j) 0 t j b.0.keys = along_from c (Sound c j) i j ne 0 t b.0.keys hi hj after in
    by_test b.0 (is_complete j (way 0 t j) b.0.keys) refl b.2 sound
  where
    by_test : (z : Climb) (d : Bool) → is_complete j (way 0 t j) z.keys ≡ d → if◌then◌else◌ {A = Result Climb ℕ} d (Ok z) (Err 35) ≡ Ok m → AreKeysOnWay c (Sound c j) 0 t j z.keys → Exact c 0 t j m.keys
    by_test z true f e h =
        let q : z ≡ m = cc in
        subst (λ (w : Climb). Exact c 0 t j w.keys) q (exact_from c j (way 0 t j) (leaf_at 0 t j) z.keys h f)
    by_test z false f e h = cc

-- ---- without a path secret

here_due : (j : ℕ) (p : Option Parent) → ListsAt j p → is_due j p None ≡ true
here_due j None l = refl
here_due j (Some p) l = rw l refl

due_here : (j : ℕ) (p : Option Parent) → is_due j p None ≡ true → ListsAt j p
due_here j None d = tt
due_here j (Some p) d = sym (or-false (has p.unmerged_leaves j)) ∙ d

pub listed_due : (j : ℕ) (ss : List Step) (sk : List ℕ) → AllList j ss → is_complete j ss (leaf_only ss sk) ≡ true
unfolding AllList is_complete leaf_only
listed_due j [] sk a = refl
listed_due j (s ∷ ss) sk a = let e = here_due j s.parent a.0 in rw e (listed_due j ss sk a.1)

pub due_listed : (j : ℕ) (ss : List Step) (sk : List ℕ) → is_complete j ss (leaf_only ss sk) ≡ true → AllList j ss
unfolding AllList is_complete leaf_only
due_listed j [] sk d = tt
due_listed j (s ∷ ss) sk d =
    let e = and_parts (is_due j s.parent None) (is_complete j ss (leaf_only ss sk)) d in
    (due_here j s.parent e.0, due_listed j ss sk e.1)

pub leaf_due : LeafHasDue
leaf_due j ss sk = subst (λ (ks : Keys). (is_complete j ss ks ≡ true) ↔ AllList j ss) (sym (leaf_is_on_way ss sk)) (due_listed j ss sk, listed_due j ss sk)

pub leaf_exact : LeafExact
leaf_exact c t j x sk leaf own =
    let sound : AreKeysOnWay c (Sound c j) 0 t j (leaf_only (way 0 t j) sk) = rw leaf (own_sound c j (way 0 t j) x sk own) in
    subst (λ (ks : Keys). is_complete j (way 0 t j) ks ≡ true → Exact c 0 t j ks) (sym (leaf_is_on_way (way 0 t j) sk))
    (exact_from c j (way 0 t j) (leaf_at 0 t j) (leaf_only (way 0 t j) sk) sound)

-- ---- a tree that was made

abbrev Due : ℕ → Option Parent → Option (List ℕ) → Type 0
Due j p o = is_due j p o ≡ true

own_due : (c : Crypto) (j : ℕ) (ss : List Step) (x : LeafNode) (sk : List ℕ) → c.public sk ≡ x.encryption_key → AllList j ss → AreKeysAlong c (Due j) ss (Some x) (leaf_only ss sk)
unfolding AreKeysAlong leaf_only AllList
own_due c j [] x sk h a = h
own_due c j (s ∷ ss) x sk h a = (at_parent s.parent a.0, own_due c j ss x sk h a.1)
  where
    at_parent : (p : Option Parent) → ListsAt j p → Due j p None
    at_parent None l = refl
    at_parent (Some p) l = rw l refl

complete_from : (c : Crypto) (j : ℕ) (ss : List Step) (x : Option LeafNode) (ks : Keys) → AreKeysAlong c (Due j) ss x ks → is_complete j ss ks ≡ true
unfolding AreKeysAlong is_complete
complete_from c j [] x ks h = refl
complete_from c j (s ∷ ss) x [] h = absurd h
complete_from c j (s ∷ ss) x (o ∷ ks) h = let e : is_due j s.parent o ≡ true = h.0 in rw e (complete_from c j ss x ks h.1)

-- the keys that the joiner shares with the committer are due in the merged tree
shared_due : (c : Crypto) (j : ℕ) (start sk : List ℕ) (ss : List Step) (h : List ℕ) (ks : Keys) → Meets c (Due j) j ss ks →
    Meets c (Due j) j (merged_way ss (path_keys c ss start) h) (shared_keys ss j (made_keys c ss start sk) ks)
unfolding Meets merged_way path_keys made_keys shared_keys has
shared_due c j start sk [] h ks m = absurd m
shared_due c j start sk (s ∷ ss) h [] m = absurd m
shared_due c j start sk (s ∷ ss) h (o ∷ ks) m = by_tests (is_filtered s) (is_beside s j) refl m.1 (λ (g : List ℕ). shared_due c j start sk ss g ks)
  where
    made : Keys
    made = made_keys c ss start sk

    keys : List (List ℕ)
    keys = path_keys c ss start

    secret : List ℕ
    secret = secret_above ss start

    by_tests : (t u : Bool) → is_beside s j ≡ u → Choose u (AreKeysOnWay c (Due j) s.first s.other j ks) (Meets c (Due j) j ss ks) →
        ((g : List ℕ) → Meets c (Due j) j ss ks → Meets c (Due j) j (merged_way ss keys g) (shared_keys ss j made ks)) →
        Meets c (Due j) j
        (step_at (new_parent t (more_if t (node_public c secret) keys) h) s.node s.first s.other
        ∷ merged_way ss (keys_below t (more_if t (node_public c secret) keys)) (hash_below (new_parent t (more_if t (node_public c secret) keys) h) s.first s.other h))
        (shared_keys (s ∷ ss) j (key_if t (node_key c secret) ∷ made) (o ∷ ks))
    by_tests true true e m rec = rw e (refl, m)
    by_tests true false e m rec = rw e (refl, rec _ m)
    by_tests false true e m rec = rw e (refl, m)
    by_tests false false e m rec = rw e (refl, rec _ m)

-- the joiner's climb is the committer's
take_along : (c : Crypto) (F : Option Parent → Option (List ℕ) → Type 0) (j : ℕ) (start sk : List ℕ) (ss : List Step) (h : List ℕ) (ks : Keys) → Meets c F j ss ks →
    climb_take c (merged_way ss (path_keys c ss start) h) j ks (secret_for ss j start)
    ≡ Ok (record { secret = secret_above ss start; keys = shared_keys ss j (made_keys c ss start sk) ks })
unfolding Meets merged_way path_keys made_keys shared_keys climb_take secret_for filtered_count chain has
take_along c F j start sk [] h ks m = absurd m
take_along c F j start sk (s ∷ ss) h [] m = absurd m
take_along c F j start sk (s ∷ ss) h (o ∷ ks) m = by_tests (is_beside s j) (is_filtered s) refl refl m.1 (λ (g : List ℕ). take_along c F j start sk ss g ks)
  where
    made : Keys
    made = made_keys c ss start sk

    keys : List (List ℕ)
    keys = path_keys c ss start

    secret : List ℕ
    secret = secret_above ss start

    same_key : bytes_eq (node_public c secret) (node_public c secret) ≡ true
    same_key = (bytes_eq-Decides (node_public c secret) (node_public c secret)).1 refl

    top : Parent
    top = record { encryption_key = node_public c secret; parent_hash = h; unmerged_leaves = [] }

    by_tests : (u t : Bool) → is_beside s j ≡ u → is_filtered s ≡ t → Choose u (AreKeysOnWay c F s.first s.other j ks) (Meets c F j ss ks) →
        ((g : List ℕ) → Meets c F j ss ks → climb_take c (merged_way ss keys g) j ks (secret_for ss j start) ≡ Ok (record { secret = secret; keys = shared_keys ss j made ks })) →
        climb_take c
        (step_at (new_parent t (more_if t (node_public c secret) keys) h) s.node s.first s.other
        ∷ merged_way ss (keys_below t (more_if t (node_public c secret) keys)) (hash_below (new_parent t (more_if t (node_public c secret) keys) h) s.first s.other h))
        j (o ∷ ks) (secret_for (s ∷ ss) j start)
        ≡ Ok (record { secret = chain start (one_if t (filtered_count ss)); keys = shared_keys (s ∷ ss) j (key_if t (node_key c secret) ∷ made) (o ∷ ks) })
    by_tests true false e f m rec = let g = beside_filtered c F s j ks m in absurd (cc (f, g))
    by_tests true true e f m rec = rw (e, same_key) refl
    by_tests false true e f m rec = let q = rec (parent_hash top s.first s.other) m in rw (e, q, same_key) refl
    by_tests false false e f m rec = let q = rec h m in rw (e, q) refl

-- the way to a leaf is as long as before
own_at_leaf : (b : ℕ) (v : Option LeafNode) (i j : ℕ) (ks : List (List ℕ)) (h : List ℕ) (x : LeafNode) (own : List ℕ) → leaf_only (way b (merge b (Leaf v) i ks h x) j) own ≡ leaf_only (way b (Leaf v) j) own
unfolding merge way
own_at_leaf b v i j ks h x own = refl

pub own_merge : (b : ℕ) (t : Term) (i j : ℕ) (ks : List (List ℕ)) (h : List ℕ) (x : LeafNode) (own : List ℕ) → leaf_only (way b (merge b t i ks h x) j) own ≡ leaf_only (way b t j) own
unfolding leaf_only
own_merge b (Leaf v) i j ks h x own = own_at_leaf b v i j ks h x own
own_merge b (Branch p l r) i j ks h x own = elim (cases_lt i (b + width l)) [
  | inl li ↦
      let ks' : List (List ℕ) = keys_beside (b + width l) r ks in
      let h' : List ℕ = hash_beside (b + width l) r ks h in
      let w = width-merge b l i ks' h' x in
      let q : Option Parent = parent_beside (b + width l) r ks h in
      rw (merge_left b p l r i ks h x li) (elim (cases_lt j (b + width l)) [
        | inl lj ↦
            let k : j < b + width (merge b l i ks' h' x) = omega arith in
            rw (way_left b q (merge b l i ks' h' x) r j k, way_left b p l r j lj) (ap (λ zs. None ∷ zs) (own_merge b l i j ks' h' x own))
        | inr rj ↦
            let k : b + width (merge b l i ks' h' x) ≤ j = omega arith in
            rw (way_right b q (merge b l i ks' h' x) r j k, way_right b p l r j rj, w) refl
      ])
  | inr ri ↦
      let ks' : List (List ℕ) = keys_beside b l ks in
      let h' : List ℕ = hash_beside b l ks h in
      let q : Option Parent = parent_beside b l ks h in
      rw (merge_right b p l r i ks h x ri) (elim (cases_lt j (b + width l)) [
        | inl lj ↦ rw (way_left b q l (merge (b + width l) r i ks' h' x) j lj, way_left b p l r j lj) refl
        | inr rj ↦ rw (way_right b q l (merge (b + width l) r i ks' h' x) j rj, way_right b p l r j rj) (ap (λ zs. None ∷ zs) (own_merge (b + width l) r i j ks' h' x own))
      ])
]

pub take_agree : (c : Crypto) (t : Term) (i j : ℕ) (h : List ℕ) (x y : LeafNode) (start sk own : List ℕ) → IsIn 0 t i → IsIn 0 t j → (j ≡ i → ⊥) →
    leaf_at 0 t j ≡ Some y → c.public own ≡ y.encryption_key → AllList j (way 0 t j) →
    take_keys c (merge 0 t i (path_keys c (way 0 t i) start) h x) i j own (secret_for (way 0 t i) j start)
    ≡ Ok (record { secret = (climb_make c (way 0 t i) start sk).secret; keys = shared_keys (way 0 t i) j (climb_make c (way 0 t i) start sk).keys (leaf_only (way 0 t j) own) })
unfolding take_keys
take_agree c t i j h x y start sk own hi hj ne leaf is_own lists =
    let keys : List (List ℕ) = path_keys c (way 0 t i) start in
    let made : Term = merge 0 t i keys h x in
    let got : Keys = shared_keys (way 0 t i) j (made_keys c (way 0 t i) start sk) (leaf_only (way 0 t j) own) in
    let size : width made ≡ width t = width-merge 0 t i keys h x in
    let before : Meets c (Due j) j (way 0 t i) (leaf_only (way 0 t j) own) = meets_from c (Due j) i j ne 0 t (leaf_only (way 0 t j) own) hi hj (rw leaf (own_due c j (way 0 t j) y own is_own lists)) in
    let taken = take_along c (Due j) j start sk (way 0 t i) h (leaf_only (way 0 t j) own) before in
    let due : AreKeysOnWay c (Due j) 0 made j got =
    along_from c (Due j) i j ne 0 made got
    (record { low = hi.low; high = rw size hi.high }) (record { low = hj.low; high = rw size hj.high })
    (rw (way_merge 0 t i keys h x) (shared_due c j start sk (way 0 t i) h (leaf_only (way 0 t j) own) before)) in
    let full = complete_from c j (way 0 made j) (leaf_at 0 made j) got due in
    let same_own : leaf_only (way 0 made j) own ≡ leaf_only (way 0 t j) own = own_merge 0 t i j keys h x own in
    rw (way_merge 0 t i keys h x, same_own, taken, full) refl

-- ---- who was just added is listed by each parent over it that isn't blank

entered_at : (j : ℕ) (p : Option Parent) → ListsAt j (list_leaf j p)
entered_at j None = tt
entered_at j (Some p) = has-with j p.unmerged_leaves j ∙ or_right (has p.unmerged_leaves j) (j == j) (eq-eqb j j refl)

entered_leaf : (b : ℕ) (v : Option LeafNode) (j : ℕ) (x : LeafNode) → AllList j (way b (enter b (Leaf v) j x) j)
unfolding AllList enter way
entered_leaf b v j x = tt

pub entered_lists : EnteredLists
unfolding AllList
entered_lists b (Leaf v) j x = entered_leaf b v j x
entered_lists b (Branch p l r) j x = elim (cases_lt j (b + width l)) [
  | inl lj ↦
      let w = width-enter b l j x in
      let k : j < b + width (enter b l j x) = omega arith in
      rw (enter_left b p l r j x lj, way_left b (list_leaf j p) (enter b l j x) r j k) (entered_at j p, entered_lists b l j x)
  | inr rj ↦ rw (enter_right b p l r j x rj, way_right b (list_leaf j p) l (enter (b + width l) r j x) j rj) (entered_at j p, entered_lists (b + width l) r j x)
]

tame_lists_at : (j : ℕ) (p q : Option Parent) → ListsAt j p → TameAt j p q → ListsAt j q
tame_lists_at j p None h t = tt
tame_lists_at j None (Some q) h t = absurd t
tame_lists_at j (Some p) (Some q) h t = sym t.1 ∙ h

-- and stays so through tame edits
pub tame_lists : (j : ℕ) (ss ts : List Step) → AllList j ss → TameAlong j ss ts → AllList j ts
unfolding AllList TameAlong
tame_lists j [] [] h t = tt
tame_lists j [] (s ∷ ts) h t = absurd t
tame_lists j (s ∷ ss) [] h t = absurd t
tame_lists j (s ∷ ss) (s' ∷ ts) h t = (tame_lists_at j s.parent s'.parent h.0 t.0, tame_lists j ss ts h.1 t.1)

-- a signer of the tree
pub take_inside : TakeInside
unfolding take_answer
take_inside c t i j own secret here = let lt : i < width t = (let high : i < 0 + width t = here.high in omega arith) in cond-true _ _ _ (lt-ltb i (width t) lt)
