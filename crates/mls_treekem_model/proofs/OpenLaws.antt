-- What a receiver opens: exact keys whatever comes, and the committer's secrets where the path is made.
use Rattle.std.proofs.Common.{◌≡◌, ℕ, zero, suc, ◌+◌, Bool, true, false, if◌then◌else◌, nat_lt, nat_le, List, [], ◌∷◌, map, length, Option, Some, None, is_some, Result, Ok, Err, refl, ap, sym, subst, inl, inr, eq-eqb, ltb-true, leb-true}
use Rattle.std.specs.Str.{bytes_eq}
use Rattle.std.proofs.lemmas.Slice.Eq.{bytes_eq-Decides}
use Rattle.std.proofs.lemmas.Bool.{and_parts, cases_lt}
use Rattle.mls_wire.specs.Laws.{bind_ok}
use Rattle.mls_kdf.proofs.Lengths.{length-derive_secret}
use Rattle.mls_types.specs.declared.update_path.HpkeCiphertext.{HpkeCiphertext}
use Rattle.mls_types.specs.declared.update_path.UpdatePathNode.{UpdatePathNode}
use Rattle.mls_leaf.specs.Parent.{Parent}
use Rattle.mls_leaf.specs.declared.leaf.LeafNode.{LeafNode}
use Rattle.mls_tree_model.specs.Sets.{has}
use Rattle.mls_tree_model.specs.Term.{Term, Leaf, Branch, width, leaf_at}
use Rattle.mls_tree_model.specs.Places.{key_at}
use Rattle.mls_tree_model.specs.Way.{Step, way, is_filtered, is_beside}
use Rattle.mls_tree_model.specs.Merge.{merge, new_parent, keys_below, keys_beside, hash_beside}
use Rattle.mls_tree_model.proofs.Equations.{way_left, way_right}
use Rattle.mls_tree_model.specs.Laws.{IsIn}
use Rattle.mls_tree_model.proofs.ResolutionLaws.{reached}
use Rattle.mls_tree_model.proofs.MemberLaws.{leaf_taken}
use Rattle.mls_tree_model.proofs.MergeLaws.{width-merge}
use Rattle.mls_suite.specs.Crypto.{Crypto, Lawful}
use Rattle.mls_treekem_model.specs.Chain.{next_secret, chain, node_key, node_public}
use Rattle.mls_treekem_model.specs.Keys.{Keys, HoldsDueKey, AreKeysOnWay, Exact, rest, key_in}
use Rattle.mls_treekem_model.specs.Make.{climb_past_node, climb_past_blank, Climb, one_if, filtered_count, secret_above, made_keys, climb_make}
use Rattle.mls_treekem_model.specs.Lists.{ListsBelow}
use Rattle.mls_treekem_model.specs.Seal.{Choose, targets, seal_secret, IsSealedTo, IsSealedToAll, IsNodeFor, IsPathOf}
use Rattle.mls_treekem_model.specs.Open.{opened_along, nodes_below, open_with, open_first, first_ciphertexts, open_at_ancestor, climb_past_filtered, climb_past_parent, climb_open}
use Rattle.mls_treekem_model.specs.Join.{secret_for}
use Rattle.mls_treekem_model.proofs.FollowLaws.{along_taken}
use Rattle.mls_treekem_model.proofs.MeetLaws.{Meets, meets_from, along_from}
use Rattle.mls_treekem_model.proofs.ListLaws.{lists_left, lists_right}
use Rattle.mls_treekem_model.proofs.EntryLaws.{one_entry, entry_key}
use Rattle.mls_treekem_model.proofs.MakeLaws.{merged_way, way_merge}
use Rattle.mls_treekem_model.proofs.SealLaws.{unsealed}
use Rattle.mls_treekem_model.specs.Laws.{shared_keys, held_count}

abbrev keys_of : List UpdatePathNode → List (List ℕ)
keys_of ns = map (λ n. n.encryption_key) ns

keys_left : (t : Bool) (ns : List UpdatePathNode) → keys_of (nodes_below t ns) ≡ keys_below t (keys_of ns)
keys_left true [] = refl
keys_left true (n ∷ ns) = refl
keys_left false ns = refl

-- past a parent: the new key fits the parent of the merged tree
record Passes (c : Crypto) (j : ℕ) (p : Option Parent) (m m' : Climb) : Type 0 where
  top : Option (List ℕ)
  keys_are : m'.keys ≡ top ∷ m.keys
  fits : HoldsDueKey c j p top

passes : (c : Crypto) (j : ℕ) (t : Bool) (ns : List UpdatePathNode) (h : List ℕ) (m m' : Climb) → climb_past_parent c t ns m ≡ Ok m' → Passes c j (new_parent t (keys_of ns) h) m m'
passes c j false ns h m m' e =
    let made : Climb = climb_past_blank m in
    let q : made ≡ m' = cc in
    record { top = None; keys_are = sym (ap (λ (z : Climb). z.keys) q); fits = tt }
passes c j true [] h m m' e = cc
passes c j true (n ∷ ns) h m m' e = by_test (bytes_eq (node_public c m.secret) n.encryption_key) refl e
  where
    by_test : (t : Bool) → bytes_eq (node_public c m.secret) n.encryption_key ≡ t →
        if◌then◌else◌ {A = Result Climb ℕ} t (Ok (climb_past_node c m)) (Err 34) ≡ Ok m' → Passes c j (new_parent true (keys_of (n ∷ ns)) h) m m'
    by_test true f e =
        let made : Climb = climb_past_node c m in
        let same : made ≡ m' = cc in
        record { top = Some (node_key c m.secret); keys_are = sym (ap (λ (z : Climb). z.keys) same); fits = unfold has in (bytes_eq-Decides (node_public c m.secret) n.encryption_key).0 f }
    by_test false f e = cc

meets_open : (c : Crypto) (context : List ℕ) (added : List ℕ) (j : ℕ) (ss : List Step) (ks : Keys) (ns : List UpdatePathNode) (h : List ℕ) (m : Climb) →
    Meets c (HoldsDueKey c j) j ss ks → climb_open c context added ss j ks ns ≡ Ok m → Meets c (HoldsDueKey c j) j (merged_way ss (keys_of ns) h) m.keys
unfolding Meets climb_open merged_way
meets_open c context added j [] ks ns h m k e = absurd k
meets_open c context added j (s ∷ ss) [] ns h m k e = absurd k
meets_open c context added j (s ∷ ss) (o ∷ ks) ns h m k e =
    let b = bind_ok (if is_beside s j then open_at_ancestor c context added s j ks ns else climb_open c context added ss j ks (nodes_below (is_filtered s) ns)) (λ z. climb_past_parent c (is_filtered s) ns z) m e in
    let p = passes c j (is_filtered s) ns h b.0 m b.2 in
    subst (λ (zs : Keys). Meets c (HoldsDueKey c j) j (merged_way (s ∷ ss) (keys_of ns) h) zs) (sym p.keys_are)
    (p.fits, by_side (is_beside s j) b.0 b.1 k.1 (λ (g : List ℕ). meets_open c context added j ss ks (nodes_below (is_filtered s) ns) g b.0))
  where
    by_side : (t : Bool) (m0 : Climb) → (if t then open_at_ancestor c context added s j ks ns else climb_open c context added ss j ks (nodes_below (is_filtered s) ns)) ≡ Ok m0 →
        Choose t (AreKeysOnWay c (HoldsDueKey c j) s.first s.other j ks) (Meets c (HoldsDueKey c j) j ss ks) →
        ((g : List ℕ) → Meets c (HoldsDueKey c j) j ss ks → climb_open c context added ss j ks (nodes_below (is_filtered s) ns) ≡ Ok m0 → Meets c (HoldsDueKey c j) j (merged_way ss (keys_of (nodes_below (is_filtered s) ns)) g) m0.keys) →
        Choose t (AreKeysOnWay c (HoldsDueKey c j) s.first s.other j m0.keys) (Meets c (HoldsDueKey c j) j (merged_way ss (keys_beside s.first s.other (keys_of ns)) (hash_beside s.first s.other (keys_of ns) h)) m0.keys)
    by_side true m0 e k rec =
        let b = bind_ok (open_first c context (key_in s.first s.other j ks) (targets added s) (first_ciphertexts ns)) (λ secret. Ok (record { secret = secret; keys = ks })) m0 e in
        let made : Climb = record { secret = b.0; keys = ks } in
        let same : made ≡ m0 = cc (b.2) in
        subst (λ (z : Climb). AreKeysOnWay c (HoldsDueKey c j) s.first s.other j z.keys) same k
    by_side false m0 e k rec =
        let g : List ℕ = hash_beside s.first s.other (keys_of ns) h in
        subst (λ (zs : List (List ℕ)). Meets c (HoldsDueKey c j) j (merged_way ss zs g) m0.keys) (keys_left (is_filtered s) ns) (rec g k e)

-- what is accepted keeps exact keys
pub climb_exact : (c : Crypto) (context : List ℕ) (added : List ℕ) (b : ℕ) (t : Term) (i j : ℕ) (ks : Keys) (ns : List UpdatePathNode) (h : List ℕ) (x : LeafNode) (m : Climb) →
    IsIn b t i → IsIn b t j → (j ≡ i → ⊥) → Exact c b t j ks → climb_open c context added (way b t i) j ks ns ≡ Ok m → Exact c b (merge b t i (map (λ n. n.encryption_key) ns) h x) j m.keys
climb_exact c context added b t i j ks ns h x m hi hj ne k e =
    let size : width (merge b t i (keys_of ns) h x) ≡ width t = width-merge b t i (keys_of ns) h x in
    let before : Meets c (HoldsDueKey c j) j (way b t i) ks = meets_from c (HoldsDueKey c j) i j ne b t ks hi hj k in
    let after : Meets c (HoldsDueKey c j) j (merged_way (way b t i) (keys_of ns) h) m.keys = meets_open c context added j (way b t i) ks ns h m before e in
    along_from c (HoldsDueKey c j) i j ne b (merge b t i (keys_of ns) h x) m.keys
    (record { low = hi.low; high = rw size hi.high }) (record { low = hj.low; high = rw size hj.high })
    (rw (way_merge b t i (keys_of ns) h x) after)

-- ---- a path that was made

pub chain_length : (start : List ℕ) (k : ℕ) → length start ≡ 32 → length (chain start k) ≡ 32
unfolding chain next_secret
chain_length start zero h = h
chain_length start (suc k) h = length-derive_secret (chain start k) _

-- what the ciphertexts hold is opened by the first key that is held
opens : (c : Crypto) (l : Lawful c) (context secret : List ℕ) → length secret ≡ 32 → (b : ℕ) (t : Term) (f : ℕ → Option (List ℕ)) →
    ((d : ℕ) (k : List ℕ) → f d ≡ Some k → key_at b t d ≡ Some (c.public k)) → (ds : List ℕ) (xs : List HpkeCiphertext) (a : ℕ) →
    IsSealedToAll c context secret b t ds xs → held_count f ds ≡ suc a → open_first c context f ds xs ≡ Ok secret
unfolding IsSealedToAll held_count open_first
opens c l context secret long b t f known [] xs a h e = cc
opens c l context secret long b t f known (d ∷ ds) [] a h e = absurd h
opens c l context secret long b t f known (d ∷ ds) (x ∷ xs) a h e = by_key (f d) refl e (opens c l context secret long b t f known ds xs a h.1)
  where
    by_key : (o : Option (List ℕ)) → f d ≡ o → one_if (is_some o) (held_count f ds) ≡ suc a → (held_count f ds ≡ suc a → open_first c context f ds xs ≡ Ok secret) →
        open_with c context o x (open_first c context f ds xs) ≡ Ok secret
    by_key (Some k) q e rec =
        let s : IsSealedTo c context secret (key_at b t d) x = h.0 in
        let same : s.pk ≡ c.public k = cc (s.key_is, known d k q) in
        let sealed : seal_secret c context secret (c.public k) s.rnd ≡ Some x = subst (λ (z : List ℕ). seal_secret c context secret z s.rnd ≡ Some x) same s.seals in
        let u = unsealed c l context secret k s.rnd x sealed in
        let v = eq-eqb (length secret) 32 long in
        rw (u, v) refl
    by_key None q e rec = rec e

-- each other side of a way has lists of leaves below
unfoldable pub GoodSides : List Step → Type 0
GoodSides [] = Unit {0}
GoodSides (s ∷ ss) = ListsBelow s.first s.other × GoodSides ss

good_at_leaf : (b : ℕ) (v : Option LeafNode) (i : ℕ) → GoodSides (way b (Leaf v) i)
unfolding way GoodSides
good_at_leaf b v i = tt

pub good_sides : (b : ℕ) (t : Term) (i : ℕ) → ListsBelow b t → GoodSides (way b t i)
unfolding GoodSides
good_sides b (Leaf v) i h = good_at_leaf b v i
good_sides b (Branch p l r) i h = elim (cases_lt i (b + width l)) [
  | inl li ↦ rw (way_left b p l r i li) (lists_right b p l r h, good_sides b l i (lists_left b p l r h))
  | inr ri ↦ rw (way_right b p l r i ri) (lists_left b p l r h, good_sides (b + width l) r i (lists_right b p l r h))
]

pub beside_in : (s : Step) (j : ℕ) → is_beside s j ≡ true → IsIn s.first s.other j
beside_in s j h =
    let k = and_parts (nat_le s.first j) (nat_lt j (s.first + width s.other)) h in
    record { low = leb-true s.first j k.0; high = ltb-true j (s.first + width s.other) k.1 }

-- where a member is beside, the parent is filtered
pub beside_filtered : (c : Crypto) (F : Option Parent → Option (List ℕ) → Type 0) (s : Step) (j : ℕ) (ks : Keys) → AreKeysOnWay c F s.first s.other j ks → is_filtered s ≡ true
beside_filtered c F s j ks h = reached s.first s.other (leaf_taken s.first s.other j (along_taken c F (way s.first s.other j) (leaf_at s.first s.other j) ks h))

-- past a filtered parent that has the derived key
past_made : (c : Crypto) (n : UpdatePathNode) (ns : List UpdatePathNode) (m : Climb) → n.encryption_key ≡ node_public c m.secret →
    climb_past_filtered c (n ∷ ns) m ≡ Ok (climb_past_node c m)
past_made c n ns m h =
    let e : bytes_eq (node_public c m.secret) n.encryption_key ≡ true = (bytes_eq-Decides (node_public c m.secret) n.encryption_key).1 (sym h) in
    rw e refl

-- at the parent where the ways part, a member opens what was sealed for its side
opened_here : (c : Crypto) (l : Lawful c) (context : List ℕ) (added : List ℕ) (j : ℕ) (s : Step) (secret : List ℕ) (ks : Keys) (ns : List UpdatePathNode) → length secret ≡ 32 → has added j ≡ false → ListsBelow s.first s.other → is_beside s j ≡ true → AreKeysOnWay c (HoldsDueKey c j) s.first s.other j ks → IsNodeFor c context added s secret ns →
    open_first c context (key_in s.first s.other j ks) (targets added s) (first_ciphertexts ns) ≡ Ok secret
opened_here c l context added j s secret ks [] long old good e h node = absurd node
opened_here c l context added j s secret ks (n ∷ ns) long old good e h node =
    let inside : IsIn s.first s.other j = beside_in s j e in
    let one : held_count (key_in s.first s.other j ks) (targets added s) ≡ 1 = unfold targets in one_entry c added s.first s.other j ks good inside h old in
    opens c l context secret long s.first s.other (key_in s.first s.other j ks)
    (λ (d : ℕ) (k : List ℕ) (q : key_in s.first s.other j ks d ≡ Some k). entry_key c s.first s.other j ks d k inside h q)
    (targets added s) n.ciphertexts 0 node.1 one

pub opened_along_is : (c : Crypto) (l : Lawful c) (context : List ℕ) (added : List ℕ) (j : ℕ) (start : List ℕ) → length start ≡ 32 → has added j ≡ false →
    (ss : List Step) (ks : Keys) (ns : List UpdatePathNode) → GoodSides ss → Meets c (HoldsDueKey c j) j ss ks → IsPathOf c context added ss start ns →
    opened_along c context added ss j ks ns ≡ Ok (secret_for ss j start)
unfolding GoodSides Meets IsPathOf opened_along secret_for
opened_along_is c l context added j start long old [] ks ns good h path = absurd h
opened_along_is c l context added j start long old (s ∷ ss) [] ns good h path = absurd h
opened_along_is c l context added j start long old (s ∷ ss) (o ∷ ks) ns good h path =
    by_tests (is_beside s j) (is_filtered s) refl refl h.1 path (opened_along_is c l context added j start long old ss ks (nodes_below (is_filtered s) ns) good.1)
  where
    secret : List ℕ
    secret = secret_above ss start

    by_tests : (u t : Bool) → is_beside s j ≡ u → is_filtered s ≡ t →
        Choose u (AreKeysOnWay c (HoldsDueKey c j) s.first s.other j ks) (Meets c (HoldsDueKey c j) j ss ks) →
        Choose t (IsNodeFor c context added s secret ns × IsPathOf c context added ss start (rest ns)) (IsPathOf c context added ss start ns) →
        (Meets c (HoldsDueKey c j) j ss ks → IsPathOf c context added ss start (nodes_below (is_filtered s) ns) → opened_along c context added ss j ks (nodes_below (is_filtered s) ns) ≡ Ok (secret_for ss j start)) →
        (if u then open_first c context (key_in s.first s.other j ks) (targets added s) (first_ciphertexts ns) else opened_along c context added ss j ks (nodes_below (is_filtered s) ns))
        ≡ Ok (if u then secret else secret_for ss j start)
    by_tests true false e f h path rec = let g = beside_filtered c (HoldsDueKey c j) s j ks h in absurd (cc (f, g))
    by_tests true true e f h path rec = opened_here c l context added j s secret ks ns (chain_length start (filtered_count ss) long) old good.0 e h path.0
    by_tests false true e f h path rec = rec h (rw f path.1)
    by_tests false false e f h path rec = rec h (rw f path)

agree_along : (c : Crypto) (l : Lawful c) (context : List ℕ) (added : List ℕ) (j : ℕ) (start sk : List ℕ) → length start ≡ 32 → has added j ≡ false →
    (ss : List Step) (ks : Keys) (ns : List UpdatePathNode) → GoodSides ss → Meets c (HoldsDueKey c j) j ss ks → IsPathOf c context added ss start ns →
    climb_open c context added ss j ks ns ≡ Ok (record { secret = secret_above ss start; keys = shared_keys ss j (made_keys c ss start sk) ks })
unfolding GoodSides Meets IsPathOf climb_open shared_keys made_keys filtered_count chain
agree_along c l context added j start sk long old [] ks ns good h path = absurd h
agree_along c l context added j start sk long old (s ∷ ss) [] ns good h path = absurd h
agree_along c l context added j start sk long old (s ∷ ss) (o ∷ ks) ns good h path =
    by_tests (is_beside s j) (is_filtered s) refl refl h.1 path (agree_along c l context added j start sk long old ss ks (nodes_below (is_filtered s) ns) good.1)
  where
    secret : List ℕ
    secret = secret_above ss start

    made : Keys
    made = made_keys c ss start sk

    at_parent : (ns : List UpdatePathNode) → IsNodeFor c context added s secret ns → (zs : Keys) →
        climb_past_parent c true ns (record { secret = secret; keys = zs }) ≡ Ok (record { secret = next_secret secret; keys = Some (node_key c secret) ∷ zs })
    at_parent [] h zs = absurd h
    at_parent (n ∷ ns) h zs = past_made c n ns (record { secret = secret; keys = zs }) h.0

    here : (ns : List UpdatePathNode) → is_beside s j ≡ true → AreKeysOnWay c (HoldsDueKey c j) s.first s.other j ks → IsNodeFor c context added s secret ns →
        open_at_ancestor c context added s j ks ns ≡ Ok (record { secret = secret; keys = ks })
    here ns e h node = let q = opened_here c l context added j s secret ks ns (chain_length start (filtered_count ss) long) old good.0 e h node in rw q refl

    by_tests : (u t : Bool) → is_beside s j ≡ u → is_filtered s ≡ t →
        Choose u (AreKeysOnWay c (HoldsDueKey c j) s.first s.other j ks) (Meets c (HoldsDueKey c j) j ss ks) →
        Choose t (IsNodeFor c context added s secret ns × IsPathOf c context added ss start (rest ns)) (IsPathOf c context added ss start ns) →
        (Meets c (HoldsDueKey c j) j ss ks → IsPathOf c context added ss start (nodes_below (is_filtered s) ns) →
        climb_open c context added ss j ks (nodes_below (is_filtered s) ns) ≡ Ok (record { secret = secret; keys = shared_keys ss j made ks })) →
        climb_open c context added (s ∷ ss) j (o ∷ ks) ns ≡ Ok (record { secret = secret_above (s ∷ ss) start; keys = shared_keys (s ∷ ss) j (made_keys c (s ∷ ss) start sk) (o ∷ ks) })
    by_tests true false e f h path rec = let g = beside_filtered c (HoldsDueKey c j) s j ks h in absurd (cc (f, g))
    by_tests true true e f h path rec =
        let q = here ns e h path.0 in
        let p = at_parent ns path.0 ks in
        rw (f, e, q) p
    by_tests false true e f h path rec =
        let q = (rw f at rec) h path.1 in
        let p = at_parent ns path.0 (shared_keys ss j made ks) in
        rw (f, e, q) p
    by_tests false false e f h path rec =
        let q = (rw f at rec) h path in
        rw (f, e, q) refl

pub climb_agree : (c : Crypto) (l : Lawful c) (context : List ℕ) (added : List ℕ) (b : ℕ) (t : Term) (i j : ℕ) (start sk : List ℕ) (ks : Keys) (ns : List UpdatePathNode) → length start ≡ 32 →
    IsIn b t i → IsIn b t j → (j ≡ i → ⊥) → ListsBelow b t → Exact c b t j ks → has added j ≡ false → IsPathOf c context added (way b t i) start ns →
    climb_open c context added (way b t i) j ks ns ≡ Ok (record { secret = (climb_make c (way b t i) start sk).secret; keys = shared_keys (way b t i) j (climb_make c (way b t i) start sk).keys ks })
climb_agree c l context added b t i j start sk ks ns long hi hj ne good h old path =
    agree_along c l context added j start sk long old (way b t i) ks ns (good_sides b t i good) (meets_from c (HoldsDueKey c j) i j ne b t ks hi hj h) path
