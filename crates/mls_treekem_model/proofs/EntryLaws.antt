-- In the resolution of a tree over a member, just one node has a key that the member has.
use Rattle.std.proofs.Common.{◌≡◌, ℕ, ◌+◌, ◌*◌, ◌<◌, ◌≤◌, ◌⊎◌, Bool, true, false, not, ◌==◌, if◌then◌else◌, List, [], ◌∷◌, Option, Some, None, is_some, refl, ap, sym, ◌∙◌, subst, inl, inr, arith, eq-eqb, ne_eqb, lt-ltb, le-ltb, suc, length, filter}
use Rattle.std.proofs.lemmas.Bool.{cond-true, cond-false, cases_lt, cases_eq, cases_Bool}
use Rattle.std.proofs.lemmas.Option.{none-some}
use Rattle.mls_leaf.specs.Parent.{Parent}
use Rattle.mls_leaf.specs.declared.leaf.LeafNode.{LeafNode}
use Rattle.mls_tree_model.specs.Term.{Term, Leaf, Branch, width, size, leaf_at}
use Rattle.mls_tree_model.specs.Sets.{has, leaf_numbers, less}
use Rattle.mls_tree_model.specs.Resolution.{resolution}
use Rattle.mls_tree_model.specs.Lists.{may_list}
use Rattle.mls_tree_model.specs.Places.{leaf_own_key, parent_own_key, own_key, key_at}
use Rattle.mls_tree_model.specs.HeldKeys.{holds_key_of}
use Rattle.mls_tree_model.specs.Way.{Step, way}
use Rattle.mls_tree_model.proofs.Equations.{way_left, way_right, at_node_leaf, at_node_here, at_node_left, at_node_right}
use Rattle.mls_tree_model.specs.Laws.{IsIn}
use Rattle.mls_tree_model.proofs.ShapeLaws.{size-width}
use Rattle.mls_tree_model.proofs.EntryLaws.{one_held_of_rest}
use Rattle.mls_suite.specs.Crypto.{Crypto}
use Rattle.mls_treekem_model.specs.Keys.{Keys, HoldsKey, HoldsDueKey, IsOwnKey, AreKeysAlong, AreKeysOnWay, key_for, key_in}
use Rattle.mls_treekem_model.specs.Lists.{below_here}
use Rattle.mls_treekem_model.proofs.WayLaws.{along_none, along_left, along_right}
use Rattle.mls_treekem_model.proofs.FollowLaws.{along_taken}
use Rattle.mls_treekem_model.proofs.ListLaws.{below_bound}
use Rattle.mls_treekem_model.specs.Laws.{EntryKey, KeyWhereHeld, OneEntry, held_count}

-- ---- the key at a node

pub key_nil : (ss : List Step) (j d : ℕ) → key_for ss j [] d ≡ None
unfolding key_for
key_nil [] j d = refl
key_nil (s ∷ ss) j d = refl

pub key_at_leaf : (b : ℕ) (v : Option LeafNode) (j : ℕ) (o : Option (List ℕ)) (ks : Keys) (d : ℕ) → key_in b (Leaf v) j (o ∷ ks) d ≡ (if d == 2 * j then o else None)
unfolding way key_for
key_at_leaf b v j o ks d = refl

module _ (b : ℕ) (p : Option Parent) (l r : Term) (j : ℕ) (o : Option (List ℕ)) (ks : Keys) (d : ℕ) where
  pub key_here : d ≡ 2 * b + size l → key_in b (Branch p l r) j (o ∷ ks) d ≡ o
  unfolding key_for
  key_here e = elim (cases_lt j (b + width l)) [
    | inl lj ↦ rw (way_left b p l r j lj) (cond-true _ _ _ (eq-eqb d (2 * b + size l) e))
    | inr rj ↦ rw (way_right b p l r j rj) (cond-true _ _ _ (eq-eqb d (2 * b + size l) e))
  ]

  pub key_left : (d ≡ 2 * b + size l → ⊥) → j < b + width l → key_in b (Branch p l r) j (o ∷ ks) d ≡ key_in b l j ks d
  unfolding key_for
  key_left ne lj = rw (way_left b p l r j lj) (cond-false _ _ _ (ne_eqb d (2 * b + size l) ne))

  pub key_right : (d ≡ 2 * b + size l → ⊥) → b + width l ≤ j → key_in b (Branch p l r) j (o ∷ ks) d ≡ key_in (b + width l) r j ks d
  unfolding key_for
  key_right ne rj = rw (way_right b p l r j rj) (cond-false _ _ _ (ne_eqb d (2 * b + size l) ne))

-- nothing outside the tree
pub key_outside : (b : ℕ) (t : Term) (j : ℕ) (ks : Keys) (d : ℕ) → IsIn b t j → ((d < 2 * b) ⊎ (2 * b + size t ≤ d)) → key_in b t j ks d ≡ None
unfolding width size
key_outside b (Leaf v) j [] d hj out = key_nil (way b (Leaf v) j) j d
key_outside b (Leaf v) j (o ∷ ks) d hj out =
    let ne : d ≡ 2 * j → ⊥ = λ e. elim out [ inl lo ↦ omega arith | inr hi ↦ omega arith ] in
    key_at_leaf b v j o ks d ∙ cond-false _ _ _ (ne_eqb d (2 * j) ne)
key_outside b (Branch p l r) j [] d hj out = key_nil (way b (Branch p l r) j) j d
key_outside b (Branch p l r) j (o ∷ ks) d hj out =
    let s = size-width l in
    let ne : d ≡ 2 * b + size l → ⊥ = λ e. elim out [ inl lo ↦ omega arith | inr hi ↦ omega arith ] in
    elim (cases_lt j (b + width l)) [
      | inl lj ↦
          key_left b p l r j o ks d ne lj
          ∙ key_outside b l j ks d (record { low = hj.low; high = lj }) (elim out [ inl lo ↦ inl lo | inr hi ↦ inr (omega arith) ])
      | inr rj ↦
          key_right b p l r j o ks d ne rj
          ∙ key_outside (b + width l) r j ks d (record { low = rj; high = omega arith }) (elim out [ inl lo ↦ inl (omega arith) | inr hi ↦ inr (omega arith) ])
    ]

-- and at the own leaf its key
own_some : (c : Crypto) (v : Option LeafNode) (o : Option (List ℕ)) (ks : Keys) → IsOwnKey c v (o ∷ ks) → is_some o ≡ true
own_some c (Some x) None ks h = absurd h
own_some c (Some x) (Some k) ks h = refl
own_some c None o ks h = absurd h

own_none : (c : Crypto) (v : Option LeafNode) → IsOwnKey c v [] → ⊥
own_none c (Some x) h = h
own_none c None h = h

at_leaf : (c : Crypto) (F : Option Parent → Option (List ℕ) → Type 0) (b : ℕ) (v : Option LeafNode) (j : ℕ) (ks : Keys) → AreKeysOnWay c F b (Leaf v) j ks → IsOwnKey c v ks
unfolding way leaf_at AreKeysAlong
at_leaf c F b v j ks h = h

-- ---- where a key is had

fits_held : (c : Crypto) (j : ℕ) (p : Option Parent) (o : Option (List ℕ)) → HoldsDueKey c j p o → is_some o ≡ not (may_list p j)
fits_held c j None None h = refl
fits_held c j None (Some k) h = absurd h
fits_held c j (Some p) o h = by_list (has p.unmerged_leaves j) o h
  where
    by_list : (t : Bool) (o : Option (List ℕ)) → HoldsKey c t p o → is_some o ≡ not t
    by_list true None h = refl
    by_list true (Some k) h = absurd h
    by_list false None h = absurd h
    by_list false (Some k) h = refl

some_if : (t : Bool) (o : Option (List ℕ)) → is_some o ≡ true → is_some (if t then o else None) ≡ t
some_if true o h = h
some_if false o h = refl

pub key_where_held : KeyWhereHeld
unfolding holds_key_of width
key_where_held c b (Leaf v) j [] d hj h = absurd (own_none c v (at_leaf c (HoldsDueKey c j) b v j [] h))
key_where_held c b (Leaf v) j (o ∷ ks) d hj h =
    let same : j ≡ b = omega arith in
    ap is_some (key_at_leaf b v j o ks d) ∙ some_if (d == 2 * j) o (own_some c v o ks (at_leaf c (HoldsDueKey c j) b v j (o ∷ ks) h)) ∙ ap (λ n. d == 2 * n) same
key_where_held c b (Branch p l r) j [] d hj h = absurd (along_none c (HoldsDueKey c j) b p l r j h)
key_where_held c b (Branch p l r) j (o ∷ ks) d hj h = elim (cases_eq d (2 * b + size l)) [
  | inl e ↦
      ap is_some (key_here b p l r j o ks d e)
      ∙ fits_held c j p o (elim (cases_lt j (b + width l)) [ inl lj ↦ (along_left c (HoldsDueKey c j) b p l r j o ks lj h).0 | inr rj ↦ (along_right c (HoldsDueKey c j) b p l r j o ks rj h).0 ])
      ∙ sym (cond-true _ _ _ (eq-eqb d (2 * b + size l) e))
  | inr n ↦ elim (cases_lt j (b + width l)) [
    | inl lj ↦
        ap is_some (key_left b p l r j o ks d n lj)
        ∙ key_where_held c b l j ks d (record { low = hj.low; high = lj }) (along_left c (HoldsDueKey c j) b p l r j o ks lj h).1
        ∙ sym (cond-false _ _ _ (ne_eqb d (2 * b + size l) n) ∙ cond-true _ _ _ (lt-ltb j (b + width l) lj))
    | inr rj ↦
        ap is_some (key_right b p l r j o ks d n rj)
        ∙ key_where_held c (b + width l) r j ks d (record { low = rj; high = omega arith }) (along_right c (HoldsDueKey c j) b p l r j o ks rj h).1
        ∙ sym (cond-false _ _ _ (ne_eqb d (2 * b + size l) n) ∙ cond-false _ _ _ (le-ltb j (b + width l) rj))
  ]
]

-- so it is had at just one of the nodes, less the leaves just added
held_counted : (f : ℕ → Option (List ℕ)) (p : ℕ → Bool) → ((d : ℕ) → is_some (f d) ≡ p d) → (ds : List ℕ) → held_count f ds ≡ length (filter p ds)
unfolding held_count
held_counted f p h [] = refl
held_counted f p h (d ∷ ds) =
    let rest = held_counted f p h ds in
    elim (cases_Bool (p d)) [
      | inl t ↦ rw (h d ∙ t, t) (ap suc rest)
      | inr t ↦ rw (h d ∙ t, t) rest
    ]

pub one_entry : OneEntry
one_entry c added b t j ks good hj h old =
    held_counted (key_in b t j ks) (holds_key_of b t j) (λ d. key_where_held c b t j ks d hj h) (less (leaf_numbers added) (resolution b t))
    ∙ one_held_of_rest below_here below_bound b t j added good.below good.rising hj.low hj.high (along_taken c (HoldsDueKey c j) (way b t j) (leaf_at b t j) ks h) old

-- ---- the key of a node that is held

own_entry : (c : Crypto) (v : Option LeafNode) (j : ℕ) (o : Option (List ℕ)) (ks : Keys) (k : List ℕ) → IsOwnKey c v (o ∷ ks) → o ≡ Some k → leaf_own_key v ≡ Some (c.public k)
own_entry c (Some x) j None ks k h e = absurd h
own_entry c (Some x) j (Some q) (o ∷ ks) k h e = absurd h
own_entry c (Some x) j (Some q) [] k h e = let qk : q ≡ k = cc in ap Some (sym h) ∙ ap (λ z. Some (c.public z)) qk
own_entry c None j o ks k h e = absurd h

parent_entry : (c : Crypto) (j : ℕ) (p : Option Parent) (k : List ℕ) → HoldsDueKey c j p (Some k) → parent_own_key p ≡ Some (c.public k)
parent_entry c j None k h = absurd h
parent_entry c j (Some p) k h = by_list (has p.unmerged_leaves j) h
  where
    by_list : (t : Bool) → HoldsKey c t p (Some k) → parent_own_key (Some p) ≡ Some (c.public k)
    by_list true h = absurd h
    by_list false h = ap Some (sym h)

pub entry_key : EntryKey
unfolding key_at width
entry_key c b (Leaf v) j [] d k hj h e = absurd (own_none c v (at_leaf c (HoldsDueKey c j) b v j [] h))
entry_key c b (Leaf v) j (o ∷ ks) d k hj h e = elim (cases_eq d (2 * j)) [
  | inl q ↦
      at_node_leaf b v None own_key d (omega arith)
      ∙ own_entry c v j o ks k (at_leaf c (HoldsDueKey c j) b v j (o ∷ ks) h) (sym (key_at_leaf b v j o ks d ∙ cond-true _ _ _ (eq-eqb d (2 * j) q)) ∙ e)
  | inr n ↦ absurd (none-some k (sym (key_at_leaf b v j o ks d ∙ cond-false _ _ _ (ne_eqb d (2 * j) n)) ∙ e))
]
entry_key c b (Branch p l r) j [] d k hj h e = absurd (along_none c (HoldsDueKey c j) b p l r j h)
entry_key c b (Branch p l r) j (o ∷ ks) d k hj h e = elim (cases_eq d (2 * b + size l)) [
  | inl q ↦
      at_node_here None own_key b p l r d q
      ∙ parent_entry c j p k (subst (λ (z : Option (List ℕ)). HoldsDueKey c j p z) (sym (key_here b p l r j o ks d q) ∙ e)
      (elim (cases_lt j (b + width l)) [ inl lj ↦ (along_left c (HoldsDueKey c j) b p l r j o ks lj h).0 | inr rj ↦ (along_right c (HoldsDueKey c j) b p l r j o ks rj h).0 ]))
  | inr n ↦
      let s = size-width l in
      elim (cases_lt j (b + width l)) [
        | inl lj ↦
            let inside : IsIn b l j = record { low = hj.low; high = lj } in
            let f = sym (key_left b p l r j o ks d n lj) ∙ e in
            elim (cases_lt d (2 * b + size l)) [
              | inl ld ↦ at_node_left None own_key b p l r d ld ∙ entry_key c b l j ks d k inside (along_left c (HoldsDueKey c j) b p l r j o ks lj h).1 f
              | inr rd ↦ absurd (none-some k (sym (key_outside b l j ks d inside (inr rd)) ∙ f))
            ]
        | inr rj ↦
            let inside : IsIn (b + width l) r j = record { low = rj; high = omega arith } in
            let f = sym (key_right b p l r j o ks d n rj) ∙ e in
            elim (cases_lt d (2 * b + size l)) [
              | inl ld ↦ absurd (none-some k (sym (key_outside (b + width l) r j ks d inside (inl (omega arith))) ∙ f))
              | inr rd ↦ at_node_right None own_key b p l r d (omega arith) ∙ entry_key c (b + width l) r j ks d k inside (along_right c (HoldsDueKey c j) b p l r j o ks rj h).1 f
            ]
      ]
]
