-- What a joiner makes of any path secret, whoever made the path.
use Rattle.std.proofs.Common.{◌≡◌, ℕ, suc, ◌+◌, Bool, true, false, ◌&&◌, not, if◌then◌else◌, List, [], ◌∷◌, map, length, find, cond, Option, Some, None, Result, Ok, Err, refl, ap, ap₂, sym, ◌∙◌, subst, inl, inr, arith}
use Rattle.std.specs.List.{AllByRecursion}
use Rattle.std.specs.Str.{bytes_eq}
use Rattle.std.proofs.lemmas.Slice.Eq.{bytes_eq-Decides}
use Rattle.std.proofs.lemmas.Bool.{and_parts, cases_lt}
use Rattle.mls_wire.specs.Laws.{bind_ok}
use Rattle.mls_leaf.specs.Parent.{Parent}
use Rattle.mls_tree_model.specs.Sets.{has}
use Rattle.mls_tree_model.specs.Term.{Term, Leaf, Branch, width}
use Rattle.mls_tree_model.specs.Way.{Step, way, is_beside}
use Rattle.mls_tree_model.proofs.Equations.{way_left, way_right}
use Rattle.mls_tree_model.specs.Laws.{IsIn}
use Rattle.mls_suite.specs.Crypto.{Crypto}
use Rattle.mls_treekem_model.specs.Chain.{next_secret, chain, node_public, chain_keys}
use Rattle.mls_treekem_model.specs.Keys.{Keys, leaf_only}
use Rattle.mls_treekem_model.specs.Make.{climb_past_node, climb_past_blank, Climb}
use Rattle.mls_treekem_model.specs.Seal.{Choose}
use Rattle.mls_treekem_model.specs.Join.{climb_past_present, require_present, climb_take, is_due, is_complete, take_keys, AllList}
use Rattle.mls_treekem_model.proofs.JoinLaws.{sounds, not_and, due_listed, listed_due, take_inside}
use Rattle.mls_treekem_model.proofs.WayLaws.{within, below, beyond}
use Rattle.mls_treekem_model.specs.Whole.{with_parent, parents_over, FitsOver, TakenFits, FitIsTaken}

-- ---- two ways: alike down to the parent where they part, and then that on its other side

unfoldable Forks : ℕ → List Step → List Step → Type 0
Forks j [] rs = ⊥
Forks j (s ∷ ss) [] = ⊥
Forks j (s ∷ ss) (r ∷ rs) = (r.parent ≡ s.parent) × Choose (is_beside s j) (rs ≡ way s.first s.other j) (Forks j ss rs)

module _ (i j : ℕ) (ne : j ≡ i → ⊥) where
  forks_from : (b : ℕ) (t : Term) → IsIn b t i → IsIn b t j → Forks j (way b t i) (way b t j)
  unfolding width Forks
  forks_from b (Leaf v) hi hj = absurd (ne (omega arith))
  forks_from b (Branch p l r) hi hj = elim (cases_lt i (b + width l)) [
    | inl li ↦ elim (cases_lt j (b + width l)) [
      | inl lj ↦
          let u = below (b + width l) (width r) j lj in
          rw (way_left b p l r i li, way_left b p l r j lj, u) (refl, forks_from b l (record { low = hi.low; high = li }) (record { low = hj.low; high = lj }))
      | inr rj ↦
          let u = within (b + width l) (width r) j rj (omega arith) in
          rw (way_left b p l r i li, way_right b p l r j rj, u) (refl, refl)
    ]
    | inr ri ↦ elim (cases_lt j (b + width l)) [
      | inl lj ↦
          let u = within b (width l) j hj.low lj in
          rw (way_right b p l r i ri, way_left b p l r j lj, u) (refl, refl)
      | inr rj ↦
          let u = beyond b (width l) j rj in
          rw (way_right b p l r i ri, way_right b p l r j rj, u) (refl, forks_from (b + width l) r (record { low = ri; high = omega arith }) (record { low = rj; high = omega arith }))
    ]
  ]

module _ (c : Crypto) (j : ℕ) (secret : List ℕ) where
  -- ---- a secret that fits over a way, by the way's first step

  abbrev AreUnlisted : List Parent → Type 0
  AreUnlisted ps = AllByRecursion (λ (p : Parent). has p.unmerged_leaves j ≡ false) ps

  abbrev AreOfChain : List Parent → Type 0
  AreOfChain ps = map (λ (p : Parent). p.encryption_key) ps ≡ chain_keys c secret (length ps)

  -- the ways part at this step
  record FitsHere (s : Step) : Type 0 where
    lowest : Parent
    present : s.parent ≡ Some lowest
    unlisted : has lowest.unmerged_leaves j ≡ false
    key : lowest.encryption_key ≡ node_public c secret
    lists : AllList j (way s.first s.other j)

  -- they part below it
  abbrev FitsAt : Option Parent → ℕ → Type 0
  FitsAt None n = Unit {0}
  FitsAt (Some p) n = (has p.unmerged_leaves j ≡ false) × (p.encryption_key ≡ node_public c (chain secret n))

  parents_here : (s : Step) (ss : List Step) → is_beside s j ≡ true → parents_over (s ∷ ss) j ≡ with_parent s.parent []
  unfolding parents_over
  parents_here s ss e = rw e refl

  parents_below : (s : Step) (ss : List Step) → is_beside s j ≡ false → parents_over (s ∷ ss) j ≡ with_parent s.parent (parents_over ss j)
  unfolding parents_over
  parents_below s ss e = rw e refl

  find_here : (s : Step) (ss : List Step) → is_beside s j ≡ true → find (λ (x : Step). is_beside x j) (s ∷ ss) ≡ Some s
  find_here s ss e = ap (λ (b : Bool). cond b (Some s) (find (λ (x : Step). is_beside x j) ss)) e

  find_below : (s : Step) (ss : List Step) → is_beside s j ≡ false → find (λ (x : Step). is_beside x j) (s ∷ ss) ≡ find (λ (x : Step). is_beside x j) ss
  find_below s ss e = ap (λ (b : Bool). cond b (Some s) (find (λ (x : Step). is_beside x j) ss)) e

  fits_here : (s : Step) (ss : List Step) → is_beside s j ≡ true → FitsHere s → FitsOver c j secret (s ∷ ss)
  unfolding chain_keys chain
  fits_here s ss e h =
      let is : parents_over (s ∷ ss) j ≡ h.lowest ∷ [] = parents_here s ss e ∙ ap (λ (o : Option Parent). with_parent o []) h.present in
      record {
        step = s;
        lowest = h.lowest;
        parts = find_here s ss e;
        present = h.present;
        unlisted = subst (λ (ps : List Parent). AreUnlisted ps) (sym is) (h.unlisted, tt);
        keys = subst (λ (ps : List Parent). AreOfChain ps) (sym is) (ap (λ (k : List ℕ). k ∷ []) h.key);
        below = h.lists;
      }

  fits_below : (s : Step) (ss : List Step) → is_beside s j ≡ false → FitsAt s.parent (length (parents_over ss j)) → FitsOver c j secret ss → FitsOver c j secret (s ∷ ss)
  unfolding chain_keys
  fits_below s ss e here f = record {
    step = f.step;
    lowest = f.lowest;
    parts = find_below s ss e ∙ f.parts;
    present = f.present;
    unlisted = subst (λ (ps : List Parent). AreUnlisted ps) (sym (parents_below s ss e)) (unlisted_by s.parent here);
    keys = subst (λ (ps : List Parent). AreOfChain ps) (sym (parents_below s ss e)) (keys_by s.parent here);
    below = f.below;
  }
    where
      unlisted_by : (o : Option Parent) → FitsAt o (length (parents_over ss j)) → AreUnlisted (with_parent o (parents_over ss j))
      unlisted_by None h = f.unlisted
      unlisted_by (Some p) h = (h.0, f.unlisted)

      keys_by : (o : Option Parent) → FitsAt o (length (parents_over ss j)) → AreOfChain (with_parent o (parents_over ss j))
      keys_by None h = f.keys
      keys_by (Some p) h = ap₂ (λ (k : List ℕ) (ks : List (List ℕ)). k ∷ ks) h.1 f.keys

  here_fits : (s : Step) (ss : List Step) → is_beside s j ≡ true → FitsOver c j secret (s ∷ ss) → FitsHere s
  unfolding chain_keys chain
  here_fits s ss e f =
      let first : Some s ≡ Some f.step = sym (find_here s ss e) ∙ f.parts in
      let same : f.step ≡ s = cc in
      let is : parents_over (s ∷ ss) j ≡ f.lowest ∷ [] = parents_here s ss e ∙ ap (λ (o : Option Parent). with_parent o []) (ap (λ (x : Step). x.parent) (sym same) ∙ f.present) in
      let unlisted : AreUnlisted (f.lowest ∷ []) = subst (λ (ps : List Parent). AreUnlisted ps) is f.unlisted in
      let keys : AreOfChain (f.lowest ∷ []) = subst (λ (ps : List Parent). AreOfChain ps) is f.keys in
      record {
        lowest = f.lowest;
        present = ap (λ (x : Step). x.parent) (sym same) ∙ f.present;
        unlisted = unlisted.0;
        key = cc;
        lists = subst (λ (x : Step). AllList j (way x.first x.other j)) same f.below;
      }

  below_fits : (s : Step) (ss : List Step) → is_beside s j ≡ false → FitsOver c j secret (s ∷ ss) → FitsAt s.parent (length (parents_over ss j)) × FitsOver c j secret ss
  unfolding chain_keys
  below_fits s ss e f =
      let parts : find (λ (x : Step). is_beside x j) ss ≡ Some f.step = sym (find_below s ss e) ∙ f.parts in
      let unlisted : AreUnlisted (with_parent s.parent (parents_over ss j)) = subst (λ (ps : List Parent). AreUnlisted ps) (parents_below s ss e) f.unlisted in
      let keys : AreOfChain (with_parent s.parent (parents_over ss j)) = subst (λ (ps : List Parent). AreOfChain ps) (parents_below s ss e) f.keys in
      let both = by_parent s.parent unlisted keys in
      (both.0, record { step = f.step; lowest = f.lowest; parts = parts; present = f.present; unlisted = both.1; keys = both.2; below = f.below })
    where
      by_parent : (o : Option Parent) → AreUnlisted (with_parent o (parents_over ss j)) → AreOfChain (with_parent o (parents_over ss j)) →
          FitsAt o (length (parents_over ss j)) × AreUnlisted (parents_over ss j) × AreOfChain (parents_over ss j)
      by_parent None u k = (tt, u, k)
      by_parent (Some p) u k =
          let head : p.encryption_key ≡ node_public c (chain secret (length (parents_over ss j))) = cc in
          let tail : AreOfChain (parents_over ss j) = cc in
          ((u.0, head), u.1, tail)

  -- ---- what is taken fits

  past_at : (o : Option Parent) (ps : List Parent) (m m' : Climb) → m.secret ≡ chain secret (length ps) → climb_past_present c j o m ≡ Ok m' → FitsAt o (length ps) × (m'.secret ≡ chain secret (length (with_parent o ps)))
  unfolding chain
  past_at None ps m m' h e =
      let made : Climb = climb_past_blank m in
      let q : made ≡ m' = cc in
      (tt, ap (λ (z : Climb). z.secret) (sym q) ∙ h)
  past_at (Some p) ps m m' h e = by_test (not (has p.unmerged_leaves j) && bytes_eq (node_public c m.secret) p.encryption_key) refl e
    where
      by_test : (t : Bool) → (not (has p.unmerged_leaves j) && bytes_eq (node_public c m.secret) p.encryption_key) ≡ t → if◌then◌else◌ {A = Result Climb ℕ} t (Ok (climb_past_node c m)) (Err 34) ≡ Ok m' →
          FitsAt (Some p) (length ps) × (m'.secret ≡ chain secret (suc (length ps)))
      by_test true g e =
          let made : Climb = climb_past_node c m in
          let q : made ≡ m' = cc in
          let f = not_and (has p.unmerged_leaves j) (bytes_eq (node_public c m.secret) p.encryption_key) g in
          let key : node_public c m.secret ≡ p.encryption_key = (bytes_eq-Decides (node_public c m.secret) p.encryption_key).0 f.1 in
          ((f.0, sym key ∙ ap (node_public c) h), ap (λ (z : Climb). z.secret) (sym q) ∙ ap next_secret h)
      by_test false g e = cc

  present_at : (o : Option Parent) (m m' : Climb) → require_present o m ≡ Ok m' → (p : Parent) × (o ≡ Some p) × (m ≡ m')
  present_at None m m' e = absurd cc
  present_at (Some p) m m' e = let q : m ≡ m' = cc in (p, refl, q)

  taken_over : (ss rs : List Step) (sk : List ℕ) (m : Climb) → Forks j ss rs → climb_take c ss j (leaf_only rs sk) secret ≡ Ok m → is_complete j rs m.keys ≡ true →
      FitsOver c j secret ss × (m.secret ≡ chain secret (length (parents_over ss j)))
  unfolding Forks climb_take leaf_only is_complete chain
  taken_over [] rs sk m f e d = absurd f
  taken_over (s ∷ ss) [] sk m f e d = absurd f
  taken_over (s ∷ ss) (r ∷ rs) sk m f e d =
      let b =
      bind_ok (if is_beside s j then require_present s.parent (record { secret = secret; keys = leaf_only rs sk }) else climb_take c ss j (leaf_only rs sk) secret) (λ z. climb_past_present c j s.parent z) m e
      in
      let p = sounds c j s.parent b.0 m b.2 in
      let g : is_complete j (r ∷ rs) (p.top ∷ b.0.keys) ≡ true = subst (λ (ks : Keys). is_complete j (r ∷ rs) ks ≡ true) p.keys_are d in
      let due = and_parts (is_due j r.parent p.top) (is_complete j rs b.0.keys) g in
      by_side (is_beside s j) refl b.0 b.1 b.2 f.1 due.1 (taken_over ss rs sk b.0)
    where
      by_side : (u : Bool) → is_beside s j ≡ u → (m0 : Climb) →
          (if u then require_present s.parent (record { secret = secret; keys = leaf_only rs sk }) else climb_take c ss j (leaf_only rs sk) secret) ≡ Ok m0 →
          climb_past_present c j s.parent m0 ≡ Ok m → Choose u (rs ≡ way s.first s.other j) (Forks j ss rs) → is_complete j rs m0.keys ≡ true →
          (Forks j ss rs → climb_take c ss j (leaf_only rs sk) secret ≡ Ok m0 → is_complete j rs m0.keys ≡ true → FitsOver c j secret ss × (m0.secret ≡ chain secret (length (parents_over ss j)))) →
          FitsOver c j secret (s ∷ ss) × (m.secret ≡ chain secret (length (parents_over (s ∷ ss) j)))
      by_side true e m0 g h f d rec =
          let start : Climb = record { secret = secret; keys = leaf_only rs sk } in
          let q = present_at s.parent start m0 g in
          let top = past_at s.parent [] m0 m (ap (λ (z : Climb). z.secret) (sym q.2)) h in
          let here : FitsAt (Some q.0) 0 = subst (λ (o : Option Parent). FitsAt o 0) q.1 top.0 in
          let full : is_complete j rs (leaf_only rs sk) ≡ true = subst (λ (z : Climb). is_complete j rs z.keys ≡ true) (sym q.2) d in
          let lists : AllList j (way s.first s.other j) = subst (λ (zs : List Step). AllList j zs) f (due_listed j rs sk full) in (
            fits_here s ss e (record { lowest = q.0; present = q.1; unlisted = here.0; key = here.1; lists = lists }),
            top.1 ∙ ap (λ (ps : List Parent). chain secret (length ps)) (sym (parents_here s ss e)),
          )
      by_side false e m0 g h f d rec =
          let r = rec f g d in
          let top = past_at s.parent (parents_over ss j) m0 m r.1 h in
          (fits_below s ss e top.0 r.0, top.1 ∙ ap (λ (ps : List Parent). chain secret (length ps)) (sym (parents_below s ss e)))

  -- ---- what fits is taken

  record Passes (o : Option Parent) (ps : List Parent) (m : Climb) : Type 0 where
    after : Climb
    is : climb_past_present c j o m ≡ Ok after
    secret_is : after.secret ≡ chain secret (length (with_parent o ps))
    complete : (r : Step) (rs : List Step) → r.parent ≡ o → is_complete j rs m.keys ≡ true → is_complete j (r ∷ rs) after.keys ≡ true

  passes_at : (o : Option Parent) (ps : List Parent) (m : Climb) → m.secret ≡ chain secret (length ps) → FitsAt o (length ps) → Passes o ps m
  unfolding chain is_complete
  passes_at None ps m h f = record { after = climb_past_blank m; is = refl; secret_is = h; complete = λ r rs q d. rw (q, d) refl }
  passes_at (Some p) ps m h f =
      let key : bytes_eq (node_public c m.secret) p.encryption_key ≡ true = (bytes_eq-Decides (node_public c m.secret) p.encryption_key).1 (ap (node_public c) h ∙ sym f.1) in
      let unlisted : has p.unmerged_leaves j ≡ false = f.0 in
      record { after = climb_past_node c m; is = rw (unlisted, key) refl; secret_is = ap next_secret h; complete = λ r rs q d. rw (q, unlisted, d) refl }

  record Takes (ss rs : List Step) (sk : List ℕ) : Type 0 where
    taken : Climb
    is : climb_take c ss j (leaf_only rs sk) secret ≡ Ok taken
    secret_is : taken.secret ≡ chain secret (length (parents_over ss j))
    complete : is_complete j rs taken.keys ≡ true

  takes_over : (ss rs : List Step) (sk : List ℕ) → Forks j ss rs → FitsOver c j secret ss → Takes ss rs sk
  unfolding Forks climb_take leaf_only chain
  takes_over [] rs sk f h = absurd f
  takes_over (s ∷ ss) [] sk f h = absurd f
  takes_over (s ∷ ss) (r ∷ rs) sk f h = by_side (is_beside s j) refl f.1 (takes_over ss rs sk)
    where
      by_side : (u : Bool) → is_beside s j ≡ u → Choose u (rs ≡ way s.first s.other j) (Forks j ss rs) → (Forks j ss rs → FitsOver c j secret ss → Takes ss rs sk) → Takes (s ∷ ss) (r ∷ rs) sk
      by_side true e g rec =
          let here = here_fits s ss e h in
          let start : Climb = record { secret = secret; keys = leaf_only rs sk } in
          let top : FitsAt s.parent 0 = subst (λ (o : Option Parent). FitsAt o 0) (sym here.present) (here.unlisted, here.key) in
          let on = passes_at s.parent [] start refl top in
          let full = listed_due j rs sk (subst (λ (zs : List Step). AllList j zs) (sym g) here.lists) in
          let there : require_present s.parent start ≡ Ok start = ap (λ (o : Option Parent). require_present o start) here.present in
          record {
            taken = on.after;
            is = rw (e, there) on.is;
            secret_is = on.secret_is ∙ ap (λ (ps : List Parent). chain secret (length ps)) (sym (parents_here s ss e));
            complete = on.complete r rs f.0 full;
          }
      by_side false e g rec =
          let below = below_fits s ss e h in
          let t = rec g below.1 in
          let on = passes_at s.parent (parents_over ss j) t.taken t.secret_is below.0 in
          record {
            taken = on.after;
            is = rw (e, t.is) on.is;
            secret_is = on.secret_is ∙ ap (λ (ps : List Parent). chain secret (length ps)) (sym (parents_below s ss e));
            complete = on.complete r rs f.0 t.complete;
          }

-- ---- whole calls

pub taken_fits : TakenFits
unfolding take_keys
taken_fits c t i j sk secret m two e =
    let k : take_keys c t i j sk secret ≡ Ok m = sym (take_inside c t i j sk secret two.first) ∙ e in
    let b = bind_ok (climb_take c (way 0 t i) j (leaf_only (way 0 t j) sk) secret) (λ z. if◌then◌else◌ {A = Result Climb ℕ} (is_complete j (way 0 t j) z.keys) (Ok z) (Err 35)) m k in
    by_test b.0 (is_complete j (way 0 t j) b.0.keys) refl b.2 b.1
  where
    by_test : (z : Climb) (d : Bool) → is_complete j (way 0 t j) z.keys ≡ d → if◌then◌else◌ {A = Result Climb ℕ} d (Ok z) (Err 35) ≡ Ok m → climb_take c (way 0 t i) j (leaf_only (way 0 t j) sk) secret ≡ Ok z →
        FitsOver c j secret (way 0 t i) × (m.secret ≡ chain secret (length (parents_over (way 0 t i) j)))
    by_test z true f e g =
        let q : z ≡ m = cc in
        let r = taken_over c j secret (way 0 t i) (way 0 t j) sk z (forks_from i j two.apart 0 t two.first two.second) g f in
        (r.0, ap (λ (w : Climb). w.secret) (sym q) ∙ r.1)
    by_test z false f e g = cc

pub fit_is_taken : FitIsTaken
unfolding take_keys
fit_is_taken c t i j sk secret two h =
    let r = takes_over c j secret (way 0 t i) (way 0 t j) sk (forks_from i j two.apart 0 t two.first two.second) h in
    (r.taken, take_inside c t i j sk secret two.first ∙ rw (r.is, r.complete) refl, r.secret_is)
