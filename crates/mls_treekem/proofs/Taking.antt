-- What a joiner takes, as code goes over the parents.
use Rattle.std.proofs.Common.{◌≡◌, ℕ, zero, suc, ◌+◌, ◌≤◌, ◌<◌, Bool, true, false, not, nat_lt, nat_le, ◌&&◌, if◌then◌else◌, List, [], ◌∷◌, ◌++◌, length, map, reverse, replicate, Option, Some, None, is_some, Result, Ok, Err, refl, sym, subst, ◌∙◌, ap, ap₂, arith, le-ltb}
use Rattle.std.specs.Str.{bytes_eq}
use Rattle.std.proofs.lemmas.Bool.{cond-true, cond-false}
use Rattle.std.proofs.lemmas.List.{length-map, length-replicate}
use Rattle.mls_wire.specs.Checks.{Answers}
use Rattle.mls_wire.specs.Reading.{◌>>=◌}
use Rattle.mls_wire.specs.Laws.{bind_ok}
use Rattle.mls_leaf.specs.Parent.{Parent}
use Rattle.mls_tree_model.specs.Sets.{has}
use Rattle.mls_tree_model.specs.Term.{Term, width, is_perfect}
use Rattle.mls_tree_model.specs.Way.{Step, way, is_beside}
use Rattle.mls_suite.specs.Crypto.{Crypto}
use Rattle.mls_treekem.specs.declared.places.Place.{Place}
use Rattle.mls_treekem_model.specs.Chain.{node_public}
use Rattle.mls_treekem.specs.declared.error.TreeKemError.{TreeKemError}
use Rattle.mls_treekem.specs.Climbing.{with_own}
use Rattle.mls_treekem.specs.Faults.{number_of}
use Rattle.mls_treekem_model.specs.Keys.{Keys, leaf_only}
use Rattle.mls_treekem_model.specs.Make.{climb_past_node, Climb}
use Rattle.mls_treekem_model.specs.Join.{climb_past_present, require_present, climb_take, is_due, is_complete, take_keys, take_answer}
use Rattle.mls_treekem.specs.Place.{step_of, ArePlaced, IsWay}
use Rattle.mls_treekem_model.proofs.HeightLaws.{reverse-end, way_height}
use Rattle.mls_treekem_model.proofs.JoinLaws.{sounds, present_is, take_inside}
use Rattle.mls_treekem.proofs.Opening.{beside_is, first_placed}

-- ---- one place

pub is_there : (p : Option Parent) (there : Bool) (m : Climb) → there ≡ is_some p → there ≡ true → require_present p m ≡ Ok m
is_there (Some p) there m e f = refl
is_there None there m e f = cc

-- ---- no keys

nones_end : (n : ℕ) → replicate {A = Option (List ℕ)} n None ++ (None ∷ []) ≡ None ∷ replicate n None
nones_end zero = refl
nones_end (suc n) = ap (λ zs. None ∷ zs) (nones_end n)

nones_back : (n : ℕ) → reverse (replicate {A = Option (List ℕ)} n None) ≡ replicate n None
nones_back zero = refl
nones_back (suc n) = ap reverse (sym (nones_end n)) ∙ reverse-end (replicate n None) None ∙ ap (λ zs. None ∷ zs) (nones_back n)

pub nones_pushed : (n : ℕ) (none ks : Keys) → none ≡ [] → ks ≡ none ++ replicate n None → reverse ks ≡ replicate n None
nones_pushed n none ks e f = ap reverse (f ∙ ap (λ zs. zs ++ replicate n None) e) ∙ nones_back n

only_is : (ss : List Step) (own : List ℕ) → leaf_only ss own ≡ replicate (length ss) None ++ (Some own ∷ [])
unfolding leaf_only
only_is [] own = refl
only_is (s ∷ ss) own = ap (λ zs. None ∷ zs) (only_is ss own)

-- ---- steps of a climb

abbrev pub taken_over : Crypto → Term → ℕ → List ℕ → List Place → Result Climb ℕ
taken_over c t j secret ps = climb_take c (map (step_of t) ps) j (replicate (length ps) None) secret

module _ (c : Crypto) (t : Term) (j : ℕ) (secret : List ℕ) where
  pub take_none : (ps : List Place) → ps ≡ [] → taken_over c t j secret ps ≡ Err 34
  unfolding climb_take
  take_none ps e = rw e refl

  module _ (p : Place) (ps all : List Place) (is : all ≡ p ∷ ps) (placed : ArePlaced t all) (test : Bool) (test_is : test ≡ (nat_le p.first j && nat_lt j (p.first + p.leaves))) where
    beside : test ≡ is_beside (step_of t p) j
    beside = test_is ∙ beside_is t (length ps) p (first_placed t p ps all is placed) j

    abbrev past : Climb → Result Climb ℕ
    past m = climb_past_present c j (step_of t p).parent m

    abbrev start : Result Climb ℕ
    start = require_present (step_of t p).parent (record { secret = secret; keys = replicate (length ps) None })

    take_here : test ≡ true → taken_over c t j secret all ≡ (start >>= λ m. past m)
    unfolding climb_take
    take_here e = let b : is_beside (step_of t p) j ≡ true = sym beside ∙ e in rw (is, b) refl

    take_below : test ≡ false → taken_over c t j secret all ≡ (taken_over c t j secret ps >>= λ m. past m)
    unfolding climb_take
    take_below e = let b : is_beside (step_of t p) j ≡ false = sym beside ∙ e in rw (is, b) refl

    goes_on : (x : Result Climb ℕ) (m : Climb) (r : Result Climb TreeKemError) → taken_over c t j secret all ≡ (x >>= λ m. past m) → x ≡ Ok m → Answers (λ z. z) number_of (past m) r → Answers (λ z. z) number_of (taken_over c t j secret all) r
    goes_on x m r e f h = subst (λ z. Answers (λ z. z) number_of z r) (sym (e ∙ ap (λ y. y >>= λ m. past m) f)) h

    pub from_here : test ≡ true → (m : Climb) (r : Result Climb TreeKemError) → start ≡ Ok m → Answers (λ z. z) number_of (past m) r → Answers (λ z. z) number_of (taken_over c t j secret all) r
    from_here e m r f h = goes_on start m r (take_here e) f h

    pub from_below : test ≡ false → (m : Climb) (r : Result Climb TreeKemError) → taken_over c t j secret ps ≡ Ok m → Answers (λ z. z) number_of (past m) r → Answers (λ z. z) number_of (taken_over c t j secret all) r
    from_below e m r f h = goes_on (taken_over c t j secret ps) m r (take_below e) f h

    pub not_here : test ≡ true → (n : ℕ) → start ≡ Err n → taken_over c t j secret all ≡ Err n
    not_here e n f = take_here e ∙ ap (λ y. y >>= λ m. past m) f

    pub not_below : test ≡ false → (n : ℕ) → taken_over c t j secret ps ≡ Err n → taken_over c t j secret all ≡ Err n
    not_below e n f = take_below e ∙ ap (λ y. y >>= λ m. past m) f

-- ---- which keys are there

module _ (t : Term) (j : ℕ) where
  pub complete_none : (ps : List Place) (ks : Keys) → ps ≡ [] → true ≡ is_complete j (map (step_of t) ps) ks
  unfolding is_complete
  complete_none ps ks e = rw e refl

  pub complete_short : (p : Place) (ps all : List Place) (ks : Keys) → all ≡ p ∷ ps → ks ≡ [] → false ≡ is_complete j (map (step_of t) all) (reverse ks)
  unfolding is_complete
  complete_short p ps all ks e f = rw (e, f) refl

  module _ (p : Place) (ps all : List Place) (o : Option (List ℕ)) (ks top : Keys) (is : all ≡ p ∷ ps) (keys_are : top ≡ ks ++ (o ∷ [])) (due : Bool) (due_is : due ≡ is_due j (step_of t p).parent o) where
    complete_more : is_complete j (map (step_of t) all) (reverse top) ≡ (is_due j (step_of t p).parent o && is_complete j (map (step_of t) ps) (reverse ks))
    unfolding is_complete
    complete_more = ap₂ (λ qs zs. is_complete j (map (step_of t) qs) zs) is (ap reverse keys_are ∙ reverse-end ks o)

    pub complete_here : (lower : Bool) → due ≡ true → lower ≡ is_complete j (map (step_of t) ps) (reverse ks) → lower ≡ is_complete j (map (step_of t) all) (reverse top)
    complete_here lower d e = e ∙ sym (complete_more ∙ ap (λ b. b && is_complete j (map (step_of t) ps) (reverse ks)) (sym due_is ∙ d))

    pub complete_not : due ≡ false → due ≡ is_complete j (map (step_of t) all) (reverse top)
    complete_not d = d ∙ sym (complete_more ∙ ap (λ b. b && is_complete j (map (step_of t) ps) (reverse ks)) (sym due_is ∙ d))

complete_with : (j : ℕ) (ss : List Step) (ks zs : Keys) → length ks ≡ length ss → is_complete j ss (ks ++ zs) ≡ is_complete j ss ks
unfolding is_complete
complete_with j [] ks zs e = refl
complete_with j (s ∷ ss) [] zs e = absurd (omega arith)
complete_with j (s ∷ ss) (o ∷ ks) zs e = ap (λ b. is_due j s.parent o && b) (complete_with j ss ks zs (omega arith))

-- ---- a climb with the leaf's key below

abbrev owned : List ℕ → Result Climb ℕ → Result Climb ℕ
owned own (Ok m) = Ok (with_own own m)
owned own (Err e) = Err e

abbrev up : Crypto → Climb → Climb
up c m = climb_past_node c m

module _ (c : Crypto) (j : ℕ) (own : List ℕ) where
  parent_with : (p : Option Parent) (m : Climb) → climb_past_present c j p (with_own own m) ≡ owned own (climb_past_present c j p m)
  parent_with None m = refl
  parent_with (Some p) m = by_test (not (has p.unmerged_leaves j) && bytes_eq (node_public c m.secret) p.encryption_key)
    where
      by_test : (t : Bool) → if◌then◌else◌ {A = Result Climb ℕ} t (Ok (up c (with_own own m))) (Err 34) ≡ owned own (if◌then◌else◌ {A = Result Climb ℕ} t (Ok (up c m)) (Err 34))
      by_test true = refl
      by_test false = refl

  past_with : (p : Option Parent) (r : Result Climb ℕ) → (owned own r >>= λ m. climb_past_present c j p m) ≡ owned own (r >>= λ m. climb_past_present c j p m)
  past_with p (Ok m) = parent_with p m
  past_with p (Err e) = refl

  take_with : (ss : List Step) (ks : Keys) (secret : List ℕ) → length ks ≡ length ss → climb_take c ss j (ks ++ (Some own ∷ [])) secret ≡ owned own (climb_take c ss j ks secret)
  unfolding climb_take
  take_with [] ks secret e = refl
  take_with (s ∷ ss) [] secret e = absurd (omega arith)
  take_with (s ∷ ss) (o ∷ ks) secret e =
      ap (λ r. r >>= λ m. climb_past_present c j s.parent m) (by_side (is_beside s j) s.parent (take_with ss ks secret (omega arith)))
      ∙ past_with s.parent (if is_beside s j then require_present s.parent (record { secret = secret; keys = ks }) else climb_take c ss j ks secret)
    where
      by_side : (t : Bool) (p : Option Parent) → climb_take c ss j (ks ++ (Some own ∷ [])) secret ≡ owned own (climb_take c ss j ks secret) →
          (if t then require_present p (record { secret = secret; keys = ks ++ (Some own ∷ []) }) else climb_take c ss j (ks ++ (Some own ∷ [])) secret)
          ≡ owned own (if t then require_present p (record { secret = secret; keys = ks }) else climb_take c ss j ks secret)
      by_side true None rec = refl
      by_side true (Some p) rec = refl
      by_side false p rec = rec

take_length : (c : Crypto) (j : ℕ) (ss : List Step) (ks : Keys) (secret : List ℕ) (m : Climb) → length ks ≡ length ss → climb_take c ss j ks secret ≡ Ok m → length m.keys ≡ length ss
unfolding climb_take
take_length c j [] ks secret m e h = cc
take_length c j (s ∷ ss) [] secret m e h = absurd (omega arith)
take_length c j (s ∷ ss) (o ∷ ks) secret m e h =
    let b = bind_ok (if is_beside s j then require_present s.parent (record { secret = secret; keys = ks }) else climb_take c ss j ks secret) (λ z. climb_past_present c j s.parent z) m h in
    let p = sounds c j s.parent b.0 m b.2 in
    let n : length ks ≡ length ss = omega arith in
    ap length p.keys_are ∙ ap suc (by_side (is_beside s j) b.0 b.1 n (take_length c j ss ks secret b.0 n))
  where
    by_side : (t : Bool) (m0 : Climb) → (if t then require_present s.parent (record { secret = secret; keys = ks }) else climb_take c ss j ks secret) ≡ Ok m0 → length ks ≡ length ss →
        (climb_take c ss j ks secret ≡ Ok m0 → length m0.keys ≡ length ss) → length m0.keys ≡ length ss
    by_side true m0 f n rec =
        let made : Climb = record { secret = secret; keys = ks } in
        ap (λ (z : Climb). length z.keys) (sym (present_is s.parent made m0 f)) ∙ n
    by_side false m0 f n rec = rec f

-- ---- the whole of it

pub take_outside : (c : Crypto) (t : Term) (i j : ℕ) (own secret : List ℕ) → width t ≤ i → take_answer c t i j own secret ≡ Err 34
unfolding take_answer
take_outside c t i j own secret ge = cond-false _ _ _ (le-ltb i (width t) ge)

module _ (c : Crypto) (h : ℕ) (t : Term) (perfect : is_perfect h t ≡ true) (i j leaf : ℕ) (leaf_is : j ≡ leaf) (own secret : List ℕ) (ps qs : List Place) (signers : IsWay t i ps) (joiners : IsWay t j qs) (inside : i < width t) where
  length_is : (k : ℕ) (rs : List Place) → IsWay t k rs → length rs ≡ h
  length_is k rs w = sym (length-map rs (step_of t)) ∙ ap length w.steps ∙ way_height h 0 t k perfect

  nones_long : length (replicate {A = Option (List ℕ)} (length ps) None) ≡ length (map (step_of t) ps)
  nones_long = length-replicate (length ps) None ∙ sym (length-map ps (step_of t))

  only_own : leaf_only (way 0 t j) own ≡ replicate (length ps) None ++ (Some own ∷ [])
  only_own = only_is (way 0 t j) own ∙ ap (λ n. replicate n None ++ (Some own ∷ [])) (way_height h 0 t j perfect ∙ sym (length_is i ps signers))

  climb_is : climb_take c (way 0 t i) j (leaf_only (way 0 t j) own) secret ≡ owned own (taken_over c t j secret ps)
  climb_is =
      ap₂ (λ ss ks. climb_take c ss j ks secret) (sym signers.steps) only_own
      ∙ take_with c j own (map (step_of t) ps) (replicate (length ps) None) secret nones_long

  checked : Climb → Result Climb ℕ
  checked m = if is_complete j (way 0 t j) m.keys then Ok m else Err 35

  take_is : take_answer c t i leaf own secret ≡ (owned own (taken_over c t j secret ps) >>= λ m. checked m)
  unfolding take_keys checked
  take_is =
      ap (λ k. take_answer c t i k own secret) (sym leaf_is)
      ∙ take_inside c t i j own secret (record { low = omega arith; high = omega arith })
      ∙ ap (λ r. r >>= λ m. checked m) climb_is

  keys_long : (m : Climb) → taken_over c t j secret ps ≡ Ok m → length m.keys ≡ length ps
  keys_long m e = take_length c j (map (step_of t) ps) (replicate (length ps) None) secret m nones_long e ∙ length-map ps (step_of t)

  checked_is : (m : Climb) (done : Bool) → taken_over c t j secret ps ≡ Ok m → done ≡ is_complete j (map (step_of t) qs) m.keys → checked (with_own own m) ≡ (if done then Ok (with_own own m) else Err 35)
  unfolding checked
  checked_is m done e is =
      let long : length m.keys ≡ length (way 0 t j) = keys_long m e ∙ length_is i ps signers ∙ sym (way_height h 0 t j perfect) in
      ap (λ b. if◌then◌else◌ {A = Result Climb ℕ} b (Ok (with_own own m)) (Err 35))
      (complete_with j (way 0 t j) m.keys (Some own ∷ []) long ∙ sym (is ∙ ap (λ ss. is_complete j ss m.keys) joiners.steps))

  taken_is : (m : Climb) (done : Bool) → taken_over c t j secret ps ≡ Ok m → done ≡ is_complete j (map (step_of t) qs) m.keys → take_answer c t i leaf own secret ≡ (if done then Ok (with_own own m) else Err 35)
  taken_is m done e is = take_is ∙ ap (λ r. owned own r >>= λ z. checked z) e ∙ checked_is m done e is

  pub take_whole : (m : Climb) (done : Bool) → taken_over c t j secret ps ≡ Ok m → done ≡ is_complete j (map (step_of t) qs) m.keys → done ≡ true → take_answer c t i leaf own secret ≡ Ok (with_own own m)
  take_whole m done e is d = taken_is m done e is ∙ cond-true _ _ _ d

  pub take_missing : (m : Climb) (done : Bool) → taken_over c t j secret ps ≡ Ok m → done ≡ is_complete j (map (step_of t) qs) m.keys → done ≡ false → take_answer c t i leaf own secret ≡ Err 35
  take_missing m done e is d = taken_is m done e is ∙ cond-false _ _ _ d

  pub take_refused : (n : ℕ) → taken_over c t j secret ps ≡ Err n → take_answer c t i leaf own secret ≡ Err n
  take_refused n e = take_is ∙ ap (λ r. owned own r >>= λ z. checked z) e

  pub take_low : (m : Climb) → taken_over c t j secret ps ≡ Ok m → length m.keys ≤ 31
  take_low m e = let n = keys_long m e in let low = signers.low in omega arith
