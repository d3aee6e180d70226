-- The laws of vectors whose content is an input of its own.
use Rattle.std.proofs.Common.{◌≡◌, ℕ, ◌<◌, ◌^◌, Bool, true, false, cond, eqb, List, [], ◌++◌, length, Option, Some, None, Result, Ok, Err, refl, sym, ap, subst, ◌∙◌, arith}
use Rattle.std.specs.Int.{w16}
use Rattle.std.proofs.lemmas.Bool.{eqb-true, ne_eqb}
use Rattle.std.proofs.lemmas.List.{append-nil, nil_from_length}
use Rattle.mls_wire.specs.Reading.{◌>>=◌, rest_of, uint_at, opaque, opaque_at}
use Rattle.mls_wire.specs.Format.{IsBytes, Takes, IsLawful, Format}
use Rattle.mls_wire.specs.Laws.{bind_ok, bound, ok_is, opaque_takes, opaque_again, opaque_bytes}
use Rattle.mls_wire.specs.CombineReads.{IsNonempty, without_value}
use Rattle.mls_types.specs.EnclosedReads.{OneFits, Whole, all_at, alone, alone_past, one_at, one_past, one_spelling_of, whole_past, with_rest}

-- ---- no value or one

no_second : {A : Type 0} (r : Result (ℕ × List ℕ) ℕ) (fault : ℕ) (y : A) → (r >>= λ _. Err fault) ≡ Ok y → ⊥
no_second (Ok x) fault y e = absurd cc
no_second (Err f) fault y e = absurd cc

alone_takes : {V : Type 0} (b : Bool) (fault : ℕ) (v : V) (r : Result (ℕ × List ℕ) ℕ) (o : Option V) → cond b (Ok (Some v)) (r >>= λ _. Err fault) ≡ Ok o → (b ≡ true) × (Some v ≡ o)
alone_takes true fault v r o e = (refl, cc)
alone_takes false fault v r o e = absurd (no_second r fault o e)

one_takes_by : {V : Type 0} (a : Format V) (fault : ℕ) (bytes : List ℕ) (o : Option V) (b : Bool) → b ≡ eqb (length bytes) 0 → IsBytes bytes → cond b (Ok None) (a.read bytes >>= alone fault) ≡ Ok o → (bytes ≡ one_spelling_of a o) × OneFits a o
one_takes_by {V} a fault bytes o true is fits e =
    let nil : bytes ≡ [] = nil_from_length bytes (eqb-true _ _ (sym is)) in
    subst (λ (x : Option V). (bytes ≡ one_spelling_of a x) × OneFits a x) (ok_is None o e) (nil, tt)
one_takes_by {V} a fault bytes o false is fits e =
    let s = bind_ok (a.read bytes) (alone fault) o e in
    let g = alone_takes (eqb (length s.0.1) 0) fault s.0.0 (uint_at w16 s.0.1) o s.2 in
    let t = a.lawful.takes bytes s.0.0 s.0.1 fits s.1 in
    let nil : s.0.1 ≡ [] = nil_from_length s.0.1 (eqb-true _ _ g.0) in
    subst (λ (x : Option V). (bytes ≡ one_spelling_of a x) × OneFits a x) g.1 (t.0.parts ∙ ap (λ (l : List ℕ). a.spell s.0.0 ++ l) nil ∙ append-nil (a.spell s.0.0), t.1)

pub one_takes : {V : Type 0} (a : Format V) (fault : ℕ) (bytes : List ℕ) (o : Option V) → IsBytes bytes → one_at a fault bytes ≡ Ok o → (bytes ≡ one_spelling_of a o) × OneFits a o
one_takes a fault bytes o fits e = one_takes_by a fault bytes o (eqb (length bytes) 0) refl fits e

some_is : (n : ℕ) → 0 < n → eqb n 0 ≡ false
some_is n lt = ne_eqb n 0 (λ e. absurd (omega arith))

pub one_again : {V : Type 0} (a : Format V) (nonempty : IsNonempty a) (fault : ℕ) (o : Option V) → OneFits a o → one_at a fault (one_spelling_of a o) ≡ Ok o
one_again a nonempty fault None fits = refl
one_again a nonempty fault (Some v) fits =
    let some = some_is (length (a.spell v)) (nonempty v fits) in
    let read : a.read (a.spell v) ≡ Ok (v, []) = ap a.read (sym (append-nil (a.spell v))) ∙ a.lawful.again v [] fits in
    rw (some, read) refl

second_passed : {A : Type 0} (r : Result (ℕ × List ℕ) ℕ) (fault : ℕ) (b : Bool) (v : A) → cond b (Ok tt) (r >>= λ _. Err fault) ≡ without_value (cond b (Ok (Some v)) (r >>= λ _. Err fault))
second_passed (Ok x) fault true v = refl
second_passed (Ok x) fault false v = refl
second_passed (Err e) fault true v = refl
second_passed (Err e) fault false v = refl

alone_passes : {V : Type 0} (fault : ℕ) (r : Result (V × List ℕ) ℕ) → (rest_of r >>= alone_past fault) ≡ without_value (r >>= alone fault)
alone_passes fault (Ok x) = second_passed (uint_at w16 x.1) fault (eqb (length x.1) 0) x.0
alone_passes fault (Err e) = refl

chosen_passes : {V : Type 0} (b : Bool) (p : Result (Unit {0}) ℕ) (r : Result (Option V) ℕ) → p ≡ without_value r → cond b (Ok tt) p ≡ without_value (cond b (Ok None) r)
chosen_passes true p r e = refl
chosen_passes false p r e = e

pub one_passes : {V : Type 0} (a : Format V) (fault : ℕ) (bytes : List ℕ) → one_past a fault bytes ≡ without_value (one_at a fault bytes)
one_passes a fault bytes =
    chosen_passes (eqb (length bytes) 0) (a.pass bytes >>= alone_past fault) (a.read bytes >>= alone fault)
    (ap (λ (r : Result (List ℕ) ℕ). r >>= alone_past fault) (a.passes bytes) ∙ alone_passes fault (a.read bytes))

-- ---- behind a header

pub enclosed_lawful : {V : Type 0} (w : Whole V) → IsLawful (λ v. opaque (w.spell v)) (λ v. w.Fits v × (length (w.spell v) < 2 ^ 30)) (λ bytes. opaque_at bytes >>= all_at w)
enclosed_lawful {V} w = record {
  takes = λ bytes v rest fits e.
      let s = bind_ok (opaque_at bytes) (all_at w) (v, rest) e in
      let t = bind_ok (w.read s.0.0) (λ y. with_rest s.0.1 y) (v, rest) s.2 in
      let first = opaque_takes bytes s.0.0 s.0.1 fits s.1 in
      let second = w.takes s.0.0 t.0 (opaque_bytes bytes s.0.0 s.0.1 fits s.1) t.1 in
      let made : Takes bytes (opaque (w.spell t.0)) s.0.1 × (w.Fits t.0 × (length (w.spell t.0) < 2 ^ 30)) =
      subst (λ (l : List ℕ). Takes bytes (opaque l) s.0.1 × (w.Fits t.0 × (length l < 2 ^ 30))) second.0 (first.0, (second.1, first.1)) in
      subst (λ (x : V × List ℕ). Takes bytes (opaque (w.spell x.0)) x.1 × (w.Fits x.0 × (length (w.spell x.0) < 2 ^ 30))) (ok_is (t.0, s.0.1) (v, rest) t.2) made;
  again = λ v rest fits.
      bound (opaque_at (opaque (w.spell v) ++ rest)) (w.spell v, rest) (all_at w) (opaque_again (w.spell v) rest fits.1)
      ∙ bound (w.read (w.spell v)) v (λ y. with_rest rest y) (w.again v fits.0);
}

enclosed_one : {V : Type 0} (p : Result (Unit {0}) ℕ) (r : Result V ℕ) (rest : List ℕ) → p ≡ without_value r → (p >>= λ _. Ok rest) ≡ rest_of (r >>= λ v. with_rest rest v)
enclosed_one p (Ok v) rest e = ap (λ (q : Result (Unit {0}) ℕ). q >>= λ _. Ok rest) e
enclosed_one p (Err f) rest e = ap (λ (q : Result (Unit {0}) ℕ). q >>= λ _. Ok rest) e

enclosed_past : {V : Type 0} (w : Whole V) (r : Result (List ℕ × List ℕ) ℕ) → (r >>= whole_past w) ≡ rest_of (r >>= all_at w)
enclosed_past w (Ok x) = enclosed_one (w.pass x.0) (w.read x.0) x.1 (w.passes x.0)
enclosed_past w (Err e) = refl

pub enclosed_passes : {V : Type 0} (w : Whole V) (bytes : List ℕ) → (opaque_at bytes >>= whole_past w) ≡ rest_of (opaque_at bytes >>= all_at w)
enclosed_passes w bytes = enclosed_past w (opaque_at bytes)
