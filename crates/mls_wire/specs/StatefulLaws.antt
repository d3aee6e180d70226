-- The laws of items whose format depends on those before them.
use Rattle.std.proofs.Common.{◌≡◌, ℕ, zero, suc, ◌<◌, ◌≤◌, ◌^◌, List, [], ◌∷◌, ◌++◌, length, Ok, refl, ap, subst, ◌∙◌, arith}
use Rattle.std.proofs.lemmas.List.{length-append}
use Rattle.mls_wire.specs.Reading.{◌>>=◌, opaque, opaque_at}
use Rattle.mls_wire.specs.Format.{IsBytes, Takes, IsLawful}
use Rattle.mls_wire.specs.Laws.{bind_ok, bound, ok_is, opaque_takes, opaque_again, opaque_bytes}
use Rattle.mls_wire.specs.CombineLaws.{good}
use Rattle.mls_wire.specs.StatefulReads.{Rule, RunFits, run_at, run_read, run_spelling}

pub run_takes : {S V : Type 0} (rule : Rule S V) (fuel : ℕ) (s : S) (bytes : List ℕ) (vs : List V) → IsBytes bytes → run_at rule fuel s bytes ≡ Ok vs → (bytes ≡ run_spelling rule s vs) × RunFits rule s vs
run_takes {S} {V} rule fuel s [] vs fits e = subst (λ (l : List V). ([] ≡ run_spelling rule s l) × RunFits rule s l) (ok_is [] vs e) (refl, tt)
run_takes rule zero s (b ∷ bytes) vs fits e = absurd cc
run_takes {S} {V} rule (suc fuel) s (b ∷ bytes) vs fits e =
    let a = bind_ok ((rule.item s).read (b ∷ bytes)) (λ first. run_at rule fuel (rule.next s first.0) first.1 >>= λ others. Ok (first.0 ∷ others)) vs e in
    let t = bind_ok (run_at rule fuel (rule.next s a.0.0) a.0.1) (λ others. Ok (a.0.0 ∷ others)) vs a.2 in
    let first = (rule.item s).lawful.takes (b ∷ bytes) a.0.0 a.0.1 fits a.1 in
    let second = run_takes rule fuel (rule.next s a.0.0) a.0.1 t.0 first.0.rest_fits t.1 in
    let whole : b ∷ bytes ≡ run_spelling rule s (a.0.0 ∷ t.0) = first.0.parts ∙ ap (λ (l : List ℕ). (rule.item s).spell a.0.0 ++ l) second.0 in
    subst (λ (l : List V). (b ∷ bytes ≡ run_spelling rule s l) × RunFits rule s l) (ok_is (a.0.0 ∷ t.0) vs t.2) (whole, (first.1, second.1))

run_step : {S V : Type 0} (rule : Rule S V) (fuel : ℕ) (s : S) (bytes rest : List ℕ) (v : V) (vs : List V) → 0 < length bytes → (rule.item s).read bytes ≡ Ok (v, rest) → run_at rule fuel (rule.next s v) rest ≡ Ok vs → run_at rule (suc fuel) s bytes ≡ Ok (v ∷ vs)
run_step rule fuel s [] rest v vs lt e f = absurd (omega arith)
run_step rule fuel s (b ∷ bytes) rest v vs lt e f =
    bound ((rule.item s).read (b ∷ bytes)) (v, rest) (λ first. run_at rule fuel (rule.next s first.0) first.1 >>= λ others. Ok (first.0 ∷ others)) e ∙ bound (run_at rule fuel (rule.next s v) rest) vs (λ others. Ok (v ∷ others)) f

pub run_again : {S V : Type 0} (rule : Rule S V) (fuel : ℕ) (s : S) (vs : List V) → length (run_spelling rule s vs) ≤ fuel → RunFits rule s vs → run_at rule fuel s (run_spelling rule s vs) ≡ Ok vs
run_again rule fuel s [] le fits = refl
run_again rule zero s (v ∷ vs) le fits = absurd (omega (arith, rule.nonempty s v fits.0, length-append ((rule.item s).spell v) (run_spelling rule (rule.next s v) vs)))
run_again rule (suc fuel) s (v ∷ vs) le fits =
    let some = rule.nonempty s v fits.0 in
    let len = length-append ((rule.item s).spell v) (run_spelling rule (rule.next s v) vs) in
    run_step rule fuel s ((rule.item s).spell v ++ run_spelling rule (rule.next s v) vs) (run_spelling rule (rule.next s v) vs) v vs (omega arith) ((rule.item s).lawful.again v (run_spelling rule (rule.next s v) vs) fits.0) (run_again rule fuel (rule.next s v) vs (omega arith) fits.1)

pub run_lawful : {S V : Type 0} (rule : Rule S V) (s : S)
    → IsLawful (λ vs. opaque (run_spelling rule s vs)) (λ vs. RunFits rule s vs × (length (run_spelling rule s vs) < 2 ^ 30)) (λ bytes. opaque_at bytes >>= run_read rule s)
run_lawful {S} {V} rule s = record {
  takes = λ bytes vs rest fits e.
      let a = bind_ok (opaque_at bytes) (run_read rule s) (vs, rest) e in
      let t = bind_ok (run_at rule (length a.0.0) s a.0.0) (λ l. Ok (l, a.0.1)) (vs, rest) a.2 in
      let first = opaque_takes bytes a.0.0 a.0.1 fits a.1 in
      let second = run_takes rule (length a.0.0) s a.0.0 t.0 (opaque_bytes bytes a.0.0 a.0.1 fits a.1) t.1 in
      let made : Takes bytes (opaque (run_spelling rule s t.0)) a.0.1 × (RunFits rule s t.0 × (length (run_spelling rule s t.0) < 2 ^ 30)) =
      subst (λ (l : List ℕ). Takes bytes (opaque l) a.0.1 × (RunFits rule s t.0 × (length l < 2 ^ 30))) second.0 (first.0, (second.1, first.1)) in
      subst (λ (x : List V × List ℕ). Takes bytes (opaque (run_spelling rule s x.0)) x.1 × (RunFits rule s x.0 × (length (run_spelling rule s x.0) < 2 ^ 30))) (ok_is (t.0, a.0.1) (vs, rest) t.2) made;
  again = λ vs rest fits.
      bound (opaque_at (opaque (run_spelling rule s vs) ++ rest)) (run_spelling rule s vs, rest) (run_read rule s) (opaque_again (run_spelling rule s vs) rest fits.1)
      ∙ bound (run_at rule (length (run_spelling rule s vs)) s (run_spelling rule s vs)) vs (λ l. good l rest) (run_again rule (length (run_spelling rule s vs)) s vs (omega arith) fits.0);
}
