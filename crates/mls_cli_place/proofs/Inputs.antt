-- Whole inputs: the first fault is the one that reading answers.
use Rattle.std.proofs.Common.{◌≡◌, ◌==◌, ◌≤◌, ℕ, Bool, true, false, if◌then◌else◌, nat_lt, List, length, Option, Some, None, Result, Ok, Err, refl, sym, ap, subst, ◌∙◌, arith}
use Rattle.std.specs.Option.{option_map}
use Rattle.std.specs.Prelude.{IfSome}
use Rattle.mls_wire.specs.Format.{Format, IsBytes}
use Rattle.mls_wire.specs.Reading.{◌>>=◌, rest_of}
use Rattle.mls_wire.specs.Whole.{whole}
use Rattle.mls_leaf.specs.Limits.{input_limit}
use Rattle.mls_cli_place.specs.declared.place.Found.{Found}
use Rattle.mls_cli_place.specs.Finding.{Finds, Within, number_in}
use Rattle.mls_cli_place.specs.Place.{IsFaultOf, first_fault, refusal_of, whole_end}
use Rattle.mls_cli_place.specs.Walk.{Walk, at_front}

end_is : {V : Type 0} (x : V × List ℕ) (b : Bool) → option_map (λ (f : Found). f.fault) (if b then None else Some (at_front x.1 3)) ≡ refusal_of (if b then Ok x.0 else Err 3)
end_is x true = refl
end_is x false = refl

ends_alike : {V : Type 0} (w : Result (List ℕ) Found) (r : Result (V × List ℕ) ℕ) → number_in w ≡ rest_of r → option_map (λ (f : Found). f.fault) (whole_end w) ≡ refusal_of (r >>= λ x. if length x.1 == 0 then Ok x.0 else Err 3)
ends_alike (Ok rest) (Ok x) e =
    let same : rest ≡ x.1 = cc in
    subst (λ (bs : List ℕ). option_map (λ (f : Found). f.fault) (whole_end (Ok bs)) ≡ refusal_of (if length x.1 == 0 then Ok x.0 else Err 3)) (sym same) (end_is x (length x.1 == 0))
ends_alike (Ok rest) (Err n) e = absurd cc
ends_alike (Err f) (Ok x) e = absurd cc
ends_alike (Err f) (Err n) e = let same : f.fault ≡ n = cc in ap (λ (k : ℕ). Some k) same

limited : {V : Type 0} (b : Bool) (bytes : List ℕ) (w : Result (List ℕ) Found) (r : Result (V × List ℕ) ℕ) → number_in w ≡ rest_of r
    → option_map (λ (f : Found). f.fault) (if b then Some (at_front bytes 6) else whole_end w) ≡ refusal_of (if b then Err 6 else (r >>= λ x. if length x.1 == 0 then Ok x.0 else Err 3))
limited true bytes w r e = refl
limited false bytes w r e = ends_alike w r e

pub finds_fault : {V : Type 0} {walk : Walk} (a : Format V) → Finds walk a.pass → (bytes : List ℕ) → IsFaultOf (whole a input_limit bytes) (first_fault walk bytes)
unfolding whole
finds_fault {V} {walk} a h bytes = limited (nat_lt input_limit (length bytes)) bytes (walk bytes) (a.read bytes) (h.same bytes ∙ a.passes bytes)

end_within : (bytes : List ℕ) (b : Bool) (rest : List ℕ) (f : Found) → length rest ≤ length bytes → (if b then None else Some (at_front rest 3)) ≡ Some f → f.left ≤ length bytes
end_within bytes true rest f le e = absurd cc
end_within bytes false rest f le e = let same : at_front rest 3 ≡ f = cc in subst (λ (x : Found). x.left ≤ length bytes) same le

whole_within : (bytes : List ℕ) (w : Result (List ℕ) Found) (f : Found) → Within bytes w → whole_end w ≡ Some f → f.left ≤ length bytes
whole_within bytes (Ok rest) f h e = end_within bytes (length rest == 0) rest f h.0 e
whole_within bytes (Err g) f h e = let same : g ≡ f = cc in subst (λ (x : Found). x.left ≤ length bytes) same h

limit_within : (b : Bool) (bytes : List ℕ) (w : Result (List ℕ) Found) (f : Found) → Within bytes w → (if b then Some (at_front bytes 6) else whole_end w) ≡ Some f → f.left ≤ length bytes
limit_within true bytes w f h e = let same : at_front bytes 6 ≡ f = cc in subst (λ (x : Found). x.left ≤ length bytes) same (omega arith)
limit_within false bytes w f h e = whole_within bytes w f h e

pub fault_within : {walk : Walk} {pass : List ℕ → Result (List ℕ) ℕ} → Finds walk pass → (bytes : List ℕ) (f : Found) → IsBytes bytes → first_fault walk bytes ≡ Some f → f.left ≤ length bytes
fault_within {walk} {pass} h bytes f fits e = limit_within (nat_lt input_limit (length bytes)) bytes (walk bytes) f (h.within bytes fits) e

pub left_within : {walk : Walk} {pass : List ℕ → Result (List ℕ) ℕ} → Finds walk pass → (bytes : List ℕ) (o : Option Found) → IsBytes bytes → o ≡ first_fault walk bytes → IfSome o (λ (f : Found). f.left ≤ length bytes)
left_within h bytes None fits e = tt
left_within h bytes (Some f) fits e = fault_within h bytes f fits (sym e)
