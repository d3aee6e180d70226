-- Deliveries, one by one: which world was reached, what was counted, and what is left.
use Rattle.std.proofs.Common.{◌≡◌, ◌∙◌, ◌≤◌, ◌<◌, ◌^◌, ◌+◌, ℕ, Err, List, [], ◌∷◌, ◌++◌, length, take, drop, drop-cons, get_or, add-one, arith, refl, ap, sym, subst}
use Rattle.std.proofs.Math.Seq.{take-length, take-suc}
use Rattle.std.proofs.lemmas.List.{drop_all, map-append, take-map}
use Rattle.mls_suite.specs.Crypto.{Crypto}
use Rattle.mls_model.specs.declared.effect.Effect.{Effect}
use Rattle.mls_model.specs.declared.effect.Effect.TheVariants as effect
use Rattle.mls_model.specs.declared.event.Event.{Event}
use Rattle.mls_model.specs.declared.event.Event.TheVariants as event
use Rattle.mls_model.specs.declared.event.Reply.{Reply}
use Rattle.mls_model.specs.declared.event.Reply.TheVariants as reply
use Rattle.mls_model.specs.declared.event.Source.{Source}
use Rattle.mls_model.specs.World.{World}
use Rattle.mls_model.specs.Run.{run, replies, step}
use Rattle.mls_model.proofs.RunLaws.{run_in_parts}
use Rattle.mls_world_plain.specs.EarlyChecks.{early_checks, early_delivery_checks}
use Rattle.mls_cli_replay.specs.Actions.{HasRoom, HasRunPart, tally_with, tally_with_effect, deliveries, no_deliveries, tally_from, tally_of}
use Rattle.mls_cli_replay.specs.declared.deliveries.Tally.{Tally}

-- ---- counts

-- no kind of reply came more often than this
pub record IsUpTo (t : Tally) (n : ℕ) : Type 0 where
  pub proposed : t.proposed ≤ n
  pub known : t.known ≤ n
  pub advanced : t.advanced ≤ n
  pub removed : t.removed ≤ n
  pub refused : t.refused ≤ n

none_counted : IsUpTo no_deliveries 0
none_counted = record { proposed = omega arith; known = omega arith; advanced = omega arith; removed = omega arith; refused = omega arith }

pub room : (t : Tally) (n : ℕ) → IsUpTo t n → n + 1 < 2 ^ 64 → HasRoom t
room t n p lt = record { proposed = omega arith; known = omega arith; advanced = omega arith; removed = omega arith; refused = omega arith }

effect_counted : (t : Tally) (n : ℕ) (e : Effect) → IsUpTo t n → IsUpTo (tally_with_effect t e) (n + 1)
effect_counted t n (effect.Proposed reference) p = record { proposed = omega arith; known = omega arith; advanced = omega arith; removed = omega arith; refused = omega arith }
effect_counted t n (effect.Known reference) p = record { proposed = omega arith; known = omega arith; advanced = omega arith; removed = omega arith; refused = omega arith }
effect_counted t n (effect.Advanced epoch) p = record { proposed = omega arith; known = omega arith; advanced = omega arith; removed = omega arith; refused = omega arith }
effect_counted t n effect.Removed p = record { proposed = omega arith; known = omega arith; advanced = omega arith; removed = omega arith; refused = omega arith }

refusal_counted : (t : Tally) (n : ℕ) → IsUpTo t n → IsUpTo (record t { refused = t.refused + 1 }) (n + 1)
refusal_counted t n p = record { proposed = omega arith; known = omega arith; advanced = omega arith; removed = omega arith; refused = omega arith }

one_counted : (t : Tally) (n : ℕ) (r : Reply) → IsUpTo t n → IsUpTo (tally_with t r) (n + 1)
one_counted t n (reply.Delivered e) p = effect_counted t n e p
one_counted t n (reply.Candidate candidate message) p = refusal_counted t n p
one_counted t n (reply.Created member) p = refusal_counted t n p
one_counted t n (reply.Proposal message) p = refusal_counted t n p
one_counted t n (reply.Commit message welcome) p = refusal_counted t n p
one_counted t n (reply.Dropped pending) p = refusal_counted t n p
one_counted t n (reply.Joined member epoch) p = refusal_counted t n p
one_counted t n (reply.Refused number) p = refusal_counted t n p

-- ---- before the delivery of number i

pub record Delivered (c : Crypto) (w : World) (source : Source) (all : List ℕ) (i : ℕ) (v : World) (t : Tally) : Type 0 where
  pub reached : v ≡ run c w (deliveries source (take i all))
  pub world : run c w (deliveries source all) ≡ run c v (deliveries source (drop i all))
  pub tally : tally_of (replies c w (deliveries source all)) ≡ tally_from t (replies c v (deliveries source (drop i all)))
  pub few : IsUpTo t i

run_nothing : (c : Crypto) (w : World) → run c w [] ≡ w
unfolding run
run_nothing c w = refl

run_one : (c : Crypto) (w : World) (e : Event) → run c w (e ∷ []) ≡ (step c w e).1
unfolding run
run_one c w e = refl

-- one event, and none
pub one_run : (c : Crypto) (w v : World) (e : Event) (r : Reply) → step c w e ≡ (r, v) → v ≡ run c w (e ∷ [])
one_run c w v e r h = sym (run_one c w e ∙ ap (λ (x : Reply × World). x.1) h)

pub all_run : (c : Crypto) (w v : World) (es : List Event) → v ≡ run c w es → HasRunPart c w v es
all_run c w v es same = record { count = length es; world = same ∙ ap (λ (xs : List Event). run c w xs) (sym (take-length es)) }

pub nothing_run : (c : Crypto) (w v : World) (es : List Event) → v ≡ w → HasRunPart c w v es
nothing_run c w v es same = record { count = 0; world = same ∙ sym (run_nothing c w) }

run_first : (c : Crypto) (w : World) (e : Event) (es : List Event) → run c w (e ∷ es) ≡ run c (step c w e).1 es
unfolding run
run_first c w e es = refl

tally_first : (c : Crypto) (w : World) (t : Tally) (e : Event) (es : List Event) → tally_from t (replies c w (e ∷ es)) ≡ tally_from (tally_with t (step c w e).0) (replies c (step c w e).1 es)
unfolding tally_from replies
tally_first c w t e es = refl

tally_none : (c : Crypto) (w : World) (t : Tally) → tally_from t (replies c w []) ≡ t
unfolding tally_from replies
tally_none c w t = refl

pub delivered_none : (c : Crypto) (w : World) (source : Source) (all : List ℕ) → Delivered c w source all 0 w no_deliveries
delivered_none c w source all = record { reached = sym (run_nothing c w); world = refl; tally = refl; few = none_counted }

module _ (c : Crypto) (w : World) (source : Source) (all : List ℕ) (i : ℕ) (lt : i < length all) where
  abbrev here : Event
  here = event.Deliver (get_or all i 0) source

  left : deliveries source (drop i all) ≡ here ∷ deliveries source (drop (i + 1) all)
  left = rw (add-one i) (ap (deliveries source) (drop-cons all i 0 lt))

  front : deliveries source (take (i + 1) all) ≡ deliveries source (take i all) ++ (here ∷ [])
  front = rw (add-one i) (ap (deliveries source) (take-suc all i 0 lt) ∙ map-append (λ (k : ℕ). event.Deliver k source) (take i all) (get_or all i 0 ∷ []))

  pub delivered_next : (v u : World) (t n : Tally) (r : Reply) → Delivered c w source all i v t → step c v here ≡ (r, u) → n ≡ tally_with t r → Delivered c w source all (i + 1) u n
  delivered_next v u t n r p stepped counts =
      let to : (step c v here).1 ≡ u = ap (λ (x : Reply × World). x.1) stepped in
      let said : (step c v here).0 ≡ r = ap (λ (x : Reply × World). x.0) stepped in
      record {
        reached = sym to
            ∙ ap (λ (x : World). (step c x here).1) p.reached
            ∙ sym (run_one c (run c w (deliveries source (take i all))) here)
            ∙ sym (run_in_parts c w (deliveries source (take i all)) (here ∷ []))
            ∙ ap (λ (es : List Event). run c w es) (sym front);
        world = p.world ∙ ap (λ (es : List Event). run c v es) left ∙ run_first c v here (deliveries source (drop (i + 1) all))
            ∙ ap (λ (x : World). run c x (deliveries source (drop (i + 1) all))) to;
        tally = p.tally
            ∙ ap (λ (es : List Event). tally_from t (replies c v es)) left
            ∙ tally_first c v t here (deliveries source (drop (i + 1) all))
            ∙ ap (λ (x : Reply). tally_from (tally_with t x) (replies c (step c v here).1 (deliveries source (drop (i + 1) all)))) said
            ∙ ap (λ (x : World). tally_from (tally_with t r) (replies c x (deliveries source (drop (i + 1) all)))) to
            ∙ ap (λ (x : Tally). tally_from x (replies c u (deliveries source (drop (i + 1) all)))) (sym counts);
        few = subst (λ (x : Tally). IsUpTo x (i + 1)) (sym counts) (one_counted t i r p.few);
      }

-- where it stops, those before have happened
pub delivered_part : (c : Crypto) (w : World) (source : Source) (all : List ℕ) (i : ℕ) (v u : World) (t : Tally) → Delivered c w source all i v t → u ≡ v → HasRunPart c w u (deliveries source all)
delivered_part c w source all i v u t p same = record {
  count = i;
  world = same ∙ p.reached ∙ ap (λ (es : List Event). run c w es) (sym (take-map (λ (k : ℕ). event.Deliver k source) i all));
}

pub record DeliveredAll (c : Crypto) (w : World) (source : Source) (all : List ℕ) (v : World) (t : Tally) : Type 0 where
  pub world : v ≡ run c w (deliveries source all)
  pub tally : t ≡ tally_of (replies c w (deliveries source all))

pub delivered_all : (c : Crypto) (w : World) (source : Source) (all : List ℕ) (i : ℕ) (v : World) (t : Tally) → length all ≤ i → Delivered c w source all i v t → DeliveredAll c w source all v t
delivered_all c w source all i v t le p =
    let none : deliveries source (drop i all) ≡ [] = ap (deliveries source) (drop_all i all le) in
    record {
      world = sym (p.world ∙ ap (λ (es : List Event). run c v es) none ∙ run_nothing c v);
      tally = sym (p.tally ∙ ap (λ (es : List Event). tally_from t (replies c v es)) none ∙ tally_none c v t);
    }

-- ---- what is decided before anything grows

pub decided : (number : ℕ) (w : World) (k : ℕ) (source : Source) (n : ℕ) → early_checks number w (event.Deliver k source) ≡ Err n → early_delivery_checks w k source ≡ Err n
unfolding early_checks
decided number w k source n h = h
