use Rattle.std.proofs.Common.{◌≡◌, ◌≢◌, inl, inr, ℕ, ◌+◌, ◌<◌, List, length, get_or, set, refl, arith, add-one, rules, get_or-set_other, get_or-set_same, ap, ◌∙◌, subst}
use Rattle.std.proofs.lemmas.List.{length-set}
use Rattle.std.proofs.lemmas.Bool.{cases_lt}
use Rattle.aes128gcm.specs.Aes.{round_key, next_key, round_constant, multiple, xtimes}
use Rattle.aes128gcm.specs.Lanes.{Holds}
use Rattle.aes128gcm.proofs.LoadLemmas.{in_all}
use Rattle.aes128gcm.proofs.keys.expand_key.Goals as goal

more : (keys : List (List ℕ)) (key k new : List ℕ) (i j : ℕ) → length keys ≡ 11 → i < 11 → j ≡ i + 1
    → ((b n : ℕ) (d : List ℕ) → b < 4 → n < i → Holds (get_or keys n d) b (round_key key n)) → k ≡ round_key key i → ((b : ℕ) → b < 4 → Holds new b k)
    → (b n : ℕ) (d : List ℕ) → b < 4 → n < j → Holds (get_or (set keys i new) n d) b (round_key key n)
more keys key k new i j long h ej before e made b n d hb hn =
    elim (cases_lt n i) [
      | inl lt ↦ let ne : n ≢ i = omega arith in rw get_or-set_other (before b n d hb lt)
      | inr gt ↦ let same : n ≡ i = omega arith in let lt : i < length keys = omega arith in
          rw (same, get_or-set_same) (subst (λ s. Holds new b s) e (made b hb))
    ]

next_round : (key k new : List ℕ) (i : ℕ) → k ≡ round_key key i → new ≡ next_key k i → new ≡ round_key key (i + 1)
unfolding round_key
next_round key k new i e f = rw add-one (f ∙ ap (λ z. next_key z i) e)

next_constant : (c new i : ℕ) → c ≡ round_constant i → new ≡ xtimes c → new ≡ round_constant (i + 1)
unfolding round_constant multiple
next_constant c new i e f = rw add-one (f ∙ ap xtimes e)

pub loop-i-init : goal.loop-i-init
unfolding round_key round_constant multiple
loop-i-init c = record { keys = λ b j d hb hj. absurd (omega arith); count = search rules; round = refl; constant = refl }

pub loop-i-preserved : goal.loop-i-preserved
loop-i-preserved c =
    let v = c.loop-i.invariant in
    record {
      keys = more c.loop-i.keys c.args.key.now c.loop-i.k c.load.result c.loop-i.i (c.loop-i.i + 1) v.count (omega arith) refl v.keys v.round
          (in_all c.load.result c.loop-i.k c.load.ensures.first c.load.ensures.second c.load.ensures.third c.load.ensures.fourth);
      count = length-set c.loop-i.keys c.loop-i.i c.load.result ∙ v.count;
      round = next_round c.args.key.now c.loop-i.k c.next_key-k.result c.loop-i.i v.round (c.next_key-k.ensures c.loop-i.i v.constant);
      constant = next_constant c.loop-i.constant c.xtimes-constant.result c.loop-i.i v.constant c.xtimes-constant.ensures;
    }

pub returns : goal.returns
returns c b i d hb hi =
    let v = c.loop-i.invariant in
    more c.loop-i.keys c.args.key.now c.loop-i.k c.load-2.result 10 11 v.count (omega arith) refl (λ b n d hb hn. v.keys b n d hb (omega arith))
    (v.round ∙ ap (round_key c.args.key.now) (omega arith)) (in_all c.load-2.result c.loop-i.k c.load-2.ensures.first c.load-2.ensures.second c.load-2.ensures.third c.load-2.ensures.fourth) b i d hb hi
