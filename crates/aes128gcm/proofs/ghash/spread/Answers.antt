use Rattle.std.proofs.Common.{ℕ, ◌+◌, ◌-◌, ◌/◌, ◌%◌, ◌^◌, arith, rules, refl, ◌∙◌}
use Rattle.std.proofs.lemmas.List.{length-set}
use Rattle.aes128gcm.proofs.TableLemmas.{up_none, up_next, up_top, top_bit, bottom_bit, copies_more}
use Rattle.aes128gcm.proofs.ghash.spread.Goals as goal

pub loop-i-init : goal.loop-i-init
loop-i-init c = record { words = λ k h. absurd (omega arith); count = search rules; rest = c.high_word-top.ensures ∙ up_none (c.args.x / 2 ^ 64) (omega arith) }

pub loop-i-preserved : goal.loop-i-preserved
loop-i-preserved c =
    let v = c.loop-i.invariant in
    let new : ℕ = (0 + (18446744073709551616 - c.loop-i.top / 2 ^ 63)) % 18446744073709551616 in
    record {
      words = copies_more c.loop-i.copies c.args.x c.loop-i.i c.loop-i.top new v.count (omega arith) v.words
          (up_top c.loop-i.i (c.args.x / 2 ^ 64) c.loop-i.top (omega arith) v.rest ∙ top_bit c.args.x c.loop-i.i (omega arith)) (search rules) refl;
      count = length-set c.loop-i.copies c.loop-i.i new ∙ v.count;
      rest = up_next c.loop-i.i (c.args.x / 2 ^ 64) c.loop-i.top v.rest;
    }

pub loop-j-init : goal.loop-j-init
loop-j-init c = record {
  words = λ k h. c.loop-i.invariant.words k (omega arith);
  count = c.loop-i.invariant.count;
  rest = c.low_word-bottom.ensures ∙ up_none (c.args.x % 2 ^ 64) (omega arith);
}

pub loop-j-preserved : goal.loop-j-preserved
loop-j-preserved c =
    let v = c.loop-j.invariant in
    let new : ℕ = (0 + (18446744073709551616 - c.loop-j.bottom / 2 ^ 63)) % 18446744073709551616 in
    record {
      words = λ k h. copies_more c.loop-j.copies c.args.x (64 + c.loop-j.j) c.loop-j.bottom new v.count (omega arith) v.words
          (up_top c.loop-j.j (c.args.x % 2 ^ 64) c.loop-j.bottom (omega arith) v.rest ∙ bottom_bit c.args.x c.loop-j.j (omega arith)) (search rules) refl k (omega arith);
      count = length-set c.loop-j.copies (64 + c.loop-j.j) new ∙ v.count;
      rest = up_next c.loop-j.j (c.args.x % 2 ^ 64) c.loop-j.bottom v.rest;
    }

pub returns-clause-bits : goal.returns-clause-bits
returns-clause-bits c k h = c.loop-j.invariant.words k (omega arith)

pub returns-clause-count : goal.returns-clause-count
returns-clause-count c = c.loop-j.invariant.count
