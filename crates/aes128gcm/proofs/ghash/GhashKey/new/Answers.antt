use Rattle.std.proofs.Common.{arith, rules, sym, ap, ◌∙◌}
use Rattle.std.proofs.lemmas.List.{length-set}
use Rattle.aes128gcm.specs.Gcm.{multiple}
use Rattle.aes128gcm.proofs.TableLemmas.{table_more, multiple_more, multiple_none}
use Rattle.aes128gcm.proofs.ghash.GhashKey.new.Goals as goal

pub loop-i-init : goal.loop-i-init
loop-i-init c = record { table = λ k h. absurd (omega arith); next = multiple_none c.args.block; high = search rules; low = search rules }

pub loop-i-preserved : goal.loop-i-preserved
loop-i-preserved c = record {
  table = table_more c.loop-i.high c.loop-i.low c.args.block c.loop-i.i c.loop-i.v c.high_word.result c.low_word.result c.loop-i.invariant.high c.loop-i.invariant.low (omega arith)
      c.loop-i.invariant.table c.loop-i.invariant.next c.high_word.ensures c.low_word.ensures;
  next = multiple_more c.args.block c.loop-i.i c.loop-i.v c.times_x-v.result c.loop-i.invariant.next c.times_x-v.ensures;
  high = length-set c.loop-i.high c.loop-i.i c.high_word.result ∙ c.loop-i.invariant.high;
  low = length-set c.loop-i.low c.loop-i.i c.low_word.result ∙ c.loop-i.invariant.low;
}

pub invariant_of-result : goal.invariant_of-result
invariant_of-result c i h =
    c.loop-i.invariant.table i (omega arith) ∙ ap (λ b. multiple b i) (sym (c.loop-i.invariant.table 0 (omega arith) ∙ sym (multiple_none c.args.block)))

pub returns : goal.returns
returns c = c.loop-i.invariant.table 0 (omega arith) ∙ sym (multiple_none c.args.block)
