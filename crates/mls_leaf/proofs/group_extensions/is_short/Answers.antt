use Rattle.std.proofs.Common.{◌≡◌, ℕ, ◌+◌, length, sym, ap, ◌∙◌, arith}
use Rattle.std.specs.Prelude.{nat_le}
use Rattle.mls_wire.specs.Reading.{header}
use Rattle.mls_leaf.specs.Limits.{input_limit}
use Rattle.mls_leaf.proofs.ShortLaws.{content_length, spell_length, content_more, content_all, list_length, front_too_long}
use Rattle.mls_leaf.proofs.group_extensions.is_short.Goals as goal

pub returns-then-carried-gt-INPUT_LIMIT : goal.returns-then-carried-gt-INPUT_LIMIT
returns-then-carried-gt-INPUT_LIMIT c =
    let v = c.entry-item.result in
    let same = ap length c.as_slice-carried.ensures in
    sym (front_too_long c.args.entries.now c.loop-entry.entry-index v c.loop-entry-test.true c.entry-item.is (omega (arith, spell_length v)))

pub returns-then-content-gt-INPUT_LIMIT : goal.returns-then-content-gt-INPUT_LIMIT
returns-then-content-gt-INPUT_LIMIT c =
    let v = c.entry-item.result in
    let same = ap length c.as_slice-carried.ensures in
    let front = c.header_length-front.ensures.exact ∙ ap (λ (n : ℕ). length (header n)) same in
    sym (front_too_long c.args.entries.now c.loop-entry.entry-index v c.loop-entry-test.true c.entry-item.is (omega (arith, spell_length v)))

pub loop-entry-preserved : goal.loop-entry-preserved
loop-entry-preserved c =
    let v = c.entry-item.result in
    let same = ap length c.as_slice-carried.ensures in
    let front = c.header_length-front.ensures.exact ∙ ap (λ (n : ℕ). length (header n)) same in
    record {
      exact = omega (arith, spell_length v, content_more c.args.entries.now c.loop-entry.entry-index v c.loop-entry-test.true c.entry-item.is);
      short = omega arith;
    }

pub returns : goal.returns
returns c =
    let all = c.args.entries.now in
    let whole : c.loop-entry.content ≡ content_length all = c.loop-entry.invariant.exact ∙ content_all all c.loop-entry.entry-index (omega arith) in
    ap (λ (n : ℕ). nat_le n input_limit) (ap (λ (n : ℕ). n + c.loop-entry.content) c.header_length-first.ensures.exact ∙ ap (λ (k : ℕ). length (header k) + k) whole ∙ sym (list_length all))
