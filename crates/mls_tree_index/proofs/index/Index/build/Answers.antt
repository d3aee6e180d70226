use Rattle.std.proofs.Common.{◌+◌, ◌<◌, length, refl, ◌∙◌, ap, arith}
use mir.Val.{bool_byte}
use Rattle.mls_tree_index.specs.Keys.{key_in}
use Rattle.mls_tree_index.specs.Entries.{is_again}
use Rattle.mls_tree_index.proofs.SortLaws.{built_none, built_all, built_more, bit_low}
use Rattle.mls_tree_index.proofs.index.Index.build.Goals as goal

pub loop-place-init : goal.loop-place-init
loop-place-init c = record {
  built = built_none c.args.kind c.args.cells.now.nodes c.in_ok-entries.entries.items c.in_ok-entries.ensures.entries;
  low = omega arith;
}

pub loop-place-preserved : goal.loop-place-preserved
loop-place-preserved c =
    let before = c.loop-place.invariant in
    let low = before.low in
    let kind = c.args.kind in
    let cells = c.args.cells.now.nodes in
    let es = c.in_ok-entries.entries.items in
    let i = c.loop-place.place in
    let test = c.loop-place-test.true in
    let end = c.len-place-end.ensures in
    let inside : c.loop-place.place < length c.in_ok-entries.entries.items = omega arith in
    let again = c.is_again-again.ensures ∙ ap (λ xs. is_again (key_in kind cells) xs i) c.deref.ensures.value in
    let sum = ap (λ n. c.loop-place.repeats + n) (c.from-repeats.ensures ∙ ap bool_byte again) in
    let bit = bit_low c.from-repeats.result c.is_again-again.result c.from-repeats.ensures in
    record {
      built = built_more kind cells es c.in_ok-entries.ensures.entries i (record { front = 0; number = 0 }) inside c.in_ok-entries.ensures.ascend c.loop-place.repeats (c.loop-place.repeats + c.from-repeats.result) before.built sum;
      low = omega arith;
    }

pub returns-clause-built : goal.returns-clause-built
returns-clause-built c =
    let past = c.loop-place-test.false in
    let end = c.len-place-end.ensures in
    built_all c.args.kind c.args.cells.now.nodes c.in_ok-entries.entries.items c.in_ok-entries.ensures.entries c.loop-place.place _ (omega arith) refl (c.in_ok-blocks.ensures.entries ∙ c.deref-2.ensures.value) c.loop-place.invariant.built
