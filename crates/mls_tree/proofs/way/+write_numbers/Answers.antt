use Rattle.mls_tree.proofs.Ways.{leaf_written, second_low, written_left, written_right}
use Rattle.mls_tree.proofs.way.+write_numbers.Goals as goal
use Rattle.mls_tree.proofs.way.+write_numbers.Goals.{then-i-second, else-i-second}

pub returns-then-height-eq0 : goal.returns-then-height-eq0
returns-then-height-eq0 t c = leaf_written _ _ _ _ c.if-height-eq0.true c.requires.long

pub overflow_mul-numbers-2 : goal.overflow_mul-numbers-2
overflow_mul-numbers-2 t c = record { fits = second_low c.args.height c.args.first c.if-height-eq0.false c.requires.fits }

pub returns : goal.returns
returns t c = elim c.if-i-second.branch [
  | then-i-second w ↦ written_left _ _ c.if-height-eq0.false c.requires.fits _ _ _ _ c.requires.long c.write_numbers.ensures w.if-i-second.true w.side-is
  | else-i-second w ↦ written_right _ _ c.if-height-eq0.false c.requires.fits _ _ _ _ c.requires.long c.write_numbers.ensures w.if-i-second.false w.side-is
]
