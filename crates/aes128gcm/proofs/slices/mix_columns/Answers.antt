use Rattle.std.proofs.Common.{rules}
use Rattle.aes128gcm.proofs.LaneLemmas.{mix-lanes}
use Rattle.aes128gcm.proofs.slices.mix_columns.Goals as goal

pub returns : goal.returns
returns c i h =
    mix-lanes c.args.q c.next_row-next.result c.add_slices-both.result c.xtimes.result c.add_slices.result c.second_row.result c.add_slices-2.result i
    (search rules) (search rules) h c.next_row-next.ensures c.add_slices-both.ensures c.xtimes.ensures c.add_slices.ensures c.second_row.ensures c.add_slices-2.ensures
