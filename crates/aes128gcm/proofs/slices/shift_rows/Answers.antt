use Rattle.std.proofs.Common.{◌+◌, ◌*◌, ◌/◌, ◌%◌, map, ap, ◌∙◌, rules}
use Rattle.aes128gcm.specs.Lanes.{lane}
use Rattle.aes128gcm.specs.Nets.{shift_rows_word}
use Rattle.aes128gcm.proofs.NetLemmas.{bit_at-shift_rows_word}
use Rattle.aes128gcm.proofs.LaneLemmas.{lane-map, eight}
use Rattle.aes128gcm.proofs.slices.shift_rows.Goals as goal

pub returns : goal.returns
returns c i h =
    rw (c.shift_rows_word.ensures, c.shift_rows_word-2.ensures, c.shift_rows_word-3.ensures, c.shift_rows_word-4.ensures, c.shift_rows_word-5.ensures, c.shift_rows_word-6.ensures, c.shift_rows_word-7.ensures, c.shift_rows_word-8.ensures)
    (ap (λ z. lane (map shift_rows_word z) i) (eight c.args.q (search rules)) ∙ lane-map shift_rows_word i (16 * (i / 16) + (i + 4 * (i / 16)) % 16) (λ x. bit_at-shift_rows_word x i h) c.args.q)
