use Rattle.std.proofs.Common.{◌+◌, ◌%◌, map, ap, ◌∙◌, rules}
use Rattle.aes128gcm.specs.Lanes.{lane}
use Rattle.aes128gcm.specs.Nets.{rotate_16}
use Rattle.aes128gcm.proofs.NetLemmas.{bit_at-rotate_16}
use Rattle.aes128gcm.proofs.LaneLemmas.{lane-map, eight}
use Rattle.aes128gcm.proofs.slices.next_row.Goals as goal

pub returns : goal.returns
returns c i h =
    rw (c.rotate_16.ensures, c.rotate_16-2.ensures, c.rotate_16-3.ensures, c.rotate_16-4.ensures, c.rotate_16-5.ensures, c.rotate_16-6.ensures, c.rotate_16-7.ensures, c.rotate_16-8.ensures)
    (ap (λ z. lane (map rotate_16 z) i) (eight c.args.q (search rules)) ∙ lane-map rotate_16 i ((i + 16) % 64) (λ x. bit_at-rotate_16 x i h) c.args.q)
