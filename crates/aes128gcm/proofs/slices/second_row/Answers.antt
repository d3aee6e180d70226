use Rattle.std.proofs.Common.{◌+◌, ◌%◌, map, ap, ◌∙◌, rules}
use Rattle.aes128gcm.specs.Lanes.{lane}
use Rattle.aes128gcm.specs.Nets.{rotate_32}
use Rattle.aes128gcm.proofs.NetLemmas.{bit_at-rotate_32}
use Rattle.aes128gcm.proofs.LaneLemmas.{lane-map, eight}
use Rattle.aes128gcm.proofs.slices.second_row.Goals as goal

pub returns : goal.returns
returns c i h =
    rw (c.rotate_32.ensures, c.rotate_32-2.ensures, c.rotate_32-3.ensures, c.rotate_32-4.ensures, c.rotate_32-5.ensures, c.rotate_32-6.ensures, c.rotate_32-7.ensures, c.rotate_32-8.ensures)
    (ap (λ z. lane (map rotate_32 z) i) (eight c.args.q (search rules)) ∙ lane-map rotate_32 i ((i + 32) % 64) (λ x. bit_at-rotate_32 x i h) c.args.q)
