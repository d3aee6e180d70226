-- The practice suite is lawful.
use Rattle.std.proofs.Common.{◌≡◌, ℕ, ◌+◌, List, length, arith, length-append}
use Rattle.mls_suite.specs.Glass.{xor_with_stream, box_tag, make_box}
use Rattle.mls_suite.specs.GlassLaws.{length-xor_with, length-box_tag}

pub length-xor_with_stream : (key text : List ℕ) → length (xor_with_stream key text) ≡ length text
unfolding xor_with_stream
length-xor_with_stream key text = length-xor_with text _

pub length-make_box : (key pt : List ℕ) → length (make_box key pt) ≡ length pt + 32
unfolding make_box
length-make_box key pt = omega (arith, length-append (xor_with_stream key pt) (box_tag key (xor_with_stream key pt)), length-xor_with_stream key pt, length-box_tag key (xor_with_stream key pt))
