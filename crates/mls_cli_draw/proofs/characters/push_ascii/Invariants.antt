use Rattle.std.proofs.Common.{◌≡◌, ◌++◌, take}
use Rattle.mls_cli_draw.proofs.characters.push_ascii.Given as goal

abbrev pub invariant-loop-byte : goal.invariant-loop-byte
invariant-loop-byte l = l.characters.items ≡ l.initial.characters.items ++ take l.byte-index l.text
