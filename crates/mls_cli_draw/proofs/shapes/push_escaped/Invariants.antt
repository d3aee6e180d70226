use Rattle.std.proofs.Common.{◌≡◌, ◌++◌, take}
use Rattle.std.specs.List.{flat_map}
use Rattle.mls_cli_draw.specs.Svg.{escaped_character}
use Rattle.mls_cli_draw.proofs.shapes.push_escaped.Given as goal

abbrev pub invariant-loop-character : goal.invariant-loop-character
invariant-loop-character l = l.characters.items ≡ l.initial.characters.items ++ flat_map escaped_character (take l.character-index l.text)
