-- Rules that options have in common, and numbers.
use Rattle.std.specs.Prelude.{ℕ, Option, Some, None, false, if◌then◌else◌}
use Rattle.std.specs.Str.Parse.{digits_value, without_leading_plus}
use Rattle.clap.specs.ValueTests.{accepts}
use Rattle.clap.specs.Words.{Rule, Text, new_rule}
use Rattle.clap.specs.declared.builder.action.ArgAction.TheVariants.{SetTrue}
use Rattle.clap.specs.declared.builder.value_parser.ValueParser.{ValueParser}
use Rattle.clap.specs.declared.builder.value_parser.ValueParser.TheVariants as parser

-- a flag, as --signatures
abbrev pub flag_rule : Text → Rule
flag_rule name = record (new_rule name) { long = Some name; action = Some SetTrue }

-- numbers below 2^64
abbrev pub number_parser : ValueParser
number_parser = parser.Unsigned 0 18446744073709551615

-- the number that decimal digits write, with a plus before them or none
abbrev pub number_in : Text → Option ℕ
number_in text =
    if accepts false number_parser text
    then Some (digits_value 10 (without_leading_plus text))
    else None

-- an option with such a number
abbrev pub number_rule : Text → Text → Rule
number_rule id name = record (new_rule id) { long = Some name; parser = Some number_parser }
