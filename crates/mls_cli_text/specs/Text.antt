-- A text of lines `name: value`.
use Rattle.std.specs.Prelude.{◌==◌, length, if◌then◌else◌, ◌/◌, ◌%◌, ℕ, List, [], ◌∷◌, ◌++◌, codes, map, Option, Some, None}
use Rattle.std.specs.Global.{Vec}
use Rattle.std.specs.List.{flat_map, join_by}
use Rattle.std.specs.Fmt.{decimal}
use Rattle.hex.specs.Hex.{encode_lower}
use Rattle.mls_wire.specs.Names.{refusal_name}
use Rattle.mls_cli_text.specs.declared.text.Field.{Field}
use Rattle.mls_cli_text.specs.declared.text.Field.TheVariants as field
use Rattle.mls_cli_text.specs.declared.text.Line.{Line}
use Rattle.mls_cli_text.specs.declared.text.Prefix.{Prefix}

-- what stands behind a name: bytes, a list of uint16, a uint16 in hex, a number, a list of numbers, a word,
-- a refusal, by its number, a number with a name, or an extension, by its type and its data
pub data Shown : Type 0 where
  bytes : List ℕ → Shown
  numbers : List ℕ → Shown
  digits : ℕ → Shown
  number : ℕ → Shown
  indexes : List ℕ → Shown
  word : List ℕ → Shown
  refusal : ℕ → Shown
  named : ℕ → List ℕ → Shown
  extension : ℕ → List ℕ → Shown

-- a line: its name, and what stands behind it
pub record Entry : Type 0 where
  pub name : List ℕ
  pub shown : Shown

-- the name behind a prefix
abbrev pub entry : List ℕ → List ℕ → Shown → Entry
entry prefix name shown = record { name = prefix ++ name; shown = shown }

-- a list as its text, or `-` where it is empty
abbrev pub or_dash : {X : Type 0} → (List X → List ℕ) → List X → List ℕ
or_dash text xs = if length xs == 0 then codes "-" else text xs

-- a uint16 as four hex digits
abbrev pub four_digits : ℕ → List ℕ
four_digits n = encode_lower (n / 256 ∷ n % 256 ∷ [])

-- a list of uint16 as four digits each with commas between them
abbrev pub numbers_text : List ℕ → List ℕ
numbers_text ns = or_dash (join_by four_digits (codes ",")) ns

-- each uint16 behind a comma
abbrev pub with_commas : List ℕ → List ℕ
with_commas ns = flat_map (λ (n : ℕ). codes "," ++ four_digits n) ns

-- a list of numbers in decimal with commas between them
abbrev pub indexes_text : List ℕ → List ℕ
indexes_text ns = or_dash (join_by decimal (codes ",")) ns

-- each number in decimal behind a comma
abbrev pub with_more_indexes : List ℕ → List ℕ
with_more_indexes ns = flat_map (λ (n : ℕ). codes "," ++ decimal n) ns

-- a number, a space and its name
abbrev pub number_with_name : ℕ → List ℕ → List ℕ
number_with_name n name = decimal n ++ codes " " ++ name

-- a refusal's number, a space and its name
abbrev pub refusal_text : ℕ → List ℕ
refusal_text n = number_with_name n (refusal_name n)

-- an extension's type in four digits, a space, and its data in hex
abbrev pub extension_text : ℕ → List ℕ → List ℕ
extension_text kind content = four_digits kind ++ codes " " ++ or_dash encode_lower content

-- byte strings in lower-case hex, lists of uint16 as four digits each with commas between them
abbrev pub shown_text : Shown → List ℕ
shown_text (bytes bs) = or_dash encode_lower bs
shown_text (numbers ns) = numbers_text ns
shown_text (digits n) = four_digits n
shown_text (number n) = decimal n
shown_text (indexes ns) = indexes_text ns
shown_text (word w) = w
shown_text (refusal n) = refusal_text n
shown_text (named n name) = number_with_name n name
shown_text (extension kind content) = extension_text kind content

-- a name, a colon and a space, what stands behind, and a line feed
abbrev pub line_text : Entry → List ℕ
line_text e = ((e.name ++ codes ": ") ++ shown_text e.shown) ++ codes "\n"

-- ---- of the code's values

abbrev pub shown_by : Field → Shown
shown_by (field.Bytes bs) = bytes bs
shown_by (field.Numbers ns) = numbers ns
shown_by (field.Digits n) = digits n
shown_by (field.Number n) = number n
shown_by (field.Indexes ns) = indexes ns.items
shown_by (field.Word w) = word w.now
shown_by (field.Refusal n) = refusal n
shown_by (field.Named n name) = named n name.now
shown_by (field.Extension kind content) = extension kind content

-- the prefix of an item: a word, and the item's number with a dot behind it
abbrev pub item_text : List ℕ → ℕ → List ℕ
item_text front n = front ++ (decimal n ++ codes ".")

abbrev pub prefix_on : List ℕ → Option ℕ → List ℕ
prefix_on front None = front
prefix_on front (Some n) = item_text front n

abbrev pub prefix_text : Prefix → List ℕ
prefix_text p = prefix_on p.word.now p.item

unfoldable pub entry_of : Line → Entry
entry_of l = record { name = prefix_text l.prefix ++ l.name.now; shown = shown_by l.field }

-- the lines that code has
abbrev pub entries_of : Vec Line → List Entry
entries_of lines = map entry_of lines.items
