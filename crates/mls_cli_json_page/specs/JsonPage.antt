-- A page as one JSON object, by its tokens (RFC 8259): each line `name: value` is a member, and neighbours of one name
-- are the items of an array.
use Rattle.std.specs.Prelude.{◌≡◌, ◌+◌, ℕ, zero, suc, Bool, true, false, List, [], ◌∷◌, ◌++◌, codes, length, map, slice_get, Option, Some, None, option_map, Result, OnOk}
use Rattle.std.specs.List.{flat_map, range_with_len}
use Rattle.std.specs.Str.{bytes_eq}
use Rattle.std.specs.Fmt.{decimal}
use Rattle.hex.specs.Hex.{encode_lower}
use Rattle.json.specs.Print.{print}
use Rattle.json.specs.Token.{Token, begin_object, end_object, begin_array, end_array, key, string, number}
use Rattle.json.specs.Written.{Written}
use Rattle.mls_wire.specs.Names.{refusal_name}
use Rattle.mls_cli_text.specs.Page.{Page}
use Rattle.mls_cli_text.specs.Text.{Entry, Shown, four_digits}
use Rattle.mls_cli_text.specs.Text as shown
use Rattle.mls_cli_text.specs.declared.page.Ending.{Ending}
use Rattle.mls_cli_text.specs.declared.page.Ending.TheVariants.{Good, Failed, Refused}
use Rattle.mls_cli_json_page.specs.declared.JsonText.{JsonText}

-- ---- values

abbrev pub array : List Token → List Token
array items = begin_array ∷ (items ++ end_array ∷ [])

-- a number and its name, as of a refusal
abbrev pub named_value : ℕ → List ℕ → List Token
named_value n name =
    begin_object ∷ key (codes "number") ∷ number (decimal n) ∷ key (codes "name") ∷ string name
    ∷ end_object ∷ []

-- an extension's type in four hex digits, and its data in hex digits
abbrev pub extension_value : ℕ → List ℕ → List Token
extension_value kind content =
    begin_object ∷ key (codes "type") ∷ string (four_digits kind) ∷ key (codes "data")
    ∷ string (encode_lower content)
    ∷ end_object ∷ []

-- what stands behind a name: bytes are hex digits, numbers in hex strings, those in decimal numbers
abbrev pub value : Shown → List Token
value (shown.bytes bs) = string (encode_lower bs) ∷ []
value (shown.numbers ns) = array (map (λ (n : ℕ). string (four_digits n)) ns)
value (shown.digits n) = string (four_digits n) ∷ []
value (shown.number n) = number (decimal n) ∷ []
value (shown.indexes ns) = array (map (λ (n : ℕ). number (decimal n)) ns)
value (shown.word w) = string w ∷ []
value (shown.refusal n) = named_value n (refusal_name n)
value (shown.named n name) = named_value n name
value (shown.extension kind content) = extension_value kind content

-- ---- members

-- whether a neighbour has this name
abbrev pub is_name : List ℕ → Option (List ℕ) → Bool
is_name name None = false
is_name name (Some other) = bytes_eq name other

-- what stands before a value, by whether the lines before and behind have its name: nothing where the one before has
abbrev pub opening : Bool → Bool → List ℕ → List Token
opening true again name = []
opening false true name = key name ∷ begin_array ∷ []
opening false false name = key name ∷ []

-- and behind it, where it is the last of its name
abbrev pub closing : Bool → Bool → List Token
closing true false = end_array ∷ []
closing true true = []
closing false again = []

abbrev pub member : Bool → Bool → List ℕ → Shown → List Token
member follows again name shown =
    opening follows again name ++ (value shown ++ closing follows again)

abbrev pub name_at : List Entry → ℕ → Option (List ℕ)
name_at es i = option_map (λ (e : Entry). e.name) (slice_get es i)

abbrev pub name_before : List Entry → ℕ → Option (List ℕ)
name_before es zero = None
name_before es (suc i) = name_at es i

abbrev pub member_of : Option (List ℕ) → Option Entry → Option (List ℕ) → List Token
member_of before None after = []
member_of before (Some e) after =
    member (is_name e.name before) (is_name e.name after) e.name e.shown

-- line i of a page
abbrev pub member_at : List Entry → ℕ → List Token
member_at es i = member_of (name_before es i) (slice_get es i) (name_at es (i + 1))

-- the refusal of a page
abbrev pub ending_member : Ending → List Token
ending_member Good = []
ending_member Failed = []
ending_member (Refused n) = key (codes "refused") ∷ named_value n (refusal_name n)

-- ---- the object

unfoldable pub members : List Entry → List Token
members es = flat_map (member_at es) (range_with_len 0 (length es))

abbrev pub page_tokens : Page Entry → List Token
page_tokens page =
    begin_object ∷ (members page.entries ++ (ending_member page.ending ++ end_object ∷ []))

-- a refusal stands in the object, and the exit status stays
abbrev pub json_ending : Ending → Ending
json_ending Good = Good
json_ending Failed = Failed
json_ending (Refused n) = Failed

-- the page of the object alone
unfoldable pub json_page : Page Entry → Page (List ℕ)
json_page page =
    record { entries = print (page_tokens page) ∷ []; ending = json_ending page.ending }

-- an object as it is printed
abbrev pub object_line : List ℕ → List ℕ
object_line object = object ++ codes "\n"

-- ---- of the code's values

abbrev pub text_of : JsonText → List ℕ
text_of t = t.text.items

-- as it is printed
abbrev pub printed : JsonText → List ℕ
printed t = object_line (text_of t)

-- these tokens are written behind the others
abbrev pub WritesAll : {T X : Type 0} → Result T X → Written → Written → List Token → Type 0
WritesAll result old new ts =
    OnOk result ((new.tokens ≡ old.tokens ++ ts) × (new.before ≡ old.before))
