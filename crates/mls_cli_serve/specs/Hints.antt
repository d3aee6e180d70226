-- What is said of a file that is no hex text, but binary or JSON.
use Rattle.std.specs.Prelude.{ℕ, nat_lt, ◌==◌, ◌&&◌, ◌||◌, not, Bool, false, List, [], codes, length, find, Option, Some, None, if◌then◌else◌}
use Rattle.std.specs.List.{list_any}
use Rattle.mls_cli_text.specs.Form.{bytes_of_file, file_limit}
use Rattle.mls_cli_text.specs.HexFile.{is_blank}
use Rattle.mls_cli_text.specs.declared.form.Form.{Form}

-- a control character that is no blank, which neither a hex text nor JSON has
abbrev pub is_control : ℕ → Bool
is_control b = nat_lt b 32 && not (is_blank b)

-- a byte that no ASCII text has: such a control character, or one from 127 on
abbrev pub is_binary : ℕ → Bool
is_binary b = nat_lt 126 b || is_control b

-- the first byte that is no blank
unfoldable pub first_ink : List ℕ → Option ℕ
first_ink text = find (λ b. not (is_blank b)) text

-- an object or an array of JSON begins
abbrev pub opens_json : Option ℕ → Bool
opens_json None = false
opens_json (Some b) = b == 123 || b == 91

abbrev pub binary_hint : List ℕ
binary_hint = codes "mls: the file is binary: give --raw\n"

abbrev pub json_hint : List ℕ
json_hint = codes "mls: the file is JSON: see `mls replay` and `mls vectors`\n"

-- of a text that isn't hex; one in UTF-8 that opens as JSON may have bytes that no ASCII text has
abbrev pub hint_of_text : List ℕ → List ℕ
hint_of_text text =
    if opens_json (first_ink text) && not (list_any is_control text) then json_hint
    else if list_any is_binary text then binary_hint
    else []

-- of a file without bytes
abbrev pub hint_on : Option (List ℕ) → List ℕ → List ℕ
hint_on (Some bytes) text = []
hint_on None text = hint_of_text text

-- a file that is too long gets none
unfoldable pub hint : Form → List ℕ → List ℕ
hint form text =
    if nat_lt (file_limit form) (length text) then [] else hint_on (bytes_of_file form text) text
