-- What a hex file holds: its text without the blanks at both ends, as bytes.
use Rattle.std.specs.Prelude.{◌==◌, ◌||◌, ℕ, Bool, List, [], ◌∷◌, if◌then◌else◌, reverse, Option, Some, None, is_some, Result, Ok, Err}
use Rattle.hex.specs.Hex.{decode_of}

-- a space, a tab, a carriage return or a line feed
abbrev pub is_blank : ℕ → Bool
is_blank b = b == 32 || (b == 9 || (b == 13 || b == 10))

-- without the blanks in front
unfoldable pub after_blanks : List ℕ → List ℕ
after_blanks [] = []
after_blanks (b ∷ bs) = if is_blank b then after_blanks bs else b ∷ bs

-- without the blanks at the end: read backwards, they stand in front
abbrev pub before_blanks : List ℕ → List ℕ
before_blanks text = reverse (after_blanks (reverse text))

-- the text without the blanks at both ends
abbrev pub trimmed_text : List ℕ → List ℕ
trimmed_text text = before_blanks (after_blanks text)

-- what was decoded, if it was
abbrev pub decoded_bytes : {E : Type 0} → Result (List ℕ) E → Option (List ℕ)
decoded_bytes (Ok bytes) = Some bytes
decoded_bytes (Err e) = None

-- whether a text is an even number of hex digits
abbrev pub is_hex : List ℕ → Bool
is_hex text = is_some (decoded_bytes (decode_of text))

-- the bytes of a hex file, where it is one
abbrev pub bytes_in : List ℕ → Option (List ℕ)
bytes_in text = decoded_bytes (decode_of (trimmed_text text))
