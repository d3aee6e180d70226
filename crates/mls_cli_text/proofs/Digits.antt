-- Texts of hex digits, and what they decode to.
use Rattle.std.proofs.Common.{◌≡◌, ℕ, ◌%◌, Bool, true, false, List, length, Result, Ok, Err, is_some, refl}
use Rattle.std.specs.List.{list_all}
use Rattle.std.proofs.lemmas.List.Sums.{AllPass-from_list_all, list_all-from_AllPass}
use Rattle.hex.specs.Hex.{decode_of, is_hex_digit}
use Rattle.hex.specs.declared.error.FromHexError.{FromHexError}
use Rattle.hex.proofs.HexLemmas.{decode_of-ok, decode_of-digits}
use Rattle.mls_cli_text.specs.HexFile.{decoded_bytes, is_hex}

by_digits : (s : List ℕ) (r : Result (List ℕ) FromHexError) (digits : Bool) → decode_of s ≡ r → length s % 2 ≡ 0 → list_all is_hex_digit s ≡ digits → digits ≡ is_some (decoded_bytes r)
by_digits s (Ok bytes) true e even hd = refl
by_digits s (Ok bytes) false e even hd = let all = list_all-from_AllPass is_hex_digit s (decode_of-ok s bytes e).1 in cc (hd, all)
by_digits s (Err fault) true e even hd = let found = decode_of-digits s even (AllPass-from_list_all is_hex_digit s hd) in let same = found.1 in cc (e, same)
by_digits s (Err fault) false e even hd = refl

-- an even number of digits, and nothing else, is hex
pub even_hex : (s : List ℕ) → length s % 2 ≡ 0 → list_all is_hex_digit s ≡ is_hex s
even_hex s even = by_digits s (decode_of s) _ refl even refl
