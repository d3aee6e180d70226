-- Which texts of a file and of a group are refused.
use Rattle.std.proofs.Common.{◌≡◌, ℕ, ◌<◌, ◌≤◌, ◌/◌, true, false, List, length, Option, Some, None, Result, Ok, Err, is_some, refl, arith}
use Rattle.std.specs.Prelude.{IsOk, MatchResult}
use Rattle.hex.specs.Hex.{decode_of}
use Rattle.hex.specs.declared.error.FromHexError.{FromHexError}
use Rattle.hex.proofs.HexLemmas.{decode_of-ok}
use Rattle.mls_wire.specs.Checks.{require_some}
use Rattle.mls_wire.specs.Reading.{◌>>=◌}
use Rattle.mls_leaf.specs.Limits.{input_limit}
use Rattle.mls_suite.specs.Crypto.{Crypto}
use Rattle.mls_cli_text.specs.Form.{bytes_of_file}
use Rattle.mls_cli_text.specs.HexFile.{decoded_bytes, is_hex}
use Rattle.mls_cli_text.specs.declared.form.Form.{Form}
use Rattle.mls_cli_text.specs.Page.{refused}
use Rattle.mls_cli_check.specs.CheckFaults.{number_of}
use Rattle.mls_cli_check.specs.declared.check_error.CheckError.{CheckError}
use Rattle.mls_cli_check.specs.Check.{group_in, within_limit, both_texts, texts_in, check_page, check_page_on, page_of_bytes}

-- ---- a group's text

half : (text bytes : List ℕ) → decode_of text ≡ Ok bytes → length bytes ≡ length text / 2
half text bytes e = let twice = (decode_of-ok text bytes e).2 in omega (arith, twice)

over : (bytes : List ℕ) → input_limit < length bytes → within_limit bytes ≡ Err 6
over bytes h = grind (arith)

within : (bytes : List ℕ) → length bytes ≤ input_limit → within_limit bytes ≡ Ok bytes
within bytes h = grind (arith)

over_by : (text : List ℕ) (r : Result (List ℕ) FromHexError) → decode_of text ≡ r → is_some (decoded_bytes r) ≡ true → input_limit < length text / 2 → (require_some 8 (decoded_bytes r) >>= within_limit) ≡ Err 6
over_by text (Ok bytes) e h long = let is = half text bytes e in over bytes (omega (arith, is))
over_by text (Err fault) e h long = cc h

pub group_too_long : (text : List ℕ) → is_hex text ≡ true → input_limit < length text / 2 → group_in text ≡ Err 6
unfolding group_in
group_too_long text h long = over_by text (decode_of text) refl h long

within_by : (text : List ℕ) (r : Result (List ℕ) FromHexError) → decode_of text ≡ r → is_some (decoded_bytes r) ≡ true → length text / 2 ≤ input_limit → (bytes : List ℕ) × ((require_some 8 (decoded_bytes r) >>= within_limit) ≡ Ok bytes)
within_by text (Ok bytes) e h short = let is = half text bytes e in (bytes, within bytes (omega (arith, is)))
within_by text (Err fault) e h short = cc h

pub group_is : (text : List ℕ) → is_hex text ≡ true → length text / 2 ≤ input_limit → (bytes : List ℕ) × (group_in text ≡ Ok bytes)
unfolding group_in
group_is text h short = within_by text (decode_of text) refl h short

no_hex_by : (r : Result (List ℕ) FromHexError) → is_some (decoded_bytes r) ≡ false → (require_some 8 (decoded_bytes r) >>= within_limit) ≡ Err 8
no_hex_by (Ok bytes) h = cc h
no_hex_by (Err fault) h = refl

pub group_no_hex : (text : List ℕ) → is_hex text ≡ false → group_in text ≡ Err 8
unfolding group_in
group_no_hex text h = no_hex_by (decode_of text) h

-- ---- both texts

no_file_by : (o : Option (List ℕ)) (g : Result (List ℕ) ℕ) → is_some o ≡ false → (require_some 8 o >>= λ spelled. g >>= λ id. both_texts spelled id) ≡ Err 8
no_file_by None g h = refl
no_file_by (Some spelled) g h = cc h

pub texts_no_file : (form : Form) (text group : List ℕ) → is_some (bytes_of_file form text) ≡ false → texts_in form text group ≡ Err 8
unfolding texts_in
texts_no_file form text group h = no_file_by (bytes_of_file form text) (group_in group) h

no_group_by : (o : Option (List ℕ)) (g : Result (List ℕ) ℕ) (n : ℕ) → is_some o ≡ true → g ≡ Err n → (require_some 8 o >>= λ spelled. g >>= λ id. both_texts spelled id) ≡ Err n
no_group_by (Some spelled) g n h e = rw e refl
no_group_by None g n h e = cc h

pub texts_no_group : (form : Form) (text group : List ℕ) (n : ℕ) → is_some (bytes_of_file form text) ≡ true → group_in group ≡ Err n → texts_in form text group ≡ Err n
unfolding texts_in
texts_no_group form text group n h e = no_group_by (bytes_of_file form text) (group_in group) n h e

both_by : (o : Option (List ℕ)) (g : Result (List ℕ) ℕ) → is_some o ≡ true → IsOk g → IsOk (require_some 8 o >>= λ spelled. g >>= λ id. both_texts spelled id)
both_by (Some spelled) (Ok id) h ok = ok
both_by (Some spelled) (Err n) h ok = cc ok
both_by None g h ok = cc h

pub texts_are : (form : Form) (text group : List ℕ) → is_some (bytes_of_file form text) ≡ true → IsOk (group_in group) → IsOk (texts_in form text group)
unfolding texts_in
texts_are form text group h ok = both_by (bytes_of_file form text) (group_in group) h ok

-- what the group's text is answered is what both are
pub handed_on : (form : Form) (text group : List ℕ) (r : Result (Unit {0}) CheckError) → is_some (bytes_of_file form text) ≡ true → MatchResult r (λ _. IsOk (group_in group)) (λ e. group_in group ≡ Err (number_of e)) → MatchResult r (λ _. IsOk (texts_in form text group)) (λ e. texts_in form text group ≡ Err (number_of e))
handed_on form text group (Ok x) file h = texts_are form text group file h
handed_on form text group (Err e) file h = texts_no_group form text group (number_of e) file h

-- a text that is refused is all that is printed
page_by : (c : Crypto) (o : Option (List ℕ)) (group : List ℕ) (g : Result (List ℕ) ℕ) (n : ℕ) → g ≡ group_in group → (require_some 8 o >>= λ spelled. g >>= λ id. both_texts spelled id) ≡ Err n → page_of_bytes (λ spelled. check_page_on c spelled (group_in group)) o ≡ refused n
page_by c None group g n is e = let same : n ≡ 8 = cc e in rw same refl
page_by c (Some spelled) group (Ok id) n is e = cc e
page_by c (Some spelled) group (Err k) n is e = let same : n ≡ k = cc e in rw (← is, same) refl

pub refused_texts : (c : Crypto) (form : Form) (text group : List ℕ) (n : ℕ) → texts_in form text group ≡ Err n → check_page c form text group ≡ refused n
unfolding check_page texts_in
refused_texts c form text group n e = page_by c (bytes_of_file form text) group (group_in group) n refl e
