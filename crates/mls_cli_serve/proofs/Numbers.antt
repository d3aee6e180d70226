-- What `parse` reads of a text is the number that clap lets through.
use Rattle.std.proofs.Common.{◌≡◌, ◌∙◌, ◌<◌, ◌≤◌, ◌^◌, ℕ, Bool, true, false, List, Some, None, arith, refl, ap}
use Rattle.std.specs.Prelude.{if◌then◌else◌}
use Rattle.std.specs.Str.Parse.{IsNumeral, digits_value, without_leading_plus}
use Rattle.clap.specs.ValueTests.{accepts}
use Rattle.clap.proofs.ValueTestLemmas.{accepts-Accepts, Accepts-accepts}
use Rattle.mls_cli_serve.specs.Options.{number_in, number_parser}

abbrev IsShort : List ℕ → Type 0
IsShort text = IsNumeral 10 (without_leading_plus text) × (digits_value 10 (without_leading_plus text) < 2 ^ 64)

accepted : (b : Bool) (x : ℕ) → b ≡ true → Some x ≡ (if b then Some x else None)
accepted true x e = refl
accepted false x e = absurd cc

refused : (b : Bool) (x : ℕ) → ¬ (b ≡ true) → None ≡ (if b then Some x else None)
refused true x other = absurd (other refl)
refused false x other = refl

least : (n : ℕ) → n < 2 ^ 64 → n ≤ 18446744073709551615
least n lt = omega arith

pub read : (text : List ℕ) (n : ℕ) → IsShort text → n ≡ digits_value 10 (without_leading_plus text) → Some n ≡ number_in text
read text n short e =
    ap Some e
    ∙ accepted (accepts false number_parser text) _ (Accepts-accepts false number_parser text (short.0, short.1, omega arith, least _ short.1))

pub unread : (text : List ℕ) → ¬ (IsShort text) → None ≡ number_in text
unread text other =
    refused (accepts false number_parser text) _ (λ e. let passed = accepts-Accepts false number_parser text e in other (passed.0, passed.1))
