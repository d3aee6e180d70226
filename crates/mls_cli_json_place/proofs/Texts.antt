-- Texts that are no JSON.
use Rattle.std.proofs.Common.{◌≡◌, true, false, None, List, ℕ, Bool, refl, if◌then◌else◌}
use Rattle.std.specs.Str.{is_utf8, IsUtf8}
use Rattle.std.proofs.lemmas.Str.{IsUtf8-from_is_utf8}
use Rattle.serde_json.specs.Read.{read}
use Rattle.mls_cli_json.specs.Json.{data_in}

by_test : (file : List ℕ) (b : Bool) → is_utf8 file ≡ b → (IsUtf8 file → read file ≡ None) → (if b then read file else None) ≡ None
by_test file true e refused = refused (IsUtf8-from_is_utf8 file e)
by_test file false e refused = refl

pub nothing : (file : List ℕ) → (IsUtf8 file → read file ≡ None) → data_in file ≡ None
unfolding data_in
nothing file refused = by_test file (is_utf8 file) refl refused
