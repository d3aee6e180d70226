-- The lines of the checks, and what the first that fails leaves of them.
use Rattle.std.specs.Prelude.{◌==◌, ℕ, List, [], ◌∷◌, codes, if◌then◌else◌}
use Rattle.mls_cli_text.specs.Text.{Entry}
use Rattle.mls_suite.specs.Crypto.{Crypto}
use Rattle.mls_cli_check.specs.Check.{key_word, ok_line, signature_word, word_line}

-- the lines of all checks of a good tree
unfoldable pub rule_entries : Crypto → List Entry
rule_entries c =
    ok_line (codes "unmerged") ∷ ok_line (codes "parent_hashes") ∷ ok_line (codes "keys")
    ∷ ok_line (codes "clients")
    ∷ word_line (codes "signatures") (signature_word c) ∷ ok_line (codes "capabilities")
    ∷ word_line (codes "key_forms") (key_word c) ∷ []

-- how many of them come before the check of that number
unfoldable pub lines_before : ℕ → ℕ
lines_before n =
    if n == 23 then 0 else (if n == 24 then 1 else (if n == 25 then 2 else (
    if n == 26 then 3 else (if n == 51 then 4 else (if n == 52 then 5 else 6)))))
