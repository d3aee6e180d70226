-- What `mls --explain` prints of a refusal that is named by its number or its name.
use Rattle.std.specs.Prelude.{ℕ, zero, suc, ◌+◌, nat_lt, if◌then◌else◌, List, [], ◌∷◌, codes, Option, Some, None, option_and_then, option_map}
use Rattle.std.specs.Str.{bytes_eq}
use Rattle.mls_wire.specs.Names.{name_in, refusal_name}
use Rattle.mls_cli_text.specs.Page.{Page, good}
use Rattle.mls_cli_text.specs.Text.{Entry, entry, named as number_named, word}
use Rattle.mls_cli_explain.specs.Explanations.{Told, explanation, names_of_application_messages, names_of_saved_forms}

-- the name of a refusal, those of saved forms and of application messages among them; no bytes where no refusal has the
-- number
abbrev pub name_told : ℕ → List ℕ
name_told n =
    if nat_lt n 100 then refusal_name n
    else if nat_lt n 110 then name_in names_of_saved_forms n
    else name_in names_of_application_messages n

-- the first of so many numbers, from k on, that has this name
unfoldable pub number_from : ℕ → ℕ → List ℕ → Option ℕ
number_from zero k name = None
number_from (suc n) k name = if bytes_eq name (name_told k) then Some k else number_from n (k + 1) name

-- the numbers of the refusals that are told are below this
abbrev pub end_of_numbers : ℕ
end_of_numbers = 120

-- the refusal of this name
abbrev pub number_of_name : List ℕ → Option ℕ
number_of_name name = number_from end_of_numbers 0 name

abbrev pub told_entries : ℕ → Told → List Entry
told_entries n told =
    entry [] (codes "refusal") (number_named n (name_told n)) ∷ entry [] (codes "text") (word told.sentence)
    ∷ entry [] (codes "check") (word told.check) ∷ entry [] (codes "advice") (word told.advice) ∷ []

-- the page of a refusal of which this is told
abbrev pub told_page : ℕ → Told → Page Entry
told_page n told = good (told_entries n told)

-- a refusal by its number, and what is told of it
abbrev pub told_by_number : ℕ → Option (ℕ × Told)
told_by_number n = option_map (λ (told : Told). (n, told)) (explanation n)

-- by a number, or else by a name; numbers of refusals are below 256
abbrev pub told_by : Option ℕ → List ℕ → Option (ℕ × Told)
told_by (Some n) name = if nat_lt n 256 then told_by_number n else None
told_by None name = option_and_then told_by_number (number_of_name name)
