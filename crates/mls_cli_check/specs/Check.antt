-- What `mls check` prints.
use Rattle.std.specs.Prelude.{◌≡◌, ◌↔◌, nat_lt, ℕ, Bool, List, [], ◌∷◌, ◌++◌, codes, length, if◌then◌else◌, Option, Some, None, Result, Ok, Err}
use Rattle.hex.specs.Hex.{decode_of}
use Rattle.mls_wire.specs.Checks.{require_some}
use Rattle.mls_wire.specs.Reading.{◌>>=◌}
use Rattle.mls_wire.specs.Whole.{whole}
use Rattle.mls_leaf.specs.Limits.{input_limit}
use Rattle.mls_types.specs.GroupInfo.{ratchet_tree}
use Rattle.mls_tree_model.specs.Term.{Term, width}
use Rattle.mls_tree_model.specs.Keys.{members}
use Rattle.mls_tree_model.specs.Hashes.{tree_hash}
use Rattle.mls_tree_model.specs.Good.{IsGood, has_good_lists, has_good_hashes, has_distinct_keys, has_distinct_clients, is_all_signed, is_all_capable, is_all_fit}
use Rattle.mls_tree_model.specs.Arrays.{from_nodes}
use Rattle.mls_suite.specs.Crypto.{Crypto}
use Rattle.mls_tree.specs.Tree.{max_leaves}
use Rattle.mls_tree.specs.Rules.{rules_of}
use Rattle.mls_cli_text.specs.Form.{bytes_of_file}
use Rattle.mls_cli_text.specs.HexFile.{decoded_bytes}
use Rattle.mls_cli_text.specs.declared.form.Form.{Form}
use Rattle.mls_cli_text.specs.Text.{Entry, entry, bytes, number, word}
use Rattle.mls_cli_text.specs.Page.{Page, good, refused}
use Rattle.mls_cli_text.specs.declared.page.Ending.TheVariants.{Good}
use Rattle.mls_cli_text.specs.declared.page.Page as code
use Rattle.mls_cli_text.specs.declared.text.Line.{Line}

-- RFC 9420, section 12.4.3.3: the tree that the bytes spell, or the number of the first fault
unfoldable pub tree_in : List ℕ → Result Term ℕ
tree_in spelled = whole ratchet_tree input_limit spelled >>= from_nodes max_leaves

-- RFC 9420, section 4.1 and 7.8: how many leaves and members a tree has, and its tree hash
unfoldable pub tree_entries : Term → List Entry
tree_entries t =
    entry [] (codes "leaves") (number (width t))
    ∷ entry [] (codes "members") (number (length (members 0 t)))
    ∷ entry [] (codes "tree_hash") (bytes (tree_hash 0 t)) ∷ []

-- as many bytes as an input may have, or `TooLong` (6)
abbrev pub within_limit : List ℕ → Result (List ℕ) ℕ
within_limit bs = if nat_lt input_limit (length bs) then Err 6 else Ok bs

-- a group's id, of which the hex digits are given
unfoldable pub group_in : List ℕ → Result (List ℕ) ℕ
group_in text = require_some 8 (decoded_bytes (decode_of text)) >>= within_limit

abbrev pub both_texts : List ℕ → List ℕ → Result (List ℕ × List ℕ) ℕ
both_texts spelled id = Ok (spelled, id)

-- the bytes of a file's text and of a group's: `NotHex` (8) the file's isn't hex, then `NotHex` (8) and `TooLong` (6)
-- of the group's
unfoldable pub texts_in : Form → List ℕ → List ℕ → Result (List ℕ × List ℕ) ℕ
texts_in form text group = do
  spelled ← require_some 8 (bytes_of_file form text)
  id ← group_in group
  both_texts spelled id

-- ---- lines, and the first check that fails

-- nothing is left to check
abbrev pub all_passed : Page Entry
all_passed = good []

-- lines, and what is printed behind them
abbrev pub page_behind : List Entry → Page Entry → Page Entry
page_behind entries p = record { entries = entries ++ p.entries; ending = p.ending }

-- a check by its number: where it holds its line, and then the others
abbrev pub check_step : ℕ → Bool → Entry → Page Entry → Page Entry
check_step n holds line others = if holds then page_behind (line ∷ []) others else refused n

-- the line of a check that was made
abbrev pub ok_line : List ℕ → Entry
ok_line name = entry [] name (word (codes "ok"))

-- what is said of a check by a function of the suite's own that passed: a function that passes nothing at all checks
-- nothing
abbrev pub suite_word : Bool → List ℕ
suite_word passes_nothing = if passes_nothing then codes "not checked" else codes "ok"

-- of signatures: whether no bytes are a signature of no bytes by an empty key
abbrev pub signature_word : Crypto → List ℕ
signature_word c = suite_word (c.verify [] [] [])

-- of the forms of keys: whether an empty key is fit
abbrev pub key_word : Crypto → List ℕ
key_word c = suite_word (c.key_ok [])

abbrev pub word_line : List ℕ → List ℕ → Entry
word_line name said = entry [] name (word said)

-- the checks of a good tree in their order (RFC 9420, 7.3, 7.9.2 and 12.4.3.1), each with its line
unfoldable pub rules_report : Crypto → List ℕ → Term → Page Entry
rules_report c group t =
    check_step 23 (has_good_lists t) (ok_line (codes "unmerged"))
    (check_step 24 (has_good_hashes t) (ok_line (codes "parent_hashes"))
    (check_step 25 (has_distinct_keys t) (ok_line (codes "keys"))
    (check_step 26 (has_distinct_clients t) (ok_line (codes "clients"))
    (check_step 51 (is_all_signed (rules_of c group) t)
    (word_line (codes "signatures") (signature_word c))
    (check_step 52 (is_all_capable (rules_of c group) t) (ok_line (codes "capabilities"))
    (check_step 36 (is_all_fit (rules_of c group) t) (word_line (codes "key_forms") (key_word c))
    all_passed))))))

abbrev pub tree_report : Crypto → List ℕ → Term → Page Entry
tree_report c group t = page_behind (tree_entries t) (rules_report c group t)

abbrev pub report_on : Crypto → List ℕ → Result Term ℕ → Page Entry
report_on c group (Ok t) = tree_report c group t
report_on c group (Err n) = refused n

-- what is printed of the tree's bytes under a suite, for the group with that id
unfoldable pub check_text : Crypto → List ℕ → List ℕ → Page Entry
check_text c spelled group = report_on c group (tree_in spelled)

-- the bytes spell a good tree of the group under a suite (RFC 9420, 7.3, 7.9.2, 12.4.3.1 and 12.4.3.3)
pub record SpellsGoodTree (c : Crypto) (group spelled : List ℕ) : Type 0 where
  pub tree : Term
  pub is_read : tree_in spelled ≡ Ok tree
  pub good : IsGood (rules_of c group) tree

-- A page ends good exactly when the bytes spell a good tree of the group.
abbrev pub JudgesTree : Crypto → List ℕ → List ℕ → code.Page Line → Type 0
JudgesTree c group spelled page = (page.ending ≡ Good) ↔ SpellsGoodTree c group spelled

-- ---- pages

-- a group's text that is no group's id is refused before the tree is looked at
abbrev pub check_page_on : Crypto → List ℕ → Result (List ℕ) ℕ → Page Entry
check_page_on c spelled (Ok group) = check_text c spelled group
check_page_on c spelled (Err n) = refused n

-- what is printed of the bytes of a file, if it has some; a file without bytes, since it is no hex text, is refused
-- with `NotHex` (8)
abbrev pub page_of_bytes : {E : Type 0} → (List ℕ → Page E) → Option (List ℕ) → Page E
page_of_bytes page None = refused 8
page_of_bytes page (Some spelled) = page spelled

-- what is printed under a suite for a file's text and a group's
unfoldable pub check_page : Crypto → Form → List ℕ → List ℕ → Page Entry
check_page c form text group =
    page_of_bytes (λ spelled. check_page_on c spelled (group_in group)) (bytes_of_file form text)
