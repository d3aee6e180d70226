-- The first failing check decides the report.
use Rattle.std.proofs.Common.{◌≡◌, ◌≢◌, ◌∙◌, ◌++◌, ℕ, Bool, true, false, List, Result, Ok, Err, refl, sym, ap, append-nil, append_assoc}
use Rattle.std.specs.Prelude.{IfOk, codes, take}
use Rattle.std.specs.declared.alloc.AllocError.{AllocError}
use Rattle.mls_wire.specs.Checks.{Passed, passed, require, ◌>>◌}
use Rattle.mls_suite.specs.Crypto.{Crypto}
use Rattle.mls_tree_model.specs.Term.{Term}
use Rattle.mls_tree_model.specs.Good.{has_good_lists, has_good_hashes, has_distinct_keys, has_distinct_clients, is_all_signed, is_all_capable, is_all_fit, tree_checks}
use Rattle.mls_tree.specs.Rules.{rules_of}
use Rattle.mls_cli_text.specs.Page.{Page, good, page_of, refused}
use Rattle.mls_cli_text.specs.Text.{Entry, entry_of}
use Rattle.mls_cli_text.specs.declared.page.Page as code
use Rattle.mls_cli_text.specs.declared.text.Line.{Line}
use Rattle.mls_cli_check.specs.Check.{all_passed, page_behind, check_step, ok_line, key_word, signature_word, word_line, rules_report, tree_entries, tree_report}
use Rattle.mls_cli_check.specs.RuleLines.{lines_before, rule_entries}
use Rattle.mls_cli_check.proofs.Reports.{report_by}

-- whatever the checks come to
by_order : (c : Crypto) (lists hashes keys clients signed capable fit : Bool)
    → check_step 23 lists (ok_line (codes "unmerged"))
    (check_step 24 hashes (ok_line (codes "parent_hashes"))
    (check_step 25 keys (ok_line (codes "keys"))
    (check_step 26 clients (ok_line (codes "clients"))
    (check_step 51 signed (word_line (codes "signatures") (signature_word c))
    (check_step 52 capable (ok_line (codes "capabilities"))
    (check_step 36 fit (word_line (codes "key_forms") (key_word c))
    all_passed))))))
    ≡ report_by c (require 23 lists >> (require 24 hashes >> (require 25 keys >> (require 26 clients >> (require 51 signed >> (require 52 capable >> require 36 fit))))))
unfolding rule_entries lines_before
by_order c false hashes keys clients signed capable fit = refl
by_order c true false keys clients signed capable fit = refl
by_order c true true false clients signed capable fit = refl
by_order c true true true false signed capable fit = refl
by_order c true true true true false capable fit = refl
by_order c true true true true true false fit = refl
by_order c true true true true true true false = refl
by_order c true true true true true true true = refl

pub rules-by_order : (c : Crypto) (group : List ℕ) (t : Term) → rules_report c group t ≡ report_by c (tree_checks (rules_of c group) t)
unfolding rules_report tree_checks
rules-by_order c group t =
    by_order c (has_good_lists t) (has_good_hashes t) (has_distinct_keys t) (has_distinct_clients t)
    (is_all_signed (rules_of c group) t) (is_all_capable (rules_of c group) t) (is_all_fit (rules_of c group) t)

by_answer : (c : Crypto) (group : List ℕ) (t u : Term) (r : Result Passed ℕ) → tree_checks (rules_of c group) u ≡ r → u ≡ t → rules_report c group t ≡ report_by c r
by_answer c group t u r e same = rules-by_order c group t ∙ ap (report_by c) (ap (tree_checks (rules_of c group)) (sym same) ∙ e)

regrouped : (xs ys : List Entry) (r : Page Entry) → page_behind (xs ++ ys) r ≡ page_behind xs (page_behind ys r)
regrouped xs ys r = ap (λ es. record { entries = es; ending = r.ending }) (append_assoc xs ys r.entries)

-- where all checks pass, all lines are printed
pub all_lines : (c : Crypto) (group : List ℕ) (t u : Term) (all lines more : List Entry)
    → tree_checks (rules_of c group) u ≡ Ok passed → u ≡ t → all ≡ lines ++ more → lines ≡ tree_entries t → more ≡ rule_entries c
    → good all ≡ tree_report c group t
all_lines c group t u all lines more checks same a l m =
    ap good (sym (append-nil all))
    ∙ rw (a, l, m) (regrouped (tree_entries t) (rule_entries c) all_passed ∙ ap (page_behind (tree_entries t)) (sym (by_answer c group t u (Ok passed) checks same)))

-- where one fails, those before it and its refusal
some_lines : (c : Crypto) (group : List ℕ) (t u : Term) (n : ℕ) (all lines more : List Entry)
    → tree_checks (rules_of c group) u ≡ Err n → u ≡ t → all ≡ lines ++ more → lines ≡ tree_entries t → more ≡ take (lines_before n) (rule_entries c)
    → page_behind all (refused n) ≡ tree_report c group t
some_lines c group t u n all lines more checks same a l m =
    rw (a, l, m) (regrouped (tree_entries t) (take (lines_before n) (rule_entries c)) (refused n) ∙ ap (page_behind (tree_entries t)) (sym (by_answer c group t u (Err n) checks same)))

pub lines_or_wanting : (c : Crypto) (group : List ℕ) (t u : Term) (n : ℕ) (all lines more : List Entry) (r : Result (code.Page Line) AllocError)
    → IfOk r (λ page. n ≢ 1) → IfOk r (λ page. page_of entry_of page ≡ page_behind all (refused n))
    → (n ≢ 1 → tree_checks (rules_of c group) u ≡ Err n) → u ≡ t → all ≡ lines ++ more → lines ≡ tree_entries t → more ≡ take (lines_before n) (rule_entries c)
    → IfOk r (λ page. page_of entry_of page ≡ tree_report c group t)
lines_or_wanting c group t u n all lines more (Ok page) ne is checks same a l m = is ∙ some_lines c group t u n all lines more (checks ne) same a l m
lines_or_wanting c group t u n all lines more (Err e) ne is checks same a l m = tt
