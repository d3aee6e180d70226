use Rattle.std.proofs.Common.{◌≡◌, List, Ok, sym, subst, ◌∙◌}
use Rattle.mls_leaf.specs.declared.extension.Extension.{Extension}
use Rattle.mls_tree.proofs.RefusalLaws.{one_number, not_refused}
use Rattle.mls_world_plain.specs.Sources.{allowed_list}
use Rattle.mls_world_plain.proofs.Extending.{list_is, list_is_none}
use Rattle.mls_world_plain.proofs.sources.copy_extensions.Goals as goal

pub returns-then-not-is_allowed-clause-answer : goal.returns-then-not-is_allowed-clause-answer
returns-then-not-is_allowed-clause-answer c = λ other. list_is_none c.args.entries.now (sym c.if-not-is_allowed.ensures)

pub returns-then-not-is_allowed-clause-outright : goal.returns-then-not-is_allowed-clause-outright
returns-then-not-is_allowed-clause-outright c = λ n h. one_number (allowed_list c.args.entries.now) 14 (list_is_none c.args.entries.now (sym c.if-not-is_allowed.ensures)) n h

pub returns-in_err-copy-clause-outright : goal.returns-in_err-copy-clause-outright
returns-in_err-copy-clause-outright c = λ n h.
    absurd (not_refused (allowed_list c.args.entries.now) c.args.entries.now (list_is c.args.entries.now (sym c.if-not-is_allowed.ensures)) n h)

pub returns-clause-answer : goal.returns-clause-answer
returns-clause-answer c =
    subst (λ (v : List Extension). allowed_list c.args.entries.now ≡ Ok v) (sym (c.in_ok-new.ensures.0 ∙ c.in_ok-copy.ensures))
    (list_is c.args.entries.now (sym c.if-not-is_allowed.ensures))

pub returns-clause-outright : goal.returns-clause-outright
returns-clause-outright c = λ n h.
    not_refused (allowed_list c.args.entries.now) c.args.entries.now (list_is c.args.entries.now (sym c.if-not-is_allowed.ensures)) n h
