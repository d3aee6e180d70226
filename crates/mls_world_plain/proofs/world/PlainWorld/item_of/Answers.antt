use Rattle.std.proofs.Common.{◌≡◌, sym, ap, subst, ◌∙◌, List, ℕ, Ok, Err}
use Rattle.mls_leaf.specs.declared.extension.Extension.{Extension}
use Rattle.mls_model.specs.declared.event.WorldItem.{WorldItem}
use Rattle.mls_tree.proofs.RefusalLaws.{one_number, not_refused}
use Rattle.mls_model.specs.World.{item_of, package_of}
use Rattle.mls_world_plain.proofs.Readings.{item_added}
use Rattle.mls_world_plain.proofs.EarlyChecks.{item_refused}
use Rattle.mls_world_plain.proofs.Items.{the_reference, item_referred, item_unread, item_absent}
use Rattle.mls_world_plain.specs.Faults.{number_of}
use Rattle.mls_world_plain.specs.Sources.{allowed_list}
use Rattle.mls_world_plain.proofs.Extending.{item_extended, item_not_extended, extended_refused}
use Rattle.mls_world_plain.proofs.world.PlainWorld.item_of.Goals as goal

pub returns-in-Err-clause-answer : goal.returns-in-Err-clause-answer
returns-in-Err-clause-answer g c = λ _. ap (λ (x : WorldItem). item_of c.args.self.now x) c.in-RefOf.is ∙ item_absent c.args.self.now c.in-RefOf.source _ c.in-Err.ensures

pub returns-in-Err-clause-outright : goal.returns-in-Err-clause-outright
returns-in-Err-clause-outright g c = λ n h.
    one_number (item_of c.args.self.now c.args.item.now) _ (ap (λ (x : WorldItem). item_of c.args.self.now x) c.in-RefOf.is ∙ item_absent c.args.self.now c.in-RefOf.source _ c.in-Err.ensures) n h

pub returns-in-Err-read_reference-clause-answer : goal.returns-in-Err-read_reference-clause-answer
returns-in-Err-read_reference-clause-answer g c =
    λ _. ap (λ (x : WorldItem). item_of c.args.self.now x) c.in-RefOf.is ∙ item_unread c.args.self.now c.in-RefOf.source c.in-Ok.bytes.now _ c.in-Ok.ensures c.in-Err-read_reference.ensures

pub returns-in-Err-read_reference-clause-outright : goal.returns-in-Err-read_reference-clause-outright
returns-in-Err-read_reference-clause-outright g c = λ n h.
    one_number (item_of c.args.self.now c.args.item.now) _
    (ap (λ (x : WorldItem). item_of c.args.self.now x) c.in-RefOf.is ∙ item_unread c.args.self.now c.in-RefOf.source c.in-Ok.bytes.now _ c.in-Ok.ensures c.in-Err-read_reference.ensures) n h

pub returns-in_err-copy-in-RefOf-clause-outright : goal.returns-in_err-copy-in-RefOf-clause-outright
returns-in_err-copy-in-RefOf-clause-outright g c = λ n h.
    absurd (not_refused (item_of c.args.self.now c.args.item.now) _
    (ap (λ (x : WorldItem). item_of c.args.self.now x) c.in-RefOf.is
    ∙ item_referred c.args.self.now c.in-RefOf.source c.in-Ok.bytes.now c.in-Ok-read_reference.reference c.in-Ok.ensures c.in-Ok-read_reference.ensures) n h)

pub returns-in_ok-copy-in-RefOf-clause-answer : goal.returns-in_ok-copy-in-RefOf-clause-answer
returns-in_ok-copy-in-RefOf-clause-answer g c =
    ap (λ (x : WorldItem). item_of c.args.self.now x) c.in-RefOf.is
    ∙ item_referred c.args.self.now c.in-RefOf.source c.in-Ok.bytes.now c.in-Ok-read_reference.reference c.in-Ok.ensures c.in-Ok-read_reference.ensures
    ∙ ap (λ (l : List ℕ). the_reference l) (sym c.in_ok-copy-in-RefOf.ensures.items)

pub returns-in_ok-copy-in-RefOf-clause-outright : goal.returns-in_ok-copy-in-RefOf-clause-outright
returns-in_ok-copy-in-RefOf-clause-outright g c = λ n h. not_refused (item_of c.args.self.now c.args.item.now) _ (returns-in_ok-copy-in-RefOf-clause-answer g c) n h

pub returns-in-Err-package_of-clause-outright : goal.returns-in-Err-package_of-clause-outright
returns-in-Err-package_of-clause-outright g c = λ n h. c.in-Err-package_of.ensures.outright n (item_refused c.args.self.now c.in-Add.source n (sym (ap (λ (x : WorldItem). item_of c.args.self.now x) c.in-Add.is) ∙ h))

pub returns-in-Ok-package_of-clause-outright : goal.returns-in-Ok-package_of-clause-outright
returns-in-Ok-package_of-clause-outright g c = λ n h.
    not_refused (package_of c.args.self.now c.in-Add.source) _ c.in-Ok-package_of.ensures.answer n (item_refused c.args.self.now c.in-Add.source n (sym (ap (λ (x : WorldItem). item_of c.args.self.now x) c.in-Add.is) ∙ h))

pub returns-in-Ok-package_of-clause-short : goal.returns-in-Ok-package_of-clause-short
returns-in-Ok-package_of-clause-short g c = item_added c.in-Ok-package_of.offered c.in-Ok-package_of.ensures.below

pub returns-in-Remove-clause-outright : goal.returns-in-Remove-clause-outright
returns-in-Remove-clause-outright g c = λ n h.
    let e = sym (ap (λ (x : WorldItem). item_of c.args.self.now x) c.in-Remove.is) ∙ h in
    absurd cc

pub returns-in-Err-copy_extensions-clause-answer : goal.returns-in-Err-copy_extensions-clause-answer
returns-in-Err-copy_extensions-clause-answer g c = λ other.
    ap (λ (x : WorldItem). item_of c.args.self.now x) c.in-Extensions.is
    ∙ item_not_extended c.args.self.now c.in-Extensions.entries (number_of c.in-Err-copy_extensions.error)
    (subst (λ (l : List Extension). allowed_list l ≡ Err (number_of c.in-Err-copy_extensions.error)) c.deref.ensures.value (c.in-Err-copy_extensions.ensures.answer other))

pub returns-in-Err-copy_extensions-clause-outright : goal.returns-in-Err-copy_extensions-clause-outright
returns-in-Err-copy_extensions-clause-outright g c = λ n h.
    c.in-Err-copy_extensions.ensures.outright n
    (subst (λ (l : List Extension). allowed_list l ≡ Err n) (sym c.deref.ensures.value)
    (extended_refused c.args.self.now c.in-Extensions.entries n (sym (ap (λ (x : WorldItem). item_of c.args.self.now x) c.in-Extensions.is) ∙ h)))

pub returns-in-Ok-copy_extensions-clause-answer : goal.returns-in-Ok-copy_extensions-clause-answer
returns-in-Ok-copy_extensions-clause-answer g c =
    ap (λ (x : WorldItem). item_of c.args.self.now x) c.in-Extensions.is
    ∙ item_extended c.args.self.now c.in-Extensions.entries c.in-Ok-copy_extensions.extensions
    (subst (λ (l : List Extension). allowed_list l ≡ Ok c.in-Ok-copy_extensions.extensions) c.deref.ensures.value c.in-Ok-copy_extensions.ensures.answer)

pub returns-in-Ok-copy_extensions-clause-outright : goal.returns-in-Ok-copy_extensions-clause-outright
returns-in-Ok-copy_extensions-clause-outright g c = λ n h. not_refused (item_of c.args.self.now c.args.item.now) _ (returns-in-Ok-copy_extensions-clause-answer g c) n h
