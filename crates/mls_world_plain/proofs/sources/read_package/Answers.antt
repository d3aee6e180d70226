use Rattle.std.proofs.Common.{rules, arith}
use Rattle.mls_tree.proofs.RefusalLaws.{one_number, not_refused}
use Rattle.mls_world_plain.specs.Sources.{read_package}
use Rattle.mls_world_plain.proofs.Readings.{package_of, package_is, package_below, no_package, no_message}
use Rattle.mls_world_plain.proofs.sources.read_package.Goals as goal

pub returns-in_err-part-clause-answer : goal.returns-in_err-part-clause-answer
returns-in_err-part-clause-answer c = let e = (no_message c.args.bytes.now _ c.in_err-part.ensures.read).0 in rw e (search rules)

pub returns-in_err-part-clause-outright : goal.returns-in_err-part-clause-outright
returns-in_err-part-clause-outright c = let e = (no_message c.args.bytes.now _ c.in_err-part.ensures.read).0 in rw e (search rules)

pub returns-in_err-to_owned-in-KeyPackage-clause-outright : goal.returns-in_err-to_owned-in-KeyPackage-clause-outright
returns-in_err-to_owned-in-KeyPackage-clause-outright c = λ n h.
    let p = package_of c.args.bytes.now _ c.in-KeyPackage.part c.in_ok-part.ensures.read c.in-KeyPackage.is in
    absurd (not_refused (read_package c.args.bytes.now) p.shown (package_is c.args.bytes.now c.in-KeyPackage.part p.shown p p.spells) n h)

pub returns-in_ok-to_owned-in-KeyPackage-clause-answer : goal.returns-in_ok-to_owned-in-KeyPackage-clause-answer
returns-in_ok-to_owned-in-KeyPackage-clause-answer c =
    package_is c.args.bytes.now c.in-KeyPackage.part _ (package_of c.args.bytes.now _ c.in-KeyPackage.part c.in_ok-part.ensures.read c.in-KeyPackage.is) c.in_ok-to_owned-in-KeyPackage.ensures

pub returns-in_ok-to_owned-in-KeyPackage-clause-outright : goal.returns-in_ok-to_owned-in-KeyPackage-clause-outright
returns-in_ok-to_owned-in-KeyPackage-clause-outright c = λ n h. not_refused (read_package c.args.bytes.now) _ (returns-in_ok-to_owned-in-KeyPackage-clause-answer c) n h

pub returns-in_ok-to_owned-in-KeyPackage-clause-below : goal.returns-in_ok-to_owned-in-KeyPackage-clause-below
returns-in_ok-to_owned-in-KeyPackage-clause-below c =
    package_below c.args.bytes.now c.in-KeyPackage.part _ (λ i. omega (arith, c.type_inv.bytes i)) (package_of c.args.bytes.now _ c.in-KeyPackage.part c.in_ok-part.ensures.read c.in-KeyPackage.is) c.in_ok-to_owned-in-KeyPackage.ensures

pub returns-in_default : goal.returns-in_default
returns-in_default c =
    let e = no_package c.args.bytes.now _ c.in_ok-part.ensures.read c.in_default.not-KeyPackage in
    record { answer = λ _. e; outright = λ n h. one_number (read_package c.args.bytes.now) 95 e n h; below = tt }
