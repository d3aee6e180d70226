use Rattle.std.proofs.Common.{◌≡◌, true, false, arith, sym}
use Rattle.std.specs.Str.{bytes_eq}
use Rattle.mls_cli_explain.specs.Explain.{name_told}
use Rattle.mls_cli_explain.proofs.Naming.{further, here, nowhere}
use Rattle.mls_cli_explain.proofs.explain.number_of_name.Goals as goal

pub returns-then-eq : goal.returns-then-eq
returns-then-eq c =
    let same : bytes_eq c.args.name.now (name_told c.loop-number.number) ≡ true = cc (c.eq.ensures, c.name_told.ensures, c.if-eq.true) in
    sym (here c.args.name.now c.loop-number.number c.loop-number-test.true same c.loop-number.invariant)

pub loop-number-preserved : goal.loop-number-preserved
loop-number-preserved c =
    let other : bytes_eq c.args.name.now (name_told c.loop-number.number) ≡ false = cc (c.eq.ensures, c.name_told.ensures, c.if-eq.false) in
    further c.args.name.now c.loop-number.number c.loop-number-test.true other c.loop-number.invariant

pub returns : goal.returns
returns c = sym (nowhere c.args.name.now c.loop-number.number (omega arith) c.loop-number.invariant)
