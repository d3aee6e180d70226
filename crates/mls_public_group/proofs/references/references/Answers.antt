use Rattle.std.proofs.Common.{List}
use Rattle.std.specs.Prelude.{map}
use Rattle.mls_model.specs.PublicState.{Used}
use Rattle.mls_model.specs.Proposals.{adds, package_reference}
use Rattle.mls_public_group.proofs.Folding.{gathered, all_gathered, references_split, references_none}
use Rattle.mls_public_group.proofs.references.references.Goals as goal

pub loop-one-preserved : goal.loop-one-preserved
loop-one-preserved c =
    gathered (λ (us : List Used). map package_reference (adds us)) references_split c.args.used.now c.loop-one.one-index c.one-item.result c.loop-one.references.items c.push_reference.new.references.items _ c.loop-one-test.true c.one-item.is c.in_ok-push_reference.ensures c.loop-one.invariant

pub returns : goal.returns
returns c =
    all_gathered (λ (us : List Used). map package_reference (adds us)) references_none c.args.used.now c.loop-one.one-index c.loop-one.references.items _ c.loop-one-test.false c.loop-one.invariant
