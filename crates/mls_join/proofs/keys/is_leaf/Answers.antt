use Rattle.std.proofs.Common.{◌∙◌}
use Rattle.std.proofs.lemmas.Bool.Decides.{same_from_decides}
use Rattle.mls_leaf.proofs.EqualLaws.{leaves_decide}
use Rattle.mls_join.proofs.Places.{same_decides}
use Rattle.mls_join.proofs.keys.is_leaf.Goals as goal

pub returns-in-Some : goal.returns-in-Some
returns-in-Some c =
    let short = rw c.in-Some.is at c.requires.member in
    rw c.in-Some.is (c.eq.ensures ∙ same_from_decides _ _ (leaves_decide c.in-Some.member.now c.args.leaf.now) (same_decides c.in-Some.member.now c.args.leaf.now short.fits c.requires.leaf.fits))
