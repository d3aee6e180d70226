use Rattle.mls_cli_check.proofs.Pictures.{drawn_decoded, undecoded_shown}
use Rattle.mls_cli_check.proofs.drawing.picture_from.Goals as goal

pub returns-in-Ok-clause-undecoded : goal.returns-in-Ok-clause-undecoded
returns-in-Ok-clause-undecoded c = drawn_decoded c.args.source c.args.bytes.now _ c.picture_by.result c.in-Ok.ensures.tree

pub returns-in-Err-clause-undecoded : goal.returns-in-Err-clause-undecoded
returns-in-Err-clause-undecoded c = undecoded_shown _ c.args.source c.args.bytes.now c.in-Err.error c.refused_picture.result c.in-Err.ensures.undecoded c.refused_picture.ensures.refused
