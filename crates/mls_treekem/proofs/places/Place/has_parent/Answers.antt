use Rattle.std.proofs.Common.{is_some, ap, ◌∙◌}
use Rattle.mls_treekem.proofs.Followed.{is_some-copied}
use Rattle.mls_treekem.proofs.places.Place.has_parent.Goals as goal

pub returns : goal.returns
returns c = c.is_some.ensures ∙ is_some-copied _ ∙ ap is_some c.parent.ensures
