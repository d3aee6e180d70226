use Rattle.mls_treekem_model.proofs.laws_of_edits.Goals as goal
use Rattle.mls_treekem_model.proofs.WholeLaws.{follows_update, follows_remove, follows_add, added_is_listed, add_keeps_listed}

pub returns : goal.returns
returns c = record { update = follows_update; remove = follows_remove; add = follows_add; added = added_is_listed; kept = add_keeps_listed }
