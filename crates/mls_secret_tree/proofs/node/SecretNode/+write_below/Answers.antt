use Rattle.std.proofs.lemmas.Result.{err_from_is_err_and}
use Rattle.mls_secret_tree.proofs.Nodes.{sees}
use Rattle.mls_secret_tree.proofs.SavedNodes.{secret_added, ratchet_added, no_ratchet_above, left_refused, both_added, no_children_below}
use Rattle.mls_secret_tree.proofs.node.SecretNode.+write_below.Goals as goal

pub returns-then-height-ne0 : goal.returns-then-height-ne0
returns-then-height-ne0 t c = no_ratchet_above _ _ _ c.if-height-ne0.true (sees c.self.view_is c.in-Ratchet.is)

pub returns-then-height-eq0 : goal.returns-then-height-eq0
returns-then-height-eq0 t c = no_children_below _ _ _ _ c.if-height-eq0.true (sees c.self.view_is c.in-Parted.is)

pub returns-in_err-write_below-in-Parted : goal.returns-in_err-write_below-in-Parted
returns-in_err-write_below-in-Parted t c =
    let p = err_from_is_err_and c.from_residual-in_err-write_below-in-Parted.result c.from_residual-in_err-write_below-in-Parted.ensures.1 in
    rw (p.1, p.2) (left_refused _ _ _ _ _ _ c.if-height-eq0.false (sees c.self.view_is c.in-Parted.is) c.deref.ensures c.in_err-write_below-in-Parted.ensures)

pub returns-in_ok-u8-in-Secret : goal.returns-in_ok-u8-in-Secret
returns-in_ok-u8-in-Secret t c = secret_added _ _ _ _ _ _ _ (sees c.self.view_is c.in-Secret.is) c.in_ok-u8-in-Secret.ensures c.write_sized.ensures

pub returns-in_ok-u8-in-Ratchet : goal.returns-in_ok-u8-in-Ratchet
returns-in_ok-u8-in-Ratchet t c =
    ratchet_added _ _ _ _ _ _ _ c.if-height-ne0.false (sees c.self.view_is c.in-Ratchet.is) c.in_ok-u8-in-Ratchet.ensures c.write.ensures

pub returns-in_ok-write_below-in-Parted : goal.returns-in_ok-write_below-in-Parted
returns-in_ok-write_below-in-Parted t c =
    both_added _ _ _ _ _ _ _ _ _ _ _ c.if-height-eq0.false (sees c.self.view_is c.in-Parted.is) c.deref.ensures c.deref-in-Parted.ensures
    c.in_ok-u8-in-Parted.ensures c.in_ok-write_below-in-Parted.ensures c.write_below-in-Parted.ensures
