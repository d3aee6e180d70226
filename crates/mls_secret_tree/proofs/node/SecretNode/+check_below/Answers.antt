use Rattle.std.proofs.Common.{rules}
use Rattle.mls_leaf.proofs.Codecs.{codecs}
use Rattle.mls_secret_tree.specs.Saved.{saved_parent}
use Rattle.mls_secret_tree.proofs.SavedNodes.{held_at_leaf, held_above}
use Rattle.mls_secret_tree.proofs.node.SecretNode.+check_below.Goals as goal

pub returns-then-height-eq0 : goal.returns-then-height-eq0
returns-then-height-eq0 t c = rw (held_at_leaf _ c.if-height-eq0.true) (search (rules, codecs))

pub returns-in_err-u8 : goal.returns-in_err-u8
unfolding saved_parent
returns-in_err-u8 t c = rw (held_above _ c.if-height-eq0.false) (search (rules, codecs))

pub returns-in_err-read_sized-in-0 : goal.returns-in_err-read_sized-in-0
unfolding saved_parent
returns-in_err-read_sized-in-0 t c = rw (held_above _ c.if-height-eq0.false) (search (rules, codecs))

pub returns-in_err-check_below-in-1 : goal.returns-in_err-check_below-in-1
unfolding saved_parent
returns-in_err-check_below-in-1 t c = rw (held_above _ c.if-height-eq0.false) (search (rules, codecs))

pub returns-in_ok-read_sized-in-0 : goal.returns-in_ok-read_sized-in-0
unfolding saved_parent
returns-in_ok-read_sized-in-0 t c = rw (held_above _ c.if-height-eq0.false) (search (rules, codecs))

pub returns-in_ok-check_below-in-1 : goal.returns-in_ok-check_below-in-1
unfolding saved_parent
returns-in_ok-check_below-in-1 t c = rw (held_above _ c.if-height-eq0.false) (search (rules, codecs))

pub returns-in_default : goal.returns-in_default
unfolding saved_parent
returns-in_default t c = rw (held_above _ c.if-height-eq0.false) (search (rules, codecs))
