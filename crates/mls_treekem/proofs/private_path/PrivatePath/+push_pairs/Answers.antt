use Rattle.std.proofs.Common.{◌-◌, ◌+◌, ◌*◌, ◌++◌, ap, ap₂, sym, ◌∙◌}
use Rattle.mls_treekem_model.specs.Height.{as_pairs}
use Rattle.mls_treekem_model.specs.Keys.{all_keys}
use Rattle.mls_treekem_model.specs.Pairs.{pair_of}
use Rattle.mls_treekem.proofs.Levels.{left_first, root_first, pairs_lowest, on_ok_by}
use Rattle.mls_treekem.proofs.private_path.PrivatePath.+push_pairs.Goals as goal

pub returns-then-height-eq0 : goal.returns-then-height-eq0
returns-then-height-eq0 t c =
    on_ok_by _ _ _ _ (ap (λ x. as_pairs c.args.pairs.now.items ++ x) (ap₂ (λ j o. pair_of (2 * j) o) c.leaf-leaf.ensures c.key_at.ensures ∙ sym (pairs_lowest c.args.height c.args.first c.args.self.now.leaf (all_keys c.args.self.now) c.if-height-eq0.true))) c.push_pair.ensures

pub returns-in_ok-push_pairs : goal.returns-in_ok-push_pairs
returns-in_ok-push_pairs t c =
    on_ok_by _ _ _ _
    (ap (λ o. as_pairs c.push_pairs.new.pairs.items ++ pair_of (2 * c.args.first + (2 * c.side_of-half.result - 1)) o) c.key_at-then-leaf-first.ensures
    ∙ left_first c.args.height c.args.first c.args.self.now.leaf (all_keys c.args.self.now) c.if-height-eq0.false _ c.side_of-half.ensures.value _ _ (rw (sym c.leaf-leaf.ensures) c.if-leaf-first.true) c.in_ok-push_pairs.ensures)
    c.push_pair-then-leaf-first.ensures

pub returns-in_ok-push_pair : goal.returns-in_ok-push_pair
returns-in_ok-push_pair t c =
    on_ok_by _ _ _ _
    (root_first c.args.height c.args.first c.args.self.now.leaf (all_keys c.args.self.now) c.if-height-eq0.false _ c.side_of-half.ensures.value _ _ (rw (sym c.leaf-leaf.ensures) c.if-leaf-first.false)
    (c.in_ok-push_pair.ensures ∙ ap (λ o. as_pairs c.args.pairs.now.items ++ pair_of (2 * c.args.first + (2 * c.side_of-half.result - 1)) o) c.key_at-else-leaf-first.ensures))
    c.push_pairs-else-leaf-first.ensures
