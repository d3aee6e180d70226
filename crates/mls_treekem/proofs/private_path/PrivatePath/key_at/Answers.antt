use Rattle.std.proofs.Common.{◌-◌, ◌∙◌, ap, Some, None, get_or}
use Rattle.mls_treekem.proofs.Levels.{key_own, key_high}
use Rattle.mls_treekem.proofs.private_path.PrivatePath.key_at.Goals as goal

pub returns-then-height-eq0 : goal.returns-then-height-eq0
returns-then-height-eq0 c =
    ap (λ p. Some p.own) c.self.view_is ∙ key_own c.args.self.now c.self.inside.above.items c.args.height (ap (λ p. p.above) c.self.view_is) c.if-height-eq0.true

pub returns : goal.returns
returns c =
    c.key_in.ensures
    ∙ ap (λ xs. get_or xs (c.args.height - 1) None) c.deref.ensures.value
    ∙ key_high c.args.self.now c.self.inside.above.items c.args.height (ap (λ p. p.above) c.self.view_is) c.if-height-eq0.false
