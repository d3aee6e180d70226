use Rattle.std.proofs.Common.{◌≡◌, true, ◌∙◌, ap, subst}
use Rattle.std.specs.Str.{bytes_eq}
use Rattle.mls_model.specs.Member.{Member}
use Rattle.mls_member.proofs.CommitSteps.{enters, not_unequal}
use Rattle.mls_member.proofs.member.Member.enter_epoch.Goals as goal

pub returns : goal.returns
returns g c =
    let due = c.as_slice.ensures ∙ c.in-Ok.ensures.tag in
    enters c.args.self.now _ c.begin_epoch.new.self c.args.received.change c.args.reached.secret c.args.reached.keys c.args.tag.now c.in-Ok.next.0 c.begin_epoch.result
    (ap (λ (m : Member). m.gone) c.self.view_is) (ap (λ (m : Member). m.signing) c.self.view_is) c.in_ok-enter.ensures.next c.begin_epoch.ensures.member c.begin_epoch.ensures.effect
    c.in-Ok.ensures.epoch (subst (λ d. bytes_eq c.args.tag.now d ≡ true) due (not_unequal _ _ c.ne.ensures c.if-ne.false))
