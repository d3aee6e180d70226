use Rattle.std.proofs.Common.{◌∙◌, ap, sym, Ok}
use Rattle.mls_treekem_model.specs.Keys.{Keys}
use Rattle.mls_treekem_model.specs.Make.{Climb}
use Rattle.mls_treekem.proofs.Taking.{is_there, nones_pushed}
use Rattle.mls_treekem.proofs.take.start_climb.Goals as goal

pub returns : goal.returns
returns c =
    let at : Keys → Climb = λ zs. record { secret = c.args.secret.now; keys = zs } in
    is_there _ _ _ c.has_parent.ensures c.if-not-has_parent.false
    ∙ ap (λ zs. Ok (at zs)) (sym (nones_pushed c.args.height _ _ c.new-above.ensures.items c.in_ok-push_none.ensures))
