use Rattle.std.proofs.Common.{◌+◌, ◌<◌, ◌^◌, length, subst, sym, ◌∙◌, ap}
use Rattle.mls_schedule.proofs.Lengths.{length-confirmed_hash}
use Rattle.mls_public_group.specs.Short.{IsShortContext}
use Rattle.mls_types.specs.declared.group_context.GroupContext.{GroupContext}
use Rattle.mls_public_group.proofs.ShortLaws.{short_provisional}
use Rattle.mls_commit.proofs.Contexts.{short_confirmed}
use Rattle.mls_commit.proofs.outcome.Outcome.new.Goals as goal

pub invariant_of-result : goal.invariant_of-result
invariant_of-result c =
    let old = subst IsShortContext (sym c.context.ensures) c.is_short.ensures.context in
    let low = subst (λ (x : GroupContext). x.epoch + 1 < 2 ^ 64) (sym c.context.ensures) c.requires.epoch in
    let provisional = subst IsShortContext (sym (c.in_ok-provisional.ensures _ (c.tree_hash-hash.ensures _ c.requires.follows))) (short_provisional c.context.result.now c.args.extensions.now _ old c.requires.extensions low) in
    (provisional, subst IsShortContext (sym c.in_ok-context.ensures) (short_confirmed c.in_ok-provisional.provisional _ provisional (ap length c.confirm-confirmed.ensures ∙ length-confirmed_hash _ _ _ _)), c.requires.follows)
