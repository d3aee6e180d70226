use Rattle.std.proofs.Common.{◌∙◌, ap}
use Rattle.mls_types.specs.GroupContext.{group_context}
use Rattle.mls_schedule.specs.Epoch.{init_secret, next_epoch_secret, confirmation_tag}
use Rattle.mls_commit.specs.Outcome.{Outcome}
use Rattle.mls_model.specs.Member.{Member}
use Rattle.mls_member.proofs.member.Member.next_epoch.Goals as goal

pub returns-clause-epoch : goal.returns-clause-epoch
returns-clause-epoch g c =
    let init = c.init_secret.ensures ∙ ap (λ (m : Member). init_secret m.epoch_secret) c.self.view_is in
    let context = c.deref.ensures.value ∙ c.in_ok-context.ensures.spelled ∙ ap (λ (r : Outcome). group_context.spell r.change.context) c.received.view_is in
    c.next-start.ensures.epoch
    ∙ ap (λ i. next_epoch_secret i c.args.secret.now c.deref.result.now) init
    ∙ ap (next_epoch_secret (init_secret c.args.self.now.epoch_secret) c.args.secret.now) context

pub returns-clause-tag : goal.returns-clause-tag
returns-clause-tag g c = c.confirmation_tag-tag.ensures ∙ ap (confirmation_tag c.next-start.result.epoch) (c.as_slice-confirmed.ensures ∙ ap (λ (r : Outcome). r.change.context.confirmed_transcript_hash) c.received.view_is)
