use Rattle.std.proofs.Common.{◌≡◌, ◌^◌, true, subst, sym, ◌∙◌, ap}
use Rattle.mls_public_group.specs.Short.{HasLeavesBelow}
use Rattle.mls_commit.specs.Outcome.{Outcome}
use Rattle.mls_commit.proofs.Receiving.{next_alike, follows_alike, public_next}
use Rattle.mls_schedule.specs.Transcript.{interim_hash}
use Rattle.mls_commit.proofs.outcome.Outcome.enter.Goals as goal

pub enter-requires-clause-follows : goal.enter-requires-clause-follows
enter-requires-clause-follows c =
    let own = subst (λ (r : Outcome). r.on_own ≡ true → r.change.edits.tree ≡ c.args.group.now.tree) (sym c.self.view_is) c.requires.of in
    follows_alike _ _ c.self.inside.tree own c.self.invariant.2

pub enter-requires-clause-leaves : goal.enter-requires-clause-leaves
enter-requires-clause-leaves c =
    let own = subst (λ (r : Outcome). r.on_own ≡ true → r.change.edits.tree ≡ c.args.group.now.tree) (sym c.self.view_is) c.requires.of in
    let below = subst (λ (r : Outcome). HasLeavesBelow (2 ^ 27) r.change.tree) (sym c.self.view_is) c.requires.leaves in
    subst (HasLeavesBelow (2 ^ 27)) (next_alike _ _ c.self.inside.tree own) below

pub returns-clause-next : goal.returns-clause-next
returns-clause-next c =
    let own = subst (λ (r : Outcome). r.on_own ≡ true → r.change.edits.tree ≡ c.args.group.now.tree) (sym c.self.view_is) c.requires.of in
    public_next _ _ c.args.tag.now _ _ _ c.in_ok-enter.ensures.next (ap (λ (r : Outcome). r.change.context) c.self.view_is)
    (sym (next_alike _ _ c.self.inside.tree own) ∙ ap (λ (r : Outcome). r.change.tree) c.self.view_is)
    (c.next_transcript-transcript.ensures ∙ ap (λ (r : Outcome). interim_hash r.change.context.confirmed_transcript_hash c.args.tag.now) c.self.view_is)
