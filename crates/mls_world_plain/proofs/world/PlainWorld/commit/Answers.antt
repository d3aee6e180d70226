use Rattle.std.proofs.Common.{◌<◌, length, map, refl, sym, subst, ◌∙◌}
use Rattle.std.proofs.lemmas.Result.{err_from_is_err_and}
use Rattle.mls_member.specs.Answers.{messages_of}
use Rattle.mls_model.specs.Make.{list_item_of}
use Rattle.mls_model.specs.World.{World}
use Rattle.mls_world_plain.proofs.EarlyChecks.{commit_nobody, commit_refused, commit_passes}
use Rattle.mls_world_plain.proofs.Recording.{list_refused, make_refused, still_there, whole_is, undone, listed_so, named_so}
use Rattle.mls_world_plain.proofs.world.PlainWorld.commit.Goals as goal

pub returns-in-Err-clause-does : goal.returns-in-Err-clause-does
returns-in-Err-clause-does g c = (refl, list_refused g.S.Suite.crypto c.args.self.now c.args.member c.args.items.now c.args.path c.args.seed.now _ c.in_ok-require_member.ensures.there c.in-Err.ensures.answer)

pub returns-in-Err-commit_by-clause-does : goal.returns-in-Err-commit_by-clause-does
returns-in-Err-commit_by-clause-does g c = (
  c.in-Err-commit_by.ensures.does.0,
  make_refused g.S.Suite.crypto c.args.self.now c.args.member c.args.items.now c.args.path c.args.seed.now (map list_item_of c.deref-2.result.now) _ c.in_ok-require_member.ensures.there
      (listed_so c.args.self.now c.args.items.now c.in-Ok.list.items c.deref-2.result.now c.deref-2.ensures.value c.in-Ok.ensures.answer) c.in-Err-commit_by.ensures.does.1,
)

pub record-requires : goal.record-requires
record-requires g c = still_there g.S.Suite.crypto c.args.self.now c.commit_by.new.self c.args.member (map list_item_of c.deref-2.result.now) c.args.path c.args.seed.now (messages_of c.in-Ok-commit_by.made) c.in_ok-require_member.ensures.there c.in-Ok-commit_by.ensures.does

pub returns-in-Ok-record-clause-does : goal.returns-in-Ok-record-clause-does
returns-in-Ok-record-clause-does g c =
    whole_is g.S.Suite.crypto c.args.self.now c.commit_by.new.self c.record.new.self c.args.member c.args.items.now c.args.path c.args.seed.now (map list_item_of c.deref-2.result.now)
    (messages_of c.in-Ok-commit_by.made) c.in_ok-named.named.names.items c.in_ok-named.named.adds.items _ c.in_ok-require_member.ensures.there
    (listed_so c.args.self.now c.args.items.now c.in-Ok.list.items c.deref-2.result.now c.deref-2.ensures.value c.in-Ok.ensures.answer) c.in-Ok-commit_by.ensures.does
    (named_so c.args.self.now c.args.member c.in-Ok.list.items c.deref.result.now c.deref-2.result.now c.in_ok-named.named.names.items c.in_ok-named.named.adds.items
    c.deref.ensures.value c.deref-2.ensures.value c.in_ok-named.ensures.named)
    c.in-Ok-record.ensures.ok

pub forget-requires : goal.forget-requires
forget-requires g c = subst (λ (w : World). c.args.member < length w.seats) (sym c.in-Err-record.ensures.err)
    (still_there g.S.Suite.crypto c.args.self.now c.commit_by.new.self c.args.member (map list_item_of c.deref-2.result.now) c.args.path c.args.seed.now (messages_of c.in-Ok-commit_by.made) c.in_ok-require_member.ensures.there c.in-Ok-commit_by.ensures.does)

pub returns-clause-does : goal.returns-clause-does
returns-clause-does g c = (
  undone g.S.Suite.crypto c.args.self.now c.commit_by.new.self c.record.new.self c.forget.new.self c.args.member (map list_item_of c.deref-2.result.now) c.args.path c.args.seed.now (messages_of c.in-Ok-commit_by.made)
      c.in_ok-require_member.ensures.there c.in-Err-record.ensures.err c.in-Ok-commit_by.ensures.does c.in-Ok-commit_by.ensures.free c.forget.ensures.none,
  λ other. absurd (other c.in-Err-record.ensures.memory),
)

pub returns-in-Err-clause-outright : goal.returns-in-Err-clause-outright
returns-in-Err-clause-outright g c = λ n h. c.in-Err.ensures.outright n (commit_refused c.args.self.now c.args.member c.args.items.now n c.in_ok-require_member.ensures.there h)

pub returns-in_err-named-clause-outright : goal.returns-in_err-named-clause-outright
returns-in_err-named-clause-outright g c = λ n h. absurd (commit_passes c.args.self.now c.args.member c.args.items.now _ n c.in_ok-require_member.ensures.there c.in-Ok.ensures.answer h)

pub returns-in-Err-commit_by-clause-outright : goal.returns-in-Err-commit_by-clause-outright
returns-in-Err-commit_by-clause-outright g c = λ n h. absurd (commit_passes c.args.self.now c.args.member c.args.items.now _ n c.in_ok-require_member.ensures.there c.in-Ok.ensures.answer h)

pub returns-clause-outright : goal.returns-clause-outright
returns-clause-outright g c = λ n h. absurd (commit_passes c.args.self.now c.args.member c.args.items.now _ n c.in_ok-require_member.ensures.there c.in-Ok.ensures.answer h)

pub returns-in-Ok-record-clause-outright : goal.returns-in-Ok-record-clause-outright
returns-in-Ok-record-clause-outright g c = λ n h. commit_passes c.args.self.now c.args.member c.args.items.now _ n c.in_ok-require_member.ensures.there c.in-Ok.ensures.answer h

pub returns-in_err-require_member-clause-outright : goal.returns-in_err-require_member-clause-outright
returns-in_err-require_member-clause-outright g c = λ n h.
    let p = err_from_is_err_and c.from_residual.result c.from_residual.ensures.1 in
    rw (p.1, p.2) (c.in_err-require_member.ensures.missing.0 ∙ commit_nobody c.args.self.now c.args.member c.args.items.now n c.in_err-require_member.ensures.missing.1 h)
