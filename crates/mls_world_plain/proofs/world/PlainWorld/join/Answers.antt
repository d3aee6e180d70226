use Rattle.std.proofs.Common.{ℕ, List, Option, ◌≡◌, ◌<◌, length, slice_get, refl, sym, ap, subst, ◌∙◌}
use Rattle.mls_model.specs.declared.origin.Origin.TheVariants as from
use Rattle.mls_model.specs.Candidate.{Candidate}
use Rattle.mls_model.specs.Join.{JoinedMember, join_verdict}
use Rattle.mls_model.specs.Journal.{new_journal}
use Rattle.mls_model.specs.World.{Entrant, World, commit_for_joiner, with_new_member}
use Rattle.mls_world_plain.specs.CallParts.{commit_made_at, IsThere}
use Rattle.mls_world_plain.proofs.EarlyChecks.{join_nobody, join_unlent, join_refused as refused_early}
use Rattle.mls_world_plain.proofs.Entering.{join_begun, join_absent, join_unread, join_refused, entrant_within}
use Rattle.mls_world_plain.proofs.Welcomed.{join_made}
use Rattle.mls_world_plain.proofs.world.PlainWorld.join.Goals as goal

pub returns-in-Err-clause-does : goal.returns-in-Err-clause-does
returns-in-Err-clause-does g c = (refl, λ _. join_absent g.S.Suite.crypto c.args.self.now c.args.candidate c.args.source.now _ c.in-Err.ensures)

pub returns-in-Err-bytes_of-clause-does : goal.returns-in-Err-bytes_of-clause-does
returns-in-Err-bytes_of-clause-does g c = (refl, λ _. join_unread g.S.Suite.crypto c.args.self.now c.args.candidate c.args.source.now c.in-Ok.entrant.now _ c.in-Ok.ensures c.in-Err-bytes_of.ensures)

pub returns-in-Err-join-clause-does : goal.returns-in-Err-join-clause-does
returns-in-Err-join-clause-does g c =
    let same : c.entrant.inside.candidate ≡ c.in-Ok.entrant.now.candidate = ap (λ (x : Entrant). x.candidate) c.entrant.view_is in (
      refl,
      λ h. join_refused g.S.Suite.crypto c.args.self.now c.args.candidate c.args.source.now c.in-Ok-bytes_of.bytes.now c.in-Ok.entrant.now _ c.in-Ok.ensures c.in-Ok-bytes_of.ensures
          (ap (λ (x : Candidate). join_verdict g.S.Suite.crypto x c.in-Ok-bytes_of.bytes.now) (sym same) ∙ c.in-Err-join.ensures.answer h),
    )

pub follow_member-requires-clause-candidate : goal.follow_member-requires-clause-candidate
follow_member-requires-clause-candidate g c = entrant_within c.args.self.now c.args.candidate c.in-Ok.entrant.now c.in-Ok.ensures

pub begin_member-requires : goal.begin_member-requires
begin_member-requires g c = entrant_within c.args.self.now c.args.candidate c.in-Ok.entrant.now c.in-Ok.ensures

pub returns-in_ok-member-in-Some-clause-does : goal.returns-in_ok-member-in-Some-clause-does
returns-in_ok-member-in-Some-clause-does g c =
    let w : World = c.args.self.now in
    let j : JoinedMember = record { member = c.in-Ok-join.joined.member; info = c.in-Ok-join.joined.group_info.items } in
    let same : c.entrant.inside.candidate ≡ c.in-Ok.entrant.now.candidate = ap (λ (x : Entrant). x.candidate) c.entrant.view_is in
    let made : commit_for_joiner w.commits c.args.source.now c.in-Ok.entrant.now.candidate ≡ slice_get w.commits c.in-Some.made =
    ap (λ (x : Candidate). commit_for_joiner w.commits c.args.source.now x) (sym same) ∙ c.commit_for_joiner.ensures.first ∙ ap (λ (o : Option ℕ). commit_made_at w.commits o) c.in-Some.is in
    let there : c.in-Some.made < length w.commits = subst (λ (o : Option ℕ). IsThere w.commits o) c.in-Some.is c.commit_for_joiner.ensures.there in
    join_made g.S.Suite.crypto w c.follow_member.new.self c.args.candidate c.in_ok-member-in-Some.member c.epoch-epoch.result c.in-Some.made c.args.source.now c.in-Ok-bytes_of.bytes.now c.in-Ok.entrant.now j c.in-Ok.ensures c.in-Ok-bytes_of.ensures
    (ap (λ (x : Candidate). join_verdict g.S.Suite.crypto x c.in-Ok-bytes_of.bytes.now) (sym same) ∙ c.in-Ok-join.ensures.answer)
    made there c.in_ok-member-in-Some.ensures.number c.epoch-epoch.ensures
    (λ x d q r. c.in_ok-member-in-Some.ensures.ok x d q r)

pub returns-in_ok-member-in-None-clause-does : goal.returns-in_ok-member-in-None-clause-does
returns-in_ok-member-in-None-clause-does g c =
    let w : World = c.args.self.now in
    let j : JoinedMember = record { member = c.in-Ok-join.joined.member; info = c.in-Ok-join.joined.group_info.items } in
    let same : c.entrant.inside.candidate ≡ c.in-Ok.entrant.now.candidate = ap (λ (x : Entrant). x.candidate) c.entrant.view_is in
    join_begun g.S.Suite.crypto w c.begin_member.new.self c.args.candidate c.in_ok-member-in-None.member c.epoch-epoch.result c.args.source.now c.in-Ok-bytes_of.bytes.now c.in-Ok.entrant.now j c.in-Ok.ensures c.in-Ok-bytes_of.ensures
    (ap (λ (x : Candidate). join_verdict g.S.Suite.crypto x c.in-Ok-bytes_of.bytes.now) (sym same) ∙ c.in-Ok-join.ensures.answer)
    (ap (λ (x : Candidate). commit_for_joiner w.commits c.args.source.now x) (sym same) ∙ c.commit_for_joiner.ensures.first ∙ ap (λ (o : Option ℕ). commit_made_at w.commits o) c.in-None.is)
    c.in_ok-member-in-None.ensures.number c.epoch-epoch.ensures
    (λ x q. subst (λ (l : List ℕ). c.begin_member.new.self ≡ with_new_member w c.args.candidate x (record { member = j.member; journal = new_journal (from.GroupInfo l) })) c.from_vec.ensures (c.in_ok-member-in-None.ensures.ok x q))

pub returns-in-Err-clause-outright : goal.returns-in-Err-clause-outright
returns-in-Err-clause-outright g c = λ n h. join_nobody g.S.Suite.crypto.number c.args.self.now c.args.candidate c.args.source.now _ n c.in-Err.ensures h

pub returns-in-Err-bytes_of-clause-outright : goal.returns-in-Err-bytes_of-clause-outright
returns-in-Err-bytes_of-clause-outright g c = λ n h. join_unlent g.S.Suite.crypto.number c.args.self.now c.args.candidate c.args.source.now c.in-Ok.entrant.now n c.in-Ok.ensures h _ c.in-Err-bytes_of.ensures

pub returns-in-Err-join-clause-outright : goal.returns-in-Err-join-clause-outright
returns-in-Err-join-clause-outright g c = λ n h. c.in-Err-join.ensures.outright n (refused_early g.S.Suite.crypto.number c.args.self.now c.args.candidate c.args.source.now c.in-Ok.entrant.now n c.in-Ok.ensures h c.in-Ok-bytes_of.bytes.now c.in-Ok-bytes_of.ensures)

pub returns-in_err-member-in-Some-clause-outright : goal.returns-in_err-member-in-Some-clause-outright
returns-in_err-member-in-Some-clause-outright g c = λ n h. absurd (c.in-Ok-join.ensures.outright n (refused_early g.S.Suite.crypto.number c.args.self.now c.args.candidate c.args.source.now c.in-Ok.entrant.now n c.in-Ok.ensures h c.in-Ok-bytes_of.bytes.now c.in-Ok-bytes_of.ensures))

pub returns-in_err-member-in-None-clause-outright : goal.returns-in_err-member-in-None-clause-outright
returns-in_err-member-in-None-clause-outright g c = λ n h. absurd (c.in-Ok-join.ensures.outright n (refused_early g.S.Suite.crypto.number c.args.self.now c.args.candidate c.args.source.now c.in-Ok.entrant.now n c.in-Ok.ensures h c.in-Ok-bytes_of.bytes.now c.in-Ok-bytes_of.ensures))

pub returns-in_ok-member-in-Some-clause-outright : goal.returns-in_ok-member-in-Some-clause-outright
returns-in_ok-member-in-Some-clause-outright g c = λ n h. c.in-Ok-join.ensures.outright n (refused_early g.S.Suite.crypto.number c.args.self.now c.args.candidate c.args.source.now c.in-Ok.entrant.now n c.in-Ok.ensures h c.in-Ok-bytes_of.bytes.now c.in-Ok-bytes_of.ensures)

pub returns-in_ok-member-in-None-clause-outright : goal.returns-in_ok-member-in-None-clause-outright
returns-in_ok-member-in-None-clause-outright g c = λ n h. c.in-Ok-join.ensures.outright n (refused_early g.S.Suite.crypto.number c.args.self.now c.args.candidate c.args.source.now c.in-Ok.entrant.now n c.in-Ok.ensures h c.in-Ok-bytes_of.bytes.now c.in-Ok-bytes_of.ensures)
