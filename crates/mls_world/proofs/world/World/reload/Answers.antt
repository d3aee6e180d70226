use Rattle.std.proofs.Common.{◌≡◌, Some, sym, subst}
use Rattle.std.proofs.lemmas.Result.{err_from_is_err_and}
use Rattle.mls_model.specs.World.{World}
use Rattle.mls_theorems.specs.Reachable.{IsReachable}
use Rattle.mls_world.specs.Reload.{active_member}
use Rattle.mls_world.proofs.Reloading.{loaded_same, load_refused}
use Rattle.mls_world_plain.specs.CallAnswers.{seated_member}
use Rattle.mls_world.proofs.world.World.reload.Goals as goal

pub returns-in_err-member-clause-saved : goal.returns-in_err-member-clause-saved
returns-in_err-member-clause-saved g c =
    let same : c.self.inside.world ≡ c.args.self.now = c.self.view_is in
    let reach = subst (IsReachable g.S.Suite.crypto) same c.self.invariant in
    let there : active_member c.args.self.now c.args.k ≡ Some c.in-Some.member.now = sym c.in-Some.ensures in
    let slice : c.deref.result.now ≡ c.in_ok-bytes.bytes.items = cc in
    let p = err_from_is_err_and c.from_residual-in_err-member.result c.from_residual-in_err-member.ensures.1 in
    rw (p.1, p.2) (load_refused g.S.Suite.crypto g.met.S.Suite.lawful c.args.self.now reach c.args.k c.in-Some.member.now c.in_ok-bytes.bytes.items c.deref.result.now
    _ there c.in_ok-bytes.ensures.loads slice c.in_err-member.ensures.answer)

pub replace_member-requires : goal.replace_member-requires
replace_member-requires g c =
    let same : c.self.inside.world ≡ c.args.self.now = c.self.view_is in
    let reach = subst (IsReachable g.S.Suite.crypto) same c.self.invariant in
    let there : active_member c.args.self.now c.args.k ≡ Some c.in-Some.member.now = sym c.in-Some.ensures in
    let slice : c.deref.result.now ≡ c.in_ok-bytes.bytes.items = cc in
    subst (λ (w : World). seated_member w c.args.k ≡ Some c.in_ok-member.member) (sym same)
    (loaded_same g.S.Suite.crypto g.met.S.Suite.lawful c.args.self.now reach c.args.k c.in-Some.member.now c.in_ok-member.member c.in_ok-bytes.bytes.items c.deref.result.now
    there c.in_ok-bytes.ensures.loads slice c.in_ok-member.ensures.answer)
