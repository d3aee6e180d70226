use Rattle.std.proofs.Common.{◌≡◌, List, map, Ok, subst}
use Rattle.mls_saved_state.specs.State.{HasSecrets}
use Rattle.mls_model.specs.Member.{KeptProposal, Member}
use Rattle.mls_member.specs.Saved.{saved_proposal_of, load_all_kept, HasSecretsIfPending, IsLoadedIfGood}
use Rattle.mls_member.proofs.Saving.{member_loaded}
use Rattle.mls_member.proofs.member.Member.to_saved.Goals as goal

pub returns-clause-loads : goal.returns-clause-loads
returns-clause-loads g c =
    let i = c.self.inside in
    let m : Member = record { gone = i.gone; public = i.group; epoch_secret = i.epoch; keys = i.keys; signing = i.signing; kept = i.kept.items; pending = i.pending } in
    subst (IsLoadedIfGood g.S.Suite.crypto) c.self.view_is (member_loaded g.S.Suite.crypto m (subst HasSecrets c.in_ok-state.ensures.state c.in_ok-state.ensures.secrets) c.in_ok-signing.ensures.secret
    (subst (λ (ks : List KeptProposal). load_all_kept (map saved_proposal_of ks) ≡ Ok ks) c.deref.ensures.value (rw c.in_ok-kept.ensures.same at c.in_ok-kept.ensures.loads))
    (subst HasSecretsIfPending c.in_ok-pending.ensures.same c.in_ok-pending.ensures.secrets))
