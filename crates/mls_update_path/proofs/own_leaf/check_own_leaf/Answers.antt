use Rattle.std.proofs.Common.{sym, subst, ◌∙◌}
use Rattle.std.proofs.lemmas.Slice.Eq.{bytes_eq-Decides}
use Rattle.mls_checks.specs.Faults.{ChecksAs}
use Rattle.mls_update_path.proofs.OwnLeaves.{own_checks}
use Rattle.mls_update_path.proofs.own_leaf.check_own_leaf.Goals as goal

pub returns : goal.returns
returns g c =
    let key = (bytes_eq-Decides (g.S.Suite.crypto.sig_public c.args.signing.now) c.args.old.now.signature_key).0 (sym c.in_ok-is_own.ensures ∙ c.if-not-is_own.false) in
    subst (λ r. ChecksAs r c.require_other_key.result)
    (sym (own_checks g.S.Suite.crypto g.met.S.Suite.lawful c.args.signing.now c.args.group_id.now c.args.index c.args.old.now key c.args.new.now c.requires.own)) c.require_other_key.ensures
