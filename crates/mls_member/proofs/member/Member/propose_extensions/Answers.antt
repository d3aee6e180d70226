use Rattle.std.proofs.Common.{◌≡◌, List, true, subst}
use Rattle.mls_leaf.specs.GroupExtensions.{are_allowed}
use Rattle.mls_leaf.specs.declared.extension.Extension.{Extension}
use Rattle.mls_member.proofs.Good.{not_gone, extensions_good}
use Rattle.mls_member.proofs.Own.{extensions_fit}
use Rattle.mls_member.proofs.member.Member.propose_extensions.Goals as goal

pub send_and_keep-requires : goal.send_and_keep-requires
send_and_keep-requires g c = extensions_fit c.args.extensions (subst (λ (l : List Extension). are_allowed l ≡ true) c.as_slice-entries.ensures.entries c.as_slice-entries.ensures.allowed)

pub returns-clause-good : goal.returns-clause-good
returns-clause-good g c = λ good.
    extensions_good g.S.Suite.crypto c.args.self.now c.send_and_keep.new.self c.args.extensions c.send_and_keep.result good (subst (λ (l : List Extension). are_allowed l ≡ true) c.as_slice-entries.ensures.entries c.as_slice-entries.ensures.allowed)
    (not_gone c.args.self.now _ c.self.view_is c.if-self.false) c.send_and_keep.ensures
