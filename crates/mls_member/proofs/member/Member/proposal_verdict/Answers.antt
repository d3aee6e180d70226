use Rattle.std.proofs.Common.{refl, sym, ◌∙◌}
use Rattle.mls_leaf.specs.Proposal.{proposal as proposal_format}
use Rattle.mls_leaf.proofs.WholeLaws.{spells_same}
use Rattle.mls_member.proofs.Known.{known_is, new_does}
use Rattle.mls_member.proofs.member.Member.proposal_verdict.Goals as goal

pub returns-then-is_known : goal.returns-then-is_known
returns-then-is_known g c = λ shown made shows spells. known_is g.S.Suite.crypto c.args.self.now shown.content c.args.bytes.now made _ (c.reference-reference.ensures shown shows) (sym c.is_known.ensures ∙ c.if-is_known.true)

pub returns : goal.returns
returns g c = λ shown made shows spells.
    new_does g.S.Suite.crypto c.args.self.now shown.content c.args.bytes.now made _ _ _ _ _ (c.reference-reference.ensures shown shows) (rw c.sender_leaf-sender.ensures (rw shows.content.sender refl)) (sym c.is_known.ensures ∙ c.if-is_known.false)
    (spells_same proposal_format _ made _ c.in_ok-made.ensures spells) c.keep_proposal.ensures
