use Rattle.mls_model.specs.Welcome.{unsigned_info}
use Rattle.mls_welcome.proofs.Fitting.{info_fit}
use Rattle.mls_welcome.proofs.Measured.{signed_is, ranged_by}
use Rattle.mls_welcome.proofs.info.signed_info.Goals as goal

pub spell_within_limit-requires : goal.spell_within_limit-requires
spell_within_limit-requires g c = info_fit _ (ranged_by c.in_ok-info.info c.in_ok-info-2.field-0 c.in_ok-info.ensures.ranged)

pub returns : goal.returns
returns g c =
    rw (signed_is g.S.Suite.crypto c.args.signing.now (unsigned_info c.args.group.now c.args.confirmation_tag.now c.args.signer) c.in_ok-info.info c.in_ok-info-2.field-0 c.in_ok-info.ensures.info c.in_ok-info-2.ensures.signature)
    c.spell_within_limit.ensures
