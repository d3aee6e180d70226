use Rattle.std.proofs.Common.{◌∙◌, ap, sym, arith}
use Rattle.mls_model.specs.Messages.{require_within_limit}
use Rattle.mls_theorems.proofs.Offered.{candidate_good}
use Rattle.mls_candidate.proofs.New.{same_keys, long_identity, long_message, made, message_below}
use Rattle.mls_candidate.proofs.candidate.Candidate.new.Goals as goal

pub returns-then-eq-clause-answer : goal.returns-then-eq-clause-answer
returns-then-eq-clause-answer g c = λ _. same_keys g.S.Suite.crypto c.args.identity.now c.args.seed.now c.in_ok-init.init.pk.items c.in_ok-leaf.leaf.pk.items c.eq.result (c.in_ok-init.ensures.public, (c.in_ok-leaf.ensures.public, c.eq.ensures)) c.if-eq.true

pub returns-then-identity-gt-INPUT_LIMIT-clause-answer : goal.returns-then-identity-gt-INPUT_LIMIT-clause-answer
returns-then-identity-gt-INPUT_LIMIT-clause-answer g c =
    λ _. long_identity g.S.Suite.crypto c.args.identity.now c.args.seed.now c.in_ok-init.init.pk.items c.in_ok-leaf.leaf.pk.items c.eq.result (c.in_ok-init.ensures.public, (c.in_ok-leaf.ensures.public, c.eq.ensures)) c.if-eq.false
    (omega (arith, c.if-identity-gt-INPUT_LIMIT.true))

pub returns-then-not-within_limit-clause-answer : goal.returns-then-not-within_limit-clause-answer
returns-then-not-within_limit-clause-answer g c = λ _.
    let low = ap require_within_limit (sym c.deref.ensures.value) ∙ c.within_limit.ensures in
    long_message g.S.Suite.crypto c.args.identity.now c.args.seed.now c.in_ok-init.init.pk.items c.in_ok-leaf.leaf.pk.items c.eq.result (c.in_ok-init.ensures.public, (c.in_ok-leaf.ensures.public, c.eq.ensures)) c.if-eq.false
    c.in_ok-offered.offered c.in_ok-message.message.items c.within_limit.result c.in_ok-offered.ensures.package c.in_ok-message.ensures low c.if-not-within_limit.true

pub invariant_of-result : goal.invariant_of-result
invariant_of-result g c =
    let low = ap require_within_limit (sym c.deref.ensures.value) ∙ c.within_limit.ensures in
    (c.in_ok-message.ensures, message_below c.in_ok-offered.offered c.in_ok-message.message.items c.within_limit.result c.in_ok-offered.ensures.fits c.in_ok-message.ensures low c.if-not-within_limit.false)

pub returns-clause-answer : goal.returns-clause-answer
returns-clause-answer g c =
    let low = ap require_within_limit (sym c.deref.ensures.value) ∙ c.within_limit.ensures in
    made g.S.Suite.crypto c.args.identity.now c.args.seed.now c.in_ok-init.init.pk.items c.in_ok-leaf.leaf.pk.items c.eq.result (c.in_ok-init.ensures.public, (c.in_ok-leaf.ensures.public, c.eq.ensures)) c.if-eq.false
    c.in_ok-offered.offered c.in_ok-message.message.items c.within_limit.result c.in_ok-offered.ensures.package c.in_ok-message.ensures low c.if-not-within_limit.false
    c.in_ok-init.init.sk c.in_ok-leaf.leaf.sk c.sign_seed.result c.in_ok-init.ensures.private c.in_ok-leaf.ensures.private c.sign_seed.ensures

pub returns-clause-good : goal.returns-clause-good
returns-clause-good g c =
    let low = ap require_within_limit (sym c.deref.ensures.value) ∙ c.within_limit.ensures in
    candidate_good g.S.Suite.crypto g.met.S.Suite.lawful c.args.identity.now c.args.seed.now _
    (made g.S.Suite.crypto c.args.identity.now c.args.seed.now c.in_ok-init.init.pk.items c.in_ok-leaf.leaf.pk.items c.eq.result (c.in_ok-init.ensures.public, (c.in_ok-leaf.ensures.public, c.eq.ensures)) c.if-eq.false
    c.in_ok-offered.offered c.in_ok-message.message.items c.within_limit.result c.in_ok-offered.ensures.package c.in_ok-message.ensures low c.if-not-within_limit.false
    c.in_ok-init.init.sk c.in_ok-leaf.leaf.sk c.sign_seed.result c.in_ok-init.ensures.private c.in_ok-leaf.ensures.private c.sign_seed.ensures)
