use Rattle.std.proofs.Common.{sym, ◌∙◌}
use Rattle.mls_welcome.proofs.Messages.{long_refused, unfit_refused}
use Rattle.mls_welcome.proofs.welcome_message.refusal.Goals as goal

pub returns-then-have_fit_keys : goal.returns-then-have_fit_keys
returns-then-have_fit_keys g c = λ encrypted secrets rnd n le. long_refused g.S.Suite.crypto encrypted secrets rnd n _ g.met.S.Suite.lawful le (sym c.have_fit_keys.ensures ∙ c.if-have_fit_keys.true)

pub returns-else-have_fit_keys : goal.returns-else-have_fit_keys
returns-else-have_fit_keys g c = λ encrypted secrets rnd n le. unfit_refused g.S.Suite.crypto encrypted secrets rnd n _ g.met.S.Suite.lawful (sym c.have_fit_keys.ensures ∙ c.if-have_fit_keys.false)
