use Rattle.mls_cli_text.proofs.Fronts.{front_read}
use Rattle.mls_cli_text.proofs.input.read_up_to.Goals as goal

pub returns-in-Ok-clause-front : goal.returns-in-Ok-clause-front
returns-in-Ok-clause-front g c =
    front_read (λ r. g.R.Read.remaining r.now) c.take-front.result _ c.args.most _ _ c.take-front.ensures.limit c.take-front.ensures.inner c.new-bytes.ensures.items c.in-Ok.ensures.bytes
