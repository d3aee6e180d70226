use Rattle.mls_message.proofs.WithinLaws.{signed_fits}
use Rattle.mls_message.proofs.framed.Framed.with_signature.Goals as goal

pub returns-clause-fits : goal.returns-clause-fits
returns-clause-fits c =
    rw (c.new.ensures, c.into_inner.ensures, c.from_vec.ensures, c.from_vec-2.ensures) (signed_fits c.self.inside.content.value c.args.signature.items c.args.confirmation_tag.items c.self.invariant.1 c.requires.signature c.requires.tag)
