use Rattle.std.proofs.Common.{rules, arith}
use Rattle.mls_member.proofs.ContentLaws.{public_of, short_public}
use Rattle.mls_world_plain.proofs.Readings.{no_message, public_reference, no_reference}
use Rattle.mls_world_plain.proofs.sources.read_reference.Goals as goal

pub returns-in_err-view : goal.returns-in_err-view
returns-in_err-view c = let e = (no_message c.args.bytes.now _ c.in_err-view.ensures.read).1 in rw e (search rules)

pub reference_in-requires : goal.reference_in-requires
reference_in-requires c = short_public c.args.bytes.now _ (λ i. omega (arith, c.type_inv.bytes i)) (public_of _ _ _ c.in_ok-view.ensures.read c.in-PublicMessage.is)

pub returns-in-PublicMessage : goal.returns-in-PublicMessage
returns-in-PublicMessage c =
    let p = public_of c.args.bytes.now _ c.in-PublicMessage.view c.in_ok-view.ensures.read c.in-PublicMessage.is in
    rw (public_reference c.args.bytes.now c.in-PublicMessage.view p) (c.reference_in.ensures p.shown p.shows)

pub returns-in_default : goal.returns-in_default
returns-in_default c = no_reference c.args.bytes.now _ c.in_ok-view.ensures.read c.in_default.not-PublicMessage
