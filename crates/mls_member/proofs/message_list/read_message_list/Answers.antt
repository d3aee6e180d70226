use Rattle.std.proofs.Common.{rules, arith}
use Rattle.mls_member.proofs.ContentLaws.{public_of, short_public}
use Rattle.mls_member.proofs.ListedProposals.{public_reads, public_passes, other_lists, no_list}
use Rattle.mls_member.proofs.message_list.read_message_list.Goals as goal

pub returns-in_err-view-clause-list : goal.returns-in_err-view-clause-list
returns-in_err-view-clause-list c = let e = (no_list c.args.bytes.now _ c.in_err-view.ensures.read).0 in rw e (search rules)

pub returns-in_err-view-clause-outright : goal.returns-in_err-view-clause-outright
returns-in_err-view-clause-outright c = let e = (no_list c.args.bytes.now _ c.in_err-view.ensures.read).1 in rw e (search rules)

pub read_view_list-requires : goal.read_view_list-requires
read_view_list-requires c = short_public c.args.bytes.now _ (λ i. omega (arith, c.type_inv.bytes i)) (public_of _ _ _ c.in_ok-view.ensures.read c.in-PublicMessage.is)

pub returns-in-PublicMessage-clause-list : goal.returns-in-PublicMessage-clause-list
returns-in-PublicMessage-clause-list c = public_reads c.args.bytes.now _ _ (public_of _ _ _ c.in_ok-view.ensures.read c.in-PublicMessage.is) c.read_view_list.ensures.list

pub returns-in-PublicMessage-clause-outright : goal.returns-in-PublicMessage-clause-outright
returns-in-PublicMessage-clause-outright c = λ n e. absurd (public_passes c.args.bytes.now _ n (public_of _ _ _ c.in_ok-view.ensures.read c.in-PublicMessage.is) e)

pub returns-in_default : goal.returns-in_default
returns-in_default c =
    let both = other_lists c.args.bytes.now _ c.in_ok-view.ensures.read c.in_default.not-PublicMessage in
    record { list = λ _. both.0; outright = λ n e. cc (e, both.1); short = tt }
