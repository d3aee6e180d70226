use Rattle.std.proofs.Common.{sym, subst}
use Rattle.std.specs.Prelude.{IfSome}
use Rattle.mls_checks.specs.Short.{IsShort}
use Rattle.mls_types.specs.GroupInfo.{ratchet_tree}
use Rattle.mls_cli_place.proofs.Short.{short_id, short_parts, some_nodes}
use Rattle.mls_cli_place.proofs.sent.breach_in_info.Goals as goal

pub breach_in_nodes-requires-clause-short : goal.breach_in_nodes-requires-clause-short
breach_in_nodes-requires-clause-short g c =
    subst (λ o. IfSome o (λ v. IsShort ratchet_tree v)) (sym c.as_ref-nodes.ensures.value) (some_nodes c.args.info.now.ratchet_tree (short_parts c.args.info.now c.requires).nodes)

pub breach_in_nodes-requires-clause-group : goal.breach_in_nodes-requires-clause-group
breach_in_nodes-requires-clause-group g c =
    rw c.as_slice-group_id.ensures (short_id c.args.info.now.group_context (short_parts c.args.info.now c.requires).context)

pub breach_in_nodes-requires-then-suite-NUMBER-2-clause-short : goal.breach_in_nodes-requires-then-suite-NUMBER-2-clause-short
breach_in_nodes-requires-then-suite-NUMBER-2-clause-short g c =
    subst (λ o. IfSome o (λ v. IsShort ratchet_tree v)) (sym c.as_ref-nodes.ensures.value) (some_nodes c.args.info.now.ratchet_tree (short_parts c.args.info.now c.requires).nodes)

pub breach_in_nodes-requires-then-suite-NUMBER-2-clause-group : goal.breach_in_nodes-requires-then-suite-NUMBER-2-clause-group
breach_in_nodes-requires-then-suite-NUMBER-2-clause-group g c =
    rw c.as_slice-group_id.ensures (short_id c.args.info.now.group_context (short_parts c.args.info.now c.requires).context)
