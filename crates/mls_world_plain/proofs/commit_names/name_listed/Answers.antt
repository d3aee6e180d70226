use Rattle.std.specs.Option.{option_copied}
use Rattle.mls_world_plain.proofs.Naming.{nothing_named, proposal_named, reference_named}
use Rattle.mls_world_plain.proofs.commit_names.name_listed.Goals as goal

pub returns-then-not-is_reference : goal.returns-then-not-is_reference
returns-then-not-is_reference g c = λ x spells. nothing_named c.args.member.now.kept x (c.if-not-is_reference.ensures x spells)

pub returns-in-Proposal : goal.returns-in-Proposal
returns-in-Proposal g c = λ x spells. proposal_named c.args.member.now.kept _ x (c.in-Proposal.ensures x spells)

pub returns-in-Reference : goal.returns-in-Reference
returns-in-Reference g c = λ x spells. reference_named c.args.member.now c.in-Reference.reference (option_copied c.kept_message.result) x (c.in-Reference.ensures x spells) c.kept_message.ensures
