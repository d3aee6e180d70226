use Rattle.mls_world_plain.proofs.Naming.{NamesFrom}
use Rattle.mls_world_plain.proofs.commit_names.names_in.Given as goal

abbrev pub invariant-loop-item : goal.invariant-loop-item
invariant-loop-item g l = NamesFrom l.member.kept l.list l.item-index l.names.items
