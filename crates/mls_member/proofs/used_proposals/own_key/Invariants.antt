use Rattle.mls_model.specs.Member.{named_proposals, first_own_key}
use Rattle.mls_member.proofs.Uses.{HasKey}
use Rattle.mls_member.proofs.used_proposals.own_key.Given as goal

abbrev pub invariant-loop-listed : goal.invariant-loop-listed
invariant-loop-listed l = HasKey l.kept l.list l.listed-index (first_own_key (named_proposals l.kept l.list))
