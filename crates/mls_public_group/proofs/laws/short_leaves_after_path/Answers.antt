use Rattle.mls_public_group.proofs.Leaves.{below_merge_path}
use Rattle.mls_public_group.proofs.laws.short_leaves_after_path.Goals as goal

pub returns : goal.returns
returns c = λ n t i x keys short q. below_merge_path n t i x keys short q
