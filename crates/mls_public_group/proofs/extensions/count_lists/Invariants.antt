use Rattle.std.proofs.Common.{◌≡◌, ◌+◌, ◌≤◌, length, drop}
use Rattle.mls_model.specs.Proposals.{extension_lists}
use Rattle.mls_public_group.proofs.extensions.count_lists.Given as goal

abbrev pub invariant-loop-one : goal.invariant-loop-one
invariant-loop-one l = (l.count + length (extension_lists (drop l.one-index l.used)) ≡ length (extension_lists l.used)) × (l.count ≤ l.one-index)
