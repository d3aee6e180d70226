use Rattle.std.proofs.Common.{◌≡◌, ◌<◌, ◌^◌, ℕ, List, true, subst}
use Rattle.std.specs.Prelude.{slice_index}
use Rattle.mls_leaf.specs.Parent.{rises}
use Rattle.mls_welcome.proofs.Fitting.{parent_fit}
use Rattle.mls_welcome.proofs.ranges.know_parent.Goals as goal

pub returns : goal.returns
returns c =
    let same = c.unmerged_leaves.ensures.entries in
    parent_fit c.args.parent.now
    (subst (λ (xs : List ℕ). rises xs ≡ true) same c.unmerged_leaves.ensures.rise)
    (subst (λ (xs : List ℕ). (i : ℕ) → slice_index xs i < 2 ^ 32) same c.know_indices.ensures)
