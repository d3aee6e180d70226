-- The parts of a commit are short.
use Rattle.std.proofs.Common.{ℕ, ◌≤◌, ◌^◌, List, [], ◌∷◌, length, Option, Some, None, subst, arith}
use Rattle.std.specs.Prelude.{IfSome}
use Rattle.std.specs.List.{flat_map, AllByRecursion}
use Rattle.std.specs.Int.{w8}
use Rattle.mls_wire.specs.Reading.{uint}
use Rattle.mls_wire.specs.Combine.{vector, optional}
use Rattle.mls_leaf.specs.Faults.{Spells}
use Rattle.mls_leaf.specs.Limits.{input_limit}
use Rattle.mls_leaf.specs.Leaf.{leaf_node}
use Rattle.mls_leaf.specs.Proposal.{proposal as proposal_format}
use Rattle.mls_types.specs.declared.update_path.UpdatePath.{UpdatePath}
use Rattle.mls_types.specs.UpdatePath.{update_path}
use Rattle.mls_types.specs.Commit.{proposal_or_ref, proposal_or_ref_nonempty}
use Rattle.mls_types.specs.declared.commit.ProposalOrRef.{ProposalOrRef}
use Rattle.mls_types.specs.declared.commit.ProposalOrRef.TheVariants as listed
use Rattle.mls_public_group.specs.Short.{IsBelow}
use Rattle.mls_make.proofs.Lengths.{front, back, inside}
use Rattle.mls_member.specs.Process.{IsListedBelow}

-- ---- a commit's list

one_below : (x : ProposalOrRef) → proposal_or_ref.Fits x → length (proposal_or_ref.spell x) ≤ input_limit → IsListedBelow (2 ^ 27) x
unfolding proposal_or_ref
one_below (listed.Proposal p) fits h = let short : length (proposal_format.spell p) ≤ input_limit = back (uint w8 1) (proposal_format.spell p) input_limit h in record { fits = fits.1; below = omega arith }
one_below (listed.Reference r) fits h = tt

all_below : (xs : List ProposalOrRef) → AllByRecursion proposal_or_ref.Fits xs → length (flat_map proposal_or_ref.spell xs) ≤ input_limit → AllByRecursion (IsListedBelow (2 ^ 27)) xs
all_below [] fits h = tt
all_below (x ∷ xs) fits h = (one_below x fits.0 (front (proposal_or_ref.spell x) (flat_map proposal_or_ref.spell xs) input_limit h), all_below xs fits.1 (back (proposal_or_ref.spell x) (flat_map proposal_or_ref.spell xs) input_limit h))

-- what a part of an input spells has short proposals
pub list_below : (xs : List ProposalOrRef) (part : List ℕ) → Spells (vector proposal_or_ref proposal_or_ref_nonempty) xs part → length part ≤ input_limit → AllByRecursion (IsListedBelow (2 ^ 27)) xs
list_below xs part spells h =
    all_below xs spells.fits.0 (inside (flat_map proposal_or_ref.spell xs) input_limit (subst (λ (l : List ℕ). length l ≤ input_limit) spells.spelled h))

-- ---- its path

leaf_below : (p : UpdatePath) → update_path.Fits p → length (update_path.spell p) ≤ input_limit → IsBelow (2 ^ 27) leaf_node p.leaf_node
unfolding update_path
leaf_below p fits h = let short : length (leaf_node.spell p.leaf_node) ≤ input_limit = front (leaf_node.spell p.leaf_node) _ input_limit h in record { fits = fits.0; below = omega arith }

path_fits_below : (o : Option UpdatePath) → (optional update_path).Fits o → length ((optional update_path).spell o) ≤ input_limit → IfSome o (λ p. IsBelow (2 ^ 27) leaf_node p.leaf_node)
path_fits_below None fits h = tt
path_fits_below (Some p) fits h = leaf_below p fits.1 (back (uint w8 1) (update_path.spell p) input_limit h)

pub path_below : (o : Option UpdatePath) (part : List ℕ) → Spells (optional update_path) o part → length part ≤ input_limit → IfSome o (λ p. IsBelow (2 ^ 27) leaf_node p.leaf_node)
path_below o part spells h = path_fits_below o spells.fits (subst (λ (l : List ℕ). length l ≤ input_limit) spells.spelled h)

-- ---- wider limits

pub path_wider : (o : Option UpdatePath) → IfSome o (λ p. IsBelow (2 ^ 27) leaf_node p.leaf_node) → IfSome o (λ p. IsBelow (2 ^ 28) leaf_node p.leaf_node)
path_wider None h = tt
path_wider (Some p) h = record { fits = h.fits; below = omega (arith, h.below) }
