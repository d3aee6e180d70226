-- A proposal is short where its KeyPackage or its leaf is.
use Rattle.std.proofs.Common.{ℕ, ◌-◌, ◌<◌, ◌^◌, arith, lit<, length-append}
use Rattle.std.specs.Int.{w16}
use Rattle.mls_wire.specs.Reading.{uint}
use Rattle.mls_leaf.specs.KeyPackage.{key_package}
use Rattle.mls_leaf.specs.Leaf.{leaf_node}
use Rattle.mls_leaf.specs.Proposal.{proposal as proposal_format}
use Rattle.mls_leaf.specs.declared.key_package.KeyPackage.{KeyPackage}
use Rattle.mls_leaf.specs.declared.leaf.LeafNode.{LeafNode}
use Rattle.mls_leaf.specs.declared.proposal.Proposal.{Proposal}
use Rattle.mls_leaf.specs.declared.proposal.Proposal.TheVariants.{Add, Update, Remove, GroupContextExtensions}
use Rattle.mls_public_group.proofs.Lengths.{length-uint16}
use Rattle.mls_public_group.specs.Short.{IsBelow}
use Rattle.mls_public_group.specs.ShortProposal.{IsShortProposal}

pub add_short : (x : KeyPackage) → IsBelow (2 ^ 28 - 2) key_package x → IsBelow (2 ^ 28) proposal_format (Add x)
unfolding proposal_format
add_short x h = record { fits = (lit< tt, h.fits); below = omega (arith, h.below, length-append (uint w16 1) (key_package.spell x), length-uint16 1) }

pub update_short : (x : LeafNode) → IsBelow (2 ^ 28 - 2) leaf_node x → IsBelow (2 ^ 28) proposal_format (Update x)
unfolding proposal_format
update_short x h = record { fits = (lit< tt, h.fits); below = omega (arith, h.below, length-append (uint w16 2) (leaf_node.spell x), length-uint16 2) }

pub removal_short : (leaf : ℕ) → leaf < 2 ^ 32 → IsBelow (2 ^ 28) proposal_format (Remove leaf)
unfolding proposal_format uint
removal_short leaf lt = record { fits = (lit< tt, lt); below = lit< tt }

-- and only there
pub short_parts : (x : Proposal) → IsBelow (2 ^ 28) proposal_format x → IsShortProposal x
unfolding proposal_format
short_parts (Add x) h = record { fits = h.fits.1; below = omega (arith, h.below, length-append (uint w16 1) (key_package.spell x), length-uint16 1) }
short_parts (Update x) h = record { fits = h.fits.1; below = omega (arith, h.below, length-append (uint w16 2) (leaf_node.spell x), length-uint16 2) }
short_parts (Remove leaf) h = tt
short_parts (GroupContextExtensions x) h = tt
