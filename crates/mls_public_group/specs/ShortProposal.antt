-- How long a proposal is that is handed over in full.
use Rattle.std.specs.Prelude.{◌-◌, ◌^◌}
use Rattle.mls_leaf.specs.KeyPackage.{key_package}
use Rattle.mls_leaf.specs.Leaf.{leaf_node}
use Rattle.mls_leaf.specs.declared.proposal.Proposal.{Proposal}
use Rattle.mls_leaf.specs.declared.proposal.Proposal.TheVariants.{Add, Update, Remove, GroupContextExtensions}
use Rattle.mls_public_group.specs.Short.{IsBelow}

-- the KeyPackage of an add and the leaf of an update encode, with the two bytes of the proposal's type, to fewer than
-- 2^28 bytes; of a removal, which has six, nothing is asked, nor of extensions, whose list may have any length
abbrev pub IsShortProposal : Proposal → Type 0
IsShortProposal (Add offered) = IsBelow (2 ^ 28 - 2) key_package offered
IsShortProposal (Update leaf) = IsBelow (2 ^ 28 - 2) leaf_node leaf
IsShortProposal (Remove leaf) = Unit {0}
IsShortProposal (GroupContextExtensions list) = Unit {0}
