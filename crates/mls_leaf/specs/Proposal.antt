-- The format of proposals (RFC 9420, 12.1).
use Rattle.std.specs.Prelude.{◌≡◌, ℕ, List, refl}
use Rattle.std.proofs.Common.{◌⊎◌, inl, inr}
use Rattle.mls_wire.specs.Format.{Format}
use Rattle.mls_wire.specs.Combine.{image, case, others, by_uint16, uint32}
use Rattle.mls_wire.specs.CombineReads.{IsNonempty}
use Rattle.mls_leaf.specs.Nonempty.{by_uint16_nonempty}
use Rattle.mls_leaf.specs.Leaf.{leaf_node}
use Rattle.mls_leaf.specs.KeyPackage.{key_package}
use Rattle.mls_leaf.specs.GroupExtensions.{group_extensions}
use Rattle.mls_leaf.specs.declared.leaf.LeafNode.{LeafNode}
use Rattle.mls_leaf.specs.declared.key_package.KeyPackage.{KeyPackage}
use Rattle.mls_leaf.specs.declared.extension.Extension.{Extension}
use Rattle.mls_leaf.specs.declared.proposal.Proposal as declared
use Rattle.mls_leaf.specs.declared.proposal.Proposal.TheVariants.{Add, Update, Remove, GroupContextExtensions}

-- ---- (RFC 9420, section 12.1) uint16 type, then 1: KeyPackage; 2: LeafNode; 3: uint32 removed; 7: Extension<V>

-- what stands behind each type
abbrev pub Proposals : Type 0
Proposals = KeyPackage ⊎ (LeafNode ⊎ (ℕ ⊎ (List Extension ⊎ ⊥)))

-- the proposal of what stands behind its type
abbrev pub proposal_of_parts : Proposals → declared.Proposal
proposal_of_parts (inl x) = Add x
proposal_of_parts (inr (inl x)) = Update x
proposal_of_parts (inr (inr (inl x))) = Remove x
proposal_of_parts (inr (inr (inr (inl x)))) = GroupContextExtensions x
proposal_of_parts (inr (inr (inr (inr x)))) = absurd x

-- what stands behind the type of a proposal
abbrev pub proposal_parts : declared.Proposal → Proposals
proposal_parts (Add x) = inl x
proposal_parts (Update x) = inr (inl x)
proposal_parts (Remove x) = inr (inr (inl x))
proposal_parts (GroupContextExtensions x) = inr (inr (inr (inl x)))

pub proposal_there : (v : declared.Proposal) → proposal_of_parts (proposal_parts v) ≡ v
proposal_there (Add x) = refl
proposal_there (Update x) = refl
proposal_there (Remove x) = refl
proposal_there (GroupContextExtensions x) = refl

pub proposal_back : (x : Proposals) → proposal_parts (proposal_of_parts x) ≡ x
proposal_back (inl x) = refl
proposal_back (inr (inl x)) = refl
proposal_back (inr (inr (inl x))) = refl
proposal_back (inr (inr (inr (inl x)))) = refl
proposal_back (inr (inr (inr (inr x)))) = absurd x

-- Proposal (RFC 9420, 12.1): uint16 type, and what it calls for; another type is `UnsupportedProposal` (12)
unfoldable pub proposal : Format declared.Proposal
proposal = image
    (by_uint16 (case 1 key_package (case 2 leaf_node (case 3 uint32 (case 7 group_extensions (others 12))))))
    proposal_of_parts proposal_parts proposal_there (λ x _. proposal_back x)

pub proposal_nonempty : IsNonempty proposal
unfolding proposal
proposal_nonempty v fits = by_uint16_nonempty (case 1 key_package (case 2 leaf_node (case 3 uint32 (case 7 group_extensions (others 12))))) (proposal_parts v) fits
