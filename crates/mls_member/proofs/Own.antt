-- Own proposals are short.
use Rattle.std.proofs.Common.{◌≡◌, ℕ, ◌+◌, ◌<◌, ◌≤◌, ◌^◌, true, List, [], ◌++◌, length, Ok, Err, refl, sym, ap, subst, arith, lit<, length-append}
use Rattle.std.specs.Prelude.{is_some}
use Rattle.std.specs.Int.{w16}
use Rattle.mls_wire.specs.Checks.{passed, require}
use Rattle.mls_wire.specs.Reading.{uint, opaque}
use Rattle.mls_leaf.specs.GroupExtensions.{are_allowed, group_extensions}
use Rattle.mls_leaf.proofs.GroupExtensionsLaws.{group_extensions-fits}
use Rattle.mls_leaf.specs.Inputs.{leaf_content}
use Rattle.mls_leaf.proofs.InputLaws.{leaf_node-spelled}
use Rattle.mls_leaf.specs.KeyPackage.{key_package as package_format}
use Rattle.mls_leaf.specs.Leaf.{leaf_node}
use Rattle.mls_leaf.specs.Limits.{input_limit}
use Rattle.mls_leaf.specs.Proposal.{proposal as proposal_format}
use Rattle.mls_leaf.specs.declared.extension.Extension.{Extension}
use Rattle.mls_leaf.specs.declared.key_package.KeyPackage.{KeyPackage}
use Rattle.mls_leaf.specs.declared.leaf.LeafNode.{LeafNode}
use Rattle.mls_leaf.specs.declared.leaf.LeafSource.TheVariants as leaf_node_source
use Rattle.mls_leaf.specs.declared.proposal.Proposal.{Proposal}
use Rattle.mls_leaf.specs.declared.proposal.Proposal.TheVariants.{Add, Update, Remove, GroupContextExtensions}
use Rattle.mls_types.specs.Content.{framed_content}
use Rattle.mls_types.specs.SignedParts.{framed_content_of, auth_data, with_signature}
use Rattle.mls_types.proofs.SignedParts.{framed_signed_with}
use Rattle.mls_types.specs.declared.content.Content.TheVariants as says
use Rattle.mls_types.specs.declared.content.FramedContent.{FramedContent}
use Rattle.mls_types.specs.declared.signed.SignedContent.{SignedContent}
use Rattle.mls_suite.specs.Crypto.{Crypto, Lawful}
use Rattle.mls_suite.proofs.LabelLaws.{signs_short}
use Rattle.mls_tree_model.specs.Term.{leaf_of}
use Rattle.mls_public_group.proofs.Lengths.{opaque_most}
use Rattle.mls_public_group.proofs.Limits.{length_within}
use Rattle.mls_public_group.specs.MessageLimit.{FitsIfShort}
use Rattle.mls_public_group.specs.Short.{IsBelow}
use Rattle.mls_model.specs.Candidate.{leaf_key_of, unsigned_leaf, signed_leaf}
use Rattle.mls_model.specs.Member.{Member}
use Rattle.mls_model.specs.Messages.{require_within_limit, content_by, content_signature, content_tag, message_by}
use Rattle.mls_model.specs.Propose.{proposal_by, updated_leaf}
use Rattle.mls_candidate.specs.Short.{IsShortLeaf}
use Rattle.mls_candidate.proofs.LengthLaws.{content_most}
use Rattle.mls_candidate.proofs.LeafLaws.{renewed_short, update_fits}
use Rattle.mls_make.proofs.Lengths.{front, content_inside}
use Rattle.mls_member.proofs.LengthLaws.{signed_parts, proposal_inside}

-- ---- by their messages

-- a content is no longer than its message
content_within : (m : Member) (v : SignedContent) → require_within_limit (message_by m v) ≡ Ok passed → length (framed_content.spell (framed_content_of v)) ≤ input_limit
unfolding message_by
content_within m v h = front _ (auth_data v) input_limit (signed_parts (record { content = v; membership_tag = content_tag m.epoch_secret v m.public.context }) input_limit (length_within _ h))

-- nor is a proposal
said_within : (m : Member) (p : Proposal) → length (framed_content.spell (content_by m (says.Proposal p))) ≤ input_limit → length (proposal_format.spell p) ≤ input_limit
unfolding content_by
said_within m p h = proposal_inside p input_limit (content_inside _ input_limit h)

proposal_within : (c : Crypto) (m : Member) (p : Proposal) → require_within_limit (message_by m (proposal_by c m p)) ≡ Ok passed → length (proposal_format.spell p) ≤ input_limit
unfolding proposal_by
proposal_within c m p h =
    let said : FramedContent = content_by m (says.Proposal p) in
    let signature : List ℕ = content_signature c m.signing said m.public.context in
    said_within m p (subst (λ (v : FramedContent). length (framed_content.spell v) ≤ input_limit) (framed_signed_with said signature []) (content_within m (with_signature said signature []) h))

pub own_below : (c : Crypto) (m : Member) (p : Proposal) → FitsIfShort proposal_format p → require_within_limit (message_by m (proposal_by c m p)) ≡ Ok passed → IsBelow (2 ^ 27) proposal_format p
own_below c m p fits h = let within = proposal_within c m p h in record { fits = fits (omega arith); below = omega arith }

-- ---- what has a spelling

pub add_fits : (k : KeyPackage) → package_format.Fits k → proposal_format.Fits (Add k)
unfolding proposal_format
add_fits k fits = (lit< tt, fits)

-- extensions that a group may carry, if that is short
pub extensions_fit : (list : List Extension) → are_allowed list ≡ true → FitsIfShort proposal_format (GroupContextExtensions list)
unfolding proposal_format
extensions_fit list may lt = (lit< tt, group_extensions-fits list may (omega (arith, lt, length-append (uint w16 7) (group_extensions.spell list))))

pub remove_fits : (leaf : ℕ) → leaf < 2 ^ 32 → proposal_format.Fits (Remove leaf)
unfolding proposal_format
remove_fits leaf lt = (lit< tt, lt)

-- ---- updates

update_spelled : (v : LeafNode) → proposal_format.spell (Update v) ≡ uint w16 2 ++ leaf_node.spell v
unfolding proposal_format
update_spelled v = refl

two : length (uint w16 2) ≡ 2
unfolding uint
two = refl

-- a leaf of short parts, once it is signed, has far fewer bytes than 2^28
signed_length : (v : LeafNode) (signature : List ℕ) → IsShortLeaf v → length signature < 2 ^ 16 → length (leaf_node.spell (record v { signature = signature })) < 2 ^ 27 + 2 ^ 20
signed_length v signature s lt =
    let w : LeafNode = record v { signature = signature } in
    omega (arith, ap length (leaf_node-spelled w), length-append (leaf_content w) (opaque signature), opaque_most signature, content_most w, s.key, s.owner, s.able_short, s.source_short)

updated_length : (c : Crypto) → Lawful c → (m : Member) (old : LeafNode) (seed : List ℕ) → IsBelow (2 ^ 27) leaf_node old → length (leaf_node.spell (updated_leaf c m old seed)) < 2 ^ 27 + 2 ^ 20
unfolding updated_leaf signed_leaf
updated_length c laws m old seed b =
    signed_length (unsigned_leaf c (c.public (leaf_key_of c seed)) old.signature_key old.credential leaf_node_source.Update) _
    (renewed_short c laws old _ (leaf_key_of c seed) _ _ _ leaf_node_source.Update refl refl refl refl b update_fits tt) (signs_short c laws _ _ _)

-- the update of a short leaf
pub update_short : (c : Crypto) → Lawful c → (m : Member) (old made : LeafNode) (seed : List ℕ) → IsBelow (2 ^ 27) leaf_node old → made ≡ updated_leaf c m old seed → leaf_node.Fits made → IsBelow (2 ^ 28) proposal_format (Update made)
unfolding proposal_format
update_short c laws m old made seed b e fits =
    let most : length (leaf_node.spell made) < 2 ^ 27 + 2 ^ 20 = rw e (updated_length c laws m old seed b) in
    record { fits = (lit< tt, fits); below = omega (arith, ap length (update_spelled made), length-append (uint w16 2) (leaf_node.spell made), two, most) }

-- that nobody is at a leaf, in the state of a member's parts
pub no_leaf_at : (m v : Member) (leaf n : ℕ) → v ≡ m → require 22 (is_some (leaf_of m.public.tree leaf)) ≡ Err n → require 22 (is_some (leaf_of v.public.tree leaf)) ≡ Err n
no_leaf_at m v leaf n same h = subst (λ (x : Member). require 22 (is_some (leaf_of x.public.tree leaf)) ≡ Err n) (sym same) h
