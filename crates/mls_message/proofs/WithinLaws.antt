-- How long a member's texts are.
use Rattle.std.proofs.Common.{◌≡◌, ℕ, ◌<◌, ◌≤◌, ◌^◌, List, ◌++◌, length, Ok, refl, sym, subst, arith, lit<, length-append}
use Rattle.std.specs.Int.{w8, w16, w64}
use Rattle.mls_wire.specs.Format.{IsBytes}
use Rattle.mls_wire.specs.Reading.{uint, header, opaque}
use Rattle.mls_leaf.specs.Limits.{input_limit}
use Rattle.mls_leaf.specs.Proposal.{proposal}
use Rattle.mls_leaf.specs.declared.proposal.Proposal.{Proposal}
use Rattle.mls_types.specs.GroupContext.{group_context}
use Rattle.mls_types.specs.declared.group_context.GroupContext.{GroupContext}
use Rattle.mls_types.specs.Content.{sender, content, framed_content}
use Rattle.mls_types.specs.SignedParts.{with_signature, TagFits, body_with_tag}
use Rattle.mls_types.proofs.SignedParts.{framed_signed_with, signed_content_fits}
use Rattle.mls_types.specs.Signed.{signed_content}
use Rattle.mls_types.specs.Signing.{signed_pieces}
use Rattle.mls_types.specs.declared.content.Content.{Content}
use Rattle.mls_types.specs.declared.content.Content.TheVariants as says
use Rattle.mls_types.specs.declared.content.FramedContent.{FramedContent}
use Rattle.mls_types.specs.declared.content.Sender.TheVariants as by
use Rattle.mls_public_group.proofs.Lengths.{first_within, last_within, length-uint16, context_length}
use Rattle.mls_public_group.proofs.Limits.{within_limit}
use Rattle.mls_public_group.specs.Short.{IsShortContext}
use Rattle.mls_public_group.specs.MessageLimit.{FitsIfShort, limited_text}

-- ---- texts within the limit

-- code's bytes are within the limit, if there aren't more
pub limited_within : (bytes : List ℕ) → IsBytes bytes → length bytes ≤ input_limit → limited_text bytes ≡ Ok bytes
limited_within bytes h le = rw (within_limit bytes h le) refl

-- ---- what is signed

-- what is signed of a content within the limit, under a short context, has fewer than 2^30 bytes
pub signed_short : (said : List ℕ) (v : GroupContext) → length said ≤ input_limit → IsShortContext v → length (signed_pieces said (group_context.spell v)) < 2 ^ 30
signed_short said v le s =
    let context : List ℕ = group_context.spell v in
    omega (
      arith,
      context_length v s.group_id s.tree_hash s.confirmed,
      length-uint16 1,
      length-append (uint w16 1) (uint w16 1),
      length-append (uint w16 1 ++ uint w16 1) said,
      length-append (uint w16 1 ++ uint w16 1 ++ said) context,
    )

-- ---- what has a spelling

tag_fits : (x : Content) (tag : List ℕ) → length tag < 2 ^ 30 → TagFits (body_with_tag x tag)
tag_fits (says.Application text) tag lt = tt
tag_fits (says.Proposal made) tag lt = tt
tag_fits (says.Commit made) tag lt = lt

-- a signed content has one, if its content has
pub signed_fits : (v : FramedContent) (signature tag : List ℕ) → framed_content.Fits v → length signature < 2 ^ 30 → length tag < 2 ^ 30 → signed_content.Fits (with_signature v signature tag)
signed_fits v signature tag f s t =
    signed_content_fits (with_signature v signature tag) (subst framed_content.Fits (sym (framed_signed_with v signature tag)) f) (s, tag_fits v.content tag t)

-- what a member says has one, if it is short
pub said_fits : (group : List ℕ) (at leaf : ℕ) (more : List ℕ) (x : Content) → at < 2 ^ 64 → leaf < 2 ^ 32 → FitsIfShort content x →
    let s : FramedContent = record { group_id = group; epoch = at; sender = by.Member leaf; authenticated_data = more; content = x } in FitsIfShort framed_content s
unfolding framed_content sender
said_fits group at leaf more x a l fits lt =
    let t3 : List ℕ = opaque more ++ content.spell x in
    let t2 : List ℕ = sender.spell (by.Member leaf) ++ t3 in
    let t1 : List ℕ = uint w64 at ++ t2 in
    let g : length group < 2 ^ 30 = omega (arith, lt, first_within (opaque group) t1, last_within (header (length group)) group) in
    let d : length t3 < 2 ^ 30 = omega (arith, lt, last_within (opaque group) t1, last_within (uint w64 at) t2, last_within (sender.spell (by.Member leaf)) t3) in
    let b : length more < 2 ^ 30 = omega (arith, d, first_within (opaque more) (content.spell x), last_within (header (length more)) more) in
    let c : length (content.spell x) < 2 ^ 30 = omega (arith, d, last_within (opaque more) (content.spell x)) in
    (g, (a, ((lit< tt, l), (b, fits c))))

-- a proposal as a content has one, if it has one where it is short
pub proposal_fits : (x : Proposal) → FitsIfShort proposal x → FitsIfShort content (says.Proposal x)
unfolding content
proposal_fits x fits lt = (lit< tt, fits (omega (arith, lt, last_within (uint w8 2) (proposal.spell x))))
