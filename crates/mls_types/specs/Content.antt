-- The formats of senders and framed contents (RFC 9420, 6).
use Rattle.std.specs.Prelude.{◌≡◌, ℕ, List, refl}
use Rattle.std.proofs.Common.{◌⊎◌, inl, inr}
use Rattle.mls_wire.specs.Format.{Format}
use Rattle.mls_wire.specs.Combine.{◌⨾◌, image, case, others, by_uint8, byte_string, uint32, uint64}
use Rattle.mls_wire.specs.CombineReads.{IsNonempty}
use Rattle.mls_leaf.specs.Nonempty.{byte_string_nonempty, first_nonempty, by_uint8_nonempty}
use Rattle.mls_leaf.specs.Proposal.{proposal}
use Rattle.mls_leaf.specs.declared.proposal.Proposal as proposals
use Rattle.mls_types.specs.Commit.{commit}
use Rattle.mls_types.specs.declared.commit.Commit as commits
use Rattle.mls_types.specs.declared.content.Sender.{Sender}
use Rattle.mls_types.specs.declared.content.Sender.TheVariants.{Member}
use Rattle.mls_types.specs.declared.content.Content as contents
use Rattle.mls_types.specs.declared.content.Content.TheVariants.{Application, Proposal, Commit}
use Rattle.mls_types.specs.declared.content.FramedContent.{FramedContent}

-- ---- Sender (RFC 9420, 6)

-- what stands behind each type
abbrev pub Senders : Type 0
Senders = ℕ ⊎ ⊥

-- the sender of what stands behind its type
abbrev pub make_sender : Senders → Sender
make_sender (inl leaf) = Member leaf
make_sender (inr x) = absurd x

-- what stands behind the type of a sender
abbrev pub sender_parts : Sender → Senders
sender_parts (Member leaf) = inl leaf

pub sender_there : (v : Sender) → make_sender (sender_parts v) ≡ v
sender_there (Member leaf) = refl

pub sender_back : (x : Senders) → sender_parts (make_sender x) ≡ x
sender_back (inl leaf) = refl
sender_back (inr x) = absurd x

-- Sender (RFC 9420, 6): uint8 type, then 1 (member): uint32 leaf_index; another type is `BadTag` (7)
unfoldable pub sender : Format Sender
sender = image (by_uint8 (case 1 uint32 (others 7))) make_sender sender_parts sender_there (λ x _. sender_back x)

pub sender_nonempty : IsNonempty sender
unfolding sender
sender_nonempty v fits = by_uint8_nonempty (case 1 uint32 (others 7)) (sender_parts v) fits

-- ---- the content of a FramedContent (RFC 9420, 6)

-- what stands behind each content type
abbrev pub Contents : Type 0
Contents = List ℕ ⊎ (proposals.Proposal ⊎ (commits.Commit ⊎ ⊥))

-- the content of what stands behind its type
abbrev pub make_content : Contents → contents.Content
make_content (inl x) = Application x
make_content (inr (inl x)) = Proposal x
make_content (inr (inr (inl x))) = Commit x
make_content (inr (inr (inr x))) = absurd x

-- what stands behind the type of a content
abbrev pub content_parts : contents.Content → Contents
content_parts (Application x) = inl x
content_parts (Proposal x) = inr (inl x)
content_parts (Commit x) = inr (inr (inl x))

pub content_there : (v : contents.Content) → make_content (content_parts v) ≡ v
content_there (Application x) = refl
content_there (Proposal x) = refl
content_there (Commit x) = refl

pub content_back : (x : Contents) → content_parts (make_content x) ≡ x
content_back (inl x) = refl
content_back (inr (inl x)) = refl
content_back (inr (inr (inl x))) = refl
content_back (inr (inr (inr x))) = absurd x

-- (RFC 9420, 6) uint8 content_type, then 1: application_data<V>; 2: Proposal; 3: Commit; another type is `BadTag` (7)
unfoldable pub content : Format contents.Content
content = image (by_uint8 (case 1 byte_string (case 2 proposal (case 3 commit (others 7)))))
    make_content content_parts content_there (λ x _. content_back x)

pub content_nonempty : IsNonempty content
unfolding content
content_nonempty v fits = by_uint8_nonempty (case 1 byte_string (case 2 proposal (case 3 commit (others 7)))) (content_parts v) fits

-- ---- FramedContent (RFC 9420, 6)

-- FramedContent (RFC 9420, 6): group_id<V>, uint64 epoch, Sender, authenticated_data<V>, the content behind its type
unfoldable pub framed_content : Format FramedContent
framed_content = image (byte_string ⨾ uint64 ⨾ sender ⨾ byte_string ⨾ content)
    (λ x. record { group_id = x.0; epoch = x.1.0; sender = x.1.1.0; authenticated_data = x.1.1.1.0; content = x.1.1.1.1 })
    (λ v. (v.group_id, (v.epoch, (v.sender, (v.authenticated_data, v.content)))))
    (λ v. refl) (λ x _. refl)

pub framed_content_nonempty : IsNonempty framed_content
unfolding framed_content
framed_content_nonempty v fits = first_nonempty byte_string (uint64 ⨾ sender ⨾ byte_string ⨾ content) byte_string_nonempty (v.group_id, (v.epoch, (v.sender, (v.authenticated_data, v.content)))) fits
