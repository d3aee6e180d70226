-- The format of signed contents: a framed content and its FramedContentAuthData (RFC 9420, 6 and 6.1).
-- There is a confirmation tag only where the content is a commit: so the cases go over all fields from the content's
-- type on.
use Rattle.std.specs.Prelude.{◌≡◌, ℕ, List, refl}
use Rattle.std.proofs.Common.{◌⊎◌, inl, inr}
use Rattle.mls_wire.specs.Format.{Format}
use Rattle.mls_wire.specs.Combine.{◌⨾◌, image, case, others, by_uint8, byte_string, uint64}
use Rattle.mls_wire.specs.CombineReads.{IsNonempty}
use Rattle.mls_leaf.specs.Nonempty.{byte_string_nonempty, first_nonempty}
use Rattle.mls_leaf.specs.Proposal.{proposal}
use Rattle.mls_leaf.specs.declared.proposal.Proposal as proposals
use Rattle.mls_types.specs.Commit.{commit}
use Rattle.mls_types.specs.Content.{sender}
use Rattle.mls_types.specs.declared.commit.Commit as commits
use Rattle.mls_types.specs.declared.signed.SignedBody.{SignedBody}
use Rattle.mls_types.specs.declared.signed.SignedBody.TheVariants.{Application, Proposal, Commit}
use Rattle.mls_types.specs.declared.signed.SignedContent.{SignedContent}

-- ---- from the content's type on

-- what is said, with a commit's tag, and the signature
abbrev pub Tail : Type 0
Tail = SignedBody × List ℕ

-- the fields behind each content type
abbrev pub Tails : Type 0
Tails = (List ℕ × List ℕ) ⊎ ((proposals.Proposal × List ℕ) ⊎ ((commits.Commit × (List ℕ × List ℕ)) ⊎ ⊥))

-- what is said and the signature, of the fields behind the type
abbrev pub make_tail : Tails → Tail
make_tail (inl x) = (Application x.0, x.1)
make_tail (inr (inl x)) = (Proposal x.0, x.1)
make_tail (inr (inr (inl x))) = (Commit x.0 x.1.1, x.1.0)
make_tail (inr (inr (inr x))) = absurd x

-- the fields behind the type, of what is said and of the signature
abbrev pub tail_of : SignedBody → List ℕ → Tails
tail_of (Application data_bytes) signature = inl (data_bytes, signature)
tail_of (Proposal made) signature = inr (inl (made, signature))
tail_of (Commit made tag) signature = inr (inr (inl (made, (signature, tag))))

-- the fields behind the type, of both as one value
abbrev pub tail_parts : Tail → Tails
tail_parts v = tail_of v.0 v.1

-- what is said and the signature, as one value
abbrev tail_at : SignedBody → List ℕ → Tail
tail_at body signature = (body, signature)

there_at : (body : SignedBody) (signature : List ℕ) → make_tail (tail_of body signature) ≡ tail_at body signature
there_at (Application data_bytes) signature = refl
there_at (Proposal made) signature = refl
there_at (Commit made tag) signature = refl

pub tail_there : (v : Tail) → make_tail (tail_parts v) ≡ v
tail_there v = there_at v.0 v.1

pub tail_back : (x : Tails) → tail_parts (make_tail x) ≡ x
tail_back (inl x) = refl
tail_back (inr (inl x)) = refl
tail_back (inr (inr (inl x))) = refl
tail_back (inr (inr (inr x))) = absurd x

-- (RFC 9420, 6 and 6.1) uint8 content type, then 1: application data<V>, signature<V>; 2: Proposal, signature<V>;
-- 3: Commit, signature<V>, confirmation_tag<V>; another type is `BadTag` (7)
unfoldable pub signed_tail : Format Tail
signed_tail = image
    (by_uint8 (case 1 (byte_string ⨾ byte_string) (case 2 (proposal ⨾ byte_string)
    (case 3 (commit ⨾ byte_string ⨾ byte_string) (others 7)))))
    make_tail tail_parts tail_there (λ x _. tail_back x)

-- FramedContent, FramedContentAuthData (RFC 9420, 6 and 6.1): group_id<V>, uint64 epoch, Sender, authenticated_data<V>,
-- then the content from its type on
unfoldable pub signed_content : Format SignedContent
signed_content = image (byte_string ⨾ uint64 ⨾ sender ⨾ byte_string ⨾ signed_tail)
    (λ x. record { group_id = x.0; epoch = x.1.0; sender = x.1.1.0; authenticated_data = x.1.1.1.0; body = x.1.1.1.1.0; signature = x.1.1.1.1.1 })
    (λ v. (v.group_id, (v.epoch, (v.sender, (v.authenticated_data, (v.body, v.signature))))))
    (λ v. refl) (λ x _. refl)

pub signed_content_nonempty : IsNonempty signed_content
unfolding signed_content
signed_content_nonempty v fits = first_nonempty byte_string (uint64 ⨾ sender ⨾ byte_string ⨾ signed_tail) byte_string_nonempty (v.group_id, (v.epoch, (v.sender, (v.authenticated_data, (v.body, v.signature))))) fits
