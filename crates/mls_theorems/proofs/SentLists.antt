-- What a commit call listed in full has a spelling, since its message is within the limit.
use Rattle.std.proofs.Common.{ℕ, ◌<◌, ◌≤◌, ◌^◌, List, [], ◌∷◌, ◌++◌, length, subst, arith}
use Rattle.std.specs.Int.{w8, w16, w64}
use Rattle.std.specs.List.{flat_map, AllByRecursion}
use Rattle.mls_wire.specs.Reading.{uint, opaque}
use Rattle.mls_leaf.specs.Limits.{input_limit}
use Rattle.mls_types.specs.Commit.{proposal_or_ref, commit}
use Rattle.mls_types.specs.Content.{sender, content, framed_content}
use Rattle.mls_types.specs.Message.{mls_message}
use Rattle.mls_types.specs.PublicMessage.{public_message}
use Rattle.mls_types.specs.Signed.{signed_content}
use Rattle.mls_types.specs.SignedParts.{with_signature}
use Rattle.mls_types.proofs.SignedParts.{signed_content_spelled}
use Rattle.mls_types.specs.declared.commit.Commit.{Commit}
use Rattle.mls_types.specs.declared.commit.ProposalOrRef.{ProposalOrRef}
use Rattle.mls_types.specs.declared.content.Content.TheVariants as says
use Rattle.mls_types.specs.declared.content.FramedContent.{FramedContent}
use Rattle.mls_types.specs.declared.content.Sender.TheVariants as by
use Rattle.mls_types.specs.declared.message.MlsMessage.TheVariants as message
use Rattle.mls_types.specs.declared.public_message.PublicMessage.{PublicMessage}
use Rattle.mls_types.specs.declared.signed.SignedContent.{SignedContent}
use Rattle.mls_suite.specs.Crypto.{Crypto}
use Rattle.mls_model.specs.Commit.{Change}
use Rattle.mls_model.specs.Make.{MadePath}
use Rattle.mls_model.specs.Member.{Member}
use Rattle.mls_model.specs.Messages.{content_by, content_tag}
use Rattle.mls_theorems.specs.CommitCalls.{commit_of, said_of, signature_of, tag_of, content_of, message_of}
use Rattle.mls_theorems.specs.SentCommits.{ListedFitsIfShort, MadeListsFit, sent_of}
use Rattle.mls_theorems.proofs.Fit.{short_first, short_last, short_text}
use Rattle.mls_theorems.proofs.Makes.{make_did}
use Rattle.mls_theorems.proofs.Sent.{message_is, within_is}

-- ---- how short the parts of a short message are

message_short : (v : SignedContent) (tag : List ℕ) → length (mls_message.spell (message.PublicMessage (record { content = v; membership_tag = tag }))) < 2 ^ 30 → length (signed_content.spell v) < 2 ^ 30
unfolding mls_message public_message
message_short v tag lt =
    let t1 : List ℕ = signed_content.spell v ++ opaque tag in
    let t2 : List ℕ = uint w16 1 ++ t1 in
    let l2 : length t2 < 2 ^ 30 = short_last (uint w16 1) t2 _ lt in
    let l1 : length t1 < 2 ^ 30 = short_last (uint w16 1) t1 _ l2 in
    short_first (signed_content.spell v) (opaque tag) _ l1

content_short : (group : List ℕ) (at leaf : ℕ) (x : Commit) (signature tag : List ℕ) →
    let s : FramedContent = record { group_id = group; epoch = at; sender = by.Member leaf; authenticated_data = []; content = says.Commit x } in
    length (signed_content.spell (with_signature s signature tag)) < 2 ^ 30 → length (commit.spell x) < 2 ^ 30
unfolding framed_content content sender
content_short group at leaf x signature tag lt =
    let s : FramedContent = record { group_id = group; epoch = at; sender = by.Member leaf; authenticated_data = []; content = says.Commit x } in
    let both : length (framed_content.spell s ++ (opaque signature ++ opaque tag)) < 2 ^ 30 = subst (λ (z : List ℕ). length z < 2 ^ 30) (signed_content_spelled (with_signature s signature tag)) lt in
    let t4 : List ℕ = uint w8 3 ++ commit.spell x in
    let t3 : List ℕ = opaque [] ++ t4 in
    let t2 : List ℕ = sender.spell (by.Member leaf) ++ t3 in
    let t1 : List ℕ = uint w64 at ++ t2 in
    let l0 : length (framed_content.spell s) < 2 ^ 30 = short_first (framed_content.spell s) (opaque signature ++ opaque tag) _ both in
    let l1 : length t1 < 2 ^ 30 = short_last (opaque group) t1 _ l0 in
    let l2 : length t2 < 2 ^ 30 = short_last (uint w64 at) t2 _ l1 in
    let l3 : length t3 < 2 ^ 30 = short_last (sender.spell (by.Member leaf)) t3 _ l2 in
    let l4 : length t4 < 2 ^ 30 = short_last (opaque []) t4 _ l3 in
    short_last (uint w8 3) (commit.spell x) _ l4

list_short : (x : Commit) → length (commit.spell x) < 2 ^ 30 → length (flat_map proposal_or_ref.spell x.proposals) < 2 ^ 30
unfolding commit
list_short x lt = short_text _ _ (short_first _ _ _ lt)

all_listed : (xs : List ProposalOrRef) → AllByRecursion ListedFitsIfShort xs → length (flat_map proposal_or_ref.spell xs) < 2 ^ 30 → AllByRecursion proposal_or_ref.Fits xs
all_listed [] h lt = tt
all_listed (x ∷ xs) h lt = (h.0 (short_first _ _ _ lt), all_listed xs h.1 (short_last _ _ _ lt))

-- ---- the whole

said_short : (c : Crypto) (m : Member) (list : List ProposalOrRef) (path : MadePath) (change : Change) → length (signed_content.spell (content_of c m list path change)) < 2 ^ 30 → length (commit.spell (commit_of list path)) < 2 ^ 30
unfolding content_of said_of content_by
said_short c m list path change lt =
    content_short m.public.context.group_id m.public.context.epoch m.keys.leaf (commit_of list path) (signature_of c m list path) (tag_of m path change) lt

listed_short : (c : Crypto) (m : Member) (list : List ProposalOrRef) (path : MadePath) (change : Change) → length (message_of c m list path change) ≤ input_limit → length (flat_map proposal_or_ref.spell list) < 2 ^ 30
unfolding sent_of commit_of
listed_short c m list path change le =
    let short : length (mls_message.spell (message.PublicMessage (sent_of c m list path change))) ≤ input_limit = subst (λ (b : List ℕ). length b ≤ input_limit) (message_is c m list path change) le in
    list_short (commit_of list path) (said_short c m list path change (message_short (content_of c m list path change) (content_tag m.epoch_secret (content_of c m list path change) m.public.context) (omega (arith, short))))

pub lists_fit : MadeListsFit
lists_fit c m list wants_path seed made fits h =
    let did = make_did c m list wants_path seed made h in
    all_listed list fits (listed_short c m list did.path did.change (within_is _ did.short))
