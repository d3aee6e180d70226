-- The laws of signed contents: spelled, read and made of their two parts.
use Rattle.std.proofs.Common.{◌≡◌, ℕ, ◌==◌, Bool, true, false, cond, List, [], Result, Ok, Err, refl, sym, ◌∙◌}
use Rattle.std.specs.Int.{w8}
use Rattle.mls_wire.specs.Reading.{◌>>=◌, uint_at, opaque_at}
use Rattle.mls_wire.specs.Format.{Format}
use Rattle.mls_wire.specs.Combine.{◌⨾◌, left_format, right_format, make_left, make_right, no_format, byte_string, uint64}
use Rattle.mls_wire.specs.CombineReads.{next_read, seen_read}
use Rattle.mls_leaf.specs.Proposal.{proposal}
use Rattle.mls_leaf.specs.declared.proposal.Proposal as proposals
use Rattle.mls_types.specs.Commit.{commit}
use Rattle.mls_types.specs.Content.{Contents, make_content, sender, content, framed_content}
use Rattle.mls_types.specs.Signed.{Tail, Tails, make_tail, signed_tail, signed_content}
use Rattle.mls_types.specs.SignedParts.{with_signature}
use Rattle.mls_types.specs.declared.commit.Commit as commits
use Rattle.mls_types.specs.declared.content.Content as contents
use Rattle.mls_types.specs.declared.content.Content.TheVariants.{Application, Proposal, Commit}
use Rattle.mls_types.specs.declared.content.Sender.{Sender}
use Rattle.mls_types.specs.declared.content.FramedContent.{FramedContent}
use Rattle.mls_types.specs.declared.signed.SignedContent.{SignedContent}
use Rattle.mls_types.specs.SignedLaws.{signed_from, SignedContentIsRead}

-- ---- reading

then_seen : {A V C : Type 0} (make : A → V) (k : V × List ℕ → Result C ℕ) (r : Result (A × List ℕ) ℕ) → ((r >>= seen_read make) >>= k) ≡ (r >>= λ x. k (make x.0, x.1))
then_seen make k (Ok x) = refl
then_seen make k (Err e) = refl

alike : {A B : Type 0} (f g : A → Result B ℕ) → ((x : A) → f x ≡ g x) → (r : Result A ℕ) → (r >>= f) ≡ (r >>= g)
alike f g h (Ok x) = h x
alike f g h (Err e) = refl

next_then : {A T V : Type 0} (x : A) (k : (A × T) × List ℕ → Result V ℕ) (r : Result (T × List ℕ) ℕ) → ((r >>= λ y. Ok ((x, y.0), y.1)) >>= k) ≡ (r >>= λ y. k ((x, y.0), y.1))
next_then x k (Ok y) = refl
next_then x k (Err e) = refl

pair_then : {A T V : Type 0} (t : Format T) (k : (A × T) × List ℕ → Result V ℕ) (r : Result (A × List ℕ) ℕ) → ((r >>= next_read (λ (x : A). t)) >>= k) ≡ (r >>= λ x. t.read x.1 >>= λ y. k ((x.0, y.0), y.1))
pair_then t k (Ok x) = next_then x.0 k (t.read x.1)
pair_then t k (Err e) = refl

-- two readings that agree behind a field agree in front of it
behind_alike : {A T C V : Type 0} (a : Format A) (t : Format T) (c : Format C) (k : (A × T) × List ℕ → Result V ℕ) (l : (A × C) × List ℕ → Result V ℕ)
    → ((x : A) (bytes : List ℕ) → (t.read bytes >>= λ y. k ((x, y.0), y.1)) ≡ (c.read bytes >>= λ y. l ((x, y.0), y.1)))
    → (bytes : List ℕ) → ((a ⨾ t).read bytes >>= k) ≡ ((a ⨾ c).read bytes >>= l)
behind_alike {A} {T} {C} {V} a t c k l h bytes =
    let back : (a.read bytes >>= λ x. c.read x.1 >>= λ y. l ((x.0, y.0), y.1)) ≡ ((a ⨾ c).read bytes >>= l) = sym (pair_then c l (a.read bytes)) in
    pair_then t k (a.read bytes) ∙ alike (λ x. t.read x.1 >>= λ y. k ((x.0, y.0), y.1)) (λ x. c.read x.1 >>= λ y. l ((x.0, y.0), y.1)) (λ x. h x.0 x.1) (a.read bytes) ∙ back

-- ---- from the content's type on

abbrev framed_of : List ℕ → ℕ → Sender → List ℕ → contents.Content → FramedContent
framed_of group at by more said = record { group_id = group; epoch = at; sender = by; authenticated_data = more; content = said }

abbrev signed_tail_from : List ℕ → ℕ → Sender → List ℕ → Tail × List ℕ → Result (SignedContent × List ℕ) ℕ
signed_tail_from group at by more y = Ok (record { group_id = group; epoch = at; sender = by; authenticated_data = more; body = y.0.0; signature = y.0.1 }, y.1)

abbrev content_from : List ℕ → ℕ → Sender → List ℕ → contents.Content × List ℕ → Result (SignedContent × List ℕ) ℕ
content_from group at by more y = signed_from (framed_of group at by more y.0, y.1)

abbrev tail_body : Bool → Bool → Bool → Format Tails
tail_body one two three = cond one (left_format (byte_string ⨾ byte_string)) (right_format (cond two (left_format (proposal ⨾ byte_string)) (right_format (cond three (left_format (commit ⨾ byte_string ⨾ byte_string)) (right_format (no_format 7))))))

abbrev content_body : Bool → Bool → Bool → Format Contents
content_body one two three = cond one (left_format byte_string) (right_format (cond two (left_format proposal) (right_format (cond three (left_format commit) (right_format (no_format 7))))))

abbrev Alike : List ℕ → ℕ → Sender → List ℕ → Result (Tails × List ℕ) ℕ → Result (Contents × List ℕ) ℕ → Type 0
Alike group at by more tail said = ((tail >>= seen_read make_tail) >>= signed_tail_from group at by more) ≡ ((said >>= seen_read make_content) >>= content_from group at by more)

-- what is made of the signature behind a content, and of a commit's tag
abbrev Auth : Type 0
Auth = Result ((List ℕ × List ℕ) × List ℕ) ℕ

abbrev alone : Result (List ℕ × List ℕ) ℕ → Auth
alone r = r >>= λ x. Ok ((x.0, []), x.1)

abbrev with_tag : List ℕ → Result (List ℕ × List ℕ) ℕ → Auth
with_tag signature r = r >>= λ y. Ok ((signature, y.0), y.1)

abbrev both_tags : Result (List ℕ × List ℕ) ℕ → Auth
both_tags r = r >>= λ x. with_tag x.0 (opaque_at x.1)

abbrev signed_as : contents.Content → List ℕ → ℕ → Sender → List ℕ → Auth → Result (SignedContent × List ℕ) ℕ
signed_as said group at by more r = r >>= λ y. Ok (with_signature (framed_of group at by more said) y.0.0 y.0.1, y.1)

text_rest : (group : List ℕ) (at : ℕ) (by : Sender) (more text : List ℕ) (r : Result (List ℕ × List ℕ) ℕ)
    → ((((r >>= λ y. Ok ((text, y.0), y.1)) >>= seen_read make_left) >>= seen_read make_tail) >>= signed_tail_from group at by more) ≡ signed_as (Application text) group at by more (alone r)
text_rest group at by more text (Ok y) = refl
text_rest group at by more text (Err e) = refl

text_alike : (group : List ℕ) (at : ℕ) (by : Sender) (more : List ℕ) (r : Result (List ℕ × List ℕ) ℕ) → Alike group at by more ((r >>= next_read (λ (x : List ℕ). byte_string)) >>= seen_read make_left) (r >>= seen_read make_left)
text_alike group at by more (Ok x) = text_rest group at by more x.0 (opaque_at x.1)
text_alike group at by more (Err e) = refl

proposal_rest : (group : List ℕ) (at : ℕ) (by : Sender) (more : List ℕ) (made : proposals.Proposal) (r : Result (List ℕ × List ℕ) ℕ)
    → (((((r >>= λ y. Ok ((made, y.0), y.1)) >>= seen_read make_left) >>= seen_read make_right) >>= seen_read make_tail) >>= signed_tail_from group at by more) ≡ signed_as (Proposal made) group at by more (alone r)
proposal_rest group at by more made (Ok y) = refl
proposal_rest group at by more made (Err e) = refl

proposal_alike : (group : List ℕ) (at : ℕ) (by : Sender) (more : List ℕ) (r : Result (proposals.Proposal × List ℕ) ℕ)
    → Alike group at by more (((r >>= next_read (λ (x : proposals.Proposal). byte_string)) >>= seen_read make_left) >>= seen_read make_right) ((r >>= seen_read make_left) >>= seen_read make_right)
proposal_alike group at by more (Ok x) = proposal_rest group at by more x.0 (opaque_at x.1)
proposal_alike group at by more (Err e) = refl

abbrev commit_tails : commits.Commit → Result ((List ℕ × List ℕ) × List ℕ) ℕ → Result (Tails × List ℕ) ℕ
commit_tails made r = (((r >>= λ y. Ok ((made, y.0), y.1)) >>= seen_read make_left) >>= seen_read make_right) >>= seen_read make_right

commit_last : (group : List ℕ) (at : ℕ) (by : Sender) (more : List ℕ) (made : commits.Commit) (signature : List ℕ) (r : Result (List ℕ × List ℕ) ℕ)
    → ((commit_tails made (with_tag signature r) >>= seen_read make_tail) >>= signed_tail_from group at by more) ≡ signed_as (Commit made) group at by more (with_tag signature r)
commit_last group at by more made signature (Ok y) = refl
commit_last group at by more made signature (Err e) = refl

commit_rest : (group : List ℕ) (at : ℕ) (by : Sender) (more : List ℕ) (made : commits.Commit) (r : Result (List ℕ × List ℕ) ℕ)
    → ((commit_tails made (r >>= next_read (λ (x : List ℕ). byte_string)) >>= seen_read make_tail) >>= signed_tail_from group at by more) ≡ signed_as (Commit made) group at by more (both_tags r)
commit_rest group at by more made (Ok x) = commit_last group at by more made x.0 (opaque_at x.1)
commit_rest group at by more made (Err e) = refl

commit_alike : (group : List ℕ) (at : ℕ) (by : Sender) (more : List ℕ) (r : Result (commits.Commit × List ℕ) ℕ)
    → Alike group at by more ((((r >>= next_read (λ (x : commits.Commit). byte_string ⨾ byte_string)) >>= seen_read make_left) >>= seen_read make_right) >>= seen_read make_right) (((r >>= seen_read make_left) >>= seen_read make_right) >>= seen_read make_right)
commit_alike group at by more (Ok x) = commit_rest group at by more x.0 (opaque_at x.1)
commit_alike group at by more (Err e) = refl

by_tests : (group : List ℕ) (at : ℕ) (by : Sender) (more rest : List ℕ) (one two three : Bool) → Alike group at by more ((tail_body one two three).read rest) ((content_body one two three).read rest)
by_tests group at by more rest true two three = text_alike group at by more (opaque_at rest)
by_tests group at by more rest false true three = proposal_alike group at by more (proposal.read rest)
by_tests group at by more rest false false true = commit_alike group at by more (commit.read rest)
by_tests group at by more rest false false false = refl

abbrev tail_at : ℕ × List ℕ → Result (Tails × List ℕ) ℕ
tail_at t = (tail_body (t.0 == 1) (t.0 == 2) (t.0 == 3)).read t.1

abbrev said_at : ℕ × List ℕ → Result (Contents × List ℕ) ℕ
said_at t = (content_body (t.0 == 1) (t.0 == 2) (t.0 == 3)).read t.1

by_tag : (group : List ℕ) (at : ℕ) (by : Sender) (more : List ℕ) (r : Result (ℕ × List ℕ) ℕ) → Alike group at by more (r >>= tail_at) (r >>= said_at)
by_tag group at by more (Ok t) = by_tests group at by more t.1 (t.0 == 1) (t.0 == 2) (t.0 == 3)
by_tag group at by more (Err e) = refl

from_type : (group : List ℕ) (at : ℕ) (by : Sender) (more bytes : List ℕ) → (signed_tail.read bytes >>= signed_tail_from group at by more) ≡ (content.read bytes >>= content_from group at by more)
unfolding signed_tail content
from_type group at by more bytes = by_tag group at by more (uint_at w8 bytes)

-- ---- the laws

abbrev signed_made : (List ℕ × (ℕ × (Sender × (List ℕ × Tail)))) × List ℕ → Result (SignedContent × List ℕ) ℕ
signed_made x = signed_tail_from x.0.0 x.0.1.0 x.0.1.1.0 x.0.1.1.1.0 (x.0.1.1.1.1, x.1)

abbrev framed_made : (List ℕ × (ℕ × (Sender × (List ℕ × contents.Content)))) × List ℕ → Result (SignedContent × List ℕ) ℕ
framed_made x = content_from x.0.0 x.0.1.0 x.0.1.1.0 x.0.1.1.1.0 (x.0.1.1.1.1, x.1)

pub signed_content_read : SignedContentIsRead
unfolding signed_content framed_content
signed_content_read bytes =
    behind_alike byte_string (uint64 ⨾ sender ⨾ byte_string ⨾ signed_tail) (uint64 ⨾ sender ⨾ byte_string ⨾ content) signed_made framed_made
    (λ group b. behind_alike uint64 (sender ⨾ byte_string ⨾ signed_tail) (sender ⨾ byte_string ⨾ content) (λ x. signed_made ((group, x.0), x.1)) (λ x. framed_made ((group, x.0), x.1))
    (λ at b. behind_alike sender (byte_string ⨾ signed_tail) (byte_string ⨾ content) (λ x. signed_made ((group, (at, x.0)), x.1)) (λ x. framed_made ((group, (at, x.0)), x.1))
    (λ by b. behind_alike byte_string signed_tail content (λ x. signed_made ((group, (at, (by, x.0))), x.1)) (λ x. framed_made ((group, (at, (by, x.0))), x.1))
    (λ more b. from_type group at by more b) b) b) b) bytes
    ∙ sym (then_seen (λ (x : List ℕ × (ℕ × (Sender × (List ℕ × contents.Content)))). framed_of x.0 x.1.0 x.1.1.0 x.1.1.1.0 x.1.1.1.1) signed_from ((byte_string ⨾ uint64 ⨾ sender ⨾ byte_string ⨾ content).read bytes))
