-- The public state that a journal leads to, as a function of the journal.
use Rattle.std.specs.Prelude.{ℕ, true, false, List, [], ◌∷◌, slice_get, Option, Some, None, Result, Ok, Err}
use Rattle.mls_wire.specs.Checks.{require_some}
use Rattle.mls_wire.specs.Reading.{◌>>=◌}
use Rattle.mls_wire.specs.Whole.{whole}
use Rattle.mls_leaf.specs.Limits.{input_limit}
use Rattle.mls_types.specs.GroupInfo.{group_info}
use Rattle.mls_types.specs.SignedParts.{framed_content_of}
use Rattle.mls_types.specs.declared.commit.ProposalOrRef.{ProposalOrRef}
use Rattle.mls_types.specs.declared.commit.ProposalOrRef.TheVariants as listed
use Rattle.mls_types.specs.declared.signed.SignedBody.{SignedBody}
use Rattle.mls_types.specs.declared.signed.SignedBody.TheVariants as body_of
use Rattle.mls_types.specs.declared.signed.SignedContent.{SignedContent}
use Rattle.mls_suite.specs.Crypto.{Crypto}
use Rattle.mls_tree_model.specs.Arrays.{from_nodes}
use Rattle.mls_tree.specs.Tree.{max_leaves}
use Rattle.mls_schedule.specs.Transcript.{interim_hash}
use Rattle.mls_model.specs.declared.origin.Origin.{Origin}
use Rattle.mls_model.specs.declared.origin.Origin.TheVariants.{Creation, GroupInfo as JoinedBy}
use Rattle.mls_model.specs.PublicState.{PublicState, Used}
use Rattle.mls_model.specs.Commit.{next_public}
use Rattle.mls_model.specs.Member.{Member}
use Rattle.mls_model.specs.Messages.{decode_message, public_in, sender_leaf}
use Rattle.mls_model.specs.Journal.{Entry}

-- what a kept message says, and who sent it
abbrev pub used_of_body : SignedContent → SignedBody → Option Used
used_of_body v (body_of.Proposal said) =
    Some (record { proposal = said; sender = sender_leaf v.sender; is_full = false })
used_of_body v other = None

-- the proposal that the message in an entry is: decoding, `NotPublicMessage` (41) no PublicMessage,
-- `UnknownReference` (60) no proposal
unfoldable pub used_in : List ℕ → Result Used ℕ
used_in bytes = decode_message bytes >>= λ m. require_some 41 (public_in m) >>= λ v. require_some 60
    (used_of_body v.content v.content.body)

-- a commit's list with each reference replaced by what stands in an entry
unfoldable pub used_by_names : ℕ → List ProposalOrRef → List (List ℕ) → Result (List Used) ℕ
used_by_names committer [] names = Ok []
used_by_names committer (listed.Proposal said ∷ xs) names =
    used_by_names committer xs names >>= λ us. Ok (record { proposal = said; sender = committer; is_full = true } ∷ us)
used_by_names committer (listed.Reference reference ∷ xs) [] = Err 60
used_by_names committer (listed.Reference reference ∷ xs) (n ∷ ns) =
    used_in n >>= λ u. used_by_names committer xs ns >>= λ us. Ok (u ∷ us)

-- the public state after a content with the messages that its entry names: `NotHandshake` (45) where it is no commit
-- (RFC 9420, 12.4.2)
abbrev pub public_after_body : Crypto → PublicState → List (List ℕ) → SignedContent → SignedBody → Result PublicState ℕ
public_after_body c p names v (body_of.Commit commit tag) =
    used_by_names (sender_leaf v.sender) commit.proposals names >>= λ used. next_public c p
    (sender_leaf v.sender) used commit (framed_content_of v) v.signature tag
public_after_body c p names v other = Err 45

-- the public state after an entry
unfoldable pub public_after : Crypto → PublicState → Entry → Result PublicState ℕ
public_after c p e = decode_message e.commit >>= λ m. require_some 41
    (public_in m) >>= λ v. public_after_body c p e.named_messages v.content v.content.body

-- the public state of a GroupInfo: its faults, `NoTree` (76) it has no tree, `TreeShape` (20) and `TreeFull` (21) the
-- tree's shape and size
unfoldable pub public_of_info : List ℕ → Result PublicState ℕ
public_of_info bytes = do
  info ← whole group_info input_limit bytes
  nodes ← require_some 76 info.ratchet_tree
  t ← from_nodes max_leaves nodes
  Ok (record {
    context = info.group_context;
    tree = t;
    interim = interim_hash info.group_context.confirmed_transcript_hash info.confirmation_tag;
  })

-- for each member by its number its first state, where a creation made it
abbrev pub Creations : Type 0
Creations = List (Option Member)

-- the public state of a creation by its number: `NoSuchMember` (90) where none made that member
abbrev pub public_of_creation : Option (Option Member) → Result PublicState ℕ
public_of_creation (Some (Some m)) = Ok m.public
public_of_creation (Some None) = Err 90
public_of_creation None = Err 90

-- the public state of an origin: of a creation, or of a GroupInfo
abbrev pub public_of_origin : Creations → Origin → Result PublicState ℕ
public_of_origin creations (Creation k) = public_of_creation (slice_get creations k)
public_of_origin creations (JoinedBy info) = public_of_info info

-- the public state of a journal: of its origin, then after each entry
unfoldable pub public_of : Crypto → Creations → Origin → List Entry → Result PublicState ℕ
public_of c creations origin [] = public_of_origin creations origin
public_of c creations origin (e ∷ es) = public_of c creations origin es >>= λ p. public_after c p e
