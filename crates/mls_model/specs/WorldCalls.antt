-- What each call on a world does: its reply and the world after it, or the number of the first check that fails.
use Rattle.std.specs.Prelude.{ℕ, ◌+◌, Bool, false, not, List, [], ◌∷◌, ◌++◌, length, slice_set, option_map, Option, Some, None, is_some, Result, Ok}
use Rattle.std.specs.List.{list_any}
use Rattle.std.specs.Str.{bytes_eq}
use Rattle.mls_wire.specs.Checks.{require, ◌>>◌}
use Rattle.mls_wire.specs.Reading.{◌>>=◌}
use Rattle.mls_leaf.specs.declared.extension.Extension.{Extension}
use Rattle.mls_leaf.specs.GroupExtensions.{are_allowed}
use Rattle.mls_types.specs.declared.commit.ProposalOrRef.{ProposalOrRef}
use Rattle.mls_suite.specs.Crypto.{Crypto}
use Rattle.mls_treekem_model.specs.Seeds.{sign_seed}
use Rattle.mls_model.specs.declared.effect.Effect.{Effect}
use Rattle.mls_model.specs.declared.effect.Effect.TheVariants.{Advanced}
use Rattle.mls_model.specs.declared.event.Source.{Source}
use Rattle.mls_model.specs.declared.event.WorldItem.{WorldItem}
use Rattle.mls_model.specs.declared.event.Reply.{Reply}
use Rattle.mls_model.specs.declared.event.Reply.TheVariants as reply
use Rattle.mls_model.specs.declared.origin.Origin.TheVariants as from
use Rattle.mls_model.specs.Member.{Member, with_pending, without_pending}
use Rattle.mls_model.specs.Verdict.{verdict}
use Rattle.mls_model.specs.Candidate.{new_candidate, package_message, create_group}
use Rattle.mls_model.specs.Propose.{propose_add, propose_update, propose_remove, propose_extensions}
use Rattle.mls_model.specs.Make.{Made, make}
use Rattle.mls_model.specs.Join.{join_verdict}
use Rattle.mls_model.specs.Journal.{Journal, CommitMade, new_journal, with_entry, names_in, adds_in, entry_of}
use Rattle.mls_model.specs.World.{World, Entrant, Seat, with_member, with_new_member, seat_at, entrant_at, bytes_of, package_of, items_of, commit_for_joiner, joiner_journal}

-- ---- candidates and groups

-- a new candidate (RFC 9420, 10): `CandidateRepeated` (93) a candidate has the signature key already, then the refusals
-- of `new_candidate`
unfoldable pub candidate_answer : Crypto → World → List ℕ → List ℕ → Result (Reply × World) ℕ
candidate_answer c w identity seed = do
  require 93 (not (list_any (λ (e : Entrant).
      bytes_eq e.candidate.offered.leaf_node.signature_key (c.sig_public (sign_seed seed))) w.entrants))
  k ← new_candidate c identity seed
  Ok (
    reply.Candidate (length w.entrants) (length w.messages),
    record w {
      entrants = w.entrants ++ (record { candidate = k; is_spent = false } ∷ []);
      messages = w.messages ++ (package_message k.offered ∷ []);
    },
  )

-- a candidate becomes the only member of a new group (RFC 9420, 11), and its journal begins: `NoSuchCandidate` (92) no
-- such candidate, `CandidateSpent` (91) a spent one, then the refusals of `create_group`
unfoldable pub create_answer : Crypto → World → ℕ → List ℕ → List ℕ → Result (Reply × World) ℕ
create_answer c w n group seed = do
  e ← entrant_at w n
  m ← create_group c e.candidate group seed
  Ok (
    reply.Created (length w.seats),
    with_new_member w n e (record { member = m; journal = new_journal (from.Creation (length w.seats)) }),
  )

-- ---- proposals

-- a proposal's message, and the member that keeps it
abbrev pub proposal_answer : World → ℕ → Seat → List ℕ × Member → Reply × World
proposal_answer w k s x = (
  reply.Proposal (length w.messages),
  record (with_member w k s x.1) { messages = w.messages ++ (x.0 ∷ []) },
)

-- a member proposes to add the KeyPackage of a source (RFC 9420, 12.1.1): `NoSuchMember` (90) no such member, then the
-- refusals of `package_of` and of `propose_add`
unfoldable pub propose_add_answer : Crypto → World → ℕ → Source → Result (Reply × World) ℕ
propose_add_answer c w k source = do
  s ← seat_at w k
  offered ← package_of w source
  x ← propose_add c s.member offered
  Ok (proposal_answer w k s x)

-- a member proposes to update its own leaf (RFC 9420, 12.1.2): `NoSuchMember` (90) no such member, then the refusals of
-- `propose_update`
unfoldable pub propose_update_answer : Crypto → World → ℕ → List ℕ → Result (Reply × World) ℕ
propose_update_answer c w k seed = do
  s ← seat_at w k
  x ← propose_update c s.member seed
  Ok (proposal_answer w k s x)

-- a member proposes to remove a leaf (RFC 9420, 12.1.3): `NoSuchMember` (90) no such member, then the refusals of
-- `propose_remove`
unfoldable pub propose_remove_answer : Crypto → World → ℕ → ℕ → Result (Reply × World) ℕ
propose_remove_answer c w k leaf = do
  s ← seat_at w k
  x ← propose_remove c s.member leaf
  Ok (proposal_answer w k s x)

-- a member proposes the extensions that its group is to carry (RFC 9420, 12.1.7): `NoSuchMember` (90) no such member;
-- `ExtensionNotAllowed` (14) no group may carry them, then the refusals of `propose_extensions`
unfoldable pub propose_extensions_answer : Crypto → World → ℕ → List Extension → Result (Reply × World) ℕ
propose_extensions_answer c w k list = do
  s ← seat_at w k
  require 14 (are_allowed list)
  x ← propose_extensions c s.member list
  Ok (proposal_answer w k s x)

-- ---- commits

-- what a commit call of member k made; the message of its Welcome comes behind that of its commit
unfoldable pub commit_record : World → ℕ → Seat → List ProposalOrRef → Made → CommitMade
commit_record w k s list made = record {
  maker = k;
  journal = s.journal;
  entry = record { commit = made.commit; named_messages = names_in s.member.kept list };
  epoch_secret = made.pending.epoch_secret;
  adds = adds_in s.member.kept list;
  welcome = option_map (λ bytes. (length w.messages + 1, bytes)) made.welcome;
}

-- the messages of a commit call: its commit, and its Welcome where there is one
abbrev pub commit_messages : Made → Option (List ℕ) → List (List ℕ)
commit_messages made None = made.commit ∷ []
commit_messages made (Some welcome) = made.commit ∷ (welcome ∷ [])

-- a member makes a commit of what its list stands for (RFC 9420, 12.4.1) and has it as pending, and the world has the
-- messages and the record: `NoSuchMember` (90) no such member, then the refusals of `items_of` and of `make`
unfoldable pub commit_answer : Crypto → World → ℕ → List WorldItem → Bool → List ℕ → Result (Reply × World) ℕ
commit_answer c w k items path seed = do
  s ← seat_at w k
  list ← items_of w items
  made ← make c s.member list path seed
  Ok (
    reply.Commit (length w.messages) (option_map (λ (bytes : List ℕ). length w.messages + 1) made.welcome),
    record (with_member w k s (with_pending s.member made.pending)) {
      messages = w.messages ++ commit_messages made made.welcome;
      commits = w.commits ++ (commit_record w k s list made ∷ []);
    },
  )

-- a member drops its pending commit, and the reply says whether there was one: `NoSuchMember` (90) no such member
unfoldable pub drop_answer : World → ℕ → Result (Reply × World) ℕ
drop_answer w k = do
  s ← seat_at w k
  Ok (reply.Dropped (is_some s.member.pending), with_member w k s (without_pending s.member))

-- ---- deliveries and joins

-- a member's journal after what it did with these bytes: a commit that it followed is a new entry
abbrev pub journal_after : Seat → List ℕ → Effect → Journal
journal_after s bytes (Advanced epoch) = with_entry s.journal (entry_of s.member bytes)
journal_after s bytes other = s.journal

-- a member does with the bytes of a source what its verdict says (RFC 9420, 6): `NoSuchMember` (90) no such member,
-- `NoSuchMessage` (94) no such message, then the refusals of `verdict`
unfoldable pub deliver_answer : Crypto → World → ℕ → Source → Result (Reply × World) ℕ
deliver_answer c w k source = do
  s ← seat_at w k
  bytes ← bytes_of w source
  x ← verdict c s.member bytes
  Ok (
    reply.Delivered x.0,
    record w { seats = slice_set w.seats k (record { member = x.1; journal = journal_after s bytes x.0 }) },
  )

-- a candidate joins by the bytes of a source as one more member, and is spent (RFC 9420, 12.4.3.1):
-- `NoSuchCandidate` (92) no such candidate, `CandidateSpent` (91) a spent one, `NoSuchMessage` (94) no such message,
-- then the refusals of `join_verdict`
unfoldable pub join_answer : Crypto → World → ℕ → Source → Result (Reply × World) ℕ
join_answer c w n source = do
  e ← entrant_at w n
  bytes ← bytes_of w source
  j ← join_verdict c e.candidate bytes
  Ok (
    reply.Joined (length w.seats) j.member.public.context.epoch,
    with_new_member w n e (record {
      member = j.member;
      journal = joiner_journal (commit_for_joiner w.commits source e.candidate) j.info;
    }),
  )
