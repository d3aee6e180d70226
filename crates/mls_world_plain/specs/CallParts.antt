-- The parts of calls on a world, in the order in which code goes over them.
use Rattle.std.specs.Prelude.{◌≡◌, ℕ, ◌+◌, ◌<◌, Bool, true, false, not, ◌&&◌, List, [], ◌∷◌, ◌++◌, length, map, slice_get, option_map, Option, Some, None, Result, Ok, IfSome}
use Rattle.std.specs.List.{list_any}
use Rattle.std.specs.Str.{bytes_eq}
use Rattle.mls_wire.specs.Checks.{require, ◌>>◌, DoesAs}
use Rattle.mls_wire.specs.Reading.{◌>>=◌}
use Rattle.mls_leaf.specs.KeyPackage.{key_package}
use Rattle.mls_leaf.specs.declared.extension.Extension.{Extension}
use Rattle.mls_types.specs.declared.commit.ProposalOrRef.{ProposalOrRef}
use Rattle.mls_suite.specs.Crypto.{Crypto}
use Rattle.mls_treekem_model.specs.Seeds.{sign_seed}
use Rattle.mls_model.specs.declared.effect.Effect.{Effect}
use Rattle.mls_model.specs.declared.effect.Effect.TheVariants as effect
use Rattle.mls_model.specs.declared.event.Source.{Source}
use Rattle.mls_model.specs.declared.event.Reply.{Reply}
use Rattle.mls_model.specs.declared.event.Reply.TheVariants as reply
use Rattle.mls_model.specs.Candidate.{Candidate, new_candidate, package_message}
use Rattle.mls_model.specs.Member.{KeptProposal}
use Rattle.mls_model.specs.Journal.{Entry, Journal, CommitMade, names_in, adds_in}
use Rattle.mls_model.specs.Make.{commit_call}
use Rattle.mls_model.specs.Verdict.{verdict}
use Rattle.mls_model.specs.Propose.{propose_extensions}
use Rattle.mls_model.specs.WorldCalls.{journal_after, proposal_answer}
use Rattle.mls_model.specs.World.{World, Entrant, Seat, with_member, seat_at, has_source, commit_for_joiner}
use Rattle.mls_world_plain.specs.declared.error.WorldError.{WorldError}
use Rattle.mls_world_plain.specs.Faults.{number_of}
use Rattle.mls_world_plain.specs.JournalSteps.{Follows, SameJournals}
use Rattle.mls_world_plain.specs.StoredWorld.{JournalStore, Making, Seated, commit_made_of, seat_of}

-- ---- candidates

-- whether a candidate has a signature key
abbrev pub has_signature_key : World → List ℕ → Bool
has_signature_key w key = list_any (λ (e : Entrant). bytes_eq e.candidate.offered.leaf_node.signature_key key) w.entrants

-- a candidate that isn't yet in the world: `CandidateRepeated` (93) where another has its signature key
unfoldable pub make_candidate : Crypto → World → List ℕ → List ℕ → Result Candidate ℕ
make_candidate c w identity seed =
    require 93 (not (list_any (λ (e : Entrant). bytes_eq e.candidate.offered.leaf_node.signature_key (c.sig_public (sign_seed seed))) w.entrants))
    >> new_candidate c identity seed

-- the world with one more candidate, and the message of its KeyPackage
abbrev pub add_candidate : World → Candidate → Result (Reply × World) ℕ
add_candidate w k = Ok (
  reply.Candidate (length w.entrants) (length w.messages),
  record w { entrants = w.entrants ++ (record { candidate = k; is_spent = false } ∷ []); messages = w.messages ++ (package_message k.offered ∷ []) },
)

-- ---- proposals

-- member k proposes extensions that a group may carry: `NoSuchMember` (90)
unfoldable pub propose_allowed : Crypto → World → ℕ → List Extension → Result (Reply × World) ℕ
propose_allowed c w k list = seat_at w k >>= λ s. propose_extensions c s.member list >>= λ x. Ok (proposal_answer w k s x)

-- ---- deliveries

-- whether a commit was followed into an epoch
abbrev pub is_advanced : Effect → Bool
is_advanced (effect.Advanced epoch) = true
is_advanced other = false

-- what bytes do to a member and its journal
unfoldable pub seat_verdict : Crypto → Seat → List ℕ → Result (Effect × Seat) ℕ
seat_verdict c s bytes = verdict c s.member bytes >>= λ x. Ok (x.0, record { member = x.1; journal = journal_after s bytes x.0 })

-- bytes are handed to the member in a seat, whose journal stands among these
abbrev pub HandsOver : Crypto → List Journal → Seated → List Journal → Seated → List ℕ → Result Effect WorldError → Type 0
HandsOver c js s ks t bytes result = DoesAs (λ (e : Effect). e) number_of (seat_verdict c (seat_of js s) bytes) (seat_of js s) (seat_of ks t) result

-- what bytes that were handed to a member at journal b leave of the store: a commit that it followed is an entry there,
-- and it stands at journal n; else all is as before
abbrev pub StoresEntry : JournalStore → ℕ → Entry → JournalStore → ℕ → Result Effect WorldError → Type 0
StoresEntry old b e new n (Ok (effect.Advanced epoch)) = Follows old b e new n
StoresEntry old b e new n other = SameJournals old new

-- ---- commits

-- what a commit call does to member k: the messages of its commit and its Welcome
unfoldable pub commit_by : Crypto → World → ℕ → List ProposalOrRef → Bool → List ℕ → Result ((List ℕ × Option (List ℕ)) × World) ℕ
commit_by c w k list path seed = seat_at w k >>= λ s. commit_call c s.member list path seed >>= λ x. Ok (x.0, with_member w k s x.1)

-- what a list names and adds, by what is kept (RFC 9420, 12.4)
pub record IsNamed (kept : List KeptProposal) (list : List ProposalOrRef) (names adds : List (List ℕ)) : Type 0 where
  pub names_are : names ≡ names_in kept list
  pub adds_are : adds ≡ adds_in kept list

-- the messages of a commit and its Welcome
abbrev pub messages_with : List ℕ → Option (List ℕ) → List (List ℕ)
messages_with commit None = commit ∷ []
messages_with commit (Some welcome) = commit ∷ (welcome ∷ [])

-- member k's commit with its messages, and the epoch secret that it reaches: what it names and adds is recorded
abbrev pub record_commit : World → ℕ → Seat → List ℕ → List ℕ × Option (List ℕ) → List (List ℕ) → List (List ℕ) → Reply × World
record_commit w k s epoch x names adds = (
  reply.Commit (length w.messages) (option_map (λ (bytes : List ℕ). length w.messages + 1) x.1),
  record w {
    messages = w.messages ++ messages_with x.0 x.1;
    commits = w.commits ++ (record { maker = k; journal = s.journal; entry = record { commit = x.0; named_messages = names }; epoch_secret = epoch; adds = adds; welcome = option_map (λ bytes. (length w.messages + 1, bytes)) x.1 } ∷ []);
  },
)

-- ---- joins

-- whether a commit has that Welcome and adds that KeyPackage
abbrev pub adds_for : Source → List ℕ → Making → Bool
adds_for source offered d = has_source source d.welcome && list_any (bytes_eq offered) d.adds

-- the record of this number, where there is a number
abbrev pub commit_made_at : List CommitMade → Option ℕ → Option CommitMade
commit_made_at made None = None
commit_made_at made (Some i) = slice_get made i

-- a record has this number, where there is a number
abbrev pub IsThere : List CommitMade → Option ℕ → Type 0
IsThere made number = IfSome number (λ i. i < length made)

-- the first record that has that Welcome and adds that KeyPackage, whatever the journals are
abbrev pub FirstIs : List Making → Source → List ℕ → Option ℕ → Type 0
FirstIs ds source offered found = (js : List Journal) (k : Candidate) → offered ≡ key_package.spell k.offered → commit_for_joiner (map (commit_made_of js) ds) source k ≡ commit_made_at (map (commit_made_of js) ds) found

-- the first commit whose Welcome that is and which adds the candidate's own KeyPackage has this number
abbrev pub IsForJoiner : List CommitMade → Source → Candidate → Option ℕ → Type 0
IsForJoiner made source k found = commit_for_joiner made source k ≡ commit_made_at made found
