-- What each call on a world does: its reply and the world after it, or the number of the first check that fails, and
-- then the world is as it was. Where memory was refused, the world is as it was, and nothing is said of the number.
use Rattle.std.specs.Prelude.{ℕ, Bool, List, Option, option_map, Result, slice_get}
use Rattle.mls_wire.specs.Checks.{Answers, AnswersOutright, DoesAs}
use Rattle.mls_leaf.specs.declared.extension.Extension.{Extension}
use Rattle.mls_suite.specs.Crypto.{Crypto}
use Rattle.mls_model.specs.declared.effect.Effect.{Effect}
use Rattle.mls_model.specs.declared.event.Event.{Event}
use Rattle.mls_model.specs.declared.event.Reply.{Reply}
use Rattle.mls_model.specs.declared.event.Reply.TheVariants as reply
use Rattle.mls_model.specs.declared.event.Source.{Source}
use Rattle.mls_model.specs.declared.event.WorldItem.{WorldItem}
use Rattle.mls_model.specs.Candidate.{Candidate}
use Rattle.mls_model.specs.Member.{Member}
use Rattle.mls_model.specs.Run.{answer}
use Rattle.mls_model.specs.World.{World, Seat}
use Rattle.mls_model.specs.WorldCalls.{candidate_answer, create_answer, propose_add_answer, propose_update_answer, propose_remove_answer, propose_extensions_answer, commit_answer, drop_answer, deliver_answer, join_answer}
use Rattle.mls_world_plain.specs.declared.candidates.NewCandidate.{NewCandidate}
use Rattle.mls_world_plain.specs.declared.commits.NewCommit.{NewCommit}
use Rattle.mls_world_plain.specs.declared.joins.NewMember.{NewMember}
use Rattle.mls_world_plain.specs.declared.error.WorldError.{WorldError}
use Rattle.mls_world_plain.specs.Faults.{number_of}
use Rattle.mls_world_plain.specs.CallParts.{add_candidate, propose_allowed}

-- ---- look-ups

-- a call answers its definition's value, or the number of its refusal where memory wasn't refused
abbrev pub AnswersBy : {A : Type 0} → Result A ℕ → Result A WorldError → Type 0
AnswersBy defined result = Answers (λ x. x) number_of defined result

-- a call that takes no memory answers its definition's value, or the number of its refusal
abbrev pub AnswersOutrightBy : {A B : Type 0} → (B → A) → Result A ℕ → Result B WorldError → Type 0
AnswersOutrightBy value defined result = AnswersOutright value number_of defined result

-- the member in seat k
abbrev pub seated_member : World → ℕ → Option Member
seated_member w k = option_map (λ (s : Seat). s.member) (slice_get w.seats k)

-- ---- candidates and groups

-- a candidate is added, with the message of its KeyPackage
abbrev pub AddsCandidate : World → World → Candidate → Result NewCandidate WorldError → Type 0
AddsCandidate old new k result = DoesAs (λ (v : NewCandidate). reply.Candidate v.candidate v.message) number_of (add_candidate old k) old new result

-- a candidate is made, with the message of its KeyPackage
abbrev pub MakesCandidate : Crypto → World → World → List ℕ → List ℕ → Result NewCandidate WorldError → Type 0
MakesCandidate c old new identity seed result = DoesAs (λ (v : NewCandidate). reply.Candidate v.candidate v.message) number_of (candidate_answer c old identity seed) old new result

-- candidate n creates a group
abbrev pub CreatesGroup : Crypto → World → World → ℕ → List ℕ → List ℕ → Result ℕ WorldError → Type 0
CreatesGroup c old new n group seed result = DoesAs (λ (k : ℕ). reply.Created k) number_of (create_answer c old n group seed) old new result

-- ---- proposals

-- member k proposes to add the KeyPackage of a source
abbrev pub ProposesAdd : Crypto → World → World → ℕ → Source → Result ℕ WorldError → Type 0
ProposesAdd c old new k source result = DoesAs (λ (n : ℕ). reply.Proposal n) number_of (propose_add_answer c old k source) old new result

-- member k proposes a new key for its own leaf
abbrev pub ProposesUpdate : Crypto → World → World → ℕ → List ℕ → Result ℕ WorldError → Type 0
ProposesUpdate c old new k seed result = DoesAs (λ (n : ℕ). reply.Proposal n) number_of (propose_update_answer c old k seed) old new result

-- member k proposes to remove a leaf
abbrev pub ProposesRemove : Crypto → World → World → ℕ → ℕ → Result ℕ WorldError → Type 0
ProposesRemove c old new k leaf result = DoesAs (λ (n : ℕ). reply.Proposal n) number_of (propose_remove_answer c old k leaf) old new result

-- member k proposes extensions
abbrev pub ProposesExtensions : Crypto → World → World → ℕ → List Extension → Result ℕ WorldError → Type 0
ProposesExtensions c old new k list result = DoesAs (λ (n : ℕ). reply.Proposal n) number_of (propose_extensions_answer c old k list) old new result

-- member k proposes extensions that a group may carry
abbrev pub ProposesAllowed : Crypto → World → World → ℕ → List Extension → Result ℕ WorldError → Type 0
ProposesAllowed c old new k list result = DoesAs (λ (n : ℕ). reply.Proposal n) number_of (propose_allowed c old k list) old new result

-- ---- commits

-- member k commits a list
abbrev pub Commits : Crypto → World → World → ℕ → List WorldItem → Bool → List ℕ → Result NewCommit WorldError → Type 0
Commits c old new k items path seed result = DoesAs (λ (v : NewCommit). reply.Commit v.message v.welcome) number_of (commit_answer c old k items path seed) old new result

-- member k forgets its pending commit
abbrev pub DropsPending : World → World → ℕ → Result Bool WorldError → Type 0
DropsPending old new k result = DoesAs (λ (b : Bool). reply.Dropped b) number_of (drop_answer old k) old new result

-- ---- deliveries, joins and events

-- a source is delivered to member k
abbrev pub DeliversTo : Crypto → World → World → ℕ → Source → Result Effect WorldError → Type 0
DeliversTo c old new k source result = DoesAs (λ (e : Effect). reply.Delivered e) number_of (deliver_answer c old k source) old new result

-- candidate n joins by a source
abbrev pub JoinsBy : Crypto → World → World → ℕ → Source → Result NewMember WorldError → Type 0
JoinsBy c old new n source result = DoesAs (λ (v : NewMember). reply.Joined v.member v.epoch) number_of (join_answer c old n source) old new result

-- an event happens
abbrev pub AnswersEvent : Crypto → World → World → Event → Result Reply WorldError → Type 0
AnswersEvent c old new event result = DoesAs (λ (r : Reply). r) number_of (answer c old event) old new result
