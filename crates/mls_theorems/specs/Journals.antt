-- Public agreement: the public state is a function of the journal, and members with one journal have one epoch secret
-- or are twins.
use Rattle.std.specs.Prelude.{◌≡◌, ℕ, Bool, List, [], ◌∷◌, Option, Some, Ok, slice_get}
use Rattle.mls_leaf.specs.declared.proposal.Proposal.{Proposal}
use Rattle.mls_types.specs.declared.commit.ProposalOrRef.{ProposalOrRef}
use Rattle.mls_suite.specs.Crypto.{Crypto}
use Rattle.mls_schedule.specs.Epoch.{confirmation_tag}
use Rattle.mls_model.specs.declared.effect.Effect.TheVariants.{Advanced}
use Rattle.mls_model.specs.declared.origin.Origin.{Origin}
use Rattle.mls_model.specs.declared.origin.Origin.TheVariants.{Creation, GroupInfo as JoinedBy}
use Rattle.mls_model.specs.Agreement.{Agree, AgreeOrTwins}
use Rattle.mls_model.specs.MemberInvariant.{IsGoodMember}
use Rattle.mls_model.specs.Candidate.{Candidate}
use Rattle.mls_model.specs.Claims.{IsMade, JoinsTo}
use Rattle.mls_model.specs.Invariant.{last_tag}
use Rattle.mls_model.specs.Join.{JoinedMember, join_verdict}
use Rattle.mls_model.specs.Journal.{Entry, names_in, entry_of}
use Rattle.mls_model.specs.Lineage.{IsSameState}
use Rattle.mls_model.specs.Make.{Made, commit_call}
use Rattle.mls_model.specs.Member.{Member, without_pending}
use Rattle.mls_model.specs.Propose.{make_proposal}
use Rattle.mls_model.specs.JournalState.{Creations, public_of}
use Rattle.mls_model.specs.Verdict.{verdict}

-- ---- where a journal leads

-- a member stands where a journal leads: in its public state, with an epoch secret that fits the last tag
pub record StandsAtJournal (c : Crypto) (creations : Creations) (origin : Origin) (entries : List Entry)
    (m : Member) : Type 0 where
  pub public : public_of c creations origin entries ≡ Ok m.public
  pub tagged : (tag : List ℕ) → last_tag origin entries ≡ Some tag →
      confirmation_tag m.epoch_secret m.public.context.confirmed_transcript_hash ≡ tag

-- members that stand at one journal agree: the public state is a function of the journal
abbrev pub PublicAgreement : Type 0
PublicAgreement = (c : Crypto) (creations : Creations) (origin : Origin) (entries : List Entry) (m n : Member) →
    StandsAtJournal c creations origin entries m → StandsAtJournal c creations origin entries n → Agree m n

-- members that stand at one journal that ends with a tag have equal secrets, or twins
abbrev pub SecretAgreement : Type 0
SecretAgreement = (c : Crypto) (creations : Creations) (origin : Origin) (entries : List Entry) (m n : Member)
    (tag : List ℕ) → StandsAtJournal c creations origin entries m → StandsAtJournal c creations origin entries n →
    last_tag origin entries ≡ Some tag → AgreeOrTwins m n

-- ---- each step leads along the journal

-- a member that created a group stands at the journal of the creation
abbrev pub CreationsAlong : Type 0
CreationsAlong = (c : Crypto) (creations : Creations) (k : ℕ) (m : Member) → slice_get creations k ≡ Some (Some m) →
    StandsAtJournal c creations (Creation k) [] m

-- a member that joins stands where its GroupInfo says, whatever the Welcome was
abbrev pub JoinsAlong : Type 0
JoinsAlong = (c : Crypto) (creations : Creations) (k : Candidate) (bytes : List ℕ) (joined : JoinedMember) →
    join_verdict c k bytes ≡ Ok joined → StandsAtJournal c creations (JoinedBy joined.info) [] joined.member

-- a member that joins by a Welcome that another made stands where the maker's commit leads
abbrev pub JoinsHereAlong : Type 0
JoinsHereAlong = (c : Crypto) (creations : Creations) (origin : Origin) (entries : List Entry) (maker : Member)
    (list : List ProposalOrRef) (made : Made) (k : Candidate) (welcome : List ℕ) (joins : JoinsTo c k welcome made) →
    StandsAtJournal c creations origin entries maker → IsMade c maker list made →
    StandsAtJournal c creations origin (record { commit = made.commit; named_messages = names_in maker.kept list } ∷ entries)
    joins.joined.member

-- a commit that a good member follows, its own or another's, leads it where the journal with the entry leads
abbrev pub DeliveriesAlong : Type 0
DeliveriesAlong = (c : Crypto) (creations : Creations) (origin : Origin) (entries : List Entry) (m : Member)
    (bytes : List ℕ) (epoch : ℕ) (after : Member) →
    IsGoodMember c m → StandsAtJournal c creations origin entries m → verdict c m bytes ≡ Ok (Advanced epoch, after) →
    StandsAtJournal c creations origin (entry_of m bytes ∷ entries) after

-- a member in one state with another stands where the other stands
abbrev pub StatesAlong : Type 0
StatesAlong = (c : Crypto) (creations : Creations) (origin : Origin) (entries : List Entry) (m n : Member) →
    IsSameState m n → StandsAtJournal c creations origin entries m → StandsAtJournal c creations origin entries n

-- ---- calls that leave the state

-- proposals, commits and drops leave a member's state
pub record CallsKeepState : Type 0 where
  pub proposals : (c : Crypto) (m : Member) (said : Proposal) (own_key : Option (List ℕ)) (x : List ℕ × Member) →
      make_proposal c m said own_key ≡ Ok x → IsSameState m x.1
  pub commits : (c : Crypto) (m : Member) (list : List ProposalOrRef) (wants_path : Bool) (seed : List ℕ)
      (x : (List ℕ × Option (List ℕ)) × Member) → commit_call c m list wants_path seed ≡ Ok x → IsSameState m x.1
  pub drops : (m : Member) → IsSameState m (without_pending m)
