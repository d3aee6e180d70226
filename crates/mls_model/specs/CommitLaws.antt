-- What holds of the next public state, and of the names in an entry, by their definitions alone.
use Rattle.std.specs.Prelude.{◌≡◌, ℕ, List, Ok, Err}
use Rattle.mls_types.specs.declared.commit.Commit.{Commit}
use Rattle.mls_types.specs.declared.commit.ProposalOrRef.{ProposalOrRef}
use Rattle.mls_types.specs.declared.content.FramedContent.{FramedContent}
use Rattle.mls_suite.specs.Crypto.{Crypto}
use Rattle.mls_schedule.specs.Transcript.{interim_hash}
use Rattle.mls_model.specs.PublicState.{PublicState, Used}
use Rattle.mls_model.specs.Commit.{Change, change_of_commit, next_public}
use Rattle.mls_model.specs.Member.{KeptProposal, find_proposals}
use Rattle.mls_model.specs.Journal.{names_in}
use Rattle.mls_model.specs.Agreement.{Keeps}

-- ---- the next public state

-- the next public state is refused where the change is
abbrev pub NextIsRefused : Type 0
NextIsRefused = (c : Crypto) (p : PublicState) (committer : ℕ) (used : List Used) (commit : Commit)
    (said : FramedContent) (signature tag : List ℕ) (n : ℕ) →
    change_of_commit c p committer used commit said signature ≡ Err n →
    next_public c p committer used commit said signature tag ≡ Err n

-- the next public state has the change's context and tree, and the tag enters its interim hash alone
abbrev pub NextIsBody : Type 0
NextIsBody = (c : Crypto) (p : PublicState) (committer : ℕ) (used : List Used) (commit : Commit) (said : FramedContent)
    (signature tag : List ℕ) (change : Change) →
    change_of_commit c p committer used commit said signature ≡ Ok change →
    next_public c p committer used commit said signature tag
    ≡ Ok (record {
      context = change.context;
      tree = change.tree;
      interim = interim_hash change.context.confirmed_transcript_hash tag;
    })

-- ---- the names of an entry

-- a commit whose references are all kept names, in the order of its list, the message that is kept under each
abbrev pub NamesInOrder : Type 0
NamesInOrder = (kept : List KeptProposal) (committer : ℕ) (list : List ProposalOrRef) (used : List Used) →
    find_proposals kept committer list ≡ Ok used → Keeps kept list (names_in kept list)

-- names that are kept in the order of a list are the names of that list
abbrev pub NamesAreHeld : Type 0
NamesAreHeld = (kept : List KeptProposal) (list : List ProposalOrRef) (names : List (List ℕ)) → Keeps kept list names →
    names_in kept list ≡ names
