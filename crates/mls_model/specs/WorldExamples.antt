-- Small worlds, worked out: which journals are homemade, who joins by a Welcome, and which number comes first.
use Rattle.std.specs.Prelude.{◌≡◌, ℕ, true, false, List, [], ◌∷◌, Some, None}
use Rattle.std.specs.Global.{Vec}
use Rattle.mls_leaf.specs.KeyPackage.{key_package}
use Rattle.mls_suite.specs.Crypto.{Crypto}
use Rattle.mls_model.specs.declared.event.Source.TheVariants.{Given, Message}
use Rattle.mls_model.specs.declared.event.Event.TheVariants as event
use Rattle.mls_model.specs.declared.event.Reply.TheVariants as reply
use Rattle.mls_model.specs.declared.origin.Origin.TheVariants.{Creation}
use Rattle.mls_model.specs.Candidate.{Candidate}
use Rattle.mls_model.specs.HomemadeTest.{is_homemade}
use Rattle.mls_model.specs.Journal.{Entry, Journal, CommitMade, new_journal, with_entry}
use Rattle.mls_model.specs.World.{World, Seat, empty_world, commit_for_joiner}
use Rattle.mls_model.specs.Run.{replies}

-- ---- homemade journals

-- a commit with this one byte, that names nothing
abbrev pub entry_with : ℕ → Entry
entry_with n = record { commit = n ∷ []; named_messages = [] }

-- a commit with this one byte was made at this journal and reached this epoch secret
abbrev pub made_at : Journal → ℕ → ℕ → CommitMade
made_at j n epoch =
    record { maker = 0; journal = j; entry = entry_with n; epoch_secret = epoch ∷ []; adds = []; welcome = None }

abbrev pub created_0 : Journal
created_0 = new_journal (Creation 0)

abbrev pub CreationIsHomemade : Type 0
CreationIsHomemade = is_homemade [] created_0 ≡ true

-- a member followed commit 1, which nobody made here
abbrev pub NotMadeHere : Type 0
NotMadeHere = is_homemade [] (with_entry created_0 (entry_with 1)) ≡ false

-- a journal is homemade from when another member makes exactly the commit that was followed
abbrev pub MadeLater : Type 0
MadeLater = is_homemade (made_at created_0 1 9 ∷ []) (with_entry created_0 (entry_with 1)) ≡ true

-- a journal stays homemade where a call makes its commit again and reaches the same epoch secret
abbrev pub MadeAgain : Type 0
MadeAgain = is_homemade (made_at created_0 1 9 ∷ made_at created_0 1 9 ∷ [])
    (with_entry created_0 (entry_with 1)) ≡ true

-- a journal is homemade no more where a call makes its commit again and reaches another epoch secret
abbrev pub MadeOtherwise : Type 0
MadeOtherwise = is_homemade (made_at created_0 1 9 ∷ made_at created_0 1 8 ∷ [])
    (with_entry created_0 (entry_with 1)) ≡ false

-- a commit that was made at another journal makes no journal homemade
abbrev pub MadeElsewhere : Type 0
MadeElsewhere = is_homemade (made_at (new_journal (Creation 1)) 1 9 ∷ []) (with_entry created_0 (entry_with 1)) ≡ false

-- each entry counts: commit 2 was made behind commit 1, and commit 1 was not made
abbrev pub MadeBehind : Type 0
MadeBehind = is_homemade (made_at (with_entry created_0 (entry_with 1)) 2 9 ∷ [])
    (with_entry (with_entry created_0 (entry_with 1)) (entry_with 2)) ≡ false

-- ---- Welcomes

-- a commit that adds some KeyPackages, and its Welcome
abbrev pub welcoming : List (List ℕ) → ℕ → List ℕ → CommitMade
welcoming adds number bytes =
    record {
      maker = 0;
      journal = created_0;
      entry = entry_with 1;
      epoch_secret = [];
      adds = adds;
      welcome = Some (number, bytes);
    }

-- two commits with one Welcome, message 2 and message 4, of which the second adds the candidate: by number it is that
-- very message, by bytes the first whose commit adds the candidate
abbrev pub ByNumber : Type 0
ByNumber = (k : Candidate) (bytes : List ℕ) →
    commit_for_joiner (welcoming [] 2 bytes ∷ welcoming (key_package.spell k.offered ∷ []) 4 bytes ∷ [])
    (Message 4) k ≡ Some (welcoming (key_package.spell k.offered ∷ []) 4 bytes)

abbrev pub ByOtherNumber : Type 0
ByOtherNumber = (k : Candidate) (bytes : List ℕ) →
    commit_for_joiner (welcoming [] 2 bytes ∷ welcoming (key_package.spell k.offered ∷ []) 4 bytes ∷ [])
    (Message 2) k ≡ None

abbrev pub ByBytes : Type 0
ByBytes = (k : Candidate) (bytes : Vec ℕ) →
    commit_for_joiner (welcoming [] 2 bytes.items ∷ welcoming (key_package.spell k.offered ∷ []) 4 bytes.items ∷ [])
    (Given bytes) k ≡ Some (welcoming (key_package.spell k.offered ∷ []) 4 bytes.items)

-- ---- what a world answers before its members do

abbrev pub NobodyThere : Type 0
NobodyThere = (c : Crypto) (seed : List ℕ) (group : Vec ℕ) →
    replies c empty_world
    (event.Deliver 0 (Message 0) ∷ event.Join 0 (Message 0) ∷ event.Create 1 group seed ∷ event.DropPending 2
    ∷ event.ProposeUpdate 0 seed ∷ [])
    ≡ reply.Refused 90 ∷ reply.Refused 92 ∷ reply.Refused 92 ∷ reply.Refused 90 ∷ reply.Refused 90 ∷ []

-- a candidate that became a member, and no message
abbrev pub one_seated : Candidate → Seat → World
one_seated k s = record {
  entrants = record { candidate = k; is_spent = true } ∷ [];
  seats = s ∷ [];
  messages = [];
  commits = [];
}

-- a world answers `CandidateSpent` (91) before `NoSuchMessage` (94), and this before what the member says
abbrev pub WorldFirst : Type 0
WorldFirst = (c : Crypto) (k : Candidate) (s : Seat) →
    replies c (one_seated k s)
    (event.Join 0 (Message 0) ∷ event.Deliver 0 (Message 0) ∷ event.ProposeAdd 0 (Message 5) ∷ [])
    ≡ reply.Refused 91 ∷ reply.Refused 94 ∷ reply.Refused 94 ∷ []
