-- How a member is saved, and what is checked of it where it is loaded.
use Rattle.std.specs.Prelude.{◌≡◌, ℕ, ◌≤◌, Bool, true, false, List, [], ◌∷◌, length, map, Option, Some, None, option_map, Result, Ok, Err}
use Rattle.std.specs.Global.{Vec}
use Rattle.std.specs.List.{AllByRecursion}
use Rattle.std.specs.Str.{bytes_eq}
use Rattle.mls_wire.specs.Checks.{require, ◌>>◌}
use Rattle.mls_wire.specs.Reading.{◌>>=◌}
use Rattle.mls_wire.specs.Whole.{whole}
use Rattle.mls_leaf.specs.Faults.{Refuses, Spells}
use Rattle.mls_leaf.specs.Limits.{input_limit}
use Rattle.mls_leaf.specs.Proposal.{proposal as proposal_format}
use Rattle.mls_leaf.specs.declared.error.LeafError.{LeafError}
use Rattle.mls_leaf.specs.declared.leaf.LeafNode.{LeafNode}
use Rattle.mls_saved.specs.Member.{saved_member}
use Rattle.mls_saved.specs.State.{saved_state}
use Rattle.mls_saved.specs.declared.member.SavedMember.{SavedMember}
use Rattle.mls_saved.specs.declared.member.SavedPending.{SavedPending}
use Rattle.mls_saved.specs.declared.member.Standing.{Standing}
use Rattle.mls_saved.specs.declared.member.Standing.TheVariants.{Present, Removed}
use Rattle.mls_saved.specs.declared.proposal.SavedProposal.{SavedProposal}
use Rattle.mls_saved_state.specs.Faults.{number_of}
use Rattle.mls_saved_state.specs.Secrets.{secret_in, optional_secret_in}
use Rattle.mls_saved_state.specs.State.{saved_state_of, load_state, HasSecrets}
use Rattle.mls_saved_state.specs.declared.error.LoadError.{LoadError}
use Rattle.mls_suite.specs.Crypto.{Crypto}
use Rattle.mls_tree.specs.Refusals.{RefusesOutright}
use Rattle.mls_tree_model.specs.Term.{leaf_of}
use Rattle.mls_public_group.specs.Short.{IsBelow}
use Rattle.mls_model.specs.Member.{KeptProposal, Pending, Member}
use Rattle.mls_model.specs.MemberInvariant.{IsGoodMember}

-- ---- saving

-- whether a member was removed
abbrev pub standing_of : Bool → Standing
standing_of false = Present
standing_of true = Removed

-- a kept proposal as it is saved
abbrev pub saved_proposal_of : KeptProposal → SavedProposal
saved_proposal_of k =
    record {
      reference = k.reference;
      message = k.message;
      proposal = k.proposal;
      sender = k.sender;
      own_key = k.own_key;
    }

-- a pending commit as it is saved
abbrev pub saved_pending_of : Pending → SavedPending
saved_pending_of p =
    record { message = p.message; state = saved_state_of p.public p.epoch_secret p.keys }

-- a member as it is saved
unfoldable pub saved_of : Member → SavedMember
saved_of m =
    record {
      standing = standing_of m.gone;
      state = saved_state_of m.public m.epoch_secret m.keys;
      signing = m.signing;
      kept = map saved_proposal_of m.kept;
      pending = option_map saved_pending_of m.pending;
    }

-- a saved member has a spelling, of no more bytes than an input has
abbrev pub FitsInput : SavedMember → Type 0
FitsInput v = saved_member.Fits v × (length (saved_member.spell v) ≤ input_limit)

-- What a call returned is the one spelling of a saved member, of no more bytes than an input has. The error is want of
-- memory, or `TooLong` (6) where there is none.
abbrev pub Saves : SavedMember → Result (Vec ℕ) LeafError → Type 0
Saves v (Ok bytes) = Spells saved_member v bytes.items × (length bytes.items ≤ input_limit)
Saves v (Err e) = Refuses (FitsInput v) e

-- ---- loading

-- whether a saved member was removed
abbrev pub is_removed : Standing → Bool
is_removed Present = false
is_removed Removed = true

-- a kept proposal: `BadSecret` (101) its reference or its key is no secret
unfoldable pub load_kept : SavedProposal → Result KeptProposal ℕ
load_kept k = do
  reference ← secret_in k.reference
  own_key ← optional_secret_in k.own_key
  Ok (record { reference = reference; message = k.message; proposal = k.proposal; sender = k.sender; own_key = own_key })

-- kept proposals, in their order
unfoldable pub load_all_kept : List SavedProposal → Result (List KeptProposal) ℕ
load_all_kept [] = Ok []
load_all_kept (x ∷ xs) = do
  k ← load_kept x
  ks ← load_all_kept xs
  Ok (k ∷ ks)

-- a pending commit: what `load_state` refuses of the state that it leads to
unfoldable pub load_pending : Crypto → SavedPending → Result Pending ℕ
load_pending c p = do
  s ← load_state c p.state
  Ok (record { message = p.message; public = s.group; epoch_secret = s.epoch; keys = s.keys })

-- a pending commit, where one was saved
abbrev pub load_if_pending : Crypto → Option SavedPending → Result (Option Pending) ℕ
load_if_pending c None = Ok None
load_if_pending c (Some p) = load_pending c p >>= λ q. Ok (Some q)

-- whether a leaf has the public key of a signature key
abbrev pub signs_as : Crypto → Option LeafNode → List ℕ → Bool
signs_as c None signing = false
signs_as c (Some x) signing = bytes_eq x.signature_key (c.sig_public signing)

-- a member that was saved: what it knows of its epoch; `BadSecret` (101) its signature key is no secret,
-- `OtherKey` (104) its leaf has another; the proposals that it keeps, and its pending commit
unfoldable pub load_member : Crypto → SavedMember → Result Member ℕ
load_member c v = do
  now ← load_state c v.state
  signing ← secret_in v.signing
  require 104 (signs_as c (leaf_of now.group.tree now.keys.leaf) signing)
  kept ← load_all_kept v.kept
  pending ← load_if_pending c v.pending
  Ok (record {
    gone = is_removed v.standing;
    public = now.group;
    epoch_secret = now.epoch;
    keys = now.keys;
    signing = signing;
    kept = kept;
    pending = pending;
  })

-- the member that bytes are: decoding, then what is checked of it
unfoldable pub load : Crypto → List ℕ → Result Member ℕ
load c bytes = whole saved_member input_limit bytes >>= load_member c

-- faults of decoding are answered also when an allocation fails
abbrev pub RefusesUndecoded : {A : Type 0} → List ℕ → Result A LoadError → Type 0
RefusesUndecoded bytes result =
    RefusesOutright number_of (whole saved_member input_limit bytes) result

-- ---- what was saved is loaded

-- the secrets of a saved pending commit have 32 bytes
abbrev pub HasSecretsIfPending : Option SavedPending → Type 0
HasSecretsIfPending None = Unit {0}
HasSecretsIfPending (Some p) = HasSecrets p.state

-- a saved proposal is loaded as the one that it was
abbrev pub IsLoaded : KeptProposal → Type 0
IsLoaded k = load_kept (saved_proposal_of k) ≡ Ok k

-- a good member's saved form is loaded as the member that it was
abbrev pub IsLoadedIfGood : Crypto → Member → Type 0
IsLoadedIfGood c m = IsGoodMember c m → load_member c (saved_of m) ≡ Ok m

-- these bytes are loaded as the member, where it is good
abbrev pub LoadsAsWas : Crypto → Member → List ℕ → Type 0
LoadsAsWas c m bytes = IsGoodMember c m → load c bytes ≡ Ok m

-- each kept proposal is spelled in fewer than n bytes
abbrev pub AreSavedBelow : ℕ → List SavedProposal → Type 0
AreSavedBelow n kept =
    AllByRecursion (λ (k : SavedProposal). IsBelow n proposal_format k.proposal) kept

-- a saved pending commit is spelled in fewer than n bytes, if there is one
abbrev pub IsBelowIfPending : ℕ → Option SavedPending → Type 0
IsBelowIfPending n None = Unit {0}
IsBelowIfPending n (Some p) = IsBelow n saved_state p.state
