-- Commits lead where their entries say.
use Rattle.std.specs.Prelude.{◌≡◌, ℕ, List, Some, Ok}
use Rattle.mls_types.specs.declared.commit.ProposalOrRef.{ProposalOrRef}
use Rattle.mls_suite.specs.Crypto.{Crypto}
use Rattle.mls_schedule.specs.Epoch.{confirmation_tag}
use Rattle.mls_model.specs.declared.effect.Effect.TheVariants.{Advanced}
use Rattle.mls_model.specs.Claims.{IsMade}
use Rattle.mls_model.specs.Invariant.{tag_of_message}
use Rattle.mls_model.specs.Journal.{names_in, list_in, entry_of}
use Rattle.mls_model.specs.Make.{Made}
use Rattle.mls_model.specs.Member.{Member}
use Rattle.mls_model.specs.Messages.{decode_message}
use Rattle.mls_model.specs.JournalState.{public_after}
use Rattle.mls_model.specs.Verdict.{bytes_verdict}
use Rattle.mls_theorems.specs.UsedProposals.{AreGoodKept}

-- ---- a commit that was followed

-- a member that followed a commit, not its pending one, is in the public state that the entry leads to, in its next
-- epoch, with an epoch secret that fits the tag
pub record FollowsEntry (c : Crypto) (m : Member) (bytes : List ℕ) (epoch : ℕ) (after : Member) : Type 0 where
  pub public : public_after c m.public (entry_of m bytes) ≡ Ok after.public
  pub epoch_is : epoch ≡ after.public.context.epoch
  pub tag : List ℕ
  pub is_tag : tag_of_message (decode_message bytes) ≡ Some tag
  pub confirmed : confirmation_tag after.epoch_secret after.public.context.confirmed_transcript_hash ≡ tag
  pub signing : after.signing ≡ m.signing
  pub leaf : after.keys.leaf ≡ m.keys.leaf
  pub active : after.gone ≡ m.gone

abbrev pub ReceivedAlong : Type 0
ReceivedAlong = (c : Crypto) (m : Member) (bytes : List ℕ) (epoch : ℕ) (after : Member) → AreGoodKept c m m.kept →
    bytes_verdict c m bytes ≡ Ok (Advanced epoch, after) → FollowsEntry c m bytes epoch after

-- ---- a commit that was made

pub record MakesEntry (c : Crypto) (m : Member) (list : List ProposalOrRef) (made : Made) : Type 0 where
  pub lists : list_in made.commit ≡ list
  pub public : public_after c m.public (record { commit = made.commit; named_messages = names_in m.kept list })
      ≡ Ok made.pending.public
  pub is_tag : tag_of_message (decode_message made.commit)
      ≡ Some (confirmation_tag made.pending.epoch_secret made.pending.public.context.confirmed_transcript_hash)

abbrev pub MadeAlong : Type 0
MadeAlong = (c : Crypto) (m : Member) (list : List ProposalOrRef) (made : Made) → IsMade c m list made →
    MakesEntry c m list made
