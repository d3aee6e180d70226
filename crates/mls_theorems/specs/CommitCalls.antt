-- What a commit call that succeeded found and made.
use Rattle.std.specs.Prelude.{◌≡◌, ℕ, ◌^◌, ◌-◌, nat_lt, Bool, true, not, List, zip, Option, is_none, Ok}
use Rattle.mls_wire.specs.Checks.{passed}
use Rattle.mls_types.specs.GroupContext.{group_context}
use Rattle.mls_types.specs.SignedParts.{with_signature}
use Rattle.mls_types.specs.declared.commit.Commit.{Commit}
use Rattle.mls_types.specs.declared.commit.ProposalOrRef.{ProposalOrRef}
use Rattle.mls_types.specs.declared.content.Content.TheVariants as says
use Rattle.mls_types.specs.declared.content.FramedContent.{FramedContent}
use Rattle.mls_types.specs.declared.signed.SignedContent.{SignedContent}
use Rattle.mls_suite.specs.Crypto.{Crypto}
use Rattle.mls_schedule.specs.Epoch.{init_secret, joiner_secret, epoch_secret, confirmation_tag}
use Rattle.mls_model.specs.PublicState.{Used}
use Rattle.mls_model.specs.Proposals.{adds}
use Rattle.mls_model.specs.Commit.{Edits, Change, apply_proposals, change_of_commit, public_with}
use Rattle.mls_model.specs.Member.{Member, find_proposals, with_keys}
use Rattle.mls_model.specs.Messages.{require_within_limit, content_by, content_signature, message_by}
use Rattle.mls_model.specs.Make.{MadePath, Made, path_if_needed, welcome_if, make}

-- ---- what is made of a list and a path

unfoldable pub commit_of : List ProposalOrRef → MadePath → Commit
commit_of list path = record { proposals = list; path = path.path }

unfoldable pub said_of : Member → List ProposalOrRef → MadePath → FramedContent
said_of m list path = content_by m (says.Commit (commit_of list path))

unfoldable pub signature_of : Crypto → Member → List ProposalOrRef → MadePath → List ℕ
signature_of c m list path = content_signature c m.signing (said_of m list path) m.public.context

unfoldable pub joiner_of : Member → MadePath → Change → List ℕ
joiner_of m path change =
    joiner_secret (init_secret m.epoch_secret) path.climb.secret (group_context.spell change.context)

unfoldable pub epoch_of : Member → MadePath → Change → List ℕ
epoch_of m path change = epoch_secret (joiner_of m path change) (group_context.spell change.context)

unfoldable pub tag_of : Member → MadePath → Change → List ℕ
tag_of m path change = confirmation_tag (epoch_of m path change) change.context.confirmed_transcript_hash

-- the signed content of a commit that is made
unfoldable pub content_of : Crypto → Member → List ProposalOrRef → MadePath → Change → SignedContent
content_of c m list path change = with_signature (said_of m list path) (signature_of c m list path) (tag_of m path change)

unfoldable pub message_of : Crypto → Member → List ProposalOrRef → MadePath → Change → List ℕ
message_of c m list path change = message_by m (content_of c m list path change)

unfoldable pub made_of : Crypto → Member → List ProposalOrRef → MadePath → Change → Option (List ℕ) → Made
made_of c m list path change welcome = record {
  commit = message_of c m list path change;
  welcome = welcome;
  pending = record {
    message = message_of c m list path change;
    public = public_with change (tag_of m path change);
    epoch_secret = epoch_of m path change;
    keys = with_keys m.keys path.climb.keys;
  };
}

-- ---- the steps of a call

pub record Makes (c : Crypto) (m : Member) (list : List ProposalOrRef) (wants_path : Bool) (seed : List ℕ)
    (made : Made) : Type 0 where
  pub active : not m.gone ≡ true
  pub free : is_none m.pending ≡ true
  pub below : nat_lt m.public.context.epoch (2 ^ 64 - 1) ≡ true
  pub used : List Used
  pub uses : find_proposals m.kept m.keys.leaf list ≡ Ok used
  pub edits : Edits
  pub edits_are : apply_proposals c m.public m.keys.leaf used ≡ Ok edits
  pub path : MadePath
  pub path_is : path_if_needed c m edits used wants_path seed ≡ Ok path
  pub change : Change
  pub change_is : change_of_commit c m.public m.keys.leaf used (commit_of list path) (said_of m list path)
      (signature_of c m list path) ≡ Ok change
  pub short : require_within_limit (message_of c m list path change) ≡ Ok passed
  pub welcome : Option (List ℕ)
  pub welcome_is : welcome_if c m change path (joiner_of m path change)
      (tag_of m path change) seed (zip (adds used) edits.added) ≡ Ok welcome
  pub made_is : made_of c m list path change welcome ≡ made

-- a call that succeeded took these steps
abbrev pub MakeDid : Type 0
MakeDid = (c : Crypto) (m : Member) (list : List ProposalOrRef) (wants_path : Bool) (seed : List ℕ) (made : Made) →
    make c m list wants_path seed ≡ Ok made → Makes c m list wants_path seed made
