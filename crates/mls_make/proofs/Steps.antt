-- The steps of a commit call, each by what the steps before it answered.
use Rattle.std.proofs.Common.{◌≡◌, ℕ, ◌-◌, ◌<◌, ◌^◌, nat_lt, Bool, not, List, [], ◌∷◌, length, zip, Option, Some, None, is_none, Result, Ok, Err, refl, ap, ◌∙◌, arith}
use Rattle.mls_wire.specs.Checks.{Passed, require, ◌>>◌}
use Rattle.mls_wire.specs.Reading.{◌>>=◌}
use Rattle.mls_leaf.specs.declared.extension.Extension.{Extension}
use Rattle.mls_leaf.specs.declared.key_package.KeyPackage.{KeyPackage}
use Rattle.mls_types.specs.declared.update_path.UpdatePath.{UpdatePath}
use Rattle.mls_types.specs.Content.{framed_content}
use Rattle.mls_types.specs.SignedParts.{with_signature}
use Rattle.mls_types.specs.declared.commit.Commit.{Commit}
use Rattle.mls_types.specs.declared.commit.ProposalOrRef.{ProposalOrRef}
use Rattle.mls_types.specs.declared.content.Content.TheVariants as says
use Rattle.mls_types.specs.declared.content.FramedContent.{FramedContent}
use Rattle.mls_suite.specs.Crypto.{Crypto}
use Rattle.mls_tree_model.specs.Term.{Term}
use Rattle.mls_treekem_model.specs.Seeds.{seal_seed}
use Rattle.mls_model.specs.PublicState.{Used}
use Rattle.mls_model.specs.Proposals.{adds}
use Rattle.mls_model.specs.Commit.{Edits, Change, apply_proposals, apply_path_if, public_with, change_of}
use Rattle.mls_model.specs.Member.{Member, find_proposals, with_keys}
use Rattle.mls_model.specs.Messages.{require_within_limit, content_by, content_signature, message_by}
use Rattle.mls_model.specs.Make.{MadePath, Made, path_secret_for, path_seals, welcome_if, make, carried_after, path_if_needed, path_with, commit_from_change, commit_from_path, commit_from_proposals}
use Rattle.mls_model.specs.Welcome.{unsigned_info, signed_info, secrets_with, welcome_message}
use Rattle.mls_public_group.specs.MessageLimit.{limited_text}
use Rattle.mls_message.specs.Speaks.{Speaks}
use Rattle.mls_message.specs.declared.speaker.Speaker.{Speaker}
use Rattle.mls_theorems.specs.CommitCalls.{joiner_of, epoch_of, tag_of}
use Rattle.mls_make.proofs.Bodies.{body_is, path_due}

-- ---- the checks before them (RFC 9420, 12.4.1)

-- 40 the member was removed, 67 it has a pending commit, 66 no epoch is left, 60, and then what stands behind its list
pub make_is : (c : Crypto) (m : Member) (list : List ProposalOrRef) (wants_path : Bool) (seed : List ℕ) →
    make c m list wants_path seed ≡ (require 40 (not m.gone) >> (require 67 (is_none m.pending) >> (require 66 (nat_lt m.public.context.epoch (2 ^ 64 - 1)) >> (find_proposals m.kept m.keys.leaf list >>= λ used. commit_from_proposals c m list used wants_path seed))))
unfolding make commit_from_proposals commit_from_path commit_from_change path_with
make_is c m list wants_path seed = refl

-- ---- what a commit says, and where it leads

abbrev pub commit_in : List ProposalOrRef → MadePath → Commit
commit_in list made = record { proposals = list; path = made.path }

abbrev pub said_in : Member → List ProposalOrRef → MadePath → FramedContent
said_in m list made = content_by m (says.Commit (commit_in list made))

abbrev pub signature_in : Crypto → Member → List ProposalOrRef → MadePath → List ℕ
signature_in c m list made = content_signature c m.signing (said_in m list made) m.public.context

abbrev pub change_in : Crypto → Member → List ProposalOrRef → List Extension → Edits → MadePath → Term → Change
change_in c m list carried e made t = change_of m.public carried e t (framed_content.spell (said_in m list made)) (signature_in c m list made)

-- ---- the edits, the path, the tree with it

module _ (c : Crypto) (m : Member) (list : List ProposalOrRef) (used : List Used) (wants_path : Bool) (seed : List ℕ) where
  pub edits_fail : (n : ℕ) → apply_proposals c m.public m.keys.leaf used ≡ Err n → commit_from_proposals c m list used wants_path seed ≡ Err n
  unfolding commit_from_proposals
  edits_fail n h = rw h refl

  module _ (e : Edits) (edits : apply_proposals c m.public m.keys.leaf used ≡ Ok e) where
    pub path_fails : (n : ℕ) → path_if_needed c m e used wants_path seed ≡ Err n → commit_from_proposals c m list used wants_path seed ≡ Err n
    unfolding commit_from_proposals
    path_fails n h = rw (edits, h) refl

    module _ (made : MadePath) (path : path_if_needed c m e used wants_path seed ≡ Ok made) where
      pub made_by_is : commit_from_proposals c m list used wants_path seed ≡ commit_from_path c m list used e made seed
      unfolding commit_from_proposals
      made_by_is = rw (edits, path) refl

      module _ (t : Term) (tree : apply_path_if c m.public m.keys.leaf e made.path ≡ Ok t) where
        pub made_with_is : commit_from_path c m list used e made seed ≡ commit_from_change c m (said_in m list made) (signature_in c m list made) used e made seed (change_in c m list (carried_after m used) e made t)
        unfolding commit_from_path
        made_with_is =
            rw (body_is c m used e (commit_in list made) t (said_in m list made) (signature_in c m list made) (path_due c m e used wants_path seed made path) tree) refl

        -- all of it in one
        pub made_is : commit_from_proposals c m list used wants_path seed ≡ commit_from_change c m (said_in m list made) (signature_in c m list made) used e made seed (change_in c m list (carried_after m used) e made t)
        made_is = made_by_is ∙ made_with_is

        -- a content alone is too large
        pub content_fails : (n : ℕ) → ((signature tag : List ℕ) → require_within_limit (message_by m (with_signature (said_in m list made) signature tag)) ≡ Err n) → commit_from_proposals c m list used wants_path seed ≡ Err n
        unfolding commit_from_change
        content_fails n h = made_is ∙ rw (h _ _) refl

-- ---- the message, and the Welcome

-- what a commit call made, by its message and its Welcome
abbrev pub made_as_of : Member → MadePath → Change → List ℕ → Option (List ℕ) → Made
made_as_of m made change bytes welcome = record {
  commit = bytes;
  welcome = welcome;
  pending = record { message = bytes; public = public_with change (tag_of m made change); epoch_secret = epoch_of m made change; keys = with_keys m.keys made.climb.keys };
}

through : {A : Type 0} (r : Result Passed ℕ) (bytes : List ℕ) (f : List ℕ → Result A ℕ) → (r >> f bytes) ≡ ((r >> Ok bytes) >>= f)
through (Ok x) bytes f = refl
through (Err n) bytes f = refl

module _ (c : Crypto) (m : Member) (said : FramedContent) (signature : List ℕ) (used : List Used) (e : Edits) (made : MadePath) (seed : List ℕ) (change : Change) where
  abbrev message : List ℕ
  message = message_by m (with_signature said signature (tag_of m made change))

  abbrev with_welcome : Result (Option (List ℕ)) ℕ
  with_welcome = welcome_if c m change made (joiner_of m made change) (tag_of m made change) seed (zip (adds used) e.added)

  pub made_of_is : commit_from_change c m said signature used e made seed change ≡ (limited_text message >>= λ bytes. with_welcome >>= λ welcome. Ok (made_as_of m made change bytes welcome))
  unfolding commit_from_change joiner_of epoch_of tag_of
  made_of_is = through (require_within_limit message) message (λ bytes. with_welcome >>= λ welcome. Ok (made_as_of m made change bytes welcome))

  pub message_fails : (n : ℕ) → limited_text message ≡ Err n → commit_from_change c m said signature used e made seed change ≡ Err n
  message_fails n h = made_of_is ∙ ap (λ (r : Result (List ℕ) ℕ). r >>= λ bytes. with_welcome >>= λ welcome. Ok (made_as_of m made change bytes welcome)) h

  module _ (bytes : List ℕ) (sent : limited_text message ≡ Ok bytes) where
    pub after_message : commit_from_change c m said signature used e made seed change ≡ (with_welcome >>= λ welcome. Ok (made_as_of m made change bytes welcome))
    after_message = made_of_is ∙ ap (λ (r : Result (List ℕ) ℕ). r >>= λ bytes. with_welcome >>= λ welcome. Ok (made_as_of m made change bytes welcome)) sent

    pub welcome_fails : (n : ℕ) → with_welcome ≡ Err n → commit_from_change c m said signature used e made seed change ≡ Err n
    welcome_fails n h = after_message ∙ ap (λ (r : Result (Option (List ℕ)) ℕ). r >>= λ welcome. Ok (made_as_of m made change bytes welcome)) h

    pub made_of_ok : (welcome : Option (List ℕ)) → with_welcome ≡ Ok welcome → commit_from_change c m said signature used e made seed change ≡ Ok (made_as_of m made change bytes welcome)
    made_of_ok welcome h = after_message ∙ ap (λ (r : Result (Option (List ℕ)) ℕ). r >>= λ welcome. Ok (made_as_of m made change bytes welcome)) h

-- ---- a Welcome where somebody is added

module _ (c : Crypto) (m : Member) (change : Change) (made : MadePath) (joiner tag seed : List ℕ) where
  -- its message
  abbrev pub welcome_of : List (KeyPackage × ℕ) → Result (List ℕ) ℕ
  welcome_of joiners =
      welcome_message c (signed_info c m.signing (unsigned_info (public_with change tag) tag m.keys.leaf)) joiner
      (λ j. secrets_with joiner (path_secret_for made.path m change.edits seed j)) (seal_seed seed) (path_seals made.path) joiners

  pub welcome_none : (joiners : List (KeyPackage × ℕ)) → length joiners ≡ 0 → welcome_if c m change made joiner tag seed joiners ≡ Ok None
  welcome_none [] e = refl
  welcome_none (x ∷ xs) e = absurd (omega arith)

  pub welcome_some : (joiners : List (KeyPackage × ℕ)) → 0 < length joiners → welcome_if c m change made joiner tag seed joiners ≡ (welcome_of joiners >>= λ bytes. Ok (Some bytes))
  welcome_some [] lt = absurd (omega arith)
  welcome_some (x ∷ xs) lt = refl

  pub welcome_ok : (joiners : List (KeyPackage × ℕ)) (bytes : List ℕ) → 0 < length joiners → welcome_of joiners ≡ Ok bytes → welcome_if c m change made joiner tag seed joiners ≡ Ok (Some bytes)
  welcome_ok joiners bytes lt h = welcome_some joiners lt ∙ ap (λ (r : Result (List ℕ) ℕ). r >>= λ b. Ok (Some b)) h

  pub welcome_refused : (joiners : List (KeyPackage × ℕ)) (n : ℕ) → 0 < length joiners → welcome_of joiners ≡ Err n → welcome_if c m change made joiner tag seed joiners ≡ Err n
  welcome_refused joiners n lt h = welcome_some joiners lt ∙ ap (λ (r : Result (List ℕ) ℕ). r >>= λ b. Ok (Some b)) h

-- ---- of a member that speaks

-- what is made of a speaker's parts is made of its member's
pub edited_as : (c : Crypto) (m : Member) (s : Speaker) (used : List Used) (r : Result Edits ℕ) → Speaks m s → apply_proposals c s.group.now s.leaf used ≡ r → apply_proposals c m.public m.keys.leaf used ≡ r
edited_as c m s used r sp h = rw (sp.public, sp.leaf) h

pub merged_as : (c : Crypto) (m : Member) (s : Speaker) (e : Edits) (path : Option UpdatePath) (r : Result Term ℕ) → Speaks m s → apply_path_if c s.group.now s.leaf e path ≡ r → apply_path_if c m.public m.keys.leaf e path ≡ r
merged_as c m s e path r sp h = rw (sp.public, sp.leaf) h
