-- A commit in two steps: its message, with the epoch that it begins, and then the Welcome.
use Rattle.std.specs.Prelude.{◌≡◌, ℕ, ◌≤◌, List, [], ◌∷◌, length, map, zip, Option, Some, None, option_map, Result, Ok}
use Rattle.std.specs.Global.{Vec}
use Rattle.mls_wire.specs.Checks.{Answers, ◌>>◌}
use Rattle.mls_wire.specs.Reading.{◌>>=◌}
use Rattle.mls_leaf.specs.Limits.{input_limit}
use Rattle.mls_leaf.specs.declared.extension.Extension.{Extension}
use Rattle.mls_leaf.specs.declared.key_package.KeyPackage.{KeyPackage}
use Rattle.mls_types.specs.Commit.{commit as commit_format}
use Rattle.mls_types.specs.GroupContext.{group_context}
use Rattle.mls_types.specs.Content.{framed_content}
use Rattle.mls_types.specs.SignedParts.{with_signature}
use Rattle.mls_types.specs.declared.commit.Commit.{Commit}
use Rattle.mls_types.specs.declared.content.Content.TheVariants as says
use Rattle.mls_types.specs.declared.content.FramedContent.{FramedContent}
use Rattle.mls_suite.specs.Crypto.{Crypto}
use Rattle.mls_tree_model.specs.Term.{Term}
use Rattle.mls_tree.specs.Tree.{Tree, term}
use Rattle.mls_treekem_model.specs.Seeds.{seal_seed}
use Rattle.mls_schedule.specs.Epoch.{init_secret, joiner_secret, epoch_secret, confirmation_tag}
use Rattle.mls_model.specs.PublicState.{PublicState, Used}
use Rattle.mls_model.specs.Proposals.{adds}
use Rattle.mls_model.specs.Commit.{Edits, Change, public_with, change_of}
use Rattle.mls_model.specs.Member.{Member, with_keys}
use Rattle.mls_model.specs.Messages.{require_within_limit, content_by, content_signature, message_by}
use Rattle.mls_model.specs.Make.{Made, MadePath, welcome_if}
use Rattle.mls_model.specs.Welcome.{unsigned_info, signed_info, welcome_message}
use Rattle.mls_message.specs.Sending.{IsSaidBy}
use Rattle.mls_message.specs.Speaks.{Speaks}
use Rattle.mls_message.specs.declared.speaker.Speaker.{Speaker}
use Rattle.mls_welcome.specs.Joiners.{package_and_leaf_of, AreSecretsOf}
use Rattle.mls_welcome.specs.declared.welcome_message.Joiner.{Joiner}
use Rattle.mls_make.specs.Faults.{number_of}
use Rattle.mls_make.specs.declared.error.MakeError.{MakeError}
use Rattle.mls_make.specs.declared.send_commit.Begun.{Begun}
use Rattle.mls_make.specs.declared.send_commit.Draft.{Draft}
use Rattle.mls_make.specs.declared.send_commit.SentCommit as declared

-- a commit's message, what it makes of the public state, and of the epoch that it begins the joiner secret, the epoch
-- secret and the confirmation tag
pub record SentCommit : Type 0 where
  pub message : List ℕ
  pub change : Change
  pub joiner : List ℕ
  pub epoch_secret : List ℕ
  pub tag : List ℕ

-- a sent commit, as the definitions have it
abbrev pub sent_as : declared.SentCommit → SentCommit
sent_as s =
    record {
      message = s.message.items;
      change = s.outcome.change;
      joiner = s.joiner;
      epoch_secret = s.epoch;
      tag = s.tag;
    }

-- a commit that passes its checks, by the extensions that the group then carries, its edits, the tree with its path and
-- its commit secret (RFC 9420, 12.4.1); `TooLong` (6) its message is too large
unfoldable pub send_commit : Crypto → Member → List Extension → Commit → Edits → Term → List ℕ →
    Result SentCommit ℕ
send_commit c m carried commit e t secret = do
  let said = content_by m (says.Commit commit)
  let signature = content_signature c m.signing said m.public.context
  let change = change_of m.public carried e t (framed_content.spell said) signature
  let joiner = joiner_secret (init_secret m.epoch_secret) secret
      (group_context.spell change.context)
  let epoch = epoch_secret joiner (group_context.spell change.context)
  let tag = confirmation_tag epoch change.context.confirmed_transcript_hash
  let bytes = message_by m (with_signature said signature tag)
  require_within_limit bytes
  Ok (record { message = bytes; change = change; joiner = joiner; epoch_secret = epoch; tag = tag })

-- a Welcome for those that are added to a group, where there are any, from the member at a leaf (RFC 9420, 12.4.3.1)
unfoldable pub welcome_from : Crypto → List ℕ → ℕ → PublicState → List ℕ → List ℕ → (ℕ → List ℕ) →
    List ℕ → ℕ → List (KeyPackage × ℕ) → Result (Option (List ℕ)) ℕ
welcome_from c signing signer p tag joiner secrets seed first [] = Ok None
welcome_from c signing signer p tag joiner secrets seed first (x ∷ xs) =
    welcome_message c (signed_info c signing (unsigned_info p tag signer)) joiner secrets
    (seal_seed seed) first (x ∷ xs) >>= λ bytes. Ok (Some bytes)

-- a sent commit with the Welcome for those that it adds, and with the pending state (RFC 9420, 12.4.1)
unfoldable pub with_welcome : Crypto → Member → List Used → MadePath → List ℕ → SentCommit →
    Result Made ℕ
with_welcome c m used made seed s = do
  welcome ← welcome_if c m s.change made s.joiner s.tag seed (zip (adds used) s.change.edits.added)
  Ok (record {
    commit = s.message;
    welcome = welcome;
    pending = record {
      message = s.message;
      public = public_with s.change s.tag;
      epoch_secret = s.epoch_secret;
      keys = with_keys m.keys made.climb.keys;
    };
  })

-- ---- what the parts of the code make

-- the joiner secret is that of the epoch that a change begins behind the speaker's, by its commit secret (RFC 9420, 8)
abbrev pub HasJoiner : Speaker → List ℕ → Change → Begun → Type 0
HasJoiner s secret change b =
    b.joiner ≡ joiner_secret (init_secret s.epoch.now) secret (group_context.spell change.context)

-- the epoch secret that a change has by its joiner secret (RFC 9420, 8)
abbrev pub epoch_of : List ℕ → Change → List ℕ
epoch_of joiner change = epoch_secret joiner (group_context.spell change.context)

-- the confirmation tag that a change has by its epoch secret (RFC 9420, 6.1)
abbrev pub tag_of : List ℕ → Change → List ℕ
tag_of epoch change = confirmation_tag epoch change.context.confirmed_transcript_hash

-- the change is what the speaker's content makes with these extensions, these edits and this tree
abbrev pub HasChange : Speaker → List Extension → Edits → Tree → FramedContent → Draft → Type 0
HasChange s carried e tree said d =
    d.outcome.change ≡ change_of s.group.now carried e (term tree) (framed_content.spell said)
    d.signature.items

-- the commit whose content this is, if it is of one, is no larger than a message may be
abbrev pub IsShortCommit : Speaker → FramedContent → Type 0
IsShortCommit s said =
    (commit : Commit) → IsSaidBy s (says.Commit commit) said →
    length (commit_format.spell commit) ≤ input_limit

-- The call sends the speaker's commit with these extensions, these edits, this tree and this commit secret, or refuses
-- with `TooLong` (6) where its message is too large, or with `OutOfMemory`.
abbrev pub SendsCommit : Crypto → Speaker → List Extension → Commit → Edits → Tree → List ℕ →
    Result declared.SentCommit MakeError → Type 0
SendsCommit c s carried commit e tree secret result =
    (m : Member) → Speaks m s →
    Answers sent_as number_of (send_commit c m carried commit e (term tree) secret) result

-- The call makes the Welcome of a group for its joiners, where there are any, from the speaker, or refuses with the
-- number of what fails, or with `OutOfMemory`.
abbrev pub WelcomesFrom : Crypto → Speaker → PublicState → List ℕ → List ℕ → List Joiner → List ℕ →
    ℕ → Result (Option (Vec ℕ)) MakeError → Type 0
WelcomesFrom c s p tag joiner_secret joiners seed first result =
    (secrets : ℕ → List ℕ) → AreSecretsOf joiner_secret secrets joiners →
    Answers (λ o. option_map (λ v. v.items) o) number_of
    (welcome_from c s.signing.now s.leaf p tag joiner_secret secrets seed first (map package_and_leaf_of joiners)) result
