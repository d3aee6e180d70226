-- A commit in the two steps in which code makes it.
use Rattle.std.proofs.Common.{◌≡◌, ℕ, ◌+◌, ◌%◌, ◌^◌, ◌<◌, ◌≤◌, ◌==◌, Bool, true, false, List, [], ◌∷◌, length, map, Option, Some, None, Result, Ok, Err, refl, sym, ap, subst, ◌∙◌, arith}
use Rattle.std.specs.Prelude.{zip}
use Rattle.mls_wire.specs.Checks.{Passed, ◌>>◌}
use Rattle.std.proofs.Math.Nat.{mod-eq_of_lt}
use Rattle.std.proofs.lemmas.Bool.{eqb-true}
use Rattle.mls_wire.proofs.CheckLaws.{then_ok}
use Rattle.mls_wire.specs.Reading.{◌>>=◌}
use Rattle.mls_leaf.specs.declared.extension.Extension.{Extension}
use Rattle.mls_leaf.specs.declared.key_package.KeyPackage.{KeyPackage}
use Rattle.mls_types.specs.GroupContext.{group_context}
use Rattle.mls_leaf.specs.Limits.{input_limit}
use Rattle.mls_types.specs.Commit.{commit as commit_format}
use Rattle.mls_types.specs.Content.{framed_content}
use Rattle.mls_types.specs.SignedParts.{with_signature}
use Rattle.mls_types.specs.declared.commit.Commit.{Commit}
use Rattle.mls_types.specs.declared.commit.ProposalOrRef.{ProposalOrRef}
use Rattle.mls_types.specs.declared.content.Content.TheVariants as says
use Rattle.mls_types.specs.declared.content.FramedContent.{FramedContent}
use Rattle.mls_suite.specs.Crypto.{Crypto}
use Rattle.mls_tree_model.specs.Term.{Term}
use Rattle.mls_treekem_model.specs.Keys.{Keys, PrivateKeys}
use Rattle.mls_treekem_model.specs.Seeds.{seal_seed}
use Rattle.mls_schedule.specs.Epoch.{init_secret, joiner_secret, epoch_secret, confirmation_tag}
use Rattle.mls_model.specs.PublicState.{PublicState, Used}
use Rattle.mls_model.specs.Proposals.{adds}
use Rattle.mls_model.specs.Commit.{Edits, Change, apply_proposals, apply_path_if, change_after_edits, public_with, change_of}
use Rattle.mls_model.specs.Member.{Member, with_keys}
use Rattle.mls_model.specs.Messages.{require_within_limit, content_by, content_signature, message_by}
use Rattle.mls_model.specs.Make.{Made, MadePath, welcome_if, path_secret_for, path_seals, carried_after, path_if_needed, commit_from_change, commit_from_path}
use Rattle.mls_model.specs.Welcome.{secrets_with, unsigned_info, signed_info, welcome_message}
use Rattle.mls_public_group.specs.MessageLimit.{limited_text}
use Rattle.mls_message.specs.Speaks.{Speaks}
use Rattle.mls_message.specs.declared.speaker.Speaker.{Speaker}
use Rattle.mls_treekem.specs.declared.secrets.PathSecrets.{PathSecrets}
use Rattle.mls_model.proofs.KeyLaws.{with_all_keys}
use Rattle.mls_welcome.specs.Joiners.{package_and_leaf_of, AreSecretsOf}
use Rattle.mls_welcome.specs.SentSecrets.{AreSentTo}
use Rattle.mls_welcome.specs.declared.welcome_message.Joiner.{Joiner}
use Rattle.mls_make.proofs.Bodies.{body_is, path_due}
use Rattle.mls_make.proofs.Lengths.{commit_within}
use Rattle.mls_make.specs.CommitCall.{AreCarriedBy}
use Rattle.mls_make.specs.OwnPath.{IsOwn}
use Rattle.mls_make.specs.TwoSteps.{SentCommit, send_commit, welcome_from, with_welcome}
use Rattle.mls_make.proofs.Sent.{secrets_sent}

abbrev pub commit_of : List ProposalOrRef → MadePath → Commit
commit_of list made = record { proposals = list; path = made.path }

-- ---- the first step

refused_through : {A : Type 0} (bytes : List ℕ) (x : A) (n : ℕ) → limited_text bytes ≡ Err n → (require_within_limit bytes >> Ok x) ≡ Err n
refused_through bytes x n h = through (require_within_limit bytes) h
  where
    through : (r : Result Passed ℕ) → (r >> Ok bytes) ≡ Err n → (r >> Ok x) ≡ Err n
    through (Ok p) e = cc
    through (Err k) e = cc

-- a content alone is too large
pub content_refused : (c : Crypto) (m : Member) (carried : List Extension) (commit : Commit) (e : Edits) (t : Term) (secret : List ℕ) (n : ℕ) → ((signature tag : List ℕ) → require_within_limit (message_by m (with_signature (content_by m (says.Commit commit)) signature tag)) ≡ Err n) → send_commit c m carried commit e t secret ≡ Err n
unfolding send_commit
content_refused c m carried commit e t secret n h = rw (h _ _) refl

abbrev sent_parts : List ℕ → Change → List ℕ → List ℕ → List ℕ → SentCommit
sent_parts message change joiner epoch tag = record { message = message; change = change; joiner = joiner; epoch_secret = epoch; tag = tag }

-- its parts, one after the other, as a speaker makes them
module _ (c : Crypto) (m : Member) (s : Speaker) (carried : List Extension) (commit : Commit) (e : Edits) (t : Term) (secret : List ℕ) (speaks : Speaks m s) (said : FramedContent) (said_is : said ≡ content_by m (says.Commit commit))
    (signature : List ℕ) (signature_is : signature ≡ content_signature c m.signing said m.public.context) (bytes signed : List ℕ) (bytes_are : bytes ≡ framed_content.spell said) (signed_is : signed ≡ signature)
    (change : Change) (change_is : change ≡ change_of s.group.now carried e t bytes signed) (joiner epoch tag : List ℕ) (joiner_is : joiner ≡ joiner_secret (init_secret s.epoch.now) secret (group_context.spell change.context))
    (epoch_is : epoch ≡ epoch_secret joiner (group_context.spell change.context)) (tag_is : tag ≡ confirmation_tag epoch change.context.confirmed_transcript_hash) where
  abbrev message_of : List ℕ
  message_of = message_by m (with_signature said signature tag)

  change_as : change ≡ change_of m.public carried e t (framed_content.spell said) signature
  change_as = change_is ∙ (rw (bytes_are, signed_is, ← speaks.public) refl)

  joiner_as : joiner ≡ joiner_secret (init_secret m.epoch_secret) secret (group_context.spell change.context)
  joiner_as = joiner_is ∙ ap (λ (l : List ℕ). joiner_secret (init_secret l) secret (group_context.spell change.context)) (sym speaks.epoch)

  sent_is : send_commit c m carried commit e t secret ≡ (require_within_limit message_of >> Ok (sent_parts message_of change joiner epoch tag))
  unfolding send_commit
  sent_is = let a = change_as in let b = joiner_as in cc

  pub sent_fails : (n : ℕ) → limited_text message_of ≡ Err n → send_commit c m carried commit e t secret ≡ Err n
  sent_fails n h = sent_is ∙ refused_through message_of (sent_parts message_of change joiner epoch tag) n h

  pub sent_done : (message : List ℕ) → limited_text message_of ≡ Ok message → send_commit c m carried commit e t secret ≡ Ok (sent_parts message change joiner epoch tag)
  sent_done message h =
      let two = then_ok (require_within_limit message_of) (Ok message_of) message h in
      let same : message_of ≡ message = cc in
      sent_is ∙ ap (λ (r : Result Passed ℕ). r >> Ok (sent_parts message_of change joiner epoch tag)) two.0 ∙ ap (λ (l : List ℕ). Ok (sent_parts l change joiner epoch tag)) same

-- what a change has of its parts
module _ (p : PublicState) (carried : List Extension) (e : Edits) (t : Term) (said signature : List ℕ) (change : Change) (is : change ≡ change_of p carried e t said signature) where
  pub edits_are : change.edits ≡ e
  unfolding change_of
  edits_are = ap (λ (x : Change). x.edits) is

  pub tree_is : change.tree ≡ t
  unfolding change_of
  tree_is = ap (λ (x : Change). x.tree) is

-- a member with the parts of a speaker
abbrev pub speaking : Speaker → Member
speaking s = record { gone = false; public = s.group.now; epoch_secret = s.epoch.now; keys = record { leaf = s.leaf; own = []; above = [] }; signing = s.signing.now; kept = []; pending = None }

pub speaking_is : (s : Speaker) → Speaks (speaking s) s
speaking_is s = record { public = refl; epoch = refl; leaf = refl; signing = refl }

-- a commit whose content is no larger than a message may be
pub commit_short : (s : Speaker) (commit : Commit) (said : FramedContent) (bytes : List ℕ) → said ≡ content_by (speaking s) (says.Commit commit) → bytes ≡ framed_content.spell said → length bytes ≤ input_limit → length (commit_format.spell commit) ≤ input_limit
commit_short s commit said bytes is spelled le = commit_within (speaking s) commit (subst (λ (v : FramedContent). length (framed_content.spell v) ≤ input_limit) is (subst (λ (l : List ℕ). length l ≤ input_limit) spelled le))

-- ---- both steps

in_two : {A B : Type 0} (r : Result Passed ℕ) (x : A) (f : A → Result B ℕ) → ((r >> Ok x) >>= f) ≡ (r >> f x)
in_two (Ok p) x f = refl
in_two (Err n) x f = refl

module _ (c : Crypto) (m : Member) (list : List ProposalOrRef) (used : List Used) (e : Edits) (t : Term) (made : MadePath) (seed : List ℕ) where
  abbrev said : FramedContent
  said = content_by m (says.Commit (commit_of list made))

  abbrev signature : List ℕ
  signature = content_signature c m.signing said m.public.context

  abbrev change : Change
  change = change_of m.public (carried_after m used) e t (framed_content.spell said) signature

  of_change : commit_from_change c m said signature used e made seed change ≡ (send_commit c m (carried_after m used) (commit_of list made) e t made.climb.secret >>= with_welcome c m used made seed)
  unfolding commit_from_change send_commit with_welcome change_of
  of_change = sym (in_two (require_within_limit _) _ _)

  in_steps : change_after_edits c m.public m.keys.leaf used (commit_of list made) said signature e ≡ Ok change → commit_from_path c m list used e made seed ≡ (send_commit c m (carried_after m used) (commit_of list made) e t made.climb.secret >>= with_welcome c m used made seed)
  unfolding commit_from_path
  in_steps is = ap (λ (r : Result Change ℕ). r >>= commit_from_change c m said signature used e made seed) is ∙ of_change

  pub with_steps : (wants : Bool) → apply_proposals c m.public m.keys.leaf used ≡ Ok e → path_if_needed c m e used wants seed ≡ Ok made → apply_path_if c m.public m.keys.leaf e made.path ≡ Ok t
      → commit_from_path c m list used e made seed ≡ (send_commit c m (carried_after m used) (commit_of list made) e t made.climb.secret >>= with_welcome c m used made seed)
  with_steps wants edits path merges = in_steps (body_is c m used e (commit_of list made) t said signature (path_due c m e used wants seed made path) merges)

  -- by the extensions that code has
  sent_of : (carried : List Extension) → carried ≡ carried_after m used → send_commit c m (carried_after m used) (commit_of list made) e t made.climb.secret ≡ send_commit c m carried (commit_of list made) e t made.climb.secret
  sent_of carried same = ap (λ (l : List Extension). send_commit c m l (commit_of list made) e t made.climb.secret) (sym same)

  pub sending_fails : (wants : Bool) (n : ℕ) (carried : List Extension) → carried ≡ carried_after m used → apply_proposals c m.public m.keys.leaf used ≡ Ok e → path_if_needed c m e used wants seed ≡ Ok made → apply_path_if c m.public m.keys.leaf e made.path ≡ Ok t
      → send_commit c m carried (commit_of list made) e t made.climb.secret ≡ Err n → commit_from_path c m list used e made seed ≡ Err n
  sending_fails wants n carried same edits path merges h = with_steps wants edits path merges ∙ ap (λ (r : Result SentCommit ℕ). r >>= with_welcome c m used made seed) (sent_of carried same ∙ h)

  pub sending_goes : (wants : Bool) (sent : SentCommit) (carried : List Extension) → carried ≡ carried_after m used → apply_proposals c m.public m.keys.leaf used ≡ Ok e → path_if_needed c m e used wants seed ≡ Ok made → apply_path_if c m.public m.keys.leaf e made.path ≡ Ok t
      → send_commit c m carried (commit_of list made) e t made.climb.secret ≡ Ok sent → commit_from_path c m list used e made seed ≡ with_welcome c m used made seed sent
  sending_goes wants sent carried same edits path merges h = with_steps wants edits path merges ∙ ap (λ (r : Result SentCommit ℕ). r >>= with_welcome c m used made seed) (sent_of carried same ∙ h)

-- the extensions that a speaker's group carries are its member's
pub carried_as : (m : Member) (s : Speaker) (used : List Used) (carried : List Extension) → Speaks m s → AreCarriedBy s used carried → carried ≡ carried_after m used
carried_as m s used carried speaks h = h ∙ rw speaks.public refl

-- ---- the second step

-- what each leaf is sent
abbrev pub sent_to : Member → Change → MadePath → List ℕ → List ℕ → ℕ → List ℕ
sent_to m change made joiner seed j = secrets_with joiner (path_secret_for made.path m change.edits seed j)

welcome_is : (c : Crypto) (m : Member) (change : Change) (made : MadePath) (joiner tag seed : List ℕ) (xs : List (KeyPackage × ℕ)) →
    welcome_if c m change made joiner tag seed xs ≡ welcome_from c m.signing m.keys.leaf (public_with change tag) tag joiner (sent_to m change made joiner seed) seed (path_seals made.path) xs
unfolding welcome_from
welcome_is c m change made joiner tag seed [] = refl
welcome_is c m change made joiner tag seed (x ∷ xs) = refl

abbrev made_so : SentCommit → Option (List ℕ) → PublicState → PrivateKeys → Made
made_so s welcome p keys = record { commit = s.message; welcome = welcome; pending = record { message = s.message; public = p; epoch_secret = s.epoch_secret; keys = keys } }

if_fails : (c : Crypto) (m : Member) (used : List Used) (made : MadePath) (seed : List ℕ) (s : SentCommit) (n : ℕ) → welcome_if c m s.change made s.joiner s.tag seed (zip (adds used) s.change.edits.added) ≡ Err n → with_welcome c m used made seed s ≡ Err n
unfolding with_welcome
if_fails c m used made seed s n h = rw h refl

if_done : (c : Crypto) (m : Member) (used : List Used) (made : MadePath) (seed : List ℕ) (s : SentCommit) (w : Option (List ℕ)) → welcome_if c m s.change made s.joiner s.tag seed (zip (adds used) s.change.edits.added) ≡ Ok w →
    with_welcome c m used made seed s ≡ Ok (made_so s w (public_with s.change s.tag) (with_keys m.keys made.climb.keys))
unfolding with_welcome
if_done c m used made seed s w h = rw h refl

-- of a speaker and of what it has of its path
module _ (c : Crypto) (m : Member) (s : Speaker) (speaks : Speaks m s) (used : List Used) (sent : SentCommit) (wants : Bool) (made : MadePath) (seed : List ℕ) (secrets : Option PathSecrets) (keys : PrivateKeys)
    (own : IsOwn c m used sent.change.edits wants seed made secrets keys) (js : List Joiner) (places : map package_and_leaf_of js ≡ zip (adds used) sent.change.edits.added) where
  pub secrets_are : AreSentTo sent.change.edits.tree s.leaf secrets js → AreSecretsOf sent.joiner (sent_to m sent.change made sent.joiner seed) js
  secrets_are h = secrets_sent c m used sent.change.edits wants seed sent.joiner made secrets js own.edits own.path own.sends places (subst (λ (i : ℕ). AreSentTo sent.change.edits.tree i secrets js) (sym speaks.leaf) h)

  module _ (p : PublicState) (p_is : p ≡ public_with sent.change sent.tag) (first : ℕ) (seals : path_seals made.path ≡ first) where
    abbrev welcome_made : Result (Option (List ℕ)) ℕ
    welcome_made = welcome_from c s.signing.now s.leaf p sent.tag sent.joiner (sent_to m sent.change made sent.joiner seed) seed first (map package_and_leaf_of js)

    made_is : welcome_if c m sent.change made sent.joiner sent.tag seed (zip (adds used) sent.change.edits.added) ≡ welcome_made
    made_is = welcome_is c m sent.change made sent.joiner sent.tag seed (zip (adds used) sent.change.edits.added) ∙ (rw (← places, ← p_is, seals, speaks.signing, speaks.leaf) refl)

    pub welcomed_fails : (n : ℕ) → welcome_made ≡ Err n → with_welcome c m used made seed sent ≡ Err n
    welcomed_fails n h = if_fails c m used made seed sent n (made_is ∙ h)

    pub welcomed_done : (w : Option (List ℕ)) → welcome_made ≡ Ok w → with_welcome c m used made seed sent ≡ Ok (made_so sent w p keys)
    welcomed_done w h =
        let all : with_keys m.keys made.climb.keys ≡ keys = ap (λ (ks : Keys). with_keys m.keys ks) own.keys_are ∙ with_all_keys m.keys keys own.leaf in
        if_done c m used made seed sent w (made_is ∙ h) ∙ ap (λ (q : PublicState). Ok (made_so sent w q (with_keys m.keys made.climb.keys))) (sym p_is) ∙ ap (λ (k : PrivateKeys). Ok (made_so sent w p k)) all

-- ---- a Welcome from its joiners

module _ (c : Crypto) (signing : List ℕ) (signer : ℕ) (p : PublicState) (tag joiner : List ℕ) (secrets : ℕ → List ℕ) (seed : List ℕ) (first : ℕ) where
  abbrev message_to : List Joiner → Result (List ℕ) ℕ
  message_to js = welcome_message c (signed_info c signing (unsigned_info p tag signer)) joiner secrets (seal_seed seed) first (map package_and_leaf_of js)

  pub from_none : (js : List Joiner) → (length js == 0) ≡ true → welcome_from c signing signer p tag joiner secrets seed first (map package_and_leaf_of js) ≡ Ok None
  unfolding welcome_from
  from_none [] e = refl
  from_none (j ∷ js) e = let none : length (j ∷ js) ≡ 0 = eqb-true (length (j ∷ js)) 0 e in absurd (omega arith)

  from_some : (js : List Joiner) → (length js == 0) ≡ false → welcome_from c signing signer p tag joiner secrets seed first (map package_and_leaf_of js) ≡ (message_to js >>= λ bytes. Ok (Some bytes))
  unfolding welcome_from
  from_some [] e = let same : true ≡ false = e in cc
  from_some (j ∷ js) e = refl

  pub from_refused : (js : List Joiner) (n : ℕ) → (length js == 0) ≡ false → message_to js ≡ Err n → welcome_from c signing signer p tag joiner secrets seed first (map package_and_leaf_of js) ≡ Err n
  from_refused js n e h = from_some js e ∙ ap (λ (r : Result (List ℕ) ℕ). r >>= λ bytes. Ok (Some bytes)) h

  pub from_done : (js : List Joiner) (bytes : List ℕ) → (length js == 0) ≡ false → message_to js ≡ Ok bytes → welcome_from c signing signer p tag joiner secrets seed first (map package_and_leaf_of js) ≡ Ok (Some bytes)
  from_done js bytes e h = from_some js e ∙ ap (λ (r : Result (List ℕ) ℕ). r >>= λ b. Ok (Some b)) h

-- ---- the number of the first seal

pub first_is : (x k r : ℕ) → x + k < 2 ^ 32 → r ≡ x % 2 ^ 32 → x ≡ r
first_is x k r lt e = let small : x < 2 ^ 32 = omega arith in sym (e ∙ mod-eq_of_lt small)

pub first_below : (x k r : ℕ) → x + k < 2 ^ 32 → r ≡ x % 2 ^ 32 → r + k < 2 ^ 32
first_below x k r lt e = let same : x ≡ r = first_is x k r lt e in omega arith

-- ---- what a speaker has of its path, by equal parts

pub own_from : (c : Crypto) (m : Member) (used : List Used) (e other : Edits) (wants : Bool) (seed : List ℕ) (made : MadePath) (secrets seen : Option PathSecrets) (keys : PrivateKeys) →
    IsOwn c m used e wants seed made secrets keys → other ≡ e → seen ≡ secrets → IsOwn c m used other wants seed made seen keys
own_from c m used e other wants seed made secrets seen keys own same is =
    subst (λ (x : Edits). IsOwn c m used x wants seed made seen keys) (sym same) (subst (λ (o : Option PathSecrets). IsOwn c m used e wants seed made o keys) (sym is) own)
