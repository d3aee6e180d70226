-- The receivers of a commit that was made.
use Rattle.std.proofs.Common.{◌≡◌, ℕ, ◌+◌, ◌-◌, ◌^◌, nat_lt, Bool, true, false, not, List, Option, Some, None, Result, Ok, refl, sym, ap, ap₂, subst, ◌∙◌}
use Rattle.std.specs.Prelude.{◌≢◌}
use Rattle.std.specs.Str.{bytes_eq}
use Rattle.std.proofs.lemmas.Slice.Eq.{bytes_eq-Decides}
use Rattle.mls_wire.specs.Checks.{passed}
use Rattle.mls_types.specs.GroupContext.{group_context}
use Rattle.mls_types.specs.SignedParts.{framed_content_of}
use Rattle.mls_types.specs.declared.commit.Commit.{Commit}
use Rattle.mls_types.specs.declared.commit.ProposalOrRef.{ProposalOrRef}
use Rattle.mls_types.specs.declared.message.MlsMessage.{MlsMessage}
use Rattle.mls_types.specs.declared.message.MlsMessage.TheVariants as message
use Rattle.mls_types.specs.declared.public_message.PublicMessage.{PublicMessage}
use Rattle.mls_types.specs.declared.signed.SignedContent.{SignedContent}
use Rattle.mls_suite.specs.Crypto.{Crypto, Lawful}
use Rattle.mls_tree_model.specs.Sets.{has}
use Rattle.mls_treekem_model.specs.Make.{Climb}
use Rattle.mls_schedule.specs.Epoch.{init_secret, joiner_secret, epoch_secret, next_epoch_secret, confirmation_tag}
use Rattle.mls_model.specs.declared.effect.Effect.{Effect}
use Rattle.mls_model.specs.declared.effect.Effect.TheVariants.{Advanced, Removed}
use Rattle.mls_model.specs.PublicState.{PublicState, Used}
use Rattle.mls_model.specs.Proposals.{removed_leaves}
use Rattle.mls_model.specs.Commit.{Change, apply_proposals, change_of_commit, public_with}
use Rattle.mls_model.specs.Member.{Pending, Member, find_proposals, with_keys, keys_after_edits, with_epoch, after_removal}
use Rattle.mls_model.specs.Messages.{decode_message, sender_leaf}
use Rattle.mls_model.specs.Make.{MadePath, Made}
use Rattle.mls_model.specs.Verdict.{framing_checks, open_path_secret, enter_epoch_with, enter_epoch, commit_verdict, content_verdict, bytes_verdict, own_pending, verdict}
use Rattle.mls_model.specs.Agreement.{Agree, AgreeSecret, Keeps}
use Rattle.mls_model.specs.MemberInvariant.{IsGoodMember, IsGoodPending, IsGoodIfPending}
use Rattle.mls_model.specs.Journal.{names_in, removes_in}
use Rattle.mls_model.specs.Claims.{IsMade, Receives}
use Rattle.mls_theorems.proofs.Used.{used_alike, removes_in_lem}
use Rattle.mls_theorems.specs.CommitCalls.{commit_of, said_of, signature_of, joiner_of, epoch_of, tag_of, content_of, made_of, Makes}
use Rattle.mls_theorems.proofs.Makes.{make_did}
use Rattle.mls_model.specs.VerdictFindings.{reached_epoch}
use Rattle.mls_theorems.specs.SentCommits.{sent_of}
use Rattle.mls_theorems.proofs.Sent.{path_did, made_fits}
use Rattle.mls_theorems.proofs.Framing.{one_public, made_is_framed}
use Rattle.mls_theorems.specs.OpenedPaths.{IsChange, Stays, Climbs}
use Rattle.mls_theorems.proofs.Opened.{body_did, receiver_climbs}
use Rattle.mls_theorems.specs.Receivers.{FollowsOther, ReceivesOther, ReceiversOfStaying}

-- ---- it is no pending commit of the receiver

abbrev into : ℕ → Member → Result (Effect × Member) ℕ
into n after = Ok (Advanced n, after)

abbrev found : PublicMessage → Result MlsMessage ℕ
found v = Ok (message.PublicMessage v)

one_said : (v w : PublicMessage) → found v ≡ found w → v ≡ w
one_said v w e = cc

not_pending_by : (c : Crypto) (m : Member) (p : Pending) (bytes : List ℕ) (v : PublicMessage) (b : Bool) → IsGoodPending c m p → decode_message bytes ≡ Ok (message.PublicMessage v) → (sender_leaf v.content.sender ≡ m.keys.leaf → ⊥) →
    bytes_eq p.message bytes ≡ b → own_pending (Some p) bytes ≡ None
not_pending_by c m p bytes v true good is other e =
    let same : p.message ≡ bytes = (bytes_eq-Decides p.message bytes).0 e in
    let one : good.said ≡ v = one_said good.said v (sym good.decodes ∙ ap decode_message same ∙ is) in
    absurd (other (sym (ap (λ (x : PublicMessage). sender_leaf x.content.sender) one) ∙ good.from))
not_pending_by c m p bytes v false good is other e = rw e refl

not_pending : (c : Crypto) (m : Member) (o : Option Pending) (bytes : List ℕ) (v : PublicMessage) → IsGoodIfPending c m o → decode_message bytes ≡ Ok (message.PublicMessage v) → (sender_leaf v.content.sender ≡ m.keys.leaf → ⊥) → own_pending o bytes ≡ None
not_pending c m None bytes v good is other = refl
not_pending c m (Some p) bytes v good is other = not_pending_by c m p bytes v (bytes_eq p.message bytes) good is other refl

-- ---- the calls, one in another

verdict_by : (c : Crypto) (m : Member) (bytes : List ℕ) → m.gone ≡ false → own_pending m.pending bytes ≡ None → verdict c m bytes ≡ bytes_verdict c m bytes
unfolding verdict
verdict_by c m bytes g o = let n : not m.gone ≡ true = ap not g in rw (n, o) refl

received_by : (c : Crypto) (m : Member) (bytes : List ℕ) (v : PublicMessage) → decode_message bytes ≡ Ok (message.PublicMessage v) → framing_checks c m v bytes ≡ Ok passed → bytes_verdict c m bytes ≡ content_verdict c m v.content bytes v.content.body
unfolding bytes_verdict
received_by c m bytes v d f = rw (d, f) refl

removed_by : (c : Crypto) (m : Member) (v : SignedContent) (commit : Commit) (tag : List ℕ) (used : List Used) (change : Change) → nat_lt m.public.context.epoch (2 ^ 64 - 1) ≡ true →
    find_proposals m.kept (sender_leaf v.sender) commit.proposals ≡ Ok used → change_of_commit c m.public (sender_leaf v.sender) used commit (framed_content_of v) v.signature ≡ Ok change → has (removed_leaves used) m.keys.leaf ≡ true →
    commit_verdict c m v commit tag ≡ Ok (Removed, after_removal m)
unfolding commit_verdict
removed_by c m v commit tag used change e1 e2 e3 e4 = rw (e1, e2, e3, e4) refl

advanced_by : (c : Crypto) (m : Member) (v : SignedContent) (commit : Commit) (tag : List ℕ) (used : List Used) (change : Change) (climb : Climb) → nat_lt m.public.context.epoch (2 ^ 64 - 1) ≡ true →
    find_proposals m.kept (sender_leaf v.sender) commit.proposals ≡ Ok used → change_of_commit c m.public (sender_leaf v.sender) used commit (framed_content_of v) v.signature ≡ Ok change → has (removed_leaves used) m.keys.leaf ≡ false →
    open_path_secret c m (sender_leaf v.sender) change (keys_after_edits m commit.proposals change.edits.tree) commit.path ≡ Ok climb →
    bytes_eq tag (confirmation_tag (reached_epoch m change climb) change.context.confirmed_transcript_hash) ≡ true →
    commit_verdict c m v commit tag ≡ Ok (Advanced change.context.epoch, with_epoch m (public_with change tag) (reached_epoch m change climb) (with_keys m.keys climb.keys))
unfolding commit_verdict enter_epoch enter_epoch_with reached_epoch
advanced_by c m v commit tag used change climb e1 e2 e3 e4 e5 e6 = rw (e1, e2, e3, e4, e5, e6) refl

-- ---- the epoch secret

same_epoch : (maker m : Member) (path : MadePath) (change : Change) (climb : Climb) → maker.epoch_secret ≡ m.epoch_secret → climb.secret ≡ path.climb.secret → reached_epoch m change climb ≡ epoch_of maker path change
unfolding reached_epoch epoch_of joiner_of next_epoch_secret
same_epoch maker m path change climb e s =
    ap₂ (λ (x y : List ℕ). epoch_secret (joiner_secret (init_secret x) y (group_context.spell change.context)) (group_context.spell change.context)) (sym e) s

-- ---- the whole

-- what stands of a receiver and a made commit
pub record Meets (c : Crypto) (maker m : Member) (list : List ProposalOrRef) (wants_path : Bool) (seed : List ℕ) (made : Made) : Type 0 where
  pub made_by : Makes c maker list wants_path seed made
  pub below : nat_lt m.public.context.epoch (2 ^ 64 - 1) ≡ true
  pub reads : decode_message made.commit ≡ Ok (message.PublicMessage (sent_of c maker list made_by.path made_by.change))
  pub is_received : bytes_verdict c m made.commit ≡ commit_verdict c m (content_of c maker list made_by.path made_by.change) (commit_of list made_by.path) (tag_of maker made_by.path made_by.change)
  pub uses : find_proposals m.kept maker.keys.leaf list ≡ Ok made_by.used
  pub change_is : change_of_commit c m.public maker.keys.leaf made_by.used (commit_of list made_by.path) (said_of maker list made_by.path) (signature_of c maker list made_by.path) ≡ Ok made_by.change

is_commit : (c : Crypto) (m maker : Member) (list : List ProposalOrRef) (path : MadePath) (change : Change) (bytes : List ℕ) →
    content_verdict c m (sent_of c maker list path change).content bytes (sent_of c maker list path change).content.body ≡ commit_verdict c m (content_of c maker list path change) (commit_of list path) (tag_of maker path change)
unfolding content_verdict sent_of content_of said_of Rattle.mls_model.specs.Messages.content_by
is_commit c m maker list path change bytes = refl

pub sender_is : (c : Crypto) (maker : Member) (list : List ProposalOrRef) (path : MadePath) (change : Change) → sender_leaf (sent_of c maker list path change).content.sender ≡ maker.keys.leaf
unfolding sent_of content_of said_of Rattle.mls_model.specs.Messages.content_by
sender_is c maker list path change = refl

pub meets : (c : Crypto) → Lawful c → (maker m : Member) (list : List ProposalOrRef) (made : Made) (is : IsMade c maker list made) → IsGoodMember c m → maker.keys.leaf ≢ m.keys.leaf → Agree maker m → AgreeSecret maker m →
    Keeps m.kept list (names_in maker.kept list) → Meets c maker m list is.wants_path is.seed made
meets c laws maker m list made is good apart agree secret keeps =
    let k = make_did c maker list is.wants_path is.seed made is.is in
    let v : PublicMessage = sent_of c maker list k.path k.change in
    let reads : decode_message made.commit ≡ Ok (message.PublicMessage v) = (made_fits c maker list is.wants_path is.seed made k is.good is.fits).decodes in
    let passes : framing_checks c m v made.commit ≡ Ok passed = made_is_framed c laws maker m list k.path k.change made.commit is.good apart agree secret in
    let one : maker.public ≡ m.public = one_public maker m agree in
    record {
      made_by = k;
      below = subst (λ (p : PublicState). nat_lt p.context.epoch (2 ^ 64 - 1) ≡ true) one k.below;
      reads = reads;
      is_received = received_by c m made.commit v reads passes ∙ is_commit c m maker list k.path k.change made.commit;
      uses = used_alike c maker m maker.keys.leaf list k.used is.good.kept good.kept keeps k.uses;
      change_is = subst (λ (p : PublicState). change_of_commit c p maker.keys.leaf k.used (commit_of list k.path) (said_of maker list k.path) (signature_of c maker list k.path) ≡ Ok k.change) one k.change_is;
    }

-- the one that is removed
removed_claim : (c : Crypto) (maker m : Member) (list : List ProposalOrRef) (wants_path : Bool) (seed : List ℕ) (made : Made) (k : Meets c maker m list wants_path seed made) → has (removed_leaves k.made_by.used) m.keys.leaf ≡ true →
    bytes_verdict c m made.commit ≡ Ok (Removed, after_removal m)
unfolding content_of commit_of said_of Rattle.mls_model.specs.Messages.content_by
removed_claim c maker m list wants_path seed made k gone =
    k.is_received ∙ removed_by c m (content_of c maker list k.made_by.path k.made_by.change) (commit_of list k.made_by.path) (tag_of maker k.made_by.path k.made_by.change) k.made_by.used k.made_by.change k.below k.uses k.change_is gone

follows_claim : (c : Crypto) → Lawful c → (maker m : Member) (list : List ProposalOrRef) (wants_path : Bool) (seed : List ℕ) (made : Made) (k : Meets c maker m list wants_path seed made) → AgreeSecret maker m → Agree maker m →
    has (removed_leaves k.made_by.used) m.keys.leaf ≡ false → Stays c m maker.keys.leaf list k.made_by.edits → FollowsOther c m made
unfolding content_of commit_of said_of Rattle.mls_model.specs.Messages.content_by made_of tag_of with_epoch
follows_claim c laws maker m list wants_path seed made k secret agree here stays =
    let s = k.made_by in
    let tag : List ℕ = tag_of maker s.path s.change in
    let change : IsChange c maker.public maker.keys.leaf s.used (commit_of list s.path) s.change = body_did c maker.public maker.keys.leaf s.used (commit_of list s.path) _ _ s.change s.change_is in
    let climbs : Climbs c m maker.keys.leaf list s.path s.change =
    receiver_climbs c laws maker m list s.used s.edits seed s.path s.change (path_did c maker s.used s.edits wants_path seed s.path s.path_is) s.edits_are change stays in
    let epoch : reached_epoch m s.change climbs.climb ≡ epoch_of maker s.path s.change = same_epoch maker m s.path s.change climbs.climb secret.epoch climbs.secret in
    let confirmed : bytes_eq tag (confirmation_tag (reached_epoch m s.change climbs.climb) s.change.context.confirmed_transcript_hash) ≡ true =
    (bytes_eq-Decides _ _).1 (ap (λ (x : List ℕ). confirmation_tag x s.change.context.confirmed_transcript_hash) (sym epoch)) in
    let next : s.change.context.epoch ≡ m.public.context.epoch + 1 = change.epoch_is ∙ ap (λ (p : PublicState). p.context.epoch + 1) (one_public maker m agree) in
    let after : Member = with_epoch m (public_with s.change tag) (reached_epoch m s.change climbs.climb) (with_keys m.keys climbs.climb.keys) in
    record {
      after = after;
      is = k.is_received
          ∙ advanced_by c m (content_of c maker list s.path s.change) (commit_of list s.path) tag s.used s.change climbs.climb k.below k.uses k.change_is here climbs.is confirmed
          ∙ ap (λ (n : ℕ). into n after) next;
      public = ap (λ (x : Made). x.pending.public) s.made_is;
      epoch = epoch ∙ ap (λ (x : Made). x.pending.epoch_secret) s.made_is;
    }

pub receivers_of_staying : ReceiversOfStaying
receivers_of_staying c laws maker m list made is good apart agree secret keeps staying =
    let k = meets c laws maker m list made is good apart agree secret keeps in
    let names : removes_in m.kept list ≡ removed_leaves k.made_by.used = removes_in_lem m.kept maker.keys.leaf list k.made_by.used k.uses in
    let one : maker.public ≡ m.public = one_public maker m agree in
    let edits : apply_proposals c m.public maker.keys.leaf k.made_by.used ≡ Ok k.made_by.edits = subst (λ (p : PublicState). apply_proposals c p maker.keys.leaf k.made_by.used ≡ Ok k.made_by.edits) one k.made_by.edits_are in
    let v : PublicMessage = sent_of c maker list k.made_by.path k.made_by.change in
    let free : own_pending m.pending made.commit ≡ None = not_pending c m m.pending made.commit v good.pending k.reads (λ e. apart (sym (sender_is c maker list k.made_by.path k.made_by.change) ∙ e)) in
    record {
      removed = λ e. removed_claim c maker m list is.wants_path is.seed made k (sym (ap (λ (xs : List ℕ). has xs m.keys.leaf) names) ∙ e);
      follows = λ e. let here = sym (ap (λ (xs : List ℕ). has xs m.keys.leaf) names) ∙ e in
          follows_claim c laws maker m list is.wants_path is.seed made k secret agree here (staying k.made_by.used k.made_by.edits k.uses edits here);
      taken = λ active. verdict_by c m made.commit active free;
    }

-- as a verdict
pub receives_by : (c : Crypto) (m : Member) (list : List ProposalOrRef) (made : Made) → m.gone ≡ false → ReceivesOther c m list made → Receives c m list made
receives_by c m list made active r = record {
  removed = λ e. r.taken active ∙ r.removed e;
  follows = λ e. let f = r.follows e in record { after = f.after; is = r.taken active ∙ f.is; public = f.public; epoch = f.epoch };
}
