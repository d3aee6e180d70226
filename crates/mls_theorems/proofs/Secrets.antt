-- Members that were reached along one homemade journal have one epoch secret.
use Rattle.std.proofs.Common.{◌≡◌, ℕ, Bool, true, false, List, [], ◌∷◌, Option, Some, None, Result, Ok, refl, ap, sym, ◌∙◌, subst, ◌⊎◌, inl, inr, slice_get, true≢false}
use Rattle.std.specs.Prelude.{◌≢◌}
use Rattle.std.proofs.lemmas.Bool.{not-true}
use Rattle.mls_wire.specs.Laws.{ok_is}
use Rattle.mls_types.specs.declared.commit.ProposalOrRef.{ProposalOrRef}
use Rattle.mls_types.specs.declared.message.MlsMessage.TheVariants as message
use Rattle.mls_types.specs.declared.public_message.PublicMessage.{PublicMessage}
use Rattle.mls_types.specs.declared.signed.SignedBody.{SignedBody}
use Rattle.mls_suite.specs.Crypto.{Crypto, Lawful}
use Rattle.mls_tree_model.specs.Sets.{has}
use Rattle.mls_schedule.specs.Epoch.{nine_secrets}
use Rattle.mls_model.specs.declared.effect.Effect.{Effect}
use Rattle.mls_model.specs.declared.effect.Effect.TheVariants.{Advanced}
use Rattle.mls_model.specs.declared.origin.Origin.{Origin}
use Rattle.mls_model.specs.declared.origin.Origin.TheVariants.{Creation, GroupInfo as JoinedBy}
use Rattle.mls_model.specs.Agreement.{Agree, AgreeSecret, Keeps}
use Rattle.mls_model.specs.MemberInvariant.{IsGoodMember, IsGoodPending}
use Rattle.mls_model.specs.Claims.{IsMade, Receives, FollowsTo}
use Rattle.mls_model.specs.Invariant.{IsRecorded}
use Rattle.mls_model.specs.HomemadeTest.{is_homemade_from}
use Rattle.mls_model.specs.Journal.{Entry, Journal, CommitMade, names_in, removes_in, list_in, entry_of}
use Rattle.mls_model.specs.Lineage.{FollowedOther, IsReachedOver, IsReached}
use Rattle.mls_model.specs.Make.{Made}
use Rattle.mls_model.specs.Member.{Member, after_removal}
use Rattle.mls_model.specs.Messages.{decode_message, sender_leaf}
use Rattle.mls_model.specs.JournalState.{Creations}
use Rattle.mls_model.specs.Verdict.{own_pending, verdict}
use Rattle.mls_model.specs.World.{World}
use Rattle.mls_model.specs.VerdictFindings.{IsFramed, DidPending}
use Rattle.mls_model.proofs.Found.{ContentDid, CommitDid, ReceivedDid, DidOther}
use Rattle.mls_model.proofs.Receipts.{did_receive, did_take}
use Rattle.mls_model.proofs.CommitLaws.{names_in_order}
use Rattle.mls_theorems.proofs.CommitEntries.{list_at, made_along, removed_is}
use Rattle.mls_theorems.proofs.Delivered.{other_committer, one_said}
use Rattle.mls_theorems.proofs.Journals.{public_agreement}
use Rattle.mls_theorems.specs.CommitCalls.{Makes, made_of}
use Rattle.mls_theorems.proofs.Makes.{make_did}
use Rattle.mls_theorems.proofs.Pends.{made_pends}
use Rattle.mls_theorems.proofs.Stays.{receivers_hold}
use Rattle.mls_theorems.proofs.Homemade.{HasOneSecret, homemade_parts}
use Rattle.mls_theorems.proofs.Past.{reached_good, past_along}
use Rattle.mls_theorems.specs.EpochSecrets.{AllRecorded, OneSecret, SameSecret}

-- ---- a made commit, as bytes

message_is : (c : Crypto) (m : Member) (list : List ProposalOrRef) (wants_path : Bool) (seed : List ℕ) (made : Made) → Makes c m list wants_path seed made → made.pending.message ≡ made.commit
unfolding made_of
message_is c m list wants_path seed made k = subst (λ (x : Made). x.pending.message ≡ x.commit) k.made_is refl

pub pending_message : (c : Crypto) (m : Member) (list : List ProposalOrRef) (made : Made) → IsMade c m list made → made.pending.message ≡ made.commit
pending_message c m list made is = message_is c m list is.wants_path is.seed made (make_did c m list is.wants_path is.seed made is.is)

-- ---- one that followed it

-- what a member that followed the bytes of a made commit found in them
pub record FoundMade (c : Crypto) (maker before : Member) (list : List ProposalOrRef) (bytes : List ℕ) (x : Effect × Member) : Type 0 where
  pub apart : maker.keys.leaf ≢ before.keys.leaf
  pub keeps : Keeps before.kept list (names_in before.kept list)

found_by : (c : Crypto) (maker before : Member) (list : List ProposalOrRef) (call : Made) (bytes : List ℕ) (x : Effect × Member) → IsGoodMember c before → (g : IsGoodPending c maker call.pending) →
    decode_message bytes ≡ Ok (message.PublicMessage g.said) → list_in bytes ≡ list → ReceivedDid c before bytes x → FoundMade c maker before list bytes x
found_by c maker before list call bytes x good g reads lists d =
    let one : d.said ≡ g.said = one_said d.said g.said (decode_message bytes) d.decodes reads in
    let framed : IsFramed c before g.said bytes = subst (λ (v : PublicMessage). IsFramed c before v bytes) one d.is_framed in
    let did : ContentDid c before g.said.content bytes g.said.content.body x = subst (λ (v : PublicMessage). ContentDid c before v.content bytes v.content.body x) one d.did in
    let commit : CommitDid c before g.said.content g.commit g.tag x = subst (λ (b : SignedBody). ContentDid c before g.said.content bytes b x) g.says did in
    let same : g.commit.proposals ≡ list = sym (list_at bytes g.said g.commit g.tag reads g.says) ∙ lists in
    record {
      apart = λ e. other_committer c before bytes g.said g.commit g.tag good reads framed g.says (g.from ∙ e);
      keeps = subst (λ (l : List ProposalOrRef). Keeps before.kept l (names_in before.kept l)) same (names_in_order before.kept (sender_leaf g.said.content.sender) g.commit.proposals commit.used commit.uses);
    }

no_pending : (m : Member) (bytes : List ℕ) (x : Effect × Member) → own_pending m.pending bytes ≡ None → DidPending m bytes x → ⊥
no_pending m bytes x free d = let e = d.is_pending in let f = d.is_message in let n = rw (e, f) at free in cc

received_as : (c : Crypto) (m : Member) (bytes : List ℕ) (x : Effect × Member) → own_pending m.pending bytes ≡ None → verdict c m bytes ≡ Ok x → ReceivedDid c m bytes x
received_as c m bytes x free h = by_case (did_take c m bytes x h).did
  where
    by_case : DidPending m bytes x ⊎ DidOther c m bytes x → ReceivedDid c m bytes x
    by_case (inl d) = absurd (no_pending m bytes x free d)
    by_case (inr d) = did_receive c m bytes x d.is

one_answer : (r : Result (Effect × Member) ℕ) (x y : Effect × Member) → r ≡ Ok x → r ≡ Ok y → x ≡ y
one_answer r x y a b = ok_is x y (sym a ∙ b)

pub agree_secret : (m n : Member) → m.epoch_secret ≡ n.epoch_secret → AgreeSecret m n
agree_secret m n e = record { epoch = e; nine = ap nine_secrets e }

-- it reached the maker's secret
reached_by : (c : Crypto) (maker before m : Member) (list : List ProposalOrRef) (call : Made) (bytes : List ℕ) (epoch : ℕ) (after : Member) → call.commit ≡ bytes → verdict c before bytes ≡ Ok (Advanced epoch, after) → Receives c before list call → after.epoch_secret ≡ call.pending.epoch_secret
reached_by c maker before m list call bytes epoch after same is claim = by_test (has (removes_in before.kept list) before.keys.leaf) refl
  where
    here : verdict c before call.commit ≡ Ok (Advanced epoch, after)
    here = ap (verdict c before) same ∙ is

    by_test : (b : Bool) → has (removes_in before.kept list) before.keys.leaf ≡ b → after.epoch_secret ≡ call.pending.epoch_secret
    by_test true e = absurd (removed_is (after_removal before) after epoch (one_answer (verdict c before call.commit) _ _ (claim.removed e) here))
    by_test false e =
        let f : FollowsTo c before call = claim.follows e in
        sym (ap (λ (x : Effect × Member). x.1.epoch_secret) (one_answer (verdict c before call.commit) _ _ f.is here)) ∙ f.epoch

-- who follows another's commit reaches the secret that its maker reached
pub followed_secret : (c : Crypto) → Lawful c → (maker before m : Member) (list : List ProposalOrRef) (call : Made) (e : Entry) → IsMade c maker list call → IsGoodMember c before → Agree maker before → maker.epoch_secret ≡ before.epoch_secret →
    call.commit ≡ e.commit → names_in maker.kept list ≡ e.named_messages → FollowedOther c before e m → m.epoch_secret ≡ call.pending.epoch_secret
unfolding entry_of
followed_secret c laws maker before m list call e is good agree secret commit names f =
    let g : IsGoodPending c maker call.pending = made_pends c maker list call is in
    let a = made_along c maker list call is in
    let reads : decode_message e.commit ≡ Ok (message.PublicMessage g.said) = ap decode_message (sym commit ∙ sym (pending_message c maker list call is)) ∙ g.decodes in
    let lists : list_in e.commit ≡ list = ap list_in (sym commit) ∙ a.lists in
    let found = found_by c maker before list call e.commit (Advanced f.epoch, f.after) good g reads lists (received_as c before e.commit (Advanced f.epoch, f.after) f.free f.is) in
    let kept : names_in before.kept list ≡ names_in maker.kept list =
    ap (names_in before.kept) (sym lists) ∙ ap (λ (x : Entry). x.named_messages) f.entry ∙ sym names in
    let keeps : Keeps before.kept list (names_in maker.kept list) = subst (Keeps before.kept list) kept found.keeps in
    let active : before.gone ≡ false = not-true before.gone (did_take c before e.commit (Advanced f.epoch, f.after) f.is).active in
    let claim : Receives c before list call = receivers_hold c laws maker before list call is good active found.apart agree (agree_secret maker before secret) keeps in
    sym f.same.epoch ∙ reached_by c maker before m list call e.commit f.epoch f.after commit f.is claim

reaches : (c : Crypto) → Lawful c → (creations : Creations) (w : World) → AllRecorded c creations w → (origin : Origin) (e : Entry) (es : List Entry) (one : HasOneSecret w.commits (record { origin = origin; entries = es }) e) → OneSecret c creations w origin es →
    (before m : Member) → IsReached c creations w.commits origin es before → IsReachedOver c w.commits (record { origin = origin; entries = es }) before e m → m.epoch_secret ≡ one.secret
reaches c laws creations w all origin e es one same before m past (inl f) =
    let here = one.here in
    let d : IsRecorded c creations w one.which = all here.place one.which here.is in
    let stood : IsReached c creations w.commits origin es d.maker = subst (λ (l : Journal). IsReached c creations w.commits l.origin l.entries d.maker) here.journal d.reached in
    let agree : Agree d.maker before = public_agreement c creations origin es d.maker before (past_along c creations w.commits origin es d.maker stood) (past_along c creations w.commits origin es before past) in
    let commit : d.call.commit ≡ e.commit = sym d.commit ∙ ap (λ (x : Entry). x.commit) here.entry in
    let names : names_in d.maker.kept d.list ≡ e.named_messages = sym d.names ∙ ap (λ (x : Entry). x.named_messages) here.entry in
    followed_secret c laws d.maker before m d.list d.call e d.is_made (reached_good c creations w.commits origin es before past) agree (same d.maker before stood past) commit names f
    ∙ sym d.epoch ∙ one.all one.which here
reaches c laws creations w all origin e es one same before m past (inr (inl f)) = sym f.reaches ∙ one.all f.which f.here
reaches c laws creations w all origin e es one same before m past (inr (inr f)) = sym f.same.epoch ∙ f.joins.epoch ∙ sym f.epoch ∙ one.all f.which f.here

some_first : (f g : Member) (o : Option (Option Member)) → o ≡ Some (Some f) → o ≡ Some (Some g) → f ≡ g
some_first f g o a b = cc

-- where nothing followed yet, it is the creation's
pub one_creation : (c : Crypto) (creations : Creations) (made : List CommitMade) (k : ℕ) (m n : Member) → IsReached c creations made (Creation k) [] m → IsReached c creations made (Creation k) [] n → m.epoch_secret ≡ n.epoch_secret
unfolding IsReached
one_creation c creations made k m n a b =
    sym a.0.same.epoch ∙ ap (λ (x : Member). x.epoch_secret) (some_first a.0.first b.0.first (slice_get creations k) a.0.is b.0.is) ∙ b.0.same.epoch

began_secret : (c : Crypto) (creations : Creations) (w : World) (origin : Origin) → is_homemade_from w.commits origin [] ≡ true → OneSecret c creations w origin []
unfolding is_homemade_from
began_secret c creations w (Creation k) home m n a b = one_creation c creations w.commits k m n a b
began_secret c creations w (JoinedBy info) home m n a b = absurd (true≢false (sym home))

pub same_secret : SameSecret
unfolding IsReached
same_secret c laws creations w all origin [] home m n a b = began_secret c creations w origin home m n a b
same_secret c laws creations w all origin (e ∷ es) home m n a b =
    let p = homemade_parts w.commits origin e es home in
    let same : OneSecret c creations w origin es = same_secret c laws creations w all origin es p.1 in
    reaches c laws creations w all origin e es p.0 same a.0 m a.1 a.3 ∙ sym (reaches c laws creations w all origin e es p.0 same b.0 n b.1 b.3)
