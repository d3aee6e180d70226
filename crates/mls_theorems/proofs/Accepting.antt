-- A commit that was made at a homemade journal is accepted by every other active member that has that journal and keeps what
-- it names.
use Rattle.std.proofs.Common.{◌≡◌, ℕ, ◌+◌, List, true, Some, Ok, refl, sym, ap, subst, ◌∙◌, slice_get}
use Rattle.std.specs.Prelude.{◌≢◌}
use Rattle.mls_types.specs.declared.commit.ProposalOrRef.{ProposalOrRef}
use Rattle.mls_suite.specs.Crypto.{Crypto, Lawful}
use Rattle.mls_tree_model.specs.Sets.{has}
use Rattle.mls_model.specs.declared.effect.Effect.{Effect}
use Rattle.mls_model.specs.declared.effect.Effect.TheVariants.{Advanced, Removed}
use Rattle.mls_model.specs.declared.event.Source.{Source}
use Rattle.mls_model.specs.Agreement.{Agree, Keeps}
use Rattle.mls_model.specs.PublicState.{PublicState}
use Rattle.mls_model.specs.Claims.{Receives, FollowsTo}
use Rattle.mls_model.specs.EpochLaws.{IsIn}
use Rattle.mls_model.proofs.EpochLaws.{advanced_active}
use Rattle.mls_model.specs.Headline.{FollowsCommit, LeavesGroup, Accepts, AcceptsHomemade, MakersKeep}
use Rattle.mls_model.specs.Invariant.{IsSeated, IsRecorded, IsGoodBy}
use Rattle.mls_model.specs.Journal.{Entry, CommitMade, with_entry, names_in, removes_in, list_in, entry_of}
use Rattle.mls_model.specs.Lineage.{IsReached}
use Rattle.mls_model.specs.Member.{Member, after_removal}
use Rattle.mls_model.specs.JournalState.{Creations}
use Rattle.mls_model.specs.Verdict.{verdict}
use Rattle.mls_model.specs.World.{World, Seat, bytes_of}
use Rattle.mls_model.proofs.CommitLaws.{names_are_held}
use Rattle.mls_model.proofs.UnchangedLaws.{DeliveryIs, delivery}
use Rattle.mls_theorems.proofs.Framing.{one_public}
use Rattle.mls_theorems.proofs.Journals.{public_agreement}
use Rattle.mls_theorems.proofs.Stays.{receivers_hold}
use Rattle.mls_theorems.proofs.Agreeing.{stands, along_same, homemade_from}
use Rattle.mls_theorems.proofs.Homemade.{entry_with}
use Rattle.mls_theorems.proofs.Leaves.{own_leaves}
use Rattle.mls_theorems.proofs.Lists.{one_there, set_here}
use Rattle.mls_theorems.proofs.Secrets.{agree_secret, same_secret}

-- ---- a commit that was made

entry_is : (m : Member) (e : Entry) → names_in m.kept (list_in e.commit) ≡ e.named_messages → entry_of m e.commit ≡ e
unfolding entry_of
entry_is m e h = ap (λ (x : List (List ℕ)). entry_with e.commit x) h

gone_is : (m : Member) → (after_removal m).gone ≡ true
unfolding after_removal
gone_is m = refl

accepts : (c : Crypto) (creations : Creations) (w : World) (k : ℕ) (d : CommitMade) (s : Seat) (source : Source) (r : IsRecorded c creations w d) → slice_get w.seats k ≡ Some s → Keeps s.member.kept (list_in d.entry.commit) d.entry.named_messages →
    bytes_of w source ≡ Ok d.entry.commit → Receives c s.member r.list r.call → Accepts c w k s source d
accepts c creations w k d s source r at keeps b claim =
    record {
      removed = λ e. by_leaves (delivery c w k s source d.entry.commit (Removed, after_removal s.member) at b (ap (verdict c s.member) r.commit ∙ claim.removed (ap (λ (l : List ProposalOrRef). has (removes_in s.member.kept l) s.member.keys.leaf) (sym r.listed) ∙ e)));
      follows = λ e. by_follows (claim.follows (ap (λ (l : List ProposalOrRef). has (removes_in s.member.kept l) s.member.keys.leaf) (sym r.listed) ∙ e));
    }
  where
    by_leaves : DeliveryIs c w k s source d.entry.commit (Removed, after_removal s.member) → LeavesGroup c w k s source
    by_leaves v =
        let t : Seat = record { member = after_removal s.member; journal = s.journal } in
        record { after = t; reply = v.reply; is_after = ap (λ (l : List Seat). slice_get l k) v.seats ∙ set_here w.seats k t s at; gone = gone_is s.member; journal = refl }

    by_follows : FollowsTo c s.member r.call → FollowsCommit c w k s source d
    by_follows f =
        let x : Effect × Member = (Advanced (s.member.public.context.epoch + 1), f.after) in
        let takes : verdict c s.member d.entry.commit ≡ Ok x = ap (verdict c s.member) r.commit ∙ f.is in
        let v : DeliveryIs c w k s source d.entry.commit x = delivery c w k s source d.entry.commit x at b takes in
        let arrived : IsIn f.after (s.member.public.context.epoch + 1) = advanced_active c s.member f.after d.entry.commit (s.member.public.context.epoch + 1) takes in
        let t : Seat = record { member = f.after; journal = with_entry s.journal (entry_of s.member d.entry.commit) } in
        record {
          after = t;
          reply = v.reply;
          is_after = record { is = ap (λ (l : List Seat). slice_get l k) v.seats ∙ set_here w.seats k t s at; active = arrived.active };
          context = arrived.context;
          journal = ap (with_entry s.journal) (entry_is s.member d.entry (names_are_held s.member.kept (list_in d.entry.commit) d.entry.named_messages keeps));
          epoch = f.epoch ∙ sym r.epoch;
        }

pub accepts_homemade : (c : Crypto) → Lawful c → (creations : Creations) (w : World) → IsGoodBy c creations w → AcceptsHomemade c w
accepts_homemade c laws creations w g k s source d x =
    let r : IsRecorded c creations w d = g.records x.place d x.made in
    let m : Member = s.member in
    let p : IsSeated c creations w s = g.members k s x.active in
    let here : IsReached c creations w.commits d.journal.origin d.journal.entries m = along_same c creations w s.journal d.journal m x.journal p.reached in
    let agree : Agree r.maker m = public_agreement c creations d.journal.origin d.journal.entries r.maker m (stands c creations w d.journal r.maker r.reached) (stands c creations w d.journal m here) in
    let secret : r.maker.epoch_secret ≡ m.epoch_secret = same_secret c laws creations w g.records d.journal.origin d.journal.entries (homemade_from w.commits d.journal x.homemade) r.maker m r.reached here in
    let keys : c.sig_public r.maker.signing ≢ c.sig_public m.signing = λ e. g.apart d.maker k r.seat s (λ f. x.other (sym f)) r.is_seat x.active.is (ap c.sig_public (sym r.same_signing) ∙ e) in
    let leaves : r.maker.keys.leaf ≢ m.keys.leaf = own_leaves c r.maker m r.is_made.good p.good (one_public r.maker m agree) keys in
    let kept : Keeps m.kept r.list (names_in r.maker.kept r.list) = subst (λ (names : List (List ℕ)). Keeps m.kept r.list names) r.names (subst (λ (l : List ProposalOrRef). Keeps m.kept l d.entry.named_messages) r.listed x.keeps) in
    let claim : Receives c m r.list r.call = receivers_hold c laws r.maker m r.list r.call r.is_made p.good x.active.active leaves agree (agree_secret r.maker m secret) kept in
    accepts c creations w k d s source r x.active.is x.keeps x.bytes claim

-- ---- the maker

-- at the journal at which it made a commit, it keeps what the commit names
pub makers_keep : (c : Crypto) (creations : Creations) (w : World) → IsGoodBy c creations w → MakersKeep w
makers_keep c creations w g n d s at a same =
    let r : IsRecorded c creations w d = g.records n d at in
    let m : Member = s.member in
    let seat : r.seat ≡ s = one_there (slice_get w.seats d.maker) r.seat s r.is_seat a.is in
    let here : IsReached c creations w.commits d.journal.origin d.journal.entries m = along_same c creations w s.journal d.journal m same (g.members d.maker s a).reached in
    let agree : Agree r.maker m = public_agreement c creations d.journal.origin d.journal.entries r.maker m (stands c creations w d.journal r.maker r.reached) (stands c creations w d.journal m here) in
    let public : r.maker.public ≡ m.public = one_public r.maker m agree in
    let epoch : r.maker.public.context.epoch ≡ r.seat.member.public.context.epoch = ap (λ (p : PublicState). p.context.epoch) public ∙ ap (λ (t : Seat). t.member.public.context.epoch) (sym seat) in
    let kept : Keeps m.kept r.list d.entry.named_messages = subst (λ (t : Seat). Keeps t.member.kept r.list d.entry.named_messages) seat (r.keeps epoch) in
    subst (λ (l : List ProposalOrRef). Keeps m.kept l d.entry.named_messages) (sym r.listed) kept
