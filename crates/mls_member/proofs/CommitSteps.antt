-- A commit's verdict in the steps in which code goes over it.
use Rattle.std.proofs.Common.{◌≡◌, ℕ, ◌+◌, ◌-◌, ◌<◌, ◌^◌, Bool, true, false, not, List, Option, Some, None, Result, Ok, Err, refl, sym, ap, subst, ◌∙◌, arith}
use Rattle.std.specs.Prelude.{nat_lt, IfSome}
use Rattle.std.specs.List.{list_any}
use Rattle.std.proofs.lemmas.Bool.{ltb-true}
use Rattle.mls_wire.specs.Combine.{vector, optional}
use Rattle.mls_leaf.specs.Faults.{Spells}
use Rattle.mls_leaf.proofs.WholeLaws.{spells_same}
use Rattle.mls_types.specs.UpdatePath.{update_path}
use Rattle.mls_types.specs.Commit.{proposal_or_ref, proposal_or_ref_nonempty}
use Rattle.mls_types.specs.declared.signed.SignedBody.{SignedBody}
use Rattle.mls_types.specs.declared.signed.SignedBody.TheVariants as body_of
use Rattle.mls_view.specs.Shown.{ShowsBodyTag}
use denote.Ref.{Bor}
use Rattle.mls_wire.specs.Checks.{DoesAs}
use Rattle.mls_wire.specs.Reading.{◌>>=◌}
use Rattle.std.specs.Str.{bytes_eq}
use Rattle.mls_types.specs.GroupContext.{group_context}
use Rattle.mls_schedule.specs.Epoch.{init_secret, next_epoch_secret, confirmation_tag}
use Rattle.mls_suite.specs.Crypto.{Crypto}
use Rattle.mls_tree_model.specs.Sets.{has}
use Rattle.mls_tree_model.specs.Term.{Term}
use Rattle.mls_treekem_model.specs.Height.{HasFollowed}
use Rattle.mls_types.specs.declared.update_path.UpdatePath.{UpdatePath}
use Rattle.mls_types.specs.declared.content.FramedContent.{FramedContent}
use Rattle.mls_treekem_model.specs.Keys.{Keys, PrivateKeys}
use Rattle.mls_treekem_model.specs.Make.{climb_to}
use Rattle.mls_types.specs.SignedParts.{framed_content_of}
use Rattle.mls_types.specs.declared.commit.Commit.{Commit}
use Rattle.mls_types.specs.declared.commit.ProposalOrRef.{ProposalOrRef}
use Rattle.mls_types.specs.declared.signed.SignedContent.{SignedContent}
use Rattle.mls_model.specs.declared.effect.Effect.{Effect}
use Rattle.mls_model.specs.declared.effect.Effect.TheVariants.{Advanced, Removed}
use Rattle.mls_model.specs.PublicState.{PublicState, Used}
use Rattle.mls_model.specs.Proposals.{removed_leaves}
use Rattle.mls_model.specs.Commit.{Change, change_of_commit, public_with}
use Rattle.mls_model.specs.Member.{Member, find_proposals, with_keys, follow_edits, with_epoch, after_removal}
use Rattle.mls_model.specs.Messages.{sender_leaf}
use Rattle.mls_model.specs.Verdict.{commit_verdict, open_path_secret, enter_epoch, enter_epoch_with}
use Rattle.mls_model.proofs.KeyLaws.{with_all_keys}
use Rattle.mls_member.specs.declared.error.Refusal.{Refusal}
use Rattle.mls_member.specs.Faults.{number_of}
use Rattle.mls_member.specs.Process.{check_commit, after_change, follow_commit, edited_keys, removes_leaf}
use Rattle.mls_member.proofs.Uses.{any_removes}

-- ---- private keys

-- keys that have followed the edits
pub followed_is : (own : Option (List ℕ)) (t : Term) (old new : PrivateKeys) → HasFollowed own t old new → follow_edits own t old ≡ new
unfolding follow_edits
followed_is own t old new h = ap (λ (ks : Keys). with_keys old ks) (sym h.keys) ∙ with_all_keys old new h.leaf

pub followed_of : (own : Option (List ℕ)) (t : Term) (old copy new : PrivateKeys) → copy ≡ old → HasFollowed own t copy new → new ≡ follow_edits own t old
followed_of own t old copy new same h = sym (followed_is own t old new (subst (λ (k : PrivateKeys). HasFollowed own t k new) same h))

-- ---- the steps

then_change : (ru : Result (List Used) ℕ) (rb : List Used → Result Change ℕ) (leaf : ℕ) (later : Change × Bool → Result (Effect × Member) ℕ) →
    ((ru >>= λ used. rb used >>= λ change. Ok (change, list_any (removes_leaf leaf) used)) >>= later) ≡ (ru >>= λ used. rb used >>= λ change. later (change, has (removed_leaves used) leaf))
then_change (Err n) rb leaf later = refl
then_change (Ok used) rb leaf later = by_body (rb used)
  where
    by_body : (r : Result Change ℕ) → ((r >>= λ change. Ok (change, list_any (removes_leaf leaf) used)) >>= later) ≡ (r >>= λ change. later (change, has (removed_leaves used) leaf))
    by_body (Err n) = refl
    by_body (Ok change) = ap (λ (b : Bool). later (change, b)) (any_removes used leaf)

commit_is : (c : Crypto) (m : Member) (v : SignedContent) (k : Commit) (tag : List ℕ) (committer : ℕ) (signature : List ℕ) → nat_lt m.public.context.epoch (2 ^ 64 - 1) ≡ true → committer ≡ sender_leaf v.sender → signature ≡ v.signature
    → commit_verdict c m v k tag ≡ (check_commit c m committer k (framed_content_of v) signature >>= after_change c m committer k tag)
unfolding commit_verdict check_commit after_change
commit_is c m v k tag committer signature e s g = rw (e, s, g) (sym (then_change (find_proposals m.kept (sender_leaf v.sender) k.proposals) (λ used. change_of_commit c m.public (sender_leaf v.sender) used k (framed_content_of v) v.signature) m.keys.leaf (after_change c m (sender_leaf v.sender) k tag)))

pub last_epoch : (c : Crypto) (m : Member) (v : SignedContent) (k : Commit) (tag : List ℕ) → nat_lt m.public.context.epoch (2 ^ 64 - 1) ≡ false → commit_verdict c m v k tag ≡ Err 66
unfolding commit_verdict
last_epoch c m v k tag e = rw e refl

-- another epoch has room
pub has_room : (epoch : ℕ) → nat_lt epoch (2 ^ 64 - 1) ≡ true → epoch + 1 < 2 ^ 64
has_room epoch h = let lt : epoch < 2 ^ 64 - 1 = ltb-true epoch (2 ^ 64 - 1) h in omega arith

-- the next epoch with all of the keys
pub entered_as : (m : Member) (change : Change) (secret : List ℕ) (keys : PrivateKeys) (tag : List ℕ) → keys.leaf ≡ m.keys.leaf → enter_epoch m change (climb_to secret keys) tag ≡ enter_epoch_with m change secret keys tag
unfolding enter_epoch enter_epoch_with
entered_as m change secret keys tag leaf = rw (with_all_keys m.keys keys leaf) refl

-- texts that aren't unequal are equal
pub not_unequal : (differ same : Bool) → differ ≡ not same → differ ≡ false → same ≡ true
not_unequal differ true e k = refl
not_unequal differ false e k = let q : true ≡ false = sym e ∙ k in cc

-- the other parts of a member whose group has begun the next epoch
advanced_as : (m n : Member) (p : PublicState) (epoch : List ℕ) (keys : PrivateKeys) → n.gone ≡ m.gone → n.signing ≡ m.signing → n.public ≡ p → with_epoch n n.public epoch keys ≡ with_epoch m p epoch keys
unfolding with_epoch
advanced_as m n p epoch keys gone signing public = rw (gone, signing, public) refl

pub enters : (m n new : Member) (change : Change) (secret : List ℕ) (keys : PrivateKeys) (tag epoch : List ℕ) (effect : Effect) → n.gone ≡ m.gone → n.signing ≡ m.signing → n.public ≡ public_with change tag → new ≡ with_epoch n n.public epoch keys → effect ≡ Advanced n.public.context.epoch
    → epoch ≡ next_epoch_secret (init_secret m.epoch_secret) secret (group_context.spell change.context) → bytes_eq tag (confirmation_tag epoch change.context.confirmed_transcript_hash) ≡ true → enter_epoch_with m change secret keys tag ≡ Ok (effect, new)
unfolding enter_epoch_with public_with
enters m n new change secret keys tag epoch effect gone signing public made told next right =
    let state = made ∙ advanced_as m n (public_with change tag) epoch keys gone signing public in
    let number = told ∙ ap (λ (p : PublicState). Advanced p.context.epoch) public in
    rw (sym next, right) (ap (λ (e : Effect). Ok (e, with_epoch m (public_with change tag) epoch keys)) (sym number) ∙ ap (λ (x : Member). Ok (effect, x)) (sym state))

-- ---- what follows

-- a call does this to a member
abbrev Does : Result (Effect × Member) ℕ → Member → Member → Result Effect Refusal → Type 0
Does defined old new result = DoesAs (λ e. e) number_of defined old new result

pub follow_fails : (c : Crypto) (m : Member) (committer : ℕ) (k : Commit) (content : FramedContent) (signature tag : List ℕ) (n : ℕ) → check_commit c m committer k content signature ≡ Err n → follow_commit c m committer k content signature tag ≡ Err n
follow_fails c m committer k content signature tag n e = rw e refl

pub follow_removed : (c : Crypto) (m new : Member) (committer : ℕ) (k : Commit) (content : FramedContent) (signature tag : List ℕ) (change : Change) (removes : Bool) → check_commit c m committer k content signature ≡ Ok (change, removes) → removes ≡ true → new ≡ after_removal m
    → follow_commit c m committer k content signature tag ≡ Ok (Removed, new)
unfolding after_change
follow_removed c m new committer k content signature tag change removes e r n = rw (e, r, n) refl

pub climb_fails : (c : Crypto) (m : Member) (committer : ℕ) (k : Commit) (content : FramedContent) (signature tag : List ℕ) (change : Change) (removes : Bool) (n : ℕ) → check_commit c m committer k content signature ≡ Ok (change, removes) → removes ≡ false
    → open_path_secret c m committer change (edited_keys m k change) k.path ≡ Err n → follow_commit c m committer k content signature tag ≡ Err n
unfolding after_change
climb_fails c m committer k content signature tag change removes n e r f = rw (e, r, f) refl

follow_enters : (c : Crypto) (m : Member) (committer : ℕ) (k : Commit) (content : FramedContent) (signature tag : List ℕ) (change : Change) (removes : Bool) (secret : List ℕ) (keys : PrivateKeys) → check_commit c m committer k content signature ≡ Ok (change, removes) → removes ≡ false
    → open_path_secret c m committer change (edited_keys m k change) k.path ≡ Ok (climb_to secret keys) → keys.leaf ≡ m.keys.leaf → follow_commit c m committer k content signature tag ≡ enter_epoch_with m change secret keys tag
unfolding after_change
follow_enters c m committer k content signature tag change removes secret keys e r f leaf = rw (e, r, f) (entered_as m change secret keys tag leaf)

pub follow_does : (c : Crypto) (m new : Member) (committer : ℕ) (k : Commit) (content : FramedContent) (signature tag : List ℕ) (change : Change) (removes : Bool) (secret : List ℕ) (keys : PrivateKeys) (result : Result Effect Refusal) → check_commit c m committer k content signature ≡ Ok (change, removes) → removes ≡ false
    → open_path_secret c m committer change (edited_keys m k change) k.path ≡ Ok (climb_to secret keys) → keys.leaf ≡ m.keys.leaf → Does (enter_epoch_with m change secret keys tag) m new result → Does (follow_commit c m committer k content signature tag) m new result
follow_does c m new committer k content signature tag change removes secret keys result e r f leaf does =
    subst (λ (d : Result (Effect × Member) ℕ). Does d m new result) (sym (follow_enters c m committer k content signature tag change removes secret keys e r f leaf)) does

-- ---- a verdict

abbrev commit_of : List ProposalOrRef → Option UpdatePath → Commit
commit_of list path = record { proposals = list; path = path }

-- a commit is made again of its parts
pub commit_same : (mine k : Commit) (list path : List ℕ) → Spells (vector proposal_or_ref proposal_or_ref_nonempty) mine.proposals list → Spells (optional update_path) mine.path path → Spells (vector proposal_or_ref proposal_or_ref_nonempty) k.proposals list → Spells (optional update_path) k.path path → mine ≡ k
commit_same mine k list path a b d e =
    ap (λ (l : List ProposalOrRef). commit_of l mine.path) (spells_same (vector proposal_or_ref proposal_or_ref_nonempty) mine.proposals k.proposals list a d)
    ∙ ap (λ (o : Option UpdatePath). commit_of k.proposals o) (spells_same (optional update_path) mine.path k.path path b e)

pub tag_is : (o : Option (Bor (List ℕ))) (body : SignedBody) (k : Commit) (tag seen : List ℕ) → ShowsBodyTag o body → body ≡ body_of.Commit k tag → IfSome o (λ t. seen ≡ t.now) → seen ≡ tag
tag_is o (body_of.Application text) k tag seen shows e h = absurd cc
tag_is o (body_of.Proposal p) k tag seen shows e h = absurd cc
tag_is None (body_of.Commit k2 tag2) k tag seen shows e h = absurd shows
tag_is (Some t) (body_of.Commit k2 tag2) k tag seen shows e h = let same : tag2 ≡ tag = cc in h ∙ shows ∙ same

pub commit_does : (c : Crypto) (m new : Member) (v : SignedContent) (k mine : Commit) (tag seen : List ℕ) (committer : ℕ) (signature : List ℕ) (result : Result Effect Refusal) → nat_lt m.public.context.epoch (2 ^ 64 - 1) ≡ true → committer ≡ sender_leaf v.sender → signature ≡ v.signature → mine ≡ k → seen ≡ tag
    → Does (follow_commit c m committer mine (framed_content_of v) signature seen) m new result → Does (commit_verdict c m v k tag) m new result
commit_does c m new v k mine tag seen committer signature result e s g same t does =
    subst (λ (r : Result (Effect × Member) ℕ). Does r m new result) (sym (commit_is c m v k tag committer signature e s g))
    (subst (λ (x : Commit). Does (follow_commit c m committer x (framed_content_of v) signature tag) m new result) same
    (subst (λ (l : List ℕ). Does (follow_commit c m committer mine (framed_content_of v) signature l) m new result) t does))
