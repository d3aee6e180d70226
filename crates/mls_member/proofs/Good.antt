-- A good member stays good over each call, and a commit that it makes reaches the group.
use Rattle.std.proofs.Common.{◌≡◌, ℕ, Bool, true, false, not, List, [], ◌∷◌, Option, Some, None, Result, Ok, Err, refl, sym, ap, subst, ◌∙◌}
use Rattle.std.specs.Prelude.{IfOk, is_some}
use Rattle.std.specs.Global.{Vec}
use Rattle.std.specs.List.{AllByRecursion, filter}
use Rattle.std.proofs.lemmas.Bool.{true≢false}
use Rattle.std.proofs.lemmas.List.Elements.{All-filter, All-from_recursion, recursion_from_All}
use Rattle.mls_wire.specs.Checks.{passed, DoesAs}
use Rattle.mls_wire.specs.Format.{IsBytes}
use Rattle.mls_wire.specs.Laws.{bind_ok, ok_is}
use Rattle.mls_wire.specs.Reading.{◌>>=◌}
use Rattle.mls_leaf.specs.GroupExtensions.{are_allowed}
use Rattle.mls_leaf.specs.KeyPackage.{key_package}
use Rattle.mls_leaf.specs.declared.extension.Extension.{Extension}
use Rattle.mls_leaf.specs.declared.key_package.KeyPackage.{KeyPackage}
use Rattle.mls_leaf.specs.declared.leaf.LeafNode.{LeafNode}
use Rattle.mls_leaf.specs.declared.proposal.Proposal.{Proposal}
use Rattle.mls_leaf.specs.declared.proposal.Proposal.TheVariants as proposes
use Rattle.mls_types.specs.declared.commit.ProposalOrRef.{ProposalOrRef}
use Rattle.mls_types.specs.declared.commit.ProposalOrRef.TheVariants as listed
use Rattle.mls_suite.specs.Crypto.{Crypto, Lawful}
use Rattle.mls_checks.specs.Checks.{key_package_checks}
use Rattle.mls_tree.specs.Tree.{member_at}
use Rattle.mls_model.specs.declared.effect.Effect.{Effect}
use Rattle.mls_model.specs.declared.effect.Effect.TheVariants.{Advanced}
use Rattle.mls_model.specs.MemberInvariant.{IsGoodCandidate, IsGoodIfPending, IsGoodKept, IsGoodMember}
use Rattle.mls_model.specs.Candidate.{Candidate, leaf_key_of}
use Rattle.mls_model.specs.Join.{join_verdict}
use Rattle.mls_model.specs.Make.{commit_call}
use Rattle.mls_model.specs.Member.{KeptProposal, Pending, Member, find_proposal, find_proposals, with_epoch, without_pending}
use Rattle.mls_model.specs.Proposals.{proposal_checks}
use Rattle.mls_model.specs.Propose.{make_proposal, propose_add, updated_leaf, propose_update, propose_remove, propose_extensions}
use Rattle.mls_model.specs.PublicState.{PublicState, Used}
use Rattle.mls_treekem_model.specs.Keys.{PrivateKeys, all_keys}
use Rattle.mls_model.specs.Verdict.{own_pending, bytes_verdict, verdict}
use Rattle.mls_theorems.proofs.Sharing.{commits_reach}
use Rattle.mls_theorems.proofs.Committed.{created_good}
use Rattle.mls_theorems.proofs.Delivered.{delivered_good}
use Rattle.mls_theorems.proofs.Entered.{joined_good}
use Rattle.mls_theorems.proofs.Proposing.{added_good, updated_good, removed_good, extended_good}
use Rattle.mls_theorems.specs.SpelledParts.{FullFits}
use Rattle.mls_theorems.proofs.UnchangedMembers.{good_still, still}
use Rattle.mls_make.specs.CommitCall.{AreShortUsed}
use Rattle.mls_member.specs.declared.commit.Made.{Made}
use Rattle.mls_member.specs.declared.error.Refusal.{Refusal}
use Rattle.mls_member.specs.Answers.{messages_of, ReachesAll}
use Rattle.mls_member.specs.Faults.{number_of}
use Rattle.mls_member.specs.FirstEpoch.{first_public}
use Rattle.mls_member.specs.KeptProposals.{is_other}
use Rattle.mls_member.specs.Proposing.{send_and_keep, updated_answer}
use Rattle.mls_member.proofs.FirstEpoch.{created_made}

-- a call that does as its definition leaves a good member wherever that does
good_after : {A B : Type 0} (c : Crypto) (value : B → A) (defined : Result (A × Member) ℕ) (m n : Member) (r : Result B Refusal) → IsGoodMember c m → ((x : A × Member) → defined ≡ Ok x → IsGoodMember c x.1) → DoesAs value number_of defined m n r → IsGoodMember c n
good_after c value defined m n (Ok b) good keeps h = keeps (value b, n) h
good_after c value defined m n (Err e) good keeps h = subst (IsGoodMember c) (sym h.0) good

-- ---- how members come about, and a drop

pub create_good : (c : Crypto) (k : Candidate) (group seed : List ℕ) (leaf : LeafNode) (epoch own signing : List ℕ) (kept : List KeptProposal) (q : PublicState) (p : PrivateKeys) → leaf ≡ k.offered.leaf_node → epoch ≡ seed → own ≡ k.leaf → signing ≡ k.signing → kept ≡ [] →
    first_public c leaf group epoch ≡ Ok q → p.leaf ≡ 0 → all_keys p ≡ Some own ∷ [] → IsGoodCandidate c k → IsGoodMember c (record { gone = false; public = q; epoch_secret = epoch; keys = p; signing = signing; kept = kept; pending = None })
create_good c k group seed leaf epoch own signing kept q p leaf_is epoch_is own_is signing_is kept_is made at keys good =
    created_good c k group seed _ good (created_made c k group seed leaf epoch own signing kept q p leaf_is epoch_is own_is signing_is kept_is made at keys)

pub join_good : (c : Crypto) (k : Candidate) (bytes : List ℕ) (public : PublicState) (epoch : List ℕ) (keys : PrivateKeys) (info signing : List ℕ) (kept : List KeptProposal) → IsGoodCandidate c k →
    join_verdict c k bytes ≡ Ok (record { member = record { gone = false; public = public; epoch_secret = epoch; keys = keys; signing = k.signing; kept = []; pending = None }; info = info }) → signing ≡ k.signing → kept ≡ [] →
    IsGoodMember c (record { gone = false; public = public; epoch_secret = epoch; keys = keys; signing = signing; kept = kept; pending = None })
join_good c k bytes public epoch keys info signing kept good verdict_is signing_is kept_is = rw (signing_is, kept_is) (joined_good c k bytes _ good verdict_is)

pub drop_good : (c : Crypto) (m : Member) → IsGoodMember c m → IsGoodMember c (record { gone = m.gone; public = m.public; epoch_secret = m.epoch_secret; keys = m.keys; signing = m.signing; kept = m.kept; pending = None })
drop_good c m good = good_still c m m.gone m.kept None good good.kept tt

-- no pending commit is a good one
none_good : (c : Crypto) (m : Member) (pending : Option Pending) → is_some pending ≡ false → IsGoodIfPending c m pending
none_good c m None none = tt
none_good c m (Some p) none = absurd (true≢false none)

pub forget_good : (c : Crypto) (m n : Member) (reference : List ℕ) (kept : List KeptProposal) → n ≡ m → kept ≡ filter (is_other reference) n.kept → is_some m.pending ≡ false → IsGoodMember c m → IsGoodMember c (still n n.gone kept n.pending)
forget_good c m n reference kept same is none good =
    let g : IsGoodMember c n = subst (IsGoodMember c) (sym same) good in
    let none_now : is_some n.pending ≡ false = ap (λ (x : Member). is_some x.pending) same ∙ none in
    let ks = recursion_from_All (IsGoodKept c n) _ (All-filter (is_other reference) (IsGoodKept c n) n.kept (All-from_recursion (IsGoodKept c n) n.kept g.kept)) in
    subst (λ (l : List KeptProposal). IsGoodMember c (still n n.gone l n.pending)) (sym is)
    (good_still c n n.gone (filter (is_other reference) n.kept) n.pending g ks (none_good c _ n.pending none_now))

-- ---- messages

own_does : (c : Crypto) (m : Member) (bytes : List ℕ) (p : Pending) → m.gone ≡ false → own_pending m.pending bytes ≡ Some p → verdict c m bytes ≡ Ok (Advanced p.public.context.epoch, with_epoch m p.public p.epoch_secret p.keys)
unfolding verdict
own_does c m bytes p gone own = let a : not m.gone ≡ true = ap not gone in rw (a, own) refl

other_does : (c : Crypto) (m : Member) (bytes : List ℕ) → m.gone ≡ false → own_pending m.pending bytes ≡ None → verdict c m bytes ≡ bytes_verdict c m bytes
unfolding verdict
other_does c m bytes gone own = let a : not m.gone ≡ true = ap not gone in rw (a, own) refl

still_advanced : (m : Member) (p : Pending) → with_epoch (without_pending m) p.public p.epoch_secret p.keys ≡ with_epoch m p.public p.epoch_secret p.keys
unfolding with_epoch without_pending
still_advanced m p = refl

pub own_good : (c : Crypto) (m w n : Member) (bytes : List ℕ) (p : Pending) → IsGoodMember c m → IsBytes bytes → m.gone ≡ false → own_pending m.pending bytes ≡ Some p → w ≡ without_pending m → n ≡ with_epoch w p.public p.epoch_secret p.keys → IsGoodMember c n
own_good c m w n bytes p good are gone own free is =
    let same : with_epoch m p.public p.epoch_secret p.keys ≡ n = sym (is ∙ ap (λ (x : Member). with_epoch x p.public p.epoch_secret p.keys) free ∙ still_advanced m p) in
    subst (IsGoodMember c) same (delivered_good c m bytes (Advanced p.public.context.epoch, with_epoch m p.public p.epoch_secret p.keys) good are (own_does c m bytes p gone own))

pub other_good : (c : Crypto) (m w n : Member) (bytes : List ℕ) (r : Result Effect Refusal) → IsGoodMember c m → IsBytes bytes → m.gone ≡ false → own_pending m.pending bytes ≡ None → w ≡ m → DoesAs (λ (e : Effect). e) number_of (bytes_verdict c w bytes) w n r → IsGoodMember c n
other_good c m w n bytes r good are gone own same does =
    good_after c (λ (e : Effect). e) (bytes_verdict c m bytes) m n r good (λ x h. delivered_good c m bytes x good are (other_does c m bytes gone own ∙ h))
    (subst (λ (x : Member). DoesAs (λ (e : Effect). e) number_of (bytes_verdict c x bytes) x n r) same does)

-- ---- proposals

abbrev pub HasSent : Crypto → Member → Member → Proposal → Option (List ℕ) → Result (Vec ℕ) Refusal → Type 0
HasSent c m n said own r = DoesAs (λ (v : Vec ℕ). v.items) number_of (send_and_keep c m said own) m n r

proposed_is : (c : Crypto) (m : Member) (said : Proposal) (own : Option (List ℕ)) → m.gone ≡ false → proposal_checks c m.public m.keys.leaf said ≡ Ok passed → make_proposal c m said own ≡ send_and_keep c m said own
unfolding make_proposal
proposed_is c m said own gone checks = let a : not m.gone ≡ true = ap not gone in rw (a, checks) refl

-- the checks of a proposal, in the state and from the leaf of a member's parts
pub checks_at : (c : Crypto) (m v : Member) (i : ℕ) (said : Proposal) → v ≡ m → i ≡ v.keys.leaf → proposal_checks c v.public i said ≡ Ok passed → proposal_checks c m.public m.keys.leaf said ≡ Ok passed
checks_at c m v i said same at h =
    subst (λ (x : Member). proposal_checks c x.public x.keys.leaf said ≡ Ok passed) same (subst (λ (j : ℕ). proposal_checks c v.public j said ≡ Ok passed) at h)

pub not_gone : (m v : Member) → v ≡ m → v.gone ≡ false → m.gone ≡ false
not_gone m v same h = subst (λ (x : Member). x.gone ≡ false) same h

package_passes : (c : Crypto) (m : Member) (k : KeyPackage) → key_package_checks c k ≡ Ok passed → proposal_checks c m.public m.keys.leaf (proposes.Add k) ≡ Ok passed
unfolding proposal_checks
package_passes c m k h = h

pub add_good : (c : Crypto) (m n : Member) (k l : KeyPackage) (r : Result (Vec ℕ) Refusal) → IsGoodMember c m → key_package.Fits k → l ≡ k → m.gone ≡ false → key_package_checks c k ≡ Ok passed → HasSent c m n (proposes.Add l) None r → IsGoodMember c n
unfolding propose_add
add_good c m n k l r good fits same gone checks does =
    good_after c (λ (v : Vec ℕ). v.items) (send_and_keep c m (proposes.Add l) None) m n r good
    (λ x h. added_good c m l x good (subst key_package.Fits (sym same) fits) (proposed_is c m (proposes.Add l) None gone (package_passes c m l (subst (λ (y : KeyPackage). key_package_checks c y ≡ Ok passed) (sym same) checks)) ∙ h)) does

update_is : (c : Crypto) (m : Member) (seed own : List ℕ) (made : LeafNode) → m.gone ≡ false → updated_answer c m seed ≡ Ok made → own ≡ leaf_key_of c seed → proposal_checks c m.public m.keys.leaf (proposes.Update made) ≡ Ok passed →
    propose_update c m seed ≡ send_and_keep c m (proposes.Update made) (Some own)
unfolding propose_update
update_is c m seed own made gone leaf key checks =
    let a : not m.gone ≡ true = ap not gone in
    let s = bind_ok (member_at m.public.tree m.keys.leaf) (λ (old : LeafNode). Ok (updated_leaf c m old seed)) made leaf in
    let is : updated_leaf c m s.0 seed ≡ made = ok_is (updated_leaf c m s.0 seed) made s.2 in
    let e = s.1 in
    rw (a, e, is, key) (proposed_is c m (proposes.Update made) (Some (leaf_key_of c seed)) gone checks)

pub update_good : (c : Crypto) (m n : Member) (seed own : List ℕ) (made : LeafNode) (r : Result (Vec ℕ) Refusal) → IsGoodMember c m → m.gone ≡ false → updated_answer c m seed ≡ Ok made → own ≡ leaf_key_of c seed →
    proposal_checks c m.public m.keys.leaf (proposes.Update made) ≡ Ok passed → HasSent c m n (proposes.Update made) (Some own) r → IsGoodMember c n
update_good c m n seed own made r good gone leaf key checks does =
    good_after c (λ (v : Vec ℕ). v.items) (send_and_keep c m (proposes.Update made) (Some own)) m n r good (λ x h. updated_good c m seed x good (update_is c m seed own made gone leaf key checks ∙ h)) does

pub remove_good : (c : Crypto) (m n : Member) (leaf : ℕ) (r : Result (Vec ℕ) Refusal) → IsGoodMember c m → m.gone ≡ false → proposal_checks c m.public m.keys.leaf (proposes.Remove leaf) ≡ Ok passed → HasSent c m n (proposes.Remove leaf) None r → IsGoodMember c n
unfolding propose_remove
remove_good c m n leaf r good gone checks does =
    good_after c (λ (v : Vec ℕ). v.items) (send_and_keep c m (proposes.Remove leaf) None) m n r good (λ x h. removed_good c m leaf x good (proposed_is c m (proposes.Remove leaf) None gone checks ∙ h)) does

extensions_pass : (c : Crypto) (m : Member) (list : List Extension) → proposal_checks c m.public m.keys.leaf (proposes.GroupContextExtensions list) ≡ Ok passed
unfolding proposal_checks
extensions_pass c m list = refl

pub extensions_good : (c : Crypto) (m n : Member) (list : List Extension) (r : Result (Vec ℕ) Refusal) → IsGoodMember c m → are_allowed list ≡ true → m.gone ≡ false → HasSent c m n (proposes.GroupContextExtensions list) None r → IsGoodMember c n
unfolding propose_extensions
extensions_good c m n list r good may gone does =
    good_after c (λ (v : Vec ℕ). v.items) (send_and_keep c m (proposes.GroupContextExtensions list) None) m n r good
    (λ x h. extended_good c m list x good may (proposed_is c m (proposes.GroupContextExtensions list) None gone (extensions_pass c m list) ∙ h)) does

-- ---- commits

-- what a list has in full is short, since what it uses is
full_first : (kept : List KeptProposal) (i : ℕ) (x : ProposalOrRef) (u : Used) (us : List Used) → find_proposal kept i x ≡ Ok u → AreShortUsed (u ∷ us) → FullFits x
full_first kept i (listed.Proposal said) u us e short = (subst (λ (y : Used). AreShortUsed (y ∷ us)) (sym (ok_is _ u e)) short).0.0.fits
full_first kept i (listed.Reference r) u us e short = tt

pub full_fit : (kept : List KeptProposal) (i : ℕ) (list : List ProposalOrRef) (used : List Used) → find_proposals kept i list ≡ Ok used → AreShortUsed used → AllByRecursion FullFits list
unfolding find_proposals
full_fit kept i [] used e short = tt
full_fit kept i (x ∷ xs) used e short =
    let s = bind_ok (find_proposal kept i x) (λ u. find_proposals kept i xs >>= λ us. Ok (u ∷ us)) used e in
    let t = bind_ok (find_proposals kept i xs) (λ us. Ok (s.0 ∷ us)) used s.2 in
    let both : AreShortUsed (s.0 ∷ t.0) = subst AreShortUsed (sym (ok_is (s.0 ∷ t.0) used t.2)) short in
    (full_first kept i x s.0 t.0 s.1 both, full_fit kept i xs t.0 t.1 both.1)

pub commit_good : (c : Crypto) → Lawful c → (m n : Member) (list : List ProposalOrRef) (path : Bool) (seed : List ℕ) (r : Result Made Refusal) → IsGoodMember c m → AllByRecursion FullFits list → DoesAs messages_of number_of (commit_call c m list path seed) m n r →
    IsGoodMember c n × IfOk r (λ made. ReachesAll c m n list made)
commit_good c laws m n list path seed (Ok made) good full h = commits_reach c laws m list path seed (messages_of made, n) good full h
commit_good c laws m n list path seed (Err e) good full h = (subst (IsGoodMember c) (sym h.0) good, tt)
