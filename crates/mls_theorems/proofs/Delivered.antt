-- A good member stays good over whatever is delivered to it.
use Rattle.std.proofs.Common.{◌≡◌, ℕ, ◌==◌, Bool, true, false, not, ◌||◌, cond, List, [], ◌∷◌, Option, Some, is_some, IsSome, Result, Ok, refl, sym, ap, subst, ◌∙◌, ◌⊎◌, inl, inr, eqb-true, eq-eqb}
use Rattle.std.specs.Prelude.{◌≢◌, find}
use Rattle.std.specs.List.{AllByRecursion}
use Rattle.std.specs.Str.{bytes_eq}
use Rattle.std.proofs.lemmas.Bool.{true≢false}
use Rattle.std.proofs.lemmas.Slice.Eq.{bytes_eq-Decides}
use Rattle.mls_wire.specs.Format.{IsBytes}
use Rattle.mls_wire.specs.Laws.{ok_is}
use Rattle.mls_leaf.specs.Limits.{input_limit}
use Rattle.mls_leaf.proofs.WholeLaws.{whole_takes}
use Rattle.mls_leaf.specs.declared.proposal.Proposal.{Proposal}
use Rattle.mls_types.specs.Message.{mls_message}
use Rattle.mls_types.specs.SignedParts.{framed_content_of}
use Rattle.mls_types.specs.declared.commit.Commit.{Commit}
use Rattle.mls_types.specs.declared.content.FramedContent.{FramedContent}
use Rattle.mls_types.specs.declared.message.MlsMessage.{MlsMessage}
use Rattle.mls_types.specs.declared.message.MlsMessage.TheVariants as message
use Rattle.mls_types.specs.declared.public_message.PublicMessage.{PublicMessage}
use Rattle.mls_types.specs.declared.signed.SignedBody.{SignedBody}
use Rattle.mls_types.specs.declared.signed.SignedBody.TheVariants as body_of
use Rattle.mls_suite.specs.Crypto.{Crypto}
use Rattle.mls_leaf.specs.declared.leaf.LeafNode.{LeafNode}
use Rattle.mls_tree_model.specs.Term.{Term, leaf_of}
use Rattle.mls_model.specs.declared.effect.Effect.{Effect}
use Rattle.mls_model.specs.declared.effect.Effect.TheVariants.{Proposed, Known, Advanced, Removed}
use Rattle.mls_model.specs.MemberInvariant.{IsGoodKept, IsGoodPending, IsGoodIfPending, IsGoodMember}
use Rattle.mls_model.specs.Commit.{Change, public_with, next_public}
use Rattle.mls_model.specs.Member.{KeptProposal, Pending, Member, kept_under, named_proposals, first_own_key, with_keys, with_epoch, with_kept, after_removal}
use Rattle.mls_model.specs.Messages.{decode_message, sender_leaf, reference_of}
use Rattle.mls_model.specs.PublicState.{PublicState}
use Rattle.mls_model.specs.Verdict.{is_kept, verdict}
use Rattle.mls_model.specs.VerdictFindings.{kept_of, IsFramed, IsNowKept, WasRemoved, HasFollowed, DidPending, reached_epoch}
use Rattle.mls_treekem_model.specs.Keys.{PrivateKeys, HasExact}
use Rattle.mls_theorems.specs.CommitLaws.{KeepsSignature}
use Rattle.mls_theorems.proofs.Exact.{keys_next}
use Rattle.mls_theorems.proofs.Inversion.{edited_steps, body_steps}
use Rattle.mls_theorems.proofs.Own.{used_have_passed, used_are_owned}
use Rattle.mls_theorems.proofs.Signatures.{signatures_next}
use Rattle.mls_theorems.specs.NextStates.{IsNext}
use Rattle.mls_theorems.proofs.Next.{is_next}
use Rattle.mls_theorems.proofs.One.{IsOneOf}
use Rattle.mls_model.proofs.Found.{CommitDid, ContentDid, ReceivedDid, DidOther}
use Rattle.mls_model.proofs.Receipts.{did_receive, did_take}
use Rattle.mls_theorems.proofs.Spelled.{commit_in}
use Rattle.mls_theorems.proofs.Stays.{taken}
use Rattle.mls_wire.proofs.CheckLaws.{bind_ok}
use Rattle.mls_model.proofs.KeyLaws.{leaf_stays}
use Rattle.mls_theorems.proofs.UnchangedMembers.{keeping_good, left_good}
use Rattle.mls_theorems.proofs.CommitEntries.{to}

abbrev framed_of : PublicMessage → FramedContent
framed_of v = framed_content_of v.content

-- ---- what the bytes say

pub one_said : (v w : PublicMessage) (r : Result MlsMessage ℕ) → r ≡ Ok (message.PublicMessage v) → r ≡ Ok (message.PublicMessage w) → v ≡ w
one_said v w r a b = cc

message_fits : (bytes : List ℕ) (v : PublicMessage) → IsBytes bytes → decode_message bytes ≡ Ok (message.PublicMessage v) → mls_message.Fits (message.PublicMessage v)
unfolding decode_message
message_fits bytes v are h = (whole_takes mls_message input_limit bytes (message.PublicMessage v) are h).fits

-- a message that is kept is a proposal, kept under its reference
pub kept_as : (c : Crypto) (m : Member) (kept : List KeptProposal) (bytes : List ℕ) → AllByRecursion (IsGoodKept c m) kept → is_kept kept bytes ≡ true → (k : KeptProposal) × IsGoodKept c m k × IsOneOf k kept × (k.message ≡ bytes)
unfolding IsOneOf
kept_as c m [] bytes good h = absurd (true≢false (sym h))
kept_as c m (k ∷ ks) bytes good h = by_test (bytes_eq k.message bytes) refl h (kept_as c m ks bytes good.1)
  where
    by_test : (b : Bool) → bytes_eq k.message bytes ≡ b → (b || is_kept ks bytes) ≡ true → (is_kept ks bytes ≡ true → (x : KeptProposal) × IsGoodKept c m x × IsOneOf x ks × (x.message ≡ bytes)) →
        (x : KeptProposal) × IsGoodKept c m x × IsOneOf x (k ∷ ks) × (x.message ≡ bytes)
    by_test true e t rest = (k, good.0, inl refl, (bytes_eq-Decides _ _).0 e)
    by_test false e t rest = let r = rest t in (r.0, r.1, inr r.2, r.3)

-- what stands in a list is found by its reference
under_one : (kept : List KeptProposal) (k : KeptProposal) → IsOneOf k kept → is_some (kept_under kept k.reference) ≡ true
unfolding IsOneOf kept_under
under_one [] k is = absurd is
under_one (x ∷ xs) k is = by_test (bytes_eq x.reference k.reference) refl is (under_one xs k)
  where
    by_test : (b : Bool) → bytes_eq x.reference k.reference ≡ b → (x ≡ k) ⊎ IsOneOf k xs → (IsOneOf k xs → is_some (find (λ (y : KeptProposal). bytes_eq y.reference k.reference) xs) ≡ true) → is_some (cond b (Some x) (find (λ (y : KeptProposal). bytes_eq y.reference k.reference) xs)) ≡ true
    by_test true e o rest = refl
    by_test false e (inl same) rest = absurd (true≢false (sym ((bytes_eq-Decides _ _).1 (ap (λ (y : KeptProposal). y.reference) same)) ∙ e))
    by_test false e (inr o) rest = rest o

-- a message of the member's own leaf is one that it keeps
own_is_kept : (i j : ℕ) (rest : Bool) → (not (i == j) || rest) ≡ true → i ≡ j → rest ≡ true
own_is_kept i j rest h e = let s : (i == j) ≡ true = eq-eqb i j e in rw s at h

-- ---- a proposal

some_leaf : (o : Option LeafNode) (x : LeafNode) → o ≡ Some x → IsSome o
some_leaf o x e = rw e refl

-- where it is new, it isn't the member's own
not_own : (c : Crypto) (m : Member) (bytes : List ℕ) (v : PublicMessage) → IsGoodMember c m → decode_message bytes ≡ Ok (message.PublicMessage v) → IsFramed c m v bytes → is_some (kept_under m.kept (reference_of v.content)) ≡ false → sender_leaf v.content.sender ≢ m.keys.leaf
not_own c m bytes v good reads framed fresh same =
    let kept : is_kept m.kept bytes ≡ true = own_is_kept (sender_leaf v.content.sender) m.keys.leaf (is_kept m.kept bytes) framed.other same in
    let k = kept_as c m m.kept bytes good.kept kept in
    let said : k.1.said ≡ v = one_said k.1.said v (decode_message bytes) (sym (ap decode_message k.3) ∙ k.1.decodes) reads in
    let reference : k.0.reference ≡ reference_of v.content = sym k.1.reference ∙ ap (λ (x : PublicMessage). reference_of x.content) said in
    let known : is_some (kept_under m.kept (reference_of v.content)) ≡ true = ap (λ (r : List ℕ). is_some (kept_under m.kept r)) (sym reference) ∙ under_one m.kept k.0 k.2 in
    true≢false (sym known ∙ fresh)

proposed_kept : (c : Crypto) (m : Member) (bytes : List ℕ) (v : PublicMessage) (said : Proposal) (x : Effect × Member) → IsGoodMember c m → IsBytes bytes → decode_message bytes ≡ Ok (message.PublicMessage v) → IsFramed c m v bytes → v.content.body ≡ body_of.Proposal said →
    IsNowKept c m v.content bytes said x → IsGoodKept c m (kept_of v.content bytes said)
proposed_kept c m bytes v said x good are reads framed says new = record {
  said = v;
  decodes = reads;
  fits = message_fits bytes v are reads;
  says = says;
  from = refl;
  group = (bytes_eq-Decides _ _).0 framed.group;
  epoch = eqb-true _ _ framed.epoch;
  reference = refl;
  member = some_leaf (leaf_of m.public.tree (sender_leaf v.content.sender)) framed.leaf framed.sender;
  checked = new.checks;
  own = λ same. absurd (not_own c m bytes v good reads framed new.fresh same);
  others = λ apart. refl;
}

after_is : (P : Member → Type 0) (e : Effect) (m : Member) (x : Effect × Member) → to e m ≡ x → P m → P x.1
after_is P e m x q h = subst P (ap (λ (y : Effect × Member). y.1) q) h

-- ---- a commit

-- its committer isn't the member itself, since it keeps proposals alone
pub other_committer : (c : Crypto) (m : Member) (bytes : List ℕ) (v : PublicMessage) (x : Commit) (tag : List ℕ) → IsGoodMember c m → decode_message bytes ≡ Ok (message.PublicMessage v) → IsFramed c m v bytes → v.content.body ≡ body_of.Commit x tag → sender_leaf v.content.sender ≢ m.keys.leaf
other_committer c m bytes v x tag good reads framed says same =
    let kept : is_kept m.kept bytes ≡ true = own_is_kept (sender_leaf v.content.sender) m.keys.leaf (is_kept m.kept bytes) framed.other same in
    let k = kept_as c m m.kept bytes good.kept kept in
    let said : k.1.said ≡ v = one_said k.1.said v (decode_message bytes) (sym (ap decode_message k.3) ∙ k.1.decodes) reads in
    let both : body_of.Proposal k.0.proposal ≡ body_of.Commit x tag = sym k.1.says ∙ ap (λ (y : PublicMessage). y.content.body) said ∙ says in
    absurd cc

-- the member in the next epoch
next_good : (c : Crypto) (m : Member) (change : Change) (tag epoch : List ℕ) (keys : PrivateKeys) (good : IsGoodMember c m) → IsNext c change → keys.leaf ≡ m.keys.leaf → HasExact c change.tree keys → KeepsSignature m.keys.leaf good.own change.tree →
    IsGoodMember c (with_epoch m (public_with change tag) epoch keys)
unfolding with_epoch public_with
next_good c m change tag epoch keys good next same exact signed = record {
  tree = next.good;
  hash = next.hash;
  suite = next.suite;
  own = signed.after;
  is_own = ap (leaf_of change.tree) same ∙ signed.is;
  signing = signed.signature ∙ good.signing;
  keys = exact;
  kept = tt;
  pending = tt;
  context = next.context;
  nodes = next.nodes;
}

followed_good : (c : Crypto) (m : Member) (bytes : List ℕ) (v : PublicMessage) (y : Commit) (tag : List ℕ) (x : Effect × Member) → IsGoodMember c m → IsBytes bytes → decode_message bytes ≡ Ok (message.PublicMessage v) → IsFramed c m v bytes → v.content.body ≡ body_of.Commit y tag →
    (d : CommitDid c m v.content y tag x) → HasFollowed c m v.content y tag d.used d.change x → IsGoodMember c x.1
followed_good c m bytes v y tag x good are reads framed says d f =
    let i : ℕ = sender_leaf v.content.sender in
    let there : IsSome (leaf_of m.public.tree i) = some_leaf (leaf_of m.public.tree i) framed.leaf framed.sender in
    let mine : IsSome (leaf_of m.public.tree m.keys.leaf) = taken _ _ good.own good.is_own in
    let apart : i ≢ m.keys.leaf = other_committer c m bytes v y tag good reads framed says in
    let next = is_next c m i d.used y (framed_of v) v.content.signature d.change good there d.below (commit_in v y tag (message_fits bytes v are reads) says) d.uses d.change_is in
    let owns = used_are_owned c m i y.proposals d.used good.kept apart d.uses in
    let passed = used_have_passed c m i y.proposals d.used good.kept d.uses in
    let exact = keys_next c m i d.used y (framed_of v) v.content.signature d.change (first_own_key (named_proposals m.kept y.proposals)) f.climb d.change_is there mine apart f.stays owns good.keys f.opens in
    let signed = signatures_next c m.public i d.used y (framed_of v) v.content.signature d.change m.keys.leaf good.own passed there d.change_is good.is_own f.stays in
    after_is (IsGoodMember c) (Advanced d.change.context.epoch) (with_epoch m (public_with d.change tag) (reached_epoch m d.change f.climb) (with_keys m.keys f.climb.keys)) x f.is
    (next_good c m d.change tag (reached_epoch m d.change f.climb) (with_keys m.keys f.climb.keys) good next (leaf_stays m.keys f.climb.keys) exact signed)

tree_with : (change : Change) (tag : List ℕ) (q : PublicState) → public_with change tag ≡ q → change.tree ≡ q.tree
unfolding public_with
tree_with change tag q e = ap (λ (y : PublicState). y.tree) e

-- and over its own pending commit
pub pending_leads : (c : Crypto) (m : Member) (p : Pending) → IsGoodMember c m → IsGoodPending c m p → IsGoodMember c (with_epoch m p.public p.epoch_secret p.keys)
unfolding next_public
pending_leads c m p good h =
    let s = bind_ok _ _ _ h.next in
    let change : Change = s.0 in
    let public : public_with change h.tag ≡ p.public = ok_is _ _ s.2 in
    let mine : IsSome (leaf_of m.public.tree m.keys.leaf) = taken _ _ good.own good.is_own in
    let next = is_next c m m.keys.leaf h.used h.commit (framed_of h.said) h.said.content.signature change good mine h.below (commit_in h.said h.commit h.tag h.fits h.says) h.uses s.1 in
    let passed = used_have_passed c m m.keys.leaf h.commit.proposals h.used good.kept h.uses in
    let b = body_steps c m.public m.keys.leaf h.used h.commit (framed_of h.said) h.said.content.signature change s.1 in
    let e = edited_steps c m.public m.keys.leaf h.used change.edits b.edits in
    let signed = signatures_next c m.public m.keys.leaf h.used h.commit (framed_of h.said) h.said.content.signature change m.keys.leaf good.own passed mine s.1 good.is_own e.not_removed in
    let exact : HasExact c change.tree p.keys = subst (λ (t : Term). HasExact c t p.keys) (sym (tree_with change h.tag p.public public)) h.keys in
    subst (λ (q : PublicState). IsGoodMember c (with_epoch m q p.epoch_secret p.keys)) public (next_good c m change h.tag p.epoch_secret p.keys good next h.leaf exact signed)

-- ---- any bytes

content_good : (c : Crypto) (m : Member) (bytes : List ℕ) (v : PublicMessage) (b : SignedBody) (x : Effect × Member) → IsGoodMember c m → IsBytes bytes → decode_message bytes ≡ Ok (message.PublicMessage v) → IsFramed c m v bytes → v.content.body ≡ b →
    ContentDid c m v.content bytes b x → IsGoodMember c x.1
content_good c m bytes v (body_of.Application text) x good are reads framed says d = absurd d
content_good c m bytes v (body_of.Proposal said) x good are reads framed says (inl d) = after_is (IsGoodMember c) (Known (reference_of v.content)) m x d.is good
content_good c m bytes v (body_of.Proposal said) x good are reads framed says (inr d) =
    after_is (IsGoodMember c) (Proposed (reference_of v.content)) (with_kept m (kept_of v.content bytes said)) x d.is
    (keeping_good c m (kept_of v.content bytes said) good (proposed_kept c m bytes v said x good are reads framed says d))
content_good c m bytes v (body_of.Commit y tag) x good are reads framed says d = by_case d.did
  where
    by_case : WasRemoved m d.used x ⊎ HasFollowed c m v.content y tag d.used d.change x → IsGoodMember c x.1
    by_case (inl r) = after_is (IsGoodMember c) Removed (after_removal m) x r.is (left_good c m good)
    by_case (inr f) = followed_good c m bytes v y tag x good are reads framed says d f

-- Whatever bytes a good member takes, it is good afterwards.
pub delivered_good : (c : Crypto) (m : Member) (bytes : List ℕ) (x : Effect × Member) → IsGoodMember c m → IsBytes bytes → verdict c m bytes ≡ Ok x → IsGoodMember c x.1
delivered_good c m bytes x good are h = by_case (did_take c m bytes x h).did
  where
    by_case : DidPending m bytes x ⊎ DidOther c m bytes x → IsGoodMember c x.1
    by_case (inl d) =
        let p : IsGoodPending c m d.pending = subst (IsGoodIfPending c m) d.is_pending good.pending in
        after_is (IsGoodMember c) (Advanced d.pending.public.context.epoch) (with_epoch m d.pending.public d.pending.epoch_secret d.pending.keys) x d.is (pending_leads c m d.pending good p)
    by_case (inr d) =
        let r : ReceivedDid c m bytes x = did_receive c m bytes x d.is in
        content_good c m bytes r.said r.said.content.body x good are r.decodes r.is_framed refl r.did
