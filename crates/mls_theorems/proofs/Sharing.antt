-- A commit that a good member makes reaches the group: its maker, those that share its epoch, and those that it adds.
use Rattle.std.proofs.Common.{◌≡◌, ℕ, ◌+◌, ◌<◌, ◌^◌, Bool, true, false, not, List, [], ◌∷◌, length, zip, Option, Some, None, Result, Ok, refl, sym, ap, subst, ◌∙◌, ◌⊎◌, inl, inr, arith, lit<}
use Rattle.std.specs.Prelude.{codes, map}
use Rattle.std.specs.List.{AllByRecursion, list_any}
use Rattle.std.specs.Str.{bytes_eq}
use Rattle.std.proofs.lemmas.Bool.{and_parts, not-true}
use Rattle.std.proofs.lemmas.Slice.Eq.{bytes_eq-Decides}
use Rattle.mls_wire.specs.CheckLaws.{required}
use Rattle.mls_wire.specs.Checks.{passed}
use Rattle.mls_wire.specs.Format.{IsBytes}
use Rattle.mls_wire.specs.Laws.{bind_ok, ok_is}
use Rattle.mls_wire.specs.Reading.{◌>>=◌}
use Rattle.mls_kdf.proofs.Lengths.{length-ref_hash}
use Rattle.mls_leaf.specs.KeyPackage.{key_package}
use Rattle.mls_leaf.specs.Proposal.{proposal}
use Rattle.mls_leaf.specs.declared.key_package.KeyPackage.{KeyPackage}
use Rattle.mls_leaf.specs.declared.proposal.Proposal.{Proposal}
use Rattle.mls_types.specs.Commit.{proposal_or_ref}
use Rattle.mls_types.specs.Reference.{proposal_reference}
use Rattle.mls_types.specs.declared.commit.ProposalOrRef.{ProposalOrRef}
use Rattle.mls_types.specs.declared.commit.ProposalOrRef.TheVariants as listed
use Rattle.mls_types.specs.declared.signed.SignedContent.{SignedContent}
use Rattle.mls_suite.specs.Crypto.{Crypto, Lawful}
use Rattle.mls_treekem_model.specs.Seeds.{seal_seed}
use Rattle.mls_schedule.specs.Epoch.{nine_secrets}
use Rattle.mls_model.specs.declared.effect.Effect.{Effect}
use Rattle.mls_model.specs.declared.effect.Effect.TheVariants.{Advanced}
use Rattle.mls_model.specs.Agreement.{Agree, AgreeSecret, Keeps}
use Rattle.mls_model.specs.MemberInvariant.{IsGoodPending, IsGoodIfPending, IsGoodMember, IsGoodCandidate}
use Rattle.mls_model.specs.Candidate.{Candidate}
use Rattle.mls_model.specs.Claims.{IsMade, FollowsTo, Receives}
use Rattle.mls_model.specs.Commit.{Change, public_with}
use Rattle.mls_model.specs.VerdictFindings.{DidPending}
use Rattle.mls_model.proofs.Found.{DidOther}
use Rattle.mls_model.specs.Journal.{names_in, adds_in, used_of}
use Rattle.mls_model.specs.Make.{MadePath, Made, path_secret_for, path_seals, welcome_if, make, commit_call}
use Rattle.mls_model.specs.Member.{KeptProposal, Pending, Member, kept_under, find_proposal, find_proposals, with_epoch, with_pending}
use Rattle.mls_model.specs.Messages.{require_within_limit, reference_of}
use Rattle.mls_model.specs.Proposals.{adds}
use Rattle.mls_model.specs.PublicState.{PublicState, Used}
use Rattle.mls_model.proofs.Receipts.{did_take}
use Rattle.mls_model.specs.Sharing.{ShareEpoch, SharesNext, IsAccepted, JoinsNext, ReachesGroup}
use Rattle.mls_model.specs.Welcome.{unsigned_info, signed_info, secrets_with, welcome_message}
use Rattle.mls_model.specs.Verdict.{verdict}
use Rattle.mls_theorems.proofs.Joining.{adds_counted}
use Rattle.mls_theorems.proofs.CommitEntries.{received_along}
use Rattle.mls_theorems.proofs.Delivered.{pending_leads, delivered_good}
use Rattle.mls_theorems.proofs.Entered.{are_from, joined_good}
use Rattle.mls_theorems.proofs.Joiners.{JoinsBeside, joiners_beside}
use Rattle.mls_theorems.specs.CommitCalls.{made_of, Makes, joiner_of, tag_of}
use Rattle.mls_theorems.proofs.Makes.{make_did}
use Rattle.mls_theorems.proofs.One.{was_found}
use Rattle.mls_theorems.proofs.Pends.{made_pends}
use Rattle.mls_theorems.specs.SpelledParts.{FullFits}
use Rattle.mls_theorems.proofs.Stays.{receivers_hold}
use Rattle.mls_theorems.proofs.UnchangedMembers.{pending_good}
use Rattle.mls_theorems.specs.UsedProposals.{AreGoodKept, IsUsedAlike}
use Rattle.mls_theorems.proofs.Used.{kept_good, used_for_other}

-- ---- the list has a spelling

short_reference : (bytes : List ℕ) → length (proposal_reference bytes) < 2 ^ 30
unfolding proposal_reference
short_reference bytes = let l = length-ref_hash (codes "MLS 1.0 Proposal Reference") bytes in omega (arith, l)

reference_fits : (v : SignedContent) → proposal_or_ref.Fits (listed.Reference (reference_of v))
unfolding proposal_or_ref reference_of
reference_fits v = (lit< tt, short_reference _)

full_fits : (said : Proposal) → proposal.Fits said → proposal_or_ref.Fits (listed.Proposal said)
unfolding proposal_or_ref
full_fits said f = (lit< tt, f)

-- so has one that is named, since what is kept under it is good
named_fits : (c : Crypto) (m : Member) (r : List ℕ) (o : Option KeptProposal) → AreGoodKept c m m.kept → kept_under m.kept r ≡ o → (u : Used) → find_proposal m.kept 0 (listed.Reference r) ≡ Ok u → proposal_or_ref.Fits (listed.Reference r)
unfolding kept_under
named_fits c m r None good e u h = absurd (let n = rw e at h in cc)
named_fits c m r (Some k) good e u h =
    let g = kept_good c m m.kept r k good e in
    let same : k.reference ≡ r = (bytes_eq-Decides k.reference r).0 (was_found (λ (x : KeptProposal). bytes_eq x.reference r) k m.kept e).1 in
    subst (λ (x : List ℕ). proposal_or_ref.Fits (listed.Reference x)) (g.reference ∙ same) (reference_fits g.said.content)

one_fits : (c : Crypto) (m : Member) (i : ℕ) (x : ProposalOrRef) (u : Used) → AreGoodKept c m m.kept → FullFits x → find_proposal m.kept i x ≡ Ok u → proposal_or_ref.Fits x
one_fits c m i (listed.Proposal said) u good f h = full_fits said f
one_fits c m i (listed.Reference r) u good f h = named_fits c m r (kept_under m.kept r) good refl u h

pub list_fits : (c : Crypto) (m : Member) (i : ℕ) (list : List ProposalOrRef) (used : List Used) → AreGoodKept c m m.kept → AllByRecursion FullFits list → find_proposals m.kept i list ≡ Ok used → AllByRecursion proposal_or_ref.Fits list
unfolding find_proposals
list_fits c m i [] used good f h = tt
list_fits c m i (x ∷ xs) used good f h =
    let s = bind_ok (find_proposal m.kept i x) (λ u. find_proposals m.kept i xs >>= λ us. Ok (u ∷ us)) used h in
    let t = bind_ok (find_proposals m.kept i xs) (λ us. Ok (s.0 ∷ us)) used s.2 in
    (one_fits c m i x s.0 good f.0 s.1, list_fits c m i xs t.0 good f.1 t.1)

-- ---- agreement

agree_by : (m n : Member) → m.public ≡ n.public → Agree m n
agree_by m n e = record {
  tree = ap (λ (p : PublicState). p.tree) e;
  context = ap (λ (p : PublicState). p.context) e;
  confirmed = ap (λ (p : PublicState). p.context.confirmed_transcript_hash) e;
  interim = ap (λ (p : PublicState). p.interim) e;
}

secret_by : (m n : Member) → m.epoch_secret ≡ n.epoch_secret → AgreeSecret m n
secret_by m n e = record { epoch = e; nine = ap nine_secrets e }

-- ---- a member that advances

bytes_within : (bytes : List ℕ) → require_within_limit bytes ≡ Ok passed → IsBytes bytes
unfolding require_within_limit
bytes_within bytes h = are_from bytes (and_parts _ _ (required _ _ _ h)).1

-- it is active and at its leaf as before, in the epoch of that number
record StaysAt (m : Member) (number : ℕ) (after : Member) : Type 0 where
  number_is : number ≡ after.public.context.epoch
  active : after.gone ≡ m.gone
  leaf : after.keys.leaf ≡ m.keys.leaf

some_pending : (p q : Pending) (o : Option Pending) → o ≡ Some p → o ≡ Some q → p ≡ q
some_pending p q o a b = cc

pending_at : (c : Crypto) (m : Member) (p : Pending) (o : Option Pending) → IsGoodIfPending c m o → o ≡ Some p → p.keys.leaf ≡ m.keys.leaf
pending_at c m p None good e = absurd cc
pending_at c m p (Some q) good e = ap (λ (x : Pending). x.keys.leaf) (some_pending p q (Some q) e refl) ∙ good.leaf

number_of_advanced : (m n : Member) (j k : ℕ) → Path (Effect × Member) (Advanced j, m) (Advanced k, n) → k ≡ j
number_of_advanced m n j k e = let f : Advanced j ≡ Advanced k = ap (λ (x : Effect × Member). x.0) e in cc

stays_by : (c : Crypto) (m : Member) (bytes : List ℕ) (number : ℕ) (after : Member) → IsGoodMember c m → DidPending m bytes (Advanced number, after) ⊎ DidOther c m bytes (Advanced number, after) → StaysAt m number after
unfolding with_epoch
stays_by c m bytes number after good (inl d) =
    let is = ap (λ (x : Effect × Member). x.1) d.is in
    record {
      number_is = number_of_advanced _ after _ number d.is ∙ ap (λ (x : Member). x.public.context.epoch) is;
      active = ap (λ (x : Member). x.gone) (sym is);
      leaf = ap (λ (x : Member). x.keys.leaf) (sym is) ∙ pending_at c m d.pending m.pending good.pending d.is_pending;
    }
stays_by c m bytes number after good (inr d) = let a = received_along c m bytes number after good.kept d.is in record { number_is = a.epoch_is; active = a.active; leaf = a.leaf }

advanced_stays : (c : Crypto) (m : Member) (bytes : List ℕ) (number : ℕ) (after : Member) → IsGoodMember c m → verdict c m bytes ≡ Ok (Advanced number, after) → StaysAt m number after
advanced_stays c m bytes number after good h = stays_by c m bytes number after good (did_take c m bytes (Advanced number, after) h).did

-- ---- a Welcome is there

nobody_any : (test : List ℕ → Bool) (xs : List KeyPackage) → xs ≡ [] → list_any test (map (λ (x : KeyPackage). key_package.spell x) xs) ≡ true → ⊥
nobody_any test xs e h = let n = rw e at h in absurd cc

-- a Welcome for these joiners, of which there are some
welcome_of : (c : Crypto) (m : Member) (change : Change) (path : MadePath) (joiner tag seed : List ℕ) (ks : List KeyPackage) (js : List ℕ) (o : Option (List ℕ)) → (ks ≡ [] → ⊥) → length js ≡ length ks →
    welcome_if c m change path joiner tag seed (zip ks js) ≡ Ok o → (bytes : List ℕ) × (o ≡ Some bytes)
welcome_of c m change path joiner tag seed [] js o some count h = absurd (some refl)
welcome_of c m change path joiner tag seed (k ∷ ks) [] o some count h = absurd (omega (arith, count))
welcome_of c m change path joiner tag seed (k ∷ ks) (j ∷ js) o some count h =
    let s = bind_ok (welcome_message c (signed_info c m.signing (unsigned_info (public_with change tag) tag m.keys.leaf)) joiner (λ i. secrets_with joiner (path_secret_for path.path m change.edits seed i)) (seal_seed seed) (path_seals path.path) ((k, j) ∷ zip ks js))
    (λ bytes. Ok (Some bytes)) o h in
    (s.0, sym (ok_is _ o s.2))

adds_some : (kept : List KeptProposal) (i : ℕ) (list : List ProposalOrRef) (used : List Used) (test : List ℕ → Bool) → find_proposals kept i list ≡ Ok used → list_any test (adds_in kept list) ≡ true → adds used ≡ [] → ⊥
unfolding adds_in
adds_some kept i list used test uses any none =
    let a : IsUsedAlike kept 0 list used = used_for_other kept i 0 list used uses in
    nobody_any test (adds (used_of (find_proposals kept 0 list))) (ap (λ (r : Result (List Used) ℕ). adds (used_of r)) a.is ∙ a.adding ∙ none) any

-- ---- the whole

module _ (c : Crypto) (laws : Lawful c) (maker : Member) (list : List ProposalOrRef) (made : Made) (is : IsMade c maker list made) (s : Makes c maker list is.wants_path is.seed made) where
  pend : IsGoodPending c maker made.pending
  pend = made_pends c maker list made is

  unfoldable after : Member
  after = with_pending maker made.pending

  unfoldable next : Member
  next = with_epoch after made.pending.public made.pending.epoch_secret made.pending.keys

  after_good : IsGoodMember c after
  unfolding after
  after_good = pending_good c maker made.pending is.good pend

  next_good : IsGoodMember c next
  unfolding next after with_pending
  next_good = pending_leads c after made.pending after_good after_good.pending

  next_active : next.gone ≡ false
  unfolding next after with_pending with_epoch
  next_active = not-true maker.gone s.active

  next_leaf : next.keys.leaf ≡ maker.keys.leaf
  unfolding next with_epoch
  next_leaf = pend.leaf

  next_public : next.public ≡ made.pending.public
  unfolding next with_epoch
  next_public = refl

  next_epoch : next.epoch_secret ≡ made.pending.epoch_secret
  unfolding next with_epoch
  next_epoch = refl

  message_is : made.pending.message ≡ made.commit
  unfolding made_of
  message_is = sym (ap (λ (x : Made). x.pending.message) s.made_is) ∙ ap (λ (x : Made). x.commit) s.made_is

  bytes : IsBytes made.commit
  unfolding made_of
  bytes = bytes_within made.commit (subst (λ (b : List ℕ). require_within_limit b ≡ Ok passed) (ap (λ (x : Made). x.commit) s.made_is) s.short)

  -- the committer follows its own commit
  own : verdict c after made.commit ≡ Ok (Advanced next.public.context.epoch, next)
  unfolding verdict next after with_pending with_epoch
  own = let e : bytes_eq made.pending.message made.commit ≡ true = (bytes_eq-Decides _ _).1 message_is in let a = s.active in rw (a, e) refl

  -- the others accept it
  shares_next : (m : Member) → ShareEpoch c maker m → FollowsTo c m made → SharesNext c next m made.commit
  shares_next m shares f =
      let at : StaysAt m (m.public.context.epoch + 1) f.after = advanced_stays c m made.commit (m.public.context.epoch + 1) f.after shares.other_good f.is in
      let number : m.public.context.epoch + 1 ≡ next.public.context.epoch = at.number_is ∙ ap (λ (p : PublicState). p.context.epoch) (f.public ∙ sym next_public) in
      record {
        after = f.after;
        is = subst (λ (n : ℕ). verdict c m made.commit ≡ Ok (Advanced n, f.after)) number f.is;
        shares = record {
          good = next_good;
          other_good = delivered_good c m made.commit (Advanced (m.public.context.epoch + 1), f.after) shares.other_good bytes f.is;
          active = next_active;
          other_active = at.active ∙ shares.other_active;
          apart = λ e. shares.apart (sym next_leaf ∙ e ∙ at.leaf);
          agree = agree_by next f.after (next_public ∙ sym f.public);
          secret = secret_by next f.after (next_epoch ∙ sym f.epoch);
        };
      }

  accepts : (m : Member) → ShareEpoch c maker m → Keeps m.kept list (names_in maker.kept list) → IsAccepted c next m list made.commit
  accepts m shares keeps =
      let r : Receives c m list made = receivers_hold c laws maker m list made is shares.other_good shares.other_active shares.apart shares.agree shares.secret keeps in
      record { removed = r.removed; follows = λ e. shares_next m shares (r.follows e) }

  -- those that it adds join
  has_welcome : (test : List ℕ → Bool) → list_any test (adds_in maker.kept list) ≡ true → (x : List ℕ) × (made.welcome ≡ Some x)
  unfolding made_of
  has_welcome test any =
      let w = welcome_of c maker s.change s.path (joiner_of maker s.path s.change) (tag_of maker s.path s.change) is.seed (adds s.used) s.edits.added s.welcome (adds_some maker.kept maker.keys.leaf list s.used test s.uses any)
      (adds_counted c maker.public maker.keys.leaf s.used s.edits s.edits_are) s.welcome_is in
      (w.0, ap (λ (x : Made). x.welcome) (sym s.made_is) ∙ w.1)

  joins : (k : Candidate) → IsGoodCandidate c k → list_any (bytes_eq (key_package.spell k.offered)) (adds_in maker.kept list) ≡ true → JoinsNext c next k made.welcome
  joins k good any =
      let w = has_welcome (bytes_eq (key_package.spell k.offered)) any in
      let b : JoinsBeside c maker k w.0 made = joiners_beside c laws maker list made w.0 k is w.1 good any in
      record {
        bytes = w.0;
        is = w.1;
        joined = b.to.joined;
        joins = b.to.is;
        shares = record {
          good = next_good;
          other_good = joined_good c k w.0 b.to.joined good b.to.is;
          active = next_active;
          other_active = b.active;
          apart = λ e. b.apart (sym next_leaf ∙ e);
          agree = agree_by next b.to.joined.member (next_public ∙ sym b.to.public);
          secret = secret_by next b.to.joined.member (next_epoch ∙ sym b.to.epoch);
        };
      }

  reached : ReachesGroup c maker (with_pending maker made.pending) list made.commit made.welcome
  unfolding after
  reached = record { next = next; own = own; receivers = accepts; joiners = joins }

-- what a commit call that succeeded made is a commit of a good member, whose list has a spelling
is_made : (c : Crypto) (maker : Member) (list : List ProposalOrRef) (wants_path : Bool) (seed : List ℕ) (made : Made) → IsGoodMember c maker → AllByRecursion FullFits list → make c maker list wants_path seed ≡ Ok made → IsMade c maker list made
is_made c maker list wants_path seed made good full h =
    let s = make_did c maker list wants_path seed made h in
    record { good = good; fits = list_fits c maker maker.keys.leaf list s.used good.kept full s.uses; wants_path = wants_path; seed = seed; is = h }

made_reaches : (c : Crypto) → Lawful c → (maker : Member) (list : List ProposalOrRef) (made : Made) (is : IsMade c maker list made) → ReachesGroup c maker (with_pending maker made.pending) list made.commit made.welcome
made_reaches c laws maker list made is = reached c laws maker list made is (make_did c maker list is.wants_path is.seed made is.is)

abbrev pub HasReached : Crypto → Member → List ProposalOrRef → (List ℕ × Option (List ℕ)) × Member → Type 0
HasReached c maker list x = ReachesGroup c maker x.1 list x.0.0 x.0.1

-- a commit call that succeeded leads the group on, and its maker is good with the commit as its pending one
pub commits_reach : (c : Crypto) → Lawful c → (maker : Member) (list : List ProposalOrRef) (wants_path : Bool) (seed : List ℕ) (x : (List ℕ × Option (List ℕ)) × Member) → IsGoodMember c maker → AllByRecursion FullFits list →
    commit_call c maker list wants_path seed ≡ Ok x → IsGoodMember c x.1 × HasReached c maker list x
unfolding commit_call
commits_reach c laws maker list wants_path seed x good full h =
    let s = bind_ok (make c maker list wants_path seed) _ _ h in
    let is : IsMade c maker list s.0 = is_made c maker list wants_path seed s.0 good full s.1 in
    subst (λ (y : (List ℕ × Option (List ℕ)) × Member). IsGoodMember c y.1 × HasReached c maker list y) (ok_is _ x s.2) (pending_good c maker s.0.pending good (made_pends c maker list s.0 is), made_reaches c laws maker list s.0 is)
