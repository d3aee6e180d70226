-- A good member that keeps its state is good with what it keeps.
use Rattle.std.proofs.Common.{◌≡◌, ℕ, Bool, true, false, cond, List, [], ◌∷◌, ◌++◌, Option, Some, None, Ok, refl}
use Rattle.std.specs.Prelude.{find}
use Rattle.std.specs.List.{AllByRecursion}
use Rattle.mls_wire.specs.Laws.{bind_ok}
use Rattle.mls_wire.specs.Reading.{◌>>=◌}
use Rattle.mls_types.specs.declared.commit.ProposalOrRef.{ProposalOrRef}
use Rattle.mls_types.specs.declared.commit.ProposalOrRef.TheVariants as listed
use Rattle.mls_suite.specs.Crypto.{Crypto}
use Rattle.mls_model.specs.MemberInvariant.{IsGoodKept, IsGoodPending, IsGoodIfPending, IsGoodMember}
use Rattle.mls_model.specs.Member.{KeptProposal, Pending, Member, kept_under, find_proposal, find_proposals, with_kept, after_removal, with_pending, without_pending}
use Rattle.mls_model.specs.PublicState.{Used}
use Rattle.mls_theorems.proofs.One.{all_both}

-- a member in one state, with other proposals and another pending commit, and removed or not
abbrev pub still : Member → Bool → List KeptProposal → Option Pending → Member
still m gone kept pending = record { gone = gone; public = m.public; epoch_secret = m.epoch_secret; keys = m.keys; signing = m.signing; kept = kept; pending = pending }

pub kept_still : (c : Crypto) (m : Member) (gone : Bool) (kept : List KeptProposal) (pending : Option Pending) (k : KeptProposal) → IsGoodKept c m k → IsGoodKept c (still m gone kept pending) k
kept_still c m gone kept pending k g = record {
  said = g.said;
  decodes = g.decodes;
  fits = g.fits;
  says = g.says;
  from = g.from;
  group = g.group;
  epoch = g.epoch;
  reference = g.reference;
  member = g.member;
  checked = g.checked;
  own = g.own;
  others = g.others;
}

pub all_still : (c : Crypto) (m : Member) (gone : Bool) (kept : List KeptProposal) (pending : Option Pending) (ks : List KeptProposal) → AllByRecursion (IsGoodKept c m) ks → AllByRecursion (IsGoodKept c (still m gone kept pending)) ks
all_still c m gone kept pending [] h = tt
all_still c m gone kept pending (k ∷ ks) h = (kept_still c m gone kept pending k h.0, all_still c m gone kept pending ks h.1)

pub good_still : (c : Crypto) (m : Member) (gone : Bool) (kept : List KeptProposal) (pending : Option Pending) → IsGoodMember c m → AllByRecursion (IsGoodKept c m) kept → IsGoodIfPending c (still m gone kept pending) pending →
    IsGoodMember c (still m gone kept pending)
good_still c m gone kept pending g ks p = record {
  tree = g.tree;
  hash = g.hash;
  suite = g.suite;
  own = g.own;
  is_own = g.is_own;
  signing = g.signing;
  keys = g.keys;
  kept = all_still c m gone kept pending kept ks;
  pending = p;
  context = g.context;
  nodes = g.nodes;
}

-- ---- with more that it keeps

found_still : (test : KeptProposal → Bool) (xs ys : List KeptProposal) (k : KeptProposal) → find test xs ≡ Some k → find test (xs ++ ys) ≡ Some k
found_still test [] ys k e = absurd cc
found_still test (x ∷ xs) ys k e = by_test (test x) (find test xs) (find test (xs ++ ys)) (found_still test xs ys k) e
  where
    by_test : (b : Bool) (o p : Option KeptProposal) → (o ≡ Some k → p ≡ Some k) → cond b (Some x) o ≡ Some k → cond b (Some x) p ≡ Some k
    by_test true o p rest e = e
    by_test false o p rest e = rest e

pub under_still : (xs ys : List KeptProposal) (reference : List ℕ) (k : KeptProposal) → kept_under xs reference ≡ Some k → kept_under (xs ++ ys) reference ≡ Some k
unfolding kept_under
under_still xs ys reference k e = found_still _ xs ys k e

one_still : (xs ys : List KeptProposal) (i : ℕ) (x : ProposalOrRef) (u : Used) → find_proposal xs i x ≡ Ok u → find_proposal (xs ++ ys) i x ≡ Ok u
one_still xs ys i (listed.Proposal said) u e = e
one_still xs ys i (listed.Reference r) u e = by_kept (kept_under xs r) refl
  where
    by_kept : (o : Option KeptProposal) → kept_under xs r ≡ o → find_proposal (xs ++ ys) i (listed.Reference r) ≡ Ok u
    by_kept None is = absurd (let n = rw is at e in cc)
    by_kept (Some k) is = let f = rw is at e in rw (under_still xs ys r k is) f

-- a list uses what it did
pub used_still : (xs ys : List KeptProposal) (i : ℕ) (list : List ProposalOrRef) (used : List Used) → find_proposals xs i list ≡ Ok used → find_proposals (xs ++ ys) i list ≡ Ok used
unfolding find_proposals
used_still xs ys i [] used e = e
used_still xs ys i (x ∷ list) used e =
    let s = bind_ok (find_proposal xs i x) (λ u. find_proposals xs i list >>= λ us. Ok (u ∷ us)) used e in
    let t = bind_ok (find_proposals xs i list) (λ us. Ok (s.0 ∷ us)) used s.2 in
    rw (one_still xs ys i x s.0 s.1, used_still xs ys i list t.0 t.1) t.2

pending_more : (c : Crypto) (m : Member) (k : KeptProposal) (o : Option Pending) → IsGoodIfPending c m o → IsGoodIfPending c (still m m.gone (m.kept ++ (k ∷ [])) m.pending) o
pending_more c m k None h = tt
pending_more c m k (Some p) h = record {
  said = h.said;
  commit = h.commit;
  tag = h.tag;
  used = h.used;
  decodes = h.decodes;
  fits = h.fits;
  says = h.says;
  from = h.from;
  below = h.below;
  uses = used_still m.kept (k ∷ []) m.keys.leaf h.commit.proposals h.used h.uses;
  next = h.next;
  confirmed = h.confirmed;
  keys = h.keys;
  leaf = h.leaf;
}

pub keeping_good : (c : Crypto) (m : Member) (k : KeptProposal) → IsGoodMember c m → IsGoodKept c m k → IsGoodMember c (with_kept m k)
unfolding with_kept
keeping_good c m k g h = good_still c m m.gone (m.kept ++ (k ∷ [])) m.pending g (all_both (IsGoodKept c m) m.kept (k ∷ []) g.kept (h, tt)) (pending_more c m k m.pending g.pending)

-- ---- with another pending commit, or none

-- what is good of a pending commit speaks of the state and of what is kept
pub pending_still : (c : Crypto) (m : Member) (gone : Bool) (pending : Option Pending) (p : Pending) → IsGoodPending c m p → IsGoodPending c (still m gone m.kept pending) p
pending_still c m gone pending p h = record {
  said = h.said;
  commit = h.commit;
  tag = h.tag;
  used = h.used;
  decodes = h.decodes;
  fits = h.fits;
  says = h.says;
  from = h.from;
  below = h.below;
  uses = h.uses;
  next = h.next;
  confirmed = h.confirmed;
  keys = h.keys;
  leaf = h.leaf;
}

pub pending_good : (c : Crypto) (m : Member) (p : Pending) → IsGoodMember c m → IsGoodPending c m p → IsGoodMember c (with_pending m p)
unfolding with_pending
pending_good c m p g h = good_still c m m.gone m.kept (Some p) g g.kept (pending_still c m m.gone (Some p) p h)

pub dropped_good : (c : Crypto) (m : Member) → IsGoodMember c m → IsGoodMember c (without_pending m)
unfolding without_pending
dropped_good c m g = good_still c m m.gone m.kept None g g.kept tt

pub left_good : (c : Crypto) (m : Member) → IsGoodMember c m → IsGoodMember c (after_removal m)
unfolding after_removal
left_good c m g = good_still c m true m.kept None g g.kept tt
