-- A member that a commit doesn't remove stands in the tree of its edits with the keys that are due.
use Rattle.std.proofs.Common.{◌≡◌, ℕ, List, Option, Some, IsSome, refl, sym, ap, ◌∙◌, arith}
use Rattle.mls_leaf.specs.declared.leaf.LeafNode.{LeafNode}
use Rattle.mls_suite.specs.Crypto.{Crypto}
use Rattle.mls_tree_model.specs.Good.{has_good_lists}
use Rattle.mls_tree_model.specs.Laws.{IsIn}
use Rattle.mls_tree_model.specs.Term.{Term, leaf_of}
use Rattle.mls_treekem_model.proofs.ListLaws.{right_are_below}
use Rattle.mls_treekem_model.specs.Lists.{ListsBelow}
use Rattle.mls_model.specs.PublicState.{PublicState}
use Rattle.mls_model.specs.Member.{named_proposals, first_own_key}
use Rattle.mls_model.specs.Claims.{ReceiversClaim}
use Rattle.mls_theorems.specs.KeyLaws.{IsStanding}
use Rattle.mls_theorems.specs.CommitLaws.{HasGood, IsUntouched}
use Rattle.mls_theorems.proofs.Exact.{member_stands, followed_exact}
use Rattle.mls_theorems.proofs.Own.{used_have_passed, used_are_owned}
use Rattle.mls_theorems.proofs.Sound.{edits_good}
use Rattle.mls_theorems.proofs.Staying.{edits_follow_committer}
use Rattle.mls_theorems.proofs.Sent.{leaf_is_in}
use Rattle.mls_theorems.proofs.Received.{receivers_of_staying, receives_by}
use Rattle.mls_theorems.specs.StayingMembers.{MemberStays, MadeIsReceived}

-- ---- the whole

pub taken : (t : Term) (i : ℕ) (x : LeafNode) → leaf_of t i ≡ Some x → IsSome (leaf_of t i)
taken t i x e = rw e refl

pub inside : (t : Term) (i : ℕ) (x : LeafNode) → leaf_of t i ≡ Some x → IsIn 0 t i
inside t i x e = let p = (leaf_is_in t i x e).0 in record { low = omega arith; high = omega arith }

lists_of_good : (c : Crypto) (p : PublicState) (t : Term) → HasGood c p t → ListsBelow 0 t
unfolding has_good_lists
lists_of_good c p t good = right_are_below 0 t (record { right = good.lists; rising = good.rising })

pub member_stays : MemberStays
member_stays c m i list used e x good apart is uses edits here =
    let own = used_are_owned c m i list used good.kept apart uses in
    let new : Option (List ℕ) = first_own_key (named_proposals m.kept list) in
    let there : IsSome (leaf_of m.public.tree m.keys.leaf) = taken _ _ good.own good.is_own in
    let s : IsStanding m.keys.leaf e = member_stands c m.public i used e new m.keys.leaf edits there here own in
    let k : IsUntouched i m.public.tree e = edits_follow_committer c m.public i used e edits (taken _ _ x is) in
    let sound : HasGood c m.public e.tree = edits_good c m.public i used e good.tree (used_have_passed c m i list used good.kept uses) (taken _ _ x is) edits in
    record {
      two = record { first = inside e.tree i x (k.leaf ∙ is); second = inside e.tree m.keys.leaf s.leaf s.is_leaf; apart = λ q. apart (sym q) };
      lists = lists_of_good c m.public e.tree sound;
      exact = followed_exact c m.public i used e new m.keys edits there here own good.keys;
      old = s.old;
    }

pub made_is_received : MadeIsReceived
made_is_received c laws maker m list made is good apart agree secret keeps =
    receivers_of_staying c laws maker m list made is good apart agree secret keeps
    (λ used e uses edits here. member_stays c m maker.keys.leaf list used e is.good.own good apart (ap (λ (t : Term). leaf_of t maker.keys.leaf) (sym agree.tree) ∙ is.good.is_own) uses edits here)

pub receivers_hold : ReceiversClaim
receivers_hold c laws maker m list made is good active apart agree secret keeps = receives_by c m list made active (made_is_received c laws maker m list made is good apart agree secret keeps)
