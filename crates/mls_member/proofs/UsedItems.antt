-- How the proposals that a commit call uses come about, one after the other.
use Rattle.std.proofs.Common.{◌≡◌, ℕ, ◌+◌, ◌<◌, ◌≤◌, List, [], ◌∷◌, ◌++◌, length, map, drop, get_or, Ok, Err, sym, ap, subst, ◌∙◌}
use Rattle.std.proofs.lemmas.List.{append-nil, drop_all}
use Rattle.mls_model.specs.declared.item.Item.{Item}
use Rattle.mls_model.specs.Make.{list_item_of}
use Rattle.mls_model.specs.PublicState.{Used}
use Rattle.mls_model.specs.Member.{KeptProposal, find_proposal, find_proposals}
use Rattle.mls_public_group.proofs.Rest.{all_behind, here}
use Rattle.mls_make.specs.CommitCall.{IsUsable, AreUsable}
use Rattle.mls_member.specs.Answers.{IsShortItem, AreShortItems}
use Rattle.mls_member.proofs.Uses.{with_rest, all_ok, nothing_first, one_more}

pub record AreTaken (kept : List KeptProposal) (committer : ℕ) (items rest : List Item) (used : List Used) : Type 0 where
  pub answer : with_rest used (find_proposals kept committer (map list_item_of rest)) ≡ find_proposals kept committer (map list_item_of items)
  pub short : AreUsable used
  pub left : AreShortItems rest

pub taken_first : (kept : List KeptProposal) (committer : ℕ) (items : List Item) → AreShortItems items → AreTaken kept committer items items []
taken_first kept committer items h = record { answer = nothing_first (find_proposals kept committer (map list_item_of items)); short = tt; left = h }

taken_next : (kept : List KeptProposal) (committer : ℕ) (items rest : List Item) (x : Item) (used : List Used) (u : Used) → AreTaken kept committer items (x ∷ rest) used → find_proposal kept committer (list_item_of x) ≡ Ok u → IsUsable u
    → AreTaken kept committer items rest (used ++ u ∷ [])
unfolding find_proposals
taken_next kept committer items rest x used u h e short = record {
  answer = sym (one_more used u (find_proposals kept committer (map list_item_of rest))) ∙ (rw e at h.answer);
  short = all_behind IsUsable used u h.short short;
  left = h.left.1;
}

taken_fails : (kept : List KeptProposal) (committer : ℕ) (items rest : List Item) (x : Item) (used : List Used) (n : ℕ) → AreTaken kept committer items (x ∷ rest) used → find_proposal kept committer (list_item_of x) ≡ Err n → find_proposals kept committer (map list_item_of items) ≡ Err n
unfolding find_proposals
taken_fails kept committer items rest x used n h e = sym (rw e at h.answer)

-- ---- by places

-- the first of what is left from a place on
pub left_short : (kept : List KeptProposal) (committer : ℕ) (items : List Item) (i : ℕ) (x : Item) (used : List Used) → i < length items → x ≡ get_or items i x → AreTaken kept committer items (drop i items) used → IsShortItem x
left_short kept committer items i x used lt e h = (subst (λ (l : List Item). AreTaken kept committer items l used) (here items i x lt e) h).left.0

pub taken_step : (kept : List KeptProposal) (committer : ℕ) (items : List Item) (i : ℕ) (x : Item) (used : List Used) (u : Used) → i < length items → x ≡ get_or items i x → AreTaken kept committer items (drop i items) used
    → find_proposal kept committer (list_item_of x) ≡ Ok u → IsUsable u → AreTaken kept committer items (drop (i + 1) items) (used ++ u ∷ [])
taken_step kept committer items i x used u lt e h one short =
    taken_next kept committer items (drop (i + 1) items) x used u (subst (λ (l : List Item). AreTaken kept committer items l used) (here items i x lt e) h) one short

pub taken_stops : (kept : List KeptProposal) (committer : ℕ) (items : List Item) (i : ℕ) (x : Item) (used : List Used) (n : ℕ) → i < length items → x ≡ get_or items i x → AreTaken kept committer items (drop i items) used
    → find_proposal kept committer (list_item_of x) ≡ Err n → find_proposals kept committer (map list_item_of items) ≡ Err n
taken_stops kept committer items i x used n lt e h one =
    taken_fails kept committer items (drop (i + 1) items) x used n (subst (λ (l : List Item). AreTaken kept committer items l used) (here items i x lt e) h) one

-- and all of them
at_end : (kept : List KeptProposal) (committer : ℕ) (items : List Item) (i : ℕ) (used : List Used) → length items ≤ i → AreTaken kept committer items (drop i items) used → AreTaken kept committer items [] used
at_end kept committer items i used le h = subst (λ (l : List Item). AreTaken kept committer items l used) (drop_all i items le) h

pub taken_end : (kept : List KeptProposal) (committer : ℕ) (items : List Item) (i : ℕ) (used : List Used) → length items ≤ i → AreTaken kept committer items (drop i items) used → find_proposals kept committer (map list_item_of items) ≡ Ok used
unfolding find_proposals
taken_end kept committer items i used le h = sym (at_end kept committer items i used le h).answer ∙ ap (λ (l : List Used). all_ok l) (append-nil used)
