-- How the proposals that a commit uses come about, one after the other.
use Rattle.std.proofs.Common.{◌≡◌, ℕ, ◌+◌, ◌<◌, ◌≤◌, ◌^◌, List, [], ◌∷◌, ◌++◌, length, drop, Option, Some, None, Result, Ok, Err, refl, sym, ap, subst, ◌∙◌, arith, append_assoc, get_or, ◌||◌, false}
use Rattle.std.specs.List.{AllByRecursion, list_any, cons_option}
use Rattle.std.proofs.lemmas.List.{append-nil, drop_all}
use Rattle.mls_wire.specs.Reading.{◌>>=◌}
use Rattle.mls_leaf.specs.Proposal.{proposal as proposal_format}
use Rattle.mls_leaf.specs.declared.proposal.Proposal.{Proposal}
use Rattle.mls_leaf.specs.declared.proposal.Proposal.TheVariants.{Add, Update, Remove, GroupContextExtensions}
use Rattle.mls_types.specs.declared.commit.ProposalOrRef.{ProposalOrRef}
use Rattle.mls_tree_model.specs.Sets.{has}
use Rattle.mls_model.specs.PublicState.{Used}
use Rattle.mls_model.specs.Member.{KeptProposal, find_proposal, find_proposals, named_proposal, named_proposals, first_own_key, first_key}
use Rattle.mls_model.specs.Proposals.{removed_leaves, remove_in}
use Rattle.mls_public_group.specs.Short.{IsBelow, IsProposalBelow, AreBelow}
use Rattle.mls_public_group.proofs.Rest.{here, all_behind}
use Rattle.mls_public_group.proofs.ShortLaws.{below_more, proposal_below}
use Rattle.mls_make.specs.CommitCall.{HasShortParts, IsUsable}
use Rattle.mls_member.specs.Process.{IsListedBelow, key_of, is_leaf, removes_leaf}

-- a proposal that is used encodes to fewer than 2^27 bytes, extensions too
abbrev pub IsSpelledBelow : Used → Type 0
IsSpelledBelow u = IsBelow (2 ^ 27) proposal_format u.proposal

-- what is used so far, and then the rest of the list
abbrev pub with_rest : List Used → Result (List Used) ℕ → Result (List Used) ℕ
with_rest used rest = rest >>= λ us. Ok (used ++ us)

pub record AreUsed (kept : List KeptProposal) (committer : ℕ) (list rest : List ProposalOrRef) (used : List Used) : Type 0 where
  pub answer : with_rest used (find_proposals kept committer rest) ≡ find_proposals kept committer list
  pub below : AllByRecursion IsSpelledBelow used
  pub short : AllByRecursion (IsListedBelow (2 ^ 27)) rest

abbrev pub all_ok : List Used → Result (List Used) ℕ
all_ok us = Ok us

pub nothing_first : (r : Result (List Used) ℕ) → with_rest [] r ≡ r
nothing_first (Ok us) = refl
nothing_first (Err n) = refl

pub one_more : (used : List Used) (u : Used) (r : Result (List Used) ℕ) → with_rest used (r >>= λ us. Ok (u ∷ us)) ≡ with_rest (used ++ u ∷ []) r
one_more used u (Ok us) = ap (λ (l : List Used). all_ok l) (sym (append_assoc used (u ∷ []) us))
one_more used u (Err n) = refl

pub used_first : (kept : List KeptProposal) (committer : ℕ) (list : List ProposalOrRef) → AllByRecursion (IsListedBelow (2 ^ 27)) list → AreUsed kept committer list list []
used_first kept committer list h = record { answer = nothing_first (find_proposals kept committer list); below = tt; short = h }

pub used_next : (kept : List KeptProposal) (committer : ℕ) (list rest : List ProposalOrRef) (x : ProposalOrRef) (used : List Used) (u : Used) → AreUsed kept committer list (x ∷ rest) used → find_proposal kept committer x ≡ Ok u → IsBelow (2 ^ 27) proposal_format u.proposal → AreUsed kept committer list rest (used ++ u ∷ [])
unfolding find_proposals
used_next kept committer list rest x used u h e below = record {
  answer = sym (one_more used u (find_proposals kept committer rest)) ∙ (rw e at h.answer);
  below = all_behind IsSpelledBelow used u h.below below;
  short = h.short.1;
}

pub used_fails : (kept : List KeptProposal) (committer : ℕ) (list rest : List ProposalOrRef) (x : ProposalOrRef) (used : List Used) (n : ℕ) → AreUsed kept committer list (x ∷ rest) used → find_proposal kept committer x ≡ Err n → find_proposals kept committer list ≡ Err n
unfolding find_proposals
used_fails kept committer list rest x used n h e = sym (rw e at h.answer)

pub used_all : (kept : List KeptProposal) (committer : ℕ) (list : List ProposalOrRef) (used : List Used) → AreUsed kept committer list [] used → find_proposals kept committer list ≡ Ok used
unfolding find_proposals
used_all kept committer list used h = sym h.answer ∙ ap (λ (l : List Used). all_ok l) (append-nil used)

-- ---- wider limits

wider : (p : Proposal) → IsBelow (2 ^ 27) proposal_format p → IsBelow (2 ^ 28) proposal_format p
wider p h = below_more proposal_format (2 ^ 27) (2 ^ 28) p (omega arith) h

-- a proposal below 2^27 is below 2^28, extensions aside
pub checked_below : (p : Proposal) → IsBelow (2 ^ 27) proposal_format p → IsProposalBelow (2 ^ 28) p
checked_below p h = proposal_below (2 ^ 28) p (wider p h)

pub used_wider : (us : List Used) → AllByRecursion IsSpelledBelow us → AreBelow (2 ^ 28) us
used_wider [] h = tt
used_wider (u ∷ us) h = (checked_below u.proposal h.0, used_wider us h.1)

-- a kept proposal can be used, whatever it says
short_parts : (p : Proposal) → IsBelow (2 ^ 27) proposal_format p → HasShortParts p
unfolding proposal_format
short_parts (Add x) h = wider (Add x) h
short_parts (Update x) h = wider (Update x) h
short_parts (Remove i) h = wider (Remove i) h
short_parts (GroupContextExtensions list) h = λ lt. h.fits.1

pub kept_usable : (p : Proposal) (sender : ℕ) → IsBelow (2 ^ 27) proposal_format p → let u : Used = record { proposal = p; sender = sender; is_full = false } in IsUsable u
kept_usable p sender h = (short_parts p h, λ full. h)

-- ---- lists

pub used_step : (kept : List KeptProposal) (committer : ℕ) (list : List ProposalOrRef) (i : ℕ) (x : ProposalOrRef) (used : List Used) (u : Used) → i < length list → x ≡ get_or list i x → AreUsed kept committer list (drop i list) used
    → find_proposal kept committer x ≡ Ok u → IsBelow (2 ^ 27) proposal_format u.proposal → AreUsed kept committer list (drop (i + 1) list) (used ++ u ∷ [])
used_step kept committer list i x used u lt e h one below =
    used_next kept committer list (drop (i + 1) list) x used u (subst (λ (l : List ProposalOrRef). AreUsed kept committer list l used) (here list i x lt e) h) one below

pub used_stops : (kept : List KeptProposal) (committer : ℕ) (list : List ProposalOrRef) (i : ℕ) (x : ProposalOrRef) (used : List Used) (n : ℕ) → i < length list → x ≡ get_or list i x → AreUsed kept committer list (drop i list) used
    → find_proposal kept committer x ≡ Err n → find_proposals kept committer list ≡ Err n
used_stops kept committer list i x used n lt e h one =
    used_fails kept committer list (drop (i + 1) list) x used n (subst (λ (l : List ProposalOrRef). AreUsed kept committer list l used) (here list i x lt e) h) one

pub used_end : (kept : List KeptProposal) (committer : ℕ) (list : List ProposalOrRef) (i : ℕ) (used : List Used) → length list ≤ i → AreUsed kept committer list (drop i list) used → find_proposals kept committer list ≡ Ok used
used_end kept committer list i used le h = used_all kept committer list used (subst (λ (l : List ProposalOrRef). AreUsed kept committer list l used) (drop_all i list le) h)

-- ---- removes

has_next : (o : Option ℕ) (xs : List ℕ) (leaf : ℕ) → has (cons_option o xs) leaf ≡ (is_leaf leaf o || has xs leaf)
unfolding has
has_next None xs leaf = refl
has_next (Some i) xs leaf = refl

pub any_removes : (us : List Used) (leaf : ℕ) → list_any (removes_leaf leaf) us ≡ has (removed_leaves us) leaf
unfolding has removed_leaves
any_removes [] leaf = refl
any_removes (u ∷ us) leaf = rw (any_removes us leaf) (sym (has_next (remove_in u.proposal) (removed_leaves us) leaf))

-- ---- keys

by_name : (o : Option KeptProposal) (ks : List KeptProposal) → first_own_key (cons_option o ks) ≡ first_key (key_of o) (first_own_key ks)
unfolding first_own_key
by_name None ks = refl
by_name (Some k) ks = refl

-- the first key of a list is that of its first entry, or of the others
own_key_next : (kept : List KeptProposal) (x : ProposalOrRef) (xs : List ProposalOrRef) → first_own_key (named_proposals kept (x ∷ xs)) ≡ first_key (key_of (named_proposal kept x)) (first_own_key (named_proposals kept xs))
unfolding named_proposals
own_key_next kept x xs = by_name (named_proposal kept x) (named_proposals kept xs)

-- what is left of a list from a place on has the key that is looked for
abbrev pub HasKey : List KeptProposal → List ProposalOrRef → ℕ → Option (List ℕ) → Type 0
HasKey kept list i key = first_own_key (named_proposals kept (drop i list)) ≡ key

pub key_found : (kept : List KeptProposal) (list : List ProposalOrRef) (i : ℕ) (x : ProposalOrRef) (k : List ℕ) (key : Option (List ℕ)) → i < length list → x ≡ get_or list i x → HasKey kept list i key → Some k ≡ key_of (named_proposal kept x) → Some k ≡ key
key_found kept list i x k key lt e h found =
    let a : first_key (key_of (named_proposal kept x)) (first_own_key (named_proposals kept (drop (i + 1) list))) ≡ key = sym (own_key_next kept x (drop (i + 1) list)) ∙ ap (λ (l : List ProposalOrRef). first_own_key (named_proposals kept l)) (sym (here list i x lt e)) ∙ h in
    subst (λ (o : Option (List ℕ)). first_key o (first_own_key (named_proposals kept (drop (i + 1) list))) ≡ key) (sym found) a

pub key_passed : (kept : List KeptProposal) (list : List ProposalOrRef) (i : ℕ) (x : ProposalOrRef) (key : Option (List ℕ)) → i < length list → x ≡ get_or list i x → HasKey kept list i key → None ≡ key_of (named_proposal kept x) → HasKey kept list (i + 1) key
key_passed kept list i x key lt e h none =
    let a : first_key (key_of (named_proposal kept x)) (first_own_key (named_proposals kept (drop (i + 1) list))) ≡ key = sym (own_key_next kept x (drop (i + 1) list)) ∙ ap (λ (l : List ProposalOrRef). first_own_key (named_proposals kept l)) (sym (here list i x lt e)) ∙ h in
    subst (λ (o : Option (List ℕ)). first_key o (first_own_key (named_proposals kept (drop (i + 1) list))) ≡ key) (sym none) a

pub key_end : (kept : List KeptProposal) (list : List ProposalOrRef) (i : ℕ) (key : Option (List ℕ)) → length list ≤ i → HasKey kept list i key → None ≡ key
unfolding named_proposals first_own_key
key_end kept list i key le h = subst (λ (l : List ProposalOrRef). first_own_key (named_proposals kept l) ≡ key) (drop_all i list le) h
