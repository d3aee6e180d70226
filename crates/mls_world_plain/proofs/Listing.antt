-- What lists of commits add, one after the other, and the first record that is looked for.
use Rattle.std.proofs.Common.{◌≡◌, ℕ, ◌+◌, ◌<◌, ◌≤◌, true, false, List, [], ◌∷◌, ◌++◌, length, drop, map, Option, Some, None, Result, Ok, Err, refl, sym, ap, subst, ◌∙◌, append_assoc, get_or, slice_get}
use Rattle.std.specs.Prelude.{option_map, filter_map, ◌≢◌}
use Rattle.std.specs.List.{cons_option}
use Rattle.std.specs.Option.{option_copied}
use denote.Ref.{Bor}
use Rattle.std.proofs.lemmas.List.{append-nil, drop_all, map-append}
use Rattle.std.proofs.lemmas.Option.{slice_get-map, slice_get_read}
use Rattle.mls_wire.specs.Reading.{◌>>=◌}
use Rattle.mls_leaf.specs.KeyPackage.{key_package}
use Rattle.mls_leaf.specs.declared.key_package.KeyPackage.{KeyPackage}
use Rattle.mls_leaf.specs.declared.proposal.Proposal.{Proposal}
use Rattle.mls_types.specs.declared.commit.ProposalOrRef.{ProposalOrRef}
use Rattle.mls_types.specs.declared.commit.ProposalOrRef.TheVariants as listed
use Rattle.mls_model.specs.declared.event.Source.{Source}
use Rattle.mls_model.specs.declared.event.WorldItem.{WorldItem}
use Rattle.mls_model.specs.declared.item.Item.{Item}
use Rattle.mls_model.specs.PublicState.{Used}
use Rattle.mls_model.specs.Proposals.{add_in, adds}
use Rattle.mls_model.specs.Candidate.{Candidate}
use Rattle.mls_model.specs.Make.{list_item_of}
use Rattle.mls_model.specs.Member.{KeptProposal, kept_under, find_proposal, find_proposals}
use Rattle.mls_model.specs.Journal.{Journal, used_of, adds_in}
use Rattle.mls_model.specs.World.{World, item_of, items_of, commit_for_joiner}
use Rattle.mls_public_group.proofs.Rest.{here, all_behind}
use Rattle.mls_member.specs.Answers.{IsShortItem, AreShortItems}
use Rattle.mls_world_plain.specs.CommitItems.{proposal_for, with_package}
use Rattle.mls_world_plain.specs.CallParts.{adds_for, FirstIs}
use Rattle.mls_world_plain.specs.StoredWorld.{Making, commit_made_of}

-- ---- KeyPackages that are added

abbrev spelled : KeyPackage → List ℕ
spelled offered = key_package.spell offered

-- those so far and those of the rest, none where a reference isn't kept
abbrev behind : List (List ℕ) → Result (List Used) ℕ → List (List ℕ)
behind done (Ok us) = done ++ map spelled (adds us)
behind done (Err n) = []

-- what is used of what one says
pub record IsUsed (kept : List KeptProposal) (x : ProposalOrRef) (p : Proposal) : Type 0 where
  pub used : Used
  pub is : find_proposal kept 0 x ≡ Ok used
  pub says : used.proposal ≡ p

used_kept : (kept : List KeptProposal) (r : List ℕ) (o : Option KeptProposal) (p : Proposal) → kept_under kept r ≡ o → option_map (λ (k : KeptProposal). k.proposal) o ≡ Some p → IsUsed kept (listed.Reference r) p
used_kept kept r None p e h = absurd cc
used_kept kept r (Some k) p e h = record { used = record { proposal = k.proposal; sender = k.sender; is_full = false }; is = rw e refl; says = cc }

is_used : (kept : List KeptProposal) (x : ProposalOrRef) (p : Proposal) → proposal_for kept x ≡ Some p → IsUsed kept x p
is_used kept (listed.Proposal q) p h = record { used = record { proposal = q; sender = 0; is_full = true }; is = refl; says = cc }
is_used kept (listed.Reference r) p h = used_kept kept r (kept_under kept r) p refl h

unknown : (kept : List KeptProposal) (r : List ℕ) (o : Option KeptProposal) → kept_under kept r ≡ o → option_map (λ (k : KeptProposal). k.proposal) o ≡ None → find_proposal kept 0 (listed.Reference r) ≡ Err 60
unknown kept r None e h = rw e refl
unknown kept r (Some k) e h = absurd cc

not_used : (kept : List KeptProposal) (x : ProposalOrRef) → proposal_for kept x ≡ None → find_proposal kept 0 x ≡ Err 60
not_used kept (listed.Proposal q) h = absurd cc
not_used kept (listed.Reference r) h = unknown kept r (kept_under kept r) refl h

also_so : (done : List (List ℕ)) (o : Option KeyPackage) (ks : List KeyPackage) → done ++ map spelled (cons_option o ks) ≡ with_package done o ++ map spelled ks
also_so done None ks = refl
also_so done (Some offered) ks = sym (append_assoc done (spelled offered ∷ []) (map spelled ks))

one_used : (done : List (List ℕ)) (u : Used) (r : Result (List Used) ℕ) → behind done (r >>= λ us. Ok (u ∷ us)) ≡ behind (with_package done (add_in u.proposal)) r
unfolding adds
one_used done u (Ok us) = also_so done (add_in u.proposal) (filter_map (λ (v : Used). add_in v.proposal) us)
one_used done u (Err n) = refl

abbrev pub AddsFrom : List KeptProposal → List Item → ℕ → List (List ℕ) → Type 0
AddsFrom kept items i done = behind done (find_proposals kept 0 (map list_item_of (drop i items))) ≡ adds_in kept (map list_item_of items)

first_adds : (r : Result (List Used) ℕ) → behind [] r ≡ map spelled (adds (used_of r))
unfolding adds
first_adds (Ok us) = refl
first_adds (Err n) = refl

pub adds_start : (kept : List KeptProposal) (items : List Item) → AddsFrom kept items 0 []
unfolding adds_in
adds_start kept items = first_adds (find_proposals kept 0 (map list_item_of items))

used_first : (kept : List KeptProposal) (x : ProposalOrRef) (xs : List ProposalOrRef) (p : Proposal) (done all : List (List ℕ)) → IsUsed kept x p → behind done (find_proposals kept 0 (x ∷ xs)) ≡ all → behind (with_package done (add_in p)) (find_proposals kept 0 xs) ≡ all
unfolding find_proposals
used_first kept x xs p done all u h =
    let e : behind done (find_proposals kept 0 xs >>= λ us. Ok (u.used ∷ us)) ≡ all = rw u.is at h in
    subst (λ (q : Proposal). behind (with_package done (add_in q)) (find_proposals kept 0 xs) ≡ all) u.says (sym (one_used done u.used (find_proposals kept 0 xs)) ∙ e)

unused_first : (kept : List KeptProposal) (x : ProposalOrRef) (xs : List ProposalOrRef) (done all : List (List ℕ)) → find_proposal kept 0 x ≡ Err 60 → behind done (find_proposals kept 0 (x ∷ xs)) ≡ all → [] ≡ all
unfolding find_proposals
unused_first kept x xs done all e h = rw e at h

at_item : (kept : List KeptProposal) (items : List Item) (i : ℕ) (x : Item) (done : List (List ℕ)) → i < length items → x ≡ get_or items i x → AddsFrom kept items i done → behind done (find_proposals kept 0 (list_item_of x ∷ map list_item_of (drop (i + 1) items))) ≡ adds_in kept (map list_item_of items)
at_item kept items i x done lt e h = subst (λ (l : List Item). behind done (find_proposals kept 0 (map list_item_of l)) ≡ adds_in kept (map list_item_of items)) (here items i x lt e) h

-- one that says a proposal
pub adds_next : (kept : List KeptProposal) (items : List Item) (i : ℕ) (x : Item) (p : Proposal) (done : List (List ℕ)) → i < length items → x ≡ get_or items i x → Some p ≡ proposal_for kept (list_item_of x) → AddsFrom kept items i done → AddsFrom kept items (i + 1) (with_package done (add_in p))
adds_next kept items i x p done lt e said h =
    used_first kept (list_item_of x) (map list_item_of (drop (i + 1) items)) p done (adds_in kept (map list_item_of items)) (is_used kept (list_item_of x) p (sym said)) (at_item kept items i x done lt e h)

pub adds_stop : (kept : List KeptProposal) (items : List Item) (i : ℕ) (x : Item) (done : List (List ℕ)) → i < length items → x ≡ get_or items i x → None ≡ proposal_for kept (list_item_of x) → AddsFrom kept items i done → [] ≡ adds_in kept (map list_item_of items)
adds_stop kept items i x done lt e said h =
    unused_first kept (list_item_of x) (map list_item_of (drop (i + 1) items)) done (adds_in kept (map list_item_of items)) (not_used kept (list_item_of x) (sym said)) (at_item kept items i x done lt e h)

pub adds_end : (kept : List KeptProposal) (items : List Item) (i : ℕ) (done : List (List ℕ)) → length items ≤ i → AddsFrom kept items i done → done ≡ adds_in kept (map list_item_of items)
unfolding find_proposals adds
adds_end kept items i done le h = sym (append-nil done) ∙ subst (λ (l : List Item). behind done (find_proposals kept 0 (map list_item_of l)) ≡ adds_in kept (map list_item_of items)) (drop_all i items le) h

no_value : (o : Option (Bor Proposal)) → ((x : Bor Proposal) → o ≢ Some x) → option_copied o ≡ None
no_value None h = refl
no_value (Some x) h = absurd (h x refl)

pub adds_none : (kept : List KeptProposal) (items : List Item) (i : ℕ) (x : Item) (done : List (List ℕ)) (o : Option (Bor Proposal)) → i < length items → x ≡ get_or items i x → option_copied o ≡ proposal_for kept (list_item_of x) → ((y : Bor Proposal) → o ≢ Some y) → AddsFrom kept items i done
    → [] ≡ adds_in kept (map list_item_of items)
adds_none kept items i x done o lt e said none h = adds_stop kept items i x done lt e (sym (no_value o none) ∙ said) h

pub rest_short : (items : List Item) (i : ℕ) (x : Item) → i < length items → x ≡ get_or items i x → AreShortItems (drop i items) → AreShortItems (drop (i + 1) items)
rest_short items i x lt e h = (subst (λ (l : List Item). AreShortItems l) (here items i x lt e) h).1

-- ---- items

abbrev pub with_items : List ProposalOrRef → Result (List ProposalOrRef) ℕ → Result (List ProposalOrRef) ℕ
with_items done r = r >>= λ ys. Ok (done ++ ys)

-- items so far, and those of the rest
pub record AreItems (w : World) (items : List WorldItem) (i : ℕ) (done : List Item) : Type 0 where
  pub answer : with_items (map list_item_of done) (items_of w (drop i items)) ≡ items_of w items
  pub short : AreShortItems done

none_done : (r : Result (List ProposalOrRef) ℕ) → with_items [] r ≡ r
none_done (Ok ys) = refl
none_done (Err n) = refl

pub items_start : (w : World) (items : List WorldItem) → AreItems w items 0 []
items_start w items = record { answer = none_done (items_of w items); short = tt }

abbrev all_ok : List ProposalOrRef → Result (List ProposalOrRef) ℕ
all_ok ys = Ok ys

one_item : (done : List ProposalOrRef) (y : ProposalOrRef) (r : Result (List ProposalOrRef) ℕ) → with_items done (r >>= λ ys. Ok (y ∷ ys)) ≡ with_items (done ++ y ∷ []) r
one_item done y (Ok ys) = ap (λ (l : List ProposalOrRef). all_ok l) (sym (append_assoc done (y ∷ []) ys))
one_item done y (Err n) = refl

item_done : (w : World) (x : WorldItem) (xs : List WorldItem) (y : ProposalOrRef) (done : List ProposalOrRef) (all : Result (List ProposalOrRef) ℕ) → item_of w x ≡ Ok y → with_items done (items_of w (x ∷ xs)) ≡ all → with_items (done ++ y ∷ []) (items_of w xs) ≡ all
unfolding items_of
item_done w x xs y done all e h = sym (one_item done y (items_of w xs)) ∙ (rw e at h)

item_fails : (w : World) (x : WorldItem) (xs : List WorldItem) (n : ℕ) (done : List ProposalOrRef) (all : Result (List ProposalOrRef) ℕ) → item_of w x ≡ Err n → with_items done (items_of w (x ∷ xs)) ≡ all → all ≡ Err n
unfolding items_of
item_fails w x xs n done all e h = sym (rw e at h)

pub items_next : (w : World) (items : List WorldItem) (i : ℕ) (x : WorldItem) (y : Item) (done : List Item) → i < length items → x ≡ get_or items i x → AreItems w items i done → item_of w x ≡ Ok (list_item_of y) → IsShortItem y → AreItems w items (i + 1) (done ++ y ∷ [])
items_next w items i x y done lt e h is short = record {
  answer =
      let a = subst (λ (l : List WorldItem). with_items (map list_item_of done) (items_of w l) ≡ items_of w items) (here items i x lt e) h.answer in
      let b = item_done w x (drop (i + 1) items) (list_item_of y) (map list_item_of done) (items_of w items) is a in
      subst (λ (l : List ProposalOrRef). with_items l (items_of w (drop (i + 1) items)) ≡ items_of w items) (sym (map-append list_item_of done (y ∷ []))) b;
  short = all_behind IsShortItem done y h.short short;
}

pub items_fail : (w : World) (items : List WorldItem) (i : ℕ) (x : WorldItem) (n : ℕ) (done : List Item) → i < length items → x ≡ get_or items i x → AreItems w items i done → item_of w x ≡ Err n → items_of w items ≡ Err n
items_fail w items i x n done lt e h is =
    item_fails w x (drop (i + 1) items) n (map list_item_of done) (items_of w items) is (subst (λ (l : List WorldItem). with_items (map list_item_of done) (items_of w l) ≡ items_of w items) (here items i x lt e) h.answer)

pub items_end : (w : World) (items : List WorldItem) (i : ℕ) (done : List Item) → length items ≤ i → AreItems w items i done → items_of w items ≡ Ok (map list_item_of done)
unfolding items_of
items_end w items i done le h =
    let a = subst (λ (l : List WorldItem). with_items (map list_item_of done) (items_of w l) ≡ items_of w items) (drop_all i items le) h.answer in
    sym a ∙ ap (λ (l : List ProposalOrRef). all_ok l) (append-nil (map list_item_of done))

-- ---- the first record

-- none of the records before this one
abbrev pub FirstFrom : List Journal → List Making → Source → Candidate → ℕ → Type 0
FirstFrom js ds source k i = commit_for_joiner (map (commit_made_of js) (drop i ds)) source k ≡ commit_for_joiner (map (commit_made_of js) ds) source k

first_is : (js : List Journal) (d : Making) (ds : List Making) (source : Source) (k : Candidate) → adds_for source (key_package.spell k.offered) d ≡ true → commit_for_joiner (map (commit_made_of js) (d ∷ ds)) source k ≡ Some (commit_made_of js d)
unfolding commit_for_joiner
first_is js d ds source k e = rw e refl

first_not : (js : List Journal) (d : Making) (ds : List Making) (source : Source) (k : Candidate) → adds_for source (key_package.spell k.offered) d ≡ false → commit_for_joiner (map (commit_made_of js) (d ∷ ds)) source k ≡ commit_for_joiner (map (commit_made_of js) ds) source k
unfolding commit_for_joiner
first_not js d ds source k e = rw e refl

pub first_found : (js : List Journal) (ds : List Making) (source : Source) (k : Candidate) (i : ℕ) (d : Making) → i < length ds → d ≡ get_or ds i d → FirstFrom js ds source k i → adds_for source (key_package.spell k.offered) d ≡ true → commit_for_joiner (map (commit_made_of js) ds) source k ≡ slice_get (map (commit_made_of js) ds) i
first_found js ds source k i d lt e h met =
    let a : commit_for_joiner (map (commit_made_of js) (d ∷ drop (i + 1) ds)) source k ≡ commit_for_joiner (map (commit_made_of js) ds) source k = subst (λ (l : List Making). commit_for_joiner (map (commit_made_of js) l) source k ≡ commit_for_joiner (map (commit_made_of js) ds) source k) (here ds i d lt e) h in
    sym a ∙ first_is js d (drop (i + 1) ds) source k met ∙ sym (slice_get-map (commit_made_of js) ds i ∙ ap (λ (o : Option Making). option_map (commit_made_of js) o) (slice_get_read ds (length ds) i d refl lt e))

pub first_passed : (js : List Journal) (ds : List Making) (source : Source) (k : Candidate) (i : ℕ) (d : Making) → i < length ds → d ≡ get_or ds i d → FirstFrom js ds source k i → adds_for source (key_package.spell k.offered) d ≡ false → FirstFrom js ds source k (i + 1)
first_passed js ds source k i d lt e h passed =
    let a : commit_for_joiner (map (commit_made_of js) (d ∷ drop (i + 1) ds)) source k ≡ commit_for_joiner (map (commit_made_of js) ds) source k = subst (λ (l : List Making). commit_for_joiner (map (commit_made_of js) l) source k ≡ commit_for_joiner (map (commit_made_of js) ds) source k) (here ds i d lt e) h in
    sym (first_not js d (drop (i + 1) ds) source k passed) ∙ a

pub first_none : (js : List Journal) (ds : List Making) (source : Source) (k : Candidate) (i : ℕ) → length ds ≤ i → FirstFrom js ds source k i → commit_for_joiner (map (commit_made_of js) ds) source k ≡ None
unfolding commit_for_joiner
first_none js ds source k i le h = sym (subst (λ (l : List Making). commit_for_joiner (map (commit_made_of js) l) source k ≡ commit_for_joiner (map (commit_made_of js) ds) source k) (drop_all i ds le) h)

-- whatever the journals and the candidate
abbrev pub NoneBefore : List Making → Source → List ℕ → ℕ → Type 0
NoneBefore ds source offered i = (js : List Journal) (k : Candidate) → offered ≡ key_package.spell k.offered → FirstFrom js ds source k i

pub none_yet : (ds : List Making) (source : Source) (offered : List ℕ) → NoneBefore ds source offered 0
none_yet ds source offered js k e = refl

pub none_next : (ds : List Making) (source : Source) (offered : List ℕ) (i : ℕ) (d : Making) → i < length ds → d ≡ get_or ds i d → adds_for source offered d ≡ false → NoneBefore ds source offered i → NoneBefore ds source offered (i + 1)
none_next ds source offered i d lt at passed h js k e = first_passed js ds source k i d lt at (h js k e) (subst (λ (l : List ℕ). adds_for source l d ≡ false) e passed)

pub now_found : (ds : List Making) (source : Source) (offered : List ℕ) (i : ℕ) (d : Making) → i < length ds → d ≡ get_or ds i d → adds_for source offered d ≡ true → NoneBefore ds source offered i → FirstIs ds source offered (Some i)
now_found ds source offered i d lt at met h js k e = first_found js ds source k i d lt at (h js k e) (subst (λ (l : List ℕ). adds_for source l d ≡ true) e met)

pub none_found : (ds : List Making) (source : Source) (offered : List ℕ) (i : ℕ) → length ds ≤ i → NoneBefore ds source offered i → FirstIs ds source offered None
none_found ds source offered i le h js k e = first_none js ds source k i le (h js k e)
