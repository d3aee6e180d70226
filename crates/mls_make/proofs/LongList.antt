-- Commits that give a list of extensions in full which no message has room for, and those that give none.
use Rattle.std.proofs.Common.{◌≡◌, ◌≢◌, ℕ, ◌<◌, ◌≤◌, ◌^◌, Bool, true, false, not, ◌&&◌, ◌||◌, cond, List, [], ◌∷◌, length, Result, Ok, Err, refl, ap, sym, subst, ◌∙◌, arith, lit<, inl, inr, length-append}
use Rattle.std.specs.Prelude.{IfOk}
use Rattle.std.specs.Int.{w16}
use Rattle.std.specs.List.{cons_option, flat_map}
use Rattle.std.proofs.lemmas.Bool.{cases_lt, le-leb, leb-true}
use Rattle.mls_wire.specs.Laws.{ok_is}
use Rattle.mls_wire.specs.Reading.{uint}
use Rattle.mls_wire.proofs.CheckLaws.{bind_ok}
use Rattle.mls_wire.specs.declared.WireError.TheVariants as wire
use Rattle.mls_leaf.specs.Faults.{number_of}
use Rattle.mls_leaf.specs.GroupExtensions.{group_extensions, is_short}
use Rattle.mls_leaf.specs.Limits.{input_limit}
use Rattle.mls_leaf.specs.Proposal.{proposal}
use Rattle.mls_leaf.specs.declared.error.LeafError.TheVariants.{Wire}
use Rattle.mls_leaf.specs.declared.extension.Extension.{Extension}
use Rattle.mls_leaf.specs.declared.proposal.Proposal as proposals
use Rattle.mls_leaf.specs.declared.proposal.Proposal.TheVariants.{Add, Update, Remove, GroupContextExtensions}
use Rattle.mls_types.specs.Commit.{proposal_or_ref}
use Rattle.mls_types.specs.Content.{framed_content}
use Rattle.mls_types.specs.SignedParts.{with_signature}
use Rattle.mls_types.specs.declared.commit.Commit.{Commit}
use Rattle.mls_types.specs.declared.commit.ProposalOrRef.{ProposalOrRef}
use Rattle.mls_types.specs.declared.commit.ProposalOrRef.TheVariants as listed
use Rattle.mls_suite.specs.Crypto.{Crypto, Lawful}
use Rattle.mls_tree_model.specs.Term.{Term}
use Rattle.mls_model.specs.PublicState.{Used}
use Rattle.mls_model.specs.Proposals.{extensions_after, extension_lists, extensions_in, first_list, is_path_required}
use Rattle.mls_model.specs.Commit.{Edits, apply_proposals, apply_path_if}
use Rattle.mls_model.specs.Member.{KeptProposal, Member, find_proposal, find_proposals}
use Rattle.mls_model.specs.Messages.{require_within_limit, message_by}
use Rattle.mls_model.specs.Make.{MadePath, new_path, no_path, carried_after, path_if_needed, path_with, commit_from_proposals}
use Rattle.mls_public_group.specs.Short.{IsBelow, IsProposalBelow, AreBelow}
use Rattle.mls_public_group.proofs.ShortLaws.{below_more, list_below}
use Rattle.mls_message.proofs.Refusals.{refused_long}
use Rattle.mls_update_path.proofs.OtherExtensions.{AreAlike, new_path_alike, new_path_merges}
use Rattle.mls_make.specs.CommitCall.{HasShortParts, AreShortUsed, AreUsable}
use Rattle.mls_make.specs.LongList.{IsRefusalPast, give_long_list, gives_long_list, has_long_list}
use Rattle.mls_make.proofs.Lengths.{back, front, commit_within, items_inside, listed_inside, named_kept}
use Rattle.mls_make.proofs.Steps.{said_in, commit_in, path_fails, content_fails}

-- ---- a path for other extensions

refused_past : (r s : Result MadePath ℕ) (n : ℕ) → AreAlike r s → r ≡ Err n → IsRefusalPast s n
refused_past (Ok x) s n alike h = absurd cc
refused_past (Err k) (Ok y) n alike h = absurd alike
refused_past (Err k) (Err j) n alike h = cc

made_past : (r s : Result MadePath ℕ) (x : MadePath) → AreAlike r s → r ≡ Ok x → IsRefusalPast s 6
made_past (Err k) s x alike h = absurd cc
made_past (Ok y) (Ok z) x alike h = refl
made_past (Ok y) (Err j) x alike h = absurd alike

chosen_alike : (b : Bool) (r s : Result MadePath ℕ) (x : MadePath) → AreAlike r s → AreAlike (cond b r (Ok x)) (cond b s (Ok x))
chosen_alike true r s x h = h
chosen_alike false r s x h = tt

-- a path, where one is wanted or required, is refused alike for any extensions
with_alike : (c : Crypto) → Lawful c → (m : Member) (one other : List Extension) (e : Edits) (used : List Used) (wants : Bool) (seed : List ℕ) → AreAlike (path_with c m one e used wants seed) (path_with c m other e used wants seed)
unfolding path_with
with_alike c laws m one other e used wants seed =
    chosen_alike (wants || is_path_required used) (new_path c m one e seed) (new_path c m other e seed) (no_path m e) (new_path_alike c laws m one other e seed)

module _ (c : Crypto) (laws : Lawful c) (m : Member) (stand_in carried : List Extension) (e : Edits) (used : List Used) (wants : Bool) (seed : List ℕ) where
  pub path_refused : (n : ℕ) → path_with c m stand_in e used wants seed ≡ Err n → IsRefusalPast (path_with c m carried e used wants seed) n
  path_refused n h = refused_past (path_with c m stand_in e used wants seed) (path_with c m carried e used wants seed) n (with_alike c laws m stand_in carried e used wants seed) h

  pub path_made : (x : MadePath) → path_with c m stand_in e used wants seed ≡ Ok x → IsRefusalPast (path_with c m carried e used wants seed) 6
  path_made x h = made_past (path_with c m stand_in e used wants seed) (path_with c m carried e used wants seed) x (with_alike c laws m stand_in carried e used wants seed) h

-- each member merges a path that was made
merged_either : (c : Crypto) → Lawful c → (m : Member) (carried : List Extension) (e : Edits) (seed : List ℕ) (b : Bool) (made : MadePath) → cond b (new_path c m carried e seed) (Ok (no_path m e)) ≡ Ok made → (t : Term) × (apply_path_if c m.public m.keys.leaf e made.path ≡ Ok t)
unfolding no_path apply_path_if
merged_either c laws m carried e seed true made h = new_path_merges c laws m carried e seed made h
merged_either c laws m carried e seed false made h = (e.tree, ap (λ (x : MadePath). apply_path_if c m.public m.keys.leaf e x.path) (sym (ok_is (no_path m e) made h)))

path_merges : (c : Crypto) → Lawful c → (m : Member) (e : Edits) (used : List Used) (wants : Bool) (seed : List ℕ) (made : MadePath) → path_if_needed c m e used wants seed ≡ Ok made → (t : Term) × (apply_path_if c m.public m.keys.leaf e made.path ≡ Ok t)
unfolding path_with
path_merges c laws m e used wants seed made h = merged_either c laws m (carried_after m used) e seed (wants || is_path_required used) made h

-- ---- what an input has room for is no long list

extensions_within : (list : List Extension) → length (group_extensions.spell list) ≤ length (proposal.spell (GroupContextExtensions list))
unfolding proposal
extensions_within list = omega (arith, length-append (uint w16 7) (group_extensions.spell list))

not_long : (p : proposals.Proposal) → length (proposal.spell p) ≤ input_limit → has_long_list p ≡ false
not_long (Add x) le = refl
not_long (Update x) le = refl
not_long (Remove i) le = refl
not_long (GroupContextExtensions list) le = ap not (le-leb (length (group_extensions.spell list)) input_limit (omega (arith, le, extensions_within list)))

never_and : (b : Bool) → (b && false) ≡ false
never_and true = refl
never_and false = refl

one_within : (kept : List KeptProposal) (leaf : ℕ) (x : ProposalOrRef) (u : Used) → find_proposal kept leaf x ≡ Ok u → length (proposal_or_ref.spell x) ≤ input_limit → gives_long_list u ≡ false
one_within kept leaf (listed.Proposal p) u h le =
    let same : p ≡ u.proposal = ap (λ (v : Used). v.proposal) (ok_is _ _ h) in
    let none : has_long_list u.proposal ≡ false = subst (λ (q : proposals.Proposal). has_long_list q ≡ false) same (not_long p (listed_inside p input_limit le)) in
    ap (λ (b : Bool). u.is_full && b) none ∙ never_and u.is_full
one_within kept leaf (listed.Reference r) u h le = ap (λ (b : Bool). b && has_long_list u.proposal) (named_kept kept leaf r u h)

all_within : (kept : List KeptProposal) (leaf : ℕ) (xs : List ProposalOrRef) (used : List Used) → find_proposals kept leaf xs ≡ Ok used → length (flat_map proposal_or_ref.spell xs) ≤ input_limit → give_long_list used ≡ false
unfolding find_proposals
all_within kept leaf [] used h le = subst (λ (us : List Used). give_long_list us ≡ false) (ok_is _ _ h) refl
all_within kept leaf (x ∷ xs) used h le =
    let one = bind_ok _ _ _ h in
    let more = bind_ok _ _ _ one.2 in
    let is : one.0 ∷ more.0 ≡ used = ok_is _ _ more.2 in
    let first : gives_long_list one.0 ≡ false = one_within kept leaf x one.0 one.1 (front (proposal_or_ref.spell x) (flat_map proposal_or_ref.spell xs) input_limit le) in
    let others : give_long_list more.0 ≡ false = all_within kept leaf xs more.0 more.1 (back (proposal_or_ref.spell x) (flat_map proposal_or_ref.spell xs) input_limit le) in
    subst (λ (us : List Used). give_long_list us ≡ false) is (ap (λ (b : Bool). b || give_long_list more.0) first ∙ others)

-- ---- a commit that gives one is refused

never : (b : Bool) → b ≡ true → b ≡ false → ⊥
never true h e = absurd cc
never false h e = absurd cc

said_long : (m : Member) (list : List ProposalOrRef) (used : List Used) (made : MadePath) → find_proposals m.kept m.keys.leaf list ≡ Ok used → give_long_list used ≡ true → input_limit < length (framed_content.spell (said_in m list made))
said_long m list used made found long =
    elim (cases_lt input_limit (length (framed_content.spell (said_in m list made)))) [
      | inl lt ↦ lt
      | inr le ↦
          let k : Commit = commit_in list made in
          absurd (never (give_long_list used) long (all_within m.kept m.keys.leaf list used found (items_inside k input_limit (commit_within m k le))))
    ]

six_is : number_of (Wire wire.TooLong) ≢ 1
six_is e = absurd cc

-- whatever its signature and its tag are
too_long : (m : Member) (list : List ProposalOrRef) (used : List Used) (made : MadePath) → find_proposals m.kept m.keys.leaf list ≡ Ok used → give_long_list used ≡ true →
    (signature tag : List ℕ) → require_within_limit (message_by m (with_signature (said_in m list made) signature tag)) ≡ Err 6
too_long m list used made found long = refused_long m (said_in m list made) (Wire wire.TooLong) (λ no. (refl, said_long m list used made found long)) six_is

pub long_list_fails : (c : Crypto) → Lawful c → (m : Member) (list : List ProposalOrRef) (used : List Used) (wants : Bool) (seed : List ℕ) (e : Edits) (n : ℕ) →
    find_proposals m.kept m.keys.leaf list ≡ Ok used → give_long_list used ≡ true → apply_proposals c m.public m.keys.leaf used ≡ Ok e → IsRefusalPast (path_if_needed c m e used wants seed) n → commit_from_proposals c m list used wants seed ≡ Err n
long_list_fails c laws m list used wants seed e n found long edits h = by_path (path_if_needed c m e used wants seed) refl h
  where
    by_path : (r : Result MadePath ℕ) → path_if_needed c m e used wants seed ≡ r → IsRefusalPast r n → commit_from_proposals c m list used wants seed ≡ Err n
    by_path (Err k) is past = rw past (path_fails c m list used wants seed e edits k is)
    by_path (Ok made) is past =
        let merges = path_merges c laws m e used wants seed made is in
        rw past (content_fails c m list used wants seed e edits made is merges.0 merges.1 6 (too_long m list used made found long))

-- ---- where none is given, all is short

none_either : (a b : Bool) → (a || b) ≡ false → (a ≡ false) × (b ≡ false)
none_either true b e = absurd cc
none_either false b e = (refl, e)

short_list : (b : Bool) → not b ≡ false → b ≡ true
short_list true e = refl
short_list false e = absurd cc

extensions_below : (full : Bool) (list : List Extension) → HasShortParts (GroupContextExtensions list) → (full ≡ false → IsBelow (2 ^ 27) proposal (GroupContextExtensions list)) → (full && has_long_list (GroupContextExtensions list)) ≡ false → IsBelow (2 ^ 27) proposal (GroupContextExtensions list)
unfolding proposal uint
extensions_below true list fits kept none =
    let short : length (group_extensions.spell list) ≤ input_limit = leb-true (length (group_extensions.spell list)) input_limit (short_list (is_short list) none) in
    record { fits = (lit< tt, fits (omega arith)); below = omega (arith, length-append (uint w16 7) (group_extensions.spell list)) }
extensions_below false list fits kept none = kept refl

one_short : (full : Bool) (p : proposals.Proposal) → HasShortParts p → (full ≡ false → IsBelow (2 ^ 27) proposal p) → (full && has_long_list p) ≡ false → IsBelow (2 ^ 28) proposal p
one_short full (Add x) h kept none = h
one_short full (Update x) h kept none = h
one_short full (Remove i) h kept none = h
one_short full (GroupContextExtensions list) h kept none = below_more proposal (2 ^ 27) (2 ^ 28) (GroupContextExtensions list) (omega arith) (extensions_below full list h kept none)

pub usable_short : (used : List Used) → AreUsable used → give_long_list used ≡ false → AreShortUsed used
usable_short [] h none = tt
usable_short (u ∷ us) h none =
    let both = none_either (gives_long_list u) (give_long_list us) none in
    ((one_short u.is_full u.proposal h.0.0 h.0.1 both.0, h.0.1), usable_short us h.1 both.1)

-- long lists or not, what the checks of the edits ask for is short
one_usable : (p : proposals.Proposal) → HasShortParts p → IsProposalBelow (2 ^ 28) p
one_usable (Add x) h = h
one_usable (Update x) h = h
one_usable (Remove i) h = h
one_usable (GroupContextExtensions list) h = tt

pub usable_below : (used : List Used) → AreUsable used → AreBelow (2 ^ 28) used
usable_below [] h = tt
usable_below (u ∷ us) h = (one_usable u.proposal h.0.0, usable_below us h.1)

-- so are the extensions that the group then carries
first_below : (old : List Extension) (p : proposals.Proposal) (full : Bool) (lists : List (List Extension)) → HasShortParts p → (full ≡ false → IsBelow (2 ^ 27) proposal p) → (full && has_long_list p) ≡ false →
    IsBelow (2 ^ 27) group_extensions (first_list old lists) → IsBelow (2 ^ 27) group_extensions (first_list old (cons_option (extensions_in p) lists))
first_below old (Add x) full lists h kept none rest = rest
first_below old (Update x) full lists h kept none rest = rest
first_below old (Remove i) full lists h kept none rest = rest
first_below old (GroupContextExtensions list) full lists h kept none rest = list_below (2 ^ 27) list (extensions_below full list h kept none)

pub carried_below : (old : List Extension) (used : List Used) → IsBelow (2 ^ 27) group_extensions old → AreUsable used → give_long_list used ≡ false → IsBelow (2 ^ 27) group_extensions (extensions_after old used)
unfolding extensions_after extension_lists
carried_below old [] short h none = short
carried_below old (u ∷ us) short h none =
    let both = none_either (gives_long_list u) (give_long_list us) none in
    first_below old u.proposal u.is_full (extension_lists us) h.0.0 h.0.1 both.0 (carried_below old us short h.1 both.1)

-- a fact that holds of any answer
pub of_any : {B E : Type 0} (P : Type 0) (r : Result B E) → P → IfOk r (λ _. P)
of_any P (Ok x) h = h
of_any P (Err e) h = tt
