-- What lists of commits name, one after the other.
use Rattle.std.proofs.Common.{◌≡◌, ℕ, ◌+◌, ◌<◌, ◌≤◌, ◌==◌, Bool, false, List, [], ◌∷◌, ◌++◌, length, drop, map, Option, Some, None, refl, sym, ap, subst, ◌∙◌, append_assoc, get_or, arith}
use Rattle.std.specs.Prelude.{option_map, filter_map}
use Rattle.std.specs.Int.{w8}
use Rattle.std.specs.List.{cons_option}
use Rattle.std.specs.Option.{option_to_list}
use denote.Ref.{Bor}
use Rattle.std.proofs.lemmas.List.{append-nil, drop_all}
use Rattle.mls_wire.specs.Combine.{byte_string}
use Rattle.mls_wire.specs.Reading.{uint}
use Rattle.mls_leaf.specs.Faults.{Spells}
use Rattle.mls_leaf.specs.Proposal.{proposal}
use Rattle.mls_leaf.specs.declared.proposal.Proposal.{Proposal}
use Rattle.mls_types.specs.Commit.{proposal_or_ref}
use Rattle.mls_types.specs.declared.commit.ProposalOrRef.{ProposalOrRef}
use Rattle.mls_types.specs.declared.commit.ProposalOrRef.TheVariants as listed
use Rattle.mls_view.specs.Entries.{ShowsProposalOrRef}
use Rattle.mls_view.specs.Views.{AreItems, LendsNextItem, StepsItems}
use Rattle.mls_view.specs.declared.entries.ProposalOrRefView.TheVariants as views
use Rattle.mls_model.specs.declared.item.Item.{Item}
use Rattle.mls_model.specs.Make.{list_item_of}
use Rattle.mls_model.specs.Member.{KeptProposal, Member, named_proposal, named_proposals}
use Rattle.mls_model.specs.Journal.{names_in}
use Rattle.mls_public_group.proofs.Rest.{here}
use Rattle.mls_member.specs.Answers.{kept_message}
use Rattle.mls_world_plain.specs.CommitItems.{is_reference, name_of, IsNameOf, TellsReference}

-- ---- names so far, and those of the rest

abbrev message_of : KeptProposal → List ℕ
message_of k = k.message

by_option : (o : Option KeptProposal) (ks : List KeptProposal) → map message_of (cons_option o ks) ≡ cons_option (option_map message_of o) (map message_of ks)
by_option None ks = refl
by_option (Some k) ks = refl

names_cons : (kept : List KeptProposal) (x : ProposalOrRef) (xs : List ProposalOrRef) → names_in kept (x ∷ xs) ≡ cons_option (name_of kept x) (names_in kept xs)
unfolding names_in named_proposals
names_cons kept x xs = by_option (named_proposal kept x) (filter_map (named_proposal kept) xs)

in_front : (o : Option (List ℕ)) (names : List (List ℕ)) → option_to_list o ++ names ≡ cons_option o names
in_front None names = refl
in_front (Some message) names = refl

abbrev pub AreNames : List KeptProposal → List (List ℕ) → List ProposalOrRef → List (List ℕ) → Type 0
AreNames kept names rest all = names ++ names_in kept rest ≡ all

one_named : (kept : List KeptProposal) (names : List (List ℕ)) (x : ProposalOrRef) (xs : List ProposalOrRef) (all : List (List ℕ)) (o : Option (List ℕ)) → o ≡ name_of kept x → AreNames kept names (x ∷ xs) all → AreNames kept (names ++ option_to_list o) xs all
one_named kept names x xs all o is h =
    let d : option_to_list o ++ names_in kept xs ≡ names_in kept (x ∷ xs) = in_front o (names_in kept xs) ∙ ap (λ (p : Option (List ℕ)). cons_option p (names_in kept xs)) is ∙ sym (names_cons kept x xs) in
    append_assoc names (option_to_list o) (names_in kept xs) ∙ ap (λ l. names ++ l) d ∙ h

all_named : (kept : List KeptProposal) (names all : List (List ℕ)) → AreNames kept names [] all → names ≡ all
unfolding names_in named_proposals
all_named kept names all h = sym (append-nil names) ∙ h

-- ---- of a list that is committed

abbrev pub NamesFrom : List KeptProposal → List Item → ℕ → List (List ℕ) → Type 0
NamesFrom kept list i names = AreNames kept names (map list_item_of (drop i list)) (names_in kept (map list_item_of list))

pub names_next : (kept : List KeptProposal) (list : List Item) (i : ℕ) (x : Item) (names : List (List ℕ)) (o : Option (List ℕ)) → i < length list → x ≡ get_or list i x → o ≡ name_of kept (list_item_of x) → NamesFrom kept list i names → NamesFrom kept list (i + 1) (names ++ option_to_list o)
names_next kept list i x names o lt e is h =
    one_named kept names (list_item_of x) (map list_item_of (drop (i + 1) list)) (names_in kept (map list_item_of list)) o is (subst (λ (l : List Item). AreNames kept names (map list_item_of l) (names_in kept (map list_item_of list))) (here list i x lt e) h)

pub names_end : (kept : List KeptProposal) (list : List Item) (i : ℕ) (names : List (List ℕ)) → length list ≤ i → NamesFrom kept list i names → names ≡ names_in kept (map list_item_of list)
names_end kept list i names le h =
    all_named kept names (names_in kept (map list_item_of list)) (subst (λ (l : List Item). AreNames kept names (map list_item_of l) (names_in kept (map list_item_of list))) (drop_all i list le) h)

-- ---- of a list whose bytes are walked

-- Some of the list are left, and with the names of those all are named.
pub record NamesBefore (kept : List KeptProposal) (list : List ProposalOrRef) (walk : List ℕ) (names : List (List ℕ)) : Type 0 where
  pub left : List ProposalOrRef
  pub items : AreItems proposal_or_ref left walk
  pub are : AreNames kept names left (names_in kept list)

pub walk_begun : (kept : List KeptProposal) (list : List ProposalOrRef) (walk : List ℕ) (names : List (List ℕ)) → names ≡ [] → AreItems proposal_or_ref list walk → NamesBefore kept list walk names
walk_begun kept list walk names none items = record { left = list; items = items; are = ap (λ (l : List (List ℕ)). l ++ names_in kept list) none }

pub walked_on : (kept : List KeptProposal) (list : List ProposalOrRef) (old new part : List ℕ) (lent : Option (List ℕ)) (names more : List (List ℕ)) (o : Option (List ℕ)) → NamesBefore kept list old names
    → StepsItems proposal_or_ref old lent new → lent ≡ Some part → IsNameOf kept part o → more ≡ names ++ option_to_list o → NamesBefore kept list new more
walked_on kept list old new part lent names more o at lends is named e =
    subst (λ (l : List (List ℕ)). NamesBefore kept list new l) (sym e)
    (by_left at.left (subst (λ (p : Option (List ℕ)). LendsNextItem proposal_or_ref at.left p new) is (lends at.left at.items)) at.are)
  where
    by_left : (left : List ProposalOrRef) → LendsNextItem proposal_or_ref left (Some part) new → AreNames kept names left (names_in kept list) → NamesBefore kept list new (names ++ option_to_list o)
    by_left [] found are = absurd found
    by_left (x ∷ xs) found are = record { left = xs; items = found.1; are = one_named kept names x xs (names_in kept list) o (named x found.0) are }

pub walked_all : (kept : List KeptProposal) (list : List ProposalOrRef) (old new : List ℕ) (lent : Option (List ℕ)) (names : List (List ℕ)) → NamesBefore kept list old names → StepsItems proposal_or_ref old lent new → lent ≡ None → names ≡ names_in kept list
walked_all kept list old new lent names at lends is =
    by_left at.left (subst (λ (p : Option (List ℕ)). LendsNextItem proposal_or_ref at.left p new) is (lends at.left at.items)) at.are
  where
    by_left : (left : List ProposalOrRef) → LendsNextItem proposal_or_ref left None new → AreNames kept names left (names_in kept list) → names ≡ names_in kept list
    by_left [] nil are = all_named kept names (names_in kept list) are
    by_left (x ∷ xs) found are = absurd found

-- ---- one of a commit's list

one_byte : uint w8 1 ≡ 1 ∷ []
unfolding uint
one_byte = refl

two_byte : uint w8 2 ≡ 2 ∷ []
unfolding uint
two_byte = refl

proposal_spelled : (p : Proposal) → proposal_or_ref.spell (listed.Proposal p) ≡ uint w8 1 ++ proposal.spell p
unfolding proposal_or_ref
proposal_spelled p = refl

reference_spelled : (r : List ℕ) → proposal_or_ref.spell (listed.Reference r) ≡ uint w8 2 ++ byte_string.spell r
unfolding proposal_or_ref
reference_spelled r = refl

proposal_is : (p : Proposal) (bytes : List ℕ) → Spells proposal_or_ref (listed.Proposal p) bytes → bytes ≡ 1 ∷ proposal.spell p
proposal_is p bytes spells = spells.spelled ∙ proposal_spelled p ∙ ap (λ (b : List ℕ). b ++ proposal.spell p) one_byte

reference_is : (r bytes : List ℕ) → Spells proposal_or_ref (listed.Reference r) bytes → bytes ≡ 2 ∷ byte_string.spell r
reference_is r bytes spells = spells.spelled ∙ reference_spelled r ∙ ap (λ (b : List ℕ). b ++ byte_string.spell r) two_byte

-- its first byte tells whether it is a reference
pub first_tells : (bytes : List ℕ) (kind : ℕ) (told : Bool) → kind ≡ get_or bytes 0 0 → told ≡ (kind == 2) → TellsReference bytes told
first_tells bytes kind told is tells = by_listed
  where
    by_listed : (x : ProposalOrRef) → Spells proposal_or_ref x bytes → told ≡ is_reference x
    by_listed (listed.Proposal p) spells =
        let first : kind ≡ 1 = is ∙ ap (λ (b : List ℕ). get_or b 0 0) (proposal_is p bytes spells) in
        tells ∙ ap (λ (n : ℕ). n == 2) first
    by_listed (listed.Reference r) spells =
        let first : kind ≡ 2 = is ∙ ap (λ (b : List ℕ). get_or b 0 0) (reference_is r bytes spells) in
        tells ∙ ap (λ (n : ℕ). n == 2) first

-- and it has one
pub none_tells : (bytes : List ℕ) (told : Bool) → length bytes ≤ 0 → TellsReference bytes told
none_tells bytes told short = by_listed
  where
    by_listed : (x : ProposalOrRef) → Spells proposal_or_ref x bytes → told ≡ is_reference x
    by_listed (listed.Proposal p) spells = let some = ap length (proposal_is p bytes spells) in absurd (omega (arith, some, short))
    by_listed (listed.Reference r) spells = let some = ap length (reference_is r bytes spells) in absurd (omega (arith, some, short))

-- a proposal names nothing
pub nothing_named : (kept : List KeptProposal) (x : ProposalOrRef) → false ≡ is_reference x → None ≡ name_of kept x
nothing_named kept (listed.Proposal p) told = refl
nothing_named kept (listed.Reference r) told = absurd cc

pub proposal_named : (kept : List KeptProposal) (part : List ℕ) (x : ProposalOrRef) → ShowsProposalOrRef (views.Proposal part) x → None ≡ name_of kept x
proposal_named kept part (listed.Proposal p) shows = refl
proposal_named kept part (listed.Reference r) shows = absurd shows

pub reference_named : (m : Member) (text : Bor (List ℕ)) (o : Option (List ℕ)) (x : ProposalOrRef) → ShowsProposalOrRef (views.Reference text) x → o ≡ kept_message m text.now → o ≡ name_of m.kept x
reference_named m text o (listed.Proposal p) shows is = absurd shows
reference_named m text o (listed.Reference r) shows is = is ∙ ap (λ (l : List ℕ). kept_message m l) shows
