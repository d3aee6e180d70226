-- What is decoded of a commit's list is short, and is taken one after the other.
use Rattle.std.proofs.Common.{◌≡◌, ℕ, ◌<◌, ◌^◌, List, [], ◌∷◌, ◌++◌, length, map, Ok, refl, sym, ap, ◌∙◌, arith, length-append}
use Rattle.std.proofs.lemmas.List.{append-nil}
use Rattle.std.specs.Int.{w8}
use Rattle.std.specs.List.{flat_map, AllByRecursion}
use Rattle.mls_wire.specs.Combine.{vector}
use Rattle.mls_wire.specs.Reading.{header, uint}
use Rattle.mls_wire.specs.Whole.{whole}
use Rattle.mls_leaf.specs.Faults.{Spells}
use Rattle.mls_leaf.specs.Limits.{input_limit}
use Rattle.mls_leaf.specs.Proposal.{proposal as proposal_format}
use Rattle.mls_types.specs.Commit.{proposal_or_ref, proposal_or_ref_nonempty}
use Rattle.mls_types.specs.declared.commit.ProposalOrRef.{ProposalOrRef}
use Rattle.mls_types.specs.declared.commit.ProposalOrRef.TheVariants as listed
use Rattle.mls_model.specs.declared.item.Item.{Item}
use Rattle.mls_model.specs.Make.{list_item_of}
use Rattle.mls_public_group.specs.Short.{IsBelow}
use Rattle.mls_public_group.proofs.Limits.{read_below}
use Rattle.mls_public_group.proofs.Rest.{all_behind}
use Rattle.mls_public_group.proofs.ShortProposal.{short_parts}
use Rattle.mls_member.specs.Answers.{IsShortItem, AreShortItems}
use Rattle.mls_calls.specs.Listing.{IsShortListed, AreShortListed}

-- ---- lengths

one_short : (x : ProposalOrRef) → proposal_or_ref.Fits x → length (proposal_or_ref.spell x) < 2 ^ 28 → IsShortListed x
unfolding proposal_or_ref
one_short (listed.Proposal p) fits lt = short_parts p (record { fits = fits.1; below = omega (arith, lt, length-append (uint w8 1) (proposal_format.spell p)) })
one_short (listed.Reference r) fits lt = tt

each_short : (xs : List ProposalOrRef) → AllByRecursion proposal_or_ref.Fits xs → length (flat_map proposal_or_ref.spell xs) < 2 ^ 28 → AreShortListed xs
each_short [] fits lt = tt
each_short (x ∷ xs) fits lt =
    let two = length-append (proposal_or_ref.spell x) (flat_map proposal_or_ref.spell xs) in
    (one_short x fits.0 (omega (arith, two)), each_short xs fits.1 (omega (arith, two)))

-- what is decoded is within the limit of an input
pub read_short : (bytes : List ℕ) (xs : List ProposalOrRef) → Spells (vector proposal_or_ref proposal_or_ref_nonempty) xs bytes
    → whole (vector proposal_or_ref proposal_or_ref_nonempty) input_limit bytes ≡ Ok xs → AreShortListed xs
read_short bytes xs spells e =
    let text : List ℕ = flat_map proposal_or_ref.spell xs in
    let below : IsBelow (2 ^ 27) (vector proposal_or_ref proposal_or_ref_nonempty) xs = read_below (vector proposal_or_ref proposal_or_ref_nonempty) bytes xs spells e in
    each_short xs below.fits.0 (omega (arith, below.below, length-append (header (length text)) text))

-- ---- one after the other

abbrev lists : List Item → List ProposalOrRef
lists items = map list_item_of items

taken_more : (items : List Item) (i : Item) (rest : List ProposalOrRef) → lists (items ++ i ∷ []) ++ rest ≡ lists items ++ (list_item_of i ∷ rest)
taken_more [] i rest = refl
taken_more (x ∷ xs) i rest = ap (λ (l : List ProposalOrRef). list_item_of x ∷ l) (taken_more xs i rest)

-- the items and the rest are all of the list
pub record AreTaken (all rest : List ProposalOrRef) (items : List Item) : Type 0 where
  pub list : lists items ++ rest ≡ all
  pub short : AreShortItems items
  pub left : AreShortListed rest

pub taken_first : (all : List ProposalOrRef) → AreShortListed all → AreTaken all all []
taken_first all short = record { list = refl; short = tt; left = short }

pub taken_step : (all rest : List ProposalOrRef) (x : ProposalOrRef) (items : List Item) (i : Item) → list_item_of i ≡ x → IsShortItem i → AreTaken all (x ∷ rest) items → AreTaken all rest (items ++ i ∷ [])
taken_step all rest x items i is short b = record {
  list = taken_more items i rest ∙ ap (λ (p : ProposalOrRef). lists items ++ (p ∷ rest)) is ∙ b.list;
  short = all_behind IsShortItem items i b.short short;
  left = b.left.1;
}

pub taken_end : (all : List ProposalOrRef) (items : List Item) → AreTaken all [] items → lists items ≡ all
taken_end all items b = sym (append-nil (lists items)) ∙ b.list
