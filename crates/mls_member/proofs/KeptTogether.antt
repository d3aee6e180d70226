-- How the kept proposals that go together are listed, one after the other.
use Rattle.std.proofs.Common.{◌≡◌, ℕ, true, false, List, [], ◌∷◌, ◌++◌, map, refl, sym, ap, ◌∙◌, append_assoc}
use Rattle.std.proofs.lemmas.List.{append-nil}
use Rattle.mls_types.specs.declared.commit.ProposalOrRef.{ProposalOrRef}
use Rattle.mls_tree_model.specs.Term.{Term}
use Rattle.mls_model.specs.declared.item.Item.{Item}
use Rattle.mls_model.specs.Make.{list_item_of}
use Rattle.mls_model.specs.Member.{KeptProposal}
use Rattle.mls_public_group.proofs.Rest.{all_behind}
use Rattle.mls_member.specs.Answers.{IsShortItem, AreShortItems}
use Rattle.mls_member.specs.KeptTogether.{apart, is_left_out, named, together}

-- ---- steps

goes : (me : ℕ) (t : Term) (all ks : List KeptProposal) (k : KeptProposal) → is_left_out me t all ks k ≡ false → together me t all (k ∷ ks) ≡ k ∷ together me t all ks
unfolding together
goes me t all ks k h = rw h refl

gives : (me : ℕ) (t : Term) (all ks : List KeptProposal) (k : KeptProposal) → is_left_out me t all ks k ≡ true → together me t all (k ∷ ks) ≡ together me t all ks
unfolding together
gives me t all ks k h = rw h refl

stays : (me : ℕ) (t : Term) (all ks : List KeptProposal) (k : KeptProposal) → is_left_out me t all ks k ≡ false → apart me t all (k ∷ ks) ≡ apart me t all ks
unfolding apart
stays me t all ks k h = rw h refl

leaves : (me : ℕ) (t : Term) (all ks : List KeptProposal) (k : KeptProposal) → is_left_out me t all ks k ≡ true → apart me t all (k ∷ ks) ≡ k ∷ apart me t all ks
unfolding apart
leaves me t all ks k h = rw h refl

no_more : (me : ℕ) (t : Term) (all : List KeptProposal) → together me t all [] ≡ []
unfolding together
no_more me t all = refl

none_apart : (me : ℕ) (t : Term) (all : List KeptProposal) → apart me t all [] ≡ []
unfolding apart
none_apart me t all = refl

-- ---- those that go together

abbrev names : List KeptProposal → List ProposalOrRef
names ks = map named ks

abbrev lists : List Item → List ProposalOrRef
lists items = map list_item_of items

listed_more : (items : List Item) (i : Item) (rest : List ProposalOrRef) → lists (items ++ i ∷ []) ++ rest ≡ lists items ++ (list_item_of i ∷ rest)
listed_more [] i rest = refl
listed_more (x ∷ xs) i rest = ap (λ (l : List ProposalOrRef). list_item_of x ∷ l) (listed_more xs i rest)

-- the items and what is to come of the rest are what goes together of all
pub record AreListed (me : ℕ) (t : Term) (all rest : List KeptProposal) (items : List Item) : Type 0 where
  pub list : lists items ++ names (together me t all rest) ≡ names (together me t all all)
  pub short : AreShortItems items

pub listed_first : (me : ℕ) (t : Term) (all : List KeptProposal) → AreListed me t all all []
listed_first me t all = record { list = refl; short = tt }

pub listed_step : (me : ℕ) (t : Term) (all ks : List KeptProposal) (k : KeptProposal) (items : List Item) (item : Item) → is_left_out me t all ks k ≡ false → list_item_of item ≡ named k → IsShortItem item
    → AreListed me t all (k ∷ ks) items → AreListed me t all ks (items ++ item ∷ [])
listed_step me t all ks k items item h is s b = record {
  list =
      listed_more items item (names (together me t all ks))
      ∙ ap (λ (p : ProposalOrRef). lists items ++ (p ∷ names (together me t all ks))) is
      ∙ sym (ap (λ (l : List KeptProposal). lists items ++ names l) (goes me t all ks k h))
      ∙ b.list;
  short = all_behind IsShortItem items item b.short s;
}

pub passed_step : (me : ℕ) (t : Term) (all ks : List KeptProposal) (k : KeptProposal) (items : List Item) → is_left_out me t all ks k ≡ true → AreListed me t all (k ∷ ks) items → AreListed me t all ks items
passed_step me t all ks k items h b = record { list = sym (ap (λ (l : List KeptProposal). lists items ++ names l) (gives me t all ks k h)) ∙ b.list; short = b.short }

pub listed_end : (me : ℕ) (t : Term) (all : List KeptProposal) (items : List Item) → AreListed me t all [] items → lists items ≡ names (together me t all all)
listed_end me t all items b = sym (append-nil (lists items)) ∙ sym (ap (λ (l : List KeptProposal). lists items ++ names l) (no_more me t all)) ∙ b.list

-- ---- those that are left out

abbrev references : List KeptProposal → List (List ℕ)
references ks = map (λ (k : KeptProposal). k.reference) ks

-- the references and what is to come of the rest are those that are left out of all
pub record AreLeft (me : ℕ) (t : Term) (all rest : List KeptProposal) (out : List (List ℕ)) : Type 0 where
  pub list : out ++ references (apart me t all rest) ≡ references (apart me t all all)

pub left_first : (me : ℕ) (t : Term) (all : List KeptProposal) → AreLeft me t all all []
left_first me t all = record { list = refl }

pub left_step : (me : ℕ) (t : Term) (all ks : List KeptProposal) (k : KeptProposal) (out : List (List ℕ)) → is_left_out me t all ks k ≡ true → AreLeft me t all (k ∷ ks) out → AreLeft me t all ks (out ++ k.reference ∷ [])
left_step me t all ks k out h b = record {
  list =
      append_assoc out (k.reference ∷ []) (references (apart me t all ks))
      ∙ sym (ap (λ (l : List KeptProposal). out ++ references l) (leaves me t all ks k h))
      ∙ b.list;
}

pub stays_step : (me : ℕ) (t : Term) (all ks : List KeptProposal) (k : KeptProposal) (out : List (List ℕ)) → is_left_out me t all ks k ≡ false → AreLeft me t all (k ∷ ks) out → AreLeft me t all ks out
stays_step me t all ks k out h b = record { list = sym (ap (λ (l : List KeptProposal). out ++ references l) (stays me t all ks k h)) ∙ b.list }

pub left_end : (me : ℕ) (t : Term) (all : List KeptProposal) (out : List (List ℕ)) → AreLeft me t all [] out → out ≡ references (apart me t all all)
left_end me t all out b = sym (append-nil out) ∙ sym (ap (λ (l : List KeptProposal). out ++ references l) (none_apart me t all)) ∙ b.list
