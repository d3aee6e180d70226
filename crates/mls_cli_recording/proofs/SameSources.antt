-- What a world makes of a source follows from its bytes or its number.
use Rattle.std.proofs.Common.{◌≡◌, ◌∙◌, ◌==◌, ℕ, Bool, List, [], ◌∷◌, Option, Some, None, Result, Ok, map, find, slice_get, refl, ap, sym, subst}
use Rattle.std.specs.Str.{bytes_eq}
use Rattle.std.specs.Global.{Vec}
use Rattle.mls_wire.specs.Checks as checks
use Rattle.mls_leaf.specs.declared.extension.Extension.{Extension}
use Rattle.mls_types.specs.declared.commit.ProposalOrRef.{ProposalOrRef}
use Rattle.mls_model.specs.declared.event.Source.{Source}
use Rattle.mls_model.specs.declared.event.Source.TheVariants as source
use Rattle.mls_model.specs.declared.event.WorldItem.{WorldItem}
use Rattle.mls_model.specs.declared.event.WorldItem.TheVariants as item
use Rattle.mls_model.specs.Candidate.{Candidate}
use Rattle.mls_model.specs.Journal.{CommitMade}
use Rattle.mls_model.specs.World.{World, bytes_of, package_of, proposal_of, item_of, items_of, is_source, has_source, commit_for_joiner}
use Rattle.mls_cli_recording.specs.Calls.{MessageSource, CommitItem, source_view, extension_view, item_view}
use Rattle.mls_cli_recording.specs.Calls as call

-- ---- bytes

abbrev read_bytes : World → MessageSource → Result (List ℕ) ℕ
read_bytes w (call.given bytes) = Ok bytes
read_bytes w (call.message n) = checks.require_some 94 (slice_get w.messages n)

bytes_by : (w : World) (s : Source) → bytes_of w s ≡ read_bytes w (source_view s)
bytes_by w (source.Given bytes) = refl
bytes_by w (source.Message n) = refl

pub same_bytes : (w : World) (s t : Source) → source_view s ≡ source_view t → bytes_of w s ≡ bytes_of w t
same_bytes w s t e = bytes_by w s ∙ ap (read_bytes w) e ∙ sym (bytes_by w t)

pub same_package : (w : World) (s t : Source) → source_view s ≡ source_view t → package_of w s ≡ package_of w t
unfolding package_of
same_package w s t e = rw (same_bytes w s t e) refl

same_proposal : (w : World) (s t : Source) → source_view s ≡ source_view t → proposal_of w s ≡ proposal_of w t
unfolding proposal_of
same_proposal w s t e = rw (same_bytes w s t e) refl

-- ---- extensions

abbrev extension_of : ℕ × List ℕ → Extension
extension_of e = record { kind = e.0; content = e.1 }

given_back : (xs : List Extension) → map extension_of (map extension_view xs) ≡ xs
given_back [] = refl
given_back (x ∷ xs) = ap (λ (ys : List Extension). x ∷ ys) (given_back xs)

pub same_extensions : (xs ys : List Extension) → map extension_view xs ≡ map extension_view ys → xs ≡ ys
same_extensions xs ys e = sym (given_back xs) ∙ ap (map extension_of) e ∙ given_back ys

-- ---- items

-- it is what each item of that view stands for
abbrev IsItem : World → Result ProposalOrRef ℕ → CommitItem → Type 0
IsItem w r (call.ref s) = (x : Source) → source_view x ≡ s → r ≡ item_of w (item.RefOf x)
IsItem w r (call.add s) = (x : Source) → source_view x ≡ s → r ≡ item_of w (item.Add x)
IsItem w r (call.remove leaf) = r ≡ item_of w (item.Remove leaf)
IsItem w r (call.extensions list) = (xs : Vec Extension) → map extension_view xs.items ≡ list → r ≡ item_of w (item.Extensions xs)

is_item : (w : World) (x : WorldItem) → IsItem w (item_of w x) (item_view x)
is_item w (item.RefOf s) = λ t e. rw (same_proposal w t s e) refl
is_item w (item.Add s) = λ t e. rw (same_package w t s e) refl
is_item w (item.Remove leaf) = refl
is_item w (item.Extensions list) = λ xs e. rw (same_extensions xs.items list.items e) refl

of_item : (w : World) (r : Result ProposalOrRef ℕ) (x : WorldItem) → IsItem w r (item_view x) → r ≡ item_of w x
of_item w r (item.RefOf s) h = h s refl
of_item w r (item.Add s) h = h s refl
of_item w r (item.Remove leaf) h = h
of_item w r (item.Extensions list) h = h list refl

same_item : (w : World) (x y : WorldItem) → item_view x ≡ item_view y → item_of w x ≡ item_of w y
same_item w x y e = let P : CommitItem → Type 0 = IsItem w (item_of w x) in of_item w (item_of w x) y (subst P e (is_item w x))

-- it is what each list of those views stands for
abbrev AreItems : World → Result (List ProposalOrRef) ℕ → List CommitItem → Type 0
AreItems w r [] = r ≡ Ok []
AreItems w r (i ∷ is) = (x : WorldItem) (xs : List WorldItem) → item_view x ≡ i → map item_view xs ≡ is → r ≡ items_of w (x ∷ xs)

of_items : (w : World) (r : Result (List ProposalOrRef) ℕ) (ys : List WorldItem) → AreItems w r (map item_view ys) → r ≡ items_of w ys
unfolding items_of
of_items w r [] h = h
of_items w r (y ∷ ys) h = h y ys refl refl

are_items : (w : World) (xs : List WorldItem) → AreItems w (items_of w xs) (map item_view xs)
unfolding items_of
are_items w [] = refl
are_items w (x ∷ xs) = λ y ys e es.
    let P : List CommitItem → Type 0 = AreItems w (items_of w xs) in
    rw (same_item w x y (sym e), of_items w (items_of w xs) ys (subst P (sym es) (are_items w xs))) refl

pub same_items : (w : World) (xs ys : List WorldItem) → map item_view xs ≡ map item_view ys → items_of w xs ≡ items_of w ys
same_items w xs ys e = let P : List CommitItem → Type 0 = AreItems w (items_of w xs) in of_items w (items_of w xs) ys (subst P e (are_items w xs))

-- ---- the commit whose Welcome a source is

abbrev is_by : MessageSource → ℕ × List ℕ → Bool
is_by (call.given bytes) welcome = bytes_eq bytes welcome.1
is_by (call.message n) welcome = n == welcome.0

is_source_by : (s : Source) (welcome : ℕ × List ℕ) → is_source s welcome ≡ is_by (source_view s) welcome
is_source_by (source.Given bytes) welcome = refl
is_source_by (source.Message n) welcome = refl

same_welcome : (s t : Source) → source_view s ≡ source_view t → (welcome : Option (ℕ × List ℕ)) → has_source s welcome ≡ has_source t welcome
same_welcome s t e None = refl
same_welcome s t e (Some x) = is_source_by s x ∙ ap (λ v. is_by v x) e ∙ sym (is_source_by t x)

same_find : {X : Type 0} (p q : X → Bool) → ((x : X) → p x ≡ q x) → (xs : List X) → find p xs ≡ find q xs
same_find p q h [] = refl
same_find p q h (x ∷ xs) = rw (h x, same_find p q h xs) refl

pub same_made : (made : List CommitMade) (s t : Source) (k : Candidate) → source_view s ≡ source_view t → commit_for_joiner made s k ≡ commit_for_joiner made t k
unfolding commit_for_joiner
same_made made s t k e = same_find _ _ (λ d. rw (same_welcome s t e d.welcome) refl) made
