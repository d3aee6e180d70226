-- Texts, read one by one.
use Rattle.std.proofs.Common.{◌≡◌, ◌∙◌, ◌<◌, ◌++◌, ◌∷◌, [], ◌+◌, ℕ, suc, List, Option, Some, None, option_map, drop, length, get_or, string_bytes, refl, ap, sym, append_assoc, drop-cons, add-one}
use Rattle.std.specs.Global.{Global, Vec}
use Rattle.std.specs.declared.string.String.{String}
use Rattle.std.proofs.lemmas.List.{map-append}
use Rattle.serde_json.specs.Data.{Data, Items, item}
use Rattle.serde_json.specs.Find.{as_str}
use Rattle.serde_json.specs.View.{view, items_view}
use Rattle.serde_json.specs.declared.value.Value.{Value}
use Rattle.mls_cli_recording.specs.Calls.{texts_view}
use Rattle.mls_cli_recording.specs.Recording.{texts_in}

-- these texts behind those read so far
abbrev pub behind : List (List ℕ) → List (List ℕ) → List (List ℕ)
behind front texts = front ++ texts

one_more : (front : List (List ℕ)) (text : List ℕ) (rest : Option (List (List ℕ))) (d : Data) (ds : Items) → as_str d ≡ Some text → texts_in ds ≡ rest
    → option_map (behind (front ++ (text ∷ []))) rest ≡ option_map (behind front) (texts_in (item d ds))
unfolding texts_in
one_more front text None d ds is left = rw (is, left) refl
one_more front text (Some texts) d ds is left = rw (is, left) (ap Some (append_assoc front (text ∷ []) texts))

-- where one of them is none, there are none
pub no_text : (values : List Value) (i : ℕ) (value : Value) (front : List (List ℕ)) → i < length values → value ≡ get_or values i value → as_str (view value) ≡ None
    → option_map (behind front) (texts_in (items_view (drop i values))) ≡ None
unfolding texts_in
no_text values i value front lt is none =
    let split : drop i values ≡ value ∷ drop (suc i) values = drop-cons values i value lt ∙ ap (λ v. v ∷ drop (suc i) values) (sym is) in
    rw (split, none) refl

pub next_text : (values : List Value) (i : ℕ) (value : Value) (text : List ℕ) (old new : Vec (String Global)) (x : String Global) → i < length values → value ≡ get_or values i value
    → as_str (view value) ≡ Some text → string_bytes x ≡ text → new.items ≡ old.items ++ (x ∷ [])
    → option_map (behind (texts_view new)) (texts_in (items_view (drop (i + 1) values))) ≡ option_map (behind (texts_view old)) (texts_in (items_view (drop i values)))
next_text values i value text old new x lt is was read grew =
    let split : drop i values ≡ value ∷ drop (suc i) values = drop-cons values i value lt ∙ ap (λ v. v ∷ drop (suc i) values) (sym is) in
    rw (grew, map-append string_bytes old.items (x ∷ []), read, add-one i, split)
    (one_more (texts_view old) text (texts_in (items_view (drop (suc i) values))) (view value) (items_view (drop (suc i) values)) was refl)
