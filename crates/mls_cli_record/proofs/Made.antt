-- Events and texts, made value by value.
use Rattle.std.proofs.Common.{◌≡◌, ◌∙◌, ◌<◌, ◌≤◌, ◌++◌, ◌∷◌, [], ◌+◌, ℕ, suc, List, map, drop, length, get_or, string_bytes, Some, Result, Ok, Err, refl, ap, sym, subst, drop-cons, add-one}
use Rattle.std.specs.Prelude.{IfOk, slice_get}
use Rattle.std.specs.Global.{Global, Vec}
use Rattle.std.specs.declared.string.String.{String}
use Rattle.std.proofs.lemmas.List.{drop_all, map-append}
use Rattle.json.specs.Layout.{pretty}
use Rattle.json.specs.Lex.{tokens}
use Rattle.serde_json.specs.Data.{Data, Items, depth, no_items, item, string}
use Rattle.serde_json.specs.Read.{max_depth, read}
use Rattle.serde_json.specs.Written.{IsInOrder}
use Rattle.serde_json.specs.View.{view, items_of, items_view}
use Rattle.serde_json.specs.declared.value.Value.{Value}
use Rattle.mls_cli_record.specs.Record.{IsTextOf, event_with_reply, events_with_replies, text_items}

-- items before others
abbrev pub joined : List Data → Items → Items
joined [] rest = rest
joined (d ∷ ds) rest = item d (joined ds rest)

one_behind : (front : List Data) (d : Data) (rest : Items) → joined (front ++ (d ∷ [])) rest ≡ joined front (item d rest)
one_behind [] d rest = refl
one_behind (x ∷ xs) d rest = ap (item x) (one_behind xs d rest)

none_behind : (front : List Data) → joined front no_items ≡ items_of front
none_behind [] = refl
none_behind (x ∷ xs) = ap (item x) (none_behind xs)

-- ---- events

none_expected : (k : ℕ) (replies : List (List ℕ)) → events_with_replies k replies no_items ≡ no_items
unfolding events_with_replies
none_expected k replies = refl

one_expected : (k : ℕ) (replies : List (List ℕ)) (d : Data) (ds : Items) → events_with_replies k replies (item d ds) ≡ item (event_with_reply (slice_get replies k) d) (events_with_replies (k + 1) replies ds)
unfolding events_with_replies
one_expected k replies d ds = refl

-- the events made so far, and those that are left
abbrev pub Events : List (List ℕ) → List Value → ℕ → List Value → Type 0
Events replies events k list = joined (map view list) (events_with_replies k replies (items_view (drop k events))) ≡ events_with_replies 0 replies (items_view events)

pub events_next : (replies : List (List ℕ)) (events : List Value) (k : ℕ) (event made : Value) (list new : List Value) → k < length events → event ≡ get_or events k event
    → view made ≡ event_with_reply (slice_get replies k) (view event) → new ≡ list ++ (made ∷ []) → Events replies events k list → Events replies events (k + 1) new
events_next replies events k event made list new lt is made_is grew so =
    let split : drop k events ≡ event ∷ drop (suc k) events = drop-cons events k event lt ∙ ap (λ (v : Value). v ∷ drop (suc k) events) (sym is) in
    ap (λ (xs : List Value). joined (map view xs) (events_with_replies (k + 1) replies (items_view (drop (k + 1) events)))) grew
    ∙ ap (λ (ds : List Data). joined ds (events_with_replies (k + 1) replies (items_view (drop (k + 1) events)))) (map-append view list (made ∷ []))
    ∙ one_behind (map view list) (view made) (events_with_replies (k + 1) replies (items_view (drop (k + 1) events)))
    ∙ ap (λ (n : ℕ). joined (map view list) (item (view made) (events_with_replies (k + 1) replies (items_view (drop n events))))) (add-one k)
    ∙ ap (λ (d : Data). joined (map view list) (item d (events_with_replies (k + 1) replies (items_view (drop (suc k) events))))) made_is
    ∙ ap (joined (map view list)) (sym (one_expected k replies (view event) (items_view (drop (suc k) events))))
    ∙ ap (λ (vs : List Value). joined (map view list) (events_with_replies k replies (items_view vs))) (sym split)
    ∙ so

pub events_all : (replies : List (List ℕ)) (events : List Value) (k : ℕ) (list : List Value) → length events ≤ k → Events replies events k list → items_view list ≡ events_with_replies 0 replies (items_view events)
events_all replies events k list le so =
    sym (ap (λ (vs : List Value). joined (map view list) (events_with_replies k replies (items_view vs))) (drop_all k events le)
    ∙ ap (joined (map view list)) (none_expected k replies)
    ∙ none_behind (map view list))
    ∙ so

-- ---- texts

none_left : text_items [] ≡ no_items
unfolding text_items
none_left = refl

one_left : (t : List ℕ) (ts : List (List ℕ)) → text_items (t ∷ ts) ≡ item (string t) (text_items ts)
unfolding text_items
one_left t ts = refl

-- the texts made so far, and those that are left
abbrev pub Texts : List (String Global) → ℕ → List Value → Type 0
Texts texts k list = joined (map view list) (text_items (map string_bytes (drop k texts))) ≡ text_items (map string_bytes texts)

pub texts_next : (texts : List (String Global)) (k : ℕ) (text : String Global) (made : Value) (list new : List Value) → k < length texts → text ≡ get_or texts k text
    → view made ≡ string (string_bytes text) → new ≡ list ++ (made ∷ []) → Texts texts k list → Texts texts (k + 1) new
texts_next texts k text made list new lt is made_is grew so =
    let split : drop k texts ≡ text ∷ drop (suc k) texts = drop-cons texts k text lt ∙ ap (λ (v : String Global). v ∷ drop (suc k) texts) (sym is) in
    ap (λ (xs : List Value). joined (map view xs) (text_items (map string_bytes (drop (k + 1) texts)))) grew
    ∙ ap (λ (ds : List Data). joined ds (text_items (map string_bytes (drop (k + 1) texts)))) (map-append view list (made ∷ []))
    ∙ one_behind (map view list) (view made) (text_items (map string_bytes (drop (k + 1) texts)))
    ∙ ap (λ (n : ℕ). joined (map view list) (item (view made) (text_items (map string_bytes (drop n texts))))) (add-one k)
    ∙ ap (λ (d : Data). joined (map view list) (item d (text_items (map string_bytes (drop (suc k) texts))))) made_is
    ∙ ap (joined (map view list)) (sym (one_left (string_bytes text) (map string_bytes (drop (suc k) texts))))
    ∙ ap (λ (ss : List (String Global)). joined (map view list) (text_items (map string_bytes ss))) (sym split)
    ∙ so

pub texts_all : (texts : List (String Global)) (k : ℕ) (list : List Value) → length texts ≤ k → Texts texts k list → items_view list ≡ text_items (map string_bytes texts)
texts_all texts k list le so =
    sym (ap (λ (ss : List (String Global)). joined (map view list) (text_items (map string_bytes ss))) (drop_all k texts le)
    ∙ ap (joined (map view list)) none_left
    ∙ none_behind (map view list))
    ∙ so

-- ---- the text

pub text_of : {X : Type 0} (r : Result (Vec ℕ) X) (d e : Data) → d ≡ e → IfOk r (λ (b : Vec ℕ). b.items ≡ pretty (tokens b.items)) → IfOk r (λ (b : Vec ℕ). IsInOrder b.items d)
    → IfOk r (λ (b : Vec ℕ). depth d ≤ max_depth → read b.items ≡ Some d) → IfOk r (λ (b : Vec ℕ). IsTextOf b.items e)
text_of (Ok b) d e same laid ordered reads = subst (IsTextOf b.items) same (record { order = ordered; layout = laid; reads = reads })
text_of (Err x) d e same laid ordered reads = tt
