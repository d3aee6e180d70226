-- Arrays, as loops go over them.
use Rattle.std.proofs.Common.{◌≡◌, ◌∙◌, ◌<◌, ◌+◌, ◌∷◌, ℕ, suc, Bool, true, false, List, Option, Some, None, drop, length, get_or, refl, ap, sym, drop-cons, add-one}
use Rattle.serde_json.specs.Data.{Data}
use Rattle.serde_json.specs.View.{view, items_view}
use Rattle.serde_json.specs.declared.value.Value.{Value}
use Rattle.mls_cli_json_place.specs.declared.place.Wrong.{Wrong}
use Rattle.mls_cli_json_place.specs.Lists.{all_items, first_wrong}

split_at : (values : List Value) (i : ℕ) (value : Value) → i < length values → value ≡ get_or values i value → drop i values ≡ value ∷ drop (suc i) values
split_at values i value lt is = drop-cons values i value lt ∙ ap (λ v. v ∷ drop (suc i) values) (sym is)

pub right_on : (right : Data → Bool) (values : List Value) (i : ℕ) (value : Value) → i < length values → value ≡ get_or values i value → right (view value) ≡ true
    → all_items right (items_view (drop (i + 1) values)) ≡ all_items right (items_view (drop i values))
unfolding all_items
right_on right values i value lt is holds = rw (add-one i, split_at values i value lt is, holds) refl

pub right_off : (right : Data → Bool) (values : List Value) (i : ℕ) (value : Value) → i < length values → value ≡ get_or values i value → right (view value) ≡ false
    → all_items right (items_view (drop i values)) ≡ false
unfolding all_items
right_off right values i value lt is fails = rw (split_at values i value lt is, fails) refl

pub wrong_on : (wrong : Data → Option Wrong) (values : List Value) (i : ℕ) (value : Value) → i < length values → value ≡ get_or values i value → wrong (view value) ≡ None
    → first_wrong wrong (i + 1) (items_view (drop (i + 1) values)) ≡ first_wrong wrong i (items_view (drop i values))
unfolding first_wrong
wrong_on wrong values i value lt is none =
    let here : first_wrong wrong i (items_view (drop i values)) ≡ first_wrong wrong (i + 1) (items_view (drop (suc i) values)) = rw (split_at values i value lt is, none) refl in
    ap (λ (k : ℕ). first_wrong wrong (i + 1) (items_view (drop k values))) (add-one i) ∙ sym here

pub wrong_here : (wrong : Data → Option Wrong) (values : List Value) (i : ℕ) (value : Value) (w : Wrong) → i < length values → value ≡ get_or values i value → wrong (view value) ≡ Some w
    → first_wrong wrong i (items_view (drop i values)) ≡ Some (i, w)
unfolding first_wrong
wrong_here wrong values i value w lt is some = rw (split_at values i value lt is, some) refl
