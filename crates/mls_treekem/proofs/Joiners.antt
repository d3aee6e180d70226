-- The path secret that a joiner is sent, as code goes over the parents.
use Rattle.std.proofs.Common.{◌≡◌, ℕ, suc, ◌+◌, Bool, true, false, nat_lt, nat_le, ◌&&◌, not, if◌then◌else◌, List, [], ◌∷◌, length, map, Option, Some, None, Result, Ok, Err, IfOk, Bor, refl, sym, ◌∙◌, ap, arith}
use Rattle.std.specs.List.{slice_get}
use Rattle.std.specs.Option.{option_copied}
use Rattle.std.specs.Slice.{IsItemAt}
use Rattle.std.proofs.lemmas.Option.{slice_get_past, slice_get-get_or}
use Rattle.mls_tree_model.specs.Term.{Term}
use Rattle.mls_tree_model.specs.Places.{resolution_at}
use Rattle.mls_tree_model.specs.Resolution.{is_empty}
use Rattle.mls_tree_model.specs.Way.{way, is_filtered, is_beside}
use Rattle.mls_treekem_model.specs.Make.{one_if, filtered_count}
use Rattle.mls_treekem_model.proofs.SecretLaws.{secret_is_among}
use Rattle.mls_treekem_model.specs.GivenSecrets.{secret_among}
use Rattle.mls_treekem.specs.Place.{step_of, ArePlaced, IsWay}
use Rattle.mls_treekem.specs.Secrets.{IsSentOf}
use Rattle.mls_treekem.specs.declared.places.Place.{Place}
use Rattle.mls_treekem.proofs.Opening.{beside_is, filtered_is, first_placed}

-- ---- answers

pub if_ok_map : {A E : Type 0} (P Q : A → Type 0) (r : Result A E) → ((x : A) → P x → Q x) → IfOk r P → IfOk r Q
if_ok_map P Q (Ok x) f h = f x h
if_ok_map P Q (Err e) f h = tt

pub copied_is : (r : Option (Bor (List ℕ))) (k : ℕ) (xs : List (List ℕ)) → IsItemAt xs k r → option_copied r ≡ slice_get xs k
copied_is None k xs h = sym (slice_get_past xs k h.3)
copied_is (Some x) k xs h = ap Some h.1 ∙ sym (slice_get-get_or xs k x.now h.3.0)

-- ---- over the parents

pub none_counted : (t : Term) (ps : List Place) → ps ≡ [] → 0 ≡ filtered_count (map (step_of t) ps)
unfolding filtered_count
none_counted t ps e = rw e refl

pub none_among : (t : Term) (ps : List Place) (j : ℕ) (secrets : List (List ℕ)) → ps ≡ [] → None ≡ secret_among (map (step_of t) ps) j secrets
unfolding secret_among
none_among t ps j secrets e = rw e refl

module _ (t : Term) (p : Place) (ps all : List Place) (is : all ≡ p ∷ ps) (placed : ArePlaced t all) where
  module _ (test : Bool) (test_is : test ≡ not (is_empty (resolution_at 0 t p.beside))) where
    filtered : test ≡ is_filtered (step_of t p)
    filtered = test_is ∙ filtered_is t (length ps) p (first_placed t p ps all is placed)

    pub counted_in : test ≡ true → (n : ℕ) → n ≡ filtered_count (map (step_of t) ps) → n + 1 ≡ filtered_count (map (step_of t) all)
    unfolding filtered_count
    counted_in e n h =
        let one : filtered_count (map (step_of t) all) ≡ suc (filtered_count (map (step_of t) ps)) =
        ap (λ qs. filtered_count (map (step_of t) qs)) is ∙ ap (λ b. one_if b (filtered_count (map (step_of t) ps))) (sym filtered ∙ e) in
        omega (arith, h, one)

    pub counted_out : test ≡ false → (n : ℕ) → n ≡ filtered_count (map (step_of t) ps) → n ≡ filtered_count (map (step_of t) all)
    unfolding filtered_count
    counted_out e n h = h ∙ sym (ap (λ qs. filtered_count (map (step_of t) qs)) is ∙ ap (λ b. one_if b (filtered_count (map (step_of t) ps))) (sym filtered ∙ e))

  module _ (j : ℕ) (secrets : List (List ℕ)) (test : Bool) (test_is : test ≡ (nat_le p.first j && nat_lt j (p.first + p.leaves))) where
    beside : test ≡ is_beside (step_of t p) j
    beside = test_is ∙ beside_is t (length ps) p (first_placed t p ps all is placed) j

    among_is : (b : Bool) → test ≡ b → secret_among (map (step_of t) all) j secrets ≡ (if b then slice_get secrets (filtered_count (map (step_of t) ps)) else secret_among (map (step_of t) ps) j secrets)
    unfolding secret_among
    among_is b e = ap (λ qs. secret_among (map (step_of t) qs) j secrets) is ∙ ap (λ u. if u then slice_get secrets (filtered_count (map (step_of t) ps)) else secret_among (map (step_of t) ps) j secrets) (sym beside ∙ e)

    pub among_here : test ≡ true → (n : ℕ) → n ≡ filtered_count (map (step_of t) ps) → (o : Option (List ℕ)) → o ≡ slice_get secrets n → o ≡ secret_among (map (step_of t) all) j secrets
    among_here e n h o f = f ∙ ap (slice_get secrets) h ∙ sym (among_is true e)

    pub among_below : test ≡ false → (o : Option (List ℕ)) → o ≡ secret_among (map (step_of t) ps) j secrets → o ≡ secret_among (map (step_of t) all) j secrets
    among_below e o f = f ∙ sym (among_is false e)

-- ---- on a whole way

module _ (t : Term) (i j : ℕ) (ps qs : List Place) (w : IsWay t i ps) (same : qs ≡ ps) (secrets : List (List ℕ)) (o : Option (List ℕ)) (is : o ≡ secret_among (map (step_of t) qs) j secrets) where
  pub among_all : o ≡ secret_among (way 0 t i) j secrets
  among_all = is ∙ ap (λ rs. secret_among (map (step_of t) rs) j secrets) same ∙ ap (λ ss. secret_among ss j secrets) w.steps

  pub sent_of : IsSentOf t i j secrets o
  sent_of start n are enough two taken = among_all ∙ ap (secret_among (way 0 t i) j) are ∙ secret_is_among t i j start n enough two taken
