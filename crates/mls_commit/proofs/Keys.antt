-- The keys of a path's nodes, one node after another.
use Rattle.std.proofs.Common.{◌≡◌, ℕ, ◌+◌, ◌<◌, List, [], ◌∷◌, ◌++◌, length, map, drop, get_or, sym, ◌∙◌, ap}
use Rattle.std.proofs.lemmas.List.{drop_more, append_assoc}

pub mapped_next : {A B : Type 0} (f : A → B) (xs : List A) (k : ℕ) (x : A) (done more : List B) (y : B) → k < length xs → x ≡ get_or xs k x → more ≡ done ++ y ∷ [] → y ≡ f x → done ++ map f (drop k xs) ≡ map f xs → more ++ map f (drop (k + 1) xs) ≡ map f xs
mapped_next f xs k x done more y lt is pushed made inv =
    rw (pushed, made) (append_assoc done (f x ∷ []) (map f (drop (k + 1) xs)) ∙ sym (ap (λ ys. done ++ map f ys) (drop_more xs k x lt ∙ ap (λ z. z ∷ drop (k + 1) xs) (sym is))) ∙ inv)
