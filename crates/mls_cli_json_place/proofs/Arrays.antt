-- Arrays: nothing is wrong with any value just where all are read.
use Rattle.std.proofs.Common.{◌≡◌, ◌+◌, ◌&&◌, ℕ, Bool, not, List, ◌∷◌, Option, Some, None, is_some, refl}
use Rattle.serde_json.specs.Data.{Data, Items, no_items, item}
use Rattle.serde_json.specs.Find.{as_str}
use Rattle.mls_cli_json.specs.Json.{◌>>=◌, max_u32, whole}
use Rattle.mls_cli_json.specs.Lists.{each_of, prepend_if_hex}
use Rattle.mls_cli_recording.specs.Recording.{texts_in}
use Rattle.mls_cli_vectors.specs.VectorsFile.{numbers_of}
use Rattle.mls_cli_json_place.specs.declared.place.Wrong.{Wrong}
use Rattle.mls_cli_json_place.specs.Lists.{all_items, first_wrong, wrong_or}

both_told : {A B C : Type 0} (f : A → B → C) (x : Option A) (b : Bool) (rest : Option B) → b ≡ is_some rest → (is_some x && b) ≡ is_some (x >>= λ a. rest >>= λ r. Some (f a r))
both_told f None b rest e = refl
both_told f (Some a) b None e = e
both_told f (Some a) b (Some r) e = e

pub all_told : {X : Type 0} (read : Data → Option (Option X)) (ds : Items) → all_items (λ d. is_some (read d)) ds ≡ is_some (each_of read ds)
unfolding all_items each_of
all_told read no_items = refl
all_told read (item d ds) = both_told prepend_if_hex (read d) (all_items (λ e. is_some (read e)) ds) (each_of read ds) (all_told read ds)

pub texts_told : (ds : Items) → all_items (λ d. is_some (as_str d)) ds ≡ is_some (texts_in ds)
unfolding all_items texts_in
texts_told no_items = refl
texts_told (item d ds) = both_told (λ text texts. text ∷ texts) (as_str d) (all_items (λ e. is_some (as_str e)) ds) (texts_in ds) (texts_told ds)

pub numbers_told : (ds : Items) → all_items (λ d. is_some (whole max_u32 d)) ds ≡ is_some (numbers_of ds)
unfolding all_items numbers_of
numbers_told no_items = refl
numbers_told (item d ds) = both_told (λ n ns. n ∷ ns) (whole max_u32 d) (all_items (λ e. is_some (whole max_u32 e)) ds) (numbers_of ds) (numbers_told ds)

item_told : {X : Type 0} (i : ℕ) (w : Option Wrong) (x : Option (Option X)) (more : Option (ℕ × Wrong)) (rest : Option (Option (List X))) → is_some w ≡ not (is_some x) → is_some more ≡ not (is_some rest)
    → is_some (wrong_or i w more) ≡ not (is_some (x >>= λ a. rest >>= λ r. Some (prepend_if_hex a r)))
item_told i None None more rest e h = absurd cc
item_told i None (Some x) more None e h = h
item_told i None (Some x) more (Some r) e h = h
item_told i (Some w) None more rest e h = refl
item_told i (Some w) (Some x) more rest e h = absurd cc

pub first_told : {X : Type 0} (wrong : Data → Option Wrong) (read : Data → Option (Option X)) → ((d : Data) → is_some (wrong d) ≡ not (is_some (read d))) → (i : ℕ) (ds : Items) → is_some (first_wrong wrong i ds) ≡ not (is_some (each_of read ds))
unfolding first_wrong each_of
first_told wrong read h i no_items = refl
first_told wrong read h i (item d ds) = item_told i (wrong d) (read d) (first_wrong wrong (i + 1) ds) (each_of read ds) (h d) (first_told wrong read h (i + 1) ds)
