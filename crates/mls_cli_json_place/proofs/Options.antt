-- Whether there is a value.
use Rattle.std.proofs.Common.{◌≡◌, ◌&&◌, Bool, true, false, Option, Some, None, option_map, is_some, refl}
use Rattle.mls_cli_json.specs.Json.{◌>>=◌, require}

pub some_mapped : {A B : Type 0} (f : A → B) (x : Option A) → is_some (option_map f x) ≡ is_some x
some_mapped f None = refl
some_mapped f (Some a) = refl

pub some_made : {A B : Type 0} (f : A → B) (x : Option A) → is_some (x >>= λ a. Some (f a)) ≡ is_some x
some_made f None = refl
some_made f (Some a) = refl

pub some_both : {A B C : Type 0} (f : A → B → C) (x : Option A) (y : Option B) → is_some (x >>= λ a. y >>= λ b. Some (f a b)) ≡ (is_some x && is_some y)
some_both f None y = refl
some_both f (Some a) None = refl
some_both f (Some a) (Some b) = refl

pub some_required : {A : Type 0} (b : Bool) (x : Option A) → is_some (require b x) ≡ (b && is_some x)
some_required true x = refl
some_required false x = refl
