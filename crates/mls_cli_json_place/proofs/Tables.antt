-- The table of a format says what is wrong just where nothing can be read by it.
use Rattle.std.proofs.Common.{◌≡◌, Bool, true, false, if◌then◌else◌, not, Option, Some, None, is_some, refl}
use Rattle.mls_cli_json.specs.Json.{◌>>=◌, require}
use Rattle.mls_cli_json_place.specs.declared.key.Key.{Key}
use Rattle.mls_cli_json_place.specs.declared.place.Wrong.{Wrong}
use Rattle.mls_cli_json_place.specs.Faults.{at_key, no_more}

-- by whether the members are counted right
pub record Tells {X : Type 0} (wrong : Bool → Option Wrong) (read : Option X) : Type 0 where
  pub more : is_some (wrong false) ≡ true
  pub same : is_some (wrong true) ≡ not (is_some read)

pub last : {X : Type 0} (x : X) → Tells no_more (Some x)
last x = record { more = refl; same = refl }

pub row : {A X : Type 0} (key : Key) (x : Option A) (f : A → Option X) (wrong : Bool → Option Wrong) → ((a : A) → Tells wrong (f a)) → Tells (λ b. at_key key (is_some x) (wrong b)) (x >>= f)
row key None f wrong h = record { more = refl; same = refl }
row key (Some a) f wrong h = record { more = (h a).more; same = (h a).same }

pub table : {X : Type 0} (wrong : Bool → Option Wrong) (read : Option X) (counted : Bool) → Tells wrong read → is_some (wrong counted) ≡ not (is_some (require counted read))
table wrong read true h = h.same
table wrong read false h = h.more

-- by a test of a name
pub by_name : {X : Type 0} (b : Bool) (v w : Option Wrong) (x y : Option X) → is_some v ≡ not (is_some x) → is_some w ≡ not (is_some y) → is_some (if b then v else w) ≡ not (is_some (if b then x else y))
by_name true v w x y this other = this
by_name false v w x y this other = other

-- a row before others
pub row_before : {A X : Type 0} (key : Key) (x : Option A) (f : A → Option X) (wrong : Option Wrong) → ((a : A) → is_some wrong ≡ not (is_some (f a))) → is_some (at_key key (is_some x) wrong) ≡ not (is_some (x >>= f))
row_before key None f wrong h = refl
row_before key (Some a) f wrong h = h a
