-- Strict looks into JSON: nothing where a value is of another kind.
use Rattle.std.specs.Prelude.{◌==◌, nat_le, ℕ, Bool, false, List, if◌then◌else◌, Option, Some, None, option_and_then, option_map}
use Rattle.std.specs.Str.{is_utf8}
use Rattle.serde_json.specs.Data.{Data, Items, Members}
use Rattle.serde_json.specs.Events.{members_len}
use Rattle.serde_json.specs.Find.{get, as_str, as_bool, as_number, as_u64, as_array, as_object}
use Rattle.serde_json.specs.Read.{read}

-- the greatest uint16 and uint32
abbrev pub max_u16 : ℕ
max_u16 = 65535

abbrev pub max_u32 : ℕ
max_u32 = 4294967295

infixl 10 ◌>>=◌
abbrev pub ◌>>=◌ : {A B : Type 0} → Option A → (A → Option B) → Option B
None >>= f = None
(Some x) >>= f = f x

-- goes on only where a test holds
abbrev pub require : {A : Type 0} → Bool → Option A → Option A
require b next = if b then next else None

-- an object of so many members
abbrev pub has_members : ℕ → Option Members → Bool
has_members n None = false
has_members n (Some ms) = members_len ms == n

abbrev pub is_object_of : ℕ → Data → Bool
is_object_of n d = has_members n (as_object d)

abbrev pub text_at : List ℕ → Data → Option (List ℕ)
text_at key d = option_and_then as_str (get key d)

-- the number, where it is at most the limit
abbrev pub up_to : ℕ → ℕ → Option ℕ
up_to limit n = if nat_le n limit then Some n else None

-- a number that is written as a whole one, below 2^64
abbrev pub whole_number : Data → Option ℕ
whole_number d = option_and_then as_u64 (as_number d)

abbrev pub number_at : List ℕ → Data → Option ℕ
number_at key d = option_and_then whole_number (get key d)

-- a number that is written as a whole one, at most the limit
abbrev pub whole : ℕ → Data → Option ℕ
whole limit d = option_and_then (up_to limit) (whole_number d)

abbrev pub whole_at : ℕ → List ℕ → Data → Option ℕ
whole_at limit key d = option_and_then (whole limit) (get key d)

abbrev pub bool_at : List ℕ → Data → Option Bool
bool_at key d = option_and_then as_bool (get key d)

-- what a member is, where it is there
abbrev pub if_any : {A : Type 0} → (Data → Option A) → Option Data → Option (Option A)
if_any read None = Some None
if_any read (Some d) = option_map Some (read d)

abbrev pub text_if_any : List ℕ → Data → Option (Option (List ℕ))
text_if_any key d = if_any as_str (get key d)

abbrev pub items_at : List ℕ → Data → Option Items
items_at key d = option_and_then as_array (get key d)

-- the value that a file is; there is none where it is no text, or no JSON
unfoldable pub data_in : List ℕ → Option Data
data_in file = if is_utf8 file then read file else None
