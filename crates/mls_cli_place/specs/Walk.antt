-- Where bytes that are refused have their first fault: how fields are read past, one behind the other (RFC 9420, 2.1).
use Rattle.std.specs.Prelude.{◌≡◌, ℕ, zero, suc, ◌+◌, ◌==◌, nat_lt, if◌then◌else◌, List, [], ◌∷◌, ◌++◌, length, Option, Some, None, Result, Ok, Err}
use Rattle.mls_wire.specs.Combine.{byte_string}
use Rattle.mls_wire.specs.Reading.{opaque_at}
use Rattle.mls_cli_place.specs.declared.place.Found.{Found}
use Rattle.mls_cli_place.specs.declared.step.Step.{Step}
use Rattle.mls_cli_place.specs.declared.step.Step.TheVariants.{Item}

-- ---- a fault that was found

-- how many steps of a path are kept; the deepest field of a message has ten
abbrev pub most_steps : ℕ
most_steps = 16

-- a path, of which the innermost step comes first, with a step further outwards
abbrev pub outwards : Step → List Step → List Step
outwards step path = if nat_lt (length path) most_steps then path ++ step ∷ [] else path

-- a fault at the front of these bytes, in no field yet: how many bytes are left there, and its number
abbrev pub at_front : List ℕ → ℕ → Found
at_front bytes n = record { left = length bytes; path = []; fault = n }

-- a fault as one inside a field or an item
abbrev pub enclosed_by : Step → Found → Found
enclosed_by step f = record { left = f.left; path = outwards step f.path; fault = f.fault }

-- a fault inside the content of a vector, behind which there are so many bytes
abbrev pub before : ℕ → Found → Found
before behind f = record { left = f.left + behind; path = f.path; fault = f.fault }

-- ---- reading past

-- the bytes behind what is read past, or the first fault
abbrev pub Walk : Type 0
Walk = List ℕ → Result (List ℕ) Found

-- what is read as one: a fault in it is where it begins
abbrev pub located : {A : Type 0} → List ℕ → Result A ℕ → Result A Found
located bytes (Ok x) = Ok x
located bytes (Err n) = Err (at_front bytes n)

abbrev pub one : (List ℕ → Result (List ℕ) ℕ) → Walk
one pass bytes = located bytes (pass bytes)

-- a field or an item: a fault in it is inside it
abbrev pub inside : {A : Type 0} → Step → Result A Found → Result A Found
inside step (Ok x) = Ok x
inside step (Err f) = Err (enclosed_by step f)

abbrev pub field : Step → Walk → Walk
field step walk bytes = inside step (walk bytes)

-- a field that is read as one
abbrev pub single : Step → (List ℕ → Result (List ℕ) ℕ) → Walk
single step pass = field step (one pass)

-- a byte string
abbrev pub string_field : Step → Walk
string_field step = single step byte_string.pass

-- one behind the other: the first fault is answered
abbrev pub followed : {A B : Type 0} → Result A Found → (A → Result B Found) → Result B Found
followed (Ok x) walk = walk x
followed (Err f) walk = Err f

infixr 20 ◌▷◌
abbrev pub ◌▷◌ : Walk → Walk → Walk
(a ▷ b) bytes = followed (a bytes) b

-- nothing
abbrev pub no_field : Walk
no_field bytes = Ok bytes

-- ---- tags

-- what stands behind each tag
abbrev pub case_of : ℕ → Walk → (ℕ → Option Walk) → ℕ → Option Walk
case_of k walk others t = if t == k then Some walk else others t

abbrev pub no_case : ℕ → Option Walk
no_case t = None

abbrev pub chosen : Found → List ℕ → Option Walk → Result (List ℕ) Found
chosen unknown rest (Some walk) = walk rest
chosen unknown rest None = Err unknown

-- a tag, and what it calls for: a tag that isn't listed is this fault, where the tag begins
abbrev pub by_tag : (Found → Found) → ℕ → (ℕ → Option Walk) → List ℕ → Result (ℕ × List ℕ) ℕ
    → Result (List ℕ) Found
by_tag in_tag fault cases bytes (Ok t) = chosen (in_tag (at_front bytes fault)) t.1 (cases t.0)
by_tag in_tag fault cases bytes (Err n) = Err (in_tag (at_front bytes n))

-- ---- vectors

-- a content that is read past to its end, in front of other bytes
abbrev pub content_before : List ℕ → Result (Unit {0}) Found → Result (List ℕ) Found
content_before rest (Ok _) = Ok rest
content_before rest (Err f) = Err (before (length rest) f)

abbrev pub enclosed : (List ℕ → Result (Unit {0}) Found) → Walk
enclosed all bytes = followed (located bytes (opaque_at bytes)) (λ x. content_before x.1 (all x.0))

-- items to the end of the bytes, the first of which has this number. Each takes a byte or more, so there are at most as
-- many as bytes.
abbrev pub items : Walk → ℕ → ℕ → List ℕ → Result (Unit {0}) Found
items walk i fuel [] = Ok tt
items walk i zero (b ∷ bytes) = Err (enclosed_by (Item i) (at_front (b ∷ bytes) 2))
items walk i (suc fuel) (b ∷ bytes) =
    followed (inside (Item i) (walk (b ∷ bytes))) (items walk (i + 1) fuel)

abbrev pub all_items : Walk → List ℕ → Result (Unit {0}) Found
all_items walk bytes = items walk 0 (length bytes) bytes

-- item items<V> (RFC 9420, 2.1.2)
abbrev pub vector_of : Walk → Walk
vector_of walk = enclosed (all_items walk)

-- ---- of the code's values

-- a call on a reader reads past, and takes no memory
abbrev pub Walks : Walk → List ℕ → Result (Unit {0}) Found → List ℕ → Type 0
Walks walk old (Ok _) new = walk old ≡ Ok new
Walks walk old (Err f) new = walk old ≡ Err f

-- a call reads past all of the bytes
abbrev pub WalksAll : Result (Unit {0}) Found → Result (Unit {0}) Found → Type 0
WalksAll walked (Ok _) = walked ≡ Ok tt
WalksAll walked (Err f) = walked ≡ Err f

-- a call on a reader answers the content of the vector at the front, and how many bytes are behind it
abbrev pub OpensContent : List ℕ → Result (List ℕ × ℕ) Found → List ℕ → Type 0
OpensContent old (Ok x) new = (opaque_at old ≡ Ok (x.0, new)) × (x.1 ≡ length new)
OpensContent old (Err f) new = located old (opaque_at old) ≡ Err f
