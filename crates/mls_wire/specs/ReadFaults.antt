-- Which numbers a reading answers.
use Rattle.std.specs.Prelude.{◌≡◌, ℕ, zero, suc, ◌+◌, ◌-◌, ◌^◌, ◌<◌, ◌==◌, ◌||◌, Bool, true, false, cond, nat_lt, List, [], ◌∷◌, length, take, drop, Result, Ok, Err, refl}
use Rattle.std.specs.Int.{Width, w8, w16, w32, w64, byte_len, from_be_bytes}
use Rattle.mls_wire.specs.Reading.{◌>>=◌, number_at, uint_at, mark_at, without_mark, length_at, opaque_at, empty_at}
use Rattle.mls_wire.specs.Format.{Format, Skip}
use Rattle.mls_wire.specs.Combine.{◌⨾◌, Cases, case, others, left_format, right_format, make_left, make_right, by_uint8, by_uint16, behind, with_test, mark, empty_vector, nothing, byte_string, uint8, uint16, uint32, uint64, vector, optional, optional_body, make_some}
use Rattle.mls_wire.specs.Stateful.{vector_from}
use Rattle.mls_wire.specs.CombineReads.{IsNonempty, next_read, seen_read, body_read, if_passes, items_at, all_read, require_end}
use Rattle.mls_wire.specs.StatefulReads.{Rule, run_at, run_read}

-- Whether the number is one of `Truncated` (2), `Trailing` (3), `BadLength` (4), `NotMinimal` (5), `BadTag` (7),
-- `UnsupportedCredential` (11), `UnsupportedProposal` (12), `NotRising` (13) and `ExtensionNotAllowed` (14).
-- `OutOfMemory` (1) is none of them.
abbrev pub is_fault : ℕ → Bool
is_fault n = (n == 2) || (n == 3) || (n == 4) || (n == 5) || (n == 7) || (n == 11) || (n == 12) || (n == 13) || (n == 14)

-- there is a value, or the number is one of them
abbrev pub Answered : {A : Type 0} → Result A ℕ → Type 0
Answered (Ok x) = Unit {0}
Answered (Err n) = is_fault n ≡ true

-- reading gives a value or one of them, whatever the bytes are
pub record HasFaults {V : Type 0} (a : Format V) : Type 0 where
  pub answers : (bytes : List ℕ) → Answered (a.read bytes)

-- reading past what has no value succeeds or gives one of these numbers, whatever the bytes are
pub record PassesWith (s : Skip) : Type 0 where
  pub answers : (bytes : List ℕ) → Answered (s.read bytes)

-- reading what stands behind any tag gives a value or one of these numbers, whatever the bytes are
pub record HaveFaults {V : Type 0} (c : Cases V) : Type 0 where
  pub answers : (t : ℕ) (bytes : List ℕ) → Answered ((c.body t).read bytes)

-- ---- steps and tests

pub answered_then : {A B : Type 0} (r : Result A ℕ) (f : A → Result B ℕ) → Answered r → ((x : A) → Answered (f x)) → Answered (r >>= f)
answered_then (Ok x) f h k = k x
answered_then (Err n) f h k = h

pub answered_if : {A : Type 0} (b : Bool) (x y : Result A ℕ) → Answered x → Answered y → Answered (cond b x y)
answered_if true x y h k = h
answered_if false x y h k = k

-- ---- numbers and byte strings

number_answered : (w : Width) (bytes : List ℕ) → Answered (number_at w bytes)
number_answered w bytes = answered_if (nat_lt (length bytes) (byte_len w)) (Err 2) (Ok (from_be_bytes w (take (byte_len w) bytes), drop (byte_len w) bytes)) refl tt

pub uint_answered : (w : Width) (bytes : List ℕ) → Answered (uint_at w bytes)
unfolding uint_at
uint_answered w bytes = number_answered w bytes

unmarked_answered : (least mark : ℕ) (n : ℕ × List ℕ) → Answered (without_mark mark least n)
unmarked_answered least mark n = answered_if (nat_lt n.0 (mark + least)) (Err 5) (Ok (n.0 - mark, n.1)) refl tt

length_answered : (bytes : List ℕ) → Answered (length_at bytes)
unfolding length_at
length_answered [] = refl
length_answered (b ∷ rest) =
    let two = number_at w16 (b ∷ rest) >>= without_mark 16384 64 in
    let four = number_at w32 (b ∷ rest) >>= without_mark 2147483648 16384 in
    answered_if (nat_lt b 64) (Ok (b, rest)) (cond (nat_lt b 128) two (cond (nat_lt b 192) four (Err 4))) tt
    (answered_if (nat_lt b 128) two (cond (nat_lt b 192) four (Err 4)) (answered_then (number_at w16 (b ∷ rest)) (without_mark 16384 64) (number_answered w16 (b ∷ rest)) (unmarked_answered 64 16384))
    (answered_if (nat_lt b 192) four (Err 4) (answered_then (number_at w32 (b ∷ rest)) (without_mark 2147483648 16384) (number_answered w32 (b ∷ rest)) (unmarked_answered 16384 2147483648)) refl))

pub opaque_answered : (bytes : List ℕ) → Answered (opaque_at bytes)
unfolding opaque_at
opaque_answered bytes =
    answered_then (length_at bytes) (λ n. cond (nat_lt (length n.1) n.0) (Err 2) (Ok (take n.0 n.1, drop n.0 n.1))) (length_answered bytes)
    (λ n. answered_if (nat_lt (length n.1) n.0) (Err 2) (Ok (take n.0 n.1, drop n.0 n.1)) refl tt)

pub uint8_faults : HasFaults uint8
uint8_faults = record { answers = uint_answered w8 }

pub uint16_faults : HasFaults uint16
uint16_faults = record { answers = uint_answered w16 }

pub uint32_faults : HasFaults uint32
uint32_faults = record { answers = uint_answered w32 }

pub uint64_faults : HasFaults uint64
uint64_faults = record { answers = uint_answered w64 }

pub byte_string_faults : HasFaults byte_string
byte_string_faults = record { answers = opaque_answered }

pub nothing_faults : HasFaults nothing
nothing_faults = record { answers = λ bytes. tt }

-- ---- what has no value

pub mark_faults : (n fault : ℕ) (lt : n < 2 ^ 16) → is_fault fault ≡ true → PassesWith (mark n fault lt)
unfolding mark_at
mark_faults n fault lt is = record {
  answers = λ bytes. answered_then (uint_at w16 bytes) (λ x. cond (x.0 == n) (Ok x.1) (Err fault)) (uint_answered w16 bytes) (λ x. answered_if (x.0 == n) (Ok x.1) (Err fault) tt is);
}

pub empty_faults : (fault : ℕ) → is_fault fault ≡ true → PassesWith (empty_vector fault)
unfolding empty_at
empty_faults fault is = record {
  answers = λ bytes. answered_then (opaque_at bytes) (λ x. cond (length x.0 == 0) (Ok x.1) (Err fault)) (opaque_answered bytes) (λ x. answered_if (length x.0 == 0) (Ok x.1) (Err fault) tt is);
}

-- ---- formats put together

pub pair_faults : {A B : Type 0} {a : Format A} {b : Format B} → HasFaults a → HasFaults b → HasFaults (a ⨾ b)
pair_faults {A} {B} {a} {b} h k = record {
  answers = λ bytes. answered_then (a.read bytes) (next_read (λ (x : A). b)) (h.answers bytes) (λ x. answered_then (b.read x.1) (λ y. Ok ((x.0, y.0), y.1)) (k.answers x.1) (λ y. tt));
}

pub behind_faults : {V : Type 0} {s : Skip} {a : Format V} → PassesWith s → HasFaults a → HasFaults (behind s a)
behind_faults {V} {s} {a} h k = record { answers = λ bytes. answered_then (s.read bytes) a.read (h.answers bytes) k.answers }

-- behind what has no value, whatever is read there
pub behind_answered : {A : Type 0} {s : Skip} (read : List ℕ → Result A ℕ) → PassesWith s → ((bytes : List ℕ) → Answered (read bytes)) → (bytes : List ℕ) → Answered (s.read bytes >>= read)
behind_answered {A} {s} read h k bytes = answered_then (s.read bytes) read (h.answers bytes) k

-- a value that is seen as another type is read with the same faults
pub seen_answered : {A V : Type 0} {a : Format A} (make : A → V) → HasFaults a → (bytes : List ℕ) → Answered (a.read bytes >>= seen_read make)
seen_answered {A} {V} {a} make h bytes = answered_then (a.read bytes) (seen_read make) (h.answers bytes) (λ x. tt)

pub guarded_faults : {V : Type 0} {a : Format V} (test : V → Bool) (fault : ℕ) → is_fault fault ≡ true → HasFaults a → HasFaults (with_test a test fault)
guarded_faults {V} {a} test fault is h = record {
  answers = λ bytes. answered_then (a.read bytes) (if_passes test fault) (h.answers bytes) (λ x. answered_if (test x.0) (Ok x) (Err fault) tt is);
}

-- ---- one of several, by a tag

pub others_faults : (fault : ℕ) → is_fault fault ≡ true → HaveFaults (others fault)
others_faults fault is = record { answers = λ t bytes. is }

case_answered : {A B : Type 0} (b : Bool) (a : Format A) (c : Format B) (bytes : List ℕ) → Answered (a.read bytes) → Answered (c.read bytes) → Answered ((cond b (left_format a) (right_format c)).read bytes)
case_answered {A} {B} true a c bytes h k = answered_then (a.read bytes) (seen_read (make_left {B = B})) h (λ x. tt)
case_answered {A} {B} false a c bytes h k = answered_then (c.read bytes) (seen_read (make_right {A = A})) k (λ x. tt)

pub case_faults : {A B : Type 0} {a : Format A} {c : Cases B} (k : ℕ) → HasFaults a → HaveFaults c → HaveFaults (case k a c)
case_faults {A} {B} {a} {c} k h more = record { answers = λ t bytes. case_answered (t == k) a (c.body t) bytes (h.answers bytes) (more.answers t bytes) }

pub by_uint8_faults : {V : Type 0} {c : Cases V} → HaveFaults c → HasFaults (by_uint8 c)
by_uint8_faults {V} {c} h = record { answers = λ bytes. answered_then (uint_at w8 bytes) (body_read c.body) (uint_answered w8 bytes) (λ t. h.answers t.0 t.1) }

pub by_uint16_faults : {V : Type 0} {c : Cases V} → HaveFaults c → HasFaults (by_uint16 c)
by_uint16_faults {V} {c} h = record { answers = λ bytes. answered_then (uint_at w16 bytes) (body_read c.body) (uint_answered w16 bytes) (λ t. h.answers t.0 t.1) }

-- ---- vectors of items, and optional ones

items_answered : {V : Type 0} (a : Format V) → HasFaults a → (fuel : ℕ) (bytes : List ℕ) → Answered (items_at a.read fuel bytes)
items_answered a h fuel [] = tt
items_answered a h zero (b ∷ bytes) = refl
items_answered a h (suc fuel) (b ∷ bytes) =
    answered_then (a.read (b ∷ bytes)) (λ first. items_at a.read fuel first.1 >>= λ more. Ok (first.0 ∷ more)) (h.answers (b ∷ bytes))
    (λ first. answered_then (items_at a.read fuel first.1) (λ more. Ok (first.0 ∷ more)) (items_answered a h fuel first.1) (λ more. tt))

pub vector_faults : {V : Type 0} (a : Format V) (nonempty : IsNonempty a) → HasFaults a → HasFaults (vector a nonempty)
vector_faults a nonempty h = record {
  answers = λ bytes. answered_then (opaque_at bytes) (all_read a) (opaque_answered bytes)
      (λ x. answered_then (items_at a.read (length x.0) x.0) (λ vs. Ok (vs, x.1)) (items_answered a h (length x.0) x.0) (λ vs. tt));
}

optional_answered : {V : Type 0} (a : Format V) → HasFaults a → (t : ℕ) (bytes : List ℕ) → Answered ((optional_body a t).read bytes)
optional_answered a h zero bytes = tt
optional_answered a h (suc zero) bytes = answered_then (a.read bytes) (seen_read make_some) (h.answers bytes) (λ x. tt)
optional_answered a h (suc (suc t)) bytes = refl

pub optional_faults : {V : Type 0} {a : Format V} → HasFaults a → HasFaults (optional a)
optional_faults {V} {a} h = record { answers = λ bytes. answered_then (uint_at w8 bytes) (body_read (optional_body a)) (uint_answered w8 bytes) (λ t. optional_answered a h t.0 t.1) }

run_answered : {S V : Type 0} (rule : Rule S V) → ((s : S) → HasFaults (rule.item s)) → (fuel : ℕ) (s : S) (bytes : List ℕ) → Answered (run_at rule fuel s bytes)
run_answered rule h fuel s [] = tt
run_answered rule h zero s (b ∷ bytes) = refl
run_answered rule h (suc fuel) s (b ∷ bytes) =
    answered_then ((rule.item s).read (b ∷ bytes)) (λ first. run_at rule fuel (rule.next s first.0) first.1 >>= λ more. Ok (first.0 ∷ more)) ((h s).answers (b ∷ bytes))
    (λ first. answered_then (run_at rule fuel (rule.next s first.0) first.1) (λ more. Ok (first.0 ∷ more)) (run_answered rule h fuel (rule.next s first.0) first.1) (λ more. tt))

pub vector_from_faults : {S V : Type 0} (rule : Rule S V) (s : S) → ((s : S) → HasFaults (rule.item s)) → HasFaults (vector_from rule s)
vector_from_faults rule s h = record {
  answers = λ bytes. answered_then (opaque_at bytes) (run_read rule s) (opaque_answered bytes)
      (λ x. answered_then (run_at rule (length x.0) s x.0) (λ vs. Ok (vs, x.1)) (run_answered rule h (length x.0) s x.0) (λ vs. tt));
}

-- ---- one value, and no byte behind it

pub ended_answered : {V : Type 0} (x : V × List ℕ) → Answered (require_end x)
ended_answered x = answered_if (length x.1 == 0) (Ok x.0) (Err 3) tt refl
