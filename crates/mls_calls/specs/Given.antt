-- Bytes that C passes by pointer and length, as the library copies them.
use Rattle.std.specs.Prelude.{◌≡◌, ℕ, ◌<◌, List, [], Result, Ok, Err, MatchResult}
use denote.RawPtr.{Ptr, block_ptr, null_ptr}
use Rattle.std.specs.Global.{Vec}
use Rattle.mls_calls.specs.Faults.{number_of}
use Rattle.mls_calls.specs.declared.error.MisuseError.TheVariants.{NullBytes}
use Rattle.mls_calls.specs.declared.given.Given.{Given}

-- the copy, or `OutOfMemory` (1)
abbrev pub IsCopy : List ℕ → Result (Vec ℕ) ℕ → Type 0
IsCopy xs copy = MatchResult copy (λ v. v.items ≡ xs) (λ n. n ≡ 1)

-- of null: no bytes where the length is 0, else `NullBytes` (132)
abbrev pub IsNone : ℕ → Result (Vec ℕ) ℕ → Type 0
IsNone length copy =
    MatchResult copy (λ v. (v.items ≡ []) × (length ≡ 0))
    (λ n. (n ≡ number_of NullBytes) × (0 < length))

-- what is copied of the bytes xs at a pointer
abbrev pub IsGiven : Ptr → ℕ → List ℕ → Result (Vec ℕ) ℕ → Type 0
IsGiven null_ptr length xs copy = IsNone length copy
IsGiven (block_ptr b o) length xs copy = IsCopy xs copy

-- bytes that are given, or the number of why there are none
abbrev pub Text : Type 0
Text = Result (List ℕ) ℕ

-- those that were copied
abbrev pub given_bytes : Result (Vec ℕ) ℕ → Text
given_bytes (Ok v) = Ok v.items
given_bytes (Err n) = Err n

-- what is given, as the definitions of the calls see it
abbrev pub text : Given → Text
text given = given_bytes given.bytes
