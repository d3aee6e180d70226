-- The outputs that calls fill with keys.
use Rattle.std.specs.Prelude.{◌≡◌, ℕ, ◌+◌, ◌-◌, List, ◌++◌, length, take, drop, Result, OnOk}
use Rattle.mls_kdf.specs.Kdf.{expand_with_label}

-- the output with a block of 32 bytes from a place on, as far as there is room
abbrev pub with_block : List ℕ → ℕ → List ℕ → List ℕ
with_block out at block = take at out ++ take (length out - at) block ++ drop (at + 32) out

-- a call that doesn't fail fills the output with the bytes that are made for its length
abbrev pub Fills : {E : Type 0} → (ℕ → List ℕ) → List ℕ → Result (Unit {0}) E → List ℕ → Type 0
Fills bytes old result new = OnOk result (new ≡ bytes (length old))

-- a call that doesn't fail fills the output by ExpandWithLabel: secret, label, context (RFC 9420, 8)
abbrev pub ExpandsWithLabel : {E : Type 0} → List ℕ → List ℕ → List ℕ → List ℕ → Result (Unit {0}) E → List ℕ → Type 0
ExpandsWithLabel secret label context old result new = Fills (expand_with_label secret label context) old result new
