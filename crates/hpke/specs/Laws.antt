-- The laws of HPKE, for all lists.
use Rattle.std.specs.Prelude.{◌≡◌, ℕ, true, List, length, is_some, Some}
use Rattle.hpke.specs.Rfc9180.{public, is_fit, seal_base, open_base}

-- what is sealed to the public key of sk is opened by sk, under the same info and additional data
abbrev pub OpensSealed : Type 0
OpensSealed =
    (sk info aad pt ikm : List ℕ) (s : List ℕ × List ℕ) → seal_base (public sk) info aad pt ikm ≡ Some s
    → open_base s.0 sk info aad s.1 ≡ Some pt

-- a key takes a sealing exactly where it is fit
abbrev pub SealsWhereFit : Type 0
SealsWhereFit = (pk info aad pt ikm : List ℕ) → is_some (seal_base pk info aad pt ikm) ≡ is_fit pk

-- a public key is fit
abbrev pub PublicIsFit : Type 0
PublicIsFit = (sk : List ℕ) → is_fit (public sk) ≡ true

-- a public key has 32 bytes
abbrev pub PublicIsShort : Type 0
PublicIsShort = (sk : List ℕ) → length (public sk) ≡ 32
