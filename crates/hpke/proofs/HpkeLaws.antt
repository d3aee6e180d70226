-- The laws of HPKE.
use Rattle.std.proofs.Common.{◌≡◌, ℕ, Bool, true, false, List, ◌++◌, length, Some, None, refl, ap, sym, ◌∙◌, inl, inr}
use Rattle.std.specs.Prelude.{replicate, nat_eq, is_some, if◌then◌else◌}
use Rattle.std.proofs.lemmas.Bool.{cases_Bool}
use Rattle.std.proofs.lemmas.Slice.Eq.{bytes_eq-Decides}
use Rattle.field25519.specs.Bytes.{decode_little}
use Rattle.x25519.specs.Rfc7748.{x25519_bytes, clear_cofactor_bytes, nine_bytes}
use Rattle.x25519.proofs.Bytes.{exchange_law, nonzero_law, high_order_law}
use Rattle.aes128gcm.proofs.GcmLaws as gcm
use Rattle.mls_kdf.proofs.Lengths.{length-expand}
use Rattle.hpke.specs.Rfc9180.{labeled_expand, dh, public, derive, is_zero, eight_times, is_fit, extract_and_expand, encap, encapsulated_key, decap, key, base_nonce, context_seal, context_open, seal_base, open_base}
use Rattle.hpke.specs.Laws.{OpensSealed, SealsWhereFit, PublicIsFit, PublicIsShort}

pub public_is_short : PublicIsShort
unfolding public
public_is_short sk = refl

pub length-derive : (ikm : List ℕ) → length (derive ikm) ≡ 32
unfolding derive labeled_expand
length-derive ikm = length-expand _ _ 32

-- both sides compute one value
one_secret : (a b : List ℕ) → dh a (public b) ≡ dh b (public a)
unfolding dh public
one_secret a b = exchange_law a b

zeros_decode : decode_little (replicate 32 0) ≡ 0
zeros_decode = refl

-- which isn't 0
nonzero : (a b : List ℕ) → is_zero (dh a (public b)) ≡ false
unfolding is_zero dh public
nonzero a b = elim (cases_Bool (is_zero (dh a (public b)))) [
  | inl e ↦ absurd (nonzero_law a b (ap decode_little ((bytes_eq-Decides (x25519_bytes a (x25519_bytes b nine_bytes)) (replicate 32 0)).0 e) ∙ zeros_decode))
  | inr e ↦ e
]

-- nor is eight times a public key
high_order : (sk : List ℕ) → is_zero (eight_times (public sk)) ≡ false
unfolding is_zero eight_times public
high_order sk = elim (cases_Bool (is_zero (eight_times (public sk)))) [
  | inl e ↦ absurd (high_order_law sk (ap decode_little ((bytes_eq-Decides (clear_cofactor_bytes (x25519_bytes sk nine_bytes)) (replicate 32 0)).0 e) ∙ zeros_decode))
  | inr e ↦ e
]

is_32 : (xs : List ℕ) → length xs ≡ 32 → nat_eq (length xs) 32 ≡ true
is_32 xs e = rw e refl

pub public_is_fit : PublicIsFit
unfolding is_fit
public_is_fit sk = rw (is_32 _ (public_is_short sk), high_order sk) refl

-- both sides have one shared secret
one_shared : (sk ikm : List ℕ) → decap (encapsulated_key ikm) sk ≡ encap (public sk) ikm
unfolding decap encap encapsulated_key
one_shared sk ikm = ap (λ d. extract_and_expand d (public (derive ikm) ++ public sk)) (one_secret sk (derive ikm))

opens_context : (shared info aad pt : List ℕ) → context_open shared info aad (context_seal shared info aad pt) ≡ Some pt
unfolding context_open context_seal
opens_context shared info aad pt = gcm.opens_sealed (key shared info) (base_nonce shared info) aad pt

-- what is sealed to a public key
abbrev made : List ℕ → List ℕ → List ℕ → List ℕ → List ℕ → List ℕ × List ℕ
made sk info aad pt ikm = (encapsulated_key ikm, context_seal (encap (public sk) ikm) info aad pt)

seals_public : (sk info aad pt ikm : List ℕ) → seal_base (public sk) info aad pt ikm ≡ Some (made sk info aad pt ikm)
unfolding seal_base
seals_public sk info aad pt ikm = rw (public_is_fit sk) refl

short_key : (ikm : List ℕ) → nat_eq (length (encapsulated_key ikm)) 32 ≡ true
unfolding encapsulated_key
short_key ikm = is_32 _ (public_is_short (derive ikm))

nonzero_key : (sk ikm : List ℕ) → is_zero (dh sk (encapsulated_key ikm)) ≡ false
unfolding encapsulated_key
nonzero_key sk ikm = nonzero sk (derive ikm)

opens_made : (sk info aad pt ikm : List ℕ) → open_base (encapsulated_key ikm) sk info aad (context_seal (encap (public sk) ikm) info aad pt) ≡ Some pt
unfolding open_base
opens_made sk info aad pt ikm = rw (short_key ikm, nonzero_key sk ikm, one_shared sk ikm) (opens_context (encap (public sk) ikm) info aad pt)

pub opens_sealed : OpensSealed
opens_sealed sk info aad pt ikm s e =
    let same : made sk info aad pt ikm ≡ s = (let h = sym (seals_public sk info aad pt ikm) ∙ e in cc) in
    rw (← same) (opens_made sk info aad pt ikm)

is_some_if : (b : Bool) (x : List ℕ × List ℕ) → is_some (if b then Some x else None) ≡ b
is_some_if true x = refl
is_some_if false x = refl

pub seals_where_fit : SealsWhereFit
unfolding seal_base
seals_where_fit pk info aad pt ikm = is_some_if (is_fit pk) _
