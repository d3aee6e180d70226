-- The practice suite is lawful.
use Rattle.std.specs.Prelude.{◌≡◌, ℕ, suc, ◌-◌, Bool, true, false, List, [], ◌∷◌, ◌++◌, length, Some, None, refl, bit_xor, nat_lt, nat_eq, is_some, if◌then◌else◌}
use Rattle.std.proofs.Common.{lit<, ap, sym, ◌∙◌, arith, length-append}
use Rattle.std.specs.Int.Bits.{xor_assoc, xor_self, xor_zero_r}
use Rattle.std.specs.Str.{bytes_eq}
use Rattle.std.proofs.lemmas.List.{take_at, drop_at}
use Rattle.std.proofs.lemmas.Bool.{le-ltb}
use Rattle.std.proofs.lemmas.Slice.Eq.{bytes_eq-Decides}
use Rattle.mls_kdf.specs.Lengths.{length-sha256}
use Rattle.mls_kdf.specs.Lengths.{length-hmac}
use Rattle.mls_kdf.specs.Kdf.{hmac}
use Rattle.mls_suite.specs.Crypto.{Sealing, Lawful}
use Rattle.mls_suite.specs.Glass.{xor_with, xor_with_stream, box_tag, make_box, open_box, glass_public, glass_key_ok, glass_kem, glass_box_key, glass_seal, glass_unseal, glass_sig_public, glass_verify, glass}

xor_twice : (a b : ℕ) → bit_xor (bit_xor a b) b ≡ a
xor_twice a b = xor_assoc a b b ∙ ap (bit_xor a) (xor_self b) ∙ xor_zero_r a

pub length-xor_with : (xs ys : List ℕ) → length (xor_with xs ys) ≡ length xs
length-xor_with [] ys = refl
length-xor_with (x ∷ xs) [] = refl
length-xor_with (x ∷ xs) (y ∷ ys) = ap suc (length-xor_with xs ys)

xor_with-twice : (xs ys : List ℕ) → xor_with (xor_with xs ys) ys ≡ xs
xor_with-twice [] ys = refl
xor_with-twice (x ∷ xs) [] = refl
xor_with-twice (x ∷ xs) (y ∷ ys) = rw (xor_twice x y, xor_with-twice xs ys) refl

xor_with_stream-twice : (key text : List ℕ) → xor_with_stream key (xor_with_stream key text) ≡ text
unfolding xor_with_stream
xor_with_stream-twice key text = rw (length-xor_with text _) (xor_with-twice text _)

same_bytes : (xs : List ℕ) → bytes_eq xs xs ≡ true
same_bytes xs = (bytes_eq-Decides xs xs).1 refl

pub length-box_tag : (key body : List ℕ) → length (box_tag key body) ≡ 32
unfolding box_tag
length-box_tag key body = length-hmac _ _

-- a body and its tag are opened
unbox_parts : (key body : List ℕ) → open_box key (body ++ box_tag key body) ≡ Some (xor_with_stream key body)
unfolding open_box
unbox_parts key body =
    let n : length (body ++ box_tag key body) - 32 ≡ length body = omega (arith, length-append body (box_tag key body), length-box_tag key body) in
    let long : nat_lt (length (body ++ box_tag key body)) 32 ≡ false = le-ltb _ _ (omega (arith, length-append body (box_tag key body), length-box_tag key body)) in
    rw (long, n, take_at body (box_tag key body) (length body) refl, drop_at body (box_tag key body) (length body) refl, same_bytes (box_tag key body)) refl

pub open_box-make_box : (key pt : List ℕ) → open_box key (make_box key pt) ≡ Some pt
unfolding make_box
open_box-make_box key pt = unbox_parts key (xor_with_stream key pt) ∙ ap Some (xor_with_stream-twice key pt)

length-glass_public : (sk : List ℕ) → length (glass_public sk) ≡ 32
unfolding glass_public
length-glass_public sk = length-sha256 _

length-glass_kem : (rnd : List ℕ) → length (glass_kem rnd) ≡ 32
unfolding glass_kem
length-glass_kem rnd = length-sha256 _

length-glass_sig_public : (sk : List ℕ) → length (glass_sig_public sk) ≡ 32
unfolding glass_sig_public
length-glass_sig_public sk = length-sha256 _

is_32 : (xs : List ℕ) → length xs ≡ 32 → nat_eq (length xs) 32 ≡ true
is_32 xs e = rw e refl

-- what is sealed to a public key
abbrev sealed : List ℕ → List ℕ → List ℕ → List ℕ → Sealing
sealed sk info pt rnd = record { kem = glass_kem rnd; ct = make_box (glass_box_key (glass_public sk) (glass_kem rnd) info) pt }

seals_public : (sk info pt rnd : List ℕ) → glass_seal (glass_public sk) info pt rnd ≡ Some (sealed sk info pt rnd)
unfolding glass_seal
seals_public sk info pt rnd = rw (is_32 _ (length-glass_public sk)) refl

unseals : (sk info pt rnd : List ℕ) (s : Sealing) → glass_seal (glass_public sk) info pt rnd ≡ Some s → glass_unseal sk s.kem info s.ct ≡ Some pt
unfolding glass_unseal
unseals sk info pt rnd s e =
    let same : sealed sk info pt rnd ≡ s = (let h = sym (seals_public sk info pt rnd) ∙ e in cc) in
    rw (← same, is_32 _ (length-glass_kem rnd)) (open_box-make_box _ pt)

is_some_if : (b : Bool) (x : Sealing) → is_some (if b then Some x else None) ≡ b
is_some_if true x = refl
is_some_if false x = refl

seals : (pk info pt rnd : List ℕ) → is_some (glass_seal pk info pt rnd) ≡ glass_key_ok pk
unfolding glass_seal
seals pk info pt rnd = is_some_if (glass_key_ok pk) _

verifies : (sk m : List ℕ) → glass_verify (glass_sig_public sk) m (hmac (glass_sig_public sk) m) ≡ true
verifies sk m = same_bytes (hmac (glass_sig_public sk) m)

pub glass_lawful : Lawful glass
glass_lawful = record {
  unseals = unseals;
  verifies = verifies;
  opens = λ key nonce aad pt. open_box-make_box _ pt;
  public_ok = λ sk. is_32 _ (length-glass_public sk);
  seals = seals;
  number_short = lit< tt;
  public_short = λ sk. omega (arith, length-glass_public sk);
  sig_public_short = λ sk. omega (arith, length-glass_sig_public sk);
  sign_short = λ sk m. omega (arith, length-hmac (glass_sig_public sk) m);
}
