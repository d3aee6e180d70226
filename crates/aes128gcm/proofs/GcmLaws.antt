-- What GCM seals it opens.
use Rattle.std.proofs.Common.{◌≡◌, ◌≢◌, ℕ, ◌-◌, ◌<◌, ◌≤◌, true, false, List, [], ◌∷◌, ◌++◌, length, Some, None, ap, sym, ◌∙◌, refl, arith, length-append, inl, inr}
use Rattle.std.specs.Prelude.{bit_xor, nat_lt, if◌then◌else◌}
use Rattle.std.specs.Int.Bits.{xor_assoc, xor_self, xor_zero_r}
use Rattle.std.specs.Int.{w128, to_be_bytes}
use Rattle.std.specs.Str.{bytes_eq}
use Rattle.std.proofs.lemmas.List.{take_at, drop_at}
use Rattle.std.proofs.lemmas.Bool.{le-ltb, lt-ltb, cases_Bool}
use Rattle.std.proofs.lemmas.Slice.Eq.{bytes_eq-Decides}
use Rattle.aes128gcm.specs.Aes.{xor_with}
use Rattle.aes128gcm.specs.Gcm.{gctr, hash_input, hash_key, ghash, crypt, tag, gcm_ae, gcm_ad}
use Rattle.aes128gcm.specs.Laws.{OpensSealed, OpensWhereTagged, body, sent}
use Rattle.aes128gcm.proofs.Streams.{length-xor_with}

xor_twice : (a b : ℕ) → bit_xor (bit_xor a b) b ≡ a
xor_twice a b = xor_assoc a b b ∙ ap (bit_xor a) (xor_self b) ∙ xor_zero_r a

xor_with-twice : (xs ys : List ℕ) → xor_with (xor_with xs ys) ys ≡ xs
xor_with-twice [] ys = refl
xor_with-twice (x ∷ xs) [] = refl
xor_with-twice (x ∷ xs) (y ∷ ys) = rw (xor_twice x y, xor_with-twice xs ys) refl

crypt-twice : (key nonce text : List ℕ) → crypt key nonce (crypt key nonce text) ≡ text
unfolding crypt gctr
crypt-twice key nonce text = rw (length-xor_with text _) (xor_with-twice text _)

pub length-tag : (key nonce aad ct : List ℕ) → length (tag key nonce aad ct) ≡ 16
unfolding tag gctr
length-tag key nonce aad ct = length-xor_with (to_be_bytes w128 (ghash (hash_key key) (hash_input aad ct))) _

-- a whole input is opened by the test of its tag
opens_body : (key nonce aad sealed : List ℕ) → 16 ≤ length sealed
    → gcm_ad key nonce aad sealed ≡ (if bytes_eq (tag key nonce aad (body sealed)) (sent sealed) then Some (crypt key nonce (body sealed)) else None)
unfolding gcm_ad
opens_body key nonce aad sealed h =
    let long : nat_lt (length sealed) 16 ≡ false = le-ltb _ _ h in
    rw long refl

pub opens : (key nonce aad sealed : List ℕ) → 16 ≤ length sealed → tag key nonce aad (body sealed) ≡ sent sealed → gcm_ad key nonce aad sealed ≡ Some (crypt key nonce (body sealed))
opens key nonce aad sealed h e =
    let same : bytes_eq (tag key nonce aad (body sealed)) (sent sealed) ≡ true = (bytes_eq-Decides (tag key nonce aad (body sealed)) (sent sealed)).1 e in
    opens_body key nonce aad sealed h ∙ ap (λ b. if b then Some (crypt key nonce (body sealed)) else None) same

pub short : (key nonce aad sealed : List ℕ) → length sealed < 16 → gcm_ad key nonce aad sealed ≡ None
unfolding gcm_ad
short key nonce aad sealed h =
    let s : nat_lt (length sealed) 16 ≡ true = lt-ltb _ _ h in
    rw s refl

pub opens_sealed : OpensSealed
unfolding gcm_ae
opens_sealed key nonce aad pt =
    let ct : List ℕ = crypt key nonce pt in
    let t : List ℕ = tag key nonce aad (crypt key nonce pt) in
    let n = length-append (crypt key nonce pt) (tag key nonce aad (crypt key nonce pt)) in
    let k = length-tag key nonce aad (crypt key nonce pt) in
    let at : length (crypt key nonce pt ++ tag key nonce aad (crypt key nonce pt)) - 16 ≡ length (crypt key nonce pt) = omega arith in
    let long : 16 ≤ length (crypt key nonce pt ++ tag key nonce aad (crypt key nonce pt)) = omega arith in
    let front : body (crypt key nonce pt ++ tag key nonce aad (crypt key nonce pt)) ≡ crypt key nonce pt = rw at (take_at ct t (length ct) refl) in
    let back : sent (crypt key nonce pt ++ tag key nonce aad (crypt key nonce pt)) ≡ tag key nonce aad (crypt key nonce pt) = rw at (drop_at ct t (length ct) refl) in
    opens key nonce aad (ct ++ t) long (ap (tag key nonce aad) front ∙ sym back) ∙ ap (λ z. Some (crypt key nonce z)) front ∙ ap Some (crypt-twice key nonce pt)

differs : (key nonce aad sealed : List ℕ) → tag key nonce aad (body sealed) ≢ sent sealed → gcm_ad key nonce aad sealed ≡ None
unfolding gcm_ad
differs key nonce aad sealed apart =
    let other : bytes_eq (tag key nonce aad (body sealed)) (sent sealed) ≡ false
    = elim (cases_Bool (bytes_eq (tag key nonce aad (body sealed)) (sent sealed))) [
      | inl e ↦ absurd (apart ((bytes_eq-Decides (tag key nonce aad (body sealed)) (sent sealed)).0 e))
      | inr e ↦ e
    ] in
    elim (cases_Bool (nat_lt (length sealed) 16)) [
      | inl e ↦ rw e refl
      | inr e ↦ rw (e, other) refl
    ]

pub opens_where_tagged : OpensWhereTagged
opens_where_tagged = record { opens = opens; differs = differs; short = short }
