-- The bytes of a number of four words, and decoding after encoding.
use Rattle.std.specs.Int.{byte_worth, byte_at, sum_through, bytes_low_first}
use Rattle.std.specs.Prelude.{zero, length, slice_index, ◌≡◌, ℕ, suc, ◌+◌, ◌*◌, ◌/◌, ◌%◌, ◌^◌, ◌<◌, ◌≤◌, List, [], ◌∷◌, refl}
use Rattle.std.proofs.Common.{sym, ap, ap₂, ◌∙◌, subst, add-zero, zero-add, add_assoc, mul_assoc, mul_comm, mul-add, mul-suc, arith}
use Rattle.std.proofs.Math.Nat.{pow-suc, div-div-eq-div-mul, add-mul-div_left, div-eq_of_lt, mul-le-mul_left}
use Rattle.field25519.specs.Bytes.{joined_words, encode, decode_little, AreBytes}

-- ---- bytes

byte_0 : (a b c d : ℕ) → a % 256 ≡ joined_words a b c d % 256
byte_0 a b c d = omega arith

byte_1 : (a b c d : ℕ) → a / 256 ^ 1 % 256 ≡ joined_words a b c d / 256 ^ 1 % 256
byte_1 a b c d = omega arith

byte_2 : (a b c d : ℕ) → a / 256 ^ 2 % 256 ≡ joined_words a b c d / 256 ^ 2 % 256
byte_2 a b c d = omega arith

byte_3 : (a b c d : ℕ) → a / 256 ^ 3 % 256 ≡ joined_words a b c d / 256 ^ 3 % 256
byte_3 a b c d = omega arith

byte_4 : (a b c d : ℕ) → a / 256 ^ 4 % 256 ≡ joined_words a b c d / 256 ^ 4 % 256
byte_4 a b c d = omega arith

byte_5 : (a b c d : ℕ) → a / 256 ^ 5 % 256 ≡ joined_words a b c d / 256 ^ 5 % 256
byte_5 a b c d = omega arith

byte_6 : (a b c d : ℕ) → a / 256 ^ 6 % 256 ≡ joined_words a b c d / 256 ^ 6 % 256
byte_6 a b c d = omega arith

byte_7 : (a b c d : ℕ) → a / 256 ^ 7 % 256 ≡ joined_words a b c d / 256 ^ 7 % 256
byte_7 a b c d = omega arith

byte_8 : (a b c d : ℕ) → a < 2 ^ 64 → b % 256 ≡ joined_words a b c d / 256 ^ 8 % 256
byte_8 a b c d la = omega arith

byte_9 : (a b c d : ℕ) → a < 2 ^ 64 → b / 256 ^ 1 % 256 ≡ joined_words a b c d / 256 ^ 9 % 256
byte_9 a b c d la = omega arith

byte_10 : (a b c d : ℕ) → a < 2 ^ 64 → b / 256 ^ 2 % 256 ≡ joined_words a b c d / 256 ^ 10 % 256
byte_10 a b c d la = omega arith

byte_11 : (a b c d : ℕ) → a < 2 ^ 64 → b / 256 ^ 3 % 256 ≡ joined_words a b c d / 256 ^ 11 % 256
byte_11 a b c d la = omega arith

byte_12 : (a b c d : ℕ) → a < 2 ^ 64 → b / 256 ^ 4 % 256 ≡ joined_words a b c d / 256 ^ 12 % 256
byte_12 a b c d la = omega arith

byte_13 : (a b c d : ℕ) → a < 2 ^ 64 → b / 256 ^ 5 % 256 ≡ joined_words a b c d / 256 ^ 13 % 256
byte_13 a b c d la = omega arith

byte_14 : (a b c d : ℕ) → a < 2 ^ 64 → b / 256 ^ 6 % 256 ≡ joined_words a b c d / 256 ^ 14 % 256
byte_14 a b c d la = omega arith

byte_15 : (a b c d : ℕ) → a < 2 ^ 64 → b / 256 ^ 7 % 256 ≡ joined_words a b c d / 256 ^ 15 % 256
byte_15 a b c d la = omega arith

byte_16 : (a b c d : ℕ) → a < 2 ^ 64 → b < 2 ^ 64 → c % 256 ≡ joined_words a b c d / 256 ^ 16 % 256
byte_16 a b c d la lb = omega arith

byte_17 : (a b c d : ℕ) → a < 2 ^ 64 → b < 2 ^ 64 → c / 256 ^ 1 % 256 ≡ joined_words a b c d / 256 ^ 17 % 256
byte_17 a b c d la lb = omega arith

byte_18 : (a b c d : ℕ) → a < 2 ^ 64 → b < 2 ^ 64 → c / 256 ^ 2 % 256 ≡ joined_words a b c d / 256 ^ 18 % 256
byte_18 a b c d la lb = omega arith

byte_19 : (a b c d : ℕ) → a < 2 ^ 64 → b < 2 ^ 64 → c / 256 ^ 3 % 256 ≡ joined_words a b c d / 256 ^ 19 % 256
byte_19 a b c d la lb = omega arith

byte_20 : (a b c d : ℕ) → a < 2 ^ 64 → b < 2 ^ 64 → c / 256 ^ 4 % 256 ≡ joined_words a b c d / 256 ^ 20 % 256
byte_20 a b c d la lb = omega arith

byte_21 : (a b c d : ℕ) → a < 2 ^ 64 → b < 2 ^ 64 → c / 256 ^ 5 % 256 ≡ joined_words a b c d / 256 ^ 21 % 256
byte_21 a b c d la lb = omega arith

byte_22 : (a b c d : ℕ) → a < 2 ^ 64 → b < 2 ^ 64 → c / 256 ^ 6 % 256 ≡ joined_words a b c d / 256 ^ 22 % 256
byte_22 a b c d la lb = omega arith

byte_23 : (a b c d : ℕ) → a < 2 ^ 64 → b < 2 ^ 64 → c / 256 ^ 7 % 256 ≡ joined_words a b c d / 256 ^ 23 % 256
byte_23 a b c d la lb = omega arith

byte_24 : (a b c d : ℕ) → a < 2 ^ 64 → b < 2 ^ 64 → c < 2 ^ 64 → d % 256 ≡ joined_words a b c d / 256 ^ 24 % 256
byte_24 a b c d la lb lc = omega arith

byte_25 : (a b c d : ℕ) → a < 2 ^ 64 → b < 2 ^ 64 → c < 2 ^ 64 → d / 256 ^ 1 % 256 ≡ joined_words a b c d / 256 ^ 25 % 256
byte_25 a b c d la lb lc = omega arith

byte_26 : (a b c d : ℕ) → a < 2 ^ 64 → b < 2 ^ 64 → c < 2 ^ 64 → d / 256 ^ 2 % 256 ≡ joined_words a b c d / 256 ^ 26 % 256
byte_26 a b c d la lb lc = omega arith

byte_27 : (a b c d : ℕ) → a < 2 ^ 64 → b < 2 ^ 64 → c < 2 ^ 64 → d / 256 ^ 3 % 256 ≡ joined_words a b c d / 256 ^ 27 % 256
byte_27 a b c d la lb lc = omega arith

byte_28 : (a b c d : ℕ) → a < 2 ^ 64 → b < 2 ^ 64 → c < 2 ^ 64 → d / 256 ^ 4 % 256 ≡ joined_words a b c d / 256 ^ 28 % 256
byte_28 a b c d la lb lc = omega arith

byte_29 : (a b c d : ℕ) → a < 2 ^ 64 → b < 2 ^ 64 → c < 2 ^ 64 → d / 256 ^ 5 % 256 ≡ joined_words a b c d / 256 ^ 29 % 256
byte_29 a b c d la lb lc = omega arith

byte_30 : (a b c d : ℕ) → a < 2 ^ 64 → b < 2 ^ 64 → c < 2 ^ 64 → d / 256 ^ 6 % 256 ≡ joined_words a b c d / 256 ^ 30 % 256
byte_30 a b c d la lb lc = omega arith

byte_31 : (a b c d : ℕ) → a < 2 ^ 64 → b < 2 ^ 64 → c < 2 ^ 64 → d / 256 ^ 7 % 256 ≡ joined_words a b c d / 256 ^ 31 % 256
byte_31 a b c d la lb lc = omega arith

abbrev pub bytes_of : ℕ → ℕ → ℕ → ℕ → List ℕ
bytes_of a b c d =
    (a % 256) ∷ (a / 256 ^ 1 % 256) ∷ (a / 256 ^ 2 % 256) ∷ (a / 256 ^ 3 % 256) ∷ (a / 256 ^ 4 % 256) ∷ (a / 256 ^ 5 % 256) ∷ (a / 256 ^ 6 % 256) ∷ (a / 256 ^ 7 % 256) ∷ (b % 256) ∷ (b / 256 ^ 1 % 256) ∷ (b / 256 ^ 2 % 256) ∷ (b / 256 ^ 3 % 256) ∷ (b / 256 ^ 4 % 256) ∷ (b / 256 ^ 5 % 256) ∷ (b / 256 ^ 6 % 256) ∷ (b / 256 ^ 7 % 256) ∷ (c % 256) ∷ (c / 256 ^ 1 % 256) ∷ (c / 256 ^ 2 % 256) ∷ (c / 256 ^ 3 % 256) ∷ (c / 256 ^ 4 % 256) ∷ (c / 256 ^ 5 % 256) ∷ (c / 256 ^ 6 % 256) ∷ (c / 256 ^ 7 % 256) ∷ (d % 256) ∷ (d / 256 ^ 1 % 256) ∷ (d / 256 ^ 2 % 256) ∷ (d / 256 ^ 3 % 256) ∷ (d / 256 ^ 4 % 256) ∷ (d / 256 ^ 5 % 256) ∷ (d / 256 ^ 6 % 256) ∷ (d / 256 ^ 7 % 256) ∷ []

pub encoded : (a b c d : ℕ) → a < 2 ^ 64 → b < 2 ^ 64 → c < 2 ^ 64 → bytes_of a b c d ≡ encode (joined_words a b c d)
encoded a b c d la lb lc =
    cons (byte_0 a b c d) (cons (byte_1 a b c d) (cons (byte_2 a b c d) (cons (byte_3 a b c d) (cons (byte_4 a b c d) (cons (byte_5 a b c d) (cons (byte_6 a b c d) (cons (byte_7 a b c d) (cons (byte_8 a b c d la) (cons (byte_9 a b c d la) (cons (byte_10 a b c d la) (cons (byte_11 a b c d la) (cons (byte_12 a b c d la) (cons (byte_13 a b c d la) (cons (byte_14 a b c d la) (cons (byte_15 a b c d la) (cons (byte_16 a b c d la lb) (cons (byte_17 a b c d la lb) (cons (byte_18 a b c d la lb) (cons (byte_19 a b c d la lb) (cons (byte_20 a b c d la lb) (cons (byte_21 a b c d la lb) (cons (byte_22 a b c d la lb) (cons (byte_23 a b c d la lb) (cons (byte_24 a b c d la lb lc) (cons (byte_25 a b c d la lb lc) (cons (byte_26 a b c d la lb lc) (cons (byte_27 a b c d la lb lc) (cons (byte_28 a b c d la lb lc) (cons (byte_29 a b c d la lb lc) (cons (byte_30 a b c d la lb lc) (cons (byte_31 a b c d la lb lc) refl)))))))))))))))))))))))))))))))
  where
    cons : {x y : ℕ} {xs ys : List ℕ} → x ≡ y → xs ≡ ys → x ∷ xs ≡ y ∷ ys
    cons e es = ap₂ (λ z zs. z ∷ zs) e es

-- ---- decoding after encoding

low_part : (n k : ℕ) → sum_through (λ i. byte_worth i (byte_at i n)) k + 256 ^ suc k * (n / 256 ^ suc k) ≡ n
low_part n zero = omega arith
low_part n (suc k) = step (sum_through (λ i. byte_worth i (byte_at i n)) k) (n / 256 ^ suc k) (256 ^ suc k) (low_part n k)
    (pow-suc 256 (suc k)) (ap (λ x. n / x) (pow-suc 256 (suc k)) ∙ sym (div-div-eq-div-mul n (256 ^ suc k) 256))
  where
    whole : (q : ℕ) → q % 256 + 256 * (q / 256) ≡ q
    whole q = omega arith

    join : (a b c : ℕ) → a + b + c ≡ a + (b + c)
    join a b c = omega arith

    step : (s q x : ℕ) {y z : ℕ} → s + x * q ≡ n → y ≡ x * 256 → z ≡ q / 256 → s + q % 256 * x + y * z ≡ n
    step s q x {y} {z} e ey ez =
        ap₂ (λ u v. s + q % 256 * x + u * v) ey ez ∙ ap (λ u. s + u + x * 256 * (q / 256)) (mul_comm (q % 256) x) ∙ ap (λ u. s + x * (q % 256) + u) (mul_assoc x 256 (q / 256))
        ∙ join s (x * (q % 256)) (x * (256 * (q / 256))) ∙ ap (λ u. s + u) (sym (mul-add x (q % 256) (256 * (q / 256))) ∙ ap (λ u. x * u) (whole q)) ∙ e

pub decode_little-encode : (n : ℕ) → n < 2 ^ 256 → decode_little (encode n) ≡ n
decode_little-encode n low = small (decode_little (encode n)) (low_part n 31)
  where
    small : (s : ℕ) → s + 2 ^ 256 * (n / 2 ^ 256) ≡ n → s ≡ n
    small s e = omega (arith, e, low)

-- ---- encoding undoes decoding

abbrev value : List ℕ → ℕ
value [] = 0
value (x ∷ xs) = x + 256 * value xs

first : (f : ℕ → ℕ) (k : ℕ) → sum_through f (suc k) ≡ f 0 + sum_through (λ i. f (suc i)) k
first f zero = refl
first f (suc k) = ap (λ s. s + f (suc (suc k))) (first f k) ∙ add_assoc (f 0) (sum_through (λ i. f (suc i)) k) (f (suc (suc k)))

shifted : (f g : ℕ → ℕ) → ((i : ℕ) → f i ≡ 256 * g i) → (k : ℕ) → sum_through f k ≡ 256 * sum_through g k
shifted f g h zero = h 0
shifted f g h (suc k) = ap₂ ◌+◌ (shifted f g h k) (h (suc k)) ∙ sym (mul-add 256 (sum_through g k) (g (suc k)))

worth-suc : (i b : ℕ) → byte_worth (suc i) b ≡ 256 * byte_worth i b
worth-suc zero b = mul_comm b 256
worth-suc (suc i) b = ap (λ x. b * x) (pow-suc 256 (suc i)) ∙ sym (mul_assoc b (256 ^ suc i) 256) ∙ mul_comm (b * 256 ^ suc i) 256

summed : (k : ℕ) (xs : List ℕ) → length xs ≡ suc k → sum_through (λ i. byte_worth i (slice_index xs i)) k ≡ value xs
summed zero [] e = absurd (omega (arith, e))
summed zero (x ∷ []) e = sym (add-zero x)
summed zero (x ∷ y ∷ ys) e = absurd (omega (arith, e))
summed (suc k) [] e = absurd (omega (arith, e))
summed (suc k) (x ∷ xs) e =
    first (λ i. byte_worth i (slice_index (x ∷ xs) i)) k
    ∙ ap (λ s. x + s) (shifted (λ i. byte_worth (suc i) (slice_index xs i)) (λ i. byte_worth i (slice_index xs i)) (λ i. worth-suc i (slice_index xs i)) k
    ∙ ap (λ s. 256 * s) (summed k xs (omega (arith, e))))

value_below : (xs : List ℕ) → AreBytes xs → value xs < 256 ^ length xs
value_below [] h = omega arith
value_below (x ∷ xs) h = subst (λ t. x + 256 * value xs < t) (sym (pow-suc 256 (length xs))) (wide x (value xs) (256 ^ length xs) (h 0) (value_below xs (λ k. h (suc k))))
  where
    wide : (x v n : ℕ) → x < 256 → v < n → x + 256 * v < n * 256
    wide x v n l m = omega arith

byte_is : (i n : ℕ) → byte_at i n ≡ n / 256 ^ i % 256
byte_is zero n = omega arith
byte_is (suc i) n = refl

listed : (i p : ℕ) (xs : List ℕ) → AreBytes xs → p < 256 ^ i → bytes_low_first i (length xs) (p + 256 ^ i * value xs) ≡ xs
listed i p [] h l = refl
listed i p (x ∷ xs) h l =
    ap₂ ◌∷◌ head (ap (bytes_low_first (suc i) (length xs)) regroup ∙ listed (suc i) (p + 256 ^ i * x) xs (λ k. h (suc k)) bound)
  where
    pos : (p n : ℕ) → p < n → 0 < n
    pos p n l = omega arith

    low : (x v : ℕ) → x < 256 → (x + 256 * v) % 256 ≡ x
    low x v l = omega arith

    head : byte_at i (p + 256 ^ i * (x + 256 * value xs)) ≡ x
    head =
        byte_is i (p + 256 ^ i * (x + 256 * value xs))
        ∙ ap (λ m. m % 256) (add-mul-div_left p (x + 256 * value xs) (pos p (256 ^ i) l) ∙ ap (λ t. t + (x + 256 * value xs)) (div-eq_of_lt l) ∙ zero-add (x + 256 * value xs))
        ∙ low x (value xs) (h 0)

    regroup : p + 256 ^ i * (x + 256 * value xs) ≡ p + 256 ^ i * x + 256 ^ suc i * value xs
    regroup =
        ap (λ t. p + t) (mul-add (256 ^ i) x (256 * value xs)) ∙ sym (add_assoc p (256 ^ i * x) (256 ^ i * (256 * value xs)))
        ∙ ap (λ t. p + 256 ^ i * x + t) (sym (mul_assoc (256 ^ i) 256 (value xs)) ∙ ap (λ t. t * value xs) (sym (pow-suc 256 i)))

    sum : (p n x : ℕ) → p < n → n * suc x ≤ n * 256 → p + n * x < n * 256
    sum p n x l m = omega (arith, l, subst (λ t. t ≤ n * 256) (mul-suc n x) m)

    bound : p + 256 ^ i * x < 256 ^ suc i
    bound = subst (λ t. p + 256 ^ i * x < t) (sym (pow-suc 256 i)) (sum p (256 ^ i) x l (mul-le-mul_left (256 ^ i) (h 0)))

pub decoded_below : (b : List ℕ) → length b ≡ 32 → AreBytes b → decode_little b < 2 ^ 256
decoded_below b e h = subst (λ n. n < 2 ^ 256) (sym (summed 31 b e)) (subst (λ k. value b < 256 ^ k) e (value_below b h))

pub encode-decode_little : (b : List ℕ) → length b ≡ 32 → AreBytes b → encode (decode_little b) ≡ b
encode-decode_little b e h =
    ap encode (summed 31 b e) ∙ subst (λ k. bytes_low_first 0 k (value b) ≡ b) e (ap (bytes_low_first 0 (length b)) (form (value b)) ∙ listed 0 0 b h (omega arith))
  where
    form : (v : ℕ) → v ≡ 0 + 1 * v
    form v = omega arith
