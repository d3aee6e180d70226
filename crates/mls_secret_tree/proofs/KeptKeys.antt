-- Kept keys by their generation: among some of them, behind others, and among those that are passed over.
use Rattle.std.proofs.Common.{◌≡◌, ℕ, zero, suc, ◌+◌, ◌<◌, ◌≤◌, Bool, true, false, cond, inl, inr, List, [], ◌∷◌, ◌++◌, Option, Some, None, refl, sym, ap, ◌∙◌, arith}
use Rattle.std.specs.List.{filter}
use Rattle.std.proofs.lemmas.Bool.{cond-true, cond-false, eq-eqb, ne_eqb, cases_eq}
use Rattle.mls_secret_tree.specs.declared.secrets.MessageKey.{MessageKey}
use Rattle.mls_secret_tree.specs.declared.ratchet.KeptKey.{KeptKey}
use Rattle.mls_secret_tree.specs.Secrets.{message_key, next_ratchet_secret, ratchet_secret}
use Rattle.mls_secret_tree.specs.Ratchet.{find_key, kept_key, passed_keys, passed_secret}

-- ---- one key in front

pub find_first : (g : ℕ) (k : KeptKey) (ks : List KeptKey) → k.generation ≡ g → find_key g (k ∷ ks) ≡ Some k.key
unfolding find_key
find_first g k ks e = cond-true _ _ _ (eq-eqb k.generation g e)

pub find_later : (g : ℕ) (k : KeptKey) (ks : List KeptKey) → (k.generation ≡ g → ⊥) → find_key g (k ∷ ks) ≡ find_key g ks
unfolding find_key
find_later g k ks ne = cond-false _ _ _ (ne_eqb k.generation g ne)

-- ---- some keys, by a test of their generations

abbrev pub kept_if : (ℕ → Bool) → List KeptKey → List KeptKey
kept_if q ks = filter (λ k. q k.generation) ks

later_if : (q : ℕ → Bool) (g : ℕ) (k : KeptKey) (ks : List KeptKey) (b : Bool) → (k.generation ≡ g → ⊥)
    → find_key g (cond b (k ∷ kept_if q ks) (kept_if q ks)) ≡ find_key g (kept_if q ks)
later_if q g k ks true ne = find_later g k (kept_if q ks) ne
later_if q g k ks false ne = refl

pub find_if : (q : ℕ → Bool) (g : ℕ) (ks : List KeptKey) → q g ≡ true → find_key g (kept_if q ks) ≡ find_key g ks
find_if q g [] held = refl
find_if q g (k ∷ ks) held = elim (cases_eq k.generation g) [
  | inl e ↦
      ap (find_key g) (cond-true (q k.generation) (k ∷ kept_if q ks) (kept_if q ks) (ap q e ∙ held))
      ∙ find_first g k (kept_if q ks) e ∙ sym (find_first g k ks e)
  | inr ne ↦ later_if q g k ks (q k.generation) ne ∙ find_if q g ks held ∙ sym (find_later g k ks ne)
]

pub find_not : (q : ℕ → Bool) (g : ℕ) (ks : List KeptKey) → q g ≡ false → find_key g (kept_if q ks) ≡ None
unfolding find_key
find_not q g [] lost = refl
find_not q g (k ∷ ks) lost = elim (cases_eq k.generation g) [
  | inl e ↦ ap (find_key g) (cond-false (q k.generation) (k ∷ kept_if q ks) (kept_if q ks) (ap q e ∙ lost)) ∙ find_not q g ks lost
  | inr ne ↦ later_if q g k ks (q k.generation) ne ∙ find_not q g ks lost
]

-- ---- keys behind others

abbrev pub or_else : Option MessageKey → Option MessageKey → Option MessageKey
or_else (Some k) o = Some k
or_else None o = o

pub find_append : (g : ℕ) (xs ys : List KeptKey) → find_key g (xs ++ ys) ≡ or_else (find_key g xs) (find_key g ys)
unfolding find_key
find_append g [] ys = refl
find_append g (k ∷ xs) ys = elim (cases_eq k.generation g) [
  | inl e ↦ find_first g k (xs ++ ys) e ∙ ap (λ o. or_else o (find_key g ys)) (sym (find_first g k xs e))
  | inr ne ↦ find_later g k (xs ++ ys) ne ∙ find_append g xs ys ∙ ap (λ o. or_else o (find_key g ys)) (sym (find_later g k xs ne))
]

-- ---- generations that are passed over

pub passed_before : (s : List ℕ) (from n g : ℕ) → g < from → find_key g (passed_keys s from n) ≡ None
unfolding find_key passed_keys kept_key
passed_before s from zero g h = refl
passed_before s from (suc n) g h =
    find_later g (kept_key s from) (passed_keys (next_ratchet_secret s from) (suc from) n) (λ (e : from ≡ g). absurd (omega arith))
    ∙ passed_before (next_ratchet_secret s from) (suc from) n g (omega arith)

pub passed_after : (s : List ℕ) (from n g : ℕ) → from + n ≤ g → find_key g (passed_keys s from n) ≡ None
unfolding find_key passed_keys kept_key
passed_after s from zero g h = refl
passed_after s from (suc n) g h =
    find_later g (kept_key s from) (passed_keys (next_ratchet_secret s from) (suc from) n) (λ (e : from ≡ g). absurd (omega arith))
    ∙ passed_after (next_ratchet_secret s from) (suc from) n g (omega arith)

next_of : (first s : List ℕ) (from : ℕ) → s ≡ ratchet_secret first from → next_ratchet_secret s from ≡ ratchet_secret first (suc from)
unfolding ratchet_secret
next_of first s from e = ap (λ z. next_ratchet_secret z from) e

pub passed_within : (first s : List ℕ) (from n g : ℕ) → s ≡ ratchet_secret first from → from ≤ g → g < from + n
    → find_key g (passed_keys s from n) ≡ Some (message_key (ratchet_secret first g) g)
unfolding passed_keys kept_key
passed_within first s from zero g is low high = absurd (omega arith)
passed_within first s from (suc n) g is low high = elim (cases_eq from g) [
  | inl e ↦
      find_first g (kept_key s from) (passed_keys (next_ratchet_secret s from) (suc from) n) e
      ∙ ap (λ z. Some (message_key z from)) is ∙ ap (λ m. Some (message_key (ratchet_secret first m) m)) e
  | inr ne ↦
      find_later g (kept_key s from) (passed_keys (next_ratchet_secret s from) (suc from) n) ne
      ∙ passed_within first (next_ratchet_secret s from) (suc from) n g (next_of first s from is) (omega (arith, ne)) (omega arith)
]

pub passed_last : (first s : List ℕ) (from n : ℕ) → s ≡ ratchet_secret first from → passed_secret s from n ≡ ratchet_secret first (from + n)
unfolding passed_secret
passed_last first s from zero is = let z : from + 0 ≡ from = omega arith in is ∙ ap (ratchet_secret first) (sym z)
passed_last first s from (suc n) is =
    let z : suc from + n ≡ from + suc n = omega arith in
    passed_last first (next_ratchet_secret s from) (suc from) n (next_of first s from is) ∙ ap (ratchet_secret first) z
