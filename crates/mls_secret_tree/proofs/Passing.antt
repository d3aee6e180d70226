-- Kept keys that are looked for, and generations that are passed over.
use Rattle.std.proofs.Common.{◌≡◌, ℕ, suc, ◌+◌, ◌-◌, ◌<◌, ◌≤◌, List, [], ◌∷◌, ◌++◌, length, get_or, drop, Some, None, refl, sym, ◌∙◌, arith, add-one, append_assoc, append-nil}
use Rattle.std.proofs.Math.Seq.{drop-cons}
use Rattle.std.proofs.lemmas.Bool.{cond-true, cond-false, eq-eqb, ne_eqb}
use Rattle.std.proofs.lemmas.List.{drop_all}
use Rattle.mls_secret_tree.specs.declared.secrets.MessageKey.{MessageKey}
use Rattle.mls_secret_tree.specs.declared.ratchet.KeptKey.{KeptKey}
use Rattle.mls_secret_tree.specs.Secrets.{message_key, next_ratchet_secret}
use Rattle.mls_secret_tree.specs.Ratchet.{find_key, kept_key, passed_keys, passed_secret}

-- ---- looking for a kept key

-- the key in front
pub find_here : (g : ℕ) (xs : List KeptKey) (i : ℕ) (d : KeptKey) → i < length xs → (get_or xs i d).generation ≡ g
    → find_key g (drop i xs) ≡ Some (get_or xs i d).key
unfolding find_key
find_here g xs i d h e = rw (drop-cons xs i d h) (cond-true _ _ _ (eq-eqb _ g e))

-- or behind it
pub find_behind : (g : ℕ) (xs : List KeptKey) (i : ℕ) (d : KeptKey) → i < length xs → ((get_or xs i d).generation ≡ g → ⊥)
    → find_key g (drop (i + 1) xs) ≡ find_key g (drop i xs)
unfolding find_key
find_behind g xs i d h ne = rw (drop-cons xs i d h, add-one) (sym (cond-false _ _ _ (ne_eqb _ g ne)))

-- or none
pub find_none : (g : ℕ) (xs : List KeptKey) (i : ℕ) → length xs ≤ i → find_key g (drop i xs) ≡ None
unfolding find_key
find_none g xs i h = rw (drop_all i xs h) refl

-- ---- passing over a generation

left_over : (g e : ℕ) → g < e → e - g ≡ suc (e - (g + 1))
left_over g e h = omega arith

pub keys_behind : (items new : List KeptKey) (s next : List ℕ) (g e : ℕ) (key : MessageKey) (all : List KeptKey) → g < e
    → new ≡ items ++ (record { generation = g; key = key }) ∷ [] → key ≡ message_key s g → next ≡ next_ratchet_secret s g
    → items ++ passed_keys s g (e - g) ≡ all → new ++ passed_keys next (g + 1) (e - (g + 1)) ≡ all
unfolding passed_keys kept_key
keys_behind items new s next g e key all h made is on rest =
    rw (made, is, on, append_assoc, add-one) (rw (left_over g e h, add-one) at rest)

pub secret_behind : (s next : List ℕ) (g e : ℕ) (last : List ℕ) → g < e → next ≡ next_ratchet_secret s g
    → passed_secret s g (e - g) ≡ last → passed_secret next (g + 1) (e - (g + 1)) ≡ last
unfolding passed_secret
secret_behind s next g e last h on rest = rw (on, add-one) (rw (left_over g e h, add-one) at rest)

nothing_left : (g e : ℕ) → e ≤ g → e - g ≡ 0
nothing_left g e h = omega arith

pub keys_end : (items : List KeptKey) (s : List ℕ) (g e : ℕ) (all : List KeptKey) → e ≤ g → items ++ passed_keys s g (e - g) ≡ all → items ≡ all
unfolding passed_keys
keys_end items s g e all h rest = sym (append-nil items) ∙ (rw (nothing_left g e h) at rest)

pub secret_end : (s : List ℕ) (g e : ℕ) (last : List ℕ) → e ≤ g → passed_secret s g (e - g) ≡ last → s ≡ last
unfolding passed_secret
secret_end s g e last h rest = rw (nothing_left g e h) at rest
