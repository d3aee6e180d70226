-- The order of entries.
use Rattle.std.proofs.Common.{◌≡◌, ℕ, ◌==◌, Bool, true, false, cond, List, Option, None, Some, refl, sym, ◌∙◌, ap, arith, inl, inr, eqb-true, nat_lt, le-ltb}
use Rattle.std.proofs.lemmas.Bool.{true≢false, cases_Bool}
use Rattle.std.proofs.lemmas.Cmp.{then_total, on_total, nat_cmp_total, nat_list_cmp_total}
use Rattle.std.specs.Ordering.{nat_cmp, ordering_then, ordering_reverse, is_lt, is_eq, is_gt}
use Rattle.std.specs.declared.cmp.Ordering.{Ordering}
use Rattle.std.specs.declared.cmp.Ordering.TheVariants.{Less, Equal, Greater}
use Rattle.std.specs.Cmp.{IsTotalOrder, unsigned_ties}
use Rattle.std.specs.Cmp.Lexicographic.{slice_cmp, texts_ties, same_text}
use Rattle.mls_tree_index.specs.Keys.{is_key}
use Rattle.mls_tree_index.specs.Order.{entry_cmp}

pub entry_total : IsTotalOrder entry_cmp
entry_total = then_total (on_total (λ e. e.0) nat_list_cmp_total) (on_total (λ e. e.1) nat_cmp_total)

pub is_less : (r : Ordering) → is_lt r ≡ true → r ≡ Less
is_less Less h = refl
is_less Equal h = absurd (true≢false (sym h))
is_less Greater h = absurd (true≢false (sym h))

pub cmp_trans : (c d e : List ℕ × ℕ) → entry_cmp c d ≡ Less → entry_cmp d e ≡ Less → entry_cmp c e ≡ Less
cmp_trans c d e = entry_total.trans c d e

pub as_entries : (d e f g : List ℕ × ℕ) → d ≡ f → e ≡ g → entry_cmp f g ≡ Less → entry_cmp d e ≡ Less
as_entries d e f g one two h = ap (λ v. entry_cmp v e) one ∙ ap (λ v. entry_cmp f v) two ∙ h

-- ---- what is equal

no_less : (r : Ordering) → r ≡ ordering_reverse r → r ≡ Less → ⊥
no_less r e less = true≢false (sym (ap is_lt less) ∙ ap is_lt e ∙ ap (λ s. is_lt (ordering_reverse s)) less)

pub not_itself : (e : List ℕ × ℕ) → entry_cmp e e ≡ Less → ⊥
not_itself e less = no_less (entry_cmp e e) (entry_total.antisymm e e) less

then_equal : (r s : Ordering) → ordering_then r s ≡ Equal → s ≡ Equal
then_equal Less s h = absurd (true≢false (ap is_lt h))
then_equal Equal s h = h
then_equal Greater s h = absurd (true≢false (ap is_gt h))

same_number : (d e : List ℕ × ℕ) → entry_cmp d e ≡ Equal → d.1 ≡ e.1
same_number d e h = eqb-true d.1 e.1 (unsigned_ties d.1 e.1 ∙ ap is_eq (then_equal (slice_cmp nat_cmp d.0 e.0) (nat_cmp d.1 e.1) h))

reversed : (r s : Ordering) → s ≡ ordering_reverse r → is_lt r ≡ false → (r ≡ Equal → ⊥) → s ≡ Less
reversed Less s e h other = absurd (true≢false h)
reversed Equal s e h other = absurd (other refl)
reversed Greater s e h other = e

-- of two entries with other numbers one is below
pub is_above : (d e : List ℕ × ℕ) → is_lt (entry_cmp d e) ≡ false → (d.1 ≡ e.1 → ⊥) → entry_cmp e d ≡ Less
is_above d e h other = reversed (entry_cmp d e) (entry_cmp e d) (entry_total.antisymm e d) h (λ k. other (same_number d e k))

-- ---- the least entry with a key

not_less : (v : Bool) → is_lt (cond v Equal Greater) ≡ false
not_less true = refl
not_less false = refl

not_below_zero : (x : ℕ) → nat_cmp x 0 ≡ Less → ⊥
not_below_zero x h =
    let least : nat_lt x 0 ≡ false = le-ltb x 0 (omega arith) in
    true≢false (sym (ap is_lt h) ∙ ap (λ v. is_lt (cond v Less (cond (x == 0) Equal Greater))) least ∙ not_less (x == 0))

same_order : (r s : Ordering) → r ≡ ordering_reverse r → ordering_then r s ≡ Less → s ≡ Less
same_order Less s e h = absurd (no_less Less e refl)
same_order Equal s e h = h
same_order Greater s e h = absurd (true≢false (sym (ap is_lt h)))

pub none_below : (k : List ℕ) (x : ℕ) → entry_cmp (k, x) (k, 0) ≡ Less → ⊥
none_below k x h = not_below_zero x (same_order (slice_cmp nat_cmp k k) (nat_cmp x 0) (nat_list_cmp_total.antisymm k k) h)

between : (r s t : Ordering) → is_lt (ordering_then r s) ≡ false → ordering_then r t ≡ Less → r ≡ Equal
between Less s t h g = absurd (true≢false h)
between Equal s t h g = refl
between Greater s t h g = absurd (true≢false (sym (ap is_lt g)))

-- what is between two entries with one key has it
pub same_between : (l k : List ℕ) (y w x : ℕ) → is_lt (entry_cmp (l, y) (k, w)) ≡ false → entry_cmp (l, y) (k, x) ≡ Less → l ≡ k
same_between l k y w x h g =
    same_text l k (sym (texts_ties l k ∙ ap is_eq (between (slice_cmp nat_cmp l k) (nat_cmp y w) (nat_cmp y x) h g)))

-- of two entries, one above isn't below
pub not_both : (d e : List ℕ × ℕ) → entry_cmp d e ≡ Less → is_lt (entry_cmp e d) ≡ false
not_both d e less = elim (cases_Bool (is_lt (entry_cmp e d))) [
  | inl both ↦ absurd (not_itself d (cmp_trans d e d less (is_less (entry_cmp e d) both)))
  | inr apart ↦ apart
]

-- ---- a key that a test found

pub key_found : (k : List ℕ) (o : Option (List ℕ)) → is_key k o ≡ true → o ≡ Some k
key_found k None h = absurd (true≢false (sym h))
key_found k (Some l) h = ap Some (same_text l k (sym h))

pub key_missed : (k : List ℕ) (o : Option (List ℕ)) → is_key k o ≡ false → o ≡ Some k → ⊥
key_missed k o h is = true≢false (sym (texts_ties k k ∙ ap is_eq (same_cmp (slice_cmp nat_cmp k k) (nat_list_cmp_total.antisymm k k))) ∙ sym (ap (is_key k) is) ∙ h)
  where
    same_cmp : (r : Ordering) → r ≡ ordering_reverse r → r ≡ Equal
    same_cmp Less e = absurd (no_less Less e refl)
    same_cmp Equal e = refl
    same_cmp Greater e = absurd (no_less Less (sym e) refl)
