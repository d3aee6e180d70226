-- Entries that are compared.
use Rattle.std.proofs.Common.{◌≡◌, ℕ, Bool, true, false, not, List, refl, sym, ap, ◌∙◌, bytes_eq}
use Rattle.std.specs.Cmp.Lexicographic.{pointwise}
use Rattle.std.proofs.lemmas.Slice.Eq.{bytes_eq-Decides, slice_eq-Decides}
use Rattle.mls_model.specs.Journal.{Entry}

abbrev the_entry : List ℕ → List (List ℕ) → Entry
the_entry commit names = record { commit = commit; named_messages = names }

same_parts : (a b : Entry) → a.commit ≡ b.commit → a.named_messages ≡ b.named_messages → a ≡ b
same_parts a b c n = ap (λ (l : List ℕ). the_entry l a.named_messages) c ∙ ap (λ (l : List (List ℕ)). the_entry b.commit l) n

-- a test that says they don't differ
pub told_same : (same differ : Bool) → differ ≡ not same → differ ≡ false → same ≡ true
told_same true differ e f = refl
told_same false differ e f = absurd cc

-- the commits are the same, and what they name decides
pub entries_compared : (commit other : List ℕ) (names more : List (List ℕ)) (a b : Entry) (r : Bool) → the_entry commit names ≡ a → the_entry other more ≡ b → bytes_eq commit other ≡ true → r ≡ pointwise bytes_eq names more → (r ≡ true → a ≡ b) × (a ≡ b → r ≡ true)
entries_compared commit other names more a b r this that same named =
    let d = slice_eq-Decides bytes_eq-Decides names more r named in (
      λ t. sym this ∙ same_parts (the_entry commit names) (the_entry other more) ((bytes_eq-Decides commit other).0 same) (d.0 t) ∙ that,
      λ e. d.1 (ap (λ (x : Entry). x.named_messages) (this ∙ e ∙ sym that)),
    )
