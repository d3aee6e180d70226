-- Laws of indexes.
use Rattle.std.proofs.Common.{◌≡◌, ℕ, suc, ◌-◌, ◌≤◌, false, List, ◌++◌, length, get_or, replicate, Option, None, refl, sym, ◌∙◌, ap, arith, inl, inr}
use Rattle.std.proofs.lemmas.Bool.{cases_Bool, cases_lt, true≢false}
use Rattle.std.proofs.lemmas.List.{get_or_past, get_or_append_left, get_or-append_right, get_or-replicate, length-replicate}
use Rattle.mls_leaf.specs.declared.node.Node.{Node}
use Rattle.mls_tree_index.specs.Keys.{key_of, key_in, repeats_in}
use Rattle.mls_tree_index.specs.Entries.{numbers_of}
use Rattle.mls_tree_index.specs.Indexes.{CanLeave, Listing, Indexes}
use Rattle.mls_tree_index.proofs.EntryLaws.{entries_alike}
use Rattle.mls_tree_index.proofs.EntryLists.{keyed_whole}
use Rattle.mls_tree_index.proofs.CountLaws.{none_blank, same_gathered}

-- an index is one of all cells with the same keys at each number: also with blank cells after them, and without
pub indexes_alike : (t : Listing) (b c : List (Option Node)) → ((x : ℕ) → key_in t.kind b x ≡ key_in t.kind c x) → Indexes b t → Indexes c t
indexes_alike t b c same is = record {
  entries = record {
    numbers = entries_alike (key_in t.kind b) (key_in t.kind c) same (numbers_of t.entries) is.entries.numbers;
    keyed = keyed_whole (key_in t.kind b) (key_in t.kind c) (λ x some. sym (same x)) t.entries is.entries.keyed;
  };
  repeats = is.repeats ∙ ap repeats_in (same_gathered _ (none_blank t.kind) b c same);
}

-- with blank cells after them
pub indexes_padded : (t : Listing) (c : List (Option Node)) (n : ℕ) → Indexes c t → Indexes (c ++ replicate n None) t
indexes_padded t c n = indexes_alike t c (c ++ replicate n None) (λ x. ap (key_of t.kind) (sym (padded x)))
  where
    blank : (i : ℕ) → get_or {A = Option Node} (replicate n None) i None ≡ None
    blank i = elim (cases_lt i n) [
      | inl lt ↦ get_or-replicate n i None None lt
      | inr ge ↦ let wide = length-replicate {A = Option Node} n None in get_or_past (replicate n None) i None (omega arith)
    ]

    padded : (x : ℕ) → get_or (c ++ replicate n None) x None ≡ get_or c x None
    padded x = elim (cases_lt x (length c)) [
      | inl lt ↦ get_or_append_left c (replicate n None) None x lt
      | inr ge ↦ get_or-append_right c (replicate n None) (length c) x None refl ge ∙ blank (x - length c) ∙ sym (get_or_past c x None ge)
    ]

-- where one of some cells left, there is room for the others
pub can_leave : (n : ℕ) (s t : Listing) → CanLeave (suc n) s → (s.shared ≡ false → t.shared ≡ false) → s.room ≤ suc t.room → CanLeave n t
can_leave n s t can own room on = elim (cases_Bool s.shared) [
  | inl was ↦ let enough = can was in omega arith
  | inr none ↦ absurd (true≢false (sym on ∙ own none))
]
