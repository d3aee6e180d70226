-- Laws of searches: the place that a block and an offset in it name is the gap for the entry of a key.
use Rattle.std.proofs.Common.{◌≡◌, ℕ, zero, suc, ◌-◌, ◌<◌, ◌≤◌, nat_eq, true, false, ◌&&◌, List, [], length, get_or, nat_lt, Option, is_some, sym, ◌∙◌, ap, arith, inl, inr, refl, add-one, lt-ltb, le-ltb}
use Rattle.std.proofs.lemmas.Bool.{cases_lt}
use mir.Val.{bool_byte}
use Rattle.std.specs.Option.{unwrap_or}
use Rattle.std.specs.Ordering.{is_lt}
use Rattle.mls_leaf.specs.declared.node.Node.{Node}
use Rattle.mls_tree_index.specs.declared.kind.KeyKind.{KeyKind}
use Rattle.mls_tree_index.specs.declared.entry.Entry.{Entry}
use Rattle.mls_tree_index.specs.Keys.{key_in, is_key, is_key_at}
use Rattle.mls_tree_index.specs.Order.{IsPart, entry_at, entry_cmp}
use Rattle.mls_tree_index.specs.Blocks.{AreBlocks, first_of, joined, place_in}
use Rattle.mls_tree_index.specs.Entries.{AreOrdered, BeginsWithBytes, blank_entry, front_of, fronted, front_cmp, numbers_of}
use Rattle.mls_tree_index.specs.Searches.{IsPlaceOf, IsLowBefore, IsHighAt, BeginsLow, EndsHigh, is_lower}
use Rattle.mls_tree_index.proofs.BlockLaws.{place_next, block_within, block_last, entry_in, blocks_full}
use Rattle.mls_tree_index.proofs.EntryLaws.{gap_between}
use Rattle.mls_tree_index.proofs.EntryLists.{length_numbers, number_at}
use Rattle.mls_tree_index.proofs.KeyFronts.{lower_by_key, of_by_key}

pub place_zero : (bs : List (List Entry)) (b o : ℕ) → b ≡ 0 → o ≡ 0 → place_in bs b o ≡ 0
place_zero bs b o first none =
    let start : place_in bs 0 o ≡ o = omega arith in
    ap (λ n. place_in bs n o) first ∙ start ∙ none

pub place_before : (bs : List (List Entry)) (b o : ℕ) → 0 < o → place_in bs b (o - 1) ≡ place_in bs b o - 1
place_before bs b o some = omega arith

-- of no number of the first block is it known that it comes before, and of one of each other block
pub known_first : (b n : ℕ) → n ≡ bool_byte (nat_lt 0 b) → b ≡ 0 → n ≡ 0
known_first b n is first = is ∙ ap bool_byte (le-ltb 0 b (omega arith))

pub known_other : (b n : ℕ) → n ≡ bool_byte (nat_lt 0 b) → 0 < b → n ≡ 1
known_other b n is other = is ∙ ap bool_byte (lt-ltb 0 b other)

pub known_within : (b n len : ℕ) → n ≡ bool_byte (nat_lt 0 b) → (0 < b → 0 < len) → n ≤ len
known_within b n len is full = elim (cases_lt 0 b) [
  | inl other ↦
      let one = known_other b n is other in
      let some = full other in
      omega arith
  | inr first ↦
      let none = known_first b n is (omega arith) in
      omega arith
]

-- what the entries of a list tell of keys, whose fronts they have
module _ (k : KeyKind) (cells : List (Option Node)) (at : ℕ → Option (List ℕ)) (part : IsPart at (key_in k cells)) (es : List Entry) (are : AreOrdered at es) (key : List ℕ) where
  abbrev nth : ℕ → Entry
  nth p = get_or es p blank_entry

  real : (p : ℕ) → p < length es → key_in k cells (nth p).number ≡ at (nth p).number
  real p lt = let own = are.keyed p blank_entry lt in part (nth p).number (ap is_some own.here)

  pub lower_at : BeginsWithBytes key → (e : Entry) → e.front ≡ front_of key → (p : ℕ) → p < length es → is_lower k cells key e (nth p) ≡ is_lt (entry_cmp (entry_at (key_in k cells) (get_or (numbers_of es) p 0)) (key, e.number))
  lower_at bytes e front p lt =
      ap (λ n. is_lt (front_cmp (fronted (key_in k cells) (nth p)) (n, (key, e.number)))) front
      ∙ ap (λ o. is_lt (front_cmp ((nth p).front, (unwrap_or o [], (nth p).number)) (front_of key, (key, e.number)))) (real p lt)
      ∙ lower_by_key at (nth p) (are.keyed p blank_entry lt) key bytes e.number
      ∙ ap (λ o. is_lt (entry_cmp (unwrap_or o [], (nth p).number) (key, e.number))) (sym (real p lt))
      ∙ ap (λ n. is_lt (entry_cmp (entry_at (key_in k cells) n) (key, e.number))) (sym (number_at es p blank_entry lt))

  -- whether the entry at a place is that of the key
  pub found_at : (p : ℕ) (own : Entry) → p < length es → nth p ≡ own → (nat_eq own.front (front_of key) && is_key key (key_in k cells own.number)) ≡ is_key_at k cells (numbers_of es) p key
  found_at p own lt is =
      let wide = length_numbers es in
      ap (λ (d : Entry). nat_eq d.front (front_of key) && is_key key (key_in k cells d.number)) (sym is)
      ∙ ap (λ o. nat_eq (nth p).front (front_of key) && is_key key o) (real p lt)
      ∙ of_by_key at (nth p) (are.keyed p blank_entry lt) key
      ∙ ap (is_key key) (sym (real p lt))
      ∙ ap (λ n. is_key key (key_in k cells n)) (sym (number_at es p blank_entry lt))
      ∙ sym (ap (λ v. v && is_key key (key_in k cells (get_or (numbers_of es) p 0))) (lt-ltb p (length (numbers_of es)) (omega arith)))

  pub none_at : (p : ℕ) → length es ≤ p → false ≡ is_key_at k cells (numbers_of es) p key
  none_at p past =
      let wide = length_numbers es in
      sym (ap (λ v. v && is_key key (key_in k cells (get_or (numbers_of es) p 0))) (le-ltb p (length (numbers_of es)) (omega arith)))

module _ (k : KeyKind) (cells : List (Option Node)) (key : List ℕ) (e : Entry) (bs : List (List Entry)) where
  low_in : (b o : ℕ) → b < length bs → o ≤ length (get_or bs b []) → 0 < o → is_lower k cells key e (get_or (get_or bs b []) (o - 1) blank_entry) ≡ true → is_lower k cells key e (get_or (joined bs) (place_in bs b o - 1) blank_entry) ≡ true
  low_in b o lt within some is =
      ap (λ n. is_lower k cells key e (get_or (joined bs) n blank_entry)) (sym (place_before bs b o some))
      ∙ ap (is_lower k cells key e) (entry_in bs b (o - 1) lt (omega arith))
      ∙ is

  low_before : (b o known : ℕ) → b < length bs → o ≤ length (get_or bs b []) → (b ≡ 0 → known ≡ 0) → (0 < b → known ≡ 1) → known ≤ o → BeginsLow k cells key e bs b → IsLowBefore k cells key e (get_or bs b []) known o → 0 < place_in bs b o → is_lower k cells key e (get_or (joined bs) (place_in bs b o - 1) blank_entry) ≡ true
  low_before zero o known lt within none one ge begins before some =
      let start : place_in bs 0 o ≡ o = omega arith in
      let first = none refl in
      low_in 0 o lt within (omega arith) (before (omega arith))
  low_before (suc b) o known lt within none one ge begins before some =
      let second = one (omega arith) in
      elim (cases_lt known o) [
        | inl more ↦ low_in (suc b) o lt within (omega arith) (before more)
        | inr few ↦
            let at : o - 1 ≡ 0 = omega arith in
            low_in (suc b) o lt within (omega arith) (ap (λ n. is_lower k cells key e (get_or (get_or bs (suc b) []) n blank_entry)) at ∙ begins (omega arith))
      ]

  high_at : AreBlocks bs → (b o : ℕ) → b < length bs → o ≤ length (get_or bs b []) → IsHighAt k cells key e (get_or bs b []) o → EndsHigh k cells key e bs b → place_in bs b o < length (joined bs) → is_lower k cells key e (get_or (joined bs) (place_in bs b o) blank_entry) ≡ false
  high_at are b o lt within high ends inside = elim (cases_lt o (length (get_or bs b []))) [
    | inl less ↦ ap (is_lower k cells key e) (entry_in bs b o lt less) ∙ high less
    | inr all ↦ elim (cases_lt (suc b) (length bs)) [
      | inl more ↦
          let one = add-one b in
          let next = place_next bs b 0 lt in
          let at : place_in bs b o ≡ place_in bs (suc b) 0 = omega arith in
          ap (λ n. is_lower k cells key e (get_or (joined bs) n blank_entry)) at
          ∙ ap (is_lower k cells key e) (entry_in bs (suc b) 0 more (blocks_full bs (suc b) are (omega arith) more))
          ∙ ap (λ n. is_lower k cells key e (first_of bs n)) (sym one)
          ∙ ends (omega arith)
      | inr few ↦
          let last = block_last bs b (omega arith) in
          absurd (omega arith)
    ]
  ]

  pub spot_gap : AreBlocks bs → BeginsWithBytes key → e.front ≡ front_of key → (b o known : ℕ) → b < length bs → o ≤ length (get_or bs b []) → (b ≡ 0 → known ≡ 0) → (0 < b → known ≡ 1) → known ≤ o → BeginsLow k cells key e bs b → IsLowBefore k cells key e (get_or bs b []) known o → IsHighAt k cells key e (get_or bs b []) o → EndsHigh k cells key e bs b → IsPlaceOf k (joined bs) cells key e.number (place_in bs b o)
  spot_gap are bytes front b o known lt within none one ge begins before high ends = λ at part es.
      let inside = block_within bs b lt in
      let wide = length_numbers (joined bs) in
      let lower = lower_at k cells at part (joined bs) es key bytes e front in
      gap_between at (key_in k cells) part (numbers_of (joined bs)) es.numbers (key, e.number) (place_in bs b o) (omega arith)
      (λ some. sym (lower (place_in bs b o - 1) (omega arith)) ∙ low_before b o known lt within none one ge begins before some)
      (λ less. sym (lower (place_in bs b o) (omega arith)) ∙ high_at are b o lt within high ends (omega arith))
