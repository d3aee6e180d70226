-- Laws of entries that are sorted, and of an index that is built of them.
use Rattle.std.proofs.Common.{◌≡◌, ℕ, zero, suc, ◌+◌, ◌-◌, ◌<◌, ◌≤◌, nat_eq, nat_lt, Bool, true, false, ◌&&◌, cond, List, [], ◌∷◌, ◌++◌, length, get_or, take, drop, Option, Some, None, is_some, refl, sym, ◌∙◌, ap, subst, arith, inl, inr, eq-eqb, ne_eqb, ltb-true, lt-ltb, le-ltb}
use Rattle.std.proofs.lemmas.Bool.{and_parts, cases_Bool, cases_lt, cases_eq}
use Rattle.std.proofs.lemmas.List.{get_or_past, get_or-take, length-take, map-append, take-map, take_all, take_more, drop_more, drop_all}
use Rattle.std.proofs.lemmas.List.Edits.{insert_end}
use Rattle.std.proofs.lemmas.List.Elements.{All-nil, All-push}
use Rattle.std.proofs.lemmas.List.MinMax.{ranks_by}
use Rattle.std.proofs.lemmas.List.Sorted.{sum_by-IsPermutation, IsPermutation-map, All-permutation, sorted_far}
use Rattle.std.proofs.lemmas.List.Sums.{sum_by-cons}
use Rattle.std.specs.List.{All, sum_by, insert}
use Rattle.std.specs.List.Sorted.{IsPermutation, IsSortedBy}
use Rattle.std.specs.Cmp.Lexicographic.{pointwise}
use Rattle.std.specs.Option.{unwrap_or}
use Rattle.std.specs.Ordering.{is_lt}
use mir.Val.{bool_byte}
use Rattle.mls_leaf.specs.declared.node.Node.{Node}
use Rattle.mls_tree_model.specs.Sets.{has, count, is_distinct}
use Rattle.mls_tree_model.proofs.CountLaws.{count-append, count_none, distinct_from}
use Rattle.mls_tree_index.specs.declared.entry.Entry.{Entry}
use Rattle.mls_tree_index.specs.declared.kind.KeyKind.{KeyKind}
use Rattle.mls_tree_index.specs.Keys.{key_of, key_in, keys_of, repeats_in, is_key, is_key_at, is_held}
use Rattle.mls_tree_index.specs.Order.{Entries, IsGap, entry_at, entry_cmp}
use Rattle.mls_tree_index.specs.Indexes.{Listing, Indexes, Without}
use Rattle.mls_tree_index.specs.Entries.{numbers_of, IsEntry, AreEntries, AreOrdered, EntriesAscend, fronted, front_cmp, key_at, is_again}
use Rattle.mls_tree_index.specs.BlankedCells.{cells_without}
use Rattle.mls_tree_index.proofs.KeyFronts.{front_total, entry_below, other_keys}
use Rattle.mls_tree_index.proofs.CountLaws.{none_blank}
use Rattle.mls_tree_index.proofs.EntryLists.{length_numbers, number_at}
use Rattle.mls_tree_index.proofs.StepLaws.{held_here, held_not_beside, indexes_from, same_index, entered, one_held, none_held}
use Rattle.mls_tree_index.proofs.FrontLaws.{none_indexed}
use Rattle.mls_tree_index.proofs.ClearedLaws.{key_cleared, key_left, cleared_part, cleared_none, rest_distinct, back_without}

-- ---- how often a list has a number

count_cons : (x y : ℕ) (ys : List ℕ) → count nat_eq x (y ∷ ys) ≡ cond (nat_eq y x) 1 0 + count nat_eq x ys
unfolding count
count_cons x y ys = refl

count_nil : (x : ℕ) → count nat_eq x [] ≡ 0
unfolding count
count_nil x = refl

-- 1 for each that is the same
hit : ℕ → ℕ → ℕ
hit x y = cond (nat_eq y x) 1 0

count_sum : (x : ℕ) (ys : List ℕ) → count nat_eq x ys ≡ sum_by (hit x) ys
unfolding count hit
count_sum x [] = refl
count_sum x (y ∷ ys) = ap (λ n. cond (nat_eq y x) 1 0 + n) (count_sum x ys) ∙ sym (sum_by-cons (hit x) y ys)

-- it doesn't depend on the order
count_moved : (x : ℕ) (xs ys : List ℕ) → IsPermutation xs ys → count nat_eq x ys ≡ count nat_eq x xs
count_moved x xs ys moved = count_sum x ys ∙ sum_by-IsPermutation (hit x) xs ys moved ∙ sym (count_sum x xs)

count_first : (x y : ℕ) (ys : List ℕ) → y ≡ x → count nat_eq x (y ∷ ys) ≡ 1 + count nat_eq x ys
count_first x y ys same = count_cons x y ys ∙ ap (λ v. cond v 1 0 + count nat_eq x ys) (eq-eqb y x same)

count_later : (x y : ℕ) (ys : List ℕ) → (y ≡ x → ⊥) → count nat_eq x (y ∷ ys) ≡ count nat_eq x ys
count_later x y ys other = count_cons x y ys ∙ ap (λ v. cond v 1 0 + count nat_eq x ys) (ne_eqb y x other) ∙ plain (count nat_eq x ys)
  where
    plain : (n : ℕ) → 0 + n ≡ n
    plain n = omega arith

count_grows : (x y : ℕ) (ys : List ℕ) → count nat_eq x ys ≤ count nat_eq x (y ∷ ys)
count_grows x y ys = elim (cases_eq y x) [
  | inl same ↦ let one = count_first x y ys same in omega arith
  | inr other ↦ let none = count_later x y ys other in omega arith
]

counted_there : (ns : List ℕ) (x j : ℕ) → j < length ns → get_or ns j 0 ≡ x → 1 ≤ count nat_eq x ns
counted_there [] x j lt is = absurd (omega arith)
counted_there (n ∷ ns) x zero lt is = let one = count_first x n ns is in omega arith
counted_there (n ∷ ns) x (suc j) lt is = let more = count_grows x n ns in let rest = counted_there ns x j (omega arith) is in omega arith

counted_twice : (ns : List ℕ) (x i j : ℕ) → i < j → j < length ns → get_or ns i 0 ≡ x → get_or ns j 0 ≡ x → 2 ≤ count nat_eq x ns
counted_twice [] x i j less lt one two = absurd (omega arith)
counted_twice (n ∷ ns) x i zero less lt one two = absurd (omega arith)
counted_twice (n ∷ ns) x zero (suc j) less lt one two =
    let first = count_first x n ns one in
    let rest = counted_there ns x j (omega arith) two in
    omega arith
counted_twice (n ∷ ns) x (suc i) (suc j) less lt one two =
    let more = count_grows x n ns in
    let rest = counted_twice ns x i j (omega arith) (omega arith) one two in
    omega arith

-- ---- entries in another order

module _ (at : ℕ → Option (List ℕ)) where
  few : (o : Option (List ℕ)) → cond (is_some o) 1 0 ≤ 1
  few None = omega arith
  few (Some k) = omega arith

  pub entries_moved : (es fs : List Entry) → IsPermutation es fs → AreEntries at es → AreEntries at fs
  entries_moved es fs moved are = record {
    keyed = All-permutation (IsEntry at) es fs moved are.keyed;
    once = λ x. count_moved x (numbers_of es) (numbers_of fs) (IsPermutation-map (λ e. e.number) es fs moved) ∙ are.once x;
  }

  apart : (es : List Entry) → AreEntries at es → (i j : ℕ) (d : Entry) → i < j → j < length es → (get_or es j d).number ≡ (get_or es i d).number → ⊥
  apart es are i j d less lt same =
      let wide = length_numbers es in
      let twice = counted_twice (numbers_of es) (get_or es i d).number i j less (omega arith) (number_at es i d (omega arith)) (number_at es j d lt ∙ same) in
      let once = are.once (get_or es i d).number in
      let low = few (at (get_or es i d).number) in
      absurd (omega arith)

  pub ascends : (es : List Entry) → AreEntries at es → IsSortedBy (λ x y. is_lt (front_cmp (fronted at x) (fronted at y))) es → EntriesAscend at es
  ascends es are sorted = λ i j d less lt.
      entry_below at (get_or es i d) (get_or es j d) (are.keyed i d (omega arith)) (are.keyed j d lt)
      (sorted_far (λ x y. is_lt (front_cmp (fronted at x) (fronted at y))) (ranks_by front_total (fronted at)) es sorted i j d (omega arith) lt)
      (apart es are i j d less lt)

-- whether an entry has the key of that before it
module _ (at : ℕ → Option (List ℕ)) (es : List Entry) (are : AreEntries at es) (p : ℕ) (some : 0 < p) (lt : p < length es) (d e : Entry) where
  key_last : key_at at es (p - 1) ≡ unwrap_or (at (get_or es (p - 1) d).number) []
  key_last = ap (λ n. unwrap_or (at n) []) (number_at es (p - 1) d (omega arith))

  key_next : key_at at es p ≡ unwrap_or (at (get_or es p e).number) []
  key_next = ap (λ n. unwrap_or (at n) []) (number_at es p e lt)

  again_by_keys : pointwise nat_eq (unwrap_or (at (get_or es (p - 1) d).number) []) (unwrap_or (at (get_or es p e).number) []) ≡ is_again at es p
  again_by_keys =
      ap (λ k. pointwise nat_eq k (unwrap_or (at (get_or es p e).number) [])) (sym key_last)
      ∙ ap (pointwise nat_eq (key_at at es (p - 1))) (sym key_next)
      ∙ sym (ap (λ v. v && pointwise nat_eq (key_at at es (p - 1)) (key_at at es p)) (lt-ltb 0 p some))

  pub new_by_fronts : ((get_or es (p - 1) d).front ≡ (get_or es p e).front → ⊥) → false ≡ is_again at es p
  new_by_fronts other =
      sym (other_keys at (get_or es (p - 1) d) (get_or es p e) (are.keyed (p - 1) d (omega arith)) (are.keyed p e lt) other) ∙ again_by_keys

-- ---- entries of the first cells

-- the entries of all numbers below n
pub record AreBelow (at : ℕ → Option (List ℕ)) (n : ℕ) (es : List Entry) : Type 0 where
  pub keyed : All (IsEntry at) es
  pub once : (x : ℕ) → x < n → count nat_eq x (numbers_of es) ≡ cond (is_some (at x)) 1 0
  pub none : (x : ℕ) → n ≤ x → count nat_eq x (numbers_of es) ≡ 0

module _ (at : ℕ → Option (List ℕ)) where
  pub below_none : AreBelow at 0 []
  below_none = record { keyed = All-nil _; once = λ x lt. absurd (omega arith); none = λ x ge. count_nil x }

  pub below_same : (n : ℕ) (es : List Entry) → at n ≡ None → AreBelow at n es → AreBelow at (n + 1) es
  below_same n es blank are = record {
    keyed = are.keyed;
    once = λ x lt. elim (cases_lt x n) [
      | inl less ↦ are.once x less
      | inr ge ↦ let same : n ≡ x = omega arith in are.none x ge ∙ sym (ap (λ o. cond (is_some o) 1 0) (ap at (sym same) ∙ blank))
    ];
    none = λ x ge. are.none x (omega arith);
  }

  module _ (n : ℕ) (es : List Entry) (e : Entry) (entry : IsEntry at e) (is : e.number ≡ n) (are : AreBelow at n es) where
    counts : (x : ℕ) → count nat_eq x (numbers_of (es ++ e ∷ [])) ≡ count nat_eq x (numbers_of es) + count nat_eq x (e.number ∷ [])
    counts x = ap (count nat_eq x) (map-append (λ e. e.number) es (e ∷ [])) ∙ count-append nat_eq x (numbers_of es) (e.number ∷ [])

    other : (x : ℕ) → (n ≡ x → ⊥) → count nat_eq x (numbers_of (es ++ e ∷ [])) ≡ count nat_eq x (numbers_of es)
    other x apart =
        let more = counts x in
        let none = count_later x e.number [] (λ same. apart (sym is ∙ same)) in
        let nil = count_nil x in
        omega arith

    pub below_more : AreBelow at (n + 1) (es ++ e ∷ [])
    below_more = record {
      keyed = All-push (IsEntry at) es e are.keyed entry;
      once = λ x lt. elim (cases_lt x n) [
        | inl less ↦ other x (λ same. absurd (omega arith)) ∙ are.once x less
        | inr ge ↦
            let same : n ≡ x = omega arith in
            let more = counts x in
            let before = are.none x ge in
            let one = count_first x e.number [] (is ∙ same) in
            let nil = count_nil x in
            let all : count nat_eq x (numbers_of (es ++ e ∷ [])) ≡ 1 = omega arith in
            all ∙ sym (ap (λ o. cond (is_some o) 1 0) (ap at (sym (is ∙ same)) ∙ entry.here))
      ];
      none = λ x ge. other x (λ same. absurd (omega arith)) ∙ are.none x (omega arith);
    }

  pub below_all : (n : ℕ) (es : List Entry) → ((x : ℕ) → n ≤ x → at x ≡ None) → AreBelow at n es → AreEntries at es
  below_all n es blank are = record {
    keyed = are.keyed;
    once = λ x. elim (cases_lt x n) [
      | inl less ↦ are.once x less
      | inr ge ↦ are.none x ge ∙ sym (ap (λ o. cond (is_some o) 1 0) (blank x ge))
    ];
  }

-- cells past the end have no keys
pub past_cells : (kind : KeyKind) (cells : List (Option Node)) (n : ℕ) → length cells ≤ n → (x : ℕ) → n ≤ x → key_in kind cells x ≡ None
past_cells kind cells n wide x ge = ap (key_of kind) (get_or_past cells x None (omega arith)) ∙ none_blank kind

-- ---- an index that is built of entries in their order

pub bit_low : (n : ℕ) (b : Bool) → n ≡ bool_byte b → n ≤ 1
bit_low n true is = let one : n ≡ 1 = is in omega arith
bit_low n false is = let none : n ≡ 0 = is in omega arith

number_same : (a : ℕ) → nat_eq a a ≡ true
number_same a = eq-eqb a a refl

dropped_distinct : (i : ℕ) (ns : List ℕ) → is_distinct nat_eq ns ≡ true → is_distinct nat_eq (drop i ns) ≡ true
unfolding is_distinct
dropped_distinct zero ns h = h
dropped_distinct (suc i) [] h = refl
dropped_distinct (suc i) (n ∷ ns) h = dropped_distinct i ns (rest_distinct n ns h)

module _ (kind : KeyKind) (cells : List (Option Node)) (es : List Entry) (are : AreEntries (key_in kind cells) es) where
  distinct : is_distinct nat_eq (numbers_of es) ≡ true
  distinct = distinct_from nat_eq number_same (numbers_of es) (λ x. let once = are.once x in let low = few (key_in kind cells) (key_in kind cells x) in omega arith)

  -- the cells without those of the entries from place i on
  abbrev pub built : ℕ → List (Option Node)
  built i = cells_without 0 (drop i (numbers_of es)) cells

  all_blank : (y : ℕ) → key_in kind (built 0) y ≡ None
  all_blank y = elim (cases_Bool (has (numbers_of es) y)) [
    | inl on ↦ key_cleared kind (numbers_of es) cells y on
    | inr out ↦ key_left kind (numbers_of es) cells y out ∙ keyless (key_in kind cells y) (sym (are.once y) ∙ count_none (numbers_of es) y out)
  ]
    where
      keyless : (o : Option (List ℕ)) → ◌≡◌ {A = ℕ} (cond (is_some o) 1 0) 0 → o ≡ None
      keyless None h = refl
      keyless (Some k) h = absurd (omega arith)

  -- a listing with no room
  abbrev pub listing : List Entry → ℕ → Listing
  listing fs r = record { kind = kind; entries = fs; repeats = r; room = 0; shared = false }

  pub built_none : Indexes (built 0) (listing (take 0 es) 0)
  built_none = none_indexed kind (built 0) (listing (take 0 es) 0) refl refl refl all_blank

  pub built_all : (i : ℕ) (t : Listing) → length es ≤ i → t.kind ≡ kind → t.entries ≡ es → Indexes (built i) (listing (take i es) t.repeats) → Indexes cells t
  built_all i t all same items so_far =
      let wide = length_numbers es in
      let is = same_index (built i) (listing (take i es) t.repeats) t (record { kind = same; entries = items ∙ sym (take_all i es all); repeats = refl }) so_far in
      cleared_none t cells (subst (λ ns. Indexes (cells_without 0 ns cells) t) (drop_all i (numbers_of es) (omega arith)) is)

  module _ (i : ℕ) (d : Entry) (lt : i < length es) where
    parts : drop i (numbers_of es) ≡ (get_or es i d).number ∷ drop (i + 1) (numbers_of es)
    parts =
        let wide = length_numbers es in
        drop_more (numbers_of es) i 0 (omega arith) ∙ ap (λ n. n ∷ drop (i + 1) (numbers_of es)) (number_at es i d lt)

    pub built_without : Without kind (get_or es i d).number cells (built i) (built (i + 1))
    built_without =
        subst (λ ns. Without kind (get_or es i d).number cells (cells_without 0 ns cells) (built (i + 1))) (sym parts)
        (back_without (get_or es i d).number (drop (i + 1) (numbers_of es)) (subst (λ ns. is_distinct nat_eq ns ≡ true) parts (dropped_distinct i (numbers_of es) distinct)) kind cells)

    -- its entry
    own : IsEntry (key_in kind cells) (get_or es i d)
    own = are.keyed i d lt

    pub built_length : (ns : List ℕ) → ns ≡ take i (numbers_of es) → length ns ≡ i
    built_length ns is =
        let wide = length_numbers es in
        let few = length-take i (numbers_of es) in
        let same = ap length is in
        omega arith

    module _ (ns : List ℕ) (is : ns ≡ take i (numbers_of es)) where
      low : (k : ℕ) → k < length ns → k < i
      low k less = let all = built_length ns is in omega arith

      number : (k : ℕ) → k < length ns → get_or ns k 0 ≡ get_or (numbers_of es) k 0
      number k less = ap (λ xs. get_or xs k 0) is ∙ get_or-take i (numbers_of es) k 0 (low k less)

      module _ (entries : Entries (key_in kind (built i)) ns) where
        before : (k : ℕ) → k < length ns → entry_at (key_in kind (built i)) (get_or ns k 0) ≡ entry_at (key_in kind cells) (get_or es k d).number
        before k less =
            let at = low k less in
            ap (λ o. (unwrap_or o [], get_or ns k 0)) (sym (cleared_part kind (drop i (numbers_of es)) cells (get_or ns k 0) (entries.keyed k less)))
            ∙ ap (λ n. entry_at (key_in kind cells) n) (number k less ∙ number_at es k d (omega arith))

        -- the next entry goes behind them
        built_gap : EntriesAscend (key_in kind cells) es → IsGap (key_in kind (built i)) ns (own.key, (get_or es i d).number) i
        built_gap up = record {
          within = let all = built_length ns is in omega arith;
          below = λ k less. let all = built_length ns is in
              ap (λ e. entry_cmp e (own.key, (get_or es i d).number)) (before k (omega arith))
              ∙ ap (λ o. entry_cmp (entry_at (key_in kind cells) (get_or es k d).number) (unwrap_or o [], (get_or es i d).number)) (sym own.here)
              ∙ up k i d less lt;
          above = λ k ge less. let all = built_length ns is in absurd (omega arith);
        }

        -- whether that before it has its key
        again_at : 0 < i → is_key_at kind cells ns (i - 1) own.key ≡ is_again (key_in kind cells) es i
        again_at some =
            let all = built_length ns is in
            let last = are.keyed (i - 1) d (omega arith) in
            let key : key_in kind cells (get_or (numbers_of es) (i - 1) 0) ≡ Some last.key = ap (key_in kind cells) (number_at es (i - 1) d (omega arith)) ∙ last.here in
            let next : key_at (key_in kind cells) es i ≡ own.key = ap (λ n. unwrap_or (key_in kind cells n) []) (number_at es i d lt) ∙ ap (λ o. unwrap_or o []) own.here in
            ap (λ v. v && is_key own.key (key_in kind cells (get_or ns (i - 1) 0))) (lt-ltb (i - 1) (length ns) (omega arith))
            ∙ ap (λ n. is_key own.key (key_in kind cells n)) (number (i - 1) (omega arith))
            ∙ ap (is_key own.key) key
            ∙ sym (by_keys ∙ ap (λ k. pointwise nat_eq k (key_at (key_in kind cells) es i)) (ap (λ o. unwrap_or o []) key) ∙ ap (pointwise nat_eq last.key) next)
          where
            by_keys : is_again (key_in kind cells) es i ≡ pointwise nat_eq (key_at (key_in kind cells) es (i - 1)) (key_at (key_in kind cells) es i)
            by_keys = ap (λ v. v && pointwise nat_eq (key_at (key_in kind cells) es (i - 1)) (key_at (key_in kind cells) es i)) (lt-ltb 0 i some)

        -- nothing stands at the place itself
        none_at : is_key_at kind cells ns i own.key ≡ false
        none_at =
            let all = built_length ns is in
            ap (λ v. v && is_key own.key (key_in kind cells (get_or ns i 0))) (le-ltb i (length ns) (omega arith))

        again_held : EntriesAscend (key_in kind cells) es → is_again (key_in kind cells) es i ≡ is_held kind (built i) own.key
        again_held up = elim (cases_Bool (is_again (key_in kind cells) es i)) [
          | inl on ↦
              let some : 0 < i = ltb-true 0 i (and_parts (nat_lt 0 i) (pointwise nat_eq (key_at (key_in kind cells) es (i - 1)) (key_at (key_in kind cells) es i)) on).0 in
              on ∙ held_here kind (built i) cells (cleared_part kind (drop i (numbers_of es)) cells) ns entries own.key (i - 1) (sym (again_at some ∙ on))
          | inr out ↦
              out ∙ held_not_beside kind (built i) cells (cleared_part kind (drop i (numbers_of es)) cells) ns entries own.key (get_or es i d).number i (built_gap up) (sym none_at) (λ some. sym (again_at (omega arith) ∙ out))
        ]

    -- the entries so far
    abbrev so_many : List Entry
    so_many = take i es

    their_numbers : numbers_of so_many ≡ take i (numbers_of es)
    their_numbers = sym (take-map (λ (e : Entry). e.number) i es)

    one_more : take (i + 1) es ≡ insert so_many i (get_or es i d)
    one_more =
        let few = length-take i es in
        let all : length so_many ≡ i = omega arith in
        take_more es i d lt
        ∙ sym (ap (λ p. insert so_many p (get_or es i d)) (sym all) ∙ insert_end so_many (get_or es i d))

    -- the index so far, with the next entry
    pub built_more : EntriesAscend (key_in kind cells) es → (r m : ℕ) → Indexes (built i) (listing so_many r) → m ≡ r + bool_byte (is_again (key_in kind cells) es i) → Indexes (built (i + 1)) (listing (take (i + 1) es) m)
    built_more up r m so_far sum =
        let entries : AreOrdered (key_in kind (built i)) so_many = so_far.entries in
        let key : key_in kind cells (get_or es i d).number ≡ Some own.key = own.here in
        let gap = built_gap (numbers_of so_many) their_numbers entries.numbers up in
        let more = entered (get_or es i d).number cells (built i) (built (i + 1)) (listing so_many r) built_without own.key key (get_or es i d) refl own.front own.bytes i entries gap in
        indexes_from kind (insert so_many i (get_or es i d)) (built (i + 1)) (listing (take (i + 1) es) m) refl one_more more
        (sum ∙ counted_more (is_again (key_in kind cells) es i) refl)
      where
        again_now : is_again (key_in kind cells) es i ≡ is_held kind (built i) own.key
        again_now = again_held (numbers_of so_many) their_numbers so_far.entries.numbers up

        more_again : is_again (key_in kind cells) es i ≡ true → r + 1 ≡ repeats_in (keys_of kind (built (i + 1)))
        more_again on =
            let held = sym on ∙ again_now in
            let count : repeats_in (keys_of kind (built (i + 1))) ≡ repeats_in (keys_of kind (built i)) + 1 = one_held (get_or es i d).number cells (built i) (built (i + 1)) (listing so_many r) built_without own.key own.here held in
            let before : r ≡ repeats_in (keys_of kind (built i)) = so_far.repeats in
            omega arith

        more_new : is_again (key_in kind cells) es i ≡ false → r + 0 ≡ repeats_in (keys_of kind (built (i + 1)))
        more_new out =
            let held = sym out ∙ again_now in
            let count : repeats_in (keys_of kind (built (i + 1))) ≡ repeats_in (keys_of kind (built i)) = none_held (get_or es i d).number cells (built i) (built (i + 1)) (listing so_many r) built_without own.key own.here held in
            let before : r ≡ repeats_in (keys_of kind (built i)) = so_far.repeats in
            omega arith

        counted_more : (again : Bool) → is_again (key_in kind cells) es i ≡ again → r + bool_byte again ≡ repeats_in (keys_of kind (built (i + 1)))
        counted_more true on = more_again on
        counted_more false out = more_new out
