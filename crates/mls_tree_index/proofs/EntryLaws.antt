-- Entries: where one is, where one goes, and what is left without it.
use Rattle.std.proofs.Common.{◌≡◌, ℕ, ◌+◌, ◌-◌, ◌<◌, ◌≤◌, ◌⊎◌, Bool, true, false, List, [], length, get_or, Option, Some, None, sym, ◌∙◌, ap, subst, arith, inl, inr, is_some}
use Rattle.std.proofs.lemmas.Bool.{true≢false, false_from_ne_true, cases_lt, cases_eq}
use Rattle.std.proofs.lemmas.List.{get_or_default}
use Rattle.std.proofs.lemmas.List.Edits.{length-insert, get_or-insert_below, get_or-insert_at, get_or-insert_above, length-remove, get_or-remove_below, get_or-remove_above}
use Rattle.std.specs.List.{insert, remove}
use Rattle.std.specs.List.Sorted.{IsPartitionedBy}
use Rattle.std.specs.Option.{unwrap_or}
use Rattle.std.specs.Ordering.{is_lt}
use Rattle.std.specs.declared.cmp.Ordering.TheVariants.{Less}
use Rattle.mls_tree_index.specs.Order.{entry_at, entry_cmp, Entries, IsGap, IsPart}
use Rattle.mls_tree_index.proofs.OrderLaws.{is_less, cmp_trans, as_entries, not_itself, is_above, not_both, none_below, same_between}

pub no_key : (o : Option (List ℕ)) → o ≡ None → is_some o ≡ true → ⊥
no_key o none some = true≢false (sym some ∙ ap is_some none)

-- ---- a search by halves

module _ (at real : ℕ → Option (List ℕ)) (part : IsPart at real) (ns : List ℕ) (es : Entries at ns) (e : List ℕ × ℕ) where
  abbrev before : ℕ → Bool
  before y = is_lt (entry_cmp (entry_at real y) e)

  reads : (j d : ℕ) → j < length ns → entry_at real (get_or ns j d) ≡ entry_at at (get_or ns j 0)
  reads j d lt =
      ap (λ y. entry_at real y) (get_or_default ns j d 0 lt) ∙ ap (λ o. (unwrap_or o [], get_or ns j 0)) (part (get_or ns j 0) (es.keyed j lt))

  parted : IsPartitionedBy (λ y. is_lt (entry_cmp (entry_at real y) e)) ns
  parted i j d le lt h =
      elim (cases_lt i j) [
        | inl less ↦
            let high : entry_cmp (entry_at at (get_or ns j 0)) e ≡ Less = is_less _ (ap (λ v. is_lt (entry_cmp v e)) (sym (reads j d lt)) ∙ h) in
            ap (λ v. is_lt (entry_cmp v e)) (reads i d (omega arith)) ∙ ap is_lt (cmp_trans _ _ e (es.ascend i j less lt) high)
        | inr ge ↦ let same : j ≡ i = omega arith in subst (λ n. before (get_or ns n d) ≡ true) same h
      ]

  -- a place between an entry before and one that isn't
  pub gap_between : (p : ℕ) → p ≤ length ns → (0 < p → before (get_or ns (p - 1) 0) ≡ true) → (p < length ns → before (get_or ns p 0) ≡ false) → IsGap at ns e p
  gap_between p le low high = record {
    within = le;
    below = λ k lt. is_less _ (ap (λ v. is_lt (entry_cmp v e)) (sym (reads k 0 (omega arith))) ∙ parted k (p - 1) 0 (omega arith) (omega arith) (low (omega arith)));
    above = λ k ge lt. ap (λ v. is_lt (entry_cmp v e)) (sym (reads k 0 lt)) ∙ false_from_ne_true (before (get_or ns k 0)) (λ yes. true≢false (sym (parted p k 0 ge lt yes) ∙ high (omega arith)));
  }

-- ---- entries with one key stand together

module _ (at : ℕ → Option (List ℕ)) (ns : List ℕ) (es : Entries at ns) (k : List ℕ) where
  pub key_between : (o : Option (List ℕ)) (y w x : ℕ) → is_some o ≡ true → is_lt (entry_cmp (unwrap_or o [], y) (k, w)) ≡ false → entry_cmp (unwrap_or o [], y) (k, x) ≡ Less → o ≡ Some k
  key_between None y w x some h g = absurd (true≢false (sym some))
  key_between (Some l) y w x some h g = ap Some (same_between l k y w x h g)

  -- the entry at a place, where it has the key
  abbrev Has : ℕ → Type 0
  Has p = (p < length ns) × (at (get_or ns p 0) ≡ Some k)

  entry_with : (j : ℕ) → at (get_or ns j 0) ≡ Some k → entry_at at (get_or ns j 0) ≡ (k, get_or ns j 0)
  entry_with j is = ap (λ o. (unwrap_or o [], get_or ns j 0)) is

  -- where an entry has the key, so does one beside each place where an entry with it goes
  pub found_beside : (x p : ℕ) → IsGap at ns (k, x) p → (y : ℕ) → at y ≡ Some k → Has p ⊎ ((1 ≤ p) × Has (p - 1))
  found_beside x p gap y is =
      let j = es.all y (ap is_some is) in
      let lt = j.1 in
      let keyed : at (get_or ns j.0 0) ≡ Some k = ap at j.2 ∙ is in
      let entry = entry_with j.0 keyed in
      let le = gap.within in
      elim (cases_lt j.0 p) [
        | inl low ↦ elim (cases_lt j.0 (p - 1)) [
          | inl less ↦
              let up : entry_cmp (k, get_or ns j.0 0) (entry_at at (get_or ns (p - 1) 0)) ≡ Less = subst (λ v. entry_cmp v (entry_at at (get_or ns (p - 1) 0)) ≡ Less) entry (es.ascend j.0 (p - 1) less (omega arith)) in
              inr (omega arith, (omega arith, key_between (at (get_or ns (p - 1) 0)) (get_or ns (p - 1) 0) (get_or ns j.0 0) x (es.keyed (p - 1) (omega arith)) (not_both (k, get_or ns j.0 0) (entry_at at (get_or ns (p - 1) 0)) up) (gap.below (p - 1) (omega arith))))
          | inr ge ↦
              let same : j.0 ≡ p - 1 = omega arith in
              inr (omega arith, (omega arith, subst (λ n. at (get_or ns n 0) ≡ Some k) same keyed))
        ]
        | inr ge ↦ elim (cases_lt p j.0) [
          | inl less ↦
              inl (omega arith, key_between (at (get_or ns p 0)) (get_or ns p 0) x (get_or ns j.0 0) (es.keyed p (omega arith)) (gap.above p (omega arith) (omega arith)) (subst (λ v. entry_cmp (entry_at at (get_or ns p 0)) v ≡ Less) entry (es.ascend p j.0 less lt)))
          | inr high ↦
              let same : j.0 ≡ p = omega arith in
              inl (subst (λ n. n < length ns) same lt, subst (λ n. at (get_or ns n 0) ≡ Some k) same keyed)
        ]
      ]

  -- and the first one stands at the place of the least
  pub none_before : (p : ℕ) → IsGap at ns (k, 0) p → 1 ≤ p → at (get_or ns (p - 1) 0) ≡ Some k → ⊥
  none_before p gap some is = none_below k (get_or ns (p - 1) 0) (subst (λ v. entry_cmp v (k, 0) ≡ Less) (entry_with (p - 1) is) (gap.below (p - 1) (omega arith)))

-- ---- where the entry of a key and a number stands

module _ (x : ℕ) (k : List ℕ) (c : ℕ → Option (List ℕ)) (here : c x ≡ Some k) (ns : List ℕ) (p : ℕ) (es : Entries c ns) (gap : IsGap c ns (k, x) p) where
  its_entry : entry_at c x ≡ (k, x)
  its_entry = ap (λ o. (unwrap_or o [], x)) here

  pub entry_stands : (p < length ns) × (get_or ns p 0 ≡ x)
  entry_stands =
      let j = es.all x (ap is_some here) in
      let entry : entry_at c (get_or ns j.0 0) ≡ (k, x) = ap (λ y. entry_at c y) j.2 ∙ its_entry in
      elim (cases_lt j.0 p) [
        | inl lt ↦ absurd (not_itself (k, x) (subst (λ v. entry_cmp v (k, x) ≡ Less) entry (gap.below j.0 lt)))
        | inr ge ↦ elim (cases_lt p j.0) [
          | inl less ↦
              let lt = j.1 in
              let below : entry_cmp (entry_at c (get_or ns p 0)) (k, x) ≡ Less = subst (λ v. entry_cmp (entry_at c (get_or ns p 0)) v ≡ Less) entry (es.ascend p j.0 less j.1) in
              absurd (true≢false (sym (ap is_lt below) ∙ gap.above p (omega arith) (omega arith)))
          | inr le ↦
              let same : j.0 ≡ p = omega arith in
              (subst (λ n. n < length ns) same j.1, subst (λ n. get_or ns n 0 ≡ x) same j.2)
        ]
      ]

  -- it stands at place p alone
  pub stands_once : (j : ℕ) → j < length ns → (j ≡ p → ⊥) → get_or ns j 0 ≡ x → ⊥
  stands_once j lt other is =
      let same : entry_at c (get_or ns j 0) ≡ entry_at c (get_or ns p 0) = ap (λ y. entry_at c y) (is ∙ sym entry_stands.1) in
      elim (cases_lt j p) [
        | inl less ↦ not_itself (entry_at c (get_or ns p 0)) (subst (λ v. entry_cmp v (entry_at c (get_or ns p 0)) ≡ Less) same (es.ascend j p less entry_stands.0))
        | inr ge ↦ not_itself (entry_at c (get_or ns p 0)) (subst (λ v. entry_cmp (entry_at c (get_or ns p 0)) v ≡ Less) same (es.ascend p j (omega_less other ge) lt))
      ]
    where
      omega_less : {a b : ℕ} → (a ≡ b → ⊥) → b ≤ a → b < a
      omega_less {a} {b} other le = elim (cases_lt b a) [ inl lt ↦ lt | inr ge ↦ absurd (other (omega arith)) ]

-- ---- with one entry more, and without it

module _ (x : ℕ) (k : List ℕ) (b c : ℕ → Option (List ℕ)) (here : c x ≡ Some k) (blank : b x ≡ None) (others : (y : ℕ) → (y ≡ x → ⊥) → b y ≡ c y) (ns : List ℕ) (p : ℕ) where
  entry_here : entry_at c x ≡ (k, x)
  entry_here = ap (λ o. (unwrap_or o [], x)) here

  entry_other : (y : ℕ) → (y ≡ x → ⊥) → entry_at c y ≡ entry_at b y
  entry_other y other = ap (λ o. (unwrap_or o [], y)) (sym (others y other))

  keyed_other : (y : ℕ) → is_some (b y) ≡ true → y ≡ x → ⊥
  keyed_other y some same = no_key (b y) (ap b same ∙ blank) some

  module _ (es : Entries b ns) (gap : IsGap b ns (k, x) p) where
    other_number : (j : ℕ) → j < length ns → get_or ns j 0 ≡ x → ⊥
    other_number j lt = keyed_other (get_or ns j 0) (es.keyed j lt)

    old_entry : (j : ℕ) → j < length ns → entry_at c (get_or ns j 0) ≡ entry_at b (get_or ns j 0)
    old_entry j lt = entry_other (get_or ns j 0) (other_number j lt)

    low : (m : ℕ) → m < p → get_or (insert ns p x) m 0 ≡ get_or ns m 0
    low m lt = get_or-insert_below ns p x 0 m lt gap.within

    mid : get_or (insert ns p x) p 0 ≡ x
    mid = get_or-insert_at ns p x 0 gap.within

    high : (m : ℕ) → p < m → get_or (insert ns p x) m 0 ≡ get_or ns (m - 1) 0
    high m lt =
        let next : m ≡ (m - 1) + 1 = omega arith in
        ap (λ n. get_or (insert ns p x) n 0) next ∙ get_or-insert_above ns p x 0 (m - 1) (omega arith) gap.within

    low_entry : (m : ℕ) → m < p → entry_at c (get_or (insert ns p x) m 0) ≡ entry_at b (get_or ns m 0)
    low_entry m lt = let le = gap.within in ap (λ y. entry_at c y) (low m lt) ∙ old_entry m (omega arith)

    mid_entry : entry_at c (get_or (insert ns p x) p 0) ≡ (k, x)
    mid_entry = ap (λ y. entry_at c y) mid ∙ entry_here

    high_entry : (m : ℕ) → p < m → m < length ns + 1 → entry_at c (get_or (insert ns p x) m 0) ≡ entry_at b (get_or ns (m - 1) 0)
    high_entry m lt le = ap (λ y. entry_at c y) (high m lt) ∙ old_entry (m - 1) (omega arith)

    all_more : (y : ℕ) → is_some (c y) ≡ true → (j : ℕ) × (j < length (insert ns p x)) × (get_or (insert ns p x) j 0 ≡ y)
    all_more y some =
        let wide = length-insert ns p x gap.within in
        let le = gap.within in
        elim (cases_eq y x) [
          | inl same ↦ (p, omega arith, mid ∙ sym same)
          | inr other ↦
              let j = es.all y (ap is_some (others y other) ∙ some) in
              let lt = j.1 in
              elim (cases_lt j.0 p) [
                | inl less ↦ (j.0, omega arith, low j.0 less ∙ j.2)
                | inr ge ↦ (j.0 + 1, omega arith, get_or-insert_above ns p x 0 j.0 ge gap.within ∙ j.2)
              ]
        ]

    some_old : (j : ℕ) → j < length ns → is_some (c (get_or ns j 0)) ≡ true
    some_old j lt = ap is_some (sym (others (get_or ns j 0) (other_number j lt))) ∙ es.keyed j lt

    keyed_more : (j : ℕ) → j < length (insert ns p x) → is_some (c (get_or (insert ns p x) j 0)) ≡ true
    keyed_more j lt =
        let wide = length-insert ns p x gap.within in
        let le = gap.within in
        elim (cases_lt j p) [
          | inl less ↦ ap (λ y. is_some (c y)) (low j less) ∙ some_old j (omega arith)
          | inr ge ↦ elim (cases_lt p j) [
            | inl more ↦ ap (λ y. is_some (c y)) (high j more) ∙ some_old (j - 1) (omega arith)
            | inr same ↦
                let is : j ≡ p = omega arith in
                ap (λ n. is_some (c (get_or (insert ns p x) n 0))) is ∙ ap (λ y. is_some (c y)) mid ∙ ap is_some here
          ]
        ]

    ascends_more : (i j : ℕ) → i < j → j < length (insert ns p x) → entry_cmp (entry_at c (get_or (insert ns p x) i 0)) (entry_at c (get_or (insert ns p x) j 0)) ≡ Less
    ascends_more i j lt high_j =
        let wide = length-insert ns p x gap.within in
        let le = gap.within in
        elim (cases_lt i p) [
          | inl i_low ↦ elim (cases_lt j p) [
            | inl j_low ↦ as_entries _ _ _ _ (low_entry i i_low) (low_entry j j_low) (es.ascend i j lt (omega arith))
            | inr j_ge ↦ elim (cases_lt p j) [
              | inl j_high ↦ as_entries _ _ _ _ (low_entry i i_low) (high_entry j j_high (omega arith)) (es.ascend i (j - 1) (omega arith) (omega arith))
              | inr j_le ↦
                  let is : j ≡ p = omega arith in
                  as_entries _ _ _ _ (low_entry i i_low) (ap (λ n. entry_at c (get_or (insert ns p x) n 0)) is ∙ mid_entry) (gap.below i i_low)
            ]
          ]
          | inr i_ge ↦ elim (cases_lt p i) [
            | inl i_high ↦ as_entries _ _ _ _ (high_entry i i_high (omega arith)) (high_entry j (omega arith) (omega arith)) (es.ascend (i - 1) (j - 1) (omega arith) (omega arith))
            | inr i_le ↦
                let is : i ≡ p = omega arith in
                as_entries _ _ _ _ (ap (λ n. entry_at c (get_or (insert ns p x) n 0)) is ∙ mid_entry) (high_entry j (omega arith) (omega arith)) (
                is_above (entry_at b (get_or ns (j - 1) 0)) (k, x) (gap.above (j - 1) (omega arith) (omega arith)) (other_number (j - 1) (omega arith)))
          ]
        ]

    pub with_entry : Entries c (insert ns p x)
    with_entry = record { all = all_more; keyed = keyed_more; ascend = ascends_more }

  module _ (es : Entries c ns) (gap : IsGap c ns (k, x) p) where
    pub stands : (p < length ns) × (get_or ns p 0 ≡ x)
    stands = entry_stands x k c here ns p es gap

    -- it stands at place p alone
    once : (j : ℕ) → j < length ns → (j ≡ p → ⊥) → get_or ns j 0 ≡ x → ⊥
    once = stands_once x k c here ns p es gap

    width : length (remove ns p) + 1 ≡ length ns
    width = length-remove ns p stands.0

    early : (m : ℕ) → m < p → get_or (remove ns p) m 0 ≡ get_or ns m 0
    early m lt = get_or-remove_below ns p 0 m lt stands.0

    late : (m : ℕ) → p ≤ m → get_or (remove ns p) m 0 ≡ get_or ns (m + 1) 0
    late m ge = get_or-remove_above ns p 0 m ge stands.0

    rest_entry : (j : ℕ) → j < length ns → (j ≡ p → ⊥) → entry_at b (get_or ns j 0) ≡ entry_at c (get_or ns j 0)
    rest_entry j lt other = sym (entry_other (get_or ns j 0) (once j lt other))

    early_entry : (m : ℕ) → m < p → entry_at b (get_or (remove ns p) m 0) ≡ entry_at c (get_or ns m 0)
    early_entry m lt = let inside = stands.0 in ap (λ y. entry_at b y) (early m lt) ∙ rest_entry m (omega arith) (λ e. absurd (omega arith))

    late_entry : (m : ℕ) → p ≤ m → m + 1 < length ns → entry_at b (get_or (remove ns p) m 0) ≡ entry_at c (get_or ns (m + 1) 0)
    late_entry m ge lt = ap (λ y. entry_at b y) (late m ge) ∙ rest_entry (m + 1) lt (λ e. absurd (omega arith))

    some_rest : (j : ℕ) → j < length ns → (j ≡ p → ⊥) → is_some (b (get_or ns j 0)) ≡ true
    some_rest j lt other = ap is_some (others (get_or ns j 0) (once j lt other)) ∙ es.keyed j lt

    all_less : (y : ℕ) → is_some (b y) ≡ true → (j : ℕ) × (j < length (remove ns p)) × (get_or (remove ns p) j 0 ≡ y)
    all_less y some =
        let other = keyed_other y some in
        let j = es.all y (ap is_some (sym (others y other)) ∙ some) in
        let lt = j.1 in
        let wide = width in
        let inside = stands.0 in
        elim (cases_lt j.0 p) [
          | inl less ↦ (j.0, omega arith, early j.0 less ∙ j.2)
          | inr ge ↦ elim (cases_lt p j.0) [
            | inl more ↦
                let next : (j.0 - 1) + 1 ≡ j.0 = omega arith in
                (j.0 - 1, omega arith, late (j.0 - 1) (omega arith) ∙ ap (λ n. get_or ns n 0) next ∙ j.2)
            | inr le ↦
                let same : p ≡ j.0 = omega arith in
                absurd (other (sym j.2 ∙ ap (λ n. get_or ns n 0) (sym same) ∙ stands.1))
          ]
        ]

    keyed_less : (j : ℕ) → j < length (remove ns p) → is_some (b (get_or (remove ns p) j 0)) ≡ true
    keyed_less j lt =
        let wide = width in
        elim (cases_lt j p) [
          | inl less ↦ ap (λ y. is_some (b y)) (early j less) ∙ some_rest j (omega arith) (λ e. absurd (omega arith))
          | inr ge ↦ ap (λ y. is_some (b y)) (late j ge) ∙ some_rest (j + 1) (omega arith) (λ e. absurd (omega arith))
        ]

    ascends_less : (i j : ℕ) → i < j → j < length (remove ns p) → entry_cmp (entry_at b (get_or (remove ns p) i 0)) (entry_at b (get_or (remove ns p) j 0)) ≡ Less
    ascends_less i j lt high_j =
        let wide = width in
        elim (cases_lt i p) [
          | inl i_low ↦ elim (cases_lt j p) [
            | inl j_low ↦ as_entries _ _ _ _ (early_entry i i_low) (early_entry j j_low) (es.ascend i j lt (omega arith))
            | inr j_high ↦ as_entries _ _ _ _ (early_entry i i_low) (late_entry j j_high (omega arith)) (es.ascend i (j + 1) (omega arith) (omega arith))
          ]
          | inr i_high ↦ as_entries _ _ _ _ (late_entry i i_high (omega arith)) (late_entry j (omega arith) (omega arith)) (es.ascend (i + 1) (j + 1) (omega arith) (omega arith))
        ]

    pub without_entry : Entries b (remove ns p)
    without_entry = record { all = all_less; keyed = keyed_less; ascend = ascends_less }

-- the same of the same keys
pub entries_alike : (b c : ℕ → Option (List ℕ)) → ((x : ℕ) → b x ≡ c x) → (ns : List ℕ) → Entries b ns → Entries c ns
entries_alike b c same ns es =
    let entry : (y : ℕ) → entry_at c y ≡ entry_at b y = λ y. ap (λ o. (unwrap_or o [], y)) (sym (same y)) in
    record {
      all = λ x some. es.all x (ap is_some (same x) ∙ some);
      keyed = λ j lt. ap is_some (sym (same (get_or ns j 0))) ∙ es.keyed j lt;
      ascend = λ i j lt le. as_entries _ _ _ _ (entry (get_or ns i 0)) (entry (get_or ns j 0)) (es.ascend i j lt le);
    }
