-- The first cells of a list, with blank ones after them.
use Rattle.std.proofs.Common.{◌≡◌, ℕ, zero, suc, ◌+◌, ◌<◌, ◌≤◌, List, [], ◌∷◌, length, get_or, take, Option, None, refl, sym, ◌∙◌, ap, arith, inl, inr}
use Rattle.std.proofs.lemmas.Bool.{cases_lt}
use Rattle.std.proofs.lemmas.List.{get_or_past, get_or-take, length-take}
use Rattle.mls_leaf.specs.declared.node.Node.{Node}
use Rattle.mls_tree_index.specs.declared.kind.KeyKind.{KeyKind}
use Rattle.mls_tree_index.specs.Keys.{key_of, key_in, repeats_in}
use Rattle.mls_tree_index.specs.Entries.{AreOrdered}
use Rattle.mls_tree_index.specs.Indexes.{Listing, Indexes, Without}
use Rattle.mls_tree_index.proofs.EntryLaws.{no_key}
use Rattle.mls_tree_index.proofs.CountLaws.{none_blank}
use Rattle.mls_tree_index.proofs.Laws.{indexes_alike}
use Rattle.mls_tree_index.proofs.StepLaws.{indexes_from}

-- a list whose cells from place n on are blanked
abbrev pub front : ℕ → List (Option Node) → List (Option Node)
front n [] = []
front zero (c ∷ cs) = None ∷ front zero cs
front (suc n) (c ∷ cs) = c ∷ front n cs

length_front : (n : ℕ) (cs : List (Option Node)) → length (front n cs) ≡ length cs
length_front zero [] = refl
length_front (suc n) [] = refl
length_front zero (c ∷ cs) = ap suc (length_front zero cs)
length_front (suc n) (c ∷ cs) = ap suc (length_front n cs)

front_below : (n : ℕ) (cs : List (Option Node)) (y : ℕ) → y < n → get_or (front n cs) y None ≡ get_or cs y None
front_below zero cs y lt = absurd (omega arith)
front_below (suc n) [] y lt = refl
front_below (suc n) (c ∷ cs) zero lt = refl
front_below (suc n) (c ∷ cs) (suc y) lt = front_below n cs y (omega arith)

front_above : (n : ℕ) (cs : List (Option Node)) (y : ℕ) → n ≤ y → get_or (front n cs) y None ≡ None
front_above zero [] y ge = refl
front_above (suc n) [] y ge = refl
front_above zero (c ∷ cs) zero ge = refl
front_above zero (c ∷ cs) (suc y) ge = front_above zero cs y (omega arith)
front_above (suc n) (c ∷ cs) zero ge = absurd (omega arith)
front_above (suc n) (c ∷ cs) (suc y) ge = front_above n cs y (omega arith)

module _ (kind : KeyKind) where
  none_above : (n : ℕ) (cs : List (Option Node)) (y : ℕ) → n ≤ y → key_in kind (front n cs) y ≡ None
  none_above n cs y ge = ap (key_of kind) (front_above n cs y ge) ∙ none_blank kind

  same_below : (n : ℕ) (cs : List (Option Node)) (y : ℕ) → y < n → key_in kind (front n cs) y ≡ key_in kind cs y
  same_below n cs y lt = ap (key_of kind) (front_below n cs y lt)

  -- one cell more
  pub without_front : (x : ℕ) (cs : List (Option Node)) → Without kind x cs (front x cs) (front (x + 1) cs)
  without_front x cs = record {
    wide = length_front (x + 1) cs;
    long = length_front x cs ∙ sym (length_front (x + 1) cs);
    part = λ y some. elim (cases_lt y (x + 1)) [
      | inl lt ↦ sym (same_below (x + 1) cs y lt)
      | inr ge ↦ absurd (no_key (key_in kind (front (x + 1) cs) y) (none_above (x + 1) cs y ge) some)
    ];
    here = same_below (x + 1) cs x (omega arith);
    blank = none_above x cs x (omega arith);
    others = λ y other. elim (cases_lt y x) [
      | inl lt ↦ same_below x cs y lt ∙ sym (same_below (x + 1) cs y (omega arith))
      | inr ge ↦ elim (cases_lt x y) [
        | inl more ↦ none_above x cs y ge ∙ sym (none_above (x + 1) cs y (omega arith))
        | inr le ↦ absurd (other (omega arith))
      ]
    ];
  }

  none_listed : AreOrdered (key_in kind []) []
  none_listed = record {
    numbers = record {
      all = λ x some. absurd (no_key (key_in kind [] x) (none_blank kind) some);
      keyed = λ j lt. absurd (omega arith);
      ascend = λ i j lt le. absurd (omega arith);
    };
    keyed = λ k d lt. absurd (omega arith);
  }

  -- none of the cells
  pub none_indexed : (c : List (Option Node)) (s : Listing) → s.kind ≡ kind → s.entries ≡ [] → s.repeats ≡ 0 → ((y : ℕ) → key_in kind c y ≡ None) → Indexes c s
  unfolding repeats_in
  none_indexed c s same entries repeats blank =
      indexes_alike s [] c (λ y. ap (λ j. key_of j None) same ∙ none_blank kind ∙ sym (blank y) ∙ ap (λ j. key_in j c y) (sym same))
      (indexes_from kind [] [] s same entries none_listed repeats)

-- all of them
whole : (k : KeyKind) (n : ℕ) (cs : List (Option Node)) → length cs ≤ n → (y : ℕ) → key_in k (front n cs) y ≡ key_in k cs y
whole k n cs wide y = elim (cases_lt y n) [
  | inl lt ↦ same_below k n cs y lt
  | inr ge ↦ none_above k n cs y ge ∙ sym (ap (key_of k) (get_or_past cs y None (omega arith)) ∙ none_blank k)
]

pub front_whole : (n : ℕ) (cs : List (Option Node)) (t : Listing) → length cs ≤ n → Indexes cs t → Indexes (front n cs) t
front_whole n cs t wide = indexes_alike t cs (front n cs) (λ y. sym (whole t.kind n cs wide y))

-- the first cells, with blank ones after them or cut
pub front_cut : (n m : ℕ) (cs : List (Option Node)) (t : Listing) → n ≤ m → ((y : ℕ) → y < m → n ≤ y → length cs ≤ y) → Indexes (front n cs) t → Indexes (take m cs) t
front_cut n m cs t le short = indexes_alike t (front n cs) (take m cs) (λ y. elim (cases_lt y n) [
  | inl lt ↦ same_below t.kind n cs y lt ∙ ap (key_of t.kind) (sym (get_or-take m cs y None (omega arith)))
  | inr ge ↦ none_above t.kind n cs y ge ∙ sym (ap (key_of t.kind) (blank y ge) ∙ none_blank t.kind)
])
  where
    blank : (y : ℕ) → n ≤ y → get_or (take m cs) y None ≡ None
    blank y ge = elim (cases_lt y m) [
      | inl lt ↦ get_or-take m cs y None lt ∙ get_or_past cs y None (short y lt ge)
      | inr past ↦ let few = length-take m cs in get_or_past (take m cs) y None (omega arith)
    ]
