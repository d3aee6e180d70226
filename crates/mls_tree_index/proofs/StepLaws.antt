-- Laws of each step of an index.
use Rattle.std.proofs.Common.{◌≡◌, ℕ, zero, suc, ◌+◌, ◌-◌, ◌<◌, ◌≤◌, ◌==◌, nat_lt, Bool, true, false, not, ◌&&◌, cond, List, length, get_or, Option, Some, None, is_some, refl, sym, ◌∙◌, ap, subst, arith, inl, inr, ne_eqb, ltb-true, lt-ltb}
use Rattle.std.proofs.lemmas.Bool.{true≢false, and_parts, cases_Bool, cases_eq}
use Rattle.std.specs.List.{insert, remove}
use Rattle.mls_leaf.specs.declared.node.Node.{Node}
use Rattle.mls_tree_model.specs.Sets.{same_bytes, count}
use Rattle.mls_tree_index.specs.declared.kind.KeyKind.{KeyKind}
use Rattle.mls_tree_index.specs.Keys.{key_of, key_in, keys_of, is_key, is_key_at, is_held, repeats_in}
use Rattle.mls_tree_index.specs.declared.entry.Entry.{Entry}
use Rattle.mls_tree_index.specs.Order.{Entries, IsGap, IsPart}
use Rattle.mls_tree_index.specs.Entries.{AreOrdered, BeginsWithBytes, IsEntry, front_of, numbers_of}
use Rattle.mls_tree_index.specs.Indexes.{Listing, Indexes, SameIndex, Without}
use Rattle.mls_tree_index.specs.Searches.{AnswersAround, AnswersAt, IsPlaceOf}
use Rattle.mls_tree_index.proofs.BlockLaws.{all_insert, all_remove}
use Rattle.mls_tree_index.proofs.EntryLists.{keyed_whole, length_numbers, numbers_put, numbers_taken, ordered_part}
use Rattle.mls_tree_index.proofs.OrderLaws.{key_found, key_missed}
use Rattle.mls_tree_index.proofs.EntryLaws.{with_entry, stands, without_entry}
use Rattle.mls_tree_index.proofs.EntryLaws.{found_beside, none_before, no_key}
use Rattle.mls_tree_index.proofs.CountLaws.{none_blank, counted, counted_at, one_more, repeats_within}
use Rattle.mls_tree_index.proofs.Laws.{indexes_alike}

held : (n : ℕ) → 1 ≤ n → not (n == 0) ≡ true
held n some = ap not (ne_eqb n 0 (λ e. absurd (omega arith)))

pub at_least : (n : ℕ) → (n == 0) ≡ false → 1 ≤ n
at_least zero h = absurd (true≢false h)
at_least (suc n) h = omega arith

pub held_at : (kind : KeyKind) (c : List (Option Node)) (k : List ℕ) (x : ℕ) → key_in kind c x ≡ Some k → true ≡ is_held kind c k
held_at kind c k x is = sym (held (count same_bytes k (keys_of kind c)) (counted (key_of kind) (none_blank kind) c x k is))

pub held_nowhere : (kind : KeyKind) (c : List (Option Node)) (k : List ℕ) → ((x : ℕ) → key_in kind c x ≡ Some k → ⊥) → false ≡ is_held kind c k
held_nowhere kind c k other =
    elim (cases_Bool (count same_bytes k (keys_of kind c) == 0)) [
      | inl none ↦ sym (ap not none)
      | inr some ↦
          let at = counted_at (key_of kind) (none_blank kind) c k (at_least (count same_bytes k (keys_of kind c)) some) in
          absurd (other at.0 at.1)
    ]

-- what the entries beside a place tell
module _ (kind : KeyKind) (c cells : List (Option Node)) (part : IsPart (key_in kind c) (key_in kind cells)) (ns : List ℕ) (es : Entries (key_in kind c) ns) (k : List ℕ) where
  own : (p : ℕ) → p < length ns → key_in kind cells (get_or ns p 0) ≡ key_in kind c (get_or ns p 0)
  own p lt = part (get_or ns p 0) (es.keyed p lt)

  pub held_here : (p : ℕ) → true ≡ is_key_at kind cells ns p k → true ≡ is_held kind c k
  held_here p h =
      let both = and_parts (nat_lt p (length ns)) (is_key k (key_in kind cells (get_or ns p 0))) (sym h) in
      held_at kind c k (get_or ns p 0) (sym (own p (ltb-true p (length ns) both.0)) ∙ key_found k (key_in kind cells (get_or ns p 0)) both.1)

  not_here : (p : ℕ) → false ≡ is_key_at kind cells ns p k → p < length ns → key_in kind c (get_or ns p 0) ≡ Some k → ⊥
  not_here p h lt is =
      key_missed k (key_in kind cells (get_or ns p 0)) (sym (h ∙ ap (λ v. v && is_key k (key_in kind cells (get_or ns p 0))) (lt-ltb p (length ns) lt))) (own p lt ∙ is)

  pub held_not_beside : (x p : ℕ) → IsGap (key_in kind c) ns (k, x) p → false ≡ is_key_at kind cells ns p k → (1 ≤ p → false ≡ is_key_at kind cells ns (p - 1) k) → false ≡ is_held kind c k
  held_not_beside x p gap here before = held_nowhere kind c k (λ y at. elim (found_beside (key_in kind c) ns es k x p gap y at) [
    | inl is ↦ not_here p here is.0 is.1
    | inr is ↦ not_here (p - 1) (before is.0) is.1.0 is.1.1
  ])

  -- the first entry with a key tells alone
  pub held_first : (p : ℕ) → IsGap (key_in kind c) ns (k, 0) p → is_key_at kind cells ns p k ≡ is_held kind c k
  held_first p gap = elim (cases_Bool (is_key_at kind cells ns p k)) [
    | inl here ↦ here ∙ held_here p (sym here)
    | inr other ↦
        other
        ∙ held_nowhere kind c k (λ y at. elim (found_beside (key_in kind c) ns es k 0 p gap y at) [
          | inl is ↦ not_here p (sym other) is.0 is.1
          | inr is ↦ none_before (key_in kind c) ns es k p gap is.0 is.1.1
        ])
  ]

-- what makes an index of a listing
pub indexes_from : (kind : KeyKind) (es : List Entry) (c : List (Option Node)) (s : Listing) → s.kind ≡ kind → s.entries ≡ es → AreOrdered (key_in kind c) es → s.repeats ≡ repeats_in (keys_of kind c) → Indexes c s
indexes_from kind es c s same entries are repeats = record {
  entries = subst (λ j. AreOrdered (key_in j c) s.entries) (sym same) (subst (AreOrdered (key_in kind c)) (sym entries) are);
  repeats = repeats ∙ ap (λ j. repeats_in (keys_of j c)) (sym same);
}

pub same_index : (c : List (Option Node)) (s t : Listing) → SameIndex s t → Indexes c s → Indexes c t
same_index c s t same is = indexes_from s.kind s.entries c t same.kind same.entries is.entries (same.repeats ∙ is.repeats)

-- the answers of a list of entries are those of a listing with it
pub place_for : (s : Listing) (kind : KeyKind) (es : List Entry) (cells : List (Option Node)) (k : List ℕ) (x p : ℕ) → kind ≡ s.kind → es ≡ s.entries → IsPlaceOf kind es cells k x p → IsPlaceOf s.kind s.entries cells k x p
place_for s kind es cells k x p kinds entries h =
    subst (λ j. IsPlaceOf j s.entries cells k x p) kinds (subst (λ fs. IsPlaceOf kind fs cells k x p) entries h)

pub around_for : (s : Listing) (kind : KeyKind) (es : List Entry) (cells : List (Option Node)) (k : List ℕ) (p : ℕ) (answer : Bool) → kind ≡ s.kind → es ≡ s.entries → AnswersAround kind es cells p k answer → AnswersAround s.kind s.entries cells p k answer
around_for s kind es cells k p answer kinds entries h =
    subst (λ j. AnswersAround j s.entries cells p k answer) kinds (subst (λ fs. AnswersAround kind fs cells p k answer) entries h)

pub at_for : (s : Listing) (kind : KeyKind) (es : List Entry) (cells : List (Option Node)) (k : List ℕ) (p : ℕ) (answer : Bool) → kind ≡ s.kind → es ≡ s.entries → AnswersAt kind es cells p k answer → AnswersAt s.kind s.entries cells p k answer
at_for s kind es cells k p answer kinds entries h =
    subst (λ j. AnswersAt j s.entries cells p k answer) kinds (subst (λ fs. AnswersAt kind fs cells p k answer) entries h)

-- ---- entering a cell and leaving it

module _ (x : ℕ) (cells b c : List (Option Node)) (t : Listing) (without : Without t.kind x cells b c) where
  keyless : key_in t.kind cells x ≡ None → (y : ℕ) → key_in t.kind b y ≡ key_in t.kind c y
  keyless none y = elim (cases_eq y x) [
    | inl same ↦ ap (key_in t.kind b) same ∙ without.blank ∙ sym (without.here ∙ none) ∙ ap (key_in t.kind c) (sym same)
    | inr other ↦ without.others y other
  ]

  pub nothing_entered : key_in t.kind cells x ≡ None → Indexes b t → Indexes c t
  nothing_entered none = indexes_alike t b c (keyless none)

  pub nothing_left : key_in t.kind cells x ≡ None → Indexes c t → Indexes b t
  nothing_left none = indexes_alike t c b (λ y. sym (keyless none y))

  pub part_before : IsPart (key_in t.kind b) (key_in t.kind cells)
  part_before y some = elim (cases_eq y x) [
    | inl same ↦ absurd (no_key (key_in t.kind b y) (ap (key_in t.kind b) same ∙ without.blank) some)
    | inr other ↦ without.part y (ap is_some (sym (without.others y other)) ∙ some) ∙ sym (without.others y other)
  ]

  module _ (k : List ℕ) (key : key_in t.kind cells x ≡ Some k) where
    here : key_in t.kind c x ≡ Some k
    here = without.here ∙ key

    more : repeats_in (keys_of t.kind c) ≡ repeats_in (keys_of t.kind b) + cond (count same_bytes k (keys_of t.kind b) == 0) 0 1
    more = (one_more (key_of t.kind) (none_blank t.kind) x k b c without.long here without.blank without.others).repeats

    -- how many repeat more, where the key is held or isn't
    pub one_held : true ≡ is_held t.kind b k → repeats_in (keys_of t.kind c) ≡ repeats_in (keys_of t.kind b) + 1
    one_held h = more ∙ ap (λ v. repeats_in (keys_of t.kind b) + cond v 0 1) (other_test (count same_bytes k (keys_of t.kind b) == 0) (sym h))
      where
        other_test : (v : Bool) → not v ≡ true → v ≡ false
        other_test true h = sym h
        other_test false h = refl

    pub none_held : false ≡ is_held t.kind b k → repeats_in (keys_of t.kind c) ≡ repeats_in (keys_of t.kind b)
    none_held h =
        more ∙ ap (λ v. repeats_in (keys_of t.kind b) + cond v 0 1) (other_test (count same_bytes k (keys_of t.kind b) == 0) (sym h)) ∙ plain (repeats_in (keys_of t.kind b))
      where
        other_test : (v : Bool) → not v ≡ false → v ≡ true
        other_test true h = refl
        other_test false h = sym h

        plain : (n : ℕ) → n + 0 ≡ n
        plain n = omega arith

    pub not_less : repeats_in (keys_of t.kind b) ≤ repeats_in (keys_of t.kind c)
    not_less = let sum = more in omega arith

    -- its keys are those of c
    part_after : IsPart (key_in t.kind b) (key_in t.kind c)
    part_after y some = elim (cases_eq y x) [
      | inl same ↦ absurd (no_key (key_in t.kind b y) (ap (key_in t.kind b) same ∙ without.blank) some)
      | inr other ↦ sym (without.others y other)
    ]

    module _ (e : Entry) (number : e.number ≡ x) (front : e.front ≡ front_of k) (bytes : BeginsWithBytes k) where
      its_entry : IsEntry (key_in t.kind c) e
      its_entry = record { key = k; here = ap (key_in t.kind c) number ∙ here; front = front; bytes = bytes }

      pub entered : (p : ℕ) → AreOrdered (key_in t.kind b) t.entries → IsGap (key_in t.kind b) (numbers_of t.entries) (k, x) p → AreOrdered (key_in t.kind c) (insert t.entries p e)
      entered p are gap = record {
        numbers = subst (Entries (key_in t.kind c)) (sym (numbers_put t.entries p e ∙ ap (insert (numbers_of t.entries) p) number)) (with_entry x k (key_in t.kind b) (key_in t.kind c) here without.blank without.others (numbers_of t.entries) p are.numbers gap);
        keyed = all_insert (IsEntry (key_in t.kind c)) t.entries p e its_entry (keyed_whole (key_in t.kind b) (key_in t.kind c) part_after t.entries are.keyed);
      }

    pub placed : (p : ℕ) → AreOrdered (key_in t.kind c) t.entries → IsGap (key_in t.kind c) (numbers_of t.entries) (k, x) p → p < length t.entries
    placed p are gap =
        let inside = (stands x k (key_in t.kind b) (key_in t.kind c) here without.blank without.others (numbers_of t.entries) p are.numbers gap).0 in
        let wide = length_numbers t.entries in
        omega arith

    pub left : (p : ℕ) → AreOrdered (key_in t.kind c) t.entries → IsGap (key_in t.kind c) (numbers_of t.entries) (k, x) p → AreOrdered (key_in t.kind b) (remove t.entries p)
    left p are gap =
        ordered_part (key_in t.kind b) (key_in t.kind c) part_after (remove t.entries p)
        (subst (Entries (key_in t.kind b)) (sym (numbers_taken t.entries p)) (without_entry x k (key_in t.kind b) (key_in t.kind c) here without.blank without.others (numbers_of t.entries) p are.numbers gap))
        (all_remove (IsEntry (key_in t.kind c)) t.entries p are.keyed)

    pub few : repeats_in (keys_of t.kind c) ≤ length cells
    few = subst (λ n. repeats_in (keys_of t.kind c) ≤ n) without.wide (repeats_within (key_of t.kind) (none_blank t.kind) c)
