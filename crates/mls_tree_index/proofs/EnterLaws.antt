-- Laws of a cell that enters an index.
use Rattle.std.proofs.Common.{◌≡◌, ℕ, ◌+◌, ◌≤◌, Bool, true, false, List, length, Option, Some, sym, ◌∙◌, ap, arith}
use Rattle.std.specs.List.{insert}
use Rattle.mls_leaf.specs.declared.node.Node.{Node}
use Rattle.mls_tree_index.specs.declared.kind.KeyKind.{KeyKind}
use Rattle.mls_tree_index.specs.Keys.{key_in, is_held}
use Rattle.mls_tree_index.specs.declared.entry.Entry.{Entry}
use Rattle.mls_tree_index.specs.Entries.{AreOrdered, BeginsWithBytes, front_of}
use Rattle.mls_tree_index.specs.Indexes.{EntersCell, Indexes, Listing, Without}
use Rattle.mls_tree_index.specs.Searches.{AnswersAround, IsPlaceOf}
use Rattle.mls_tree_index.proofs.StepLaws.{around_for, entered, few, indexes_from, none_held, one_held, part_before, place_for}

-- the entry of a cell with a key was put at its place, and it is told whether another cell has the key
module _ (x : ℕ) (cells : List (Option Node)) (s : Listing) (kind : KeyKind) (es : List Entry) (k : List ℕ) (p : ℕ) (again : Bool) (e : Entry) (kinds : kind ≡ s.kind) (entries : es ≡ s.entries) (key : key_in s.kind cells x ≡ Some k) (number : e.number ≡ x) (front : e.front ≡ front_of k) (bytes : BeginsWithBytes k) (place : IsPlaceOf kind es cells k x p) (around : AnswersAround kind es cells p k again) where
  module _ (b c : List (Option Node)) (without : Without s.kind x cells b c) (is : Indexes b s) where
    held : again ≡ is_held s.kind b k
    held =
        let part = part_before x cells b c s without in
        let gap = place_for s kind es cells k x p kinds entries place (key_in s.kind b) part is.entries in
        around_for s kind es cells k p again kinds entries around b part is.entries x gap

    more : AreOrdered (key_in s.kind c) (insert s.entries p e)
    more =
        let part = part_before x cells b c s without in
        let gap = place_for s kind es cells k x p kinds entries place (key_in s.kind b) part is.entries in
        entered x cells b c s without k key e number front bytes p is.entries gap

  -- no other cell has it
  pub enters_new : (t : Listing) → t.kind ≡ kind → t.entries ≡ insert es p e → t.repeats ≡ s.repeats → again ≡ false → EntersCell x cells s t
  enters_new t same items repeats none b c without is =
      indexes_from s.kind (insert s.entries p e) c t (same ∙ kinds) (items ∙ ap (λ fs. insert fs p e) entries) (more b c without is)
      (repeats ∙ is.repeats ∙ sym (none_held x cells b c s without k key (sym none ∙ held b c without is)))

  -- another one has it
  pub enters_again : (t : Listing) → t.kind ≡ kind → t.entries ≡ insert es p e → t.repeats ≡ s.repeats + 1 → again ≡ true → EntersCell x cells s t
  enters_again t same items repeats on b c without is =
      let one = one_held x cells b c s without k key (sym on ∙ held b c without is) in
      let old = is.repeats in
      indexes_from s.kind (insert s.entries p e) c t (same ∙ kinds) (items ∙ ap (λ fs. insert fs p e) entries) (more b c without is) (omega arith)

  -- another one has it, and as many keys repeat as there are cells, which doesn't happen
  pub enters_never : (t : Listing) → again ≡ true → length cells ≤ s.repeats → EntersCell x cells s t
  enters_never t on all b c without is =
      let one = one_held x cells b c s without k key (sym on ∙ held b c without is) in
      let low = few x cells b c s without k key in
      let old = is.repeats in
      absurd (omega arith)
