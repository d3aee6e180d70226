use Rattle.std.proofs.Common.{◌≡◌, ℕ, List, true, false, nat_lt, arith, sym, ◌∙◌, ap, refl}
use Rattle.std.proofs.lemmas.Bool.Decides.{nat_tests}
use Rattle.std.specs.Ordering.{nat_cmp, ordering_then, is_eq, is_lt}
use Rattle.std.specs.Cmp.Lexicographic.{slice_cmp, texts_ties}
use Rattle.std.specs.declared.cmp.Ordering.{Ordering}
use Rattle.std.specs.declared.cmp.Ordering.TheVariants.{Less, Equal, Greater}
use Rattle.mls_tree_index.proofs.order.is_key_before.Goals as goal

-- among equal keys the numbers tell the order
tied : (o : Ordering) (m n : ℕ) → is_eq o ≡ true → nat_lt m n ≡ is_lt (ordering_then o (nat_cmp m n))
tied Less m n same = grind (arith, nat_tests)
tied Equal m n same = grind (arith, nat_tests)
tied Greater m n same = grind (arith, nat_tests)

-- other keys tell it themselves
apart : (o : Ordering) (m n : ℕ) → is_eq o ≡ false → is_lt o ≡ is_lt (ordering_then o (nat_cmp m n))
apart Less m n other = refl
apart Equal m n other = grind (arith, nat_tests)
apart Greater m n other = refl

pub returns-then-eq : goal.returns-then-eq
returns-then-eq c =
    let key = c.args.key.now in
    let m = c.args.own.number in
    let n = c.args.entry.number in
    let held = c.key-held.result.now in
    let told = λ (own : List ℕ). is_lt (ordering_then (slice_cmp nat_cmp own key) (nat_cmp m n)) in
    tied (slice_cmp nat_cmp held key) m n (sym (texts_ties held key) ∙ sym c.eq.ensures ∙ c.if-eq.true)
    ∙ ap told c.key-held.ensures

pub returns : goal.returns
returns c =
    let key = c.args.key.now in
    let m = c.args.own.number in
    let n = c.args.entry.number in
    let held = c.key-held.result.now in
    let told = λ (own : List ℕ). is_lt (ordering_then (slice_cmp nat_cmp own key) (nat_cmp m n)) in
    c.is_lt.ensures
    ∙ ap is_lt c.compare.ensures
    ∙ apart (slice_cmp nat_cmp held key) m n (sym (texts_ties held key) ∙ sym c.eq.ensures ∙ c.if-eq.false)
    ∙ ap told c.key-held.ensures
