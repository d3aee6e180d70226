use Rattle.std.proofs.Common.{◌≡◌, ℕ, ◌+◌, ◌≤◌, List, [], ◌∷◌, length, drop, arith, sym, ◌∙◌, length-drop}
use Rattle.std.proofs.lemmas.Bool.Decides.{nat_tests}
use Rattle.std.specs.Ordering.{nat_cmp}
use Rattle.std.specs.Cmp.Lexicographic.{slice_cmp}
use Rattle.mls_tree_index.proofs.order.compare.Goals as goal

-- where one of two ends is empty, the lengths tell the order
ended : (us vs : List ℕ) (m n k : ℕ) → m ≡ k + length us → n ≡ k + length vs → (1 ≤ length us → length vs ≡ 0) → nat_cmp m n ≡ slice_cmp nat_cmp us vs
ended [] [] m n k own other one = grind (arith, nat_tests)
ended [] (v ∷ vs) m n k own other one = grind (arith, nat_tests)
ended (u ∷ us) [] m n k own other one = grind (arith, nat_tests)
ended (u ∷ us) (v ∷ vs) m n k own other one = absurd (omega (arith, one (omega arith)))

pub returns : goal.returns
returns c =
    let past = c.loop-x-test.false in
    let le = c.loop-x.auto.x-end in
    let own = c.args.own.now in
    let key = c.args.key.now in
    let x = c.loop-x.x in
    c.cmp-2.ensures
    ∙ ended (drop x own) (drop x key) (length own) (length key) x (omega (arith, length-drop {A = ℕ})) (omega (arith, length-drop {A = ℕ})) (omega (arith, length-drop {A = ℕ}))
    ∙ sym c.loop-x.invariant
