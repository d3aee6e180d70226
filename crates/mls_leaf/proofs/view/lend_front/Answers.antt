use Rattle.std.proofs.Common.{◌≡◌, ℕ, ◌+◌, ◌-◌, List, ◌++◌, length, take, ap, ◌∙◌, refl, arith}
use Rattle.std.proofs.lemmas.List.{length-append, take_at}
use Rattle.mls_leaf.proofs.view.lend_front.Goals as goal

-- the front of a text and more is the text
front_is : (bytes text rest : List ℕ) → bytes ≡ text ++ rest → take (length bytes - length rest) bytes ≡ text
front_is bytes text rest e =
    let len : length bytes ≡ length text + length rest = ap length e ∙ length-append text rest in
    let front : length bytes - length rest ≡ length text = omega arith in
    ap (λ (n : ℕ). take n bytes) front ∙ ap (take (length text)) e ∙ take_at text rest (length text) refl

pub returns-clause-front : goal.returns-clause-front
returns-clause-front c = λ text e. c.split_at.ensures.front ∙ ap (λ (n : ℕ). take n c.args.before.now) c.saturating_sub.ensures ∙ front_is c.args.before.now text c.args.left.now e
