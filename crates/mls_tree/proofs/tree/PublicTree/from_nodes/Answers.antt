use Rattle.std.proofs.Common.{true, false, Ok, refl, subst, ap, ◌∙◌, sym, arith}
use Rattle.std.proofs.lemmas.Nat.{one_shl}
use Rattle.mls_tree.proofs.Checked.{size_fits}
use Rattle.mls_tree.proofs.KeptHashes.{cold_by}
use Rattle.mls_tree.proofs.Bounding.{unknown}
use Rattle.mls_tree.proofs.RefusalLaws.{one_number, not_refused}
use Rattle.mls_tree_model.specs.Term.{is_full_width}
use Rattle.mls_tree_model.specs.Good.{has_good_shape}
use Rattle.mls_tree_model.specs.Arrays.{has_last, alternates, height_for, term_of}
use Rattle.mls_tree.specs.ShortLeaves.{HasShortLeaves}
use Rattle.mls_tree.proofs.ShortLeaves.{short_leaves}
use Rattle.mls_tree.proofs.SentLemmas.{sent_is}
use Rattle.mls_tree.proofs.Receiving.{no_last, misplaced, stands_as, same_term, half_empty, too_large, received}
use Rattle.mls_tree_model.proofs.ArrayLaws.{size-term_of}
use Rattle.mls_tree.proofs.Chilling.{new_tree}
use Rattle.mls_tree.proofs.tree.PublicTree.from_nodes.Goals as goal

pub returns-then-not-has_last-clause-answer : goal.returns-then-not-has_last-clause-answer
returns-then-not-has_last-clause-answer c =
    λ _. no_last _ (ap has_last (sym c.deref.ensures.value) ∙ sym c.has_last.ensures ∙ c.if-not-has_last.true)

pub returns-then-not-has_last-clause-outright : goal.returns-then-not-has_last-clause-outright
returns-then-not-has_last-clause-outright c =
    one_number _ 20 (no_last _ (ap has_last (sym c.deref.ensures.value) ∙ sym c.has_last.ensures ∙ c.if-not-has_last.true))

pub returns-then-not-alternates-clause-answer : goal.returns-then-not-alternates-clause-answer
returns-then-not-alternates-clause-answer c =
    let last = ap has_last (sym c.deref.ensures.value) ∙ sym c.has_last.ensures ∙ c.if-not-has_last.false in
    λ _. misplaced _ last (ap (alternates true) (sym c.deref-2.ensures.value) ∙ sym c.alternates.ensures ∙ c.if-not-alternates.true)

pub returns-then-not-alternates-clause-outright : goal.returns-then-not-alternates-clause-outright
returns-then-not-alternates-clause-outright c =
    let last = ap has_last (sym c.deref.ensures.value) ∙ sym c.has_last.ensures ∙ c.if-not-has_last.false in
    one_number _ 20 (misplaced _ last (ap (alternates true) (sym c.deref-2.ensures.value) ∙ sym c.alternates.ensures ∙ c.if-not-alternates.true))

pub returns-then-not-is_full_width-clause-answer : goal.returns-then-not-is_full_width-clause-answer
returns-then-not-is_full_width-clause-answer c =
    let last = ap has_last (sym c.deref.ensures.value) ∙ sym c.has_last.ensures ∙ c.if-not-has_last.false in
    let placed = ap (alternates true) (sym c.deref-2.ensures.value) ∙ sym c.alternates.ensures ∙ c.if-not-alternates.false in
    let at = c.height_for-height.ensures.value ∙ ap height_for (c.len.ensures ∙ c.args.nodes.ok.0) in
    let empty = ap (λ xs. is_full_width (term_of c.height_for-height.result xs)) (sym c.deref-3.ensures.value) ∙ sym c.is_full_width.ensures ∙ c.if-not-is_full_width.true in
    λ _. half_empty c.args.nodes.items last placed c.height_for-height.result at empty

pub returns-then-not-is_full_width-clause-outright : goal.returns-then-not-is_full_width-clause-outright
returns-then-not-is_full_width-clause-outright c =
    let last = ap has_last (sym c.deref.ensures.value) ∙ sym c.has_last.ensures ∙ c.if-not-has_last.false in
    let placed = ap (alternates true) (sym c.deref-2.ensures.value) ∙ sym c.alternates.ensures ∙ c.if-not-alternates.false in
    let at = c.height_for-height.ensures.value ∙ ap height_for (c.len.ensures ∙ c.args.nodes.ok.0) in
    let empty = ap (λ xs. is_full_width (term_of c.height_for-height.result xs)) (sym c.deref-3.ensures.value) ∙ sym c.is_full_width.ensures ∙ c.if-not-is_full_width.true in
    one_number _ 20 (half_empty c.args.nodes.items last placed c.height_for-height.result at empty)

pub returns-then-height-gt-MAX_HEIGHT-clause-answer : goal.returns-then-height-gt-MAX_HEIGHT-clause-answer
returns-then-height-gt-MAX_HEIGHT-clause-answer c =
    let last = ap has_last (sym c.deref.ensures.value) ∙ sym c.has_last.ensures ∙ c.if-not-has_last.false in
    let placed = ap (alternates true) (sym c.deref-2.ensures.value) ∙ sym c.alternates.ensures ∙ c.if-not-alternates.false in
    let at = c.height_for-height.ensures.value ∙ ap height_for (c.len.ensures ∙ c.args.nodes.ok.0) in
    let full = ap (λ xs. is_full_width (term_of c.height_for-height.result xs)) (sym c.deref-3.ensures.value) ∙ sym c.is_full_width.ensures ∙ c.if-not-is_full_width.false in
    λ _. too_large c.args.nodes.items last placed c.height_for-height.result at full (let high = c.if-height-gt-MAX_HEIGHT.true in omega arith)

pub returns-then-height-gt-MAX_HEIGHT-clause-outright : goal.returns-then-height-gt-MAX_HEIGHT-clause-outright
returns-then-height-gt-MAX_HEIGHT-clause-outright c =
    let last = ap has_last (sym c.deref.ensures.value) ∙ sym c.has_last.ensures ∙ c.if-not-has_last.false in
    let placed = ap (alternates true) (sym c.deref-2.ensures.value) ∙ sym c.alternates.ensures ∙ c.if-not-alternates.false in
    let at = c.height_for-height.ensures.value ∙ ap height_for (c.len.ensures ∙ c.args.nodes.ok.0) in
    let full = ap (λ xs. is_full_width (term_of c.height_for-height.result xs)) (sym c.deref-3.ensures.value) ∙ sym c.is_full_width.ensures ∙ c.if-not-is_full_width.false in
    one_number _ 21 (too_large c.args.nodes.items last placed c.height_for-height.result at full (let high = c.if-height-gt-MAX_HEIGHT.true in omega arith))

pub pad_tree-requires : goal.pad_tree-requires
pad_tree-requires c = record { holds = c.height_for-height.ensures.value ∙ ap height_for (c.len.ensures ∙ c.args.nodes.ok.0); low = omega arith }

pub returns-in_err-pad_tree-clause-outright : goal.returns-in_err-pad_tree-clause-outright
returns-in_err-pad_tree-clause-outright c =
    let last = ap has_last (sym c.deref.ensures.value) ∙ sym c.has_last.ensures ∙ c.if-not-has_last.false in
    let placed = ap (alternates true) (sym c.deref-2.ensures.value) ∙ sym c.alternates.ensures ∙ c.if-not-alternates.false in
    let at = c.height_for-height.ensures.value ∙ ap height_for (c.len.ensures ∙ c.args.nodes.ok.0) in
    let full = ap (λ xs. is_full_width (term_of c.height_for-height.result xs)) (sym c.deref-3.ensures.value) ∙ sym c.is_full_width.ensures ∙ c.if-not-is_full_width.false in
    let low = c.if-height-gt-MAX_HEIGHT.false in
    λ n h. absurd (not_refused _ _ (received c.args.nodes.items last placed c.height_for-height.result at full (omega arith)) n h)

pub returns-in_err-cells-clause-outright : goal.returns-in_err-cells-clause-outright
returns-in_err-cells-clause-outright c =
    let last = ap has_last (sym c.deref.ensures.value) ∙ sym c.has_last.ensures ∙ c.if-not-has_last.false in
    let placed = ap (alternates true) (sym c.deref-2.ensures.value) ∙ sym c.alternates.ensures ∙ c.if-not-alternates.false in
    let at = c.height_for-height.ensures.value ∙ ap height_for (c.len.ensures ∙ c.args.nodes.ok.0) in
    let full = ap (λ xs. is_full_width (term_of c.height_for-height.result xs)) (sym c.deref-3.ensures.value) ∙ sym c.is_full_width.ensures ∙ c.if-not-is_full_width.false in
    let low = c.if-height-gt-MAX_HEIGHT.false in
    λ n h. absurd (not_refused _ _ (received c.args.nodes.items last placed c.height_for-height.result at full (omega arith)) n h)

pub returns-in_err-indexes-clause-outright : goal.returns-in_err-indexes-clause-outright
returns-in_err-indexes-clause-outright c =
    let last = ap has_last (sym c.deref.ensures.value) ∙ sym c.has_last.ensures ∙ c.if-not-has_last.false in
    let placed = ap (alternates true) (sym c.deref-2.ensures.value) ∙ sym c.alternates.ensures ∙ c.if-not-alternates.false in
    let at = c.height_for-height.ensures.value ∙ ap height_for (c.len.ensures ∙ c.args.nodes.ok.0) in
    let full = ap (λ xs. is_full_width (term_of c.height_for-height.result xs)) (sym c.deref-3.ensures.value) ∙ sym c.is_full_width.ensures ∙ c.if-not-is_full_width.false in
    let low = c.if-height-gt-MAX_HEIGHT.false in
    λ n h. absurd (not_refused _ _ (received c.args.nodes.items last placed c.height_for-height.result at full (omega arith)) n h)

pub build-requires : goal.build-requires
build-requires c =
    let last = ap has_last (sym c.deref.ensures.value) ∙ sym c.has_last.ensures ∙ c.if-not-has_last.false in
    let placed = ap (alternates true) (sym c.deref-2.ensures.value) ∙ sym c.alternates.ensures ∙ c.if-not-alternates.false in
    let at = c.height_for-height.ensures.value ∙ ap height_for (c.len.ensures ∙ c.args.nodes.ok.0) in
    let stands = stands_as c.args.nodes.items last placed c.height_for-height.result at _ (ap (λ r. r.nodes) c.in_ok-cells.ensures ∙ c.in_ok-pad_tree.ensures.ok) in
    let low = c.if-height-gt-MAX_HEIGHT.false in
    let fits = size_fits c.height_for-height.result _ stands (omega arith) in
    omega arith

pub invariant_of-result : goal.invariant_of-result
invariant_of-result c =
    let last = ap has_last (sym c.deref.ensures.value) ∙ sym c.has_last.ensures ∙ c.if-not-has_last.false in
    let placed = ap (alternates true) (sym c.deref-2.ensures.value) ∙ sym c.alternates.ensures ∙ c.if-not-alternates.false in
    let at = c.height_for-height.ensures.value ∙ ap height_for (c.len.ensures ∙ c.args.nodes.ok.0) in
    let stands = stands_as c.args.nodes.items last placed c.height_for-height.result at _ (ap (λ r. r.nodes) c.in_ok-cells.ensures ∙ c.in_ok-pad_tree.ensures.ok) in
    let padded = stands_as c.args.nodes.items last placed c.height_for-height.result at _ c.in_ok-pad_tree.ensures.ok in
    let low = c.if-height-gt-MAX_HEIGHT.false in
    (stands, omega arith, cold_by c.height_for-height.result _ _ _ (ap (λ r. r.hashes) c.in_ok-cells.ensures) padded.size, unknown c.height_for-height.result _ _ (one_shl c.height_for-height.result 32 (omega arith)), c.in_ok-indexes.ensures)

pub returns-clause-answer : goal.returns-clause-answer
returns-clause-answer c =
    let last = ap has_last (sym c.deref.ensures.value) ∙ sym c.has_last.ensures ∙ c.if-not-has_last.false in
    let placed = ap (alternates true) (sym c.deref-2.ensures.value) ∙ sym c.alternates.ensures ∙ c.if-not-alternates.false in
    let at = c.height_for-height.ensures.value ∙ ap height_for (c.len.ensures ∙ c.args.nodes.ok.0) in
    let full = ap (λ xs. is_full_width (term_of c.height_for-height.result xs)) (sym c.deref-3.ensures.value) ∙ sym c.is_full_width.ensures ∙ c.if-not-is_full_width.false in
    let low = c.if-height-gt-MAX_HEIGHT.false in
    received c.args.nodes.items last placed c.height_for-height.result at full (omega arith) ∙ ap Ok (same_term c.args.nodes.items last placed c.height_for-height.result at _ (ap (λ r. r.nodes) c.in_ok-cells.ensures ∙ c.in_ok-pad_tree.ensures.ok))

pub returns-clause-outright : goal.returns-clause-outright
returns-clause-outright c =
    not_refused _ _ (returns-clause-answer c)

pub returns-clause-shape : goal.returns-clause-shape
unfolding has_good_shape
returns-clause-shape c =
    let last = ap has_last (sym c.deref.ensures.value) ∙ sym c.has_last.ensures ∙ c.if-not-has_last.false in
    let placed = ap (alternates true) (sym c.deref-2.ensures.value) ∙ sym c.alternates.ensures ∙ c.if-not-alternates.false in
    let at = c.height_for-height.ensures.value ∙ ap height_for (c.len.ensures ∙ c.args.nodes.ok.0) in
    let full = ap (λ xs. is_full_width (term_of c.height_for-height.result xs)) (sym c.deref-3.ensures.value) ∙ sym c.is_full_width.ensures ∙ c.if-not-is_full_width.false in
    ap is_full_width (sym (same_term c.args.nodes.items last placed c.height_for-height.result at _ (ap (λ r. r.nodes) c.in_ok-cells.ensures ∙ c.in_ok-pad_tree.ensures.ok))) ∙ full

pub returns-clause-short : goal.returns-clause-short
returns-clause-short c = λ short.
    subst HasShortLeaves (sent_is c.args.nodes.items _ (returns-clause-answer c)).0 (short_leaves c.args.nodes.items short)

pub returns-clause-cold : goal.returns-clause-cold
returns-clause-cold c =
    let last = ap has_last (sym c.deref.ensures.value) ∙ sym c.has_last.ensures ∙ c.if-not-has_last.false in
    let placed = ap (alternates true) (sym c.deref-2.ensures.value) ∙ sym c.alternates.ensures ∙ c.if-not-alternates.false in
    let at = c.height_for-height.ensures.value ∙ ap height_for (c.len.ensures ∙ c.args.nodes.ok.0) in
    let padded = stands_as c.args.nodes.items last placed c.height_for-height.result at _ c.in_ok-pad_tree.ensures.ok in
    new_tree _ _ (ap (λ r. r.hashes) c.in_ok-cells.ensures) (padded.size ∙ sym (size-term_of c.height_for-height.result _)) refl
