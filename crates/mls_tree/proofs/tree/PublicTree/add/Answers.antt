use Rattle.std.proofs.Common.{suc, ◌*◌, ◌^◌, ap, refl, arith}
use Rattle.std.proofs.lemmas.Nat.{one_shl}
use Rattle.mls_treemath.specs.Paths.{nodes_in}
use Rattle.mls_tree.specs.Tree.{term}
use Rattle.mls_tree.proofs.Indexing.{same_indexes, first_is, fills-enter, fills-append, filled_by, new_half, indexed-padded}
use Rattle.mls_tree.proofs.EditsKeepGood.{add_good, add_sound}
use Rattle.mls_tree.proofs.Adding.{add_full, may_add_in, may_add_beside, add_in, add_beside}
use Rattle.mls_tree.proofs.RefusalLaws.{one_number, not_refused}
use Rattle.mls_tree.proofs.KeptHashes.{kept_long, kept-enter, kept-appended}
use Rattle.mls_tree.proofs.Bounding.{from_there, found_low, added, added_beside as bounds_beside}
use Rattle.mls_tree.proofs.Chilling.{added_in, added_beside}
use Rattle.mls_tree.proofs.tree.PublicTree.add.Goals as goal

pub returns-then-height-eq-MAX_HEIGHT-clause-answer : goal.returns-then-height-eq-MAX_HEIGHT-clause-answer
returns-then-height-eq-MAX_HEIGHT-clause-answer c =
    (refl, λ _. add_full c.args.self.now c.args.leaf c.self.inside.height c.self.inside.cells.nodes _ (ap term c.self.view_is) refl c.self.invariant.1 (rw c.of.ensures at c.in-None.ensures) c.if-height-eq-MAX_HEIGHT.true)

pub returns-in_ok-enter-in-Some-clause-answer : goal.returns-in_ok-enter-in-Some-clause-answer
returns-in_ok-enter-in-Some-clause-answer c =
    add_in c.args.self.now c.args.leaf c.self.inside.height c.self.inside.cells.nodes _ (ap term c.self.view_is) refl c.self.invariant.1 _ (rw c.of.ensures at c.in-Some.ensures) _ (rw c.in_ok-leaf-in-Some.ensures at c.in_ok-enter-in-Some.ensures.ok).nodes

pub returns-in_ok-append-in-None-clause-answer : goal.returns-in_ok-append-in-None-clause-answer
returns-in_ok-append-in-None-clause-answer c =
    let low = c.self.invariant.1 in
    add_beside c.args.self.now c.args.leaf c.self.inside.height c.self.inside.cells.nodes _ (ap term c.self.view_is) refl low (rw c.of.ensures at c.in-None.ensures) (let other = c.if-height-eq-MAX_HEIGHT.false in omega arith) _ (rw c.in_ok-leaf-in-None.ensures at c.in_ok-append-in-None.ensures.ok).nodes _ (one_shl c.self.inside.height 32 (omega arith))

pub returns-in_ok-enter-in-Some-clause-good : goal.returns-in_ok-enter-in-Some-clause-good
returns-in_ok-enter-in-Some-clause-good c =
    add_good _ _ c.args.leaf _ (returns-in_ok-enter-in-Some-clause-answer c)

pub returns-in_ok-enter-in-Some-clause-sound : goal.returns-in_ok-enter-in-Some-clause-sound
returns-in_ok-enter-in-Some-clause-sound c =
    add_sound _ _ c.args.leaf _ (returns-in_ok-enter-in-Some-clause-answer c)

pub returns-in_ok-append-in-None-clause-good : goal.returns-in_ok-append-in-None-clause-good
returns-in_ok-append-in-None-clause-good c =
    add_good _ _ c.args.leaf _ (returns-in_ok-append-in-None-clause-answer c)

pub returns-in_ok-append-in-None-clause-sound : goal.returns-in_ok-append-in-None-clause-sound
returns-in_ok-append-in-None-clause-sound c =
    add_sound _ _ c.args.leaf _ (returns-in_ok-append-in-None-clause-answer c)

pub returns-then-height-eq-MAX_HEIGHT-clause-outright : goal.returns-then-height-eq-MAX_HEIGHT-clause-outright
returns-then-height-eq-MAX_HEIGHT-clause-outright c =
    one_number _ 21 (add_full c.args.self.now c.args.leaf c.self.inside.height c.self.inside.cells.nodes _ (ap term c.self.view_is) refl c.self.invariant.1 (rw c.of.ensures at c.in-None.ensures) c.if-height-eq-MAX_HEIGHT.true)

pub returns-in_err-enter-in-Some-clause-outright : goal.returns-in_err-enter-in-Some-clause-outright
returns-in_err-enter-in-Some-clause-outright c = λ n h.
    absurd (not_refused _ _ (may_add_in c.args.self.now c.args.leaf c.self.inside.height c.self.inside.cells.nodes _ (ap term c.self.view_is) refl c.self.invariant.1 _ (rw c.of.ensures at c.in-Some.ensures)) n h)

pub returns-in_err-append-in-None-clause-outright : goal.returns-in_err-append-in-None-clause-outright
returns-in_err-append-in-None-clause-outright c = λ n h.
    let low = c.self.invariant.1 in
    absurd (not_refused _ _ (may_add_beside c.args.self.now c.args.leaf c.self.inside.height c.self.inside.cells.nodes _ (ap term c.self.view_is) refl c.self.invariant.1 (rw c.of.ensures at c.in-None.ensures) (let other = c.if-height-eq-MAX_HEIGHT.false in omega arith)) n h)

pub returns-in_ok-enter-in-Some-clause-outright : goal.returns-in_ok-enter-in-Some-clause-outright
returns-in_ok-enter-in-Some-clause-outright c = not_refused _ _ (returns-in_ok-enter-in-Some-clause-answer c)

pub returns-in_ok-append-in-None-clause-outright : goal.returns-in_ok-append-in-None-clause-outright
returns-in_ok-append-in-None-clause-outright c = not_refused _ _ (returns-in_ok-append-in-None-clause-answer c)

pub returns-in_err-leaf-in-Some-clause-outright : goal.returns-in_err-leaf-in-Some-clause-outright
returns-in_err-leaf-in-Some-clause-outright c = λ n h.
    absurd (not_refused _ _ (may_add_in c.args.self.now c.args.leaf c.self.inside.height c.self.inside.cells.nodes _ (ap term c.self.view_is) refl c.self.invariant.1 _ (rw c.of.ensures at c.in-Some.ensures)) n h)

pub returns-in_err-leaf-in-None-clause-outright : goal.returns-in_err-leaf-in-None-clause-outright
returns-in_err-leaf-in-None-clause-outright c = λ n h.
    let low = c.self.invariant.1 in
    absurd (not_refused _ _ (may_add_beside c.args.self.now c.args.leaf c.self.inside.height c.self.inside.cells.nodes _ (ap term c.self.view_is) refl c.self.invariant.1 (rw c.of.ensures at c.in-None.ensures) (let other = c.if-height-eq-MAX_HEIGHT.false in omega arith)) n h)

pub enter-requires-clause-long : goal.enter-requires-clause-long
enter-requires-clause-long c = kept_long c.self.inside.height c.self.inside.cells.nodes _ c.self.invariant.2

pub append-requires-clause-long : goal.append-requires-clause-long
append-requires-clause-long c = kept_long c.self.inside.height c.self.inside.cells.nodes _ c.self.invariant.2

pub first_blank-requires : goal.first_blank-requires
first_blank-requires c = rw c.of.ensures (from_there _ _ _ _ _ refl c.self.invariant.3)

pub overflow_add-self : goal.overflow_add-self
overflow_add-self c = let low = found_low _ _ _ _ _ refl c.self.invariant.3 _ c.self.invariant.1 (rw c.of.ensures at c.in-Some.ensures) in omega arith

pub overflow_add-i : goal.overflow_add-i
overflow_add-i c = let low = found_low _ _ _ _ _ refl c.self.invariant.3 _ c.self.invariant.1 (rw c.of.ensures at c.in-Some.ensures) in omega arith

pub invariant_of-self-in-Some : goal.invariant_of-self-in-Some
invariant_of-self-in-Some c =
    let entered = rw c.in_ok-leaf-in-Some.ensures at c.in_ok-enter-in-Some.ensures.ok in
    let stands = entered.nodes in
    let first = first_is c.self.inside.height c.self.inside.cells.nodes _ refl _ (rw c.of.ensures at c.in-Some.ensures) in
    let fills = fills-enter c.self.inside.height c.in-Some.i c.self.inside.cells.nodes _ _ c.self.invariant.0 first stands in
    let reserved = same_indexes c.self.inside.cells.nodes _ _ c.in_ok-reserve-in-Some.ensures.same c.self.invariant.4 in
    let indexed = filled_by (2 * c.in-Some.i) _ c.self.inside.cells.nodes c.enter.new.cells.nodes _ _ _ refl refl (c.enter-in-Some.ensures c.self.inside.cells.nodes) fills reserved in
    (stands.stands, c.self.invariant.1, kept-enter _ _ _ c.self.invariant.2 _ _ _ _ _ entered.hashes stands, added _ _ _ _ _ refl c.self.invariant.3 _ _ _ _ _ (rw c.of.ensures at c.in-Some.ensures) stands (omega arith) (omega arith), indexed)

pub invariant_of-self-in-None : goal.invariant_of-self-in-None
invariant_of-self-in-None c =
    let grown = rw c.in_ok-leaf-in-None.ensures at c.in_ok-append-in-None.ensures.ok in
    let stands = grown.nodes in
    let low = c.self.invariant.1 in
    let other = c.if-height-eq-MAX_HEIGHT.false in
    let reserved = same_indexes c.self.inside.cells.nodes _ _ c.in_ok-reserve-in-None.ensures.same c.self.invariant.4 in
    let padded = indexed-padded (suc (nodes_in c.self.inside.height)) c.self.inside.cells.nodes _ reserved in
    let fills = fills-append c.self.inside.height c.self.inside.cells.nodes _ _ c.self.invariant.0 stands in
    let indexed = filled_by (2 * 2 ^ c.self.inside.height) _ _ c.append.new.cells.nodes _ _ _ (new_half c.self.inside.height (omega arith)) refl (c.enter-in-None.ensures _) fills padded in
    (stands.stands, omega arith, kept-appended _ _ _ _ _ _ _ c.self.invariant.2 grown.hashes stands, bounds_beside _ _ _ _ _ refl c.self.invariant.3 _ _ _ _ (rw c.of.ensures at c.in-None.ensures) stands (let is = one_shl c.self.inside.height 32 (omega arith) in omega arith), indexed)

pub returns-in_ok-enter-in-Some-clause-cold : goal.returns-in_ok-enter-in-Some-clause-cold
returns-in_ok-enter-in-Some-clause-cold c =
    added_in c.self.inside.height c.self.inside.cells.nodes _ _ _ _ c.self.view_is refl c.self.invariant.2 _ (rw c.of.ensures at c.in-Some.ensures) _ _ _ (rw c.in_ok-leaf-in-Some.ensures at c.in_ok-enter-in-Some.ensures.ok).hashes refl

pub returns-in_ok-append-in-None-clause-cold : goal.returns-in_ok-append-in-None-clause-cold
returns-in_ok-append-in-None-clause-cold c =
    let low = c.self.invariant.1 in
    added_beside c.self.inside.height c.self.inside.cells.nodes _ _ _ _ c.self.view_is refl c.self.invariant.2 _ (rw c.of.ensures at c.in-None.ensures) (one_shl c.self.inside.height 32 (omega arith)) _ _ _ (rw c.in_ok-leaf-in-None.ensures at c.in_ok-append-in-None.ensures.ok).hashes refl

pub returns-in_err-reserve-in-Some-clause-outright : goal.returns-in_err-reserve-in-Some-clause-outright
returns-in_err-reserve-in-Some-clause-outright c = λ n h.
    absurd (not_refused _ _ (may_add_in c.args.self.now c.args.leaf c.self.inside.height c.self.inside.cells.nodes _ (ap term c.self.view_is) refl c.self.invariant.1 _ (rw c.of.ensures at c.in-Some.ensures)) n h)

pub returns-in_err-reserve-in-None-clause-outright : goal.returns-in_err-reserve-in-None-clause-outright
returns-in_err-reserve-in-None-clause-outright c = λ n h.
    let low = c.self.invariant.1 in
    absurd (not_refused _ _ (may_add_beside c.args.self.now c.args.leaf c.self.inside.height c.self.inside.cells.nodes _ (ap term c.self.view_is) refl c.self.invariant.1 (rw c.of.ensures at c.in-None.ensures) (let other = c.if-height-eq-MAX_HEIGHT.false in omega arith)) n h)

pub overflow_mul-i : goal.overflow_mul-i
overflow_mul-i c = let low = found_low _ _ _ _ _ refl c.self.invariant.3 _ c.self.invariant.1 (rw c.of.ensures at c.in-Some.ensures) in omega arith
