use Rattle.std.proofs.Common.{◌-◌, ◌∙◌, take, ap, sym, refl, arith, subst}
use Rattle.mls_treemath.proofs.Sizes.{nodes_in_pos}
use Rattle.mls_tree.specs.IndexedKeys.{AreIndexes}
use Rattle.mls_tree_array.proofs.StandingLaws.{height-term_of, trimmed_front}
use Rattle.mls_tree.proofs.Checked.{size_fits}
use Rattle.mls_tree.proofs.Indexing.{cut_size, trimmed_as}
use Rattle.mls_tree.proofs.edits.trim.Goals as goal

pub trimmed_height-low-requires : goal.trimmed_height-low-requires
trimmed_height-low-requires c = rw c.of.ensures c.requires.end

pub overflow_add-count : goal.overflow_add-count
overflow_add-count c =
    let low = rw (c.of.ensures, height-term_of) at c.trimmed_height-low.ensures.low in
    let tall = c.requires.low in
    omega arith

pub overflow_shl-count : goal.overflow_shl-count
overflow_shl-count c =
    let low = rw (c.of.ensures, height-term_of) at c.trimmed_height-low.ensures.low in
    let tall = c.requires.low in
    omega arith

pub overflow_sub-count : goal.overflow_sub-count
overflow_sub-count c =
    let low = rw (c.of.ensures, height-term_of) at c.trimmed_height-low.ensures.low in
    let tall = c.requires.low in
    let cut = cut_size c.trimmed_height-low.result (omega arith) in
    let pos = nodes_in_pos c.trimmed_height-low.result in
    omega arith

pub returns-clause-low : goal.returns-clause-low
returns-clause-low c = rw (c.of.ensures, height-term_of) at c.trimmed_height-low.ensures.low

pub leave_from-requires-clause-fits : goal.leave_from-requires-clause-fits
leave_from-requires-clause-fits c = let fits = size_fits c.args.height c.args.cells.now.nodes c.requires.stands c.requires.low in omega arith

pub returns-clause-order : goal.returns-clause-order
returns-clause-order c =
    let low = rw (c.of.ensures, height-term_of) at c.trimmed_height-low.ensures.low in
    let tall = c.requires.low in
    let xs = c.args.cells.now.nodes in
    trimmed_as c.args.height c.trimmed_height-low.result _ xs xs _ c.requires.stands low (cut_size c.trimmed_height-low.result (omega arith)) refl
    (trimmed_front c.args.height c.trimmed_height-low.result xs c.requires.stands (rw c.of.ensures at c.trimmed_height-low.ensures.value))
    (ap (λ r. r.nodes) c.truncate.ensures)

pub returns-clause-hashes : goal.returns-clause-hashes
returns-clause-hashes c =
    let low = rw (c.of.ensures, height-term_of) at c.trimmed_height-low.ensures.low in
    let tall = c.requires.low in
    ap (λ r. r.hashes) c.truncate.ensures ∙ ap (λ n. take n c.args.cells.now.hashes) (cut_size c.trimmed_height-low.result (omega arith))

pub returns-clause-indexes : goal.returns-clause-indexes
returns-clause-indexes c = λ is. subst (λ cs. AreIndexes cs c.leave_from.new.self) (sym (ap (λ r. r.nodes) c.truncate.ensures)) (c.leave_from.ensures is)
