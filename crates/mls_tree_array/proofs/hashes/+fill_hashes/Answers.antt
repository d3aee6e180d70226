use Rattle.std.proofs.Common.{◌≡◌, ◌<◌, ◌∙◌, ℕ, length, sym, ap, arith}
use Rattle.mls_tree_model.specs.Inputs.{leaf_hash, branch_hash}
use Rattle.mls_tree_model.specs.Arrays.{leaf_in}
use Rattle.mls_tree_array.proofs.SubtreeLaws.{root_within, left_shape, left_fits, right_fits}
use Rattle.mls_tree_array.proofs.PartHashes.{warm_value, warm_all, warm_counted, leaf_value, leaf_all, leaf_counted, cold_there, part_left_kept}
use Rattle.mls_tree_array.proofs.FilledSides.{with_hashes, second_shape, second_long, second_keeps, nodes_stay, root_cold, root_value, root_all, root_counted}
use Rattle.mls_tree_array.proofs.hashes.+fill_hashes.Goals as goal

pub hash-requires : goal.hash-requires
hash-requires t c = root_within c.args.height c.args.first c.root_of-root.result _ c.root_of-root.ensures c.requires.shape

pub returns-in-Some-clause-value : goal.returns-in-Some-clause-value
returns-in-Some-clause-value t c =
    warm_value c.args.height c.args.first c.root_of-root.result c.args.cells.now.nodes c.args.cells.now.hashes c.root_of-root.ensures c.requires.keeps c.in-Some.hash (sym c.hash.ensures ∙ c.in-Some.is)

pub returns-in-Some-clause-all : goal.returns-in-Some-clause-all
returns-in-Some-clause-all t c =
    let within = c.requires.shape in
    ap (with_hashes c.args.cells.now)
    (warm_all c.args.height c.args.first c.root_of-root.result c.args.cells.now.nodes c.args.cells.now.hashes c.root_of-root.ensures c.requires.keeps c.in-Some.hash (sym c.hash.ensures ∙ c.in-Some.is) (omega (arith, c.requires.long)))

pub returns-in-Some-clause-counted : goal.returns-in-Some-clause-counted
returns-in-Some-clause-counted t c =
    warm_counted c.args.height c.args.first c.root_of-root.result c.args.cells.now.nodes c.args.cells.now.hashes c.root_of-root.ensures c.requires.keeps c.in-Some.hash (sym c.hash.ensures ∙ c.in-Some.is) _

pub slot-requires : goal.slot-requires
slot-requires t c = root_within c.args.height c.args.first c.root_of-root.result _ c.root_of-root.ensures c.requires.shape

pub returns-then-height-eq0-clause-value : goal.returns-then-height-eq0-clause-value
returns-then-height-eq0-clause-value t c =
    c.leaf_hash-hash.ensures.hash
    ∙ ap (leaf_hash c.args.first) (c.leaf_in.ensures ∙ ap leaf_in c.slot.ensures)
    ∙ sym (leaf_value c.args.height c.args.first c.root_of-root.result c.args.cells.now.nodes c.args.cells.now.hashes c.if-height-eq0.true c.root_of-root.ensures)

pub keep_hash-requires-clause-within : goal.keep_hash-requires-clause-within
keep_hash-requires-clause-within t c = root_within c.args.height c.args.first c.root_of-root.result _ c.root_of-root.ensures c.requires.shape

pub keep_hash-requires-clause-cold : goal.keep_hash-requires-clause-cold
keep_hash-requires-clause-cold t c =
    let within = root_within c.args.height c.args.first c.root_of-root.result _ c.root_of-root.ensures c.requires.shape in
    cold_there c.args.cells.now.hashes c.root_of-root.result (omega (arith, c.requires.long)) (sym c.hash.ensures ∙ c.in_default.is)

pub returns-then-height-eq0-clause-all : goal.returns-then-height-eq0-clause-all
returns-then-height-eq0-clause-all t c =
    let within = root_within c.args.height c.args.first c.root_of-root.result _ c.root_of-root.ensures c.requires.shape in
    c.keep_hash.ensures
    ∙ ap (with_hashes c.args.cells.now)
    (leaf_all c.args.height c.args.first c.root_of-root.result c.args.cells.now.nodes c.args.cells.now.hashes c.if-height-eq0.true c.root_of-root.ensures (omega (arith, c.requires.long)) _ (returns-then-height-eq0-clause-value t c))

pub returns-then-height-eq0-clause-counted : goal.returns-then-height-eq0-clause-counted
returns-then-height-eq0-clause-counted t c =
    let within = root_within c.args.height c.args.first c.root_of-root.result _ c.root_of-root.ensures c.requires.shape in
    leaf_counted c.args.height c.args.first c.root_of-root.result c.args.cells.now.nodes c.args.cells.now.hashes c.if-height-eq0.true c.root_of-root.ensures (omega (arith, c.requires.long)) (sym c.hash.ensures ∙ c.in_default.is) _ _ c.leaf_hash-hash.ensures.counted

pub fill_hashes-left-requires : goal.fill_hashes-left-requires
fill_hashes-left-requires t c =
    let pos : 0 < c.args.height = omega arith in (
      omega arith,
      (
        left_shape c.args.height c.args.first _ pos c.requires.shape,
        (
          c.requires.long,
          (
            left_fits c.args.height c.args.first pos c.requires.fits,
            part_left_kept c.args.height c.args.first c.root_of-root.result c.args.cells.now.nodes c.args.cells.now.hashes pos c.root_of-root.ensures c.requires.shape c.requires.long c.requires.keeps,
          ),
        ),
      ),
    )

pub fill_hashes-right-requires : goal.fill_hashes-right-requires
fill_hashes-right-requires t c =
    let pos : 0 < c.args.height = omega arith in (
      omega arith,
      (
        second_shape c.args.height c.args.first c.root_of-root.result c.second_first.result c.args.cells.now c.fill_hashes-left.new.cells pos c.root_of-root.ensures c.second_first.ensures c.requires.shape c.requires.long c.fill_hashes-left.ensures.all,
        (
          second_long c.args.height c.args.first c.root_of-root.result c.second_first.result c.args.cells.now c.fill_hashes-left.new.cells pos c.root_of-root.ensures c.second_first.ensures c.requires.shape c.requires.long c.fill_hashes-left.ensures.all,
          (
            right_fits c.args.height c.args.first c.second_first.result pos c.second_first.ensures c.requires.fits,
            second_keeps c.args.height c.args.first c.root_of-root.result c.second_first.result c.args.cells.now c.fill_hashes-left.new.cells pos c.root_of-root.ensures c.second_first.ensures c.requires.shape c.requires.long c.fill_hashes-left.ensures.all c.requires.keeps,
          ),
        ),
      ),
    )

-- the root's cell is there still
root_there : (r n m : ℕ) → r < n → m ≡ n → r < m
root_there r n m lt is = omega arith

pub slot-requires-2 : goal.slot-requires-2
slot-requires-2 t c =
    let pos : 0 < c.args.height = omega arith in
    root_there c.root_of-root.result _ _ (root_within c.args.height c.args.first c.root_of-root.result _ c.root_of-root.ensures c.requires.shape)
    (ap length (nodes_stay c.args.height c.args.first c.root_of-root.result c.second_first.result c.args.cells.now c.fill_hashes-left.new.cells pos c.root_of-root.ensures c.second_first.ensures c.requires.shape c.requires.long c.fill_hashes-left.ensures.all c.fill_hashes-right.new.cells c.fill_hashes-right.ensures.all))

pub keep_hash-requires-2-clause-within : goal.keep_hash-requires-2-clause-within
keep_hash-requires-2-clause-within t c =
    let pos : 0 < c.args.height = omega arith in
    root_there c.root_of-root.result _ _ (root_within c.args.height c.args.first c.root_of-root.result _ c.root_of-root.ensures c.requires.shape)
    (ap length (nodes_stay c.args.height c.args.first c.root_of-root.result c.second_first.result c.args.cells.now c.fill_hashes-left.new.cells pos c.root_of-root.ensures c.second_first.ensures c.requires.shape c.requires.long c.fill_hashes-left.ensures.all c.fill_hashes-right.new.cells c.fill_hashes-right.ensures.all))

pub keep_hash-requires-2-clause-cold : goal.keep_hash-requires-2-clause-cold
keep_hash-requires-2-clause-cold t c =
    let pos : 0 < c.args.height = omega arith in
    root_cold c.args.height c.args.first c.root_of-root.result c.second_first.result c.args.cells.now c.fill_hashes-left.new.cells pos c.root_of-root.ensures c.second_first.ensures c.requires.shape c.requires.long c.fill_hashes-left.ensures.all c.fill_hashes-right.new.cells c.fill_hashes-right.ensures.all (sym c.hash.ensures ∙ c.in_default.is)

pub returns-clause-value : goal.returns-clause-value
returns-clause-value t c =
    let pos : 0 < c.args.height = omega arith in
    root_value c.args.height c.args.first c.root_of-root.result c.second_first.result c.args.cells.now c.fill_hashes-left.new.cells pos c.root_of-root.ensures c.second_first.ensures c.requires.shape c.requires.long c.fill_hashes-left.ensures.all c.fill_hashes-right.new.cells c.fill_hashes-right.ensures.all c.branch_hash-hash.result c.fill_hashes-left.result c.fill_hashes-right.result c.slot-2.result.now c.fill_hashes-left.ensures.value c.fill_hashes-right.ensures.value c.slot-2.ensures
    (c.branch_hash-hash.ensures.hash ∙ ap (λ p. branch_hash p c.fill_hashes-left.result c.fill_hashes-right.result) c.parent_in.ensures)

pub returns-clause-all : goal.returns-clause-all
returns-clause-all t c =
    let pos : 0 < c.args.height = omega arith in
    root_all c.args.height c.args.first c.root_of-root.result c.second_first.result c.args.cells.now c.fill_hashes-left.new.cells pos c.root_of-root.ensures c.second_first.ensures c.requires.shape c.requires.long c.fill_hashes-left.ensures.all c.fill_hashes-right.new.cells c.fill_hashes-right.ensures.all c.branch_hash-hash.result c.keep_hash-2.new.self (returns-clause-value t c) c.keep_hash-2.ensures

pub returns-clause-counted : goal.returns-clause-counted
returns-clause-counted t c =
    let pos : 0 < c.args.height = omega arith in
    root_counted c.args.height c.args.first c.root_of-root.result c.second_first.result c.args.cells.now c.fill_hashes-left.new.cells pos c.root_of-root.ensures c.second_first.ensures c.requires.shape c.requires.long c.fill_hashes-left.ensures.all c.fill_hashes-right.new.cells c.fill_hashes-right.ensures.all (sym c.hash.ensures ∙ c.in_default.is) c.args.done.now _ _ _ c.fill_hashes-left.ensures.counted c.fill_hashes-right.ensures.counted c.branch_hash-hash.ensures.counted
