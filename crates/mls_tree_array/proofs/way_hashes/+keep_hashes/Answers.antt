use Rattle.std.proofs.Common.{◌≡◌, ◌<◌, length, arith}
use Rattle.mls_tree_array.proofs.SubtreeLaws.{root_within, left_shape, right_shape, left_fits, right_fits}
use Rattle.mls_tree_array.proofs.WayLaws.{cold_root}
use Rattle.mls_tree_array.proofs.KeptOnWay.{few_below, kept_leaf, nodes_stay, left_cold, left_kept, right_cold, right_kept}
use Rattle.mls_tree_array.proofs.way_hashes.+keep_hashes.Goals as goal

pub keep_hash-requires-clause-within : goal.keep_hash-requires-clause-within
keep_hash-requires-clause-within t c = root_within c.args.height c.args.first c.root_of.result _ c.root_of.ensures c.requires.shape

pub keep_hash-requires-clause-cold : goal.keep_hash-requires-clause-cold
keep_hash-requires-clause-cold t c = cold_root c.args.height c.args.first c.args.i c.root_of.result _ c.root_of.ensures c.requires.cold

pub returns-then-height-eq0 : goal.returns-then-height-eq0
returns-then-height-eq0 t c = kept_leaf c.args.height c.args.first c.args.i c.root_of.result c.args.hashes.now c.args.cells.now c.keep_hash.new.self c.root_of.ensures c.keep_hash.ensures c.if-height-eq0.true

pub keep_hashes-requires : goal.keep_hashes-requires
keep_hashes-requires t c =
    let pos : 0 < c.args.height = omega arith in
    let half = c.second_first-second.ensures in
    let same : length c.keep_hash.new.self.nodes ≡ length c.args.cells.now.nodes = nodes_stay c.args.height c.args.first c.args.i c.root_of.result c.args.hashes.now c.args.cells.now c.keep_hash.new.self c.root_of.ensures c.keep_hash.ensures in (
      omega arith,
      (
        left_shape c.args.height c.args.first _ pos (omega (arith, c.requires.shape)),
        (
          left_cold c.args.height c.args.first c.args.i c.root_of.result c.args.hashes.now c.args.cells.now c.keep_hash.new.self c.root_of.ensures c.keep_hash.ensures pos (omega arith) c.requires.cold,
          (
            few_below c.args.height c.args.hashes.now pos c.requires.long,
            left_fits c.args.height c.args.first pos c.requires.fits,
          ),
        ),
      ),
    )

pub keep_hashes-requires-else-i-second : goal.keep_hashes-requires-else-i-second
keep_hashes-requires-else-i-second t c =
    let pos : 0 < c.args.height = omega arith in
    let half = c.second_first-second.ensures in
    let same : length c.keep_hash.new.self.nodes ≡ length c.args.cells.now.nodes = nodes_stay c.args.height c.args.first c.args.i c.root_of.result c.args.hashes.now c.args.cells.now c.keep_hash.new.self c.root_of.ensures c.keep_hash.ensures in (
      omega arith,
      (
        right_shape c.args.height c.args.first c.second_first-second.result _ pos half (omega (arith, c.requires.shape)),
        (
          right_cold c.args.height c.args.first c.args.i c.root_of.result c.args.hashes.now c.args.cells.now c.keep_hash.new.self c.root_of.ensures c.keep_hash.ensures pos c.second_first-second.result half c.if-i-second.false c.requires.cold,
          (
            few_below c.args.height c.args.hashes.now pos c.requires.long,
            right_fits c.args.height c.args.first c.second_first-second.result pos half c.requires.fits,
          ),
        ),
      ),
    )

pub returns-then-i-second : goal.returns-then-i-second
returns-then-i-second t c =
    let pos : 0 < c.args.height = omega arith in
    let half = c.second_first-second.ensures in
    left_kept c.args.height c.args.first c.args.i c.root_of.result c.args.hashes.now c.args.cells.now c.keep_hash.new.self c.root_of.ensures c.keep_hash.ensures pos c.keep_hashes.new.cells (omega arith) c.keep_hashes.ensures

pub returns-else-i-second : goal.returns-else-i-second
returns-else-i-second t c =
    let pos : 0 < c.args.height = omega arith in
    right_kept c.args.height c.args.first c.args.i c.root_of.result c.args.hashes.now c.args.cells.now c.keep_hash.new.self c.root_of.ensures c.keep_hash.ensures pos c.second_first-second.result c.second_first-second.ensures c.if-i-second.false c.keep_hashes-else-i-second.new.cells c.keep_hashes-else-i-second.ensures
