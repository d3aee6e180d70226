use Rattle.std.proofs.lemmas.Result.{err_from_is_err_and}
use Rattle.std.proofs.Common.{◌≡◌, suc, ◌+◌, ◌%◌, ◌^◌, arith, refl, ap, length, length-append, ◌∙◌}
use Rattle.std.proofs.lemmas.List.{nil_from_length}
use Rattle.mls_tree.specs.Tree.{term}
use Rattle.mls_treekem.specs.Faults.{number_of}
use Rattle.mls_treekem.specs.Secrets.{public_keys}
use Rattle.mls_treekem_model.specs.Seeds.{seal_count_of}
use Rattle.mls_treekem.proofs.Sealing.{along_none, count_none, numbers_none, placed_here, placed_below, along_same, count_same, numbers_same, count_one, numbers_more, along_more, along_fails, below_fails}
use Rattle.mls_treekem.proofs.seal.Sealer.+seal_places.Goals as goal

pub returns-in_default-clause-answer : goal.returns-in_default-clause-answer
returns-in_default-clause-answer g t c =
    along_none (term c.args.self.now.tree.now) c.args.places.now (nil_from_length _ c.in_default.ensures.cases) g.S.Suite.crypto c.args.self.now.context.now c.args.self.now.added.now c.args.self.now.seed.now c.args.self.now.path.now.secrets.items (public_keys c.args.self.now.path.now) c.new.result.items c.new.ensures.items

pub returns-in_default-clause-count : goal.returns-in_default-clause-count
returns-in_default-clause-count g t c = count_none (term c.args.self.now.tree.now) c.args.places.now (nil_from_length _ c.in_default.ensures.cases) c.new.result.items c.new.ensures.items

pub returns-in_default-clause-seals : goal.returns-in_default-clause-seals
returns-in_default-clause-seals g t c = numbers_none (term c.args.self.now.tree.now) c.args.places.now (nil_from_length _ c.in_default.ensures.cases) c.args.self.now.added.now c.new.result.items c.new.ensures.items

pub seal_places-requires : goal.seal_places-requires
seal_places-requires g t c =
    λ ks within. (
      omega (arith, c.decreases, c.in-Some.ensures.cases.1),
      (within, (c.requires.context, placed_below (term c.args.self.now.tree.now) c.in-Some.place.now c.in-Some.below.now c.args.places.now c.in-Some.ensures.cases.0 c.requires.placed)),
    )

pub returns-in_err-nodes-clause-answer : goal.returns-in_err-nodes-clause-answer
returns-in_err-nodes-clause-answer g t c =
    let p = err_from_is_err_and c.from_residual.result c.from_residual.ensures.1 in
    rw (p.1, p.2) (λ other.
    below_fails (term c.args.self.now.tree.now) c.in-Some.place.now c.in-Some.below.now c.args.places.now c.in-Some.ensures.cases.0 g.S.Suite.crypto c.args.self.now.context.now c.args.self.now.added.now c.args.self.now.seed.now c.args.self.now.path.now.secrets.items (public_keys c.args.self.now.path.now) (number_of c.in_err-nodes.field-0.0)
    (c.in_err-nodes.ensures.answer other))

pub returns-then-is_empty-clause-answer : goal.returns-then-is_empty-clause-answer
returns-then-is_empty-clause-answer g t c =
    along_same (term c.args.self.now.tree.now) c.in-Some.place.now c.in-Some.below.now c.args.places.now c.in-Some.ensures.cases.0 c.requires.placed c.as_slice-reached.result.now (c.as_slice-reached.ensures.value ∙ c.in_ok-resolution.ensures)
    _ c.is_empty.ensures c.if-is_empty.true g.S.Suite.crypto c.args.self.now.context.now c.args.self.now.added.now c.args.self.now.seed.now c.args.self.now.path.now.secrets.items (public_keys c.args.self.now.path.now) c.in_ok-nodes.nodes.items
    c.in_ok-nodes.ensures.answer

pub returns-then-is_empty-clause-count : goal.returns-then-is_empty-clause-count
returns-then-is_empty-clause-count g t c =
    count_same (term c.args.self.now.tree.now) c.in-Some.place.now c.in-Some.below.now c.args.places.now c.in-Some.ensures.cases.0 c.requires.placed c.as_slice-reached.result.now (c.as_slice-reached.ensures.value ∙ c.in_ok-resolution.ensures)
    _ c.is_empty.ensures c.if-is_empty.true _ c.in_ok-nodes.ensures.count

pub returns-then-is_empty-clause-seals : goal.returns-then-is_empty-clause-seals
returns-then-is_empty-clause-seals g t c =
    numbers_same (term c.args.self.now.tree.now) c.in-Some.place.now c.in-Some.below.now c.args.places.now c.in-Some.ensures.cases.0 c.requires.placed c.as_slice-reached.result.now (c.as_slice-reached.ensures.value ∙ c.in_ok-resolution.ensures)
    _ c.is_empty.ensures c.if-is_empty.true c.args.self.now.added.now _ c.in_ok-nodes.ensures.seals

pub seal_node-requires-clause-placed : goal.seal_node-requires-clause-placed
seal_node-requires-clause-placed g t c = placed_here (term c.args.self.now.tree.now) c.in-Some.place.now c.in-Some.below.now c.args.places.now c.in-Some.ensures.cases.0 c.requires.placed

pub returns-in_err-node-clause-answer : goal.returns-in_err-node-clause-answer
returns-in_err-node-clause-answer g t c =
    let p = err_from_is_err_and c.from_residual-in_err-node.result c.from_residual-in_err-node.ensures.1 in
    rw (p.1, p.2) (λ other.
    let count = ap length c.as_slice-count.ensures.value ∙ c.in_ok-nodes.ensures.count in
    along_fails (term c.args.self.now.tree.now) c.in-Some.place.now c.in-Some.below.now c.args.places.now c.in-Some.ensures.cases.0 c.requires.placed c.as_slice-reached.result.now (c.as_slice-reached.ensures.value ∙ c.in_ok-resolution.ensures)
    _ c.is_empty.ensures c.if-is_empty.false g.S.Suite.crypto c.args.self.now.context.now c.args.self.now.added.now c.args.self.now.seed.now c.args.self.now.path.now.secrets.items (public_keys c.args.self.now.path.now)
    _ _ count (c.seal_count_of-first.ensures ∙ ap (λ xs. seal_count_of xs % 2 ^ 32) c.deref.ensures.value ∙ ap (λ n. n % 2 ^ 32) c.in_ok-nodes.ensures.seals) c.as_slice-reached.result.now refl (number_of c.in_err-node.field-0.0)
    (c.in_err-node.ensures.answer other))

pub returns-clause-answer : goal.returns-clause-answer
returns-clause-answer g t c =
    let count = ap length c.as_slice-count.ensures.value ∙ c.in_ok-nodes.ensures.count in
    along_more (term c.args.self.now.tree.now) c.in-Some.place.now c.in-Some.below.now c.args.places.now c.in-Some.ensures.cases.0 c.requires.placed c.as_slice-reached.result.now (c.as_slice-reached.ensures.value ∙ c.in_ok-resolution.ensures)
    _ c.is_empty.ensures c.if-is_empty.false g.S.Suite.crypto c.args.self.now.context.now c.args.self.now.added.now c.args.self.now.seed.now c.args.self.now.path.now.secrets.items (public_keys c.args.self.now.path.now)
    _ _ count (c.seal_count_of-first.ensures ∙ ap (λ xs. seal_count_of xs % 2 ^ 32) c.deref.ensures.value ∙ ap (λ n. n % 2 ^ 32) c.in_ok-nodes.ensures.seals) c.as_slice-reached.result.now refl c.in_ok-node.node c.in_ok-nodes.nodes.items c.push.new.self.items
    c.in_ok-node.ensures.answer
    c.in_ok-nodes.ensures.answer
    c.in_ok-push.ensures.items

pub returns-clause-count : goal.returns-clause-count
returns-clause-count g t c =
    let all = count_one (term c.args.self.now.tree.now) c.in-Some.place.now c.in-Some.below.now c.args.places.now c.in-Some.ensures.cases.0 c.requires.placed c.as_slice-reached.result.now (c.as_slice-reached.ensures.value ∙ c.in_ok-resolution.ensures)
    _ c.is_empty.ensures c.if-is_empty.false _ (c.in_ok-nodes.ensures.count) in
    ap length c.in_ok-push.ensures.items ∙ length-append _ _ ∙ (let z : length c.in_ok-nodes.nodes.items + 1 ≡ suc (length c.in_ok-nodes.nodes.items) = omega arith in z) ∙ all

pub returns-clause-seals : goal.returns-clause-seals
returns-clause-seals g t c =
    numbers_more (term c.args.self.now.tree.now) c.in-Some.place.now c.in-Some.below.now c.args.places.now c.in-Some.ensures.cases.0 c.requires.placed c.as_slice-reached.result.now (c.as_slice-reached.ensures.value ∙ c.in_ok-resolution.ensures)
    _ c.is_empty.ensures c.if-is_empty.false c.args.self.now.added.now c.in_ok-node.node c.in_ok-nodes.nodes.items c.push.new.self.items c.in_ok-nodes.ensures.seals c.in_ok-node.ensures.seals c.in_ok-push.ensures.items
