use Rattle.std.proofs.Common.{◌≡◌, ◌∙◌, ◌*◌, ◌++◌, [], ◌∷◌, ℕ, List, length, refl, arith, subst, not, ap, sym}
use Rattle.std.specs.Int.{w32}
use Rattle.std.specs.List.{flat_map}
use Rattle.mls_wire.specs.Reading.{header, uint}
use Rattle.mls_tree_model.specs.Sets.{less, has}
use Rattle.mls_tree_hash.specs.Feeds.{Feeds}
use Rattle.mls_tree_hash.proofs.Feeding.{feeds_first, feeds_more, feeds_all, flat_map-kept, length-flat_map}
use Rattle.mls_tree_hash.proofs.pieces.add_remaining.Goals as goal

pub loop-entry-init : goal.loop-entry-init
loop-entry-init c = feeds_first (subst (λ (n : ℕ). Feeds c.args.feed.now (header (4 * n)) c.add_header.new.feed) c.count_remaining.ensures.count c.add_header.ensures)

pub loop-entry-preserved : goal.loop-entry-preserved
loop-entry-preserved c =
    feeds_more (header (4 * length (less c.args.leaves.now c.args.entries.now))) (λ x. flat_map (uint w32) (less c.args.leaves.now (x ∷ []))) c.args.entries.now c.loop-entry.entry-index
    c.loop-entry-test.true c.loop-entry.invariant c.add_if_remaining.ensures

pub returns : goal.returns
unfolding uint
returns c =
    let us = c.args.leaves.now in
    let xs = c.args.entries.now in
    let kept : flat_map (λ x. flat_map (uint w32) (less us (x ∷ []))) xs ≡ flat_map (uint w32) (less us xs) = flat_map-kept (λ x. not (has us x)) (uint w32) xs in
    subst (λ (l : List ℕ). Feeds c.args.feed.now (header (length l) ++ l) c.loop-entry.feed) kept
    (feeds_all header (λ x. flat_map (uint w32) (less us (x ∷ []))) xs (4 * length (less us xs)) c.loop-entry.entry-index
    (length-flat_map (uint w32) 4 (less us xs) (λ x. refl) ∙ ap length (sym kept)) (omega arith) c.loop-entry.invariant)
