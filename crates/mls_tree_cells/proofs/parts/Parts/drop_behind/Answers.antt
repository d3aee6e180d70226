use Rattle.std.proofs.Common.{◌/◌, take, ◌∙◌, ap, add-one}
use Rattle.mls_tree_cells.proofs.OpenLaws.{drop_parts, drop_same, drop_ends}
use Rattle.mls_tree_cells.proofs.parts.Parts.drop_behind.Goals as goal

pub invariant_of-self : goal.invariant_of-self
invariant_of-self c =
    drop_parts c.self.inside.chunks.items c.self.inside.tops c.args.self.now c.self.view_is c.self.invariant c.args.count c.requires c.truncate.new.self.items (c.truncate.ensures.items ∙ ap (λ n. take n c.self.inside.chunks.items) (add-one (c.args.count / 256))) c.truncate-2.new.self c.truncate-2.ensures

pub returns-clause-cells : goal.returns-clause-cells
returns-clause-cells c =
    drop_same c.self.inside.chunks.items c.self.inside.tops c.args.self.now c.self.view_is c.self.invariant c.args.count c.requires c.truncate.new.self.items (c.truncate.ensures.items ∙ ap (λ n. take n c.self.inside.chunks.items) (add-one (c.args.count / 256))) c.truncate-2.new.self c.truncate-2.ensures

pub returns-clause-end : goal.returns-clause-end
returns-clause-end c =
    drop_ends c.self.inside.chunks.items c.self.inside.tops c.args.self.now c.self.view_is c.self.invariant c.args.count c.requires c.truncate.new.self.items (c.truncate.ensures.items ∙ ap (λ n. take n c.self.inside.chunks.items) (add-one (c.args.count / 256))) c.truncate-2.new.self c.truncate-2.ensures
