use Rattle.std.proofs.Common.{arith}
use Rattle.mls_tree_cells.proofs.OpenLaws.{cut_last_is, cut_any_parts, cut_ok, cut_err}
use Rattle.mls_tree_cells.proofs.parts.Parts.cut.Goals as goal

pub index_mut-requires : goal.index_mut-requires
index_mut-requires c =
    let ok = c.self.inside.chunks.ok.0 in
    let last = cut_last_is c.self.inside.chunks.items c.self.inside.tops c.args.self.now c.self.view_is c.self.invariant c.args.count c.requires in
    omega arith

pub invariant_of-self : goal.invariant_of-self
invariant_of-self c =
    cut_any_parts c.self.inside.chunks.items c.self.inside.tops c.args.self.now c.self.view_is c.self.invariant c.args.count c.requires c.index_mut.result.now c.truncate.new.self c.index_mut.ensures.value c.truncate.result c.truncate.ensures.ok c.truncate.ensures.err

pub returns-clause-ok : goal.returns-clause-ok
returns-clause-ok c =
    cut_ok c.self.inside.chunks.items c.self.inside.tops c.args.self.now c.self.view_is c.self.invariant c.args.count c.requires c.index_mut.result.now c.truncate.new.self c.index_mut.ensures.value c.truncate.result c.truncate.ensures.ok

pub returns-clause-err : goal.returns-clause-err
returns-clause-err c =
    cut_err c.self.inside.chunks.items c.self.inside.tops c.args.self.now c.self.view_is c.self.invariant c.args.count c.requires c.index_mut.result.now c.truncate.new.self c.index_mut.ensures.value c.truncate.result c.truncate.ensures.err
