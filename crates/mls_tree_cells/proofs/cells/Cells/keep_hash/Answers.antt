use Rattle.std.proofs.Common.{[], Some, ◌∙◌}
use Rattle.mls_tree_cells.proofs.CellLaws.{cell_within, hash_is, keep_is, keep_ends}
use Rattle.mls_tree_cells.proofs.cells.Cells.keep_hash.Goals as goal

pub keep_hash-requires-clause-within : goal.keep_hash-requires-clause-within
keep_hash-requires-clause-within c = cell_within c.self.inside.len c.self.inside.parts.cells c.args.self.now c.self.view_is c.self.invariant c.args.x c.requires.within

pub keep_hash-requires-clause-cold : goal.keep_hash-requires-clause-cold
keep_hash-requires-clause-cold c = hash_is c.self.inside.len c.self.inside.parts.cells c.args.self.now c.self.view_is c.self.invariant c.args.x c.requires.within (Some []) ∙ c.requires.cold

pub invariant_of-self : goal.invariant_of-self
invariant_of-self c = keep_ends c.self.inside.len c.self.inside.parts.cells c.args.self.now c.self.view_is c.self.invariant c.args.x c.requires.within c.keep_hash.new.self.cells (Some c.args.hash) c.keep_hash.ensures

pub returns : goal.returns
returns c = keep_is c.self.inside.len c.self.inside.parts.cells c.args.self.now c.self.view_is c.self.invariant c.args.x c.requires.within c.keep_hash.new.self.cells (Some c.args.hash) c.keep_hash.ensures
