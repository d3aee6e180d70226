use Rattle.std.proofs.Common.{◌≡◌, drop}
use Rattle.mls_model.specs.Proposals.{extensions_after}
use Rattle.mls_public_group.proofs.group.PublicGroup.extensions_after.Given as goal

abbrev pub invariant-loop-one : goal.invariant-loop-one
invariant-loop-one l = extensions_after l.self.context.extensions (drop l.one-index l.used) ≡ extensions_after l.self.context.extensions l.used
