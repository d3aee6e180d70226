use Rattle.std.proofs.Common.{ℕ, List, length, ◌<◌, ◌^◌, sym, subst}
use Rattle.mls_public_group.proofs.ShortLaws.{context_fits, context_short}
use Rattle.mls_public_group.proofs.contexts.context_spelling.Goals as goal

pub spelling-requires : goal.spelling-requires
spelling-requires c = context_fits c.args.context.now c.requires

pub returns-clause-short : goal.returns-clause-short
returns-clause-short c = subst (λ (l : List ℕ). length l < 2 ^ 30) (sym c.in_ok-bytes.ensures) (context_short c.args.context.now c.requires)
