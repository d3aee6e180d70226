use Rattle.std.proofs.Common.{arith, sym, subst}
use Rattle.mls_leaf.specs.Leaf.{leaf_source}
use Rattle.mls_leaf.specs.declared.leaf.LeafSource.{LeafSource}
use Rattle.mls_public_group.specs.MessageLimit.{FitsIfShort}
use Rattle.mls_welcome.proofs.Fitting.{package_source_fits, update_source_fits, commit_source_fits}
use Rattle.mls_welcome.proofs.ranges.know_source.Goals as goal

pub returns-in-KeyPackage : goal.returns-in-KeyPackage
returns-in-KeyPackage c = subst (λ (v : LeafSource). FitsIfShort leaf_source v) (sym c.in-KeyPackage.is) (package_source_fits c.in-KeyPackage.not_before c.in-KeyPackage.not_after (omega arith) (omega arith))

pub returns-in-Update : goal.returns-in-Update
returns-in-Update c = subst (λ (v : LeafSource). FitsIfShort leaf_source v) (sym c.in-Update.is) update_source_fits

pub returns-in-Commit : goal.returns-in-Commit
returns-in-Commit c = subst (λ (v : LeafSource). FitsIfShort leaf_source v) (sym c.in-Commit.is) (commit_source_fits c.in-Commit.parent_hash)
