use Rattle.mls_candidate.proofs.LeafLaws.{update_fits, commit_fits}
use Rattle.mls_candidate.proofs.leaf.source_has_spelling.Goals as goal

pub returns-in-KeyPackage : goal.returns-in-KeyPackage
returns-in-KeyPackage c = rw c.in-KeyPackage.is c.lifetime_has_spelling.ensures

pub returns-in-Update : goal.returns-in-Update
returns-in-Update c = rw c.in-Update.is update_fits

pub returns-in-Commit : goal.returns-in-Commit
returns-in-Commit c = commit_fits c.args.source.now c.in-Commit.parent_hash c.in-Commit.is c.requires
