use Rattle.mls_leaf.specs.KeyPackage.{key_package}
use Rattle.mls_model.specs.Candidate.{package_message}
use Rattle.mls_checks.proofs.SignedLaws.{written_or_wanting}
use Rattle.mls_candidate.proofs.package.package_message.Goals as goal

pub bytes_or_out_of_memory-requires : goal.bytes_or_out_of_memory-requires
bytes_or_out_of_memory-requires c =
    written_or_wanting (key_package.Fits c.args.offered.now) (package_message c.args.offered.now) c.write_message.result c.requires c.write_message.ensures
