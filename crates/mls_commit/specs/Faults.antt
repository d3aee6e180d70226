-- The numbers of these refusals.
use Rattle.std.specs.Prelude.{ℕ}
use Rattle.mls_public_group.specs.Faults.{number_of as number_of_group}
use Rattle.mls_commit.specs.declared.error.CommitError.{CommitError}
use Rattle.mls_commit.specs.declared.error.CommitError.TheVariants.{Group, CipherCount, PathMissing}

-- the number that the program answers
abbrev pub number_of : CommitError → ℕ
number_of (Group e) = number_of_group e
number_of CipherCount = 31
number_of PathMissing = 64
