use Rattle.std.proofs.Common.{◌≡◌, ◌++◌, drop, map}
use Rattle.std.specs.List.{zip}
use Rattle.std.specs.Option.{option_copied}
use Rattle.mls_model.specs.Proposals.{adds}
use Rattle.mls_welcome.specs.Joiners.{package_and_leaf_of}
use Rattle.mls_welcome.specs.SentSecrets.{AreSentTo}
use Rattle.mls_welcome.proofs.joiners.joiners_of.Given as goal

abbrev pub invariant-loop-u : goal.invariant-loop-u
invariant-loop-u l = (map package_and_leaf_of l.all.items ++ zip (adds (drop l.u-index l.used)) l.leaves ≡ zip (adds l.used) l.edits.added) × AreSentTo l.edits.tree l.committer (option_copied l.secrets) l.all.items
