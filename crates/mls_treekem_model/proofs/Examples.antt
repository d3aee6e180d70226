-- Small trees, worked out.
use Rattle.std.proofs.Common.{refl}
use Rattle.mls_tree_model.specs.Sets.{has}
use Rattle.mls_tree_model.specs.Term.{width, size}
use Rattle.mls_tree_model.specs.Resolution.{resolution}
use Rattle.mls_tree_model.specs.Way.{way, filtered_way, filtered_path}
use Rattle.mls_treekem_model.specs.Chain.{chain}
use Rattle.mls_treekem_model.specs.Make.{filtered_count, made_keys}
use Rattle.mls_treekem_model.specs.Seal.{targets}
use Rattle.mls_treekem_model.specs.Pairs.{pairs}
use Rattle.mls_treekem_model.specs.Examples.{SecretOfOne, SecretOfFour, PathOfFour, TargetsOfFour, KeysOfMaker, KeysBeside, KeysAcross, TargetsBesideAdded}
use Rattle.mls_treekem_model.specs.Laws.{shared_keys}

pub secret_of_one : SecretOfOne
unfolding chain filtered_count way
secret_of_one x start = refl

pub secret_of_four : SecretOfFour
unfolding chain filtered_count way resolution width size
secret_of_four x y z w start = refl

pub path_of_four : PathOfFour
unfolding filtered_path filtered_way way resolution width size
path_of_four x y z w = refl

pub targets_of_four : TargetsOfFour
unfolding targets way resolution has width size
targets_of_four x y z w = refl

pub keys_of_maker : KeysOfMaker
unfolding made_keys pairs chain filtered_count way resolution width size
keys_of_maker c x y z w start sk = refl

pub keys_beside : KeysBeside
unfolding made_keys shared_keys pairs chain filtered_count way resolution width size
keys_beside c x y z w start sk own = refl

pub keys_across : KeysAcross
unfolding made_keys shared_keys pairs chain filtered_count way resolution width size
keys_across c x y z w start sk own = refl

pub targets_beside_added : TargetsBesideAdded
unfolding targets way resolution has width size
targets_beside_added x y z w key hash = refl
