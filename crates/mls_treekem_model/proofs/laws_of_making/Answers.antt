use Rattle.mls_treekem_model.proofs.laws_of_making.Goals as goal
use Rattle.mls_treekem_model.proofs.MakeLaws.{keys_are_chain, keys_of_secrets, count_is_length, making_climbs, make_exact}
use Rattle.mls_treekem_model.proofs.SeedLaws.{seed_wraps}
use Rattle.mls_treekem_model.proofs.SealLaws.{made_path, path_some}
use Rattle.mls_treekem_model.proofs.MergedLaws.{path_has_keys, make_merged, seal_merged, count_merged, path_merged}

pub returns : goal.returns
returns c =
    record {
      keys = keys_are_chain;
      secrets = keys_of_secrets;
      count = count_is_length;
      climbs = making_climbs;
      exact = make_exact;
      made = made_path;
      fit = path_some;
      path = path_has_keys;
      wraps = seed_wraps;
      merged = make_merged;
      seal_merged = seal_merged;
      count_merged = count_merged;
      path_merged = path_merged;
    }
