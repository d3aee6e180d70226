use Rattle.mls_treekem_model.proofs.worked_examples.Goals as goal
use Rattle.mls_treekem_model.proofs.Examples.{secret_of_one, secret_of_four, path_of_four, targets_of_four, keys_of_maker, keys_beside, keys_across, targets_beside_added}

pub returns : goal.returns
returns c =
    record {
      secret_of_one = secret_of_one;
      secret_of_four = secret_of_four;
      path_of_four = path_of_four;
      targets_of_four = targets_of_four;
      keys_of_maker = keys_of_maker;
      keys_beside = keys_beside;
      keys_across = keys_across;
      targets_beside_added = targets_beside_added;
    }
