use Rattle.mls_tree_model.proofs.laws_of_clients.Goals as goal
use Rattle.mls_tree_model.proofs.ClientLaws.{clients-merge, distinct_clients-merge_path, one_client}

pub returns : goal.returns
returns c =
    record {
      merge = clients-merge;
      merge_path = distinct_clients-merge_path;
      one = one_client;
    }
