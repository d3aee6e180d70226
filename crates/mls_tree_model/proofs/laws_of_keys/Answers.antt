use Rattle.mls_tree_model.proofs.laws_of_keys.Goals as goal
use Rattle.mls_tree_model.proofs.MemberLaws.{keys-put, keys-enter, keys-merge, keys-grow, keys-trim}

pub returns : goal.returns
returns c =
    record {
      put = keys-put;
      enter = keys-enter;
      merge = keys-merge;
      grow = keys-grow;
      trim = keys-trim;
    }
