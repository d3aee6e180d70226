use Rattle.mls_treekem_model.proofs.laws_of_one_pass.Goals as goal
use Rattle.mls_treekem_model.proofs.OnePassLaws.{follows_trans, follows_tame, follows_grow, follows_trim, follow_edit_exact, own_edit_exact}
use Rattle.mls_treekem_model.proofs.HeightLaws.{exact_is_on_way, leaf_is_on_way, edit_is_follow}

pub returns : goal.returns
returns c =
    record {
      trans = follows_trans;
      tame = follows_tame;
      grow = follows_grow;
      trim = follows_trim;
      edit = follow_edit_exact;
      own = own_edit_exact;
      keys_on_way = exact_is_on_way;
      leaf = leaf_is_on_way;
      follow = edit_is_follow;
    }
