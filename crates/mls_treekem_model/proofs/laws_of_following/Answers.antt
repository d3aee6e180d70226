use Rattle.mls_treekem_model.proofs.laws_of_following.Goals as goal
use Rattle.mls_treekem_model.proofs.FollowLaws.{tame_put, tame_enter, tame_refl, tame_trans, follow_tame, follow_grow, follow_trim_by, follow_own}

pub returns : goal.returns
returns c =
    record {
      put = λ b t i j x two. tame_put j b t i x two.apart two.first two.second;
      enter = λ b t i j x two. tame_enter j b t i x two.apart two.first two.second;
      refl = tame_refl;
      trans = tame_trans;
      tame = follow_tame;
      grow = follow_grow;
      trim = λ d t j ks. follow_trim_by d 0 t j ks;
      own = follow_own;
    }
