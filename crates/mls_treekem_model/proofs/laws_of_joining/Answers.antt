use Rattle.mls_treekem_model.proofs.laws_of_joining.Goals as goal
use Rattle.mls_tree_model.specs.Way.{way}
use Rattle.mls_treekem_model.proofs.JoinLaws.{take_exact, leaf_due, leaf_exact, take_agree, entered_lists, tame_lists, take_inside}
use Rattle.mls_treekem_model.proofs.CommitLaws.{join_agree}

pub returns : goal.returns
returns c =
    record {
      exact = λ d t i j x sk secret m two. take_exact d t i j x sk secret m two.first two.second two.apart;
      inside = λ c t i j sk secret here. take_inside c t i j sk secret here;
      leaf_due = leaf_due;
      leaf_exact = leaf_exact;
      agree = λ d t i j h x y start sk own two. take_agree d t i j h x y start sk own two.first two.second two.apart;
      commit = join_agree;
      entered = entered_lists;
      tame = λ b t t' j h tame. tame_lists j (way b t j) (way b t' j) h tame.along;
    }
