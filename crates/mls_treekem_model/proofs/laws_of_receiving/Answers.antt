use Rattle.mls_treekem_model.proofs.laws_of_receiving.Goals as goal
use Rattle.mls_treekem_model.proofs.MergedLaws.{open_merged}
use Rattle.mls_treekem_model.proofs.OpenLaws.{climb_exact, climb_agree}
use Rattle.mls_treekem_model.proofs.CommitLaws.{commit_agree}

pub returns : goal.returns
returns c =
    record {
      merged = open_merged;
      exact = λ d context added b t i j ks ns h x m two. climb_exact d context added b t i j ks ns h x m two.first two.second two.apart;
      agree = λ d l context added b t i j start sk ks ns long two. climb_agree d l context added b t i j start sk ks ns long two.first two.second two.apart;
      commit = commit_agree;
    }
