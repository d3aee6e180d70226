use Rattle.mls_treekem_model.proofs.laws_of_any_path.Goals as goal
use Rattle.mls_treekem_model.proofs.AnyPathLaws.{refused_unopened, judged_by_keys}
use Rattle.mls_treekem_model.proofs.TakeLaws.{taken_fits, fit_is_taken}

pub returns : goal.returns
returns c =
    record {
      unopened = refused_unopened;
      judged = judged_by_keys;
      taken = taken_fits;
      fits = fit_is_taken;
    }
