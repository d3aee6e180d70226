use Rattle.mls_treekem_model.proofs.laws_of_paths.Goals as goal
use Rattle.mls_treekem_model.proofs.FitLaws.{fit_targets}
use Rattle.mls_treekem_model.proofs.SecretLaws.{sealed_of_chain, secret_is_among}
use Rattle.mls_treekem_model.proofs.ForkLaws.{secret_at_ancestor}
use Rattle.mls_treekem_model.proofs.WholeLaws.{sealed_keys, sealed_lengths, sealed_where_fit, refused_where_unfit, sealed_merged, opened_merged, secret_merged, made_exact, made_merged, length_merged, filtered_merged, opened_exact, opened_agrees, opened_is_sent, taken_agrees, secret_for_merged}
use Rattle.mls_treekem_model.proofs.NumberLaws.{sealed_by_number, seals_are_counted}

pub returns : goal.returns
returns c =
    record {
      keys = sealed_keys;
      lengths = sealed_lengths;
      of_chain = sealed_of_chain;
      fit = sealed_where_fit;
      unfit = refused_where_unfit;
      fit_targets = fit_targets;
      seal_merged = sealed_merged;
      open_merged = opened_merged;
      opened_merged = secret_merged;
      made_exact = made_exact;
      made_merged = made_merged;
      length_merged = length_merged;
      filtered_merged = filtered_merged;
      opened_exact = opened_exact;
      opened_agrees = opened_agrees;
      opened_secret = opened_is_sent;
      among = secret_is_among;
      at_ancestor = secret_at_ancestor;
      taken_agrees = taken_agrees;
      secret_merged = secret_for_merged;
      numbered = sealed_by_number;
      counted = seals_are_counted;
    }
