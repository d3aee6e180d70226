use Rattle.std.proofs.Common.{◌-◌, ◌*◌, ◌∙◌, ap, sym, arith}
use Rattle.std.proofs.lemmas.Nat.{one_shl, pow_pos}
use Rattle.mls_treekem.proofs.Levels.{pow_pred}
use Rattle.mls_treekem.proofs.places.side_of.Goals as goal

pub returns : goal.returns
returns c =
    let is = one_shl (c.args.height - 1) 32 (omega arith) in
    let p = pow_pos (c.args.height - 1) in
    record {
      value = is;
      positive = omega arith;
      whole = pow_pred c.args.height (λ e. absurd (omega arith)) ∙ ap (λ n. 2 * n) (sym is);
    }
