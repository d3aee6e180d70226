use Rattle.std.proofs.Common.{length, get_or, refl, ap, arith}
use Rattle.mls_world_plain.proofs.Naming.{first_tells, none_tells}
use Rattle.mls_world_plain.proofs.commit_names.is_reference.Goals as goal

pub returns-in_default : goal.returns-in_default
returns-in_default c =
    let below = c.in_default.len_below in
    let same = ap length c.bytes.ensures.same in
    none_tells c.args.listed.now _ (omega (arith, below, same))

pub returns-in-len1-up : goal.returns-in-len1-up
returns-in-len1-up c = first_tells c.args.listed.now _ _ (ap (λ b. get_or b 0 0) c.bytes.ensures.same) refl
