use Rattle.std.proofs.Common.{refl, rules, ◌≡◌, length}
use Rattle.ed25519.proofs.Halves.{glued}
use Rattle.ed25519.proofs.signing.join.Goals as goal

pub returns : goal.returns
returns c =
    let l : length c.args.r.now ≡ 32 = search rules in
    glued _ _ _ _ _ c.copy_from_slice.ensures.after c.copy_from_slice-2.ensures.after l refl
