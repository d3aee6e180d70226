use Rattle.std.proofs.Common.{◌≡◌, ℕ, List, length, ap, arith}
use Rattle.mls_cli_show.proofs.References.{lent_package, lent_public}
use Rattle.mls_cli_show.proofs.reference.reference_in.Goals as goal

pub key_package_reference-requires : goal.key_package_reference-requires
key_package_reference-requires c =
    let same : length c.bytes.result.now ≡ length c.in-KeyPackage.part = ap (λ (l : List ℕ). length l) c.bytes.ensures.same in
    omega (arith, same, lent_package c.args.bytes.now c.in-KeyPackage.part _ (λ i. omega (arith, c.type_inv.bytes i)) c.in-Ok.ensures.read c.in-KeyPackage.is)

pub proposal_in-requires : goal.proposal_in-requires
proposal_in-requires c =
    omega (arith, lent_public c.args.bytes.now c.in-PublicMessage.view _ (λ i. omega (arith, c.type_inv.bytes i)) c.in-Ok.ensures.read c.in-PublicMessage.is)
