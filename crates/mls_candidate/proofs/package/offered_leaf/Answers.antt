use Rattle.std.proofs.Common.{◌+◌, ◌<◌, ◌^◌, length, ap, arith, lit<}
use Rattle.std.specs.Prelude.{◌-◌}
use Rattle.mls_leaf.specs.declared.leaf.Credential.{Credential}
use Rattle.mls_leaf.specs.declared.leaf.LeafSource.TheVariants as leaf_node_source
use Rattle.mls_model.specs.Candidate.{leaf_key_of}
use Rattle.mls_candidate.proofs.LeafLaws.{lifetime_fits, unsigned_short}
use Rattle.mls_candidate.proofs.package.offered_leaf.Goals as goal

pub sign_leaf-requires-clause-leaf : goal.sign_leaf-requires-clause-leaf
sign_leaf-requires-clause-leaf g c =
    let laws = g.met.S.Suite.lawful in
    let key = laws.sig_public_short c.sign_seed-signing.result in
    let who : Credential = record { identity = c.in_ok-identity.identity } in
    let owner : length c.from_vec-signature_key.result + length c.in_ok-identity.identity < 2 ^ 27 =
    omega (arith, key, ap length c.from_vec-signature_key.ensures, ap length c.in_ok-sig_public.ensures, ap length c.in_ok-identity.ensures.bytes, c.requires.identity) in
    rw (c.in_ok-leaf.ensures, c.requires.key) (unsigned_short g.S.Suite.crypto laws (leaf_key_of g.S.Suite.crypto c.args.seed.now) c.from_vec-signature_key.result who (leaf_node_source.KeyPackage 0 (2 ^ 64 - 1)) owner (lifetime_fits 0 (2 ^ 64 - 1) (lit< tt) (lit< tt)) tt)
