use Rattle.std.proofs.Common.{◌∙◌}
use Rattle.mls_candidate.proofs.LeafLaws.{renewed_short}
use Rattle.mls_candidate.proofs.leaf.renewed_leaf_with_key.Goals as goal

pub sign_leaf-requires-clause-leaf : goal.sign_leaf-requires-clause-leaf
sign_leaf-requires-clause-leaf g c =
    let own = c.in_ok-signature_key.ensures.bytes ∙ c.as_slice.ensures in
    renewed_short g.S.Suite.crypto g.met.S.Suite.lawful c.args.old.now c.in_ok-leaf.leaf c.requires.key.0 c.args.encryption_key.items c.in_ok-signature_key.signature_key c.in_ok-credential.credential c.args.source
    c.in_ok-leaf.ensures c.requires.key.1 own c.in_ok-credential.ensures.cases c.requires.old c.source_has_spelling.ensures c.requires.source
