use Rattle.mls_model.specs.Candidate.{leaf_key_of}
use Rattle.mls_member.proofs.Own.{update_short}
use Rattle.mls_member.proofs.Keeps.{updated_made, updated_is, old_below}
use Rattle.mls_member.proofs.member.Member.updated_leaf.Goals as goal

pub renewed_leaf_with_key-requires-clause-key : goal.renewed_leaf_with_key-requires-clause-key
renewed_leaf_with_key-requires-clause-key g c = (leaf_key_of g.S.Suite.crypto c.args.seed.now, c.requires)

pub returns-clause-leaf : goal.returns-clause-leaf
returns-clause-leaf g c =
    updated_is g.S.Suite.crypto c.args.self.now c.speaker-speaker.result c.args.seed.now c.in-Some.old.now c.in_ok-leaf.leaf _ c.speaker-speaker.ensures c.tree.ensures c.in-Some.ensures
    (updated_made g.S.Suite.crypto c.args.self.now c.speaker-speaker.result c.args.seed.now _ c.args.key.items c.in-Some.old.now c.in_ok-leaf.leaf _ c.speaker-speaker.ensures c.context.ensures c.as_slice-group_id.ensures c.requires c.in_ok-leaf.ensures.leaf)

pub returns-clause-short : goal.returns-clause-short
returns-clause-short g c =
    update_short g.S.Suite.crypto g.met.S.Suite.lawful c.args.self.now c.in-Some.old.now c.in_ok-leaf.leaf c.args.seed.now (old_below c.speaker-speaker.result c.in-Some.old.now _ c.tree.ensures c.in-Some.ensures c.is_short.ensures.leaves)
    (updated_made g.S.Suite.crypto c.args.self.now c.speaker-speaker.result c.args.seed.now _ c.args.key.items c.in-Some.old.now c.in_ok-leaf.leaf _ c.speaker-speaker.ensures c.context.ensures c.as_slice-group_id.ensures c.requires c.in_ok-leaf.ensures.leaf) c.in_ok-leaf.ensures.below.fits
