use Rattle.std.proofs.Common.{ℕ, List, ◌^◌, sym, ap, ◌∙◌}
use Rattle.std.specs.Option.{option_map}
use Rattle.mls_leaf.specs.declared.key_package.KeyPackage.{KeyPackage}
use Rattle.mls_tree.specs.Tree.{term}
use Rattle.mls_model.specs.Join.{place_of, joined_keys}
use Rattle.mls_public_group.proofs.ShortLaws.{package_below}
use Rattle.mls_join.specs.Parts.{opened_by}
use Rattle.mls_join.proofs.Joining.{alone_at, member_is}
use Rattle.mls_join.proofs.entrance.member_of.Goals as goal

pub place_of-requires-clause-leaf : goal.place_of-requires-clause-leaf
place_of-requires-clause-leaf g c = rw c.key_package.ensures (package_below (2 ^ 27) c.args.candidate.now.offered c.requires.offered)

pub returns : goal.returns
returns g c =
    let t = term c.in_ok-tree.tree in
    rw (member_is g.S.Suite.crypto c.args.candidate.now (opened_by c.args.opened) t c.in-Some.place c.in_ok-keys.keys
    c.in_ok-tree.ensures.answer c.in_ok-signer_checks.ensures
    (ap (λ (v : KeyPackage). option_map (λ x. x.0) (place_of v.leaf_node t)) (sym c.key_package.ensures) ∙ sym c.place_of.ensures ∙ c.in-Some.is)
    (ap (λ (k : List ℕ). joined_keys g.S.Suite.crypto t c.args.opened.info.signer (alone_at c.in-Some.place k) c.args.opened.path_secret) (sym c.leaf_key.ensures) ∙ c.in_ok-keys.ensures))
    (c.enter_group.ensures c.args.candidate.now)
