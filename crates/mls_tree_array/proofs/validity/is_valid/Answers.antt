use Rattle.std.proofs.Common.{◌≡◌, refl}
use Rattle.mls_tree_model.specs.Hashes.{has_witness, is_parent_hash_valid}
use Rattle.mls_tree_array.proofs.Ties.{ok_map, valid_by}
use Rattle.mls_tree_array.proofs.validity.is_valid.Goals as goal

pub returns-then-branch : goal.returns-then-branch
returns-then-branch c = rw (valid_by c.args.parent.now c.args.left.now c.args.right.now c.requires.middle, ← c.in_ok-has_witness.ensures, c.if-branch.true) refl

pub returns : goal.returns
returns c =
    ok_map
    (λ v. v ≡ has_witness c.args.parent.now c.args.left.now.first c.args.left.now.term c.args.right.now.first c.args.right.now.term)
    (λ v. v ≡ is_parent_hash_valid c.args.left.now.first c.args.parent.now c.args.left.now.term c.args.right.now.term)
    c.has_witness-2.result
    (λ v is. rw (valid_by c.args.parent.now c.args.left.now c.args.right.now c.requires.middle, ← c.in_ok-has_witness.ensures, c.if-branch.false) is)
    c.has_witness-2.ensures
