use Rattle.std.proofs.Common.{◌≡◌, ℕ, ◌^◌, ◌+◌, ◌-◌, ◌++◌, length, replicate, None, ◌∙◌, ap, arith}
use Rattle.std.proofs.lemmas.Nat.{one_shl, pow_pos}
use Rattle.mls_treemath.specs.Paths.{nodes_in}
use Rattle.mls_tree_model.specs.Arrays.{with_padding}
use Rattle.mls_tree_model.proofs.ArrayLaws.{nodes_in-leaves}
use Rattle.mls_tree_array.proofs.order.pad_tree.Goals as goal

tree_len : (leaves height : ℕ) → leaves ≡ 2 ^ height → leaves - 1 + leaves ≡ nodes_in height
tree_len leaves height power = omega (arith, nodes_in-leaves height, pow_pos height)

pub returns-clause-ok : goal.returns-clause-ok
unfolding with_padding
returns-clause-ok c =
    let power = one_shl c.args.height 64 (omega arith) in
    c.in_ok-pad.ensures.ok
    ∙ ap (λ k. c.args.nodes.now.items ++ replicate (k - length c.args.nodes.now.items) None) (tree_len _ c.args.height power ∙ ap nodes_in c.requires.holds)
