-- Less deep than a node are its children.
use Rattle.std.specs.Prelude.{◌≤◌, max}
use Rattle.std.proofs.Common.{arith}
use Rattle.mls_secret_tree.specs.declared.node.Kind.{Kind}
use Rattle.mls_secret_tree.specs.declared.node.Kind.TheVariants.{Secret, Ratchet, Parted}
use Rattle.mls_secret_tree.specs.declared.node.SecretNode.TheDeep.{deep-Kind}
use Rattle.mls_secret_tree.specs.Held.{depth}
use Rattle.mls_secret_tree.specs.HeldFields.{held_of}

-- no child is as deep as the node
pub depth_of-children : (k : Kind) → max (deep-Kind k) 0 ≤ depth (held_of k)
unfolding depth
depth_of-children (Secret secret) = omega arith
depth_of-children (Ratchet r) = omega arith
depth_of-children (Parted left right) = omega arith
