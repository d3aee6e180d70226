-- What the fields of a node of the secret tree stand for.
use Rattle.mls_secret_tree.specs.declared.node.Kind.{Kind}
use Rattle.mls_secret_tree.specs.declared.node.Kind.TheVariants.{Secret, Ratchet, Parted}
use Rattle.mls_secret_tree.specs.Held.{Held, Whole, LeafRatchet}
use Rattle.mls_secret_tree.specs.Held as held

-- what is held below a node
abbrev pub held_of : Kind → Held
held_of (Secret secret) = Whole secret
held_of (Ratchet r) = LeafRatchet r
held_of (Parted left right) = held.Parted left.value right.value
