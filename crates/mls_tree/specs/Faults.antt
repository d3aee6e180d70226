-- The numbers of what a tree refuses.
use Rattle.std.specs.Prelude.{ℕ}
use Rattle.mls_tree.specs.declared.error.TreeError.{TreeError}
use Rattle.mls_tree.specs.declared.error.TreeError.TheVariants.{OutOfMemory, TreeShape, TreeFull, NoSuchLeaf, UnmergedWrong, ParentHashWrong, KeyRepeated, ClientRepeated, PathLength, BadKey, LeafSignature, LeafCapability}

-- the number that the program answers
abbrev pub number_of : TreeError → ℕ
number_of OutOfMemory = 1
number_of TreeShape = 20
number_of TreeFull = 21
number_of NoSuchLeaf = 22
number_of UnmergedWrong = 23
number_of ParentHashWrong = 24
number_of KeyRepeated = 25
number_of ClientRepeated = 26
number_of PathLength = 30
number_of BadKey = 36
number_of LeafSignature = 51
number_of LeafCapability = 52
