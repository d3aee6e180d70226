-- The numbers of what private paths refuse.
use Rattle.std.specs.Prelude.{ℕ, List, Result}
use Rattle.std.specs.Global.{Vec}
use Rattle.mls_treekem.specs.declared.error.TreeKemError.{TreeKemError}
use Rattle.mls_treekem.specs.declared.error.TreeKemError.TheVariants.{OutOfMemory, OpenFailed, SecretLength, PathKeyMismatch, KeyMissing, BadKey}
use Rattle.mls_wire.specs.Checks.{Answers}

-- the number that the program answers
abbrev pub number_of : TreeKemError → ℕ
number_of OutOfMemory = 1
number_of OpenFailed = 32
number_of SecretLength = 33
number_of PathKeyMismatch = 34
number_of KeyMissing = 35
number_of BadKey = 36

-- want of memory, or a key that is missing or isn't fit
abbrev pub IsMemoryOrKey : TreeKemError → Type 0
IsMemoryOrKey OutOfMemory = Unit {0}
IsMemoryOrKey BadKey = Unit {0}
IsMemoryOrKey e = ⊥

-- A call answers the value that is defined, or refuses with the number of the definition.
abbrev pub AnswersValue : {A : Type 0} → Result A ℕ → Result A TreeKemError → Type 0
AnswersValue {A} defined result = Answers (λ (x : A). x) number_of defined result

-- A call answers the list that is defined, or refuses with the number of the definition.
abbrev pub AnswersList : {A : Type 0} → Result (List A) ℕ → Result (Vec A) TreeKemError → Type 0
AnswersList {A} defined result = Answers (λ (v : Vec A). v.items) number_of defined result
