-- The numbers and names of what a secret tree refuses, and what calls promise by these numbers.
use Rattle.std.specs.Prelude.{◌≡◌, ℕ, List, Result, Err, IsErrAnd, codes}
use Rattle.mls_wire.specs.Checks.{Answers}
use Rattle.mls_secret_tree.specs.declared.error.SecretTreeError.{SecretTreeError}
use Rattle.mls_secret_tree.specs.declared.error.SecretTreeError.TheVariants.{OutOfMemory, SenderWithoutLeaf, GenerationTooFar, KeyUsed}

-- the number that the program answers
abbrev pub number_of : SecretTreeError → ℕ
number_of OutOfMemory = 1
number_of SenderWithoutLeaf = 114
number_of GenerationTooFar = 115
number_of KeyUsed = 116

-- the name, as it is printed
abbrev pub name_of : SecretTreeError → List ℕ
name_of OutOfMemory = codes "OutOfMemory"
name_of SenderWithoutLeaf = codes "SenderWithoutLeaf"
name_of GenerationTooFar = codes "GenerationTooFar"
name_of KeyUsed = codes "KeyUsed"

-- A call answers what the definition does, or refuses with its number. Where memory was refused it says nothing.
abbrev pub Gives : {A : Type 0} → Result A ℕ → Result A SecretTreeError → Type 0
Gives defined result = Answers (λ x. x) number_of defined result

-- What the definition refuses, the call refuses with that number, also when an allocation fails.
abbrev pub RefusesOutright : {A B : Type 0} → Result A ℕ → Result B SecretTreeError → Type 0
RefusesOutright defined result = (n : ℕ) → defined ≡ Err n → IsErrAnd result (λ e. number_of e ≡ n)
