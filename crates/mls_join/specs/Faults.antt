-- The numbers of these refusals, and what calls promise by these numbers.
use Rattle.std.specs.Prelude.{◌≡◌, ℕ, List, Result}
use Rattle.std.specs.Global.{Vec}
use Rattle.mls_wire.specs.Checks.{Answers, Passed, passed}
use Rattle.mls_leaf.specs.Faults.{number_of as number_of_leaf}
use Rattle.mls_tree.specs.Faults.{number_of as number_of_tree}
use Rattle.mls_treekem.specs.Faults.{number_of as number_of_keys}
use Rattle.mls_join.specs.declared.error.JoinError.{JoinError}
use Rattle.mls_join.specs.declared.error.JoinError.TheVariants.{Leaf, Tree, Keys, BadConfirmationTag, NotWelcome, WrongSuite, NotForMe, SecretsUnreadable, PskPresent, GroupInfoUnreadable, NoTree, TreeHashWrong, SignerWrong, GroupInfoSignature, NotInTree}

-- the number that the program answers
abbrev pub number_of : JoinError → ℕ
number_of (Leaf e) = number_of_leaf e
number_of (Tree e) = number_of_tree e
number_of (Keys e) = number_of_keys e
number_of BadConfirmationTag = 65
number_of NotWelcome = 70
number_of WrongSuite = 71
number_of NotForMe = 72
number_of SecretsUnreadable = 73
number_of PskPresent = 74
number_of GroupInfoUnreadable = 75
number_of NoTree = 76
number_of TreeHashWrong = 77
number_of SignerWrong = 78
number_of GroupInfoSignature = 79
number_of NotInTree = 80

-- A call answers what the definition does, or refuses with its number. Where memory was refused it says nothing.
abbrev pub Gives : {A : Type 0} → Result A ℕ → Result A JoinError → Type 0
Gives defined result = Answers (λ x. x) number_of defined result

-- A call answers the bytes that the definition does, or refuses with its number. Where memory was refused it says nothing.
abbrev pub GivesBytes : Result (List ℕ) ℕ → Result (Vec ℕ) JoinError → Type 0
GivesBytes defined result = Answers (λ v. v.items) number_of defined result

-- These checks pass, or the call refuses with the number of the first that fails. Where memory was refused it says nothing.
abbrev pub Passes : {A : Type 0} → Result Passed ℕ → Result A JoinError → Type 0
Passes checks result = Answers (λ _. passed) number_of checks result

-- the error is want of memory
abbrev pub IsMemory : JoinError → Type 0
IsMemory e = number_of e ≡ 1
