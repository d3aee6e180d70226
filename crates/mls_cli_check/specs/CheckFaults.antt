-- The numbers of what `mls check` refuses, and which refusals come also when an allocation fails.
use Rattle.std.specs.Prelude.{◌≡◌, ◌≢◌, ℕ, List, Result, Err, IfErr, IsOk, MatchResult}
use Rattle.mls_wire.specs.Whole.{whole}
use Rattle.mls_leaf.specs.Limits.{input_limit}
use Rattle.mls_types.specs.GroupInfo.{ratchet_tree}
use Rattle.mls_types.specs.Message.{mls_message}
use Rattle.mls_leaf.specs.Faults.{number_of as leaf_number_of}
use Rattle.mls_tree.specs.Faults.{number_of as tree_number_of}
use Rattle.mls_cli_check.specs.declared.check_error.CheckError.{CheckError}
use Rattle.mls_cli_check.specs.declared.check_error.CheckError.TheVariants.{OutOfMemory, NotHex, Decoding, Tree, WrongSuite, NoTree, TreeHashWrong, SignerWrong, GroupInfoSignature, WrongMessageKind}

-- the number that is printed
abbrev pub number_of : CheckError → ℕ
number_of OutOfMemory = 1
number_of NotHex = 8
number_of (Decoding e) = leaf_number_of e
number_of (Tree e) = tree_number_of e
number_of WrongSuite = 71
number_of NoTree = 76
number_of TreeHashWrong = 77
number_of SignerWrong = 78
number_of GroupInfoSignature = 79
number_of WrongMessageKind = 95

-- a call that takes no memory succeeds where its definition has a value, and else answers the definition's number
abbrev pub ChecksOutright : {A B : Type 0} → Result A ℕ → Result B CheckError → Type 0
ChecksOutright defined result =
    MatchResult result (λ _. IsOk defined) (λ (e : CheckError). defined ≡ Err (number_of e))

-- Bytes that spell no message are refused, also when an allocation fails.
abbrev pub RefusesMessage : {A : Type 0} → List ℕ → Result A CheckError → Type 0
RefusesMessage bytes result =
    (n : ℕ) → whole mls_message input_limit bytes ≡ Err n
    → IfErr result (λ (e : CheckError). number_of e ≢ 1)

-- Bytes that spell no nodes are refused, also when an allocation fails.
abbrev pub RefusesNodes : {A : Type 0} → List ℕ → Result A CheckError → Type 0
RefusesNodes bytes result =
    (n : ℕ) → whole ratchet_tree input_limit bytes ≡ Err n
    → IfErr result (λ (e : CheckError). number_of e ≢ 1)
