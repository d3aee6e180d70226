-- Lists of extensions that no message has room for.
use Rattle.std.specs.Prelude.{◌≡◌, ◌≢◌, ℕ, not, ◌&&◌, Bool, false, List, Result, Ok, Err}
use Rattle.std.specs.List.{list_any}
use Rattle.mls_leaf.specs.GroupExtensions.{is_short}
use Rattle.mls_leaf.specs.declared.extension.Extension.{Extension}
use Rattle.mls_leaf.specs.declared.proposal.Proposal.{Proposal}
use Rattle.mls_leaf.specs.declared.proposal.Proposal.TheVariants.{GroupContextExtensions}
use Rattle.mls_suite.specs.Crypto.{Crypto}
use Rattle.mls_treekem_model.specs.Keys.{PrivateKeys}
use Rattle.mls_model.specs.PublicState.{Used}
use Rattle.mls_model.specs.Commit.{Edits}
use Rattle.mls_model.specs.Make.{MadePath, path_with}
use Rattle.mls_model.specs.Member.{Member}
use Rattle.mls_message.specs.Speaks.{Speaks}
use Rattle.mls_message.specs.declared.speaker.Speaker.{Speaker}
use Rattle.mls_make.specs.Faults.{number_of}
use Rattle.mls_make.specs.declared.error.MakeError.{MakeError}

-- whether a proposal has a list of extensions that is longer than an input
abbrev pub has_long_list : Proposal → Bool
has_long_list (GroupContextExtensions list) = not (is_short list)
has_long_list other = false

-- whether a commit gives such a proposal in full
abbrev pub gives_long_list : Used → Bool
gives_long_list u = u.is_full && has_long_list u.proposal

-- whether it gives one of several so
abbrev pub give_long_list : List Used → Bool
give_long_list used = list_any gives_long_list used

-- the number is that which the path is refused with, and `TooLong` (6) where the path is made
abbrev pub IsRefusalPast : Result MadePath ℕ → ℕ → Type 0
IsRefusalPast (Ok made) n = n ≡ 6
IsRefusalPast (Err k) n = n ≡ k

-- The refusal is that of the speaker's path, whatever extensions the path is made for, and `TooLong` (6) where the path
-- is made, or with `OutOfMemory`.
abbrev pub RefusesLongList : Crypto → Speaker → PrivateKeys → Edits → List Used → Bool → List ℕ →
    MakeError → Type 0
RefusesLongList c s keys e used wants seed error =
    (m : Member) → Speaks m s → m.keys ≡ keys → number_of error ≢ 1 → (carried : List Extension) →
    IsRefusalPast (path_with c m carried e used wants seed) (number_of error)
