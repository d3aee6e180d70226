-- What those whom a commit adds are sent.
use Rattle.std.specs.Prelude.{◌≡◌, ℕ, List, Option, Some, None, Result, OnOk}
use Rattle.std.specs.Borrow.{Bor}
use Rattle.std.specs.List.{AllByRecursion}
use Rattle.std.specs.Option.{option_copied}
use Rattle.mls_tree_model.specs.Term.{Term}
use Rattle.mls_treekem.specs.Secrets.{IsSentOf}
use Rattle.mls_treekem.specs.declared.secrets.PathSecrets.{PathSecrets}
use Rattle.mls_model.specs.Commit.{Edits}
use Rattle.mls_welcome.specs.declared.welcome_message.Joiner.{Joiner}

-- nothing without a path, and of a path what the committer at leaf i sends to leaf j
abbrev pub IsSentTo : Term → ℕ → Option PathSecrets → ℕ → Option (List ℕ) → Type 0
IsSentTo t i None j secret = secret ≡ None
IsSentTo t i (Some secrets) j secret = IsSentOf t i j secrets.secrets.items secret

-- each joiner is sent what the committer at leaf i sends to its leaf
abbrev pub AreSentTo : Term → ℕ → Option PathSecrets → List Joiner → Type 0
AreSentTo t i secrets joiners =
    AllByRecursion (λ (j : Joiner). IsSentTo t i secrets j.leaf (option_copied j.path_secret))
    joiners

-- what is lent is what leaf j is sent
abbrev pub IsLentTo : Edits → ℕ → Option (Bor PathSecrets) → ℕ → Option (Bor (List ℕ)) → Type 0
IsLentTo e i secrets j secret = IsSentTo e.tree i (option_copied secrets) j (option_copied secret)

-- each joiner is sent what the committer's path has for it
abbrev pub AreSentBy : Edits → ℕ → Option (Bor PathSecrets) → List Joiner → Type 0
AreSentBy e i secrets joiners = AreSentTo e.tree i (option_copied secrets) joiners

-- where each of the joiners before was sent that, each of those after is
abbrev pub StaySent : {A E : Type 0} → Edits → ℕ → Option (Bor PathSecrets) → List Joiner →
    List Joiner → Result A E → Type 0
StaySent e i secrets old new result =
    OnOk result (AreSentBy e i secrets old → AreSentBy e i secrets new)
