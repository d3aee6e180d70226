-- What is printed of a file is one text, and the recording again is of one JSON, whatever events
-- stand for the calls that the file records.
use Rattle.std.specs.Prelude.{◌≡◌, ◌⊎◌, ℕ, List}
use Rattle.serde_json.specs.Data.{Data}
use Rattle.mls_suite.specs.Crypto.{Crypto}
use Rattle.mls_cli_text.specs.Page.{Printout}
use Rattle.mls_cli_replay.specs.RecordedReplies.{IsTextPage}
use Rattle.mls_cli_replay.specs.Views.{IsView}
use Rattle.mls_cli_replay.specs.declared.view.ReplayView.{ReplayView}
use Rattle.mls_cli_replay.specs.declared.view.ReplayView.TheVariants as view

-- they are the same, or texts of one JSON
abbrev pub ReadAlike : Printout → Printout → Type 0
ReadAlike p q = (p ≡ q) ⊎ ((d : Data) × IsTextPage d p × IsTextPage d q)

-- what two printouts of one view have in common
abbrev pub AreOne : ReplayView → Printout → Printout → Type 0
AreOne view.Replies p q = p ≡ q
AreOne view.Unmet p q = p ≡ q
AreOne (view.Message n) p q = p ≡ q
AreOne (view.Tree k) p q = p ≡ q
AreOne view.Recording p q = ReadAlike p q

abbrev pub OneView : Type 0
OneView = (c : Crypto) (asked : ReplayView) (file : List ℕ) (p q : Printout)
    → IsView c asked file p → IsView c asked file q → AreOne asked p q
