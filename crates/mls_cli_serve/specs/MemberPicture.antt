-- The picture of a member's ratchet tree, as it is when all of a recording is done.
use Rattle.std.specs.Prelude.{◌≡◌, ◌==◌, ℕ, List, if◌then◌else◌}
use Rattle.mls_suite.specs.Crypto.{Crypto}
use Rattle.mls_cli_text.specs.Page.{Printout, printout}
use Rattle.mls_cli_text.specs.declared.form.Form.TheVariants.{Hex}
use Rattle.mls_cli_check.specs.Drawing.{draw_page}
use Rattle.mls_cli_check.specs.declared.drawing.Drawing.{Drawing}
use Rattle.mls_cli_check.specs.declared.drawing.TreeSource.TheVariants as source
use Rattle.mls_cli_draw.specs.Picture.{row_text}
use Rattle.mls_cli_replay.specs.Views.{IsView}
use Rattle.mls_cli_replay.specs.declared.view.ReplayView.TheVariants as view

-- the picture of a tree that was printed in hex digits, with status 0; a refusal as it was
abbrev pub picture_printout : Drawing → Printout → Printout
picture_printout drawing tree =
    if tree.status == 0 then printout row_text (draw_page source.Tree drawing Hex tree.text)
    else tree

-- the picture of what is printed of a file as the tree of that member (RFC 9420, 7.1)
abbrev pub IsMemberPicture : Crypto → ℕ → Drawing → List ℕ → Printout → Type 0
IsMemberPicture c member drawing file p =
    (tree : Printout) × IsView c (view.Tree member) file tree × (p ≡ picture_printout drawing tree)

-- ---- of what was printed

-- with this status and these bytes
abbrev pub printed : ℕ → List ℕ → Printout
printed status text = record { text = text; status = status }

abbrev pub IsPictureOf : Drawing → ℕ → List ℕ → Printout → Type 0
IsPictureOf drawing status text p = p ≡ picture_printout drawing (printed status text)
