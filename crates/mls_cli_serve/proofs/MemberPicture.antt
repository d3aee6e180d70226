-- The picture of what was printed as a tree.
use Rattle.std.proofs.Common.{◌≡◌, ◌∙◌, ◌==◌, ℕ, List, [], ◌++◌, Option, Some, Result, Ok, Err, inl, inr, sym, ap, ap₂}
use Rattle.std.proofs.lemmas.Bool.{cond-true}
use Rattle.mls_suite.specs.Crypto.{Crypto}
use Rattle.mls_cli_text.specs.Page.{Printout, printout}
use Rattle.mls_cli_text.specs.declared.fault.Fault.{Fault}
use Rattle.mls_cli_text.specs.declared.form.Form.TheVariants.{Hex}
use Rattle.mls_cli_check.specs.Drawing.{draw_page}
use Rattle.mls_cli_check.specs.declared.drawing.Drawing.{Drawing}
use Rattle.mls_cli_check.specs.declared.drawing.TreeSource.TheVariants as source
use Rattle.mls_cli_draw.specs.Picture.{row_text}
use Rattle.mls_cli_replay.specs.Replay.{PrintsOne}
use Rattle.mls_cli_replay.specs.Views.{IsView}
use Rattle.mls_cli_replay.specs.declared.view.ReplayView.TheVariants as view
use Rattle.mls_cli_serve.specs.MemberPicture.{IsMemberPicture, IsPictureOf, picture_printout, printed}

-- with status 0 it is drawn
pub tree_is : (drawing : Drawing) (status : ℕ) (text : List ℕ) → status ≡ 0 → IsPictureOf drawing status text (printout row_text (draw_page source.Tree drawing Hex text))
tree_is drawing status text good = sym (cond-true (status == 0) _ _ (ap (λ (s : ℕ). s == 0) good))

-- what was printed of a file as the tree of a member, on nothing
abbrev IsPrinted : Crypto → ℕ → List ℕ → List ℕ → List ℕ → ℕ → Type 0
IsPrinted c member file old new status = (tree : Printout) × IsView c (view.Tree member) file tree × (new ≡ old ++ tree.text) × (status ≡ tree.status)

is_picture : (c : Crypto) (member : ℕ) (drawing : Drawing) (file old new text : List ℕ) (status : ℕ) (p : Printout)
    → old ≡ [] → text ≡ new → IsPrinted c member file old new status → IsPictureOf drawing status text p → IsMemberPicture c member drawing file p
is_picture c member drawing file old new text status p none same (tree, is, grew, ended) drawn =
    (tree, is, drawn ∙ ap (picture_printout drawing) (ap₂ printed ended (same ∙ (grew ∙ ap (λ (front : List ℕ). front ++ tree.text) none))))

-- its picture is that of the member
pub pictures : (c : Crypto) (member : ℕ) (drawing : Drawing) (file old new text : List ℕ) (status : ℕ) (before after : Option (List ℕ)) (r : Result ℕ Fault)
    → old ≡ [] → text ≡ new → PrintsOne (IsView c (view.Tree member) file) (Some old) (Some new) (Ok status)
    → PrintsOne (IsPictureOf drawing status text) before after r → PrintsOne (IsMemberPicture c member drawing file) before after r
pictures c member drawing file old new text status before after (Ok answer) none same tree (p, drawn, grew, ended) =
    (p, is_picture c member drawing file old new text status p none same tree drawn, grew, ended)
pictures c member drawing file old new text status before after (Err e) none same tree (inl kept) = inl kept
pictures c member drawing file old new text status before after (Err e) none same tree (inr (p, drawn, part)) =
    inr (p, is_picture c member drawing file old new text status p none same tree drawn, part)
