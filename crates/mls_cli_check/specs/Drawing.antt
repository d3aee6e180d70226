-- What `mls check --draw` prints, as text and with `--svg`.
use Rattle.std.specs.Prelude.{◌≡◌, ℕ, List, Result, Ok, Err, IsOk}
use Rattle.mls_wire.specs.Reading.{◌>>=◌}
use Rattle.mls_wire.specs.Whole.{whole}
use Rattle.mls_leaf.specs.Limits.{input_limit}
use Rattle.mls_types.specs.GroupInfo.{ratchet_tree}
use Rattle.mls_types.specs.Message.{mls_message}
use Rattle.mls_tree_model.specs.Term.{Term}
use Rattle.mls_cli_text.specs.Form.{bytes_of_file}
use Rattle.mls_cli_text.specs.Page.{Page, refused}
use Rattle.mls_cli_text.specs.declared.form.Form.{Form}
use Rattle.mls_cli_draw.specs.Picture.{picture}
use Rattle.mls_cli_draw.specs.Svg.{svg_picture}
use Rattle.mls_cli_check.specs.Check.{page_of_bytes, tree_in}
use Rattle.mls_cli_check.specs.CheckFaults.{RefusesMessage, RefusesNodes}
use Rattle.mls_cli_check.specs.GroupInfo.{group_info_in, sent_tree}
use Rattle.mls_cli_check.specs.declared.check_error.CheckError.{CheckError}
use Rattle.mls_cli_check.specs.declared.drawing.Drawing.{Drawing}
use Rattle.mls_cli_check.specs.declared.drawing.Drawing.TheVariants.{Text, Svg}
use Rattle.mls_cli_check.specs.declared.drawing.TreeSource.{TreeSource}
use Rattle.mls_cli_check.specs.declared.drawing.TreeSource.TheVariants as source

-- the tree of the GroupInfo that the bytes spell (RFC 9420, 12.4.3.3), or the number of the first fault
unfoldable pub info_tree_in : List ℕ → Result Term ℕ
info_tree_in spelled = group_info_in spelled >>= sent_tree

-- the tree that the bytes have
abbrev pub tree_from : TreeSource → List ℕ → Result Term ℕ
tree_from source.Tree spelled = tree_in spelled
tree_from source.GroupInfo spelled = info_tree_in spelled

-- its picture, or the refusal
abbrev pub picture_by : Drawing → Term → Page (List ℕ)
picture_by (Text columns) t = picture columns t
picture_by Svg t = svg_picture t

abbrev pub picture_on : Drawing → Result Term ℕ → Page (List ℕ)
picture_on drawing (Ok t) = picture_by drawing t
picture_on drawing (Err n) = refused n

abbrev pub picture_from : TreeSource → Drawing → List ℕ → Page (List ℕ)
picture_from source drawing spelled = picture_on drawing (tree_from source spelled)

-- what is printed of a file's text
abbrev pub draw_page : TreeSource → Drawing → Form → List ℕ → Page (List ℕ)
draw_page source drawing form text =
    page_of_bytes (picture_from source drawing) (bytes_of_file form text)

-- ---- bytes that don't decode

-- They are refused, and not for want of memory.
abbrev pub RefusesUndecoded : {A : Type 0} → TreeSource → List ℕ → Result A CheckError → Type 0
RefusesUndecoded source.Tree spelled result = RefusesNodes spelled result
RefusesUndecoded source.GroupInfo spelled result = RefusesMessage spelled result

-- They have a page, also when an allocation fails.
abbrev pub ShowsUndecoded : {A E : Type 0} → TreeSource → List ℕ → Result A E → Type 0
ShowsUndecoded source.Tree spelled result =
    (n : ℕ) → whole ratchet_tree input_limit spelled ≡ Err n → IsOk result
ShowsUndecoded source.GroupInfo spelled result =
    (n : ℕ) → whole mls_message input_limit spelled ≡ Err n → IsOk result
