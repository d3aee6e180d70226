-- What `mls check --group-info` prints of a GroupInfo.
use Rattle.std.specs.Prelude.{ℕ, ◌==◌, List, [], ◌∷◌, codes, if◌then◌else◌, Result, Ok, Err}
use Rattle.std.specs.Str.{bytes_eq}
use Rattle.mls_wire.specs.Checks.{Passed, require, require_some}
use Rattle.mls_wire.specs.Reading.{◌>>=◌}
use Rattle.mls_wire.specs.Whole.{whole}
use Rattle.mls_leaf.specs.Limits.{input_limit}
use Rattle.mls_types.specs.GroupInfo.{group_info_tbs}
use Rattle.mls_types.specs.Message.{mls_message}
use Rattle.mls_types.specs.declared.group_info.GroupInfo.{GroupInfo}
use Rattle.mls_types.specs.declared.message.MlsMessage.{MlsMessage}
use Rattle.mls_types.specs.declared.message.MlsMessage.TheVariants as message
use Rattle.mls_suite.specs.Crypto.{Crypto}
use Rattle.mls_suite.specs.Labels.{verify_with_label}
use Rattle.mls_tree_model.specs.Term.{Term, leaf_of}
use Rattle.mls_tree_model.specs.Arrays.{from_nodes}
use Rattle.mls_tree_model.specs.Hashes.{tree_hash}
use Rattle.mls_tree.specs.Tree.{max_leaves}
use Rattle.mls_cli_text.specs.Form.{bytes_of_file}
use Rattle.mls_cli_text.specs.Page.{Page, refused}
use Rattle.mls_cli_text.specs.Text.{Entry}
use Rattle.mls_cli_text.specs.declared.form.Form.{Form}
use Rattle.mls_cli_text.specs.declared.page.Ending.{Ending}
use Rattle.mls_cli_text.specs.declared.page.Ending.TheVariants.{Good, Failed, Refused}
use Rattle.mls_cli_check.specs.Check.{all_passed, check_step, ok_line, page_behind, page_of_bytes, signature_word, tree_report, word_line}

-- ---- what the file has

-- the GroupInfo that a message is: `WrongMessageKind` (95) another kind (RFC 9420, 6)
abbrev pub group_info_of : MlsMessage → Result GroupInfo ℕ
group_info_of (message.GroupInfo info) = Ok info
group_info_of (message.PublicMessage v) = Err 95
group_info_of (message.Welcome v) = Err 95
group_info_of (message.KeyPackage v) = Err 95

-- the GroupInfo that the bytes spell, or the number of the first fault
unfoldable pub group_info_in : List ℕ → Result GroupInfo ℕ
group_info_in spelled = whole mls_message input_limit spelled >>= group_info_of

-- the one of two suites that its context names: `WrongSuite` (71) it names another (RFC 9420, 8.1)
unfoldable pub suite_among : Crypto → Crypto → GroupInfo → Result Crypto ℕ
suite_among c d info =
    if info.group_context.cipher_suite == c.number then Ok c
    else if info.group_context.cipher_suite == d.number then Ok d
    else Err 71

-- its tree: `NoTree` (76) there is none, `TreeShape` (20) and `TreeFull` (21) its shape and size (RFC 9420, 12.4.3.3)
unfoldable pub sent_tree : GroupInfo → Result Term ℕ
sent_tree info = require_some 76 info.ratchet_tree >>= from_nodes max_leaves

-- ---- its report

-- a page, and another behind it where it ends good
abbrev pub page_if : Ending → Page Entry → Page Entry → Page Entry
page_if Good first second = page_behind first.entries second
page_if Failed first second = first
page_if (Refused n) first second = first

abbrev pub page_then : Page Entry → Page Entry → Page Entry
page_then first second = page_if first.ending first second

-- the checks of a GroupInfo's signer: `SignerWrong` (78) it is no member, `GroupInfoSignature` (79) its signature
-- (RFC 9420, 12.4.3.1)
unfoldable pub signer_checks : Crypto → GroupInfo → Term → Result Passed ℕ
signer_checks c info t = do
  signer ← require_some 78 (leaf_of t info.signer)
  require 79
      (verify_with_label c signer.signature_key (codes "GroupInfoTBS") (group_info_tbs info)
      info.signature)

-- the line of the signer, or its refusal
abbrev pub signer_report : Crypto → Result Passed ℕ → Page Entry
signer_report c (Ok p) =
    page_behind (word_line (codes "group_info signature") (signature_word c) ∷ []) all_passed
signer_report c (Err n) = refused n

-- its tree hash is the tree's, or `TreeHashWrong` (77) (RFC 9420, 8.1 and 12.4.3.1); then its signer
unfoldable pub info_checks : Crypto → GroupInfo → Term → Page Entry
info_checks c info t =
    check_step 77 (bytes_eq info.group_context.tree_hash (tree_hash 0 t))
    (ok_line (codes "tree_hash matches"))
    (signer_report c (signer_checks c info t))

-- the lines of the tree for the context's group, then those of the GroupInfo
abbrev pub info_report : Crypto → GroupInfo → Term → Page Entry
info_report c info t =
    page_then (tree_report c info.group_context.group_id t) (info_checks c info t)

abbrev pub tree_or_refusal : Crypto → GroupInfo → Result Term ℕ → Page Entry
tree_or_refusal c info (Ok t) = info_report c info t
tree_or_refusal c info (Err n) = refused n

abbrev pub suite_or_refusal : GroupInfo → Result Crypto ℕ → Page Entry
suite_or_refusal info (Ok c) = tree_or_refusal c info (sent_tree info)
suite_or_refusal info (Err n) = refused n

abbrev pub info_or_refusal : Crypto → Crypto → Result GroupInfo ℕ → Page Entry
info_or_refusal c d (Ok info) = suite_or_refusal info (suite_among c d info)
info_or_refusal c d (Err n) = refused n

-- what is printed of a GroupInfo's bytes under two suites: the first refusal in this order, or the report
unfoldable pub group_info_text : Crypto → Crypto → List ℕ → Page Entry
group_info_text c d spelled = info_or_refusal c d (group_info_in spelled)

-- what is printed of a file's text
unfoldable pub group_info_page : Crypto → Crypto → Form → List ℕ → Page Entry
group_info_page c d form text = page_of_bytes (group_info_text c d) (bytes_of_file form text)
