-- Bytes that don't decode have no tree to draw.
use Rattle.std.proofs.Common.{◌≡◌, ◌≢◌, ℕ, List, Result, Ok, Err, ap}
use Rattle.std.specs.Prelude.{IsOk}
use Rattle.mls_wire.specs.Reading.{◌>>=◌}
use Rattle.mls_wire.specs.Whole.{whole}
use Rattle.mls_leaf.specs.Limits.{input_limit}
use Rattle.mls_types.specs.Message.{mls_message}
use Rattle.mls_types.specs.declared.message.MlsMessage.{MlsMessage}
use Rattle.mls_tree_model.specs.Term.{Term}
use Rattle.mls_cli_check.specs.CheckFaults.{number_of}
use Rattle.mls_cli_check.specs.Drawing.{RefusesUndecoded, ShowsUndecoded, info_tree_in, tree_from}
use Rattle.mls_cli_check.specs.GroupInfo.{group_info_in, group_info_of, sent_tree}
use Rattle.mls_cli_check.specs.declared.check_error.CheckError.{CheckError}
use Rattle.mls_cli_check.specs.declared.drawing.TreeSource.{TreeSource}
use Rattle.mls_cli_check.specs.declared.drawing.TreeSource.TheVariants as source
use Rattle.mls_cli_check.proofs.SentTrees.{no_tree}

no_info_tree : (bytes : List ℕ) (t : Term) (n : ℕ) → info_tree_in bytes ≡ Ok t → whole mls_message input_limit bytes ≡ Err n → ⊥
unfolding info_tree_in group_info_in
no_info_tree bytes t n is h =
    let refused : info_tree_in bytes ≡ Err n = ap (λ (x : Result MlsMessage ℕ). (x >>= group_info_of) >>= sent_tree) h in cc

-- a tree was decoded
pub drawn_decoded : {A E : Type 0} (asked : TreeSource) (bytes : List ℕ) (t : Term) (r : Result A E) → tree_from asked bytes ≡ Ok t → ShowsUndecoded asked bytes r
drawn_decoded source.Tree bytes t r is = λ n h. absurd (no_tree bytes t n is h)
drawn_decoded source.GroupInfo bytes t r is = λ n h. absurd (no_info_tree bytes t n is h)

-- a refusal that isn't want of memory has a page
pub undecoded_shown : {B E : Type 0} (A : Type 0) (asked : TreeSource) (bytes : List ℕ) (e : CheckError) (r : Result B E) → RefusesUndecoded {A = A} asked bytes (Err e) → (number_of e ≢ 1 → IsOk r)
    → ShowsUndecoded asked bytes r
undecoded_shown A source.Tree bytes e r refuses page = λ n h. page (refuses n h)
undecoded_shown A source.GroupInfo bytes e r refuses page = λ n h. page (refuses n h)
