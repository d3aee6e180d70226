-- The options of `mls replay`, and what of a recording they ask for.
use Rattle.std.specs.Prelude.{ℕ, Bool, true, false, ◌||◌, is_some, codes, Option, Some, None}
use Rattle.clap.specs.Words.{App, with_rule}
use Rattle.mls_cli_replay.specs.declared.view.ReplayView.{ReplayView}
use Rattle.mls_cli_replay.specs.declared.view.ReplayView.TheVariants.{Replies, Unmet, Message, Tree, Recording}
use Rattle.mls_cli_serve.specs.Drawings.{with_drawing_rules}
use Rattle.mls_cli_serve.specs.Options.{flag_rule, number_rule}
use Rattle.mls_cli_serve.specs.declared.tasks.ProgressChoice.{ProgressChoice}
use Rattle.mls_cli_serve.specs.declared.tasks.ProgressChoice.TheVariants.{Always, OnTerminal}

-- an optional --message N and an optional --tree K, both numbers, and the flags --quiet and --record
abbrev pub with_view_rules : App → App
with_view_rules app =
    with_rule
    (with_rule
    (with_rule (with_rule app (number_rule (codes "N") (codes "message")))
    (number_rule (codes "K") (codes "tree")))
    (flag_rule (codes "quiet")))
    (flag_rule (codes "record"))

-- an optional --draw MEMBER, a number, and the options of drawings
abbrev pub with_picture_rules : App → App
with_picture_rules app =
    with_drawing_rules (with_rule app (number_rule (codes "MEMBER") (codes "draw")))

-- and a flag --progress
abbrev pub with_progress_rule : App → App
with_progress_rule app = with_rule app (flag_rule (codes "progress"))

abbrev pub progress_by : Bool → ProgressChoice
progress_by true = Always
progress_by false = OnTerminal

-- this view, unless another is asked for too
abbrev pub unless : ReplayView → Bool → Option ReplayView
unless view true = None
unless view false = Some view

abbrev pub view_by_flags : Bool → Bool → Option ReplayView
view_by_flags true other = unless Unmet other
view_by_flags false true = Some Recording
view_by_flags false false = Some Replies

abbrev pub view_by_tree : Option ℕ → Bool → Bool → Option ReplayView
view_by_tree (Some k) quiet again = unless (Tree k) (quiet || again)
view_by_tree None quiet again = view_by_flags quiet again

-- what is asked for by these: the replay where nothing is, and nothing where two are
abbrev pub view_by : Option ℕ → Option ℕ → Bool → Bool → Option ReplayView
view_by (Some n) tree quiet again = unless (Message n) (is_some tree || (quiet || again))
view_by None tree quiet again = view_by_tree tree quiet again
