-- Which job the rows of `mls check` name.
use Rattle.std.specs.Prelude.{List, codes, Option}
use Rattle.clap.specs.Words.{Row, Text, first_of}
use Rattle.mls_cli_serve.specs.Arguments.{Task, check_on, drawing_on, drawn_if, draws_json, is_given, layout_of, without_json}

-- the check of a tree
abbrev pub tree_check_on : List Row → Text → Option Task
tree_check_on rows file =
    check_on (first_of (codes "group-info") rows) (first_of (codes "raw") rows)
    (first_of (codes "SUITE") rows) (first_of (codes "signatures") rows)
    (first_of (codes "HEX") rows) (layout_of (first_of (codes "json") rows)) file

-- or its drawing, where --draw is given
abbrev pub tree_job_on : List Row → Text → Option Task
tree_job_on rows file =
    drawn_if (is_given (first_of (codes "draw") rows))
    (without_json (draws_json rows) (drawing_on rows)) (tree_check_on rows file)
