use Rattle.std.proofs.Common.{ℕ, List, length, ap, ◌∙◌, arith, length-append}
use Rattle.std.specs.List.{flat_map}
use Rattle.mls_wire.specs.Reading.{header}
use Rattle.mls_wire.specs.Combine.{optional}
use Rattle.mls_leaf.specs.Node.{node}
use Rattle.mls_test_tree.proofs.rows.sent_nodes.nodes_in.Goals as goal

pub returns-in-Ok : goal.returns-in-Ok
returns-in-Ok c =
    let spells = c.in-Ok.ensures.found in
    let text : List ℕ = flat_map (optional node).spell c.in-Ok.nodes in
    let parts = ap length spells.spelled ∙ length-append (header (length text)) text in
    rw c.into_vec.ensures (record { fits = spells.fits.0; short = omega arith })
