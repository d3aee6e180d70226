use Rattle.std.proofs.Common.{◌∙◌, ◌<◌, ◌≤◌, ◌++◌, sym, arith}
use Rattle.mls_wire.specs.Names.{names_of_bytes, names_of_trees, names_of_members, names_of_joins}
use Rattle.mls_wire.proofs.Names.{found_before, past_bytes, past_trees, no_join, no_member, no_tree}
use Rattle.mls_wire.proofs.refusal.refusal_name.Goals as goal

-- src/refusal.rt:7:1
pub returns-in-0-to-19 : goal.returns-in-0-to-19
returns-in-0-to-19 c =
    let small : c.args.number < 20 = omega (arith, c.in-0-to-19) in
    c.name_of_bytes.ensures ∙ sym (found_before names_of_bytes (names_of_trees ++ names_of_members ++ names_of_joins) c.args.number (no_tree c.args.number small))

-- src/refusal.rt:7:1
pub returns-in-20-to-39 : goal.returns-in-20-to-39
returns-in-20-to-39 c =
    let above : 20 ≤ c.args.number = omega (arith, c.in-20-to-39) in
    let below : c.args.number < 40 = omega (arith, c.in-20-to-39) in
    c.name_of_trees.ensures
    ∙ sym (past_bytes (names_of_trees ++ names_of_members ++ names_of_joins) c.args.number above
    ∙ found_before names_of_trees (names_of_members ++ names_of_joins) c.args.number (no_member c.args.number below))

-- src/refusal.rt:7:1
pub returns-in-40-to-69 : goal.returns-in-40-to-69
returns-in-40-to-69 c =
    let above : 20 ≤ c.args.number = omega (arith, c.in-40-to-69) in
    let far : 40 ≤ c.args.number = omega (arith, c.in-40-to-69) in
    let below : c.args.number < 70 = omega (arith, c.in-40-to-69) in
    c.name_of_members.ensures
    ∙ sym (past_bytes (names_of_trees ++ names_of_members ++ names_of_joins) c.args.number above
    ∙ past_trees (names_of_members ++ names_of_joins) c.args.number far
    ∙ found_before names_of_members names_of_joins c.args.number (no_join c.args.number below))
