use Rattle.mls_test_tree.proofs.rows.edits.follow_path.Goals as goal

pub follow_path-requires-clause-prepared : goal.follow_path-requires-clause-prepared
follow_path-requires-clause-prepared c = c.in_ok-path.ensures.prepared.0
