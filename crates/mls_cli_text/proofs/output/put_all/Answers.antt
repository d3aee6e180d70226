use Rattle.std.proofs.Common.{List, ℕ, ap, Bor}
use Rattle.mls_cli_text.proofs.Pieces.{grown, kept}
use Rattle.mls_cli_text.proofs.output.put_all.Goals as goal
use Rattle.mls_cli_text.proofs.output.put_all.Goals.{in-Ok, in-Err+else-ne}

pub loop-preserved : goal.loop-preserved
loop-preserved g c =
    let (done, split, old) = c.loop.invariant in
    elim c.match-write.branch [
      | in-Ok w ↦ grown _ _ _ c.args.bytes.now done c.loop.rest.now c.match-write.rest.now w.in-Ok.n split (ap (λ (r : Bor (List ℕ)). r.now) w.rest-is) old w.in-Ok.ensures.bytes
      | in-Err+else-ne w ↦ kept _ _ _ c.args.bytes.now done c.loop.rest.now c.match-write.rest.now split (ap (λ (r : Bor (List ℕ)). r.now) w.rest-is) old w.in-Err.ensures.bytes
    ]
