use Rattle.mls_candidate.proofs.load.load_parts.Goals as goal

pub returns-clause-outright : goal.returns-clause-outright
returns-clause-outright g c = λ n h. absurd (c.in_ok-saved.ensures.outright n h)
