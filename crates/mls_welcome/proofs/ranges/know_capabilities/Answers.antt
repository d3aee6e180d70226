use Rattle.mls_welcome.proofs.ranges.know_capabilities.Goals as goal

pub returns : goal.returns
returns c = λ lt. c.bytes-spelled.ensures.fits
