use Rattle.mls_make.proofs.TwoSteps.{speaking, speaking_is, commit_short}
use Rattle.mls_make.proofs.send_commit.know_short_commit.Goals as goal

pub returns : goal.returns
returns c = λ commit says.
    commit_short c.args.speaker.now commit c.args.framed.now c.bytes-bytes.result.now (says (speaking c.args.speaker.now) (speaking_is c.args.speaker.now)) c.bytes-bytes.ensures.bytes c.bytes-bytes.ensures.short
