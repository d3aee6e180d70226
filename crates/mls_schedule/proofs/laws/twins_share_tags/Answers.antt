use Rattle.mls_schedule.proofs.LawsLemmas.{share_tags}
use Rattle.mls_schedule.proofs.laws.twins_share_tags.Goals as goal

pub returns : goal.returns
returns c = share_tags
