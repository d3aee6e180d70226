use Rattle.mls_cli_replay.proofs.line.line_words.Goals as goal

pub returns-in-Expected : goal.returns-in-Expected
returns-in-Expected c = rw c.in-Expected.is c.expected_words.ensures

pub returns-in-Present : goal.returns-in-Present
returns-in-Present c = rw c.in-Present.is c.present_words.ensures

pub returns-in-Missing : goal.returns-in-Missing
returns-in-Missing c = rw c.in-Missing.is c.missing_words.ensures
