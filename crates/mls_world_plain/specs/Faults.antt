-- The numbers of these refusals.
use Rattle.std.specs.Prelude.{ℕ}
use Rattle.mls_leaf.specs.Faults.{number_of as number_of_leaf}
use Rattle.mls_candidate.specs.Faults.{number_of as number_of_candidate}
use Rattle.mls_member.specs.Faults.{number_of as number_of_member}
use Rattle.mls_world_plain.specs.declared.error.WorldError.{WorldError}
use Rattle.mls_world_plain.specs.declared.error.WorldError.TheVariants.{Leaf, Candidate, Member, NoSuchMember, CandidateSpent, NoSuchCandidate, CandidateRepeated, NoSuchMessage, WrongMessageKind}

-- the number that the program answers
abbrev pub number_of : WorldError → ℕ
number_of (Leaf e) = number_of_leaf e
number_of (Candidate e) = number_of_candidate e
number_of (Member e) = number_of_member e
number_of NoSuchMember = 90
number_of CandidateSpent = 91
number_of NoSuchCandidate = 92
number_of CandidateRepeated = 93
number_of NoSuchMessage = 94
number_of WrongMessageKind = 95
