-- The numbers and names of what loading refuses, and what is refused also when an allocation fails.
use Rattle.std.specs.Prelude.{ℕ, List, Result, codes}
use Rattle.mls_wire.specs.Names.{refusal_name}
use Rattle.mls_wire.specs.Whole.{whole}
use Rattle.mls_leaf.specs.Faults.{number_of as number_of_leaf}
use Rattle.mls_leaf.specs.Limits.{input_limit}
use Rattle.mls_checks.specs.Faults.{number_of as number_of_check}
use Rattle.mls_saved.specs.Candidate.{saved_candidate}
use Rattle.mls_tree.specs.Refusals.{RefusesOutright}
use Rattle.mls_model.specs.Candidate.{Candidate}
use Rattle.mls_candidate.specs.declared.load.Parts.{Parts}
use Rattle.mls_candidate.specs.declared.load_error.CandidateLoadError.{CandidateLoadError}
use Rattle.mls_candidate.specs.declared.load_error.CandidateLoadError.TheVariants.{Leaf, Check, OtherSuite, BadSecret, OtherKey}

-- the number that the program answers
abbrev pub number_of : CandidateLoadError → ℕ
number_of (Leaf e) = number_of_leaf e
number_of (Check e) = number_of_check e
number_of OtherSuite = 100
number_of BadSecret = 101
number_of OtherKey = 104

-- the name, as it is printed
abbrev pub name_of : CandidateLoadError → List ℕ
name_of (Leaf e) = refusal_name (number_of_leaf e)
name_of (Check e) = refusal_name (number_of_check e)
name_of OtherSuite = codes "OtherSuite"
name_of BadSecret = codes "BadSecret"
name_of OtherKey = codes "OtherKey"

-- the candidate that parts make
abbrev pub candidate_by : Parts → Candidate
candidate_by p = record { offered = p.offered; init = p.init; leaf = p.leaf; signing = p.signing }

-- faults of decoding are answered also when an allocation fails
abbrev pub RefusesUndecoded : {A : Type 0} → List ℕ → Result A CandidateLoadError → Type 0
RefusesUndecoded bytes result =
    RefusesOutright number_of (whole saved_candidate input_limit bytes) result
