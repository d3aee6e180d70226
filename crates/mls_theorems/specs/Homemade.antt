-- The test for homemade journals says of each journal whether it is one.
use Rattle.std.specs.Prelude.{◌≡◌, true, List}
use Rattle.mls_model.specs.HomemadeTest.{is_homemade}
use Rattle.mls_model.specs.Journal.{Journal, CommitMade, IsHomemade}

-- a journal that passes the test is homemade
abbrev pub HomemadeIsMade : Type 0
HomemadeIsMade = (made : List CommitMade) (j : Journal) → is_homemade made j ≡ true → IsHomemade made j

-- a homemade journal passes the test
abbrev pub MadeIsHomemade : Type 0
MadeIsHomemade = (made : List CommitMade) (j : Journal) → IsHomemade made j → is_homemade made j ≡ true
