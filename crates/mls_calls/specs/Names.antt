-- The name of each refusal that the library for C answers, by its number.
use Rattle.std.specs.Prelude.{ℕ, List, [], ◌∷◌, codes, if◌then◌else◌, nat_lt}
use Rattle.mls_wire.specs.Names.{name_in, refusal_name}

-- the names of refusals of saved forms, of application messages and of the library
abbrev pub names_from_100 : List (ℕ × List ℕ)
names_from_100 =
    (100, codes "OtherSuite") ∷ (101, codes "BadSecret") ∷ (102, codes "NotAMember")
    ∷ (103, codes "BadTreeHash") ∷ (104, codes "OtherKey") ∷ (110, codes "RatchetSpent")
    ∷ (111, codes "OtherGroup") ∷ (112, codes "OtherEpoch") ∷ (113, codes "SenderDataUnreadable")
    ∷ (114, codes "SenderWithoutLeaf") ∷ (115, codes "GenerationTooFar") ∷ (116, codes "KeyUsed")
    ∷ (117, codes "ContentUnreadable") ∷ (118, codes "PaddingNotZero")
    ∷ (119, codes "BadMessageSignature") ∷ (130, codes "NullHandle") ∷ (131, codes "OtherHandle")
    ∷ (132, codes "NullBytes") ∷ (133, codes "SeedLength") ∷ (134, codes "NotKeyPackage")
    ∷ (135, codes "BufferLength") ∷ (136, codes "NotLabel") ∷ []

-- the name; no bytes where no refusal has the number
unfoldable pub library_name : ℕ → List ℕ
library_name n = if nat_lt n 100 then refusal_name n else name_in names_from_100 n
