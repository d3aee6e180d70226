-- The name of each refusal below 100, by its number: one table for all crates.
use Rattle.std.specs.Prelude.{ℕ, ◌==◌, if◌then◌else◌, List, [], ◌∷◌, ◌++◌, codes}

-- the name of a number in a table; no bytes where it isn't there
abbrev pub name_in : List (ℕ × List ℕ) → ℕ → List ℕ
name_in [] n = []
name_in (x ∷ xs) n = if x.0 == n then x.1 else name_in xs n

-- the names of refusals of bytes and texts
abbrev pub names_of_bytes : List (ℕ × List ℕ)
names_of_bytes =
    (1, codes "OutOfMemory") ∷ (2, codes "Truncated") ∷ (3, codes "Trailing") ∷ (4, codes "BadLength") ∷ (5, codes "NotMinimal") ∷ (6, codes "TooLong") ∷ (7, codes "BadTag") ∷ (8, codes "NotHex") ∷ (9, codes "BadJson")
    ∷ (10, codes "OutputTooLong") ∷ (11, codes "UnsupportedCredential") ∷ (12, codes "UnsupportedProposal") ∷ (13, codes "NotRising") ∷ (14, codes "ExtensionNotAllowed") ∷ []

-- the names of refusals of trees and private paths
abbrev pub names_of_trees : List (ℕ × List ℕ)
names_of_trees =
    (20, codes "TreeShape") ∷ (21, codes "TreeFull") ∷ (22, codes "NoSuchLeaf") ∷ (23, codes "UnmergedWrong") ∷ (24, codes "ParentHashWrong") ∷ (25, codes "KeyRepeated")
    ∷ (26, codes "ClientRepeated") ∷ (30, codes "PathLength") ∷ (31, codes "CipherCount") ∷ (32, codes "OpenFailed") ∷ (33, codes "SecretLength")
    ∷ (34, codes "PathKeyMismatch") ∷ (35, codes "KeyMissing") ∷ (36, codes "BadKey") ∷ []

-- the names of refusals of messages, leaves and commits
abbrev pub names_of_members : List (ℕ × List ℕ)
names_of_members =
    (40, codes "Gone") ∷ (41, codes "NotPublicMessage") ∷ (42, codes "WrongGroup") ∷ (43, codes "WrongEpoch") ∷ (44, codes "SenderNotMember") ∷ (45, codes "NotHandshake")
    ∷ (46, codes "BadMembershipTag") ∷ (47, codes "BadSignature") ∷ (48, codes "OwnUnknown") ∷ (49, codes "ReferenceTaken") ∷ (50, codes "LeafSource")
    ∷ (51, codes "LeafSignature") ∷ (52, codes "LeafCapability") ∷ (53, codes "LeafIdentityChanged") ∷ (54, codes "LeafKeySame") ∷ (55, codes "KeyPackageSuite")
    ∷ (56, codes "KeyPackageSignature") ∷ (57, codes "InitKeySame") ∷ (60, codes "UnknownReference") ∷ (61, codes "CommitterUpdate") ∷ (62, codes "CommitterRemoved")
    ∷ (63, codes "SameLeafTwice") ∷ (64, codes "PathMissing") ∷ (65, codes "BadConfirmationTag") ∷ (66, codes "EpochEnd") ∷ (67, codes "PendingCommit")
    ∷ (68, codes "SecondExtensions") ∷ []

-- the names of refusals of Welcomes and of worlds
abbrev pub names_of_joins : List (ℕ × List ℕ)
names_of_joins =
    (70, codes "NotWelcome") ∷ (71, codes "WrongSuite") ∷ (72, codes "NotForMe") ∷ (73, codes "SecretsUnreadable") ∷ (74, codes "PskPresent")
    ∷ (75, codes "GroupInfoUnreadable") ∷ (76, codes "NoTree") ∷ (77, codes "TreeHashWrong") ∷ (78, codes "SignerWrong") ∷ (79, codes "GroupInfoSignature")
    ∷ (80, codes "NotInTree") ∷ (90, codes "NoSuchMember") ∷ (91, codes "CandidateSpent") ∷ (92, codes "NoSuchCandidate") ∷ (93, codes "CandidateRepeated")
    ∷ (94, codes "NoSuchMessage") ∷ (95, codes "WrongMessageKind") ∷ []

-- the name, as it is printed; no bytes where no refusal below 100 has the number
abbrev pub refusal_name : ℕ → List ℕ
refusal_name n = name_in (names_of_bytes ++ names_of_trees ++ names_of_members ++ names_of_joins) n
