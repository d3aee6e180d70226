-- What a path gives its committer.
use Rattle.std.specs.Prelude.{◌≡◌, ℕ, List, Some, Result, Ok}
use Rattle.mls_wire.specs.Checks.{Answers}
use Rattle.mls_leaf.specs.declared.extension.Extension.{Extension}
use Rattle.mls_suite.specs.Crypto.{Crypto}
use Rattle.mls_tree.specs.Tree.{term}
use Rattle.mls_treekem_model.specs.Keys.{all_keys}
use Rattle.mls_model.specs.Commit.{Edits, apply_update_path}
use Rattle.mls_model.specs.Make.{MadePath, new_path}
use Rattle.mls_model.specs.Member.{Member}
use Rattle.mls_model.specs.PublicState.{PublicState}
use Rattle.mls_update_path.specs.Faults.{number_of}
use Rattle.mls_update_path.specs.declared.error.PathError.{PathError}
use Rattle.mls_update_path.specs.declared.path.NewPath.{NewPath}

-- the path, the commit secret and the committer's keys
abbrev pub made_path : NewPath → MadePath
made_path p =
    record {
      path = Some p.path;
      climb = record { secret = p.secrets.commit_secret; keys = all_keys p.keys };
    }

-- The call makes the path of each member with this public state, signature key and leaf, for a commit with these
-- extensions, or refuses with the number of the first check that fails, or with `OutOfMemory`.
abbrev pub MakesPath : Crypto → PublicState → List ℕ → ℕ → List Extension → Edits → List ℕ →
    Result NewPath PathError → Type 0
MakesPath c p signing i list e seed result =
    (m : Member) → m.public ≡ p → m.signing ≡ signing → m.keys.leaf ≡ i →
    Answers made_path number_of (new_path c m list e seed) result

-- the path passes the checks that each member makes of one, and leads to the tree that was made with it
abbrev pub IsValid : Crypto → PublicState → ℕ → Edits → NewPath → Type 0
IsValid c p i e made = apply_update_path c p i e made.path ≡ Ok (term made.tree)
