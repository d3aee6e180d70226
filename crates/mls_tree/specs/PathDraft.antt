-- A committer's path before its leaf is signed.
use Rattle.std.specs.Prelude.{◌≡◌, ℕ, List, [], length, reverse, Result, Ok}
use Rattle.mls_wire.specs.Checks.{Answers, passed}
use Rattle.mls_leaf.specs.Parent.{Parent}
use Rattle.mls_tree_model.specs.Term.{Term}
use Rattle.mls_tree_model.specs.Merge.{path_parent_hash}
use Rattle.mls_tree_array.specs.Merging.{path_parents}
use Rattle.mls_tree.specs.Faults.{number_of}
use Rattle.mls_tree.specs.Paths.{path_checks, path_hash_answer}
use Rattle.mls_tree.specs.declared.error.TreeError.{TreeError}

-- the leaf index and the keys of a path, the lowest first, the parents over the leaf, the highest
-- first, and the parent hash that the leaf must have
pub record Draft : Type 0 where
  pub index : ℕ
  pub keys : List (List ℕ)
  pub parents : List Parent
  pub hash : List ℕ

-- this is what a merge of a path of leaf i with these keys makes of a tree over the leaf, and the
-- parent hash that the leaf must have (RFC 9420, 7.5 and 7.9)
pub record IsDraftOf (t : Term) (i : ℕ) (given : List (List ℕ)) (d : Draft) : Type 0 where
  pub index : d.index ≡ i
  pub keys : d.keys ≡ given
  pub checks : path_checks t i (length given) ≡ Ok passed
  pub parents : d.parents ≡ path_parents 0 t i (reverse given) []
  pub hash : d.hash ≡ path_parent_hash t i given

-- the path was drafted so for the tree
abbrev pub IsDraftFor : Term → Draft → Type 0
IsDraftFor t d = IsDraftOf t d.index d.keys d

-- A call drafts a path with the parent hash that its leaf must have, or refuses with the number of
-- the first check that fails, or with `OutOfMemory`.
abbrev pub AnswersDraft : Term → ℕ → List (List ℕ) → Result Draft TreeError → Type 0
AnswersDraft t i keys result = Answers (λ d. d.hash) number_of (path_hash_answer t i keys) result
