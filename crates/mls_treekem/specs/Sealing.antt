-- What code answers as it seals a path, from the lowest node up.
use Rattle.std.specs.Prelude.{ℕ, List, reverse, Result, ◌≡◌, length, Option}
use Rattle.std.specs.List.{slice_get}
use Rattle.std.specs.Option.{option_map, option_copied}
use Rattle.std.specs.Borrow.{Bor}
use Rattle.std.specs.Global.{Vec}
use Rattle.mls_wire.specs.Checks.{require_some, Answers}
use Rattle.mls_types.specs.declared.update_path.HpkeCiphertext.{HpkeCiphertext}
use Rattle.mls_types.specs.declared.update_path.UpdatePathNode.{UpdatePathNode}
use Rattle.mls_suite.specs.Crypto.{Crypto}
use Rattle.mls_tree_model.specs.Sets.{leaf_numbers, less}
use Rattle.mls_tree_model.specs.Term.{Term}
use Rattle.mls_tree_model.specs.Way.{Step, way, path_length}
use Rattle.mls_treekem_model.specs.Seal.{seal_all, seal_to, seal_count, sealed_path}
use Rattle.mls_treekem_model.specs.Seeds.{seal_seed, seal_count_of}
use Rattle.mls_treekem_model.specs.Make.{filtered_count}
use Rattle.mls_treekem.specs.declared.error.TreeKemError.{TreeKemError}
use Rattle.mls_treekem.specs.declared.places.Place.{Place}
use Rattle.mls_treekem.specs.declared.secrets.PathSecrets.{PathSecrets}
use Rattle.mls_treekem.specs.Faults.{number_of, AnswersValue, AnswersList}
use Rattle.mls_treekem.specs.Place.{subtree_at, steps_at}
use Rattle.mls_treekem.specs.Secrets.{public_keys, AreOfChain}
use Rattle.mls_treekem.specs.declared.seal.Sealer.{Sealer}
use Rattle.mls_tree.specs.Tree.{Tree, term}
use Rattle.mls_treekem_model.specs.GivenSecrets.{node_with, seal_path_with, sealed_path_with}

-- a path secret sealed at a place of a tree to some nodes, without the leaves just added; seals are numbered from i on
abbrev pub sealed_beside : Crypto → List ℕ → List ℕ → List ℕ → Term → Place → List ℕ → List ℕ → ℕ → Result (List HpkeCiphertext) ℕ
sealed_beside c context added seed t p reached secret i =
    require_some 36 (seal_all c context secret p.first (subtree_at t p.beside) (seal_seed seed) i (less (leaf_numbers added) reached))

-- the node of a path at a place: with key pair number k and path secret number k
abbrev pub SealsNode : Crypto → List ℕ → List ℕ → List ℕ → Term → Place → List ℕ → PathSecrets → ℕ → ℕ → Result UpdatePathNode TreeKemError → Type 0
SealsNode c context added seed t p reached path k i result =
    Answers (λ x. x) number_of
    (require_some 36 (node_with c context p.first (subtree_at t p.beside) (seal_seed seed) i (less (leaf_numbers added) reached) (slice_get path.secrets.items k) (slice_get (public_keys path) k)))
    result

-- the path along a way, the lowest node first
abbrev pub sealed_along : Crypto → List ℕ → List ℕ → List ℕ → List (List ℕ) → List (List ℕ) → List Step → Result (List UpdatePathNode) ℕ
sealed_along c context added seed secrets keys ss = require_some 36 (option_map reverse (seal_path_with c context added (seal_seed seed) secrets keys ss))

-- ---- what code seals with

-- a call seals a path secret to a public key, which may be missing
abbrev pub SealsTo : Crypto → List ℕ → List ℕ → Option (Bor (List ℕ)) → List ℕ → Result HpkeCiphertext TreeKemError → Type 0
SealsTo c context secret key rnd result = AnswersValue (require_some 36 (seal_to c context secret (option_copied key) rnd)) result

-- a call seals a path secret at a place to some nodes, without the leaves just added; seals are numbered from i on
abbrev pub SealsBeside : Crypto → Sealer → Place → List ℕ → List ℕ → ℕ → Result (Vec HpkeCiphertext) TreeKemError → Type 0
SealsBeside c s p reached secret i result =
    AnswersList (sealed_beside c s.context.now s.added.now s.seed.now (term s.tree.now) p reached secret i) result

-- a call seals the node of a path at a place: with key pair number k and path secret number k
abbrev pub SealsAt : Crypto → Sealer → Place → List ℕ → ℕ → ℕ → Result UpdatePathNode TreeKemError → Type 0
SealsAt c s p reached k i result =
    SealsNode c s.context.now s.added.now s.seed.now (term s.tree.now) p reached s.path.now k i result

-- a node of a path has as many seals as there are nodes to seal to
abbrev pub HasSeals : Sealer → List ℕ → UpdatePathNode → Type 0
HasSeals s reached = λ node. length node.ciphertexts ≡ length (less (leaf_numbers s.added.now) reached)

-- a call seals the path at some places, the lowest node first
abbrev pub SealsAlong : Crypto → Sealer → List Place → Result (Vec UpdatePathNode) TreeKemError → Type 0
SealsAlong c s places result =
    AnswersList (sealed_along c s.context.now s.added.now s.seed.now s.path.now.secrets.items (public_keys s.path.now) (steps_at (term s.tree.now) places)) result

-- a path has as many nodes as the filtered direct path takes parents in
abbrev pub HasNodes : Sealer → List Place → Vec UpdatePathNode → Type 0
HasNodes s places = λ nodes. length nodes.items ≡ filtered_count (steps_at (term s.tree.now) places)

-- a path has as many seals as there are nodes to seal to along its way
abbrev pub HasSealsAlong : Sealer → List Place → Vec UpdatePathNode → Type 0
HasSealsAlong s places = λ nodes. seal_count_of nodes.items ≡ seal_count s.added.now (steps_at (term s.tree.now) places)

-- a call seals the path of leaf i
abbrev pub SealsPath : Crypto → List ℕ → List ℕ → List ℕ → PathSecrets → Tree → ℕ → Result (Vec UpdatePathNode) TreeKemError → Type 0
SealsPath c context added seed path tree i result =
    AnswersList (sealed_path_with c context added (seal_seed seed) path.secrets.items (public_keys path) (term tree) i) result

-- a call seals the path of leaf i, where its secrets are those of a chain as long as the filtered direct path
abbrev pub SealsChain : Crypto → List ℕ → List ℕ → List ℕ → PathSecrets → Tree → ℕ → Result (Vec UpdatePathNode) TreeKemError → Type 0
SealsChain c context added seed path tree i result =
    (start : List ℕ) → AreOfChain c start (path_length 0 (term tree) i) path → AnswersList (sealed_path c context added (seal_seed seed) (term tree) i start) result

-- a path of leaf i has as many seals as there are nodes to seal to on its way
abbrev pub HasSealCount : List ℕ → Tree → ℕ → Vec UpdatePathNode → Type 0
HasSealCount added tree i = λ nodes. seal_count_of nodes.items ≡ seal_count added (way 0 (term tree) i)
