-- The path that a committer sends: each secret sealed to those who need it (RFC 9420, 7.6).
use Rattle.std.specs.Prelude.{◌≡◌, ℕ, suc, ◌+◌, if◌then◌else◌, Bool, true, false, List, [], ◌∷◌, length, reverse, codes, Option, Some, None, Result}
use Rattle.std.specs.Option.{option_map}
use Rattle.mls_wire.specs.Checks.{require_some}
use Rattle.mls_types.specs.declared.update_path.HpkeCiphertext.{HpkeCiphertext}
use Rattle.mls_types.specs.declared.update_path.UpdatePathNode.{UpdatePathNode}
use Rattle.mls_suite.specs.Crypto.{Crypto, Sealing}
use Rattle.mls_suite.specs.Labels.{encrypt_with_label}
use Rattle.mls_tree_model.specs.Sets.{leaf_numbers, less}
use Rattle.mls_tree_model.specs.Term.{Term}
use Rattle.mls_tree_model.specs.Resolution.{resolution}
use Rattle.mls_tree_model.specs.Places.{key_at}
use Rattle.mls_tree_model.specs.Way.{Step, way, is_filtered}
use Rattle.mls_treekem_model.specs.Chain.{node_public}
use Rattle.mls_treekem_model.specs.Keys.{rest}
use Rattle.mls_treekem_model.specs.Make.{secret_above}

-- the first of two statements where this is so, else the second
abbrev pub Choose : Bool → Type 0 → Type 0 → Type 0
Choose true P Q = P
Choose false P Q = Q

-- the nodes that the path secret of a parent is sealed to: the resolution of its other side, without the leaves just
-- added (RFC 9420, 7.5 and 7.6)
unfoldable pub targets : List ℕ → Step → List ℕ
targets added s = less (leaf_numbers added) (resolution s.first s.other)

-- how many seals the path has at the parents of a way
unfoldable pub seal_count : List ℕ → List Step → ℕ
seal_count added [] = 0
seal_count added (s ∷ ss) = (if is_filtered s then length (targets added s) else 0) + seal_count added ss

-- ---- what a path has to be

-- what is sealed, as an HPKECiphertext (RFC 9420, 7.6)
abbrev pub ciphertext_of : Sealing → HpkeCiphertext
ciphertext_of s = record { kem_output = s.kem; ciphertext = s.ct }

-- a path secret sealed to a public key with some randomness, under the context of the group (RFC 9420, 7.6)
unfoldable pub seal_secret : Crypto → List ℕ → List ℕ → List ℕ → List ℕ → Option HpkeCiphertext
seal_secret c context secret pk rnd =
    option_map ciphertext_of (encrypt_with_label c pk (codes "UpdatePathNode") context secret rnd)

-- a ciphertext is a path secret sealed to a key that is there
pub record IsSealedTo (c : Crypto) (context secret : List ℕ) (key : Option (List ℕ)) (x : HpkeCiphertext) : Type 0 where
  pub pk : List ℕ
  pub rnd : List ℕ
  pub key_is : key ≡ Some pk
  pub seals : seal_secret c context secret pk rnd ≡ Some x

-- some ciphertexts are sealed to the keys of some nodes of a tree, in order
unfoldable pub IsSealedToAll : Crypto → List ℕ → List ℕ → ℕ → Term → List ℕ → List HpkeCiphertext → Type 0
IsSealedToAll c context secret b t [] [] = Unit {0}
IsSealedToAll c context secret b t [] (x ∷ xs) = ⊥
IsSealedToAll c context secret b t (d ∷ ds) [] = ⊥
IsSealedToAll c context secret b t (d ∷ ds) (x ∷ xs) = IsSealedTo c context secret (key_at b t d) x × IsSealedToAll c context secret b t ds xs

-- the first node of a path is made for this parent and path secret
abbrev pub IsNodeFor : Crypto → List ℕ → List ℕ → Step → List ℕ → List UpdatePathNode → Type 0
IsNodeFor c context added s secret [] = ⊥
IsNodeFor c context added s secret (n ∷ ns) =
    (n.encryption_key ≡ node_public c secret) × IsSealedToAll c context secret s.first s.other (targets added s) n.ciphertexts

-- a path with a node for each filtered parent of a way, the highest first, from this first path secret (RFC 9420, 7.5)
unfoldable pub IsPathOf : Crypto → List ℕ → List ℕ → List Step → List ℕ → List UpdatePathNode → Type 0
IsPathOf c context added [] start ns = ns ≡ []
IsPathOf c context added (s ∷ ss) start ns =
    Choose (is_filtered s)
    (IsNodeFor c context added s (secret_above ss start) ns × IsPathOf c context added ss start (rest ns))
    (IsPathOf c context added ss start ns)

-- ---- the path itself

-- a path secret sealed to a key, where it is there and fit
abbrev pub seal_to : Crypto → List ℕ → List ℕ → Option (List ℕ) → List ℕ → Option HpkeCiphertext
seal_to c context secret (Some pk) rnd = seal_secret c context secret pk rnd
seal_to c context secret None rnd = None

-- an item before others, where both are there
abbrev pub cons_both : {A : Type 0} → Option A → Option (List A) → Option (List A)
cons_both (Some x) (Some xs) = Some (x ∷ xs)
cons_both (Some x) None = None
cons_both None xs = None

-- a path secret sealed to the keys of some nodes of a tree, with the randomness of each seal by its number, from i on;
-- none where a key is missing or not fit (RFC 9420, 7.6)
unfoldable pub seal_all : Crypto → List ℕ → List ℕ → ℕ → Term → (ℕ → List ℕ) → ℕ → List ℕ → Option (List HpkeCiphertext)
seal_all c context secret b t rnd i [] = Some []
seal_all c context secret b t rnd i (d ∷ ds) =
    cons_both (seal_to c context secret (key_at b t d) (rnd i)) (seal_all c context secret b t rnd (suc i) ds)

-- a node of a path with its public key and its ciphertexts, where these are there (RFC 9420, 7.6)
abbrev pub with_ciphertexts : List ℕ → Option (List HpkeCiphertext) → Option UpdatePathNode
with_ciphertexts k (Some xs) = Some (record { encryption_key = k; ciphertexts = xs })
with_ciphertexts k None = None

-- the nodes of a path past a parent: one more where the filtered direct path takes it in
abbrev pub path_past : Bool → Option UpdatePathNode → Option (List UpdatePathNode) → Option (List UpdatePathNode)
path_past true n ns = cons_both n ns
path_past false n ns = ns

-- the path along a way, the highest node first; seals are numbered from the lowest node up (RFC 9420, 7.5 and 7.6)
unfoldable pub seal_along : Crypto → List ℕ → List ℕ → (ℕ → List ℕ) → List Step → List ℕ → Option (List UpdatePathNode)
seal_along c context added rnd [] start = Some []
seal_along c context added rnd (s ∷ ss) start =
    let secret : List ℕ = secret_above ss start in
    path_past (is_filtered s)
    (with_ciphertexts (node_public c secret)
    (seal_all c context secret s.first s.other rnd (seal_count added ss) (targets added s)))
    (seal_along c context added rnd ss start)

-- the nodes of the path that leaf i of a whole tree sends, the lowest first; `BadKey` (36) where a key is missing or
-- not fit (RFC 9420, 7.5 and 7.6)
unfoldable pub sealed_path : Crypto → List ℕ → List ℕ → (ℕ → List ℕ) → Term → ℕ → List ℕ → Result (List UpdatePathNode) ℕ
sealed_path c context added rnd t i start =
    require_some 36 (option_map reverse (seal_along c context added rnd (way 0 t i) start))
