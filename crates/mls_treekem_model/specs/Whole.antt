-- The laws of a member's private keys in whole trees, as calls on them need them.
use Rattle.std.specs.Prelude.{◌≡◌, ℕ, true, false, if◌then◌else◌, List, [], ◌∷◌, map, find, length, reverse, Option, Some, None, IsSome, Ok, Err, ◌*◌, take, ◌≤◌}
use Rattle.std.specs.List.{list_all, slice_get, flat_map, AllByRecursion}
use Rattle.mls_treemath.specs.Steps.{height_of, common_ancestor_of}
use Rattle.mls_types.specs.declared.update_path.HpkeCiphertext.{HpkeCiphertext}
use Rattle.mls_types.specs.declared.update_path.UpdatePathNode.{UpdatePathNode}
use Rattle.mls_leaf.specs.Parent.{Parent}
use Rattle.mls_leaf.specs.declared.leaf.LeafNode.{LeafNode}
use Rattle.mls_suite.specs.Crypto.{Crypto, Lawful}
use Rattle.mls_tree_model.specs.Sets.{has}
use Rattle.mls_tree_model.specs.Term.{Term, width, is_perfect, leaf_at}
use Rattle.mls_tree_model.specs.Way.{Step, way, is_beside, filtered_way, filtered_path, path_length}
use Rattle.mls_tree_model.specs.Edits.{place_in, add, update, remove}
use Rattle.mls_tree_model.specs.Keys.{encryption_keys}
use Rattle.mls_tree_model.specs.Merge.{merge_path}
use Rattle.mls_tree_model.specs.Laws.{IsIn, HasLists}
use Rattle.mls_treekem_model.specs.Chain.{chain, chain_keys, path_secrets, node_public, keys_of_path}
use Rattle.mls_treekem_model.specs.Keys.{Keys, Exact}
use Rattle.mls_treekem_model.specs.Make.{Climb, made_keys}
use Rattle.mls_treekem_model.specs.Lists.{ListsBelow}
use Rattle.mls_treekem_model.specs.Seal.{targets, seal_secret, sealed_path}
use Rattle.mls_treekem_model.specs.Seeds.{seal_count_of}
use Rattle.mls_treekem_model.specs.Open.{opened_secret, filtered_from, opened_path}
use Rattle.mls_treekem_model.specs.Join.{take_keys, take_answer, AllList, secret_for}
use Rattle.mls_treekem_model.specs.Laws.{AreTwo, targets_fit}
use Rattle.mls_treekem_model.specs.Tame.{TameEdits}
use Rattle.mls_treekem_model.specs.GivenSecrets.{sealed_path_with, secret_among}

-- ---- edits

-- a member that isn't changed follows each edit
abbrev pub FollowsUpdate : Type 0
FollowsUpdate = (t : Term) (i j : ℕ) (x : LeafNode) → AreTwo 0 t i j → TameEdits j t (update t i x)

abbrev pub FollowsRemove : Type 0
FollowsRemove = (t : Term) (i j : ℕ) → AreTwo 0 t i j → IsSome (leaf_at 0 t j) → TameEdits j t (remove t i)

abbrev pub FollowsAdd : Type 0
FollowsAdd = (t : Term) (j : ℕ) (x : LeafNode) → IsIn 0 t j → IsSome (leaf_at 0 t j) → TameEdits j t (add t x)

-- the parents over a leaf that was just added list it, and do so after further adds
abbrev pub AddedIsListed : Type 0
AddedIsListed = (t : Term) (x : LeafNode) → AllList (place_in t) (way 0 (add t x) (place_in t))

abbrev pub AddKeepsListed : Type 0
AddKeepsListed = (t : Term) (j : ℕ) (x : LeafNode) → IsIn 0 t j → IsSome (leaf_at 0 t j) → AllList j (way 0 t j) → AllList j (way 0 (add t x) j)

-- ---- paths, whose nodes come the lowest first

-- the path that is made has a key for each parent of the filtered direct path
abbrev pub SealedKeys : Type 0
SealedKeys = (c : Crypto) (context : List ℕ) (added : List ℕ) (rnd : ℕ → List ℕ) (t : Term) (i : ℕ) (start : List ℕ) (path : List UpdatePathNode) → sealed_path c context added rnd t i start ≡ Ok path → map (λ n. n.encryption_key) path ≡ keys_of_path c t i start

-- each node of a sealed path has a ciphertext for each node that its secret is sealed to
abbrev pub SealedLengths : Type 0
SealedLengths = (c : Crypto) (context : List ℕ) (added : List ℕ) (rnd : ℕ → List ℕ) (t : Term) (i : ℕ) (start : List ℕ) (path : List UpdatePathNode) → sealed_path c context added rnd t i start ≡ Ok path → map (λ n. length n.ciphertexts) path ≡ reverse (map (λ s. length (targets added s)) (filtered_way 0 t i))

-- a path of more secrets than are needed is the same, where they are the chain's
abbrev pub SealedOfChain : Type 0
SealedOfChain = (c : Crypto) (context : List ℕ) (added : List ℕ) (rnd : ℕ → List ℕ) (t : Term) (i : ℕ) (start : List ℕ) (n : ℕ) → path_length 0 t i ≤ n →
    sealed_path_with c context added rnd (path_secrets start n) (map (node_public c) (path_secrets start n)) t i ≡ sealed_path c context added rnd t i start

-- it is refused with `BadKey` (36) exactly where some key that is sealed to isn't fit
abbrev pub SealedWhereFit : Type 0
SealedWhereFit = (c : Crypto) → Lawful c → (context : List ℕ) (added : List ℕ) (rnd : ℕ → List ℕ) (t : Term) (i : ℕ) (start : List ℕ) → targets_fit c added (way 0 t i) ≡ true → (path : List UpdatePathNode) × (sealed_path c context added rnd t i start ≡ Ok path)

abbrev pub RefusedWhereUnfit : Type 0
RefusedWhereUnfit = (c : Crypto) → Lawful c → (context : List ℕ) (added : List ℕ) (rnd : ℕ → List ℕ) (t : Term) (i : ℕ) (start : List ℕ) → targets_fit c added (way 0 t i) ≡ false → sealed_path c context added rnd t i start ≡ Err 36

-- so in a tree of right lists and fit keys one is made
abbrev pub FitTargets : Type 0
FitTargets = (c : Crypto) (added : List ℕ) (t : Term) (i : ℕ) → HasLists 0 t → list_all c.key_ok (encryption_keys t) ≡ true → targets_fit c added (way 0 t i) ≡ true

-- it is sealed and opened in the tree before it is merged and after, alike
abbrev pub SealedMerged : Type 0
SealedMerged = (c : Crypto) (context : List ℕ) (added : List ℕ) (rnd : ℕ → List ℕ) (t : Term) (i : ℕ) (x : LeafNode) (keys : List (List ℕ)) (start : List ℕ) → sealed_path c context added rnd (merge_path t i x keys) i start ≡ sealed_path c context added rnd t i start

abbrev pub OpenedMerged : Type 0
OpenedMerged = (c : Crypto) (context : List ℕ) (added : List ℕ) (t : Term) (i j : ℕ) (x : LeafNode) (keys : List (List ℕ)) (ks : Keys) (path : List UpdatePathNode) → opened_path c context added (merge_path t i x keys) i j ks path ≡ opened_path c context added t i j ks path

-- as is the secret that is opened
abbrev pub SecretMerged : Type 0
SecretMerged = (c : Crypto) (context : List ℕ) (added : List ℕ) (t : Term) (i j : ℕ) (x : LeafNode) (keys : List (List ℕ)) (ks : Keys) (path : List UpdatePathNode) → opened_secret c context added (merge_path t i x keys) i j ks path ≡ opened_secret c context added t i j ks path

-- the committer's keys are exact in the tree with its path
abbrev pub MadeExact : Type 0
MadeExact = (c : Crypto) (t : Term) (i : ℕ) (x : LeafNode) (start sk : List ℕ) → c.public sk ≡ x.encryption_key → Exact c 0 (merge_path t i x (keys_of_path c t i start)) i (made_keys c (way 0 t i) start sk)

-- a committer's keys are the same read in the merged tree, as is the number of its secrets
abbrev pub MadeMerged : Type 0
MadeMerged = (c : Crypto) (t : Term) (i : ℕ) (x : LeafNode) (keys : List (List ℕ)) (start sk : List ℕ) → made_keys c (way 0 (merge_path t i x keys) i) start sk ≡ made_keys c (way 0 t i) start sk

abbrev pub LengthMerged : Type 0
LengthMerged = (t : Term) (i : ℕ) (x : LeafNode) (keys : List (List ℕ)) → path_length 0 (merge_path t i x keys) i ≡ path_length 0 t i

-- as the filtered direct path is
abbrev pub FilteredMerged : Type 0
FilteredMerged = (t : Term) (i : ℕ) (x : LeafNode) (keys : List (List ℕ)) → filtered_path 0 (merge_path t i x keys) i ≡ filtered_path 0 t i

-- whatever path is accepted, a member's keys are exact in the tree with that path
abbrev pub OpenedExact : Type 0
OpenedExact = (c : Crypto) (context : List ℕ) (added : List ℕ) (t : Term) (i j : ℕ) (x : LeafNode) (ks : Keys) (path : List UpdatePathNode) (m : Climb) → AreTwo 0 t i j → Exact c 0 t j ks → opened_path c context added t i j ks path ≡ Ok m → Exact c 0 (merge_path t i x (map (λ n. n.encryption_key) path)) j m.keys

-- a path that was made is accepted by each member that was not just added, and gives it the committer's commit secret
abbrev pub OpenedAgrees : Type 0
OpenedAgrees = (c : Crypto) → Lawful c → (context : List ℕ) (added : List ℕ) (rnd : ℕ → List ℕ) (t : Term) (i j : ℕ) (start : List ℕ) (ks : Keys) (path : List UpdatePathNode) → length start ≡ 32 → AreTwo 0 t i j → ListsBelow 0 t → Exact c 0 t j ks → has added j ≡ false → sealed_path c context added rnd t i start ≡ Ok path →
    (m : Climb) × (opened_path c context added t i j ks path ≡ Ok m) × (m.secret ≡ chain start (path_length 0 t i))

-- what it opens is the committer's path secret of the parent where both ways part, the one that a joiner there is sent
abbrev pub OpenedIsSent : Type 0
OpenedIsSent = (c : Crypto) → Lawful c → (context : List ℕ) (added : List ℕ) (rnd : ℕ → List ℕ) (t : Term) (i j : ℕ) (start : List ℕ) (ks : Keys) (path : List UpdatePathNode) → length start ≡ 32 → AreTwo 0 t i j → ListsBelow 0 t → Exact c 0 t j ks → has added j ≡ false → sealed_path c context added rnd t i start ≡ Ok path →
    opened_secret c context added t i j ks path ≡ Ok (secret_for (way 0 t i) j start)

-- that secret is the chain's at the number which the lowest node over both leaves has in the filtered direct path
pub record IsAtAncestor (t : Term) (i j : ℕ) (start : List ℕ) : Type 0 where
  pub number : ℕ
  pub node : ℕ
  pub over_both : common_ancestor_of (width t) (2 * i) (2 * j) ≡ Some node
  pub in_path : slice_get (filtered_path 0 t i) number ≡ Some node
  pub secret : secret_for (way 0 t i) j start ≡ chain start number

-- among the path secrets it is that one
abbrev pub SecretIsAmong : Type 0
SecretIsAmong = (t : Term) (i j : ℕ) (start : List ℕ) (n : ℕ) → path_length 0 t i ≤ n → AreTwo 0 t i j → IsSome (leaf_at 0 t j) → secret_among (way 0 t i) j (path_secrets start n) ≡ Some (secret_for (way 0 t i) j start)

abbrev pub SecretAtAncestor : Type 0
SecretAtAncestor = (h : ℕ) (t : Term) (i j : ℕ) (start : List ℕ) → is_perfect h t ≡ true → height_of (width t) ≡ Some h → AreTwo 0 t i j → IsSome (leaf_at 0 t j) → IsAtAncestor t i j start

-- ---- the numbers of seals

-- the ciphertexts of a path, node by node
abbrev pub ciphertexts_of : List UpdatePathNode → List HpkeCiphertext
ciphertexts_of path = flat_map (λ (n : UpdatePathNode). n.ciphertexts) path

-- a ciphertext is some path secret sealed to some key, with the randomness of this number
pub record IsSealedUnder (c : Crypto) (context : List ℕ) (rnd : ℕ → List ℕ) (number : ℕ) (x : HpkeCiphertext) : Type 0 where
  pub secret : List ℕ
  pub key : List ℕ
  pub seals : seal_secret c context secret key (rnd number) ≡ Some x

-- the number of a seal of a path is its place among all ciphertexts, the lowest node's first, so that no two have one
abbrev pub SealedByNumber : Type 0
SealedByNumber = (c : Crypto) (context : List ℕ) (added : List ℕ) (rnd : ℕ → List ℕ) (t : Term) (i : ℕ) (start : List ℕ) (path : List UpdatePathNode) → sealed_path c context added rnd t i start ≡ Ok path →
    (k : ℕ) (x : HpkeCiphertext) → slice_get (ciphertexts_of path) k ≡ Some x → IsSealedUnder c context rnd k x

-- a path has as many ciphertexts as are counted for the number of the first seal behind it
abbrev pub SealsAreCounted : Type 0
SealsAreCounted = (path : List UpdatePathNode) → length (ciphertexts_of path) ≡ seal_count_of path

-- ---- any path, whoever made it

-- where no secret is opened, it is refused with that number
abbrev pub RefusedUnopened : Type 0
RefusedUnopened = (c : Crypto) (context : List ℕ) (added : List ℕ) (t : Term) (i j : ℕ) (ks : Keys) (path : List UpdatePathNode) (n : ℕ) → opened_secret c context added t i j ks path ≡ Err n → opened_path c context added t i j ks path ≡ Err n

-- the keys of a path from the parent up where the ways part, the highest first
abbrev pub keys_from : Term → ℕ → ℕ → List UpdatePathNode → List (List ℕ)
keys_from t i j path = take (filtered_from (way 0 t i) j) (map (λ n. n.encryption_key) (reverse path))

-- where a secret was opened, the path is accepted exactly when those keys are the public keys of the chain from it, and
-- then the commit secret is the chain's end; else `PathKeyMismatch` (34)
pub record IsJudged (c : Crypto) (context added : List ℕ) (t : Term) (i j : ℕ) (ks : Keys) (path : List UpdatePathNode) (secret : List ℕ) : Type 0 where
  pub right : keys_from t i j path ≡ chain_keys c secret (filtered_from (way 0 t i) j) → (m : Climb) × (opened_path c context added t i j ks path ≡ Ok m) × (m.secret ≡ chain secret (filtered_from (way 0 t i) j))
  pub wrong : (keys_from t i j path ≡ chain_keys c secret (filtered_from (way 0 t i) j) → ⊥) → opened_path c context added t i j ks path ≡ Err 34

abbrev pub JudgedByKeys : Type 0
JudgedByKeys = (c : Crypto) (context : List ℕ) (added : List ℕ) (t : Term) (i j : ℕ) (ks : Keys) (path : List UpdatePathNode) (secret : List ℕ) → opened_secret c context added t i j ks path ≡ Ok secret → IsJudged c context added t i j ks path secret

-- ---- a joiner

-- a joiner that the parents over it list takes the committer's commit secret in the tree with the path
abbrev pub TakenAgrees : Type 0
TakenAgrees = (c : Crypto) (t : Term) (i j : ℕ) (x y : LeafNode) (start own : List ℕ) → AreTwo 0 t i j → leaf_at 0 t j ≡ Some y → c.public own ≡ y.encryption_key → AllList j (way 0 t j) →
    (m : Climb) × (take_keys c (merge_path t i x (keys_of_path c t i start)) i j own (secret_for (way 0 t i) j start) ≡ Ok m) × (m.secret ≡ chain start (path_length 0 t i))

-- the secret that a joiner is sent is the same, read in the tree before the path or after
abbrev pub SecretForMerged : Type 0
SecretForMerged = (t : Term) (i j : ℕ) (x : LeafNode) (keys : List (List ℕ)) (start : List ℕ) → secret_for (way 0 (merge_path t i x keys) i) j start ≡ secret_for (way 0 t i) j start

-- ---- any path secret, whoever sent it

-- a parent before others, where it isn't blank
abbrev pub with_parent : Option Parent → List Parent → List Parent
with_parent None ps = ps
with_parent (Some p) ps = p ∷ ps

-- the parents of a way that aren't blank, down to the one where leaf j's way parts from it, the highest first
unfoldable pub parents_over : List Step → ℕ → List Parent
parents_over [] j = []
parents_over (s ∷ ss) j = with_parent s.parent (if is_beside s j then [] else parents_over ss j)

-- a path secret fits a way over leaf j (RFC 9420, 12.4.3.1): the parent where the ways part is there, it and those
-- above don't list j and have the public keys of the chain from this secret, and those below on j's way list j
pub record FitsOver (c : Crypto) (j : ℕ) (secret : List ℕ) (ss : List Step) : Type 0 where
  pub step : Step
  pub lowest : Parent
  pub parts : find (λ (s : Step). is_beside s j) ss ≡ Some step
  pub present : step.parent ≡ Some lowest
  pub unlisted : AllByRecursion (λ (p : Parent). has p.unmerged_leaves j ≡ false) (parents_over ss j)
  pub keys : map (λ (p : Parent). p.encryption_key) (parents_over ss j) ≡ chain_keys c secret (length (parents_over ss j))
  pub below : AllList j (way step.first step.other j)

-- a joiner takes a path secret exactly when it fits the signer's way, and the commit secret is then the chain's next
abbrev pub TakenFits : Type 0
TakenFits = (c : Crypto) (t : Term) (i j : ℕ) (sk secret : List ℕ) (m : Climb) → AreTwo 0 t i j → take_answer c t i j sk secret ≡ Ok m →
    FitsOver c j secret (way 0 t i) × (m.secret ≡ chain secret (length (parents_over (way 0 t i) j)))

abbrev pub FitIsTaken : Type 0
FitIsTaken = (c : Crypto) (t : Term) (i j : ℕ) (sk secret : List ℕ) → AreTwo 0 t i j → FitsOver c j secret (way 0 t i) →
    (m : Climb) × (take_answer c t i j sk secret ≡ Ok m) × (m.secret ≡ chain secret (length (parents_over (way 0 t i) j)))
