-- The laws of a member's private keys.
use Rattle.std.specs.Prelude.{◌≡◌, ℕ, ◌+◌, ◌*◌, ◌≤◌, ◌↔◌, true, false, nat_eq, List, [], ◌∷◌, map, filter, length, reverse, Option, Some, None, is_some, IsSome, Ok, ◌<◌, ◌%◌, ◌^◌, not, ◌&&◌, ◌||◌, Bool, if◌then◌else◌}
use Rattle.std.specs.List.{flat_map}
use Rattle.mls_types.specs.declared.update_path.UpdatePathNode.{UpdatePathNode}
use Rattle.mls_leaf.specs.declared.leaf.LeafNode.{LeafNode}
use Rattle.mls_suite.specs.Crypto.{Crypto, Lawful}
use Rattle.mls_tree_model.specs.Sets.{has, leaf_numbers, less, is_distinct}
use Rattle.mls_tree_model.specs.Term.{Term, size, leaf_at}
use Rattle.mls_tree_model.specs.Resolution.{resolution}
use Rattle.mls_tree_model.specs.Places.{key_at}
use Rattle.mls_tree_model.specs.HeldKeys.{holds_key_of}
use Rattle.mls_tree_model.specs.Way.{Step, way, is_filtered, filtered_way, is_beside, path_length}
use Rattle.mls_tree_model.specs.Edits.{put, enter, grow, trim}
use Rattle.mls_tree_model.specs.Merge.{merge}
use Rattle.mls_tree_model.specs.Laws.{IsIn, HasLists}
use Rattle.mls_treekem_model.specs.Chain.{path_secrets, node_public, chain_keys}
use Rattle.mls_treekem_model.specs.Keys.{Keys, Exact, leaf_only, key_in, keys_on_way, rest}
use Rattle.mls_treekem_model.specs.Follow.{follow, follow_trim, follow_edit}
use Rattle.mls_treekem_model.specs.Make.{Climb, filtered_count, climb_make, climb_past, path_keys, one_if}
use Rattle.mls_treekem_model.specs.Lists.{ListsBelow}
use Rattle.mls_treekem_model.specs.Seeds.{seal_seed}
use Rattle.mls_treekem_model.specs.Seal.{targets, seal_count, IsPathOf, seal_along}
use Rattle.mls_treekem_model.specs.Open.{climb_open}
use Rattle.mls_treekem_model.specs.Join.{is_complete, take_keys, take_answer, AllList, secret_for}
use Rattle.mls_treekem_model.specs.Pairs.{pairs, find_key, IsInOrder}
use Rattle.mls_treekem_model.specs.Tame.{Tame, TameEdits}

-- a member's keys after a path: the committer's where their ways are one, its own below
unfoldable pub shared_keys : List Step → ℕ → Keys → Keys → Keys
shared_keys [] j ms ks = []
shared_keys (s ∷ ss) j [] ks = []
shared_keys (s ∷ ss) j (m ∷ ms) ks = m ∷ (if is_beside s j then rest ks else shared_keys ss j ms (rest ks))

-- how many of some nodes have a key
unfoldable pub held_count : (ℕ → Option (List ℕ)) → List ℕ → ℕ
held_count keys [] = 0
held_count keys (d ∷ ds) = one_if (is_some (keys d)) (held_count keys ds)

-- whether a key is there and fit
abbrev pub has_fit_key : Crypto → Option (List ℕ) → Bool
has_fit_key c (Some pk) = c.key_ok pk
has_fit_key c None = false

-- whether the key of each of some nodes is there and fit
unfoldable pub all_fit : Crypto → ℕ → Term → List ℕ → Bool
all_fit c b t [] = true
all_fit c b t (d ∷ ds) = has_fit_key c (key_at b t d) && all_fit c b t ds

-- whether each node that a secret is sealed to has a fit key
unfoldable pub targets_fit : Crypto → List ℕ → List Step → Bool
targets_fit c added [] = true
targets_fit c added (s ∷ ss) = (not (is_filtered s) || all_fit c s.first s.other (targets added s)) && targets_fit c added ss

-- two leaves of a tree
pub record AreTwo (b : ℕ) (t : Term) (i j : ℕ) : Type 0 where
  pub first : IsIn b t i
  pub second : IsIn b t j
  pub apart : j ≡ i → ⊥

-- ---- following the edits

-- an edit at another leaf is tame: an update or a removal, an add, and one after the other
abbrev pub TamePut : Type 0
TamePut = (b : ℕ) (t : Term) (i j : ℕ) (x : Option LeafNode) → AreTwo b t i j → Tame j b t (put b t i x)

abbrev pub TameEnter : Type 0
TameEnter = (b : ℕ) (t : Term) (i j : ℕ) (x : LeafNode) → AreTwo b t i j → Tame j b t (enter b t i x)

abbrev pub TameRefl : Type 0
TameRefl = (j b : ℕ) (t : Term) → Tame j b t t

abbrev pub TameTrans : Type 0
TameTrans = (j b : ℕ) (t u v : Term) → Tame j b t u → Tame j b u v → Tame j b t v

-- after tame edits a member's keys are those of the parents that aren't blank
abbrev pub FollowTame : Type 0
FollowTame = (c : Crypto) (j b : ℕ) (t t' : Term) (ks : Keys) → Exact c b t j ks → Tame j b t t' → Exact c b t' j (follow (way b t' j) ks)

-- in a larger tree it has none at the new root, in a smaller one those that are left
abbrev pub FollowGrow : Type 0
FollowGrow = (c : Crypto) (t : Term) (j : ℕ) (ks : Keys) → IsIn 0 t j → Exact c 0 t j ks → Exact c 0 (grow t) j (None ∷ ks)

abbrev pub FollowTrim : Type 0
FollowTrim = (c : Crypto) (t : Term) (j : ℕ) (ks : Keys) → IsIn 0 t j → Exact c 0 t j ks → Exact c 0 (trim t) j (follow_trim t ks) × IsIn 0 (trim t) j

-- after its own update it has its leaf's key alone
abbrev pub FollowOwn : Type 0
FollowOwn = (c : Crypto) (b : ℕ) (t : Term) (i : ℕ) (x : LeafNode) (k : List ℕ) → c.public k ≡ x.encryption_key → Exact c b (put b t i (Some x)) i (leaf_only (way b t i) k)

-- ---- in one pass

-- edits in turn, also those that make the tree higher or lower, are followed in one pass over the last tree
abbrev pub FollowsTrans : Type 0
FollowsTrans = (j : ℕ) (t u v : Term) → TameEdits j t u → TameEdits j u v → TameEdits j t v

abbrev pub FollowsTame : Type 0
FollowsTame = (j : ℕ) (t t' : Term) → Tame j 0 t t' → TameEdits j t t'

abbrev pub FollowsGrow : Type 0
FollowsGrow = (t : Term) (j : ℕ) → IsIn 0 t j → TameEdits j t (grow t)

abbrev pub FollowsTrim : Type 0
FollowsTrim = (t : Term) (j : ℕ) → IsIn 0 t j → IsSome (leaf_at 0 t j) → TameEdits j t (trim t)

abbrev pub FollowEdit : Type 0
FollowEdit = (c : Crypto) (t t' : Term) (j : ℕ) (ks : Keys) → Exact c 0 t j ks → TameEdits j t t' → Exact c 0 t' j (follow_edit None (way 0 t' j) ks)

-- with an own update among them, whatever was held before
abbrev pub FollowOwnEdit : Type 0
FollowOwnEdit = (c : Crypto) (t t' : Term) (j : ℕ) (x : LeafNode) (k : List ℕ) (ks : Keys) → c.public k ≡ x.encryption_key → TameEdits j (put 0 t j (Some x)) t' → Exact c 0 t' j (follow_edit (Some k) (way 0 t' j) ks)

-- exact keys stand on their way by their height, and a leaf's key alone does on any way to it
abbrev pub ExactIsOnWay : Type 0
ExactIsOnWay = (c : Crypto) (b : ℕ) (t : Term) (j : ℕ) (ks : Keys) → Exact c b t j ks → keys_on_way (way b t j) ks ≡ ks

abbrev pub LeafIsOnWay : Type 0
LeafIsOnWay = (ss : List Step) (k : List ℕ) → keys_on_way ss (Some k ∷ []) ≡ leaf_only ss k

-- the pass drops keys of keys that stand so
abbrev pub EditIsFollow : Type 0
EditIsFollow = (ss : List Step) (ks : Keys) → follow_edit None ss ks ≡ follow ss (keys_on_way ss ks)

-- ---- lists of unmerged leaves

-- right lists name leaves below their parent, and the edits keep lists rising and of leaves below their parent
abbrev pub RightAreBelow : Type 0
RightAreBelow = (b : ℕ) (t : Term) → HasLists b t → ListsBelow b t

abbrev pub BelowPut : Type 0
BelowPut = (b : ℕ) (t : Term) (i : ℕ) (x : Option LeafNode) → ListsBelow b t → ListsBelow b (put b t i x)

abbrev pub BelowEnter : Type 0
BelowEnter = (b : ℕ) (t : Term) (i : ℕ) (x : LeafNode) → IsIn b t i → ListsBelow b t → ListsBelow b (enter b t i x)

abbrev pub BelowGrow : Type 0
BelowGrow = (t : Term) → ListsBelow 0 t → ListsBelow 0 (grow t)

abbrev pub BelowTrim : Type 0
BelowTrim = (b : ℕ) (t : Term) → ListsBelow b t → ListsBelow b (trim t)

abbrev pub BelowMerge : Type 0
BelowMerge = (b : ℕ) (t : Term) (i : ℕ) (ks : List (List ℕ)) (h : List ℕ) (x : LeafNode) → ListsBelow b t → ListsBelow b (merge b t i ks h x)

-- ---- targets

-- a resolution's nodes are nodes of the tree, each once
abbrev pub ResolutionInPlace : Type 0
ResolutionInPlace = (b : ℕ) (t : Term) (d : ℕ) → ListsBelow b t → has (resolution b t) d ≡ true → (2 * b ≤ d) × (d < 2 * b + size t)

abbrev pub ResolutionDistinct : Type 0
ResolutionDistinct = (b : ℕ) (t : Term) → ListsBelow b t → is_distinct nat_eq (resolution b t) ≡ true

-- another member is beside the committer's way at just one parent, and that one is filtered
abbrev pub OneFiltered : Type 0
OneFiltered = (b : ℕ) (t : Term) (i j : ℕ) → AreTwo b t i j → IsSome (leaf_at b t j) → map is_filtered (filter (λ s. is_beside s j) (way b t i)) ≡ true ∷ []

-- so just one node of the path is made for the side that another member is on
abbrev pub OneNode : Type 0
OneNode = (b : ℕ) (t : Term) (i j : ℕ) → AreTwo b t i j → IsSome (leaf_at b t j) → length (filter (λ s. is_beside s j) (filtered_way b t i)) ≡ 1

-- a member with exact keys has one exactly when it has to
abbrev pub KeyWhereHeld : Type 0
KeyWhereHeld = (c : Crypto) (b : ℕ) (t : Term) (j : ℕ) (ks : Keys) (d : ℕ) → IsIn b t j → Exact c b t j ks → is_some (key_in b t j ks d) ≡ holds_key_of b t j d

-- of the nodes that reach a member's subtree, less the leaves just added, it has the key of just one
abbrev pub OneEntry : Type 0
OneEntry = (c : Crypto) (added : List ℕ) (b : ℕ) (t : Term) (j : ℕ) (ks : Keys) → ListsBelow b t → IsIn b t j → Exact c b t j ks → has added j ≡ false → held_count (key_in b t j ks) (less (leaf_numbers added) (resolution b t)) ≡ 1

-- of the targets of all nodes of a path, a member has the key of just one
abbrev pub OneTarget : Type 0
OneTarget = (c : Crypto) (added : List ℕ) (b : ℕ) (t : Term) (i j : ℕ) (ks : Keys) → AreTwo b t i j → ListsBelow b t → Exact c b t j ks → has added j ≡ false → held_count (key_in b t j ks) (flat_map (targets added) (filtered_way b t i)) ≡ 1

-- a private key that a member has at a node is the one of the node's public key
abbrev pub EntryKey : Type 0
EntryKey = (c : Crypto) (b : ℕ) (t : Term) (j : ℕ) (ks : Keys) (d : ℕ) (k : List ℕ) → IsIn b t j → Exact c b t j ks → key_in b t j ks d ≡ Some k → key_at b t d ≡ Some (c.public k)

-- as pairs, a member's keys are in the order of their nodes, and exactly those that it has
abbrev pub PairsInOrder : Type 0
PairsInOrder = (b : ℕ) (t : Term) (j : ℕ) (ks : Keys) → IsIn b t j → IsInOrder (pairs b t j ks)

abbrev pub PairsFound : Type 0
PairsFound = (b : ℕ) (t : Term) (j : ℕ) (ks : Keys) (d : ℕ) → IsIn b t j → find_key d (pairs b t j ks) ≡ key_in b t j ks d

-- ---- making

-- the path's keys are those of the chain, as many as there are filtered parents
abbrev pub KeysAreChain : Type 0
KeysAreChain = (c : Crypto) (ss : List Step) (start : List ℕ) → path_keys c ss start ≡ chain_keys c start (filtered_count ss)

-- the public keys of path secrets that are given lowest first are those of their chain
abbrev pub KeysOfSecrets : Type 0
KeysOfSecrets = (c : Crypto) (start : List ℕ) (k : ℕ) → reverse (map (node_public c) (path_secrets start k)) ≡ chain_keys c start k

-- there are as many as the filtered path is long
abbrev pub CountIsLength : Type 0
CountIsLength = (b : ℕ) (t : Term) (i : ℕ) → filtered_count (way b t i) ≡ path_length b t i

-- the committer climbs as each member does
abbrev pub MakingClimbs : Type 0
MakingClimbs = (c : Crypto) (s : Step) (ss : List Step) (start sk : List ℕ) → climb_make c (s ∷ ss) start sk ≡ climb_past c (is_filtered s) (climb_make c ss start sk)

-- the committer's keys are exact in the tree with its path
abbrev pub MakeExact : Type 0
MakeExact = (c : Crypto) (b : ℕ) (t : Term) (i : ℕ) (h : List ℕ) (x : LeafNode) (start sk : List ℕ) → c.public sk ≡ x.encryption_key → Exact c b (merge b t i (path_keys c (way b t i) start) h x) i (climb_make c (way b t i) start sk).keys

-- a path that is made is the committer's, and its keys are
abbrev pub MadePath : Type 0
MadePath = (c : Crypto) (context : List ℕ) (added : List ℕ) (rnd : ℕ → List ℕ) (ss : List Step) (start : List ℕ) (ns : List UpdatePathNode) → seal_along c context added rnd ss start ≡ Some ns → IsPathOf c context added ss start ns

abbrev pub PathHasKeys : Type 0
PathHasKeys = (c : Crypto) (context : List ℕ) (added : List ℕ) (start : List ℕ) (ss : List Step) (ns : List UpdatePathNode) → IsPathOf c context added ss start ns → map (λ n. n.encryption_key) ns ≡ path_keys c ss start

-- one is made exactly where each key that is sealed to is fit
abbrev pub PathMade : Type 0
PathMade = (c : Crypto) → Lawful c → (context : List ℕ) (added : List ℕ) (rnd : ℕ → List ℕ) (ss : List Step) (start : List ℕ) → is_some (seal_along c context added rnd ss start) ≡ targets_fit c added ss

-- a seal's number counts by its low 32 bits
abbrev pub SeedWraps : Type 0
SeedWraps = (seed : List ℕ) (n : ℕ) → seal_seed seed n ≡ seal_seed seed (n % 2 ^ 32)

-- secrets and seals are the same in the tree with a path merged
abbrev pub MakeMerged : Type 0
MakeMerged = (c : Crypto) (b : ℕ) (t : Term) (i : ℕ) (ms : List (List ℕ)) (h : List ℕ) (x : LeafNode) (start sk : List ℕ) → climb_make c (way b (merge b t i ms h x) i) start sk ≡ climb_make c (way b t i) start sk

abbrev pub SealMerged : Type 0
SealMerged = (c : Crypto) (context : List ℕ) (added : List ℕ) (rnd : ℕ → List ℕ) (b : ℕ) (t : Term) (i : ℕ) (ms : List (List ℕ)) (h : List ℕ) (x : LeafNode) (start : List ℕ) → seal_along c context added rnd (way b (merge b t i ms h x) i) start ≡ seal_along c context added rnd (way b t i) start

-- as is the number of seals
abbrev pub CountMerged : Type 0
CountMerged = (added : List ℕ) (b : ℕ) (t : Term) (i : ℕ) (ms : List (List ℕ)) (h : List ℕ) (x : LeafNode) → seal_count added (way b (merge b t i ms h x) i) ≡ seal_count added (way b t i)

abbrev pub PathMerged : Type 0
PathMerged = (c : Crypto) (context : List ℕ) (added : List ℕ) (b : ℕ) (t : Term) (i : ℕ) (ms : List (List ℕ)) (h : List ℕ) (x : LeafNode) (start : List ℕ) (ns : List UpdatePathNode) → IsPathOf c context added (way b (merge b t i ms h x) i) start ns → IsPathOf c context added (way b t i) start ns

-- ---- receiving

-- a path opens the same in the tree with a path merged
abbrev pub OpenMerged : Type 0
OpenMerged = (c : Crypto) (context : List ℕ) (added : List ℕ) (b : ℕ) (t : Term) (i j : ℕ) (ms : List (List ℕ)) (h : List ℕ) (x : LeafNode) (ks : Keys) (ns : List UpdatePathNode) → climb_open c context added (way b (merge b t i ms h x) i) j ks ns ≡ climb_open c context added (way b t i) j ks ns

-- whatever path is accepted, a member's keys are exact in the tree with that path
abbrev pub ClimbExact : Type 0
ClimbExact = (c : Crypto) (context : List ℕ) (added : List ℕ) (b : ℕ) (t : Term) (i j : ℕ) (ks : Keys) (ns : List UpdatePathNode) (h : List ℕ) (x : LeafNode) (m : Climb) → AreTwo b t i j → Exact c b t j ks → climb_open c context added (way b t i) j ks ns ≡ Ok m → Exact c b (merge b t i (map (λ n. n.encryption_key) ns) h x) j m.keys

-- a path that was made is accepted, with the committer's commit secret, and its keys where the ways are one
abbrev pub ClimbAgree : Type 0
ClimbAgree = (c : Crypto) → Lawful c → (context : List ℕ) (added : List ℕ) (b : ℕ) (t : Term) (i j : ℕ) (start sk : List ℕ) (ks : Keys) (ns : List UpdatePathNode) → length start ≡ 32 → AreTwo b t i j → ListsBelow b t → Exact c b t j ks → has added j ≡ false → IsPathOf c context added (way b t i) start ns →
    climb_open c context added (way b t i) j ks ns ≡ Ok (record { secret = (climb_make c (way b t i) start sk).secret; keys = shared_keys (way b t i) j (climb_make c (way b t i) start sk).keys ks })

-- a receiver takes the committer's commit secret, and both have exact keys in the tree with the path
pub record IsShared (c : Crypto) (context : List ℕ) (added : List ℕ) (b : ℕ) (t : Term) (i j : ℕ) (h : List ℕ) (x : LeafNode) (start sk : List ℕ) (ks : Keys) (ns : List UpdatePathNode) : Type 0 where
  pub taken : Climb
  pub opens : climb_open c context added (way b t i) j ks ns ≡ Ok taken
  pub same_secret : taken.secret ≡ (climb_make c (way b t i) start sk).secret
  pub receiver_exact : Exact c b (merge b t i (map (λ n. n.encryption_key) ns) h x) j taken.keys
  pub maker_exact : Exact c b (merge b t i (map (λ n. n.encryption_key) ns) h x) i (climb_make c (way b t i) start sk).keys

-- so it is with each path that is made, at each member that was not just added
abbrev pub CommitAgree : Type 0
CommitAgree = (c : Crypto) → Lawful c → (context : List ℕ) (added : List ℕ) (rnd : ℕ → List ℕ) (b : ℕ) (t : Term) (i j : ℕ) (h : List ℕ) (x : LeafNode) (start sk : List ℕ) (ks : Keys) (ns : List UpdatePathNode) →
    length start ≡ 32 → AreTwo b t i j → ListsBelow b t → Exact c b t j ks → has added j ≡ false → c.public sk ≡ x.encryption_key → seal_along c context added rnd (way b t i) start ≡ Some ns →
    IsShared c context added b t i j h x start sk ks ns

-- ---- joining

-- whatever is accepted, a joiner's keys are exact
abbrev pub TakeExact : Type 0
TakeExact = (c : Crypto) (t : Term) (i j : ℕ) (x : LeafNode) (sk secret : List ℕ) (m : Climb) → AreTwo 0 t i j → leaf_at 0 t j ≡ Some x → c.public sk ≡ x.encryption_key → take_keys c t i j sk secret ≡ Ok m → Exact c 0 t j m.keys

-- a call with a signer of the tree answers just that
abbrev pub TakeInside : Type 0
TakeInside = (c : Crypto) (t : Term) (i j : ℕ) (sk secret : List ℕ) → IsIn 0 t i → take_answer c t i j sk secret ≡ take_keys c t i j sk secret

-- without a path secret: a joiner that has its leaf's key alone has all that is due exactly where each parent over it
-- lists it, and then its keys are exact
abbrev pub LeafHasDue : Type 0
LeafHasDue = (j : ℕ) (ss : List Step) (sk : List ℕ) → (is_complete j ss (keys_on_way ss (Some sk ∷ [])) ≡ true) ↔ AllList j ss

abbrev pub LeafExact : Type 0
LeafExact = (c : Crypto) (t : Term) (j : ℕ) (x : LeafNode) (sk : List ℕ) → leaf_at 0 t j ≡ Some x → c.public sk ≡ x.encryption_key → is_complete j (way 0 t j) (keys_on_way (way 0 t j) (Some sk ∷ [])) ≡ true → Exact c 0 t j (keys_on_way (way 0 t j) (Some sk ∷ []))

-- in a tree with a path that was made, a joiner that the parents over it list takes the committer's commit secret and
-- keys
abbrev pub TakeAgree : Type 0
TakeAgree = (c : Crypto) (t : Term) (i j : ℕ) (h : List ℕ) (x y : LeafNode) (start sk own : List ℕ) → AreTwo 0 t i j → leaf_at 0 t j ≡ Some y → c.public own ≡ y.encryption_key → AllList j (way 0 t j) →
    take_keys c (merge 0 t i (path_keys c (way 0 t i) start) h x) i j own (secret_for (way 0 t i) j start)
    ≡ Ok (record { secret = (climb_make c (way 0 t i) start sk).secret; keys = shared_keys (way 0 t i) j (climb_make c (way 0 t i) start sk).keys (leaf_only (way 0 t j) own) })

-- it takes the committer's commit secret, and has exact keys in the tree with the path
pub record IsJoined (c : Crypto) (t : Term) (i j : ℕ) (h : List ℕ) (x : LeafNode) (start sk own : List ℕ) : Type 0 where
  pub taken : Climb
  pub takes : take_keys c (merge 0 t i (path_keys c (way 0 t i) start) h x) i j own (secret_for (way 0 t i) j start) ≡ Ok taken
  pub same_secret : taken.secret ≡ (climb_make c (way 0 t i) start sk).secret
  pub joiner_exact : Exact c 0 (merge 0 t i (path_keys c (way 0 t i) start) h x) j taken.keys

abbrev pub JoinAgree : Type 0
JoinAgree = (c : Crypto) (t : Term) (i j : ℕ) (h : List ℕ) (x y : LeafNode) (start sk own : List ℕ) → AreTwo 0 t i j → leaf_at 0 t j ≡ Some y → c.public own ≡ y.encryption_key → AllList j (way 0 t j) → IsJoined c t i j h x start sk own

-- the parents over a leaf that was just added list it, and do so after tame edits
abbrev pub EnteredLists : Type 0
EnteredLists = (b : ℕ) (t : Term) (j : ℕ) (x : LeafNode) → AllList j (way b (enter b t j x) j)

abbrev pub TameLists : Type 0
TameLists = (b : ℕ) (t t' : Term) (j : ℕ) → AllList j (way b t j) → Tame j b t t' → AllList j (way b t' j)
