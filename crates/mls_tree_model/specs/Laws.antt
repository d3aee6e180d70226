-- The laws of trees as terms.
use Rattle.std.specs.Prelude.{◌≡◌, ℕ, suc, ◌+◌, ◌*◌, ◌^◌, ◌<◌, ◌≤◌, ◌==◌, ◌||◌, Bool, true, false, not, nat_eq, if◌then◌else◌, List, [], ◌∷◌, map, filter, length, slice_index_or, Option, Some, None, is_some, is_none, IsSome, Ok, ◌⊎◌, ◌&&◌}
use Rattle.std.specs.List.{list_all}
use Rattle.mls_leaf.specs.Parent.{Parent, rising_with}
use Rattle.mls_leaf.specs.declared.leaf.LeafNode.{LeafNode}
use Rattle.mls_tree_model.specs.Term.{Term, Leaf, width, size, height, is_perfect, has_leaf, is_full_width, leaf_at, leaf_of, Branch}
use Rattle.mls_tree_model.specs.Sets.{has, leaf_numbers, is_distinct}
use Rattle.mls_tree_model.specs.Resolution.{resolution, is_reached}
use Rattle.mls_tree_model.specs.Way.{way, is_filtered, is_beside, filtered_path, path_length}
use Rattle.mls_tree_model.specs.Node.{source_hash}
use Rattle.mls_tree_model.specs.Places.{at_node}
use Rattle.mls_treemath.specs.Paths.{Path, path_to, index_of, leaf_path}
use Rattle.mls_treemath.specs.Steps.{above}
use Rattle.mls_tree_model.specs.Edits.{put, enter, grow, trim, first_blank, place_in, add, update, remove}
use Rattle.mls_tree_model.specs.Lists.{all_parents, lists_here, rises_here, is_listed_anywhere}
use Rattle.mls_tree_model.specs.Hashes.{tree_hash, original_tree, hash_at, is_parent_hash_valid}
use Rattle.mls_tree_model.specs.Merge.{merge, merge_path, path_parent_hash, path_hash}
use Rattle.mls_tree_model.specs.Keys.{leaf_key, encryption_keys, signature_keys, members, passes, all_members}
use Rattle.mls_tree_model.specs.HeldKeys.{holds_key_of, held_nodes}
use Rattle.mls_wire.specs.Checks.{passed}
use Rattle.mls_leaf.specs.declared.node.Node.{Node}
use Rattle.mls_tree_model.specs.Good.{Rules, IsGood, AreNew, has_good_shape, is_within, tree_checks, IsSound, AreFit, has_good_lists, has_good_hashes, has_distinct_keys, has_distinct_clients}
use Rattle.mls_tree_model.specs.Arrays.{leaf_in, term_of, in_order, to_nodes, from_nodes, node_at}

-- the subtree at the end of a way down from the root
unfoldable pub under : Path → Term → Option Term
under [] t = Some t
under (side ∷ p) (Leaf v) = None
under (false ∷ p) (Branch c l r) = under p l
under (true ∷ p) (Branch c l r) = under p r

-- a tree whose resolution is one node, with this parent hash
pub record HasHead (b : ℕ) (t : Term) (h : List ℕ) : Type 0 where
  pub node : ℕ
  pub is_all : resolution b t ≡ node ∷ []
  pub is_hash : hash_at b t node ≡ Some h
  pub low : 2 * b ≤ node
  pub high : node < 2 * b + size t

-- a path has a key for each of its parents, and the new leaf has the path's parent hash
pub record IsPath (b : ℕ) (t : Term) (i : ℕ) (ks : List (List ℕ)) (h : List ℕ) (x : LeafNode) : Type 0 where
  pub keys : length ks ≡ path_length b t i
  pub hash : source_hash x.source ≡ Some (path_hash b t i ks h)

-- leaf i is one of a tree whose first leaf is b
pub record IsIn (b : ℕ) (t : Term) (i : ℕ) : Type 0 where
  pub low : b ≤ i
  pub high : i < b + width t

-- lists of unmerged leaves are right, and rise
pub record HasLists (b : ℕ) (t : Term) : Type 0 where
  pub right : all_parents lists_here b t ≡ true
  pub rising : all_parents rises_here b t ≡ true

-- lists of a whole tree are right, and each parent is parent-hash valid
pub record IsTied (t : Term) : Type 0 where
  pub lists : has_good_lists t ≡ true
  pub hashes : has_good_hashes t ≡ true

-- ---- shape

-- a perfect tree of height h has 2^h leaves
abbrev pub WidthOfPerfect : Type 0
WidthOfPerfect = (h : ℕ) (t : Term) → is_perfect h t ≡ true → width t ≡ 2 ^ h

-- a tree has two nodes a leaf, less one
abbrev pub SizeOfWidth : Type 0
SizeOfWidth = (t : Term) → size t + 1 ≡ 2 * width t

-- edits at a leaf keep the width
abbrev pub WidthOfPut : Type 0
WidthOfPut = (b : ℕ) (t : Term) (i : ℕ) (x : Option LeafNode) → width (put b t i x) ≡ width t

abbrev pub WidthOfEnter : Type 0
WidthOfEnter = (b : ℕ) (t : Term) (i : ℕ) (x : LeafNode) → width (enter b t i x) ≡ width t

abbrev pub WidthOfMerge : Type 0
WidthOfMerge = (b : ℕ) (t : Term) (i : ℕ) (ks : List (List ℕ)) (h : List ℕ) (x : LeafNode) → width (merge b t i ks h x) ≡ width t

-- every edit makes a perfect tree of a perfect tree
abbrev pub PerfectPut : Type 0
PerfectPut = (d b : ℕ) (t : Term) (i : ℕ) (x : Option LeafNode) → is_perfect d t ≡ true → is_perfect d (put b t i x) ≡ true

abbrev pub PerfectEnter : Type 0
PerfectEnter = (d b : ℕ) (t : Term) (i : ℕ) (x : LeafNode) → is_perfect d t ≡ true → is_perfect d (enter b t i x) ≡ true

abbrev pub PerfectGrow : Type 0
PerfectGrow = (d : ℕ) (t : Term) → is_perfect d t ≡ true → is_perfect (suc d) (grow t) ≡ true

abbrev pub PerfectTrim : Type 0
PerfectTrim = (d : ℕ) (t : Term) → is_perfect d t ≡ true → (e : ℕ) × (is_perfect e (trim t) ≡ true)

abbrev pub PerfectMerge : Type 0
PerfectMerge = (d b : ℕ) (t : Term) (i : ℕ) (ks : List (List ℕ)) (h : List ℕ) (x : LeafNode) → is_perfect d t ≡ true → is_perfect d (merge b t i ks h x) ≡ true

-- what is trimmed has a member in its right half, where it has one at all
abbrev pub FullTrim : Type 0
FullTrim = (t : Term) → has_leaf t ≡ true → is_full_width (trim t) ≡ true

-- ---- leaves and members

-- a put changes one leaf
abbrev pub LeavesOfPut : Type 0
LeavesOfPut = (b : ℕ) (t : Term) (i : ℕ) (x : Option LeafNode) (j : ℕ) → IsIn b t i → IsIn b t j → leaf_at b (put b t i x) j ≡ (if j == i then x else leaf_at b t j)

-- an add changes one leaf
abbrev pub LeavesOfEnter : Type 0
LeavesOfEnter = (b : ℕ) (t : Term) (i : ℕ) (x : LeafNode) (j : ℕ) → IsIn b t i → IsIn b t j → leaf_at b (enter b t i x) j ≡ (if j == i then Some x else leaf_at b t j)

-- a merge has the leaves that a put gives
abbrev pub LeavesOfMerge : Type 0
LeavesOfMerge = (b : ℕ) (t : Term) (i : ℕ) (ks : List (List ℕ)) (h : List ℕ) (x : LeafNode) (j : ℕ) → leaf_at b (merge b t i ks h x) j ≡ leaf_at b (put b t i (Some x)) j

-- growing and trimming keep the members and their numbers
abbrev pub MembersOfGrow : Type 0
MembersOfGrow = (b : ℕ) (t : Term) → members b (grow t) ≡ members b t

abbrev pub MembersOfTrim : Type 0
MembersOfTrim = (b : ℕ) (t : Term) → members b (trim t) ≡ members b t

-- the leftmost blank leaf is in the tree, blank, and behind members alone; where there is none, all leaves are members
abbrev pub FirstBlankIsBlank : Type 0
FirstBlankIsBlank = (b : ℕ) (t : Term) (i : ℕ) → first_blank b t ≡ Some i → (b ≤ i) × (i < b + width t) × (leaf_at b t i ≡ None)

abbrev pub FirstBlankIsFirst : Type 0
FirstBlankIsFirst = (b : ℕ) (t : Term) (i j : ℕ) → first_blank b t ≡ Some i → b ≤ j → j < i → IsSome (leaf_at b t j)

abbrev pub NoBlankIsFull : Type 0
NoBlankIsFull = (b : ℕ) (t : Term) (j : ℕ) → first_blank b t ≡ None → IsIn b t j → IsSome (leaf_at b t j)

-- an added leaf lands at the leftmost blank leaf or beside a full tree, and no other leaf changes
abbrev pub AddedIsThere : Type 0
AddedIsThere = (t : Term) (x : LeafNode) → leaf_at 0 (add t x) (place_in t) ≡ Some x

abbrev pub AddedElsewhere : Type 0
AddedElsewhere = (t : Term) (x : LeafNode) (j : ℕ) → j < width t → (j ≡ place_in t → ⊥) → leaf_at 0 (add t x) j ≡ leaf_at 0 t j

abbrev pub AddedIsWider : Type 0
AddedIsWider = (t : Term) (x : LeafNode) → width t ≤ width (add t x)

-- a removal cuts no other member
abbrev pub RemovedElsewhere : Type 0
RemovedElsewhere = (t : Term) (i j : ℕ) → i < width t → j < width t → (j ≡ i → ⊥) → IsSome (leaf_at 0 t j) → (j < width (remove t i)) × (leaf_at 0 (remove t i) j ≡ leaf_at 0 t j)

-- an added leaf makes a tree too large exactly when it has the most leaves and none of them is blank
abbrev pub AddedIsWithin : Type 0
AddedIsWithin = (k : ℕ) (t : Term) (x : LeafNode) → is_perfect (height t) t ≡ true → width t ≤ 2 ^ k → is_within (2 ^ k) (add t x) ≡ not (is_none (first_blank 0 t) && (width t == 2 ^ k))

-- what all members pass, each member passes
abbrev pub EachMemberPasses : Type 0
EachMemberPasses = (p : ℕ → LeafNode → Bool) (b : ℕ) (t : Term) (j : ℕ) (x : LeafNode) → all_members p b t ≡ true → IsIn b t j → leaf_at b t j ≡ Some x → p j x ≡ true

-- members that pass a test still do after each edit, where the new leaf passes it at its number
abbrev pub MembersPut : Type 0
MembersPut = (p : ℕ → LeafNode → Bool) (b : ℕ) (t : Term) (i : ℕ) (x : Option LeafNode) → IsIn b t i → passes p i x ≡ true → all_members p b t ≡ true → all_members p b (put b t i x) ≡ true

abbrev pub MembersEnter : Type 0
MembersEnter = (p : ℕ → LeafNode → Bool) (b : ℕ) (t : Term) (i : ℕ) (x : LeafNode) → IsIn b t i → p i x ≡ true → all_members p b t ≡ true → all_members p b (enter b t i x) ≡ true

abbrev pub MembersMerge : Type 0
MembersMerge = (p : ℕ → LeafNode → Bool) (b : ℕ) (t : Term) (i : ℕ) (ks : List (List ℕ)) (h : List ℕ) (x : LeafNode) → IsIn b t i → p i x ≡ true → all_members p b t ≡ true → all_members p b (merge b t i ks h x) ≡ true

abbrev pub MembersGrow : Type 0
MembersGrow = (p : ℕ → LeafNode → Bool) (b : ℕ) (t : Term) → all_members p b t ≡ true → all_members p b (grow t) ≡ true

abbrev pub MembersTrim : Type 0
MembersTrim = (p : ℕ → LeafNode → Bool) (b : ℕ) (t : Term) → all_members p b t ≡ true → all_members p b (trim t) ≡ true

-- ---- clients

-- a merge keeps the list of signature keys where the leaf keeps its own; so clients repeat after it where they did
-- before
abbrev pub ClientsMerge : Type 0
ClientsMerge = (b : ℕ) (t : Term) (i : ℕ) (ks : List (List ℕ)) (h : List ℕ) (x old : LeafNode) → leaf_at b t i ≡ Some old → x.signature_key ≡ old.signature_key → signature_keys (merge b t i ks h x) ≡ signature_keys t

abbrev pub ClientsMergePath : Type 0
ClientsMergePath = (t : Term) (i : ℕ) (x old : LeafNode) (keys : List (List ℕ)) → leaf_of t i ≡ Some old → x.signature_key ≡ old.signature_key → has_distinct_clients (merge_path t i x keys) ≡ has_distinct_clients t

-- where no client repeats, a signature key is that of one leaf
abbrev pub OneLeafOfClient : Type 0
OneLeafOfClient = (t : Term) (i j : ℕ) (x y : LeafNode) → has_distinct_clients t ≡ true → leaf_of t i ≡ Some x → leaf_of t j ≡ Some y → x.signature_key ≡ y.signature_key → i ≡ j

-- ---- keys: those that pass a test still do after each edit, where the new ones pass it; so no edit brings another key

abbrev pub KeysPut : Type 0
KeysPut = (q : List ℕ → Bool) (b : ℕ) (t : Term) (i : ℕ) (x : Option LeafNode) → list_all q (leaf_key x) ≡ true → list_all q (encryption_keys t) ≡ true → list_all q (encryption_keys (put b t i x)) ≡ true

abbrev pub KeysEnter : Type 0
KeysEnter = (q : List ℕ → Bool) (b : ℕ) (t : Term) (i : ℕ) (x : LeafNode) → q x.encryption_key ≡ true → list_all q (encryption_keys t) ≡ true → list_all q (encryption_keys (enter b t i x)) ≡ true

abbrev pub KeysMerge : Type 0
KeysMerge = (q : List ℕ → Bool) (b : ℕ) (t : Term) (i : ℕ) (ks : List (List ℕ)) (h : List ℕ) (x : LeafNode) → list_all q ks ≡ true → q x.encryption_key ≡ true → list_all q (encryption_keys t) ≡ true → list_all q (encryption_keys (merge b t i ks h x)) ≡ true

abbrev pub KeysGrow : Type 0
KeysGrow = (q : List ℕ → Bool) (t : Term) → list_all q (encryption_keys t) ≡ true → list_all q (encryption_keys (grow t)) ≡ true

abbrev pub KeysTrim : Type 0
KeysTrim = (q : List ℕ → Bool) (t : Term) → list_all q (encryption_keys t) ≡ true → list_all q (encryption_keys (trim t)) ≡ true

-- ---- lists of unmerged leaves

-- a listed leaf is one of the tree, and a member; so a blank leaf is in no list
abbrev pub ListedIsMember : Type 0
ListedIsMember = (b : ℕ) (t : Term) (u : ℕ) → all_parents lists_here b t ≡ true → is_listed_anywhere t u ≡ true → (b ≤ u) × (u < b + width t) × (is_some (leaf_at b t u) ≡ true)

abbrev pub BlankIsUnlisted : Type 0
BlankIsUnlisted = (b : ℕ) (t : Term) (i : ℕ) → all_parents lists_here b t ≡ true → leaf_at b t i ≡ None → is_listed_anywhere t i ≡ false

-- blanking a path, growing and trimming keep whatever holds of each parent
abbrev pub ParentsPut : Type 0
ParentsPut = (q : ℕ → Parent → Term → Term → Bool) (b : ℕ) (t : Term) (i : ℕ) (x : Option LeafNode) → all_parents q b t ≡ true → all_parents q b (put b t i x) ≡ true

abbrev pub ParentsGrow : Type 0
ParentsGrow = (q : ℕ → Parent → Term → Term → Bool) (b : ℕ) (t : Term) → all_parents q b t ≡ true → all_parents q b (grow t) ≡ true

abbrev pub ParentsTrim : Type 0
ParentsTrim = (q : ℕ → Parent → Term → Term → Bool) (b : ℕ) (t : Term) → all_parents q b t ≡ true → all_parents q b (trim t) ≡ true

-- an add keeps lists right, and rising
abbrev pub ListsEnter : Type 0
ListsEnter = (b : ℕ) (t : Term) (i : ℕ) (x : LeafNode) → IsIn b t i → all_parents lists_here b t ≡ true → all_parents lists_here b (enter b t i x) ≡ true

abbrev pub RisesEnter : Type 0
RisesEnter = (b : ℕ) (t : Term) (i : ℕ) (x : LeafNode) → all_parents rises_here b t ≡ true → all_parents rises_here b (enter b t i x) ≡ true

-- a merge keeps right lists right
abbrev pub ListsMerge : Type 0
ListsMerge = (b : ℕ) (t : Term) (i : ℕ) (ks : List (List ℕ)) (h : List ℕ) (x : LeafNode) → all_parents lists_here b t ≡ true → all_parents lists_here b (merge b t i ks h x) ≡ true

abbrev pub RisesMerge : Type 0
RisesMerge = (b : ℕ) (t : Term) (i : ℕ) (ks : List (List ℕ)) (h : List ℕ) (x : LeafNode) → all_parents rises_here b t ≡ true → all_parents rises_here b (merge b t i ks h x) ≡ true

-- so each edit of a whole tree keeps lists right
abbrev pub RightUpdate : Type 0
RightUpdate = (t : Term) (i : ℕ) (x : LeafNode) → has_good_lists t ≡ true → has_good_lists (update t i x) ≡ true

abbrev pub RightRemove : Type 0
RightRemove = (t : Term) (i : ℕ) → has_good_lists t ≡ true → has_good_lists (remove t i) ≡ true

abbrev pub RightAdd : Type 0
RightAdd = (t : Term) (x : LeafNode) → has_good_lists t ≡ true → has_good_lists (add t x) ≡ true

abbrev pub RightMergePath : Type 0
RightMergePath = (t : Term) (i : ℕ) (x : LeafNode) (keys : List (List ℕ)) → has_good_lists t ≡ true → has_good_lists (merge_path t i x keys) ≡ true

-- an update keeps rising lists rising
abbrev pub RisingUpdate : Type 0
RisingUpdate = (t : Term) (i : ℕ) (x : LeafNode) → all_parents rises_here 0 t ≡ true → all_parents rises_here 0 (update t i x) ≡ true

abbrev pub RisingRemove : Type 0
RisingRemove = (t : Term) (i : ℕ) → all_parents rises_here 0 t ≡ true → all_parents rises_here 0 (remove t i) ≡ true

abbrev pub RisingAdd : Type 0
RisingAdd = (t : Term) (x : LeafNode) → all_parents rises_here 0 t ≡ true → all_parents rises_here 0 (add t x) ≡ true

abbrev pub RisingMergePath : Type 0
RisingMergePath = (t : Term) (i : ℕ) (x : LeafNode) (keys : List (List ℕ)) → all_parents rises_here 0 t ≡ true → all_parents rises_here 0 (merge_path t i x keys) ≡ true

-- ---- resolutions

-- a tree with a member is reached by somebody
abbrev pub MembersAreReached : Type 0
MembersAreReached = (b : ℕ) (t : Term) → has_leaf t ≡ true → is_reached b t ≡ true

-- a resolution has nodes of its own tree alone
abbrev pub ResolutionIsIn : Type 0
ResolutionIsIn = (b : ℕ) (t : Term) (d : ℕ) → all_parents lists_here b t ≡ true → has (resolution b t) d ≡ true → (2 * b ≤ d) × (d < 2 * b + size t)

-- a resolution has no node twice
abbrev pub ResolutionIsDistinct : Type 0
ResolutionIsDistinct = (b : ℕ) (t : Term) → HasLists b t → is_distinct nat_eq (resolution b t) ≡ true

-- each member has the key of one node of a resolution, also where other leaves are taken out of it
abbrev pub OneIsHeld : Type 0
OneIsHeld = (b : ℕ) (t : Term) (j : ℕ) → HasLists b t → IsIn b t j → IsSome (leaf_at b t j) → length (held_nodes b t j) ≡ 1

abbrev pub OneIsHeldOfRest : Type 0
OneIsHeldOfRest = (b : ℕ) (t : Term) (j : ℕ) (us : List ℕ) → HasLists b t → IsIn b t j → IsSome (leaf_at b t j) → has us j ≡ false → length (filter (holds_key_of b t j) (filter (λ d. not (has (leaf_numbers us) d)) (resolution b t))) ≡ 1

-- the ways of two leaves part at one parent, and a path of the one takes it in, where the other is a member
abbrev pub OneIsFiltered : Type 0
OneIsFiltered = (b : ℕ) (t : Term) (i j : ℕ) → IsIn b t i → IsIn b t j → (j ≡ i → ⊥) → IsSome (leaf_at b t j) → map is_filtered (filter (λ s. is_beside s j) (way b t i)) ≡ true ∷ []

-- the filtered path is as long as it says
abbrev pub LengthOfPath : Type 0
LengthOfPath = (b : ℕ) (t : Term) (i : ℕ) → length (filtered_path b t i) ≡ path_length b t i

-- an added leaf joins the resolution, and nobody else does
abbrev pub AddedJoins : Type 0
AddedJoins = (b : ℕ) (t : Term) (i : ℕ) (x : LeafNode) (d : ℕ) → IsIn b t i → leaf_at b t i ≡ None → has (resolution b (enter b t i x)) d ≡ (has (resolution b t) d || 2 * i == d)

-- ---- original siblings and parent hashes

-- an original sibling with nobody taken out is the sibling itself
abbrev pub OriginalOfNone : Type 0
OriginalOfNone = (b : ℕ) (t : Term) → original_tree [] b t ≡ t

-- taking out a leaf that was added leaves the original, and so does taking out one that isn't there
abbrev pub OriginalOfEnter : Type 0
OriginalOfEnter = (b : ℕ) (t : Term) (i : ℕ) (us : List ℕ) (x : LeafNode) → IsIn b t i → is_listed_anywhere t i ≡ false → leaf_at b t i ≡ None → original_tree (rising_with i us) b (enter b t i x) ≡ original_tree us b t

abbrev pub OriginalOfOthers : Type 0
OriginalOfOthers = (b : ℕ) (t : Term) (j : ℕ) (us : List ℕ) → is_listed_anywhere t j ≡ false → (b ≤ j → j < b + width t → leaf_at b t j ≡ None) → original_tree (rising_with j us) b t ≡ original_tree us b t

-- an add changes no other node's field
abbrev pub HashesOfEnter : Type 0
HashesOfEnter = (b : ℕ) (t : Term) (i : ℕ) (x : LeafNode) (d : ℕ) → IsIn b t i → (2 * i ≡ d → ⊥) → hash_at b (enter b t i x) d ≡ hash_at b t d

-- an add keeps every parent parent-hash valid, where lists are right
abbrev pub ValidEnter : Type 0
ValidEnter = (b : ℕ) (t : Term) (i : ℕ) (x : LeafNode) → IsIn b t i → leaf_at b t i ≡ None → all_parents lists_here b t ≡ true → all_parents is_parent_hash_valid b t ≡ true → all_parents is_parent_hash_valid b (enter b t i x) ≡ true

-- a merged tree is reached through one node, which has the parent hash that was handed down
abbrev pub MergeHasHead : Type 0
MergeHasHead = (b : ℕ) (t : Term) (i : ℕ) (ks : List (List ℕ)) (h : List ℕ) (x : LeafNode) → IsPath b t i ks h x → HasHead b (merge b t i ks h x) h

-- a merge keeps every parent parent-hash valid, where the new leaf has the path's parent hash
abbrev pub ValidMerge : Type 0
ValidMerge = (b : ℕ) (t : Term) (i : ℕ) (ks : List (List ℕ)) (h : List ℕ) (x : LeafNode) → IsPath b t i ks h x → all_parents is_parent_hash_valid b t ≡ true → all_parents is_parent_hash_valid b (merge b t i ks h x) ≡ true

-- each edit of a whole tree keeps its lists right and its parents parent-hash valid, whatever else holds of it: a merge
-- where the path has its keys and the leaf the path's parent hash
abbrev pub TiedUpdate : Type 0
TiedUpdate = (t : Term) (i : ℕ) (x : LeafNode) → IsTied t → IsTied (update t i x)

abbrev pub TiedRemove : Type 0
TiedRemove = (t : Term) (i : ℕ) → IsTied t → IsTied (remove t i)

abbrev pub TiedAdd : Type 0
TiedAdd = (t : Term) (x : LeafNode) → IsTied t → IsTied (add t x)

abbrev pub TiedMergePath : Type 0
TiedMergePath = (t : Term) (i : ℕ) (x : LeafNode) (keys : List (List ℕ)) → length keys ≡ path_length 0 t i → source_hash x.source ≡ Some (path_parent_hash t i keys) → IsTied t → IsTied (merge_path t i x keys)

-- a tree hash has 32 bytes
abbrev pub LengthOfTreeHash : Type 0
LengthOfTreeHash = (b : ℕ) (t : Term) → length (tree_hash b t) ≡ 32

-- a path's parent hash has 32 bytes or none, and none where the filtered path takes no parent in
abbrev pub LengthOfPathHash : Type 0
LengthOfPathHash = (t : Term) (i : ℕ) (keys : List (List ℕ)) → (length (path_parent_hash t i keys) ≡ 0) ⊎ (length (path_parent_hash t i keys) ≡ 32)

abbrev pub PathHashIsEmpty : Type 0
PathHashIsEmpty = (t : Term) (i : ℕ) (keys : List (List ℕ)) → length keys ≡ path_length 0 t i → length (path_parent_hash t i keys) ≡ (if path_length 0 t i == 0 then 0 else 32)

-- ---- good trees

-- the tree of one member is good, where its leaf passes the checks
abbrev pub GoodSingle : Type 0
GoodSingle = (rules : Rules) (x : LeafNode) → 0 < rules.limit → AreNew rules 0 x [] (Leaf None) → IsGood rules (Leaf (Some x))

-- an update keeps a good tree, where the new leaf passes the checks
abbrev pub GoodUpdate : Type 0
GoodUpdate = (rules : Rules) (t : Term) (i : ℕ) (x : LeafNode) → IsGood rules t → i < width t → AreNew rules i x [] (put 0 t i None) → IsGood rules (update t i x)

-- a removal keeps a good tree, where somebody is left
abbrev pub GoodRemove : Type 0
GoodRemove = (rules : Rules) (t : Term) (i : ℕ) → IsGood rules t → i < width t → has_leaf (put 0 t i None) ≡ true → IsGood rules (remove t i)

-- an add keeps a good tree, where there is room and the new leaf passes the checks
abbrev pub GoodAdd : Type 0
GoodAdd = (rules : Rules) (t : Term) (x : LeafNode) → IsGood rules t → width (add t x) ≤ rules.limit → AreNew rules (place_in t) x [] t → IsGood rules (add t x)

-- a merge keeps a good tree, where the path has its keys, the leaf has its parent hash, and leaf and keys pass the
-- checks
abbrev pub GoodMerge : Type 0
GoodMerge = (rules : Rules) (t : Term) (i : ℕ) (ks : List (List ℕ)) (h : List ℕ) (x : LeafNode) → IsGood rules t → i < width t → IsPath 0 t i ks h x → AreNew rules i x ks (put 0 t i None) → IsGood rules (merge 0 t i ks h x)

-- a path that is merged keeps a tree good, where its keys are given lowest first
abbrev pub GoodMergePath : Type 0
GoodMergePath = (rules : Rules) (t : Term) (i : ℕ) (x : LeafNode) (keys : List (List ℕ)) → IsGood rules t → i < width t → length keys ≡ path_length 0 t i → source_hash x.source ≡ Some (path_parent_hash t i keys) → AreNew rules i x keys (put 0 t i None) → IsGood rules (merge_path t i x keys)

-- a good tree is a sound one in which no key and no client repeats
abbrev pub SoundOfGood : Type 0
SoundOfGood = (rules : Rules) (t : Term) → IsGood rules t → IsSound rules t

abbrev pub GoodOfSound : Type 0
GoodOfSound = (rules : Rules) (t : Term) → IsSound rules t → has_distinct_keys t ≡ true → has_distinct_clients t ≡ true → IsGood rules t

-- each edit keeps a sound tree, where the new leaf and the path's keys pass the checks that are made of each alone
abbrev pub SoundUpdate : Type 0
SoundUpdate = (rules : Rules) (t : Term) (i : ℕ) (x : LeafNode) → IsSound rules t → i < width t → AreFit rules i x [] → IsSound rules (update t i x)

abbrev pub SoundRemove : Type 0
SoundRemove = (rules : Rules) (t : Term) (i : ℕ) → IsSound rules t → i < width t → has_leaf (put 0 t i None) ≡ true → IsSound rules (remove t i)

abbrev pub SoundAdd : Type 0
SoundAdd = (rules : Rules) (t : Term) (x : LeafNode) → IsSound rules t → width (add t x) ≤ rules.limit → AreFit rules (place_in t) x [] → IsSound rules (add t x)

abbrev pub SoundMergePath : Type 0
SoundMergePath = (rules : Rules) (t : Term) (i : ℕ) (x : LeafNode) (keys : List (List ℕ)) → IsSound rules t → i < width t → length keys ≡ path_length 0 t i → source_hash x.source ≡ Some (path_parent_hash t i keys) → AreFit rules i x keys → IsSound rules (merge_path t i x keys)

-- a good tree passes its checks
abbrev pub GoodPasses : Type 0
GoodPasses = (rules : Rules) (t : Term) → IsGood rules t → tree_checks rules t ≡ Ok passed

-- a tree of good shape and size that passes the checks is good
abbrev pub GoodFromChecks : Type 0
GoodFromChecks = (rules : Rules) (t : Term) → is_perfect (height t) t ≡ true → all_parents rises_here 0 t ≡ true → has_good_shape t ≡ true → is_within rules.limit t ≡ true → tree_checks rules t ≡ Ok passed → IsGood rules t

-- ---- lists of nodes

-- the list of a tree's nodes in order is that tree, and a list of nodes is a perfect tree
abbrev pub TermOfInOrder : Type 0
TermOfInOrder = (h : ℕ) (t : Term) → is_perfect h t ≡ true → term_of h (in_order t) ≡ t

abbrev pub TermOfIsPerfect : Type 0
TermOfIsPerfect = (h : ℕ) (xs : List (Option Node)) → is_perfect h (term_of h xs) ≡ true

-- a tree of good shape that is sent is read again
abbrev pub FromToNodes : Type 0
FromToNodes = (limit h : ℕ) (t : Term) → is_perfect h t ≡ true → is_full_width t ≡ true → width t ≤ limit → from_nodes limit (to_nodes t) ≡ Ok t

-- the node with a number stands at that place of the list, and leaf i at place 2 * i
abbrev pub NodeInOrder : Type 0
NodeInOrder = (b : ℕ) (t : Term) (n : ℕ) → node_at b t (2 * b + n) ≡ slice_index_or (in_order t) n None

abbrev pub LeafIsNode : Type 0
LeafIsNode = (b : ℕ) (t : Term) (i : ℕ) → IsIn b t i → leaf_in (node_at b t (2 * i)) ≡ leaf_at b t i

-- the node at an index is the root of the subtree that the way to that index leads to
abbrev pub NodeOfWay : Type 0
NodeOfWay = (h b : ℕ) (t : Term) (x : ℕ) (p : Path) → is_perfect h t ≡ true → path_to h x ≡ Some p → at_node None (λ c u. Some u) b t (2 * b + x) ≡ under p t

-- the way to leaf i has the numbers of the ancestors of index 2 * i: it is that index's direct path
abbrev pub WayIsDirectPath : Type 0
WayIsDirectPath = (h b : ℕ) (t : Term) (i : ℕ) (p : Path) → is_perfect h t ≡ true → path_to h (2 * i) ≡ Some p → map (λ s. s.node) (way b t (b + i)) ≡ map (λ q. 2 * b + index_of h q) (above p)

-- leaf i stands where its bits lead from the root, the highest first: 0 to the left, 1 to the right
abbrev pub LeafByBits : Type 0
LeafByBits = (h : ℕ) (t : Term) (i : ℕ) → is_perfect h t ≡ true → i < width t → under (leaf_path h i) t ≡ Some (Leaf (leaf_at 0 t i))
