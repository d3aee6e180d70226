-- Small states, worked out.
use Rattle.std.proofs.Common.{refl}
use Rattle.mls_tree_model.specs.Term.{width, height, leaf_at, leaf_of, has_leaf, blanks}
use Rattle.mls_tree_model.specs.Sets.{has, count, same_bytes, is_distinct}
use Rattle.mls_tree_model.specs.Edits.{put, enter, grow, trim, first_blank, add, remove}
use Rattle.mls_tree_model.specs.Keys.{gather}
use Rattle.mls_tree_model.specs.Good.{is_within, has_distinct_keys, has_distinct_clients}
use Rattle.mls_tree_model.specs.Way.{way}
use Rattle.mls_tree.specs.Tree.{add_answer, remove_answer}
use Rattle.mls_treekem_model.specs.Follow.{follow_edit}
use Rattle.mls_treekem_model.specs.Keys.{key_above}
use Rattle.mls_model.specs.Proposals.{full_checks, updates, updated_leaves, removed_leaves, adds, extension_lists, extensions_after, is_path_required}
use Rattle.mls_model.specs.PublicState.{provisional_context}
use Rattle.mls_model.specs.Commit.{apply_updates, apply_removes, apply_adds, apply_proposals}
use Rattle.mls_model.specs.Member.{kept_under, find_proposals, keys_above_leaf, leaf_key_or, with_keys, follow_edits}
use Rattle.mls_model.specs.Examples.{HalvesAndDoubles, KeysOfCutNodes, TakenAgain, TakenBySame, RemovedByList, UpdatedTwice, UpdatedAndRemoved, CommitterFirst, CommitterRemoved, TwoLists, OneListTwice, LeafBeforeLists, ListOfRemoved, ListAsksForPath, ListReplaces, ListClears, ListStays, UsesKept, UsesUnknown}

pub halves_and_doubles : HalvesAndDoubles
unfolding apply_proposals full_checks updates updated_leaves removed_leaves adds extension_lists apply_updates apply_removes apply_adds remove_answer add_answer remove add put enter grow trim first_blank has_leaf leaf_at leaf_of blanks height width has count same_bytes is_distinct gather is_within has_distinct_keys has_distinct_clients
halves_and_doubles c context interim key hash = refl

pub keys_of_cut_nodes : KeysOfCutNodes
unfolding follow_edits with_keys keys_above_leaf leaf_key_or follow_edit key_above way width
keys_of_cut_nodes own key = refl

pub taken_again : TakenAgain
unfolding apply_proposals full_checks updates updated_leaves removed_leaves adds extension_lists apply_updates apply_removes apply_adds remove_answer add_answer remove add put enter grow trim first_blank has_leaf leaf_at leaf_of width has count same_bytes is_distinct gather is_within has_distinct_keys has_distinct_clients
taken_again c context interim = refl

pub taken_by_same : TakenBySame
unfolding apply_proposals full_checks updates updated_leaves removed_leaves adds extension_lists apply_updates apply_removes apply_adds remove_answer add_answer remove add put enter grow trim first_blank has_leaf leaf_at leaf_of width has count same_bytes is_distinct gather is_within has_distinct_keys has_distinct_clients
taken_by_same c context interim = refl

pub removed_by_list : RemovedByList
unfolding removed_leaves has
removed_by_list = refl

pub updated_twice : UpdatedTwice
unfolding apply_proposals full_checks updates updated_leaves removed_leaves has count is_distinct
updated_twice c context interim = refl

pub updated_and_removed : UpdatedAndRemoved
unfolding apply_proposals full_checks updates updated_leaves removed_leaves has count is_distinct
updated_and_removed c context interim = refl

pub committer_first : CommitterFirst
unfolding apply_proposals full_checks updates updated_leaves removed_leaves has count is_distinct
committer_first c context interim = refl

pub committer_removed : CommitterRemoved
unfolding apply_proposals full_checks updates updated_leaves removed_leaves has count is_distinct
committer_removed c context interim = refl

pub two_lists : TwoLists
unfolding apply_proposals full_checks updates updated_leaves removed_leaves extension_lists has count is_distinct
two_lists c context interim = refl

pub one_list_twice : OneListTwice
unfolding apply_proposals full_checks updates updated_leaves removed_leaves extension_lists has count is_distinct
one_list_twice c context interim = refl

pub leaf_before_lists : LeafBeforeLists
unfolding apply_proposals full_checks updates updated_leaves removed_leaves has count is_distinct
leaf_before_lists c context interim = refl

pub list_of_removed : ListOfRemoved
unfolding apply_proposals full_checks updates updated_leaves removed_leaves adds extension_lists apply_updates apply_removes apply_adds remove_answer remove put trim has_leaf leaf_at leaf_of width has count same_bytes is_distinct gather has_distinct_keys has_distinct_clients
list_of_removed c context interim = refl

pub list_asks_for_path : ListAsksForPath
unfolding is_path_required
list_asks_for_path c p said signature e = refl

pub list_replaces : ListReplaces
unfolding provisional_context extensions_after extension_lists
list_replaces context t = refl

pub list_clears : ListClears
unfolding provisional_context extensions_after extension_lists
list_clears context t = refl

pub list_stays : ListStays
unfolding provisional_context extensions_after extension_lists
list_stays context t = refl

pub uses_kept : UsesKept
unfolding find_proposals kept_under
uses_kept message = refl

pub uses_unknown : UsesUnknown
unfolding find_proposals kept_under
uses_unknown message = refl
