-- With which numbers a proposal, and all that is public of a commit, can be refused.
use Rattle.std.proofs.Common.{◌≡◌, ℕ, ◌==◌, nat_eq, nat_le, true, cond, ◌||◌, ◌&&◌, not, List, [], ◌∷◌, ◌++◌, length, map, Option, Some, None, is_some, Ok, Err, refl}
use Rattle.std.specs.Str.{bytes_eq}
use Rattle.std.specs.List.{list_all}
use Rattle.mls_wire.specs.Checks.{passed}
use Rattle.mls_leaf.specs.declared.leaf.LeafNode.{LeafNode}
use Rattle.mls_leaf.specs.declared.key_package.KeyPackage.{KeyPackage}
use Rattle.mls_leaf.specs.declared.proposal.Proposal.{Proposal}
use Rattle.mls_leaf.specs.declared.proposal.Proposal.TheVariants as proposal
use Rattle.mls_leaf.specs.declared.extension.Extension.{Extension}
use Rattle.mls_types.specs.declared.update_path.UpdatePath.{UpdatePath}
use Rattle.mls_types.specs.declared.commit.Commit.{Commit}
use Rattle.mls_types.specs.declared.content.FramedContent.{FramedContent}
use Rattle.mls_suite.specs.Crypto.{Crypto}
use Rattle.mls_checks.specs.Checks.{is_package_signed, key_package_checks, replacement_checks}
use Rattle.mls_checks.specs.Leaf.{is_signed, is_capable, is_of_key_package, is_of_source, has_identity_of}
use Rattle.mls_checks.specs.declared.checks.LeafUse.{LeafUse}
use Rattle.mls_checks.specs.declared.checks.LeafUse.TheVariants as leaf_node_source
use Rattle.mls_tree_model.specs.Term.{Term, leaf_of}
use Rattle.mls_tree_model.specs.Node.{source_hash}
use Rattle.mls_tree_model.specs.Sets.{has, same_bytes, is_distinct}
use Rattle.mls_tree_model.specs.Way.{path_length}
use Rattle.mls_tree_model.specs.Edits.{add}
use Rattle.mls_tree_model.specs.Good.{is_within, has_distinct_keys, has_distinct_clients}
use Rattle.mls_tree_model.specs.Hashes.{is_some_bytes}
use Rattle.mls_tree_model.specs.Keys.{encryption_keys}
use Rattle.mls_tree_model.specs.Merge.{merge_path, path_parent_hash}
use Rattle.mls_tree.specs.Tree.{max_leaves, member_at, add_answer, update_answer, remove_answer}
use Rattle.mls_tree.specs.Paths.{path_checks, merge_checks, merge_answer}
use Rattle.mls_model.specs.PublicState.{PublicState, Used}
use Rattle.mls_model.specs.Proposals.{update_checks, proposal_checks, full_checks, updates, updated_leaves, removed_leaves, adds, extension_lists, package_reference, is_path_required}
use Rattle.mls_model.specs.Commit.{Edits, apply_updates, apply_removes, apply_adds, apply_proposals, node_keys, cipher_counts, due_counts, apply_update_path, apply_path_if, change_after_edits, change_of_commit}
use Rattle.mls_model.specs.Refusals.{add_numbers, update_numbers, remove_numbers, proposal_numbers, body_numbers}
use Rattle.mls_model.proofs.RefusedSteps.{is_one, widen, bind_refused, then_refused, test_refused, last_refused, given_refused, if_refused}

-- ---- proposals

package_refused : (c : Crypto) (p : KeyPackage) (n : ℕ) → key_package_checks c p ≡ Err n → has add_numbers n ≡ true
unfolding key_package_checks has
package_refused c p n h =
    test_refused 50 (is_of_key_package p.leaf_node.source) _ n h (is_one add_numbers 50 n refl) (λ h1.
    test_refused 51 (is_signed c [] 0 p.leaf_node) _ n h1 (is_one add_numbers 51 n refl) (λ h2.
    test_refused 52 (is_capable c.number p.leaf_node) _ n h2 (is_one add_numbers 52 n refl) (λ h3.
    test_refused 55 (p.cipher_suite == c.number) _ n h3 (is_one add_numbers 55 n refl) (λ h4.
    test_refused 56 (is_package_signed c p) _ n h4 (is_one add_numbers 56 n refl) (λ h5.
    test_refused 57 (not (bytes_eq p.init_key p.leaf_node.encryption_key)) _ n h5 (is_one add_numbers 57 n refl) (λ h6.
    is_one add_numbers 36 n refl (last_refused 36 (c.key_ok p.init_key && c.key_ok p.leaf_node.encryption_key) n h6)))))))

pub replaced_refused : (c : Crypto) (new old : LeafNode) (source : LeafUse) (group : List ℕ) (i n : ℕ) → replacement_checks c new old source group i ≡ Err n → has update_numbers n ≡ true
unfolding replacement_checks has
replaced_refused c new old source group i n h =
    test_refused 50 (is_of_source source new.source) _ n h (is_one update_numbers 50 n refl) (λ h1.
    test_refused 51 (is_signed c group i new) _ n h1 (is_one update_numbers 51 n refl) (λ h2.
    test_refused 52 (is_capable c.number new) _ n h2 (is_one update_numbers 52 n refl) (λ h3.
    test_refused 53 (has_identity_of old new) _ n h3 (is_one update_numbers 53 n refl) (λ h4.
    is_one update_numbers 54 n refl (last_refused 54 (not (bytes_eq new.encryption_key old.encryption_key)) n h4)))))

pub add_refused : (c : Crypto) (p : PublicState) (sender : ℕ) (offered : KeyPackage) (n : ℕ) → proposal_checks c p sender (proposal.Add offered) ≡ Err n → has add_numbers n ≡ true
unfolding proposal_checks
add_refused c p sender offered n h = package_refused c offered n h

pub update_refused : (c : Crypto) (p : PublicState) (sender : ℕ) (leaf : LeafNode) (n : ℕ) → proposal_checks c p sender (proposal.Update leaf) ≡ Err n → has update_numbers n ≡ true
unfolding proposal_checks update_checks has
update_refused c p sender leaf n h =
    bind_refused (member_at p.tree sender) _ n h (λ e. is_one update_numbers 22 n refl (given_refused 22 (leaf_of p.tree sender) n e)) (λ old h1.
    then_refused (replacement_checks c leaf old leaf_node_source.Update p.context.group_id sender) _ n h1 (replaced_refused c leaf old leaf_node_source.Update p.context.group_id sender n) (λ h2.
    is_one update_numbers 36 n refl (last_refused 36 (c.key_ok leaf.encryption_key) n h2)))

pub remove_refused : (c : Crypto) (p : PublicState) (sender leaf n : ℕ) → proposal_checks c p sender (proposal.Remove leaf) ≡ Err n → has remove_numbers n ≡ true
unfolding proposal_checks has
remove_refused c p sender leaf n h = is_one remove_numbers 22 n refl (last_refused 22 (is_some (leaf_of p.tree leaf)) n h)

-- extensions pass
pub extensions_pass : {P : Type 0} (c : Crypto) (p : PublicState) (sender : ℕ) (list : List Extension) (n : ℕ) → proposal_checks c p sender (proposal.GroupContextExtensions list) ≡ Err n → P
unfolding proposal_checks
extensions_pass c p sender list n h = absurd cc

pub proposal_refused : (c : Crypto) (p : PublicState) (sender : ℕ) (said : Proposal) (n : ℕ) → proposal_checks c p sender said ≡ Err n → has proposal_numbers n ≡ true
unfolding has
proposal_refused c p sender (proposal.Add offered) n h = widen add_numbers proposal_numbers n refl (add_refused c p sender offered n h)
proposal_refused c p sender (proposal.Update leaf) n h = widen update_numbers proposal_numbers n refl (update_refused c p sender leaf n h)
proposal_refused c p sender (proposal.Remove leaf) n h = widen remove_numbers proposal_numbers n refl (remove_refused c p sender leaf n h)
proposal_refused c p sender (proposal.GroupContextExtensions list) n h = extensions_pass c p sender list n h

-- ---- all that is public of a commit

in_body : (n : ℕ) → has proposal_numbers n ≡ true → has body_numbers n ≡ true
unfolding has
in_body n h = widen proposal_numbers body_numbers n refl h

full_refused : (c : Crypto) (p : PublicState) (us : List Used) (n : ℕ) → full_checks c p us ≡ Err n → has proposal_numbers n ≡ true
unfolding full_checks
full_refused c p [] n h = absurd cc
full_refused c p (u ∷ us) n h =
    then_refused (cond u.is_full (proposal_checks c p u.sender u.proposal) (Ok passed)) _ n h
    (λ e. if_refused u.is_full (proposal_checks c p u.sender u.proposal) (Ok passed) n e (proposal_refused c p u.sender u.proposal n) (λ never. absurd cc))
    (full_refused c p us n)

updated_refused : (t : Term) (us : List (ℕ × LeafNode)) (n : ℕ) → apply_updates t us ≡ Err n → 22 ≡ n
unfolding apply_updates update_answer
updated_refused t [] n h = absurd cc
updated_refused t (u ∷ us) n h =
    bind_refused (update_answer t u.0 u.1) _ n h (λ e. bind_refused (member_at t u.0) _ n e (given_refused 22 (leaf_of t u.0) n) (λ v never. absurd cc)) (λ s. updated_refused s us n)

removed_refused : (t : Term) (is : List ℕ) (n : ℕ) → apply_removes t is ≡ Err n → 22 ≡ n
unfolding apply_removes remove_answer
removed_refused t [] n h = absurd cc
removed_refused t (i ∷ is) n h =
    bind_refused (remove_answer t i) _ n h (λ e. bind_refused (member_at t i) _ n e (given_refused 22 (leaf_of t i) n) (λ v never. absurd cc)) (λ s. removed_refused s is n)

added_refused : (t : Term) (xs : List KeyPackage) (n : ℕ) → apply_adds t xs ≡ Err n → 21 ≡ n
unfolding apply_adds add_answer
added_refused t [] n h = absurd cc
added_refused t (x ∷ xs) n h =
    bind_refused (add_answer t x.leaf_node) _ n h (λ e. test_refused 21 (is_within max_leaves (add t x.leaf_node)) _ n e (λ same. same) (λ never. absurd cc)) (λ first h1.
    bind_refused (apply_adds first.1 xs) _ n h1 (added_refused first.1 xs n) (λ later never. absurd cc))

pub edited_refused : (c : Crypto) (p : PublicState) (committer : ℕ) (used : List Used) (n : ℕ) → apply_proposals c p committer used ≡ Err n → has body_numbers n ≡ true
unfolding apply_proposals has
edited_refused c p committer used n h =
    then_refused (full_checks c p used) _ n h (λ e. in_body n (full_refused c p used n e)) (λ h1.
    test_refused 61 (not (has (updated_leaves used) committer)) _ n h1 (is_one body_numbers 61 n refl) (λ h2.
    test_refused 62 (not (has (removed_leaves used) committer)) _ n h2 (is_one body_numbers 62 n refl) (λ h3.
    test_refused 63 (is_distinct nat_eq (updated_leaves used ++ removed_leaves used)) _ n h3 (is_one body_numbers 63 n refl) (λ h4.
    test_refused 68 (nat_le (length (extension_lists used)) 1) _ n h4 (is_one body_numbers 68 n refl) (λ few.
    bind_refused (apply_updates p.tree (updates used)) _ n few (λ e. is_one body_numbers 22 n refl (updated_refused p.tree (updates used) n e)) (λ s h5.
    bind_refused (apply_removes s (removed_leaves used)) _ n h5 (λ e. is_one body_numbers 22 n refl (removed_refused s (removed_leaves used) n e)) (λ t h6.
    bind_refused (apply_adds t (adds used)) _ n h6 (λ e. is_one body_numbers 21 n refl (added_refused t (adds used) n e)) (λ e h7.
    test_refused 26 (has_distinct_clients e.tree) _ n h7 (is_one body_numbers 26 n refl) (λ h8.
    test_refused 26 (is_distinct same_bytes (map package_reference (adds used))) _ n h8 (is_one body_numbers 26 n refl) (λ h9.
    test_refused 25 (has_distinct_keys e.tree) _ n h9 (is_one body_numbers 25 n refl) (λ never. absurd cc)))))))))))

pub merge_refused : (t : Term) (i : ℕ) (x : LeafNode) (keys : List (List ℕ)) (n : ℕ) → merge_answer t i x keys ≡ Err n → has body_numbers n ≡ true
unfolding merge_answer merge_checks path_checks has
merge_refused t i x keys n h =
    then_refused (merge_checks t i x keys) _ n h (λ e.
    then_refused (path_checks t i (length keys)) _ n e (λ f.
    bind_refused (member_at t i) _ n f (λ g. is_one body_numbers 22 n refl (given_refused 22 (leaf_of t i) n g)) (λ v g. is_one body_numbers 30 n refl (last_refused 30 (length keys == path_length 0 t i) n g))) (λ f.
    test_refused 25 (is_distinct same_bytes (encryption_keys (merge_path t i x keys))) _ n f (is_one body_numbers 25 n refl) (λ g. is_one body_numbers 24 n refl (last_refused 24 (is_some_bytes (source_hash x.source) (path_parent_hash t i keys)) n g)))) (λ never. absurd cc)

merged_refused : (c : Crypto) (p : PublicState) (committer : ℕ) (e : Edits) (path : Option UpdatePath) (n : ℕ) → apply_path_if c p committer e path ≡ Err n → has body_numbers n ≡ true
unfolding apply_path_if apply_update_path has
merged_refused c p committer e None n h = absurd cc
merged_refused c p committer e (Some path) n h =
    bind_refused (member_at p.tree committer) _ n h (λ g. is_one body_numbers 22 n refl (given_refused 22 (leaf_of p.tree committer) n g)) (λ old h1.
    then_refused (replacement_checks c path.leaf_node old leaf_node_source.Commit p.context.group_id committer) _ n h1
    (λ g. widen update_numbers body_numbers n refl (replaced_refused c path.leaf_node old leaf_node_source.Commit p.context.group_id committer n g)) (λ h2.
    test_refused 30 (length path.nodes == path_length 0 e.tree committer) _ n h2 (is_one body_numbers 30 n refl) (λ h3.
    test_refused 31 (bytes_eq (cipher_counts path) (due_counts e committer)) _ n h3 (is_one body_numbers 31 n refl) (λ h4.
    test_refused 36 (list_all c.key_ok (path.leaf_node.encryption_key ∷ node_keys path)) _ n h4 (is_one body_numbers 36 n refl) (λ h5. merge_refused e.tree committer path.leaf_node (node_keys path) n h5)))))

pub after_edits_refused : (c : Crypto) (p : PublicState) (committer : ℕ) (used : List Used) (commit : Commit) (said : FramedContent) (signature : List ℕ) (e : Edits) (n : ℕ) →
    change_after_edits c p committer used commit said signature e ≡ Err n → has body_numbers n ≡ true
unfolding has
after_edits_refused c p committer used commit said signature e n h =
    test_refused 64 (is_some commit.path || not (is_path_required used)) _ n h (is_one body_numbers 64 n refl) (λ h1.
    bind_refused (apply_path_if c p committer e commit.path) _ n h1 (merged_refused c p committer e commit.path n) (λ t never. absurd cc))

pub body_refused : (c : Crypto) (p : PublicState) (committer : ℕ) (used : List Used) (commit : Commit) (said : FramedContent) (signature : List ℕ) (n : ℕ) →
    change_of_commit c p committer used commit said signature ≡ Err n → has body_numbers n ≡ true
unfolding change_of_commit
body_refused c p committer used commit said signature n h =
    bind_refused (apply_proposals c p committer used) _ n h (edited_refused c p committer used n) (λ e h1. after_edits_refused c p committer used commit said signature e n h1)
