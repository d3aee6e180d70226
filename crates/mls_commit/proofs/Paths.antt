-- What the checks of a path answer, step by step.
use Rattle.std.proofs.Common.{◌≡◌, ℕ, ◌==◌, Bool, true, false, ◌&&◌, List, [], ◌∷◌, length, map, Some, Result, Ok, Err, IsSome, is_some, sym, ◌∙◌, ap, refl, ne_eqb, eq-eqb, arith}
use Rattle.std.proofs.lemmas.List.{length-map, length-reverse}
use Rattle.std.specs.List.{list_all, zip}
use Rattle.std.specs.Str.{bytes_eq}
use Rattle.mls_wire.specs.Checks.{passed, require, ◌>>◌}
use Rattle.mls_wire.specs.Laws.{ok_is}
use Rattle.mls_leaf.specs.declared.leaf.LeafNode.{LeafNode}
use Rattle.mls_types.specs.declared.update_path.UpdatePath.{UpdatePath}
use Rattle.mls_types.specs.declared.update_path.UpdatePathNode.{UpdatePathNode}
use Rattle.mls_suite.specs.Crypto.{Crypto}
use Rattle.mls_checks.specs.Checks.{replacement_checks}
use Rattle.mls_checks.specs.declared.checks.LeafUse.TheVariants as leaf_node_source
use Rattle.mls_tree_model.specs.Term.{Term, leaf_of}
use Rattle.mls_tree_model.specs.Way.{Step, filtered_way, path_length, target_count, ciphertext_counts}
use Rattle.mls_tree_model.proofs.TakenLaws.{some_at}
use Rattle.mls_tree.specs.Paths.{counts_answer, merge_answer}
use Rattle.mls_model.specs.PublicState.{PublicState, Used}
use Rattle.mls_model.specs.Commit.{Edits, apply_proposals, node_keys, cipher_counts, due_counts, apply_update_path}
use Rattle.mls_theorems.proofs.Staying.{edits_follow_committer}
use Rattle.mls_commit.specs.PathChecks.{StaysMember, count_checks}

-- ---- counts

pub counts_of_member : (t : Term) (i : ℕ) (added : List ℕ) → IsSome (leaf_of t i) → counts_answer t i added ≡ Ok (ciphertext_counts 0 t i added)
unfolding counts_answer
counts_of_member t i added some = let x = some_at (leaf_of t i) some in rw x.1 refl

pub wrong_length : (e : Edits) (i : ℕ) (path : UpdatePath) → (length path.nodes == path_length 0 e.tree i) ≡ false → count_checks e i path ≡ Err 30
unfolding count_checks
wrong_length e i path k = rw k refl

pub wrong_counts : (e : Edits) (i : ℕ) (path : UpdatePath) → (length path.nodes == path_length 0 e.tree i) ≡ true → bytes_eq (cipher_counts path) (due_counts e i) ≡ false → count_checks e i path ≡ Err 31
unfolding count_checks
wrong_counts e i path k n = rw (k, n) refl

pub right_counts : (e : Edits) (i : ℕ) (path : UpdatePath) → (length path.nodes == path_length 0 e.tree i) ≡ true → bytes_eq (cipher_counts path) (due_counts e i) ≡ true → count_checks e i path ≡ Ok passed
unfolding count_checks
right_counts e i path k n = rw (k, n) refl

-- ---- the same of what calls answered

length-due : (e : Edits) (i : ℕ) → length (due_counts e i) ≡ path_length 0 e.tree i
unfolding ciphertext_counts path_length
length-due e i = length-reverse (map (λ (s : Step). target_count e.added s.first s.other) (filtered_way 0 e.tree i)) ∙ length-map (filtered_way 0 e.tree i) (λ (s : Step). target_count e.added s.first s.other)

-- each node's number is the one beside it
pub all_counts : (ns : List UpdatePathNode) (ds : List ℕ) → length ns ≡ length ds → list_all (λ (p : UpdatePathNode × ℕ). length p.0.ciphertexts == p.1) (zip ns ds) ≡ bytes_eq (map (λ (n : UpdatePathNode). length n.ciphertexts) ns) ds
all_counts [] [] same = refl
all_counts [] (d ∷ ds) same = absurd (omega arith)
all_counts (n ∷ ns) [] same = absurd (omega arith)
all_counts (n ∷ ns) (d ∷ ds) same = ap (λ b. (length n.ciphertexts == d) && b) (all_counts ns ds (omega arith))

module _ (e : Edits) (i : ℕ) (t : Term) (added : List ℕ) (tree_is : t ≡ e.tree) (added_is : added ≡ e.added) (some : IsSome (leaf_of e.tree i)) where
  due_answer : counts_answer t i added ≡ Ok (due_counts e i)
  due_answer = rw (tree_is, added_is) (counts_of_member e.tree i e.added some)

  pub due_of : (ds : List ℕ) → counts_answer t i added ≡ Ok ds → ds ≡ due_counts e i
  due_of ds h = ok_is ds (due_counts e i) (sym h ∙ due_answer)

  pub due_stands : (n : ℕ) → counts_answer t i added ≡ Err n → ⊥
  due_stands n h = let q : Ok (due_counts e i) ≡ Err n = sym due_answer ∙ h in cc

module _ (e : Edits) (i : ℕ) (path : UpdatePath) (due : List ℕ) (due_is : due ≡ due_counts e i) where
  same_length : length path.nodes ≡ length due → (length path.nodes == path_length 0 e.tree i) ≡ true
  same_length q = eq-eqb _ _ (q ∙ ap length due_is ∙ length-due e i)

  pub fails_30 : (length path.nodes ≡ length due → ⊥) → count_checks e i path ≡ Err 30
  fails_30 ne = wrong_length e i path (ne_eqb _ _ (λ q. ne (q ∙ sym (length-due e i) ∙ sym (ap length due_is))))

  pub fails_31 : length path.nodes ≡ length due → bytes_eq (cipher_counts path) due ≡ false → count_checks e i path ≡ Err 31
  fails_31 q other = wrong_counts e i path (same_length q) (ap (bytes_eq (cipher_counts path)) (sym due_is) ∙ other)

  pub passes : length path.nodes ≡ length due → bytes_eq (cipher_counts path) due ≡ true → count_checks e i path ≡ Ok passed
  passes q same = right_counts e i path (same_length q) (ap (bytes_eq (cipher_counts path)) (sym due_is) ∙ same)

-- ---- the whole

then_counts : {A : Type 0} (test other : Bool) (rest : Result A ℕ) → (require 30 test >> (require 31 other >> rest)) ≡ ((require 30 test >> require 31 other) >> rest)
then_counts true other rest = refl
then_counts false other rest = refl

-- after the checks of its leaf
path_counted : (c : Crypto) (p : PublicState) (i : ℕ) (e : Edits) (path : UpdatePath) (old : LeafNode) → leaf_of p.tree i ≡ Some old → replacement_checks c path.leaf_node old leaf_node_source.Commit p.context.group_id i ≡ Ok passed →
    apply_update_path c p i e path ≡ (count_checks e i path >> (require 36 (list_all c.key_ok (path.leaf_node.encryption_key ∷ node_keys path)) >> merge_answer e.tree i path.leaf_node (node_keys path)))
unfolding apply_update_path count_checks
path_counted c p i e path old at fine = rw (at, fine) (then_counts (length path.nodes == path_length 0 e.tree i) (bytes_eq (cipher_counts path) (due_counts e i)) _)

pub replaced_in : (c : Crypto) (new old : LeafNode) (ids group_id : List ℕ) (i : ℕ) → ids ≡ group_id → replacement_checks c new old leaf_node_source.Commit ids i ≡ Ok passed → replacement_checks c new old leaf_node_source.Commit group_id i ≡ Ok passed
replaced_in c new old ids group_id i is h = ap (λ x. replacement_checks c new old leaf_node_source.Commit x i) (sym is) ∙ h

pub path_miscounted : (c : Crypto) (p : PublicState) (i : ℕ) (e : Edits) (path : UpdatePath) (old : LeafNode) → leaf_of p.tree i ≡ Some old → replacement_checks c path.leaf_node old leaf_node_source.Commit p.context.group_id i ≡ Ok passed →
    (n : ℕ) → count_checks e i path ≡ Err n → apply_update_path c p i e path ≡ Err n
path_miscounted c p i e path old at fine n h = path_counted c p i e path old at fine ∙ rw h refl

pub path_unfit : (c : Crypto) (p : PublicState) (i : ℕ) (e : Edits) (path : UpdatePath) (old : LeafNode) → leaf_of p.tree i ≡ Some old → replacement_checks c path.leaf_node old leaf_node_source.Commit p.context.group_id i ≡ Ok passed →
    count_checks e i path ≡ Ok passed → list_all c.key_ok (path.leaf_node.encryption_key ∷ node_keys path) ≡ false → apply_update_path c p i e path ≡ Err 36
path_unfit c p i e path old at fine h k = path_counted c p i e path old at fine ∙ rw (h, k) refl

pub path_merged : (c : Crypto) (p : PublicState) (i : ℕ) (e : Edits) (path : UpdatePath) (old : LeafNode) → leaf_of p.tree i ≡ Some old → replacement_checks c path.leaf_node old leaf_node_source.Commit p.context.group_id i ≡ Ok passed →
    count_checks e i path ≡ Ok passed → list_all c.key_ok (path.leaf_node.encryption_key ∷ node_keys path) ≡ true → apply_update_path c p i e path ≡ merge_answer e.tree i path.leaf_node (node_keys path)
path_merged c p i e path old at fine h k = path_counted c p i e path old at fine ∙ rw (h, k) refl

pub merge_alike : (i : ℕ) (s t : Term) (x y : LeafNode) (ks ls : List (List ℕ)) → s ≡ t → x ≡ y → ks ≡ ls → merge_answer s i x ks ≡ merge_answer t i y ls
merge_alike i s t x y ks ls a b d = ap (λ z. merge_answer z i x ks) a ∙ ap (λ z. merge_answer t i z ks) b ∙ ap (merge_answer t i y) d

-- ---- the committer

pub edits_stay : (c : Crypto) (p : PublicState) (i : ℕ) (used : List Used) (e : Edits) → apply_proposals c p i used ≡ Ok e → StaysMember i p.tree e.tree
edits_stay c p i used e h = λ some. ap is_some (edits_follow_committer c p i used e h some).leaf ∙ some
