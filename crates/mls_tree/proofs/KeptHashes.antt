-- The kept hashes after a call.
use Rattle.std.proofs.Common.{◌≡◌, ℕ, suc, ◌+◌, true, List, [], ◌++◌, length, take, reverse, replicate, Option, None, sym, ◌∙◌, ap, subst, add-one}
use Rattle.mls_leaf.specs.declared.leaf.LeafNode.{LeafNode}
use Rattle.mls_leaf.specs.declared.node.Node.{Node}
use Rattle.mls_treemath.specs.Paths.{nodes_in}
use Rattle.mls_tree_model.specs.Term.{size, height, blanks, is_perfect}
use Rattle.mls_tree_model.specs.Edits.{put, enter, grow, trim}
use Rattle.mls_tree_model.specs.Merge.{merge, merge_path}
use Rattle.mls_tree_model.specs.Arrays.{term_of}
use Rattle.mls_tree_model.proofs.ShapeLaws.{perfect-blanks, perfect-grow}
use Rattle.mls_tree_model.proofs.ArrayLaws.{size-term_of, size-perfect, perfect-term_of}
use Rattle.mls_tree_array.specs.StandingLaws.{StandsFor}
use Rattle.mls_tree_array.proofs.StandingLaws.{height-term_of}
use Rattle.mls_tree_array.specs.KeptHashes.{hashes_of, Keeps, drop_hashes}
use Rattle.mls_tree_array.proofs.KeptLaws.{keeps_all, keeps_none, keeps_long, keeps-put, keeps-enter, keeps-merge, keeps-grow, keeps-trim}
use Rattle.mls_tree.proofs.Pathing.{merge_is}

pub cold_tree : (h n : ℕ) (xs : List (Option Node)) → n ≡ nodes_in h → Keeps 0 (term_of h xs) (replicate n None)
cold_tree h n xs all = subst (λ k. Keeps 0 (term_of h xs) (replicate k None)) (size-term_of h xs ∙ sym all) (keeps_none 0 (term_of h xs))

pub cold_by : (h n : ℕ) (xs : List (Option Node)) (hs : List (Option (List ℕ))) → hs ≡ replicate n None → n ≡ nodes_in h → Keeps 0 (term_of h xs) hs
cold_by h n xs hs is all = subst (Keeps 0 (term_of h xs)) (sym is) (cold_tree h n xs all)

pub kept_long : (h : ℕ) (xs : List (Option Node)) (hs : List (Option (List ℕ))) → Keeps 0 (term_of h xs) hs → length hs ≡ nodes_in h
kept_long h xs hs k = keeps_long 0 (term_of h xs) hs k ∙ size-term_of h xs

pub all_kept : (h : ℕ) (xs : List (Option Node)) (hs : List (Option (List ℕ))) → hs ≡ hashes_of 0 (term_of h xs) → Keeps 0 (term_of h xs) hs
all_kept h xs hs all = subst (Keeps 0 (term_of h xs)) (sym all) (keeps_all 0 (term_of h xs))

module _ (h : ℕ) (xs : List (Option Node)) (hs : List (Option (List ℕ))) (k : Keeps 0 (term_of h xs) hs) (i : ℕ) (gs : List (Option (List ℕ))) where
  pub kept-put : (x : Option LeafNode) (j : ℕ) (ys : List (Option Node)) → gs ≡ drop_hashes 0 (term_of h xs) i hs → StandsFor j ys (put 0 (term_of h xs) i x) → Keeps 0 (term_of j ys) gs
  kept-put x j ys is stands = subst (λ t. Keeps 0 t gs) (sym stands.term) (subst (Keeps 0 (put 0 (term_of h xs) i x)) (sym is) (keeps-put 0 (term_of h xs) i x hs k))

  pub kept-enter : (x : LeafNode) (j : ℕ) (ys : List (Option Node)) → gs ≡ drop_hashes 0 (term_of h xs) i hs → StandsFor j ys (enter 0 (term_of h xs) i x) → Keeps 0 (term_of j ys) gs
  kept-enter x j ys is stands = subst (λ t. Keeps 0 t gs) (sym stands.term) (subst (Keeps 0 (enter 0 (term_of h xs) i x)) (sym is) (keeps-enter 0 (term_of h xs) i x hs k))

  pub kept-merge : (x : LeafNode) (keys : List (List ℕ)) (j : ℕ) (ys : List (Option Node)) → gs ≡ drop_hashes 0 (term_of h xs) i hs → StandsFor j ys (merge_path (term_of h xs) i x keys) → Keeps 0 (term_of j ys) gs
  kept-merge x keys j ys is stands =
      subst (λ t. Keeps 0 t gs) (merge_is (term_of h xs) i x keys ∙ sym stands.term)
      (subst (Keeps 0 (merge 0 (term_of h xs) i (reverse keys) [] x)) (sym is) (keeps-merge 0 (term_of h xs) i (reverse keys) [] x hs k))

-- the doubled tree
same_size : (h : ℕ) (xs : List (Option Node)) → size (blanks (height (term_of h xs))) ≡ size (term_of h xs)
same_size h xs =
    size-perfect (height (term_of h xs)) (blanks (height (term_of h xs))) (perfect-blanks (height (term_of h xs)))
    ∙ ap nodes_in (height-term_of h xs)
    ∙ sym (size-term_of h xs)

pub kept-grown : (h : ℕ) (xs : List (Option Node)) (hs : List (Option (List ℕ))) → Keeps 0 (term_of h xs) hs → Keeps 0 (grow (term_of h xs)) (hs ++ replicate (suc (nodes_in h)) None)
kept-grown h xs hs k =
    subst (λ n. Keeps 0 (grow (term_of h xs)) (hs ++ replicate (suc n) None)) (size-term_of h xs) (keeps-grow (term_of h xs) hs (same_size h xs) k)

pub grown_perfect : (h : ℕ) (xs : List (Option Node)) → is_perfect (h + 1) (grow (term_of h xs)) ≡ true
grown_perfect h xs = subst (λ k. is_perfect k (grow (term_of h xs)) ≡ true) (sym (add-one h)) (perfect-grow h (term_of h xs) (perfect-term_of h xs))

pub kept-appended : (h i : ℕ) (x : LeafNode) (xs ys : List (Option Node)) (hs gs : List (Option (List ℕ))) → Keeps 0 (term_of h xs) hs → gs ≡ drop_hashes 0 (grow (term_of h xs)) i (hs ++ replicate (suc (nodes_in h)) None) → StandsFor (h + 1) ys (enter 0 (grow (term_of h xs)) i x) → Keeps 0 (term_of (h + 1) ys) gs
kept-appended h i x xs ys hs gs k is stands =
    subst (λ t. Keeps 0 t gs) (sym stands.term)
    (subst (Keeps 0 (enter 0 (grow (term_of h xs)) i x)) (sym is) (keeps-enter 0 (grow (term_of h xs)) i x _ (kept-grown h xs hs k)))

-- the trimmed tree
pub kept-trimmed : (h j n : ℕ) (xs ys : List (Option Node)) (hs gs : List (Option (List ℕ))) → Keeps 0 (term_of h xs) hs → StandsFor j ys (trim (term_of h xs)) → n ≡ length ys → gs ≡ take n hs → Keeps 0 (term_of j ys) gs
kept-trimmed h j n xs ys hs gs k stands all is =
    let many : n ≡ size (trim (term_of h xs)) = all ∙ stands.stands.size ∙ sym (size-term_of j ys) ∙ ap size stands.term in
    subst (λ t. Keeps 0 t gs) (sym stands.term)
    (subst (Keeps 0 (trim (term_of h xs))) (sym (is ∙ ap (λ m. take m hs) many)) (keeps-trim 0 (term_of h xs) hs k))
