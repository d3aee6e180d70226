-- Tree hashes of original trees, by the root and its sides.
use Rattle.std.proofs.Common.{◌≡◌, ℕ, ◌+◌, true, false, not, ◌&&◌, if◌then◌else◌, List, [], ◌∷◌, Option, Some, None, sym, ◌∙◌, ap, refl, arith}
use Rattle.std.specs.List.{list_all}
use Rattle.std.proofs.lemmas.Bool.{and_parts, cond-true, cond-false}
use Rattle.mls_leaf.specs.Parent.{Parent}
use Rattle.mls_leaf.specs.declared.leaf.LeafNode.{LeafNode}
use Rattle.mls_tree_model.specs.Sets.{has, less, same_bytes}
use Rattle.mls_tree_model.specs.Term.{Term, Leaf, Branch, width}
use Rattle.mls_tree_model.specs.Inputs.{leaf_hash, branch_hash}
use Rattle.mls_tree_model.specs.Hashes.{tree_hash, unlist_leaves, original_tree}
use Rattle.mls_tree_model.proofs.Equations.{tree_hash_leaf, tree_hash_branch, original_leaf, original_branch}
use Rattle.mls_tree_model.proofs.CountLaws.{bytes_true}
use Rattle.mls_tree_array.specs.Witnesses.{unmerged_leaves_of}
use Rattle.mls_tree_array.specs.Subtrees.{Subtree, IsOver}

pub added_leaf : (us : List ℕ) (b : ℕ) (v : Option LeafNode) → has us b ≡ true → tree_hash b (original_tree us b (Leaf v)) ≡ leaf_hash b None
added_leaf us b v there =
    ap (tree_hash b) (original_leaf b v us) ∙ ap (λ w. tree_hash b (Leaf w)) (cond-true _ _ _ there) ∙ tree_hash_leaf b None

-- where a leaf isn't among them, its hash stays
pub same_leaf : (us : List ℕ) (b : ℕ) (v : Option LeafNode) → has us b ≡ false → tree_hash b (Leaf v) ≡ tree_hash b (original_tree us b (Leaf v))
same_leaf us b v gone = ap (λ w. tree_hash b (Leaf w)) (sym (cond-false _ _ _ gone)) ∙ ap (tree_hash b) (sym (original_leaf b v us))

-- and a list that has none of them stays
less_kept : (us xs : List ℕ) → list_all (λ u. not (has us u)) xs ≡ true → less us xs ≡ xs
less_kept us [] e = refl
less_kept us (x ∷ xs) e =
    let p = and_parts (not (has us x)) (list_all (λ u. not (has us u)) xs) e in
    rw p.0 (ap (λ ys. x ∷ ys) (less_kept us xs p.1))

pub unlisting_kept : (us : List ℕ) (c : Option Parent) → list_all (λ u. not (has us u)) (unmerged_leaves_of c) ≡ true → unlist_leaves us c ≡ c
unlisting_kept us None e = refl
unlisting_kept us (Some p) e =
    ap (λ ys. let r : Parent = record { encryption_key = p.encryption_key; parent_hash = p.parent_hash; unmerged_leaves = ys } in Some r) (less_kept us p.unmerged_leaves e)

-- so a root whose sides keep their hashes keeps its own
pub same_root : (us l l' r r' own : List ℕ) (c : Option Parent) → own ≡ branch_hash c l' r' → (same_bytes l l' && (same_bytes r r' && list_all (λ u. not (has us u)) (unmerged_leaves_of c))) ≡ true → own ≡ branch_hash (unlist_leaves us c) l r
same_root us l l' r r' own c is same =
    let p = and_parts (same_bytes l l') _ same in
    let q = and_parts (same_bytes r r') (list_all (λ u. not (has us u)) (unmerged_leaves_of c)) p.1 in
    is
    ∙ ap (λ d. branch_hash d l' r') (sym (unlisting_kept us c q.1))
    ∙ ap (λ x. branch_hash (unlist_leaves us c) x r') (sym (bytes_true l l' p.0))
    ∙ ap (branch_hash (unlist_leaves us c) l) (sym (bytes_true r r' q.0))

-- an original tree is as wide
pub width-original_tree : (us : List ℕ) (b : ℕ) (t : Term) → width (original_tree us b t) ≡ width t
unfolding width original_tree
width-original_tree us b (Leaf v) = refl
width-original_tree us b (Branch c l r) = omega (arith, width-original_tree us b l, width-original_tree us (b + width l) r)

pub original_sides : (us : List ℕ) (t l : Subtree) (c : Option Parent) (r : Subtree) → IsOver t l c r → tree_hash t.first (original_tree us t.first t.term) ≡ branch_hash (unlist_leaves us c) (tree_hash l.first (original_tree us l.first l.term)) (tree_hash r.first (original_tree us r.first r.term))
original_sides us t l c r over =
    rw (over.is, over.left_first, over.right_first)
    (ap (tree_hash t.first) (original_branch t.first c l.term r.term us)
    ∙ tree_hash_branch t.first (unlist_leaves us c) (original_tree us t.first l.term) (original_tree us (t.first + width l.term) r.term)
    ∙ ap (λ w. branch_hash (unlist_leaves us c) (tree_hash t.first (original_tree us t.first l.term)) (tree_hash (t.first + w) (original_tree us (t.first + width l.term) r.term))) (width-original_tree us t.first l.term))

pub hash_sides : (t l : Subtree) (c : Option Parent) (r : Subtree) → IsOver t l c r → tree_hash t.first t.term ≡ branch_hash c (tree_hash l.first l.term) (tree_hash r.first r.term)
hash_sides t l c r over = rw (over.is, over.left_first, over.right_first) (tree_hash_branch t.first c l.term r.term)

-- ---- the same of all nodes hashed again

pub leaf_original : (us : List ℕ) (t : Subtree) (v : Option LeafNode) → t.term ≡ Leaf v → tree_hash t.first (original_tree us t.first t.term) ≡ leaf_hash t.first (if has us t.first then None else v)
leaf_original us t v is =
    rw is (ap (tree_hash t.first) (original_leaf t.first v us) ∙ tree_hash_leaf t.first (if has us t.first then None else v))
