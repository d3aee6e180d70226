-- Sides that a node ties to their parent, and parents that are parent-hash valid.
use Rattle.std.proofs.Common.{◌≡◌, ℕ, Bool, false, ◌||◌, List, Some, None, sym, ◌∙◌, ap}
use Rattle.std.specs.Prelude.{Result, Ok, Err, IfOk}
use Rattle.std.proofs.Math.Bool.{or_comm}
use Rattle.mls_leaf.specs.Parent.{Parent}
use Rattle.mls_tree_model.specs.Term.{Term}
use Rattle.mls_tree_model.specs.Inputs.{sibling_hash}
use Rattle.mls_tree_model.specs.Hashes.{tree_hash, original_tree, parent_hash, hash_at, is_some_bytes, has_witness, is_parent_hash_valid}
use Rattle.mls_tree_array.specs.Subtrees.{Subtree, end}
use Rattle.mls_tree_array.specs.Witnesses.{candidate}
use Rattle.mls_tree_array.proofs.Others.{given, witness_is}

pub ok_map : {A E : Type 0} (P Q : A → Type 0) (r : Result A E) → ((v : A) → P v → Q v) → IfOk r P → IfOk r Q
ok_map P Q (Ok v) f h = f v h
ok_map P Q (Err e) f h = h

-- ---- a side that a node ties

-- the hash that is asked for
pub asked_hash : (p : Parent) (k : ℕ) (s : Term) (key hash us sibling g : List ℕ) → key ≡ p.encryption_key → hash ≡ p.parent_hash → us ≡ p.unmerged_leaves → sibling ≡ tree_hash k (original_tree us k s) → g ≡ sibling_hash key hash sibling → g ≡ parent_hash p k s
unfolding parent_hash
asked_hash p k s key hash us sibling g is_key is_hash is_list is_sibling is =
    is
    ∙ ap (λ x. sibling_hash x hash sibling) is_key
    ∙ ap (λ x. sibling_hash p.encryption_key x sibling) is_hash
    ∙ ap (sibling_hash p.encryption_key p.parent_hash) is_sibling
    ∙ ap (λ x. sibling_hash p.encryption_key p.parent_hash (tree_hash k (original_tree x k s))) is_list

pub untied : (p : Parent) (b k : ℕ) (t s : Term) → None ≡ candidate p b t → false ≡ has_witness p b t k s
untied p b k t s none =
    sym (witness_is p b t k s ∙ ap (given (λ d. is_some_bytes (hash_at b t d) (parent_hash p k s))) (sym none))

pub tied : (p : Parent) (b k d : ℕ) (t s : Term) (v : Bool) (key hash us sibling g : List ℕ) → Some d ≡ candidate p b t → key ≡ p.encryption_key → hash ≡ p.parent_hash → us ≡ p.unmerged_leaves → sibling ≡ tree_hash k (original_tree us k s) → g ≡ sibling_hash key hash sibling → v ≡ is_some_bytes (hash_at b t d) g → v ≡ has_witness p b t k s
tied p b k d t s v key hash us sibling g some is_key is_hash is_list is_sibling is_asked is =
    is
    ∙ ap (is_some_bytes (hash_at b t d)) (asked_hash p k s key hash us sibling g is_key is_hash is_list is_sibling is_asked)
    ∙ ap (given (λ x. is_some_bytes (hash_at b t x) (parent_hash p k s))) some
    ∙ sym (witness_is p b t k s)

-- ---- a parent over two sides, of which the right one is asked first

pub valid_by : (p : Parent) (l r : Subtree) → r.first ≡ end l → is_parent_hash_valid l.first p l.term r.term ≡ (has_witness p r.first r.term l.first l.term || has_witness p l.first l.term r.first r.term)
unfolding is_parent_hash_valid
valid_by p l r second = rw second (or_comm (has_witness p l.first l.term (end l) r.term) (has_witness p (end l) r.term l.first l.term))
