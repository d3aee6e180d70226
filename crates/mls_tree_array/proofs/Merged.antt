-- A merged path, by the root and its sides.
use Rattle.std.proofs.Common.{◌≡◌, ℕ, ◌+◌, ◌-◌, ◌<◌, ◌≤◌, Bool, true, false, cond, List, [], ◌∷◌, ◌++◌, length, get_or, take, drop, reverse, Option, Some, None, refl, sym, ◌∙◌, ap, arith, nat_lt, lt-ltb, le-ltb}
use Rattle.std.proofs.lemmas.Bool.{cond-true, cond-false, cond_both}
use Rattle.std.proofs.lemmas.List.{take-append-drop, drop_more, drop_all, reverse-append}
use Rattle.std.specs.Option.{option_to_list}
use mir.Val.{bool_byte}
use Rattle.mls_leaf.specs.Parent.{Parent, rises, rises_from}
use Rattle.mls_leaf.specs.declared.leaf.LeafNode.{LeafNode}
use Rattle.mls_tree_model.specs.Term.{Term, Leaf, Branch, width}
use Rattle.mls_tree_model.specs.Inputs.{sibling_hash}
use Rattle.mls_tree_model.specs.Resolution.{is_reached}
use Rattle.mls_tree_model.specs.Hashes.{tree_hash, parent_hash}
use Rattle.mls_tree_model.specs.Merge.{new_parent, keys_below, hash_below, parent_beside, keys_beside, hash_beside}
use Rattle.mls_tree_model.proofs.MemberLaws.{original_tree-none}
use Rattle.mls_tree_array.specs.Merging.{path_parents, first_if, rest_if}

-- ---- one parent

pub rises_none : rises [] ≡ true
unfolding rises_from
rises_none = refl

made_hash : (b : ℕ) (t : Term) (key h : List ℕ) → hash_below (Some (record { encryption_key = key; parent_hash = h; unmerged_leaves = [] })) b t h ≡ sibling_hash key h (tree_hash b t)
unfolding parent_hash
made_hash b t key h = ap (λ s. sibling_hash key h (tree_hash b s)) (original_tree-none b t)

made_below : (f : Bool) (b : ℕ) (t : Term) (ks more : List (List ℕ)) (key h : List ℕ) → f ≡ true → ks ≡ key ∷ more → hash_below (new_parent f ks h) b t h ≡ sibling_hash key h (tree_hash b t)
made_below f b t ks more key h e k =
    ap (λ g. hash_below (new_parent g ks h) b t h) e
    ∙ ap (λ js. hash_below (new_parent true js h) b t h) k
    ∙ made_hash b t key h

-- what the last of some keys is when they are read from behind
last_first : (ks : List (List ℕ)) (key : List ℕ) → 0 < length ks → key ≡ get_or ks (length ks - 1) key → reverse ks ≡ key ∷ reverse (take (length ks - 1) ks)
last_first ks key some is =
    let n : ℕ = length ks - 1 in
    let none : drop (n + 1) ks ≡ [] = drop_all (n + 1) ks (omega arith) in
    let behind : drop n ks ≡ key ∷ [] = drop_more ks n key (omega arith) ∙ ap (λ k. k ∷ drop (n + 1) ks) (sym is) ∙ ap (λ ys. key ∷ ys) none in
    ap reverse (sym (take-append-drop n ks))
    ∙ ap (λ ys. reverse (take n ks ++ ys)) behind
    ∙ reverse-append (take n ks) (key ∷ [])

pub below_last : (b : ℕ) (t : Term) (ks : List (List ℕ)) (key h : List ℕ) → is_reached b t ≡ true → 0 < length ks → key ≡ get_or ks (length ks - 1) key → hash_beside b t (reverse ks) h ≡ sibling_hash key h (tree_hash b t)
below_last b t ks key h e some is = made_below (is_reached b t) b t (reverse ks) _ key h e (last_first ks key some is)

pub below_pushed : (b : ℕ) (t : Term) (ks lower : List (List ℕ)) (key h : List ℕ) → is_reached b t ≡ true → ks ≡ lower ++ (key ∷ []) → hash_beside b t (reverse ks) h ≡ sibling_hash key h (tree_hash b t)
below_pushed b t ks lower key h e is = made_below (is_reached b t) b t (reverse ks) _ key h e (ap reverse is ∙ reverse-append lower (key ∷ []))

-- ---- reading

pub bit_counts : (b : Bool) (n : ℕ) → bool_byte b + n ≡ cond b 1 0 + n
bit_counts true n = refl
bit_counts false n = refl

pub parents_leaf : (b : ℕ) (v : Option LeafNode) (i : ℕ) (ks : List (List ℕ)) (g : List ℕ) → path_parents b (Leaf v) i ks g ≡ []
unfolding path_parents
parents_leaf b v i ks g = refl

module _ (b : ℕ) (c : Option Parent) (l r : Term) (i : ℕ) (ks : List (List ℕ)) (g : List ℕ) where
  pub parents_left : i < b + width l → path_parents b (Branch c l r) i ks g ≡ option_to_list (parent_beside (b + width l) r ks g) ++ path_parents b l i (keys_beside (b + width l) r ks) (hash_beside (b + width l) r ks g)
  unfolding path_parents
  parents_left lt = cond-true _ _ _ (lt-ltb i (b + width l) lt)

  pub parents_right : b + width l ≤ i → path_parents b (Branch c l r) i ks g ≡ option_to_list (parent_beside b l ks g) ++ path_parents (b + width l) r i (keys_beside b l ks) (hash_beside b l ks g)
  unfolding path_parents
  parents_right ge = cond-false _ _ _ (le-ltb i (b + width l) ge)

-- ---- writing

pub none_below : (f : Bool) (ks : List (List ℕ)) → ks ≡ [] → keys_below f ks ≡ []
none_below false ks e = e
none_below true ks e = ap (keys_below true) e

none_made : (f : Bool) (g : List ℕ) → new_parent f [] g ≡ None
none_made false g = refl
none_made true g = refl

-- no keys make no parents
pub no_parents : (b : ℕ) (t : Term) (i : ℕ) (ks : List (List ℕ)) (g : List ℕ) → ks ≡ [] → path_parents b t i ks g ≡ []
unfolding path_parents
no_parents b (Leaf v) i ks g e = refl
no_parents b (Branch c l r) i ks g e =
    cond_both (nat_lt i (b + width l)) _ _ (λ ps. ps ≡ [])
    (λ _. ap (λ js. option_to_list (parent_beside (b + width l) r js g) ++ path_parents b l i (keys_beside (b + width l) r ks) (hash_beside (b + width l) r ks g)) e
    ∙ ap (λ o. option_to_list o ++ path_parents b l i (keys_beside (b + width l) r ks) (hash_beside (b + width l) r ks g)) (none_made (is_reached (b + width l) r) g)
    ∙ no_parents b l i (keys_beside (b + width l) r ks) (hash_beside (b + width l) r ks g) (none_below (is_reached (b + width l) r) ks e))
    (λ _. ap (λ js. option_to_list (parent_beside b l js g) ++ path_parents (b + width l) r i (keys_beside b l ks) (hash_beside b l ks g)) e
    ∙ ap (λ o. option_to_list o ++ path_parents (b + width l) r i (keys_beside b l ks) (hash_beside b l ks g)) (none_made (is_reached b l) g)
    ∙ no_parents (b + width l) r i (keys_beside b l ks) (hash_beside b l ks g) (none_below (is_reached b l) ks e))

-- the first of the parents is the new one, where there is one
pub first_made : (f : Bool) (ks : List (List ℕ)) (g : List ℕ) (more : List Parent) → (ks ≡ [] → more ≡ []) → first_if f (option_to_list (new_parent f ks g) ++ more) ≡ new_parent f ks g
first_made false ks g more none = refl
first_made true [] g more none = ap (first_if true) (none refl)
first_made true (k ∷ ks) g more none = refl

pub rest_made : (f : Bool) (ks : List (List ℕ)) (g : List ℕ) (more : List Parent) → (ks ≡ [] → more ≡ []) → rest_if f (option_to_list (new_parent f ks g) ++ more) ≡ more
rest_made false ks g more none = refl
rest_made true [] g more none = ap (rest_if true) (none refl) ∙ sym (none refl)
rest_made true (k ∷ ks) g more none = refl
