-- Laws: a merge whose leaf keeps its signature key leaves each cell's.
use Rattle.std.proofs.Common.{◌≡◌, ℕ, ◌+◌, List, [], ◌∷◌, ◌++◌, map, get_or, reverse, nat_lt, Option, Some, None, refl, sym, ◌∙◌, ap, subst, inl, inr}
use Rattle.std.proofs.lemmas.Bool.{cases_lt, cond_both}
use Rattle.std.proofs.lemmas.List.{map-append}
use Rattle.std.proofs.Math.ListN.{get_or-map}
use Rattle.mls_leaf.specs.Parent.{Parent}
use Rattle.mls_leaf.specs.declared.leaf.LeafNode.{LeafNode}
use Rattle.mls_leaf.specs.declared.node.Node.{Node}
use Rattle.mls_tree_model.specs.Term.{Term, Leaf, Branch, width, leaf_at, leaf_of}
use Rattle.mls_tree_model.specs.Merge.{merge, merge_path, keys_beside, hash_beside}
use Rattle.mls_tree_model.specs.Arrays.{term_of, in_order, parent_cell}
use Rattle.mls_tree_model.proofs.Equations.{leaf_at_leaf, leaf_at_left, leaf_at_right, merge_leaf, merge_left, merge_right}
use Rattle.mls_tree_index.specs.declared.kind.KeyKind.TheVariants.{Signature}
use Rattle.mls_tree_index.specs.Keys.{key_of, key_in}
use Rattle.mls_tree_index.specs.Indexes.{Listing, Indexes}
use Rattle.mls_tree_index.proofs.Laws.{indexes_alike}
use Rattle.mls_tree_array.specs.Standing.{Stands}
use Rattle.mls_tree_array.specs.StandingLaws.{StandsFor}
use Rattle.mls_tree.specs.IndexedKeys.{IsClient}
use Rattle.mls_tree.proofs.WayIndexes.{listed}

-- the signature keys of a tree's nodes in order
abbrev clients : Term → List (Option (List ℕ))
clients t = map (key_of Signature) (in_order t)

no_client : (c : Option Parent) → key_of Signature (parent_cell c) ≡ None
no_client None = refl
no_client (Some p) = refl

clients-branch : (c : Option Parent) (l r : Term) → clients (Branch c l r) ≡ clients l ++ (None ∷ clients r)
unfolding in_order
clients-branch c l r =
    map-append (key_of Signature) (in_order l) (parent_cell c ∷ in_order r)
    ∙ ap (λ o. clients l ++ (o ∷ clients r)) (no_client c)

clients-leaf : (o : Option LeafNode) (x : LeafNode) → IsClient x.signature_key o → clients (Leaf (Some x)) ≡ clients (Leaf o)
unfolding in_order
clients-leaf None x is = absurd is
clients-leaf (Some v) x is = ap (λ k. Some k ∷ []) (sym is)

clients-merge : (b : ℕ) (t : Term) (i : ℕ) (ks : List (List ℕ)) (g : List ℕ) (x : LeafNode) → IsClient x.signature_key (leaf_at b t i) → clients (merge b t i ks g x) ≡ clients t
clients-merge b (Leaf v) i ks g x is =
    ap clients (merge_leaf b v i ks g x) ∙ clients-leaf v x (subst (IsClient x.signature_key) (leaf_at_leaf b v i) is)
clients-merge b (Branch c l r) i ks g x is = elim (cases_lt i (b + width l)) [
  | inl lt ↦
      ap clients (merge_left b c l r i ks g x lt)
      ∙ clients-branch _ _ r
      ∙ ap (λ us. us ++ (None ∷ clients r)) (clients-merge b l i (keys_beside (b + width l) r ks) (hash_beside (b + width l) r ks g) x (subst (IsClient x.signature_key) (leaf_at_left b c l r i lt) is))
      ∙ sym (clients-branch c l r)
  | inr ge ↦
      ap clients (merge_right b c l r i ks g x ge)
      ∙ clients-branch _ l _
      ∙ ap (λ us. clients l ++ (None ∷ us)) (clients-merge (b + width l) r i (keys_beside b l ks) (hash_beside b l ks g) x (subst (IsClient x.signature_key) (leaf_at_right b c l r i ge) is))
      ∙ sym (clients-branch c l r)
]

within : (t : Term) (i : ℕ) (k : List ℕ) → IsClient k (leaf_of t i) → IsClient k (leaf_at 0 t i)
unfolding leaf_of
within t i k = cond_both (nat_lt i (width t)) _ _ (λ o. IsClient k o → IsClient k (leaf_at 0 t i)) (λ _ is. is) (λ _ is. absurd is)

-- the index of a tree's clients is that of the merged tree's
module _ (h i : ℕ) (xs ys : List (Option Node)) (stands : Stands h xs) (x : LeafNode) (keys : List (List ℕ)) (is : IsClient x.signature_key (leaf_of (term_of h xs) i)) where
  client_kept : StandsFor h ys (merge_path (term_of h xs) i x keys) → (y : ℕ) → key_in Signature xs y ≡ key_in Signature ys y
  unfolding merge_path
  client_kept edited y =
      let same : clients (merge 0 (term_of h xs) i (reverse keys) [] x) ≡ clients (term_of h xs) = clients-merge 0 (term_of h xs) i (reverse keys) [] x (within (term_of h xs) i x.signature_key is) in
      ap (λ zs. key_in Signature zs y) (sym stands.order)
      ∙ sym (get_or-map (key_of Signature) (in_order (term_of h xs)) y None)
      ∙ ap (λ us. get_or us y None) (sym same)
      ∙ get_or-map (key_of Signature) (in_order (merge 0 (term_of h xs) i (reverse keys) [] x)) y None
      ∙ ap (λ zs. key_in Signature zs y) (sym (listed h ys _ edited))

  pub indexes-client : (t : Listing) → t.kind ≡ Signature → StandsFor h ys (merge_path (term_of h xs) i x keys) → Indexes xs t → Indexes ys t
  indexes-client t kind edited = indexes_alike t xs ys (λ y. ap (λ k. key_in k xs y) kind ∙ client_kept edited y ∙ ap (λ k. key_in k ys y) (sym kind))
