-- Laws: the keys that an index knows the cells of a tree by are the tree's keys.
use Rattle.std.proofs.Common.{◌≡◌, ℕ, List, [], ◌∷◌, ◌++◌, Option, Some, None, refl, ◌∙◌, ap}
use Rattle.std.specs.List.{flat_map}
use Rattle.std.specs.Option.{option_to_list}
use Rattle.mls_leaf.specs.declared.node.Node.{Node}
use Rattle.mls_leaf.specs.declared.node.Node.TheVariants.{Leaf as in_leaf, Parent as in_parent}
use Rattle.mls_tree_model.specs.Term.{Term}
use Rattle.mls_tree_model.specs.Keys.{leaf_key, parent_key, encryption_keys}
use Rattle.mls_tree_model.specs.Sets.{same_bytes, is_distinct}
use Rattle.mls_tree_model.specs.Arrays.{term_of, in_order}
use Rattle.mls_tree_model.specs.Good.{has_distinct_keys, has_distinct_clients}
use Rattle.mls_tree_index.specs.declared.kind.KeyKind.TheVariants.{Encryption, Signature}
use Rattle.mls_tree_index.specs.Keys.{key_of, keys_of}
use Rattle.mls_tree_index.specs.Order.{IsPart}
use Rattle.mls_tree_array.specs.Standing.{Stands}
use Rattle.mls_tree_array.specs.CellKeys.{cell_keys}
use Rattle.mls_tree_array.proofs.Gathered.{cell_signature}
use Rattle.mls_tree_array.proofs.GatheredLaws.{gather-in_order, keys_standing, signatures_standing}

pub part_of_itself : (f : ℕ → Option (List ℕ)) → IsPart f f
part_of_itself f x some = refl

-- a cell's key, by its kind
encryption_key : (c : Option Node) → option_to_list (key_of Encryption c) ≡ cell_keys c
encryption_key None = refl
encryption_key (Some (in_leaf v)) = refl
encryption_key (Some (in_parent p)) = refl

signature_key : (c : Option Node) → option_to_list (key_of Signature c) ≡ cell_signature c
signature_key None = refl
signature_key (Some (in_leaf v)) = refl
signature_key (Some (in_parent p)) = refl

pub encryption_keys_of : (xs : List (Option Node)) → keys_of Encryption xs ≡ flat_map cell_keys xs
encryption_keys_of [] = refl
encryption_keys_of (c ∷ cs) =
    ap (λ ks. ks ++ keys_of Encryption cs) (encryption_key c) ∙ ap (λ ks. cell_keys c ++ ks) (encryption_keys_of cs)

pub signature_keys_of : (xs : List (Option Node)) → keys_of Signature xs ≡ flat_map cell_signature xs
signature_keys_of [] = refl
signature_keys_of (c ∷ cs) =
    ap (λ ks. ks ++ keys_of Signature cs) (signature_key c) ∙ ap (λ ks. cell_signature c ++ ks) (signature_keys_of cs)

-- of all cells of a tree
pub keys_in_order : (t : Term) → keys_of Encryption (in_order t) ≡ encryption_keys t
keys_in_order t = encryption_keys_of (in_order t) ∙ gather-in_order leaf_key parent_key refl refl t

pub distinct_keys : (h : ℕ) (xs : List (Option Node)) → Stands h xs → is_distinct same_bytes (keys_of Encryption xs) ≡ has_distinct_keys (term_of h xs)
unfolding has_distinct_keys
distinct_keys h xs stands = ap (is_distinct same_bytes) (encryption_keys_of xs ∙ keys_standing h xs stands)

pub distinct_clients : (h : ℕ) (xs : List (Option Node)) → Stands h xs → is_distinct same_bytes (keys_of Signature xs) ≡ has_distinct_clients (term_of h xs)
unfolding has_distinct_clients
distinct_clients h xs stands = ap (is_distinct same_bytes) (signature_keys_of xs ∙ signatures_standing h xs stands)
