-- The keys of cells.
use Rattle.std.specs.Prelude.{◌≡◌, ℕ, ◌+◌, ◌==◌, nat_eq, nat_lt, Bool, false, not, ◌&&◌, cond, List, [], ◌∷◌, length, get_or, Option, Some, None}
use Rattle.std.specs.List.{flat_map}
use Rattle.std.specs.Option.{option_to_list}
use Rattle.std.specs.Cmp.Lexicographic.{pointwise}
use Rattle.mls_leaf.specs.declared.node.Node.{Node}
use Rattle.mls_leaf.specs.declared.node.Node.TheVariants.{Leaf as in_leaf, Parent as in_parent}
use Rattle.mls_tree_model.specs.Sets.{same_bytes, count}
use Rattle.mls_tree_index.specs.declared.kind.KeyKind.{KeyKind}
use Rattle.mls_tree_index.specs.declared.kind.KeyKind.TheVariants.{Encryption, Signature}

-- the key of a cell, where it has one
abbrev pub key_of : KeyKind → Option Node → Option (List ℕ)
key_of k None = None
key_of Encryption (Some (in_leaf v)) = Some v.encryption_key
key_of Encryption (Some (in_parent p)) = Some p.encryption_key
key_of Signature (Some (in_leaf v)) = Some v.signature_key
key_of Signature (Some (in_parent p)) = None

-- the key of the cell with a number, where there is one
abbrev pub key_in : KeyKind → List (Option Node) → ℕ → Option (List ℕ)
key_in k cells x = key_of k (get_or cells x None)

-- whether a key that may be missing is this one
abbrev pub is_key : List ℕ → Option (List ℕ) → Bool
is_key k None = false
is_key k (Some l) = pointwise nat_eq l k

-- whether the cell whose number stands at place p of a list has this key
abbrev pub is_key_at : KeyKind → List (Option Node) → List ℕ → ℕ → List ℕ → Bool
is_key_at k cells numbers p x = nat_lt p (length numbers) && is_key x (key_in k cells (get_or numbers p 0))

-- all keys, in the order of the cells
abbrev pub keys_of : KeyKind → List (Option Node) → List (List ℕ)
keys_of k cells = flat_map (λ c. option_to_list (key_of k c)) cells

-- whether a key is that of some cell
abbrev pub is_held : KeyKind → List (Option Node) → List ℕ → Bool
is_held k cells x = not (count same_bytes x (keys_of k cells) == 0)

-- a cell that has a key, or that no cell has it
abbrev pub IsHolder : KeyKind → List (Option Node) → List ℕ → Option ℕ → Type 0
IsHolder k cells x None = is_held k cells x ≡ false
IsHolder k cells x (Some n) = key_in k cells n ≡ Some x

-- how many keys of a list stand again further on
unfoldable pub repeats_in : List (List ℕ) → ℕ
repeats_in [] = 0
repeats_in (x ∷ xs) = cond (count same_bytes x xs == 0) 0 1 + repeats_in xs
