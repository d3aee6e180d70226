-- What each encryption key passes, one node after another.
use Rattle.std.proofs.Common.{◌≡◌, ℕ, ◌+◌, ◌<◌, ◌≤◌, Bool, true, false, ◌&&◌, List, length, get_or, drop, Option, sym, ◌∙◌, ap}
use Rattle.std.specs.List.{list_all, flat_map}
use Rattle.std.proofs.lemmas.List.{drop_more, drop_all}
use Rattle.std.proofs.lemmas.List.Concat.{flat_map-cons}
use Rattle.std.proofs.lemmas.List.Folds.{list_all-append}
use Rattle.mls_leaf.specs.declared.node.Node.{Node}
use Rattle.mls_tree_model.specs.Good.{is_all_fit}
use Rattle.mls_tree_model.specs.Arrays.{term_of}
use Rattle.mls_tree_array.specs.Standing.{Stands}
use Rattle.mls_tree_array.specs.CellKeys.{cell_keys}
use Rattle.mls_tree_array.proofs.GatheredLaws.{keys_standing}
use Rattle.mls_suite.specs.Crypto.{Crypto}
use Rattle.mls_tree.specs.Rules.{rules_of}

-- whether the keys from node i on pass a test
abbrev pub keys_pass : (List ℕ → Bool) → List (Option Node) → ℕ → Bool
keys_pass p xs i = list_all p (flat_map cell_keys (drop i xs))

module _ (p : List ℕ → Bool) (xs : List (Option Node)) (i : ℕ) where
  one_more : (d : Option Node) → i < length xs → keys_pass p xs i ≡ (list_all p (cell_keys (get_or xs i d)) && keys_pass p xs (i + 1))
  one_more d lt =
      ap (λ ys. list_all p (flat_map cell_keys ys)) (drop_more xs i d lt)
      ∙ ap (list_all p) (flat_map-cons cell_keys (get_or xs i d) (drop (i + 1) xs))
      ∙ list_all-append p (cell_keys (get_or xs i d)) (flat_map cell_keys (drop (i + 1) xs))

  pub key_fails : (d : Option Node) → i < length xs → list_all p (cell_keys (get_or xs i d)) ≡ false → keys_pass p xs i ≡ false
  key_fails d lt e = one_more d lt ∙ ap (λ b. b && keys_pass p xs (i + 1)) e

  pub key_passes : (d : Option Node) → i < length xs → list_all p (cell_keys (get_or xs i d)) ≡ true → keys_pass p xs (i + 1) ≡ keys_pass p xs i
  key_passes d lt e = sym (one_more d lt ∙ ap (λ b. b && keys_pass p xs (i + 1)) e)

  pub keys_end : length xs ≤ i → keys_pass p xs i ≡ true
  keys_end ge = ap (λ ys. list_all p (flat_map cell_keys ys)) (drop_all i xs ge)

-- what the rules of a suite ask of the keys
pub fit_told : (k : Crypto) (group : List ℕ) (h : ℕ) (xs : List (Option Node)) → Stands h xs → keys_pass k.key_ok xs 0 ≡ is_all_fit (rules_of k group) (term_of h xs)
unfolding is_all_fit
fit_told k group h xs stands = ap (list_all k.key_ok) (keys_standing h xs stands)
