-- A path that was drafted for a tree, and is merged into one that is the same.
use Rattle.std.proofs.Common.{◌≡◌, ℕ, List, [], length, reverse, refl, sym, ◌∙◌, ap₂, subst}
use Rattle.mls_tree_model.specs.Term.{Term}
use Rattle.mls_tree_model.specs.Merge.{path_parent_hash}
use Rattle.mls_tree_array.specs.Merging.{path_parents}
use Rattle.mls_tree.specs.Paths.{path_checks}
use Rattle.mls_tree.specs.PathDraft.{Draft, IsDraftOf, IsDraftFor}

pub draft_for : (t u : Term) (i : ℕ) (keys : List (List ℕ)) (d : Draft) → u ≡ t → IsDraftOf t i keys d → IsDraftFor u d
draft_for t u i keys d same of =
    subst (λ v. IsDraftFor v d) (sym same)
    (record {
      index = refl;
      keys = refl;
      checks = ap₂ (λ j ks. path_checks t j (length ks)) of.index of.keys ∙ of.checks;
      parents = of.parents ∙ sym (ap₂ (λ j ks. path_parents 0 t j (reverse ks) []) of.index of.keys);
      hash = of.hash ∙ sym (ap₂ (λ j ks. path_parent_hash t j ks) of.index of.keys);
    })
