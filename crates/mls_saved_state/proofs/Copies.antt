-- Keys that are copied one after another, each of 32 bytes.
use Rattle.std.proofs.Common.{◌≡◌, ℕ, ◌+◌, ◌<◌, ◌≤◌, ◌&&◌, true, List, [], ◌∷◌, ◌++◌, length, take, Option, get_or, refl, sym, ap, ap₂, ◌∙◌}
use Rattle.std.specs.List.{list_all}
use Rattle.std.proofs.lemmas.List.{take_more, take_all}
use Rattle.std.proofs.lemmas.List.Folds.{list_all-append}
use Rattle.std.proofs.lemmas.Bool.{and_from}
use Rattle.mls_saved_state.specs.Secrets.{is_none_or_secret}

-- the first so many keys are copied, and each is a secret
pub record AreCopied (keys copies : List (Option (List ℕ))) (i : ℕ) : Type 0 where
  pub same : copies ≡ take i keys
  pub secrets : list_all is_none_or_secret copies ≡ true

pub none_copied : (keys : List (Option (List ℕ))) → AreCopied keys [] 0
none_copied keys = record { same = refl; secrets = refl }

pub one_copied : (keys copies : List (Option (List ℕ))) (i : ℕ) (x y : Option (List ℕ)) → i < length keys → x ≡ get_or keys i x → y ≡ x → is_none_or_secret x ≡ true → AreCopied keys copies i → AreCopied keys (copies ++ y ∷ []) (i + 1)
one_copied keys copies i x y lt here same secret h =
    record {
      same = ap₂ (λ (l : List (Option (List ℕ))) (o : Option (List ℕ)). l ++ o ∷ []) h.same (same ∙ here) ∙ sym (take_more keys i x lt);
      secrets = list_all-append is_none_or_secret copies (y ∷ []) ∙ and_from (list_all is_none_or_secret copies) (is_none_or_secret y && true) h.secrets (ap (λ b. b && true) (ap is_none_or_secret same ∙ secret));
    }

pub all_copied : (keys copies : List (Option (List ℕ))) (i : ℕ) → length keys ≤ i → AreCopied keys copies i → copies ≡ keys
all_copied keys copies i le h = h.same ∙ take_all i keys le
