-- What a commit makes of a tree, in the parts in which it is worked out.
use Rattle.std.specs.Prelude.{◌≡◌, ℕ, nat_eq, nat_le, not, List, ◌++◌, length, map, Result, Ok, Err}
use Rattle.std.proofs.Common.{refl, sym, ap, ◌∙◌}
use Rattle.mls_wire.specs.Checks.{Passed, passed, require, ◌>>◌}
use Rattle.mls_wire.specs.Reading.{◌>>=◌}
use Rattle.mls_suite.specs.Crypto.{Crypto}
use Rattle.mls_tree_model.specs.Term.{Term}
use Rattle.mls_tree_model.specs.Sets.{has, same_bytes, is_distinct}
use Rattle.mls_tree_model.specs.Good.{has_distinct_keys, has_distinct_clients}
use Rattle.mls_model.specs.PublicState.{PublicState, Used}
use Rattle.mls_model.specs.Proposals.{full_checks, updates, updated_leaves, removed_leaves, adds, extension_lists, package_reference}
use Rattle.mls_model.specs.Commit.{Edits, apply_updates, apply_removes, apply_adds, apply_proposals}
use Rattle.mls_public_group.specs.ProposalList.{proposal_list_checks, edit_tree, edited_tree_checks}

-- ---- the definition is worked out in these parts

regroup : {B : Type 0} (a b c : Result Passed ℕ) (rest : Result B ℕ) → (a >> (b >> (c >> rest))) ≡ ((a >> (b >> c)) >> rest)
regroup (Ok passed) (Ok passed) c rest = refl
regroup (Ok passed) (Err n) c rest = refl
regroup (Err n) b c rest = refl

regroup_four : {B : Type 0} (a b c d : Result Passed ℕ) (rest : Result B ℕ) → (a >> (b >> (c >> (d >> rest)))) ≡ ((a >> (b >> (c >> d))) >> rest)
regroup_four (Ok passed) (Ok passed) (Ok passed) d rest = refl
regroup_four (Ok passed) (Ok passed) (Err n) d rest = refl
regroup_four (Ok passed) (Err n) c d rest = refl
regroup_four (Err n) b c d rest = refl

bound : {A B C : Type 0} (r : Result A ℕ) (f : A → Result B ℕ) (g : B → Result C ℕ) → (r >>= λ x. f x >>= g) ≡ ((r >>= f) >>= g)
bound (Ok x) f g = refl
bound (Err n) f g = refl

module _ (c : Crypto) (p : PublicState) (committer : ℕ) (used : List Used) where
  abbrev last : Edits → Result Edits ℕ
  last e = require 26 (has_distinct_clients e.tree) >> (require 26 (is_distinct same_bytes (map package_reference (adds used))) >> (require 25 (has_distinct_keys e.tree) >> Ok e))

  last_is : (e : Edits) → last e ≡ (edited_tree_checks e used >> Ok e)
  unfolding edited_tree_checks
  last_is e = regroup (require 26 (has_distinct_clients e.tree)) (require 26 (is_distinct same_bytes (map package_reference (adds used)))) (require 25 (has_distinct_keys e.tree)) (Ok e)

  rest_is : (edit_tree p.tree used >>= last) ≡ (apply_updates p.tree (updates used) >>= λ a. apply_removes a (removed_leaves used) >>= λ b. apply_adds b (adds used) >>= last)
  unfolding edit_tree
  rest_is =
      sym (bound (apply_updates p.tree (updates used)) (λ a. apply_removes a (removed_leaves used) >>= λ b. apply_adds b (adds used)) last)
      ∙ inner (apply_updates p.tree (updates used))
    where
      inner : (r : Result Term ℕ) → (r >>= λ a. (apply_removes a (removed_leaves used) >>= λ b. apply_adds b (adds used)) >>= last) ≡ (r >>= λ a. apply_removes a (removed_leaves used) >>= λ b. apply_adds b (adds used) >>= last)
      inner (Ok a) = sym (bound (apply_removes a (removed_leaves used)) (λ b. apply_adds b (adds used)) last)
      inner (Err n) = refl

  pub edited_is : apply_proposals c p committer used ≡ (full_checks c p used >> (proposal_list_checks committer used >> (edit_tree p.tree used >>= last)))
  unfolding apply_proposals proposal_list_checks
  edited_is =
      ap (λ (r : Result Edits ℕ). full_checks c p used >> r)
      (regroup_four (require 61 (not (has (updated_leaves used) committer))) (require 62 (not (has (removed_leaves used) committer))) (require 63 (is_distinct nat_eq (updated_leaves used ++ removed_leaves used))) (require 68 (nat_le (length (extension_lists used)) 1)) _
      ∙ ap (λ (r : Result Edits ℕ). proposal_list_checks committer used >> r) (sym rest_is))

  module _ (full : full_checks c p used ≡ Ok passed) where
    after_full : apply_proposals c p committer used ≡ (proposal_list_checks committer used >> (edit_tree p.tree used >>= last))
    after_full = edited_is ∙ ap (λ (r : Result Passed ℕ). r >> (proposal_list_checks committer used >> (edit_tree p.tree used >>= last))) full

    pub edited_apart : (n : ℕ) → proposal_list_checks committer used ≡ Err n → apply_proposals c p committer used ≡ Err n
    edited_apart n h = after_full ∙ ap (λ (r : Result Passed ℕ). r >> (edit_tree p.tree used >>= last)) h

    module _ (differ : proposal_list_checks committer used ≡ Ok passed) where
      after_apart : apply_proposals c p committer used ≡ (edit_tree p.tree used >>= last)
      after_apart = after_full ∙ ap (λ (r : Result Passed ℕ). r >> (edit_tree p.tree used >>= last)) differ

      pub edited_applied : (n : ℕ) → edit_tree p.tree used ≡ Err n → apply_proposals c p committer used ≡ Err n
      edited_applied n h = after_apart ∙ ap (λ (r : Result Edits ℕ). r >>= last) h

      module _ (e : Edits) (done : edit_tree p.tree used ≡ Ok e) where
        after_applied : apply_proposals c p committer used ≡ (edited_tree_checks e used >> Ok e)
        after_applied = after_apart ∙ ap (λ (r : Result Edits ℕ). r >>= last) done ∙ last_is e

        pub edited_distinct : (n : ℕ) → edited_tree_checks e used ≡ Err n → apply_proposals c p committer used ≡ Err n
        edited_distinct n h = after_applied ∙ ap (λ (r : Result Passed ℕ). r >> Ok e) h

        pub edited_ok : edited_tree_checks e used ≡ Ok passed → apply_proposals c p committer used ≡ Ok e
        edited_ok h = after_applied ∙ ap (λ (r : Result Passed ℕ). r >> Ok e) h

  pub edited_full : (n : ℕ) → full_checks c p used ≡ Err n → apply_proposals c p committer used ≡ Err n
  edited_full n h = edited_is ∙ ap (λ (r : Result Passed ℕ). r >> (proposal_list_checks committer used >> (edit_tree p.tree used >>= last))) h
