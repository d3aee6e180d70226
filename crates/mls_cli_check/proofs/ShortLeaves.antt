-- The leaves of a tree that an input spells are short, since they are parts of it.
use Rattle.std.proofs.Common.{◌≡◌, ℕ, ◌+◌, ◌≤◌, List, length, Option, Result, Ok, Err, sym, ◌∙◌, ap, subst, inl, inr, arith, length-append, lt-ltb}
use Rattle.std.specs.List.{flat_map}
use Rattle.std.proofs.lemmas.Bool.{cases_lt, cond-true}
use Rattle.mls_wire.specs.Reading.{header}
use Rattle.mls_wire.specs.Combine.{optional}
use Rattle.mls_wire.specs.Whole.{whole}
use Rattle.mls_leaf.specs.Faults.{Spells}
use Rattle.mls_leaf.specs.Limits.{input_limit}
use Rattle.mls_leaf.specs.Node.{node}
use Rattle.mls_leaf.specs.declared.node.Node.{Node}
use Rattle.mls_types.specs.GroupInfo.{ratchet_tree}
use Rattle.mls_tree_model.specs.Term.{Term}
use Rattle.mls_tree_model.specs.Arrays.{from_nodes}
use Rattle.mls_tree.specs.Tree.{max_leaves}
use Rattle.mls_tree.specs.ShortLeaves.{HasShortLeaves}
use Rattle.mls_tree.proofs.ShortLeaves.{short_leaves}
use Rattle.mls_tree.proofs.SentLemmas.{sent_is}

abbrev too_long : Result (List (Option Node)) ℕ
too_long = Err 6

-- what is read whole is within the limit
within_limit : (bytes : List ℕ) (xs : List (Option Node)) → whole ratchet_tree input_limit bytes ≡ Ok xs → length bytes ≤ input_limit
unfolding whole
within_limit bytes xs e =
    elim (cases_lt input_limit (length bytes)) [
      | inl over ↦ absurd (differ xs (sym (cond-true _ _ _ (lt-ltb input_limit (length bytes) over)) ∙ e))
      | inr within ↦ within
    ]
  where
    differ : (ys : List (Option Node)) → too_long ≡ Ok ys → ⊥
    differ ys h = absurd cc

-- the leaves of the tree that an input spells are short
pub input_short : (bytes : List ℕ) (nodes items : List (Option Node)) (t : Term)
    → Spells ratchet_tree nodes bytes → whole ratchet_tree input_limit bytes ≡ Ok nodes → items ≡ nodes → from_nodes max_leaves items ≡ Ok t → HasShortLeaves t
input_short bytes nodes items t spells read same e =
    let text : List ℕ = flat_map (optional node).spell nodes in
    let limit : length bytes ≤ input_limit = within_limit bytes nodes read in
    let parts : length bytes ≡ length (header (length text)) + length text = ap length spells.spelled ∙ length-append (header (length text)) text in
    let is = sent_is nodes t (ap (from_nodes max_leaves) (sym same) ∙ e) in
    subst HasShortLeaves is.0 (short_leaves nodes (record { fits = spells.fits.0; short = omega arith }))
