-- The leaf of a member among the nodes that are sent (RFC 9420, 12.4.3.3).
use Rattle.std.proofs.Common.{◌≡◌, ℕ, zero, suc, ◌*◌, true, List, [], ◌∷◌, get_or, Option, Some, None, refl, sym, ap, ◌∙◌}
use Rattle.mls_leaf.specs.declared.node.Node.{Node}
use Rattle.mls_tree_model.specs.Term.{Term, is_perfect, leaf_of}
use Rattle.mls_tree_model.specs.Arrays.{leaf_in, in_order, before, without_last_blanks, to_nodes}
use Rattle.mls_tree_model.proofs.ArrayLaws.{length-in_order, size-perfect, term_of-in_order}
use Rattle.mls_tree_array.proofs.Numbered.{leaf_of-term_of}
use Rattle.mls_exchange.specs.State.{member_at}

before_get : (c : Option Node) (cs ds : List (Option Node)) → ((k : ℕ) → get_or ds k None ≡ get_or cs k None) → (k : ℕ) → get_or (before c ds) k None ≡ get_or (c ∷ cs) k None
before_get None cs [] same zero = refl
before_get None cs [] same (suc k) = same k
before_get None cs (d ∷ ds) same zero = refl
before_get None cs (d ∷ ds) same (suc k) = same k
before_get (Some n) cs ds same zero = refl
before_get (Some n) cs ds same (suc k) = same k

cut_get : (xs : List (Option Node)) (k : ℕ) → get_or (without_last_blanks xs) k None ≡ get_or xs k None
unfolding without_last_blanks
cut_get [] k = refl
cut_get (c ∷ cs) k = before_get c cs (without_last_blanks cs) (cut_get cs) k

pub member_is : (h : ℕ) (t : Term) (i : ℕ) → is_perfect h t ≡ true → member_at (to_nodes t) i ≡ leaf_of t i
unfolding member_at to_nodes
member_is h t i perfect =
    ap leaf_in (cut_get (in_order t) (2 * i))
    ∙ sym (leaf_of-term_of h i (in_order t) (length-in_order t ∙ size-perfect h t perfect))
    ∙ ap (λ u. leaf_of u i) (term_of-in_order h t perfect)
