use Rattle.std.proofs.Common.{◌≡◌, ◌∙◌, ap, subst, sym}
use Rattle.std.specs.Prelude.{IfOk}
use Rattle.mls_tree_model.proofs.FirstLaws.{hash_unasked}
use Rattle.mls_tree_model.specs.Arrays.{term_of}
use Rattle.mls_cli_place.specs.Parents.{first_wrong}
use Rattle.mls_cli_place.proofs.parents.first_in_tree.Goals as goal

pub has_good_lists-requires : goal.has_good_lists-requires
has_good_lists-requires c = ap (λ t. t.first) c.of-in-Hashes.ensures

pub returns-in-Lists : goal.returns-in-Lists
returns-in-Lists c =
    (rw c.of.ensures at c.first_wrong_list.ensures) ∙ ap (λ r. first_wrong r (term_of c.args.height c.args.cells.nodes)) (sym c.in-Lists.is)

pub returns-then-not-has_good_lists : goal.returns-then-not-has_good_lists
returns-then-not-has_good_lists c =
    sym (ap (λ r. first_wrong r (term_of c.args.height c.args.cells.nodes)) c.in-Hashes.is
    ∙ hash_unasked (term_of c.args.height c.args.cells.nodes) (sym (rw c.of-in-Hashes.ensures at c.has_good_lists.ensures.right) ∙ c.if-not-has_good_lists.true))

pub wrong_hash-requires-clause-lists : goal.wrong_hash-requires-clause-lists
wrong_hash-requires-clause-lists c = sym (rw c.of-in-Hashes.ensures at c.has_good_lists.ensures.right) ∙ c.if-not-has_good_lists.false

pub returns-else-not-has_good_lists : goal.returns-else-not-has_good_lists
returns-else-not-has_good_lists c =
    subst (λ r. IfOk c.wrong_hash.result (λ found. found ≡ first_wrong r (term_of c.args.height c.args.cells.nodes))) (sym c.in-Hashes.is) c.wrong_hash.ensures
