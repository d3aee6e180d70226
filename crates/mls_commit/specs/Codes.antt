-- The code of a change, by which proofs tell its values apart.
use Rattle.std.proofs.Common.{refl}
use Rattle.std.specs.Prelude.{Bool}
use Rattle.std.specs.Coded.{Coded, code_by, coded×, coded_bool}
use Rattle.mls_types.specs.declared.group_context.GroupContext.{GroupContext}
use Rattle.mls_tree_model.specs.Term.{Term}
use Rattle.mls_model.specs.Commit.{Edits, Change}
use Rattle.mls_commit.specs.Outcome.{Outcome}
use Rattle.mls_tree_array.specs.Codes.{coded_tree}
use Rattle.mls_public_group.specs.PublicCodes.{coded_context, coded_edits}

abbrev pub coded_change : Coded Change
coded_change =
    code_by (Edits × (Term × (GroupContext × GroupContext))) (coded× coded_edits (coded× coded_tree (coded× coded_context coded_context)))
    (λ c. (c.edits, (c.tree, (c.provisional, c.context)))) (λ x. record { edits = x.0; tree = x.1.0; provisional = x.1.1.0; context = x.1.1.1 }) (λ _. refl)

abbrev pub coded_outcome : Coded Outcome
coded_outcome = code_by (Change × Bool) (coded× coded_change coded_bool) (λ o. (o.change, o.on_own)) (λ x. record { change = x.0; on_own = x.1 }) (λ _. refl)
