use Rattle.std.proofs.Common.{[], ◌∷◌, ◌++◌, sym, ap, ◌∙◌, subst, arith}
use Rattle.mls_leaf.specs.Reference.{key_package_reference}
use Rattle.mls_model.specs.PublicState.{Used}
use Rattle.mls_public_group.specs.Short.{IsProposalBelow}
use Rattle.mls_public_group.proofs.ShortLaws.{add_below}
use Rattle.mls_public_group.proofs.Folding.{reference_one, reference_same}
use Rattle.mls_public_group.proofs.references.push_reference.Goals as goal

pub spelling-requires : goal.spelling-requires
spelling-requires c = (add_below 268435456 c.in-Add.offered (subst (IsProposalBelow 268435456) (sym (ap (λ (w : Used). w.proposal) c.used.view_is) ∙ c.in-Add.is) c.requires)).fits

pub key_package_reference-requires : goal.key_package_reference-requires
key_package_reference-requires c =
    let short = add_below 268435456 c.in-Add.offered (subst (IsProposalBelow 268435456) (sym (ap (λ (w : Used). w.proposal) c.used.view_is) ∙ c.in-Add.is) c.requires) in
    rw (c.deref.ensures.value, c.in_ok-bytes-in-Add.ensures) (omega (arith, short.below))

pub returns-in_ok-push-in-Add : goal.returns-in_ok-push-in-Add
returns-in_ok-push-in-Add c =
    reference_one c.args.used.now _ c.used.view_is c.args.references.now.items _ c.in-Add.offered c.in-Add.is
    (c.in_ok-push-in-Add.ensures.items ∙ ap (λ r. c.args.references.now.items ++ r ∷ []) (c.key_package_reference.ensures ∙ ap key_package_reference (c.deref.ensures.value ∙ c.in_ok-bytes-in-Add.ensures)))

pub returns-in_default : goal.returns-in_default
returns-in_default c = reference_same c.args.used.now _ c.used.view_is c.args.references.now.items c.in_default.not-Add
