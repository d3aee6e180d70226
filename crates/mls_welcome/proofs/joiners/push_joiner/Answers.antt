use Rattle.std.proofs.Common.{sym, ap, ◌∙◌, arith}
use Rattle.std.proofs.lemmas.Grind.{common_steps}
use Rattle.mls_model.specs.PublicState.{Used}
use Rattle.mls_welcome.proofs.Adds.{places_kept, places_full, places_more}
use Rattle.mls_welcome.proofs.joiners.push_joiner.Goals as goal

pub returns-in_default : goal.returns-in_default
returns-in_default c = record { places = λ us. places_kept c.args.used.now us _ c.args.leaves.now (λ k h. c.in_default.not-Add k (ap (λ (u : Used). u.proposal) c.used.view_is ∙ h)); sent = λ h. h }

pub returns-in_default-split_first-clause-places : goal.returns-in_default-split_first-clause-places
returns-in_default-split_first-clause-places c = λ us. places_full _ _ _ c.args.leaves.now (grind (arith, common_steps))

pub returns-clause-places : goal.returns-clause-places
returns-clause-places c = λ us. places_more c.args.used.now us c.in-Add.key_package c.in-Some.leaf.now _ _ c.args.leaves.now c.in-Some.rest.now (sym (ap (λ (u : Used). u.proposal) c.used.view_is) ∙ c.in-Add.is) (grind (arith, common_steps)) (grind (arith, common_steps))
