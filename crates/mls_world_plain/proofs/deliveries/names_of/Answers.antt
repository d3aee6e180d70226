use Rattle.std.proofs.Common.{◌∙◌, sym}
use Rattle.mls_model.specs.Journal.{list_in}
use Rattle.mls_member.proofs.ContentLaws.{lent_all}
use Rattle.mls_world_plain.proofs.Readings.{names_of_list, no_names_shown, no_names_lent, none_kept}
use Rattle.mls_world_plain.proofs.deliveries.names_of.Goals as goal

pub returns-then-keeps_none : goal.returns-then-keeps_none
returns-then-keeps_none g c = λ bytes lends.
    c.new.ensures.items ∙ none_kept c.args.member.now.kept (list_in bytes) (sym c.keeps_none.ensures ∙ c.if-keeps_none.true)

pub returns-in_default : goal.returns-in_default
returns-in_default g c = λ bytes lends.
    c.new-in_default.ensures.items ∙ no_names_lent c.args.member.now.kept bytes c.args.message.now c.in_default.not-Ok lends

pub returns-in-Some : goal.returns-in-Some
returns-in-Some g c = λ bytes lends.
    names_of_list (λ v. v.items) c.args.member.now.kept bytes _ _ c.names_listed.result
    (lent_all bytes c.args.message.now _ c.in-Ok.is lends) c.in-Some.ensures c.names_listed.ensures

pub returns-in-None : goal.returns-in-None
returns-in-None g c = λ bytes lends.
    c.new-in-None.ensures.items ∙ no_names_shown c.args.member.now.kept bytes _
    (lent_all bytes c.args.message.now _ c.in-Ok.is lends) c.in-None.ensures
