use Rattle.std.proofs.lemmas.Result.{err_from_is_err_and}
use Rattle.std.proofs.Common.{Ok, Err, ap, sym, ◌∙◌, map}
use Rattle.mls_types.specs.Message.{mls_message}
use Rattle.mls_types.specs.declared.message.MlsMessage.TheVariants as message
use Rattle.mls_model.specs.Welcome.{entries_for}
use Rattle.mls_treekem_model.specs.Seeds.{seal_seed}
use Rattle.mls_welcome.specs.Joiners.{package_and_leaf_of}
use Rattle.mls_welcome.specs.Faults.{number_of}
use Rattle.mls_public_group.specs.MessageLimit.{limited_text}
use Rattle.mls_welcome.proofs.Fitting.{message_fits}
use Rattle.mls_welcome.proofs.Messages.{message_is}
use Rattle.mls_welcome.proofs.welcome_message.message_with.Goals as goal

pub returns-in_err-entries : goal.returns-in_err-entries
returns-in_err-entries g c =
    λ secrets all.
    let p = err_from_is_err_and c.from_residual.result c.from_residual.ensures.1 in
    rw (p.1, p.2) (λ other.
    message_is g.S.Suite.crypto c.args.encrypted_info.items secrets (seal_seed c.args.sealer.now.seed.now) c.args.first_seal (map package_and_leaf_of c.args.joiners.now)
    (Err (number_of c.in_err-entries.field-0.0)) (ap (λ e. entries_for g.S.Suite.crypto e secrets (seal_seed c.args.sealer.now.seed.now) c.args.first_seal (map package_and_leaf_of c.args.joiners.now)) (sym c.deref.ensures.value) ∙ c.in_err-entries.ensures secrets all other))

pub spell_within_limit-requires : goal.spell_within_limit-requires
spell_within_limit-requires g c = message_fits c.welcome_of-welcome.result c.welcome_of-welcome.ensures.ranged

pub returns : goal.returns
returns g c =
    λ secrets all.
    rw (message_is g.S.Suite.crypto c.args.encrypted_info.items secrets (seal_seed c.args.sealer.now.seed.now) c.args.first_seal (map package_and_leaf_of c.args.joiners.now) (Ok c.in_ok-entries.entries.items) (ap (λ e. entries_for g.S.Suite.crypto e secrets (seal_seed c.args.sealer.now.seed.now) c.args.first_seal (map package_and_leaf_of c.args.joiners.now)) (sym c.deref.ensures.value) ∙ c.in_ok-entries.ensures secrets all)
    ∙ ap (λ w. limited_text (mls_message.spell (message.Welcome w))) (sym c.welcome_of-welcome.ensures.value))
    c.spell_within_limit.ensures
