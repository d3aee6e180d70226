use Rattle.std.proofs.lemmas.Result.{err_from_is_err_and}
use Rattle.std.proofs.Common.{ap, subst, ◌∙◌, map, []}
use Rattle.mls_treekem_model.specs.Seeds.{seal_seed}
use Rattle.mls_model.specs.Welcome.{unsigned_info, signed_info}
use Rattle.mls_welcome.specs.Joiners.{package_and_leaf_of}
use Rattle.mls_welcome.specs.Faults.{number_of, GivesBytes}
use Rattle.mls_welcome.specs.WelcomeMessage.{message_with}
use Rattle.mls_welcome.proofs.Messages.{info_refused, info_done}
use Rattle.mls_welcome.proofs.welcome_message.welcome.Goals as goal

pub returns-in_err-info : goal.returns-in_err-info
returns-in_err-info g c =
    λ secrets all.
    let p = err_from_is_err_and c.from_residual.result c.from_residual.ensures.1 in
    rw (p.1, p.2) (λ other.
    info_refused g.S.Suite.crypto (signed_info g.S.Suite.crypto c.args.signing.now (unsigned_info c.args.group.now c.args.confirmation_tag.now c.args.signer)) c.args.joiner_secret.now secrets (seal_seed c.args.seed.now) c.args.first_seal (map package_and_leaf_of c.args.joiners.now)
    (number_of c.in_err-info.field-0.0) (c.in_err-info.ensures other))

pub returns : goal.returns
returns g c =
    λ secrets all.
    rw (info_done g.S.Suite.crypto (signed_info g.S.Suite.crypto c.args.signing.now (unsigned_info c.args.group.now c.args.confirmation_tag.now c.args.signer)) c.args.joiner_secret.now secrets (seal_seed c.args.seed.now) c.args.first_seal (map package_and_leaf_of c.args.joiners.now)
    c.in_ok-info.info.items c.in_ok-encrypted_info.encrypted_info.items c.welcome_key-key.result.key c.welcome_key-key.result.nonce c.in_ok-info.ensures c.welcome_key-key.ensures.key c.welcome_key-key.ensures.nonce
    (c.in_ok-encrypted_info.ensures ∙ ap (g.S.Suite.crypto.aead_seal c.welcome_key-key.result.key c.welcome_key-key.result.nonce []) c.deref.ensures.value))
    (subst (λ seed. GivesBytes (message_with g.S.Suite.crypto c.in_ok-encrypted_info.encrypted_info.items secrets (seal_seed seed) c.args.first_seal (map package_and_leaf_of c.args.joiners.now)) c.message_with.result) c.new-seal_key.ensures (c.message_with.ensures secrets all))
