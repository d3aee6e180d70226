use Rattle.std.proofs.Common.{refl, ap, arith, ℕ, List, Result}
use Rattle.std.proofs.lemmas.Result.{err_from_is_err_and}
use Rattle.mls_wire.specs.Reading.{◌>>=◌}
use Rattle.mls_wire.specs.Combine.{case, others}
use Rattle.mls_wire.specs.CombineReads.{seen_read}
use Rattle.mls_leaf.specs.KeyPackage.{key_package}
use Rattle.mls_types.specs.GroupInfo.{group_info}
use Rattle.mls_types.specs.Welcome.{welcome}
use Rattle.mls_leaf.proofs.Cases.{read_other}
use Rattle.mls_types.specs.Message.{mls_message, Bodies, make_message}
use Rattle.mls_types.specs.PublicMessage.{public_message}
use Rattle.mls_types.specs.declared.message.MlsMessage.TheVariants as sent
use Rattle.mls_view.proofs.message.read_message.Goals as goal

pub returns-in_err-key_package-in-5 : goal.returns-in_err-key_package-in-5
unfolding mls_message
returns-in_err-key_package-in-5 c =
    let p = err_from_is_err_and c.from_residual-in_err-key_package-in-5.result c.from_residual-in_err-key_package-in-5.ensures.1 in
    rw (p.1, p.2, c.in_ok-pass_mark.ensures, c.in_ok-u16.ensures, c.in-5.is, c.in_err-key_package-in-5.ensures) refl

pub returns-in_ok-message-in-1 : goal.returns-in_ok-message-in-1
unfolding mls_message
returns-in_ok-message-in-1 c =
    let r = c.in_ok-message-in-1.ensures in
    record { value = sent.PublicMessage r.value; is_read = rw (c.in_ok-pass_mark.ensures, c.in_ok-u16.ensures, c.in-1.is, r.is_read) refl; shows = r.shows }

pub returns-in_ok-welcome-in-3 : goal.returns-in_ok-welcome-in-3
unfolding mls_message
returns-in_ok-welcome-in-3 c =
    let r = c.in_ok-welcome-in-3.ensures in
    record { value = sent.Welcome r.value; is_read = rw (c.in_ok-pass_mark.ensures, c.in_ok-u16.ensures, c.in-3.is, r.is_read) refl; shows = r.shows }

pub returns-in_ok-group_info-in-4 : goal.returns-in_ok-group_info-in-4
unfolding mls_message
returns-in_ok-group_info-in-4 c =
    let r = c.in_ok-group_info-in-4.ensures in
    record { value = sent.GroupInfo r.value; is_read = rw (c.in_ok-pass_mark.ensures, c.in_ok-u16.ensures, c.in-4.is, r.is_read) refl; shows = r.spells }

pub returns-in_ok-key_package-in-5 : goal.returns-in_ok-key_package-in-5
unfolding mls_message
returns-in_ok-key_package-in-5 c =
    let r = c.in_ok-key_package-in-5.ensures in
    record { value = sent.KeyPackage r.value; is_read = rw (c.in_ok-pass_mark.ensures, c.in_ok-u16.ensures, c.in-5.is, r.is_read) refl; shows = r.spells }

pub returns-in_default : goal.returns-in_default
unfolding mls_message
returns-in_default c =
    rw (c.in_ok-pass_mark.ensures, c.in_ok-u16.ensures) (ap (λ (x : Result (Bodies × List ℕ) ℕ). x >>= seen_read make_message)
    (read_other 1 c.in_ok-u16.field-0 public_message (case 3 welcome (case 4 group_info (case 5 key_package (others 7)))) c.u16.new.self 7 (λ e. absurd (omega arith))
    (read_other 3 c.in_ok-u16.field-0 welcome (case 4 group_info (case 5 key_package (others 7))) c.u16.new.self 7 (λ e. absurd (omega arith))
    (read_other 4 c.in_ok-u16.field-0 group_info (case 5 key_package (others 7)) c.u16.new.self 7 (λ e. absurd (omega arith))
    (read_other 5 c.in_ok-u16.field-0 key_package (others 7) c.u16.new.self 7 (λ e. absurd (omega arith)) refl)))))
