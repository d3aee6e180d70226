use Rattle.std.proofs.Common.{subst}
use Rattle.std.proofs.lemmas.Result.{err_from_is_err_and}
use Rattle.mls_wire.specs.Format.{IsBytes}
use Rattle.mls_view.proofs.PublicLaws.{fault_of_content, fault_of_auth, fault_of_tag, message_of, public_is_read, public_shown}
use Rattle.mls_view.proofs.public_message.read_public_message.Goals as goal

pub returns-in_err-content : goal.returns-in_err-content
returns-in_err-content c =
    let p = err_from_is_err_and c.from_residual.result c.from_residual.ensures.1 in
    rw (p.1, p.2) (fault_of_content c.args.reader.now _ c.in_err-content.ensures)

pub returns-in_err-auth : goal.returns-in_err-auth
returns-in_err-auth c =
    let r = c.in_ok-content.ensures in
    let p = err_from_is_err_and c.from_residual-in_err-auth.result c.from_residual-in_err-auth.ensures.1 in
    rw (p.1, p.2) (fault_of_auth r.value c.args.reader.now c.read_framed_content.new.reader _ r.is_read (c.in_err-auth.ensures r.value.content r.shows.content))

pub returns-in_err-membership_tag : goal.returns-in_err-membership_tag
returns-in_err-membership_tag c =
    let r = c.in_ok-content.ensures in
    let a = c.in_ok-auth.ensures r.value.content r.shows.content in
    let p = err_from_is_err_and c.from_residual-in_err-membership_tag.result c.from_residual-in_err-membership_tag.ensures.1 in
    rw (p.1, p.2) (fault_of_tag r.value a.value c.args.reader.now c.read_framed_content.new.reader c.read_auth_data.new.reader _ r.is_read a.is_read c.in_err-membership_tag.ensures.0)

pub of-whole-requires : goal.of-whole-requires
of-whole-requires c =
    let r = c.in_ok-content.ensures in
    let a = c.in_ok-auth.ensures r.value.content r.shows.content in
    let fits : IsBytes c.args.reader.now = subst IsBytes c.rest-before.ensures c.lend_front-framed_content.ensures.bytes in
    let tag = c.in_ok-membership_tag.membership_tag.now in
    let reads = public_is_read r.value a.value tag c.args.reader.now c.read_framed_content.new.reader c.read_auth_data.new.reader c.opaque.new.self fits r.is_read a.is_read c.in_ok-membership_tag.ensures in
    (message_of r.value a.value tag, rw (c.rest-before.ensures, c.rest.ensures) reads.is_read)

pub returns : goal.returns
returns c =
    let r = c.in_ok-content.ensures in
    let a = c.in_ok-auth.ensures r.value.content r.shows.content in
    let fits : IsBytes c.args.reader.now = subst IsBytes c.rest-before.ensures c.lend_front-framed_content.ensures.bytes in
    public_shown c.in_ok-content.content c.in_ok-auth.auth c.in_ok-membership_tag.membership_tag c.lend_front-framed_content.result c.lend_front-auth_data.result c.of-whole.result c.args.reader.now c.read_framed_content.new.reader c.read_auth_data.new.reader c.opaque.new.self
    fits r a c.in_ok-membership_tag.ensures
    (λ text e. c.lend_front-framed_content.ensures.front text (rw (c.rest-before.ensures, c.rest-middle.ensures) e))
    (λ text e. c.lend_front-auth_data.ensures.front text (rw (c.rest-middle.ensures, c.rest-behind.ensures) e))
    (λ v e. c.of-whole.ensures v (rw (c.rest-before.ensures, c.rest.ensures) e))
