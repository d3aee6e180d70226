use Rattle.std.proofs.Common.{◌≡◌, ℕ, List, Result, subst}
use Rattle.std.proofs.lemmas.Result.{err_from_is_err_and}
use Rattle.mls_private_message.specs.Sealing.{seal_sender_data, seal_content}
use Rattle.mls_exchange.specs.State.{State}
use Rattle.mls_exchange.specs.Parts.{state_of}
use Rattle.mls_exchange.specs.Calls.{GivesBytes}
use Rattle.mls_exchange.proofs.Refused.{aad_refused, parts_of, message_is, under_is, not_encoded}
use Rattle.mls_exchange.proofs.exchange.Exchange.message.Goals as goal

pub returns-in_err-ciphertext : goal.returns-in_err-ciphertext
returns-in_err-ciphertext g c =
    let p = err_from_is_err_and c.from_residual.result c.from_residual.ensures.1 in
    rw (← c.self.view_is, p.1, p.2) (λ memory.
    aad_refused g.S.Suite.crypto (state_of c.self.inside.parts) c.args.key.now c.args.sender.now c.args.plain.now.authenticated_data.now c.args.content.now c.in_err-ciphertext.field-0.0
    (rw c.as_slice-group_id.ensures at c.in_err-ciphertext.ensures) memory)

pub returns-in_err-encode : goal.returns-in_err-encode
returns-in_err-encode g c =
    let p = err_from_is_err_and c.from_residual-in_err-encode.result c.from_residual-in_err-encode.ensures.1 in
    let s : State = state_of c.self.inside.parts in
    let sealed : c.from_vec.result ≡ seal_sender_data g.S.Suite.crypto s.sender_data_secret s.group_id s.epoch c.from_vec-2.result c.args.sender.now =
    cc (c.from_vec.ensures, c.in_ok-encrypted_sender_data.ensures.1, c.deref.ensures.value, c.from_vec-2.ensures, c.as_slice-group_id.ensures) in
    let text : c.from_vec-2.result ≡ seal_content g.S.Suite.crypto c.args.key.now c.args.sender.now.reuse_guard s.group_id s.epoch c.args.plain.now.authenticated_data.now c.args.content.now =
    cc (c.from_vec-2.ensures, c.in_ok-ciphertext.ensures.1, c.as_slice-group_id.ensures) in
    rw (← c.self.view_is, p.1, p.2) (λ memory.
    not_encoded g.S.Suite.crypto s c.args.key.now c.args.sender.now c.args.plain.now.authenticated_data.now c.args.content.now
    (parts_of s c.in_ok-clone.field-0 c.in_ok-from_slice.field-0 c.from_vec.result c.from_vec-2.result) c.in_err-encode.field-0.0 c.know_epoch.ensures
    (message_is g.S.Suite.crypto s c.args.key.now c.args.sender.now c.args.plain.now.authenticated_data.now c.args.content.now _ _ _ _ c.in_ok-clone.ensures.cases c.in_ok-from_slice.ensures.bytes sealed text)
    c.in_err-encode.ensures memory)

pub returns : goal.returns
returns g c =
    let s : State = state_of c.self.inside.parts in
    let sealed : c.from_vec.result ≡ seal_sender_data g.S.Suite.crypto s.sender_data_secret s.group_id s.epoch c.from_vec-2.result c.args.sender.now =
    cc (c.from_vec.ensures, c.in_ok-encrypted_sender_data.ensures.1, c.deref.ensures.value, c.from_vec-2.ensures, c.as_slice-group_id.ensures) in
    let text : c.from_vec-2.result ≡ seal_content g.S.Suite.crypto c.args.key.now c.args.sender.now.reuse_guard s.group_id s.epoch c.args.plain.now.authenticated_data.now c.args.content.now =
    cc (c.from_vec-2.ensures, c.in_ok-ciphertext.ensures.1, c.as_slice-group_id.ensures) in
    let same = under_is g.S.Suite.crypto s c.args.key.now c.args.sender.now c.args.plain.now.authenticated_data.now c.args.content.now
    (parts_of s c.in_ok-clone.field-0 c.in_ok-from_slice.field-0 c.from_vec.result c.from_vec-2.result) c.in_ok-encode.field-0.items
    (message_is g.S.Suite.crypto s c.args.key.now c.args.sender.now c.args.plain.now.authenticated_data.now c.args.content.now _ _ _ _ c.in_ok-clone.ensures.cases c.in_ok-from_slice.ensures.bytes sealed text)
    c.in_ok-encode.ensures.spelled in
    rw (← c.self.view_is) (subst (λ (r : Result (List ℕ) ℕ). GivesBytes r c.within_limit.result) same c.within_limit.ensures)
