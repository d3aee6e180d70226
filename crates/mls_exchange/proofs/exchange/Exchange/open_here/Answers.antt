use Rattle.std.proofs.Common.{sym, ap, ◌∙◌}
use Rattle.std.proofs.lemmas.Result.{err_from_is_err_and}
use Rattle.mls_secret_tree.specs.declared.secrets.MessageKey.{MessageKey}
use Rattle.mls_secret_tree.specs.SecretTree.{draft_key}
use Rattle.mls_private_message.specs.Sealing.{open_sender_data, open_content}
use Rattle.mls_exchange.specs.State.{State, member_at}
use Rattle.mls_exchange.proofs.Steps.{no_sender, no_leaf, no_key, no_content, no_data, opens}
use Rattle.mls_exchange.proofs.exchange.Exchange.open_here.Goals as goal

pub returns-in_err-sender : goal.returns-in_err-sender
returns-in_err-sender g c =
    let p = err_from_is_err_and c.from_residual.result c.from_residual.ensures.1 in
    rw (p.1, p.2) (λ memory.
    no_sender g.S.Suite.crypto c.args.self.now c.args.message _
    (ap (λ (x : State). open_sender_data g.S.Suite.crypto x.sender_data_secret c.args.message) (sym c.self.view_is) ∙ c.in_err-sender.ensures memory))

pub returns-in_default : goal.returns-in_default
returns-in_default g c =
    let i = c.in_ok-sender.sender.leaf_index in
    let sent = ap (λ (x : State). open_sender_data g.S.Suite.crypto x.sender_data_secret c.args.message) (sym c.self.view_is) ∙ c.in_ok-sender.ensures in
    let none = ap (λ (x : State). member_at x.nodes i) (sym c.self.view_is) ∙ ap (λ n. member_at n i) (sym c.deref.ensures.value) ∙ sym c.in_default.ensures in
    λ memory. no_leaf g.S.Suite.crypto c.args.self.now c.args.message c.in_ok-sender.sender sent none

pub returns-in_err-draft : goal.returns-in_err-draft
returns-in_err-draft g c =
    let i = c.in_ok-sender.sender.leaf_index in
    let k = c.in_ok-sender.sender.generation in
    let sent = ap (λ (x : State). open_sender_data g.S.Suite.crypto x.sender_data_secret c.args.message) (sym c.self.view_is) ∙ c.in_ok-sender.ensures in
    let stands = ap (λ (x : State). member_at x.nodes i) (sym c.self.view_is) ∙ ap (λ n. member_at n i) (sym c.deref.ensures.value) ∙ sym c.in-Some.ensures in
    let p = err_from_is_err_and c.from_residual-in_err-draft.result c.from_residual-in_err-draft.ensures.1 in
    rw (p.1, p.2) (λ memory.
    no_key g.S.Suite.crypto c.args.self.now c.args.message c.in_ok-sender.sender c.in-Some.leaf.now _ sent stands
    (ap (λ (x : State). draft_key x.keys i k) (sym c.self.view_is) ∙ c.in_err-draft.ensures.answer memory))

pub returns-in_err-content : goal.returns-in_err-content
returns-in_err-content g c =
    let i = c.in_ok-sender.sender.leaf_index in
    let k = c.in_ok-sender.sender.generation in
    let sent = ap (λ (x : State). open_sender_data g.S.Suite.crypto x.sender_data_secret c.args.message) (sym c.self.view_is) ∙ c.in_ok-sender.ensures in
    let stands = ap (λ (x : State). member_at x.nodes i) (sym c.self.view_is) ∙ ap (λ n. member_at n i) (sym c.deref.ensures.value) ∙ sym c.in-Some.ensures in
    let drafted = ap (λ (x : State). draft_key x.keys i k) (sym c.self.view_is) ∙ c.in_ok-draft.ensures.answer in
    let p = err_from_is_err_and c.from_residual-in_err-content.result c.from_residual-in_err-content.ensures.1 in
    rw (p.1, p.2) (λ memory.
    no_content g.S.Suite.crypto c.args.self.now c.args.message c.in_ok-sender.sender c.in-Some.leaf.now c.in_ok-draft.draft _ sent stands drafted
    (ap (λ (x : MessageKey). open_content g.S.Suite.crypto x c.in_ok-sender.sender.reuse_guard c.args.message) (sym c.key.ensures) ∙ c.in_err-content.ensures memory))

pub returns-in_err-application_data : goal.returns-in_err-application_data
returns-in_err-application_data g c =
    let i = c.in_ok-sender.sender.leaf_index in
    let k = c.in_ok-sender.sender.generation in
    let sent = ap (λ (x : State). open_sender_data g.S.Suite.crypto x.sender_data_secret c.args.message) (sym c.self.view_is) ∙ c.in_ok-sender.ensures in
    let stands = ap (λ (x : State). member_at x.nodes i) (sym c.self.view_is) ∙ ap (λ n. member_at n i) (sym c.deref.ensures.value) ∙ sym c.in-Some.ensures in
    let drafted = ap (λ (x : State). draft_key x.keys i k) (sym c.self.view_is) ∙ c.in_ok-draft.ensures.answer in
    let content =
    ap (λ (x : MessageKey). open_content g.S.Suite.crypto x c.in_ok-sender.sender.reuse_guard c.args.message) (sym c.key.ensures) ∙ c.in_ok-content.ensures in
    let p = err_from_is_err_and c.from_residual-in_err-application_data.result c.from_residual-in_err-application_data.ensures.1 in
    rw (p.1, p.2) (λ memory.
    no_data g.S.Suite.crypto c.args.self.now c.args.message c.in_ok-sender.sender c.in-Some.leaf.now c.in_ok-draft.draft c.in_ok-content.content.items _ sent
    stands drafted content (c.in_err-application_data.ensures memory))

pub returns : goal.returns
returns g c =
    let i = c.in_ok-sender.sender.leaf_index in
    let k = c.in_ok-sender.sender.generation in
    let sent = ap (λ (x : State). open_sender_data g.S.Suite.crypto x.sender_data_secret c.args.message) (sym c.self.view_is) ∙ c.in_ok-sender.ensures in
    let stands = ap (λ (x : State). member_at x.nodes i) (sym c.self.view_is) ∙ ap (λ n. member_at n i) (sym c.deref.ensures.value) ∙ sym c.in-Some.ensures in
    let drafted = ap (λ (x : State). draft_key x.keys i k) (sym c.self.view_is) ∙ c.in_ok-draft.ensures.answer in
    let content =
    ap (λ (x : MessageKey). open_content g.S.Suite.crypto x c.in_ok-sender.sender.reuse_guard c.args.message) (sym c.key.ensures) ∙ c.in_ok-content.ensures in
    opens g.S.Suite.crypto c.args.self.now c.args.message c.in_ok-sender.sender c.in-Some.leaf.now c.in_ok-draft.draft c.in_ok-content.content.items
    c.in_ok-application_data.application_data c.in_ok-identity.identity sent stands drafted content c.in_ok-application_data.ensures
    c.in_ok-identity.ensures.cases
