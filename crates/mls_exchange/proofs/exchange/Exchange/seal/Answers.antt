use Rattle.std.proofs.Common.{ℕ, List, Result, Ok, refl, sym, ap, ◌∙◌}
use Rattle.std.proofs.lemmas.Result.{err_from_is_err_and}
use Rattle.mls_secret_tree.specs.SecretTree.{draft_key}
use Rattle.mls_exchange.specs.State.{State}
use Rattle.mls_exchange.proofs.Steps.{not_sealed, without_key, without_content, without_message, seals, under_same, after_keep}
use Rattle.mls_exchange.proofs.exchange.Exchange.seal.Goals as goal

pub returns-in_err-generation-clause-answer : goal.returns-in_err-generation-clause-answer
returns-in_err-generation-clause-answer g c =
    let p = err_from_is_err_and c.from_residual.result c.from_residual.ensures.1 in
    rw (p.1, p.2) (
      refl,
      λ memory. not_sealed g.S.Suite.crypto c.args.self.now c.args.application_data.now c.args.authenticated_data.now c.args.padding c.args.seed.now _ c.in_err-generation.ensures,
    )

pub returns-in_err-draft-clause-answer : goal.returns-in_err-draft-clause-answer
returns-in_err-draft-clause-answer g c =
    let k = c.in_ok-generation.generation in
    let p = err_from_is_err_and c.from_residual-in_err-draft.result c.from_residual-in_err-draft.ensures.1 in
    rw (p.1, p.2) (
      refl,
      λ memory. without_key g.S.Suite.crypto c.args.self.now c.args.application_data.now c.args.authenticated_data.now c.args.padding c.args.seed.now k _ c.in_ok-generation.ensures
          (ap (λ (x : State). draft_key x.keys x.leaf k) (sym c.self.view_is) ∙ c.in_err-draft.ensures.answer memory),
    )

pub returns-in_err-content-clause-answer : goal.returns-in_err-content-clause-answer
returns-in_err-content-clause-answer g c =
    let k = c.in_ok-generation.generation in
    let drafted = ap (λ (x : State). draft_key x.keys x.leaf k) (sym c.self.view_is) ∙ c.in_ok-draft.ensures.answer in
    let p = err_from_is_err_and c.from_residual-in_err-content.result c.from_residual-in_err-content.ensures.1 in
    rw (p.1, p.2) (
      refl,
      λ memory. without_content g.S.Suite.crypto c.args.self.now c.args.application_data.now c.args.authenticated_data.now c.args.padding c.args.seed.now k c.in_ok-draft.draft _
          c.in_ok-generation.ensures drafted (c.in_err-content.ensures memory),
    )

pub returns-in_err-message-clause-answer : goal.returns-in_err-message-clause-answer
returns-in_err-message-clause-answer g c =
    let k = c.in_ok-generation.generation in
    let drafted = ap (λ (x : State). draft_key x.keys x.leaf k) (sym c.self.view_is) ∙ c.in_ok-draft.ensures.answer in
    let same =
    under_same g.S.Suite.crypto c.args.self.now c.key.result.now c.in_ok-draft.draft.key c.self.inside.parts.leaf k c.reuse_guard.result c.args.seed.now c.args.authenticated_data.now
    c.deref.result.now c.in_ok-content.content.items c.key.ensures (ap (λ (x : State). x.leaf) c.self.view_is) c.reuse_guard.ensures c.deref.ensures.value in
    let p = err_from_is_err_and c.from_residual-in_err-message.result c.from_residual-in_err-message.ensures.1 in
    rw (p.1, p.2) (
      refl,
      λ memory. without_message g.S.Suite.crypto c.args.self.now c.args.application_data.now c.args.authenticated_data.now c.args.padding c.args.seed.now k c.in_ok-draft.draft
          c.in_ok-content.content.items _ c.in_ok-generation.ensures drafted c.in_ok-content.ensures (sym same ∙ c.in_err-message.ensures memory),
    )

pub returns-clause-answer : goal.returns-clause-answer
returns-clause-answer g c =
    let k = c.in_ok-generation.generation in
    let drafted = ap (λ (x : State). draft_key x.keys x.leaf k) (sym c.self.view_is) ∙ c.in_ok-draft.ensures.answer in
    let same =
    under_same g.S.Suite.crypto c.args.self.now c.key.result.now c.in_ok-draft.draft.key c.self.inside.parts.leaf k c.reuse_guard.result c.args.seed.now c.args.authenticated_data.now
    c.deref.result.now c.in_ok-content.content.items c.key.ensures (ap (λ (x : State). x.leaf) c.self.view_is) c.reuse_guard.ensures c.deref.ensures.value in
    let after = after_keep c.args.self.now c.in_ok-draft.draft c.self.inside.parts c.keep.new.self c.self.view_is c.keep.ensures in
    seals g.S.Suite.crypto c.args.self.now c.args.application_data.now c.args.authenticated_data.now c.args.padding c.args.seed.now k c.in_ok-draft.draft c.in_ok-content.content.items
    c.in_ok-message.message.items c.in_ok-generation.ensures drafted c.in_ok-content.ensures (sym same ∙ c.in_ok-message.ensures)
    ∙ ap (λ (x : State). let ok : List ℕ × State → Result (List ℕ × State) ℕ = λ z. Ok z in ok (c.in_ok-message.message.items, x)) after
