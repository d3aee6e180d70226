use Rattle.std.proofs.Common.{◌≡◌, Ok, sym, ap, ◌∙◌}
use Rattle.mls_schedule.specs.Epoch.{encryption_secret}
use Rattle.mls_tree_model.specs.Term.{width}
use Rattle.mls_model.specs.PublicState.{PublicState}
use Rattle.mls_conversation.specs.Conversation.{state_with, conversation_of}
use Rattle.mls_conversation.proofs.Made.{was_gone, no_tree, one_refusal, made_with, made_of, not_refused}
use Rattle.mls_conversation.proofs.conversation.Conversation.of.Goals as goal

pub returns-then-is_gone-clause-answer : goal.returns-then-is_gone-clause-answer
returns-then-is_gone-clause-answer g c = λ _. was_gone c.args.member.now (sym c.is_gone.ensures ∙ c.if-is_gone.true)

pub returns-then-is_gone-clause-outright : goal.returns-then-is_gone-clause-outright
returns-then-is_gone-clause-outright g c =
    one_refusal c.args.member.now 40 (was_gone c.args.member.now (sym c.is_gone.ensures ∙ c.if-is_gone.true))

pub returns-in_default-clause-answer : goal.returns-in_default-clause-answer
returns-in_default-clause-answer g c =
    let leaves : c.leaf_count-leaves.result ≡ width c.args.member.now.public.tree =
    c.leaf_count-leaves.ensures ∙ ap width (c.tree.ensures ∙ ap (λ (p : PublicState). p.tree) c.group.ensures) in
    λ _. no_tree c.args.member.now c.encryption_secret.result.now c.leaf_count-leaves.result (sym c.is_gone.ensures ∙ c.if-is_gone.false) leaves c.in_default.ensures

pub returns-in_default-clause-outright : goal.returns-in_default-clause-outright
returns-in_default-clause-outright g c =
    let leaves : c.leaf_count-leaves.result ≡ width c.args.member.now.public.tree =
    c.leaf_count-leaves.ensures ∙ ap width (c.tree.ensures ∙ ap (λ (p : PublicState). p.tree) c.group.ensures) in
    one_refusal c.args.member.now 20
    (no_tree c.args.member.now c.encryption_secret.result.now c.leaf_count-leaves.result (sym c.is_gone.ensures ∙ c.if-is_gone.false) leaves c.in_default.ensures)

pub returns-in_err-parts-clause-outright : goal.returns-in_err-parts-clause-outright
returns-in_err-parts-clause-outright g c =
    let leaves : c.leaf_count-leaves.result ≡ width c.args.member.now.public.tree =
    c.leaf_count-leaves.ensures ∙ ap width (c.tree.ensures ∙ ap (λ (p : PublicState). p.tree) c.group.ensures) in
    let made : conversation_of c.args.member.now ≡ Ok (state_with c.args.member.now c.in-Some.keys) =
    made_with c.args.member.now c.encryption_secret.result.now c.leaf_count-leaves.result c.in-Some.keys (sym c.is_gone.ensures ∙ c.if-is_gone.false) leaves
    (c.encryption_secret.ensures ∙ ap encryption_secret c.secrets.ensures) c.in-Some.ensures in
    λ n e. absurd (not_refused c.args.member.now (state_with c.args.member.now c.in-Some.keys) made n e)

pub returns-clause-answer : goal.returns-clause-answer
returns-clause-answer g c =
    let leaves : c.leaf_count-leaves.result ≡ width c.args.member.now.public.tree =
    c.leaf_count-leaves.ensures ∙ ap width (c.tree.ensures ∙ ap (λ (p : PublicState). p.tree) c.group.ensures) in
    let made : conversation_of c.args.member.now ≡ Ok (state_with c.args.member.now c.in-Some.keys) =
    made_with c.args.member.now c.encryption_secret.result.now c.leaf_count-leaves.result c.in-Some.keys (sym c.is_gone.ensures ∙ c.if-is_gone.false) leaves
    (c.encryption_secret.ensures ∙ ap encryption_secret c.secrets.ensures) c.in-Some.ensures in
    made_of c.args.member.now c.in-Some.keys _ _ made c.in_ok-parts.ensures c.new-2.ensures

pub returns-clause-outright : goal.returns-clause-outright
returns-clause-outright g c =
    let leaves : c.leaf_count-leaves.result ≡ width c.args.member.now.public.tree =
    c.leaf_count-leaves.ensures ∙ ap width (c.tree.ensures ∙ ap (λ (p : PublicState). p.tree) c.group.ensures) in
    let made : conversation_of c.args.member.now ≡ Ok (state_with c.args.member.now c.in-Some.keys) =
    made_with c.args.member.now c.encryption_secret.result.now c.leaf_count-leaves.result c.in-Some.keys (sym c.is_gone.ensures ∙ c.if-is_gone.false) leaves
    (c.encryption_secret.ensures ∙ ap encryption_secret c.secrets.ensures) c.in-Some.ensures in
    not_refused c.args.member.now (state_with c.args.member.now c.in-Some.keys) made
