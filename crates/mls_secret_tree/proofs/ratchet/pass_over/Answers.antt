use Rattle.std.proofs.Common.{arith, ◌∙◌, ap}
use Rattle.mls_secret_tree.specs.Secrets.{message_key, next_ratchet_secret}
use Rattle.mls_secret_tree.proofs.Passing.{keys_behind, secret_behind, keys_end, secret_end}
use Rattle.mls_secret_tree.proofs.ratchet.pass_over.Goals as goal

pub loop-generation-preserved : goal.loop-generation-preserved
loop-generation-preserved c =
    let g = c.loop-generation.generation in
    let key = c.message_key-key.ensures ∙ ap (λ s. message_key s g) c.new-ratchet.ensures in
    let next = c.next_ratchet_secret-passing.ensures ∙ ap (λ s. next_ratchet_secret s g) c.new-ratchet.ensures in
    record {
      keys = keys_behind c.loop-generation.kept.items c.push.new.self.items _ _ g c.args.end _ _ c.loop-generation-test.true c.in_ok-push.ensures.items key next c.loop-generation.invariant.keys;
      secret = secret_behind _ _ g c.args.end _ c.loop-generation-test.true next c.loop-generation.invariant.secret;
    }

pub returns-clause-kept : goal.returns-clause-kept
returns-clause-kept c = keys_end _ _ c.loop-generation.generation c.args.end _ (omega arith) c.loop-generation.invariant.keys

pub returns-clause-secret : goal.returns-clause-secret
returns-clause-secret c = secret_end _ c.loop-generation.generation c.args.end _ (omega arith) c.loop-generation.invariant.secret
