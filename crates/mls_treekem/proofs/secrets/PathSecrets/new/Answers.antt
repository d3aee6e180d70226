use Rattle.std.proofs.Common.{◌≡◌, ap, sym, ◌∙◌}
use Rattle.mls_treekem_model.specs.Chain.{next_secret, node_key, node_public}
use Rattle.mls_treekem.proofs.Chains.{secrets_none, chain_none, pairs_start, secrets_pushed, pairs_more, chain_pushed}
use Rattle.mls_treekem.proofs.secrets.PathSecrets.new.Goals as goal

pub loop-init : goal.loop-init
loop-init g c =
    record {
      secrets = c.in_ok-secrets.ensures.items ∙ sym (secrets_none c.args.start.now);
      pairs = pairs_start g.S.Suite.crypto c.args.start.now c.in_ok-pairs.pairs.items c.in_ok-pairs.ensures.items;
      secret = sym (chain_none c.args.start.now);
    }

pub loop-preserved : goal.loop-preserved
loop-preserved g c =
    let start = c.args.start.now in
    let k = c.loop.counter in
    let inv = c.loop.invariant in
    let pair = c.in_ok-node_pair.ensures in
    let key : c.new-key.result ≡ c.loop.secret = c.new-key.ensures in
    let private = pair.private ∙ ap (node_key g.S.Suite.crypto) key in
    let public = pair.public ∙ ap (node_public g.S.Suite.crypto) key in
    record {
      secrets = secrets_pushed start k c.loop.secret c.loop.secrets.items c.push-in-loop.new.self.items inv.secret inv.secrets c.in_ok-push-2.ensures.items;
      pairs = pairs_more g.S.Suite.crypto start k c.loop.secret c.loop.pairs.items c.push.new.self.items c.in_ok-node_pair.field-0 inv.secret inv.pairs private public c.in_ok-push.ensures.items;
      secret = chain_pushed start k c.loop.secret c.next_secret-next.result inv.secret (c.next_secret-next.ensures ∙ ap next_secret key);
    }
