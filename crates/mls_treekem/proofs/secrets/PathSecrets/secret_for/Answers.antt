use Rattle.std.specs.Option.{option_copied}
use Rattle.mls_tree.specs.Tree.{term}
use Rattle.mls_treekem.proofs.Joiners.{among_all, sent_of}
use Rattle.mls_treekem.proofs.secrets.PathSecrets.secret_for.Goals as goal

pub returns-clause-answer : goal.returns-clause-answer
returns-clause-answer c =
    among_all (term c.args.tree.now) c.args.committer c.args.joiner c.in_ok-places.places.items c.deref.result.now c.in_ok-places.ensures c.deref.ensures.value c.args.self.now.secrets.items (option_copied c.secret_over.result) c.secret_over.ensures

pub returns-clause-chain : goal.returns-clause-chain
returns-clause-chain c =
    sent_of (term c.args.tree.now) c.args.committer c.args.joiner c.in_ok-places.places.items c.deref.result.now c.in_ok-places.ensures c.deref.ensures.value c.args.self.now.secrets.items (option_copied c.secret_over.result) c.secret_over.ensures
