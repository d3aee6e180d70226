use Rattle.std.proofs.Common.{◌≡◌, ap, ◌∙◌, sym, subst}
use Rattle.mls_tree_array.specs.KeptHashes.{hashes_of}
use Rattle.mls_tree_array.proofs.SubtreeLaws.{as_subtree}
use Rattle.mls_tree.specs.Tree.{Tree, term}
use Rattle.mls_tree.proofs.tree.PublicTree.hashed_subtree.Goals as goal

pub of-requires-clause-hashed : goal.of-requires-clause-hashed
of-requires-clause-hashed c = subst (λ (t : Tree). t.hashes ≡ hashes_of 0 (term t)) (sym c.self.view_is) c.requires

pub returns : goal.returns
returns c = c.of.ensures ∙ ap (λ t. as_subtree 0 (term t)) c.self.view_is
