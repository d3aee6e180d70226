-- Leaves that passed their checks are fit for a tree of their group.
use Rattle.std.proofs.Common.{refl, ◌∙◌}
use Rattle.std.proofs.lemmas.Bool.{and_from}
use Rattle.mls_checks.proofs.LeafLaws.{signed_anywhere, package_steps, replaced_steps}
use Rattle.mls_tree.specs.Laws.{PackageFits, ReplacementFits}

pub package_fit : PackageFits
package_fit c group k h i =
    let p = package_steps c k h in
    record {
      signed = signed_anywhere c k.leaf_node p.source group _ i 0 ∙ p.signed;
      capable = p.capable;
      fit = and_from (c.key_ok k.leaf_node.encryption_key) _ p.fit refl;
    }

pub replacement_fit : ReplacementFits
replacement_fit c group new old source i keys h fit =
    let r = replaced_steps c new old source group i h in
    record { signed = r.signed; capable = r.capable; fit = fit }
