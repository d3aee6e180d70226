-- Codes of the states of groups.
use Rattle.std.specs.Prelude.{ℕ, List}
use Rattle.std.proofs.Common.{refl}
use Rattle.std.specs.Coded.{Coded, code_by, coded×, coded_ℕ}
use Rattle.mls_types.specs.declared.group_context.GroupContext.{GroupContext}
use Rattle.mls_tree_model.specs.Term.{Term}
use Rattle.mls_model.specs.PublicState.{PublicState}
use Rattle.mls_model.specs.Commit.{Edits}
use Rattle.mls_leaf.specs.declared.extension.Extension.{Extension}
use Rattle.mls_tree_array.specs.Codes.{coded_tree}
use Rattle.mls_public_group.specs.Codes.{coded_bytes, coded_extensions}

abbrev pub coded_context : Coded GroupContext
coded_context =
    code_by (ℕ × (List ℕ × (ℕ × (List ℕ × (List ℕ × List Extension))))) (coded× coded_ℕ (coded× coded_bytes (coded× coded_ℕ (coded× coded_bytes (coded× coded_bytes coded_extensions)))))
    (λ g. (g.cipher_suite, (g.group_id, (g.epoch, (g.tree_hash, (g.confirmed_transcript_hash, g.extensions))))))
    (λ p. record { cipher_suite = p.0; group_id = p.1.0; epoch = p.1.1.0; tree_hash = p.1.1.1.0; confirmed_transcript_hash = p.1.1.1.1.0; extensions = p.1.1.1.1.1 }) (λ _. refl)

abbrev pub coded_public : Coded PublicState
coded_public =
    code_by (GroupContext × (Term × List ℕ)) (coded× coded_context (coded× coded_tree coded_bytes))
    (λ p. (p.context, (p.tree, p.interim))) (λ x. record { context = x.0; tree = x.1.0; interim = x.1.1 }) (λ _. refl)

abbrev pub coded_edits : Coded Edits
coded_edits = code_by (Term × List ℕ) (coded× coded_tree coded_bytes) (λ e. (e.tree, e.added)) (λ x. record { tree = x.0; added = x.1 }) (λ _. refl)
