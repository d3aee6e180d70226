-- Codes of secret trees and of drafts, by which proofs tell their values apart.
use Rattle.std.specs.Prelude.{ℕ}
use Rattle.std.proofs.Common.{refl}
use Rattle.std.specs.Coded.{Coded, code_by, coded×, coded_ℕ}
use Rattle.mls_secret_tree.specs.declared.secrets.MessageKey.{MessageKey}
use Rattle.mls_secret_tree.specs.Held.{Held}
use Rattle.mls_secret_tree.specs.SecretTree.{Tree, Drafted}
use Rattle.mls_secret_tree.specs.Codes.{coded_key, coded_held}

abbrev pub coded_tree : Coded Tree
coded_tree =
    code_by (ℕ × Held) (coded× coded_ℕ coded_held) (λ t. (t.height, t.root))
    (λ x. record { height = x.0; root = x.1 }) (λ _. refl)

abbrev pub coded_draft : Coded Drafted
coded_draft =
    code_by (ℕ × (MessageKey × Held)) (coded× coded_ℕ (coded× coded_key coded_held))
    (λ d. (d.leaf, (d.key, d.held))) (λ x. record { leaf = x.0; key = x.1.0; held = x.1.1 })
    (λ _. refl)
