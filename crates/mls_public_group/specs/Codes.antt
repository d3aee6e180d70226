-- Codes, by which proofs tell proposals apart.
use Rattle.std.specs.Prelude.{◌≡◌, ◌⊎◌, ℕ, List}
use Rattle.std.proofs.Common.{refl}
use Rattle.std.specs.Coded.{Coded, code_by, coded×, coded⊎, coded_ℕ, coded_list}
use mathlib.Core.Logic.{inl, inr}
use Rattle.mls_leaf.specs.declared.extension.Extension.{Extension}
use Rattle.mls_leaf.specs.declared.key_package.KeyPackage.{KeyPackage}
use Rattle.mls_leaf.specs.declared.proposal.Proposal.{Proposal}
use Rattle.mls_leaf.specs.declared.proposal.Proposal.TheVariants as proposal
use Rattle.mls_leaf.specs.declared.leaf.LeafNode.{LeafNode}
use Rattle.mls_tree_array.specs.Codes.{coded_leaf}

abbrev pub coded_bytes : Coded (List ℕ)
coded_bytes = coded_list coded_ℕ

abbrev pub coded_package : Coded KeyPackage
coded_package =
    code_by (ℕ × (List ℕ × (LeafNode × List ℕ))) (coded× coded_ℕ (coded× coded_bytes (coded× coded_leaf coded_bytes)))
    (λ v. (v.cipher_suite, (v.init_key, (v.leaf_node, v.signature))))
    (λ p. record { cipher_suite = p.0; init_key = p.1.0; leaf_node = p.1.1.0; signature = p.1.1.1 }) (λ _. refl)

abbrev pub coded_extensions : Coded (List Extension)
coded_extensions = coded_list (code_by (ℕ × List ℕ) (coded× coded_ℕ coded_bytes) (λ v. (v.kind, v.content)) (λ p. record { kind = p.0; content = p.1 }) (λ _. refl))

abbrev proposal_cases : Proposal → KeyPackage ⊎ (LeafNode ⊎ (ℕ ⊎ List Extension))
proposal_cases (proposal.Add offered) = inl offered
proposal_cases (proposal.Update leaf) = inr (inl leaf)
proposal_cases (proposal.Remove leaf) = inr (inr (inl leaf))
proposal_cases (proposal.GroupContextExtensions list) = inr (inr (inr list))

abbrev proposal_of : KeyPackage ⊎ (LeafNode ⊎ (ℕ ⊎ List Extension)) → Proposal
proposal_of (inl offered) = proposal.Add offered
proposal_of (inr (inl leaf)) = proposal.Update leaf
proposal_of (inr (inr (inl leaf))) = proposal.Remove leaf
proposal_of (inr (inr (inr list))) = proposal.GroupContextExtensions list

pub proposal_again : (p : Proposal) → proposal_of (proposal_cases p) ≡ p
proposal_again (proposal.Add offered) = refl
proposal_again (proposal.Update leaf) = refl
proposal_again (proposal.Remove leaf) = refl
proposal_again (proposal.GroupContextExtensions list) = refl

abbrev pub coded_proposal : Coded Proposal
coded_proposal = code_by (KeyPackage ⊎ (LeafNode ⊎ (ℕ ⊎ List Extension))) (coded⊎ coded_package (coded⊎ coded_leaf (coded⊎ coded_ℕ coded_extensions))) proposal_cases proposal_of proposal_again
