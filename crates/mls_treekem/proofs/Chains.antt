-- A chain as far as it has been made.
use Rattle.std.proofs.Common.{◌≡◌, ℕ, ◌+◌, List, [], ◌∷◌, ◌++◌, refl, ap, ap₂, sym, ◌∙◌, subst, add-one}
use Rattle.mls_suite.specs.Crypto.{Crypto}
use Rattle.mls_suite.specs.declared.KeyPair.{KeyPair}
use Rattle.mls_treekem_model.specs.Chain.{next_secret, chain, path_secrets, node_key, node_public}
use Rattle.mls_treekem.specs.Secrets.{ArePairsOf}
use Rattle.mls_treekem_model.proofs.MakeLaws.{map-append}

pub secrets_none : (start : List ℕ) → path_secrets start 0 ≡ []
unfolding path_secrets
secrets_none start = refl

secrets_more : (start : List ℕ) (k : ℕ) → path_secrets start (k + 1) ≡ path_secrets start k ++ (chain start k ∷ [])
unfolding path_secrets
secrets_more start k = rw add-one refl

pub chain_none : (start : List ℕ) → chain start 0 ≡ start
unfolding chain
chain_none start = refl

chain_more : (start : List ℕ) (k : ℕ) → chain start (k + 1) ≡ next_secret (chain start k)
unfolding chain
chain_more start k = rw add-one refl

pairs_none : (c : Crypto) (start : List ℕ) → ArePairsOf c (path_secrets start 0) []
unfolding path_secrets
pairs_none c start = record { private = refl; public = refl }

more_pairs : (c : Crypto) (secrets : List (List ℕ)) (s : List ℕ) (pairs : List KeyPair) (p : KeyPair) → ArePairsOf c secrets pairs → p.sk ≡ node_key c s → p.pk.items ≡ node_public c s → ArePairsOf c (secrets ++ (s ∷ [])) (pairs ++ (p ∷ []))
more_pairs c secrets s pairs p h sk pk =
    record {
      private = map-append (λ (q : KeyPair). q.sk) pairs (p ∷ []) ∙ ap₂ (λ zs z. zs ++ (z ∷ [])) h.private sk ∙ sym (map-append (node_key c) secrets (s ∷ []));
      public = map-append (λ (q : KeyPair). q.pk.items) pairs (p ∷ []) ∙ ap₂ (λ zs z. zs ++ (z ∷ [])) h.public pk ∙ sym (map-append (node_public c) secrets (s ∷ []));
    }

pub pairs_more : (c : Crypto) (start : List ℕ) (k : ℕ) (s : List ℕ) (pairs more : List KeyPair) (p : KeyPair) → s ≡ chain start k → ArePairsOf c (path_secrets start k) pairs → p.sk ≡ node_key c s → p.pk.items ≡ node_public c s → more ≡ pairs ++ (p ∷ []) → ArePairsOf c (path_secrets start (k + 1)) more
pairs_more c start k s pairs more p at h sk pk pushed =
    let all : ArePairsOf c (path_secrets start k ++ (chain start k ∷ [])) (pairs ++ (p ∷ [])) =
    more_pairs c (path_secrets start k) (chain start k) pairs p h (sk ∙ ap (node_key c) at) (pk ∙ ap (node_public c) at) in
    subst (λ (ss : List (List ℕ)). ArePairsOf c ss more) (sym (secrets_more start k))
    (subst (λ (ps : List KeyPair). ArePairsOf c (path_secrets start k ++ (chain start k ∷ [])) ps) (sym pushed) all)

pub pairs_start : (c : Crypto) (start : List ℕ) (pairs : List KeyPair) → pairs ≡ [] → ArePairsOf c (path_secrets start 0) pairs
pairs_start c start pairs e = subst (λ (ps : List KeyPair). ArePairsOf c (path_secrets start 0) ps) (sym e) (pairs_none c start)

pub secrets_pushed : (start : List ℕ) (k : ℕ) (s : List ℕ) (secrets more : List (List ℕ)) → s ≡ chain start k → secrets ≡ path_secrets start k → more ≡ secrets ++ (s ∷ []) → more ≡ path_secrets start (k + 1)
secrets_pushed start k s secrets more at h pushed = pushed ∙ ap₂ (λ zs z. zs ++ (z ∷ [])) h at ∙ sym (secrets_more start k)

pub chain_pushed : (start : List ℕ) (k : ℕ) (s next : List ℕ) → s ≡ chain start k → next ≡ next_secret s → next ≡ chain start (k + 1)
chain_pushed start k s next at h = h ∙ ap next_secret at ∙ sym (chain_more start k)
