-- That `==` of leaves, and of the extensions of a group, decides whether they are the same.
use Rattle.std.proofs.Common.{◌≡◌, ℕ, Bool, true, ◌&&◌, List, refl, ap, ◌∙◌}
use Rattle.std.specs.Bool.{Decides}
use Rattle.std.proofs.lemmas.Bool.{and_parts}
use Rattle.std.proofs.lemmas.Bool.Decides.{Decides-eqb}
use Rattle.std.proofs.lemmas.Slice.Eq.{bytes_eq-Decides, slice_eq-Decides}
use Rattle.std.specs.Cmp.Lexicographic.{pointwise}
use Rattle.mls_leaf.specs.declared.extension.Extension.{Extension}
use Rattle.mls_leaf.specs.declared.leaf.Capabilities.{Capabilities}
use Rattle.mls_leaf.specs.declared.leaf.LeafSource.{LeafSource}
use Rattle.mls_leaf.specs.declared.leaf.LeafSource.TheVariants.{KeyPackage, Update, Commit}
use Rattle.mls_leaf.specs.declared.leaf.LeafNode.{LeafNode}
use Rattle.mls_leaf.specs.contracts.extension.ExtensionPartialEq.TheImpl as entries
use Rattle.mls_leaf.specs.contracts.leaf.LeafSourcePartialEq.TheImpl as sources
use Rattle.mls_leaf.specs.contracts.leaf.CapabilitiesPartialEq.TheImpl as capables
use Rattle.mls_leaf.specs.contracts.leaf.LeafNodePartialEq.TheImpl as leaves

-- a test of two parts
pub both_decide : {a b : Bool} {P Q : Type 0} → Decides a P → Decides b Q → Decides (a && b) (P × Q)
both_decide {a} {b} {P} {Q} h k = (
  λ e. let parts = and_parts a b e in (h.0 parts.0, k.0 parts.1),
  λ pq. let first : a ≡ true = h.1 pq.0 in let second : b ≡ true = k.1 pq.1 in rw (first, second) refl,
)

-- a test of the same fact in another form
pub decides_as : {a : Bool} {P Q : Type 0} → (P → Q) → (Q → P) → Decides a P → Decides a Q
decides_as {a} {P} {Q} there back h = (λ e. there (h.0 e), λ q. h.1 (back q))

pub sources_decide : (v w : LeafSource) → Decides ((sources.ghosts).eq v w) (v ≡ w)
sources_decide (KeyPackage a b) (KeyPackage c d) = decides_as {P = (a ≡ c) × (b ≡ d)} (λ (e, f). rw (e, f) refl) (λ e. (cc, cc)) (both_decide (Decides-eqb a c) (Decides-eqb b d))
sources_decide (KeyPackage a b) Update = (λ e. absurd cc, λ e. absurd cc)
sources_decide (KeyPackage a b) (Commit k) = (λ e. absurd cc, λ e. absurd cc)
sources_decide Update (KeyPackage c d) = (λ e. absurd cc, λ e. absurd cc)
sources_decide Update Update = (λ e. refl, λ e. refl)
sources_decide Update (Commit k) = (λ e. absurd cc, λ e. absurd cc)
sources_decide (Commit h) (KeyPackage c d) = (λ e. absurd cc, λ e. absurd cc)
sources_decide (Commit h) Update = (λ e. absurd cc, λ e. absurd cc)
sources_decide (Commit h) (Commit k) = decides_as {P = h ≡ k} (λ e. rw e refl) (λ e. cc) (bytes_eq-Decides h k)

abbrev capable : List ℕ → List ℕ → List ℕ → List ℕ → List ℕ → Capabilities
capable a b c d e = record { versions = a; cipher_suites = b; extensions = c; proposals = d; credentials = e }

abbrev leaf : List ℕ → List ℕ → List ℕ → Capabilities → LeafSource → List ℕ → LeafNode
leaf a b c d e f = record { encryption_key = a; signature_key = b; credential = record { identity = c }; capabilities = d; source = e; signature = f }

same_capabilities : (v w : Capabilities) → (v.versions ≡ w.versions) × ((v.cipher_suites ≡ w.cipher_suites) × ((v.extensions ≡ w.extensions) × ((v.proposals ≡ w.proposals) × (v.credentials ≡ w.credentials)))) → v ≡ w
same_capabilities v w e =
    ap (λ (x : List ℕ). capable x v.cipher_suites v.extensions v.proposals v.credentials) e.0
    ∙ ap (λ (x : List ℕ). capable w.versions x v.extensions v.proposals v.credentials) e.1.0
    ∙ ap (λ (x : List ℕ). capable w.versions w.cipher_suites x v.proposals v.credentials) e.1.1.0
    ∙ ap (λ (x : List ℕ). capable w.versions w.cipher_suites w.extensions x v.credentials) e.1.1.1.0
    ∙ ap (λ (x : List ℕ). capable w.versions w.cipher_suites w.extensions w.proposals x) e.1.1.1.1

same_leaf : (v w : LeafNode) → (v.encryption_key ≡ w.encryption_key) × ((v.signature_key ≡ w.signature_key) × ((v.credential.identity ≡ w.credential.identity)
    × ((v.capabilities ≡ w.capabilities) × ((v.source ≡ w.source) × (v.signature ≡ w.signature))))) → v ≡ w
same_leaf v w e =
    ap (λ (x : List ℕ). leaf x v.signature_key v.credential.identity v.capabilities v.source v.signature) e.0
    ∙ ap (λ (x : List ℕ). leaf w.encryption_key x v.credential.identity v.capabilities v.source v.signature) e.1.0
    ∙ ap (λ (x : List ℕ). leaf w.encryption_key w.signature_key x v.capabilities v.source v.signature) e.1.1.0
    ∙ ap (λ (x : Capabilities). leaf w.encryption_key w.signature_key w.credential.identity x v.source v.signature) e.1.1.1.0
    ∙ ap (λ (x : LeafSource). leaf w.encryption_key w.signature_key w.credential.identity w.capabilities x v.signature) e.1.1.1.1.0
    ∙ ap (λ (x : List ℕ). leaf w.encryption_key w.signature_key w.credential.identity w.capabilities w.source x) e.1.1.1.1.1

pub capabilities_decide : (v w : Capabilities) → Decides ((capables.ghosts).eq v w) (v ≡ w)
capabilities_decide v w = decides_as (same_capabilities v w) (λ e. (ap (λ (x : Capabilities). x.versions) e, (ap (λ (x : Capabilities). x.cipher_suites) e, (ap (λ (x : Capabilities). x.extensions) e, (ap (λ (x : Capabilities). x.proposals) e, ap (λ (x : Capabilities). x.credentials) e)))))
    (both_decide (bytes_eq-Decides v.versions w.versions) (both_decide (bytes_eq-Decides v.cipher_suites w.cipher_suites) (both_decide (bytes_eq-Decides v.extensions w.extensions)
    (both_decide (bytes_eq-Decides v.proposals w.proposals) (bytes_eq-Decides v.credentials w.credentials)))))

pub leaves_decide : (v w : LeafNode) → Decides ((leaves.ghosts).eq v w) (v ≡ w)
leaves_decide v w = decides_as (same_leaf v w)
    (λ e. (ap (λ (x : LeafNode). x.encryption_key) e, (ap (λ (x : LeafNode). x.signature_key) e, (ap (λ (x : LeafNode). x.credential.identity) e, (ap (λ (x : LeafNode). x.capabilities) e, (ap (λ (x : LeafNode). x.source) e, ap (λ (x : LeafNode). x.signature) e))))))
    (both_decide (bytes_eq-Decides v.encryption_key w.encryption_key) (both_decide (bytes_eq-Decides v.signature_key w.signature_key) (both_decide (bytes_eq-Decides v.credential.identity w.credential.identity)
    (both_decide (capabilities_decide v.capabilities w.capabilities) (both_decide (sources_decide v.source w.source) (bytes_eq-Decides v.signature w.signature))))))

abbrev entry : ℕ → List ℕ → Extension
entry kind content = record { kind = kind; content = content }

same_extension : (v w : Extension) → (v.kind ≡ w.kind) × (v.content ≡ w.content) → v ≡ w
same_extension v w e = ap (λ (x : ℕ). entry x v.content) e.0 ∙ ap (λ (x : List ℕ). entry w.kind x) e.1

extensions_decide : (v w : Extension) → Decides ((entries.ghosts).eq v w) (v ≡ w)
extensions_decide v w = decides_as (same_extension v w) (λ e. (ap (λ (x : Extension). x.kind) e, ap (λ (x : Extension). x.content) e)) (both_decide (Decides-eqb v.kind w.kind) (bytes_eq-Decides v.content w.content))

pub lists_decide : (v w : List Extension) → Decides (pointwise (entries.ghosts).eq v w) (v ≡ w)
lists_decide v w = slice_eq-Decides extensions_decide v w (pointwise (entries.ghosts).eq v w) refl
