-- The KeyPackages that a list adds, one proposal after another.
use Rattle.std.proofs.Common.{◌≡◌, ℕ, List, [], ◌∷◌, ◌++◌, refl, sym, ap, ◌∙◌}
use Rattle.std.proofs.lemmas.List.{append_assoc}
use Rattle.std.specs.List.{zip}
use Rattle.mls_leaf.specs.declared.key_package.KeyPackage.{KeyPackage}
use Rattle.mls_leaf.specs.declared.proposal.Proposal.{Proposal}
use Rattle.mls_leaf.specs.declared.proposal.Proposal.TheVariants as proposal
use Rattle.mls_model.specs.PublicState.{Used}
use Rattle.mls_model.specs.Proposals.{adds}

-- an add stands before those of the rest
pub add_first : (u : Used) (us : List Used) (k : KeyPackage) → u.proposal ≡ proposal.Add k → adds (u ∷ us) ≡ k ∷ adds us
unfolding adds
add_first u us k is = rw is refl

pub zip_none : (xs : List KeyPackage) → zip {X = ℕ} xs [] ≡ []
zip_none [] = refl
zip_none (x ∷ xs) = refl

-- another proposal adds nothing
other_at : (p : Proposal) (u : Used) (us : List Used) → u.proposal ≡ p → ((k : KeyPackage) → p ≡ proposal.Add k → ⊥) → adds (u ∷ us) ≡ adds us
unfolding adds
other_at (proposal.Add k) u us is other = absurd (other k refl)
other_at (proposal.Update x) u us is other = rw is refl
other_at (proposal.Remove i) u us is other = rw is refl
other_at (proposal.GroupContextExtensions vs) u us is other = rw is refl

pub places_kept : (u : Used) (us : List Used) (ks : List (KeyPackage × ℕ)) (leaves : List ℕ) → ((k : KeyPackage) → u.proposal ≡ proposal.Add k → ⊥) → ks ++ zip (adds us) leaves ≡ ks ++ zip (adds (u ∷ us)) leaves
places_kept u us ks leaves other = ap (λ (xs : List KeyPackage). ks ++ zip xs leaves) (sym (other_at u.proposal u us refl other))

pub places_full : (xs ys : List KeyPackage) (ks : List (KeyPackage × ℕ)) (leaves : List ℕ) → leaves ≡ [] → ks ++ zip xs leaves ≡ ks ++ zip ys leaves
places_full xs ys ks leaves is = rw is (ap (λ (ps : List (KeyPackage × ℕ)). ks ++ ps) (zip_none xs ∙ sym (zip_none ys)))

pub places_more : (u : Used) (us : List Used) (k : KeyPackage) (j : ℕ) (old new : List (KeyPackage × ℕ)) (leaves rest : List ℕ) → u.proposal ≡ proposal.Add k → leaves ≡ j ∷ rest → new ≡ old ++ ((k, j) ∷ []) →
    new ++ zip (adds us) rest ≡ old ++ zip (adds (u ∷ us)) leaves
places_more u us k j old new leaves rest is at more = rw (more, at, add_first u us k is) (append_assoc old ((k, j) ∷ []) (zip (adds us) rest))
