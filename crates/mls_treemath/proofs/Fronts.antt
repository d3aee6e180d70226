-- Laws: the common front of two ways leads to the lowest node over the ends of both.
use Rattle.std.proofs.Common.{◌≡◌, Bool, true, false, [], ◌∷◌, ◌++◌, refl, sym, ◌∙◌, ap}
use Rattle.std.proofs.lemmas.List.{append-nil}
use Rattle.mls_treemath.specs.Paths.{Path}
use Rattle.mls_treemath.specs.Steps.{common_front}
use Rattle.mls_treemath.specs.Fronts.{Under}

under_more : (b : Bool) (p q : Path) → Under p q → Under (b ∷ p) (b ∷ q)
under_more b p q u = record { more = u.more; whole = ap (λ r. b ∷ r) u.whole }

-- the common front is over both
pub common_over_first : (p q : Path) → Under (common_front p q) p
unfolding common_front
common_over_first [] q = record { more = []; whole = refl }
common_over_first (b ∷ p) [] = record { more = b ∷ p; whole = refl }
common_over_first (false ∷ p) (false ∷ q) = under_more false (common_front p q) p (common_over_first p q)
common_over_first (true ∷ p) (true ∷ q) = under_more true (common_front p q) p (common_over_first p q)
common_over_first (false ∷ p) (true ∷ q) = record { more = false ∷ p; whole = refl }
common_over_first (true ∷ p) (false ∷ q) = record { more = true ∷ p; whole = refl }

pub common_front-swap : (p q : Path) → common_front p q ≡ common_front q p
unfolding common_front
common_front-swap [] [] = refl
common_front-swap [] (b ∷ q) = refl
common_front-swap (b ∷ p) [] = refl
common_front-swap (false ∷ p) (false ∷ q) = ap (λ r. false ∷ r) (common_front-swap p q)
common_front-swap (true ∷ p) (true ∷ q) = ap (λ r. true ∷ r) (common_front-swap p q)
common_front-swap (false ∷ p) (true ∷ q) = refl
common_front-swap (true ∷ p) (false ∷ q) = refl

pub common_over_second : (p q : Path) → Under (common_front p q) q
common_over_second p q =
    let u : Under (common_front q p) q = common_over_first q p in
    record { more = u.more; whole = u.whole ∙ ap (λ r. r ++ u.more) (common_front-swap q p) }

-- each way that is over both is over their common front too
pub common_front-append : (r p q : Path) → common_front (r ++ p) (r ++ q) ≡ r ++ common_front p q
unfolding common_front
common_front-append [] p q = refl
common_front-append (false ∷ r) p q = ap (λ s. false ∷ s) (common_front-append r p q)
common_front-append (true ∷ r) p q = ap (λ s. true ∷ s) (common_front-append r p q)

pub common_lowest : (r p q : Path) → Under r p → Under r q → Under r (common_front p q)
common_lowest r p q u v = record {
  more = common_front u.more v.more;
  whole = ap (λ s. common_front s q) u.whole ∙ ap (common_front (r ++ u.more)) v.whole ∙ common_front-append r u.more v.more;
}

-- a way and another over it have the other as common front
pub common_of-over : (p q : Path) → Under p q → common_front p q ≡ p
unfolding common_front
common_of-over p q u =
    ap (λ s. common_front s q) (sym (append-nil p)) ∙ ap (common_front (p ++ [])) u.whole ∙ common_front-append p [] u.more ∙ append-nil p
