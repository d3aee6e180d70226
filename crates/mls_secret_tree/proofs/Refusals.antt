-- Refusals that come whatever memory there is: from what is taken below a node to what is taken of it.
use Rattle.std.proofs.Common.{◌≡◌, ℕ, Bool, not, List, ◌∷◌, Result, Ok, Err, refl, sym, ap, ◌∙◌}
use Rattle.mls_wire.specs.Reading.{◌>>=◌}
use Rattle.mls_treemath.specs.Paths.{Path}
use Rattle.mls_secret_tree.specs.declared.error.SecretTreeError.{SecretTreeError}
use Rattle.mls_secret_tree.specs.Faults.{RefusesOutright}
use Rattle.mls_secret_tree.specs.Secrets.{child_secret}
use Rattle.mls_secret_tree.specs.Ratchet.{Ratcheting, take_key}
use Rattle.mls_secret_tree.specs.Held.{Whole, LeafRatchet, beside, take_from_ratchet, take_whole}

-- ---- of one definition

-- a call that refuses with one definition does so with another that is the same
pub refuses_as : {A B : Type 0} (d e : Result A ℕ) (r : Result B SecretTreeError) → d ≡ e → RefusesOutright e r → RefusesOutright d r
refuses_as d e r q a = λ n is. a n (sym q ∙ is)

-- where there is a value, nothing is to be refused
pub no_refusal : {A : Type 0} (d : Result A ℕ) (v : A) (n : ℕ) → d ≡ Ok v → d ≡ Err n → ⊥
no_refusal d v n q is = let never : Ok v ≡ Err n = sym q ∙ is in cc never

pub refuses_none : {A B : Type 0} (d : Result A ℕ) (v : A) (r : Result B SecretTreeError) → d ≡ Ok v → RefusesOutright d r
refuses_none d v r q = λ n is. absurd (no_refusal d v n q is)

-- the definition refuses with one number
pub same_number : {A : Type 0} (m n : ℕ) (d : Result A ℕ) → d ≡ Err m → d ≡ Err n → m ≡ n
same_number m n d q is = let same : Err m ≡ Err n = sym q ∙ is in cc same

-- a value that is changed behind it leaves a refusal as it is
pub refused_before : {A B : Type 0} (d : Result A ℕ) (f : A → B) (n : ℕ) → (d >>= λ x. Ok (f x)) ≡ Err n → d ≡ Err n
refused_before (Ok x) f n is = let never : Ok (f x) ≡ Err n = is in cc never
refused_before (Err m) f n is = let same : m ≡ n = same_number m n (Err m) refl is in ap Err same

-- ---- of what is taken

pub ratchet_refused : (r : Ratcheting) (g n : ℕ) → take_from_ratchet r g ≡ Err n → take_key r g ≡ Err n
unfolding take_from_ratchet
ratchet_refused r g n is = refused_before (take_key r g) (λ t. (t.0, LeafRatchet t.1)) n is

down_refused : (s : List ℕ) (side : Bool) (rest : Path) (g n : ℕ) → take_whole s (side ∷ rest) g ≡ Err n → take_whole (child_secret side s) rest g ≡ Err n
unfolding take_whole
down_refused s side rest g n is =
    refused_before (take_whole (child_secret side s) rest g) (λ t. beside side (Whole (child_secret (not side) s)) t) n is

pub refused_below : (s own : List ℕ) (way rest : Path) (side : Bool) (g n : ℕ) → way ≡ side ∷ rest
    → own ≡ child_secret side s → take_whole s way g ≡ Err n → take_whole own rest g ≡ Err n
refused_below s own way rest side g n w o is =
    ap (λ z. take_whole z rest g) o ∙ down_refused s side rest g n (ap (λ p. take_whole s p g) (sym w) ∙ is)
