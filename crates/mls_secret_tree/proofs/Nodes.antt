-- A node of the secret tree by its kind, and ways down from it.
use Rattle.std.proofs.Common.{◌≡◌, ℕ, zero, suc, ◌-◌, Bool, true, false, not, List, [], ◌∷◌, Option, Some, None, Result, Ok, Err, refl, sym, ap, ◌∙◌, subst, arith, eqb}
use Rattle.std.specs.Int.{bit_at}
use Rattle.mls_wire.specs.Reading.{◌>>=◌}
use Rattle.mls_wire.specs.Checks.{Answers}
use Rattle.mls_treemath.specs.Paths.{Path, leaf_path}
use Rattle.mls_secret_tree.specs.declared.secrets.MessageKey.{MessageKey}
use Rattle.mls_secret_tree.specs.declared.error.SecretTreeError.{SecretTreeError}
use Rattle.mls_secret_tree.specs.declared.node.Kind.{Kind}
use Rattle.mls_secret_tree.specs.HeldFields.{held_of}
use Rattle.mls_secret_tree.specs.Faults.{number_of}
use Rattle.mls_secret_tree.specs.Secrets.{child_secret}
use Rattle.mls_secret_tree.specs.Ratchet.{Ratcheting, first_ratchet, take_key}
use Rattle.mls_secret_tree.specs.Held.{Held, Whole, LeafRatchet, Parted, Taken, beside, take_from_ratchet, take_whole, take_below, put_below, next_below}
use Rattle.mls_secret_tree.specs.SecretTree.{first_tree, IsFirstTree}

-- ---- what a node is seen as

pub sees : {k j : Kind} {h : Held} → held_of k ≡ h → k ≡ j → h ≡ held_of j
sees view is = sym view ∙ ap held_of is

-- a call that answers one definition answers another that is the same
pub answers_as : {A : Type 0} (d e : Result A ℕ) (r : Result A SecretTreeError) → d ≡ e → Answers (λ (x : A). x) number_of e r → Answers (λ (x : A). x) number_of d r
answers_as {A} d e r q a = subst (λ (f : Result A ℕ). Answers (λ (x : A). x) number_of f r) (sym q) a

-- ---- ways

pub way_of_leaf : (level leaf : ℕ) → level ≡ 0 → leaf_path level leaf ≡ []
unfolding leaf_path
way_of_leaf level leaf e = ap (λ n. leaf_path n leaf) e

one_less : (level : ℕ) → (level ≡ 0 → ⊥) → level ≡ suc (level - 1)
one_less zero ne = absurd (ne refl)
one_less (suc n) ne = omega arith

pub way_down : (level leaf : ℕ) (side : Bool) → (level ≡ 0 → ⊥) → side ≡ eqb (bit_at leaf (level - 1)) 1 → leaf_path level leaf ≡ side ∷ leaf_path (level - 1) leaf
unfolding leaf_path
way_down level leaf side ne is = ap (λ n. leaf_path n leaf) (one_less level ne) ∙ ap (λ b. b ∷ leaf_path (level - 1) leaf) (sym is)

-- ---- the first generation of which no key was made

pub next_whole : (h : Held) (s : List ℕ) (way : Path) → h ≡ Whole s → next_below h way ≡ 0
unfolding next_below
next_whole h s way e = ap (λ k. next_below k way) e

pub next_ratchet : (h : Held) (r : Ratcheting) (way : Path) → h ≡ LeafRatchet r → next_below h way ≡ r.next
unfolding next_below
next_ratchet h r way e = ap (λ k. next_below k way) e

pub next_end : (h l r : Held) (way : Path) → h ≡ Parted l r → way ≡ [] → next_below h way ≡ 0
unfolding next_below
next_end h l r way e w = ap (λ k. next_below k way) e ∙ ap (next_below (Parted l r)) w

pub next_left : (h l r : Held) (way rest : Path) → h ≡ Parted l r → way ≡ false ∷ rest → next_below h way ≡ next_below l rest
unfolding next_below
next_left h l r way rest e w = ap (λ k. next_below k way) e ∙ ap (next_below (Parted l r)) w

pub next_right : (h l r : Held) (way rest : Path) → h ≡ Parted l r → way ≡ true ∷ rest → next_below h way ≡ next_below r rest
unfolding next_below
next_right h l r way rest e w = ap (λ k. next_below k way) e ∙ ap (next_below (Parted l r)) w

-- ---- putting

pub put_whole : (h n : Held) (s : List ℕ) (way : Path) → h ≡ Whole s → put_below h way n ≡ n
unfolding put_below
put_whole h n s way e = ap (λ k. put_below k way n) e

pub put_ratchet : (h n : Held) (r : Ratcheting) (way : Path) → h ≡ LeafRatchet r → put_below h way n ≡ n
unfolding put_below
put_ratchet h n r way e = ap (λ k. put_below k way n) e

pub put_end : (h l r n : Held) (way : Path) → h ≡ Parted l r → way ≡ [] → put_below h way n ≡ n
unfolding put_below
put_end h l r n way e w = ap (λ k. put_below k way n) e ∙ ap (λ p. put_below (Parted l r) p n) w

pub put_left : (h l r n : Held) (way rest : Path) → h ≡ Parted l r → way ≡ false ∷ rest → put_below h way n ≡ Parted (put_below l rest n) r
unfolding put_below
put_left h l r n way rest e w = ap (λ k. put_below k way n) e ∙ ap (λ p. put_below (Parted l r) p n) w

pub put_right : (h l r n : Held) (way rest : Path) → h ≡ Parted l r → way ≡ true ∷ rest → put_below h way n ≡ Parted l (put_below r rest n)
unfolding put_below
put_right h l r n way rest e w = ap (λ k. put_below k way n) e ∙ ap (λ p. put_below (Parted l r) p n) w

-- ---- taking

pub from_ratchet : (r : Ratcheting) (g : ℕ) (t : MessageKey × Ratcheting) → take_key r g ≡ Ok t → take_from_ratchet r g ≡ Ok (t.0, LeafRatchet t.1)
unfolding take_from_ratchet
from_ratchet r g t e = ap (λ d. d >>= λ t. Ok (t.0, LeafRatchet t.1)) e

pub not_from_ratchet : (r : Ratcheting) (g n : ℕ) → take_key r g ≡ Err n → take_from_ratchet r g ≡ Err n
unfolding take_from_ratchet
not_from_ratchet r g n e = ap (λ d. d >>= λ t. Ok (t.0, LeafRatchet t.1)) e

pub whole_at_leaf : (s : List ℕ) (way : Path) (g : ℕ) (r : Ratcheting) → way ≡ [] → r ≡ first_ratchet s → take_whole s way g ≡ take_from_ratchet r g
unfolding take_whole
whole_at_leaf s way g r w e = ap (λ p. take_whole s p g) w ∙ ap (λ q. take_from_ratchet q g) (sym e)

whole_down : (s : List ℕ) (side : Bool) (rest : Path) (g : ℕ)
    → take_whole s (side ∷ rest) g ≡ (take_whole (child_secret side s) rest g >>= λ t. Ok (beside side (Whole (child_secret (not side) s)) t))
unfolding take_whole
whole_down s side rest g = refl

pub whole_above : (s own : List ℕ) (way rest : Path) (side : Bool) (g : ℕ) (other : Held) (t v : Taken) → way ≡ side ∷ rest
    → own ≡ child_secret side s → other ≡ Whole (child_secret (not side) s) → take_whole own rest g ≡ Ok t → v ≡ beside side other t
    → take_whole s way g ≡ Ok v
whole_above s own way rest side g other t v w o b e made =
    let below : take_whole (child_secret side s) rest g ≡ Ok t = ap (λ z. take_whole z rest g) (sym o) ∙ e in
    ap (λ p. take_whole s p g) w ∙ whole_down s side rest g
    ∙ ap (λ d. d >>= λ t. Ok (beside side (Whole (child_secret (not side) s)) t)) below
    ∙ ap (λ z. Ok (beside side z t)) (sym b) ∙ ap (λ z. Ok z) (sym made)

pub not_above : (s own : List ℕ) (way rest : Path) (side : Bool) (g n : ℕ) → way ≡ side ∷ rest
    → own ≡ child_secret side s → take_whole own rest g ≡ Err n → take_whole s way g ≡ Err n
not_above s own way rest side g n w o e =
    let below : take_whole (child_secret side s) rest g ≡ Err n = ap (λ z. take_whole z rest g) (sym o) ∙ e in
    ap (λ p. take_whole s p g) w ∙ whole_down s side rest g
    ∙ ap (λ d. d >>= λ t. Ok (beside side (Whole (child_secret (not side) s)) t)) below

pub below_whole : (h : Held) (s : List ℕ) (way : Path) (g : ℕ) → h ≡ Whole s → take_below h way g ≡ take_whole s way g
unfolding take_below
below_whole h s way g e = ap (λ k. take_below k way g) e

pub below_ratchet : (h : Held) (r : Ratcheting) (way : Path) (g : ℕ) → h ≡ LeafRatchet r → take_below h way g ≡ take_from_ratchet r g
unfolding take_below
below_ratchet h r way g e = ap (λ k. take_below k way g) e

pub below_end : (h l r : Held) (way : Path) (g : ℕ) → h ≡ Parted l r → way ≡ [] → take_below h way g ≡ Err 114
unfolding take_below
below_end h l r way g e w = ap (λ k. take_below k way g) e ∙ ap (λ p. take_below (Parted l r) p g) w

pub below_left : (h l r : Held) (way rest : Path) (g : ℕ) → h ≡ Parted l r → way ≡ false ∷ rest → take_below h way g ≡ take_below l rest g
unfolding take_below
below_left h l r way rest g e w = ap (λ k. take_below k way g) e ∙ ap (λ p. take_below (Parted l r) p g) w

pub below_right : (h l r : Held) (way rest : Path) (g : ℕ) → h ≡ Parted l r → way ≡ true ∷ rest → take_below h way g ≡ take_below r rest g
unfolding take_below
below_right h l r way rest g e w = ap (λ k. take_below k way g) e ∙ ap (λ p. take_below (Parted l r) p g) w

-- ---- the tree at first

pub first_some : (s : List ℕ) (o : Option ℕ) (h : ℕ) (root : Held) → o ≡ Some h → root ≡ Whole s → IsFirstTree s o (Some (record { height = h; root = root }))
unfolding first_tree
first_some s o h root e f =
    subst (λ (p : Option ℕ). IsFirstTree s p (Some (record { height = h; root = root }))) (sym e) (ap (λ (r : Held). Some (record { height = h; root = r })) f)

pub first_none : (s : List ℕ) (o : Option ℕ) → o ≡ None → IsFirstTree s o None
first_none s o e = subst (λ (p : Option ℕ). IsFirstTree s p None) (sym e) refl
