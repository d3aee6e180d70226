-- What is saved of nodes, by their height.
use Rattle.std.proofs.Common.{◌≡◌, ℕ, zero, suc, ◌-◌, List, ◌++◌, Result, Ok, Err, refl, sym, ap, ◌∙◌, subst, append_assoc, arith, lit<}
use Rattle.std.specs.Int.{w8}
use Rattle.mls_wire.specs.Format.{Format}
use Rattle.mls_wire.specs.Combine.{◌⨾◌}
use Rattle.mls_wire.specs.Reading.{uint}
use Rattle.mls_leaf.specs.Faults.{AddsSpelling, Refuses}
use Rattle.mls_leaf.specs.declared.error.LeafError.{LeafError}
use Rattle.mls_leaf.proofs.Codecs.{Refuses-whole}
use Rattle.mls_secret_tree.specs.Ratchet.{Ratcheting}
use Rattle.mls_secret_tree.specs.Held.{Held, Whole, LeafRatchet, Parted}
use Rattle.mls_secret_tree.specs.Saved.{sized, saved_ratchet, saved_leaf, saved_parent, saved_held}

-- ---- heights

one_less : (n : ℕ) → n ≡ suc n - 1
one_less n = omega arith

pub held_at_leaf : (height : ℕ) → height ≡ 0 → saved_held height ≡ saved_leaf
unfolding saved_held
held_at_leaf height e = ap saved_held e

pub held_above : (height : ℕ) → (height ≡ 0 → ⊥) → saved_held height ≡ saved_parent (saved_held (height - 1))
unfolding saved_held
held_above zero ne = absurd (ne refl)
held_above (suc n) ne = ap (λ (m : ℕ). saved_parent (saved_held m)) (one_less n)

-- ---- what stands behind a tag

-- what is held is spelled by a tag and a part
record IsTagged {X : Type 0} (whole : Format Held) (h : Held) (part : Format X) (x : X) (tag : ℕ) : Type 0 where
  spelled : whole.spell h ≡ uint w8 tag ++ part.spell x
  there : whole.Fits h → part.Fits x
  back : part.Fits x → whole.Fits h

-- once the tag is added, what adds the part adds the whole
part_added : {X : Type 0} (whole : Format Held) (h : Held) (part : Format X) (x : X) (tag : ℕ) (old mid new : List ℕ) (r : Result (Unit {0}) LeafError)
    → IsTagged whole h part x tag → mid ≡ old ++ uint w8 tag → AddsSpelling part x mid r new → AddsSpelling whole h old r new
part_added {X} whole h part x tag old mid new (Ok u) is m a = (
  is.back a.0,
  a.1 ∙ ap (λ (l : List ℕ). l ++ part.spell x) m ∙ append_assoc old (uint w8 tag) (part.spell x) ∙ ap (λ (l : List ℕ). old ++ l) (sym is.spelled),
)
part_added {X} whole h part x tag old mid new (Err e) is m a = Refuses-whole (part.Fits x) (whole.Fits h) e is.there a

-- ---- secrets

secret_tagged : (height : ℕ) (s : List ℕ) → IsTagged (saved_held height) (Whole s) (sized 32) s 0
unfolding saved_held saved_leaf saved_parent
secret_tagged zero s = record { spelled = refl; there = λ f. f.1; back = λ f. (lit< tt, f) }
secret_tagged (suc n) s = record { spelled = refl; there = λ f. f.1; back = λ f. (lit< tt, f) }

pub secret_added : (height : ℕ) (h : Held) (s old mid new : List ℕ) (r : Result (Unit {0}) LeafError) → h ≡ Whole s → mid ≡ old ++ uint w8 0
    → AddsSpelling (sized 32) s mid r new → AddsSpelling (saved_held height) h old r new
secret_added height h s old mid new r is m a =
    subst (λ (k : Held). AddsSpelling (saved_held height) k old r new) (sym is)
    (part_added (saved_held height) (Whole s) (sized 32) s 0 old mid new r (secret_tagged height s) m a)

-- ---- ratchets

ratchet_tagged : (height : ℕ) (ratchet : Ratcheting) → height ≡ 0 → IsTagged (saved_held height) (LeafRatchet ratchet) saved_ratchet ratchet 1
unfolding saved_held saved_leaf
ratchet_tagged zero ratchet e = record { spelled = refl; there = λ f. f.1; back = λ f. (lit< tt, f) }
ratchet_tagged (suc n) ratchet e = absurd cc

pub ratchet_added : (height : ℕ) (h : Held) (ratchet : Ratcheting) (old mid new : List ℕ) (r : Result (Unit {0}) LeafError) → height ≡ 0 → h ≡ LeafRatchet ratchet
    → mid ≡ old ++ uint w8 1 → AddsSpelling saved_ratchet ratchet mid r new → AddsSpelling (saved_held height) h old r new
ratchet_added height h ratchet old mid new r low is m a =
    subst (λ (k : Held). AddsSpelling (saved_held height) k old r new) (sym is)
    (part_added (saved_held height) (LeafRatchet ratchet) saved_ratchet ratchet 1 old mid new r (ratchet_tagged height ratchet low) m a)

misplaced_ratchet : (height : ℕ) (ratchet : Ratcheting) → (height ≡ 0 → ⊥) → (saved_held height).Fits (LeafRatchet ratchet) → ⊥
unfolding saved_held saved_parent
misplaced_ratchet zero ratchet high fits = high refl
misplaced_ratchet (suc n) ratchet high fits = fits.1

pub no_ratchet_above : (height : ℕ) (h : Held) (ratchet : Ratcheting) → (height ≡ 0 → ⊥) → h ≡ LeafRatchet ratchet → (saved_held height).Fits h → ⊥
no_ratchet_above height h ratchet high is fits = misplaced_ratchet height ratchet high (subst (λ (k : Held). (saved_held height).Fits k) is fits)

-- ---- what is held below children

children_tagged : (height : ℕ) (left right : Held) → (height ≡ 0 → ⊥)
    → IsTagged (saved_held height) (Parted left right) (saved_held (height - 1) ⨾ saved_held (height - 1)) (left, right) 1
unfolding saved_held saved_parent
children_tagged zero left right high = absurd (high refl)
children_tagged (suc n) left right high =
    subst (λ (m : ℕ). IsTagged (saved_held (suc n)) (Parted left right) (saved_held m ⨾ saved_held m) (left, right) 1) (one_less n)
    (record { spelled = refl; there = λ f. f.1; back = λ f. (lit< tt, f) })

pub left_refused : (height : ℕ) (h left right child : Held) (e : LeafError) → (height ≡ 0 → ⊥) → h ≡ Parted left right → child ≡ left
    → Refuses ((saved_held (height - 1)).Fits child) e → Refuses ((saved_held height).Fits h) e
left_refused height h left right child e high is c a =
    let t = children_tagged height left right high in
    Refuses-whole ((saved_held (height - 1)).Fits child) ((saved_held height).Fits h) e
    (λ fits. subst (λ (k : Held). (saved_held (height - 1)).Fits k) (sym c) (t.there (subst (λ (k : Held). (saved_held height).Fits k) is fits)).0) a

children_added : (height : ℕ) (left right : Held) (old mid next new : List ℕ) (r : Result (Unit {0}) LeafError) → (height ≡ 0 → ⊥) → mid ≡ old ++ uint w8 1
    → AddsSpelling (saved_held (height - 1)) left mid (Ok tt) next → AddsSpelling (saved_held (height - 1)) right next r new
    → AddsSpelling (saved_held height) (Parted left right) old r new
children_added height left right old mid next new (Ok u) high m a b =
    let child = saved_held (height - 1) in
    let text = b.1 ∙ ap (λ (l : List ℕ). l ++ child.spell right) a.1 ∙ append_assoc mid (child.spell left) (child.spell right) in
    part_added (saved_held height) (Parted left right) (child ⨾ child) (left, right) 1 old mid new (Ok u) (children_tagged height left right high) m ((a.0, b.0), text)
children_added height left right old mid next new (Err e) high m a b =
    let child = saved_held (height - 1) in
    Refuses-whole (child.Fits right) ((saved_held height).Fits (Parted left right)) e (λ fits. ((children_tagged height left right high).there fits).1) b

pub both_added : (height : ℕ) (h left right first second : Held) (old mid next new : List ℕ) (r : Result (Unit {0}) LeafError) → (height ≡ 0 → ⊥) → h ≡ Parted left right
    → first ≡ left → second ≡ right → mid ≡ old ++ uint w8 1 → AddsSpelling (saved_held (height - 1)) first mid (Ok tt) next
    → AddsSpelling (saved_held (height - 1)) second next r new → AddsSpelling (saved_held height) h old r new
both_added height h left right first second old mid next new r high is f s m a b =
    subst (λ (k : Held). AddsSpelling (saved_held height) k old r new) (sym is)
    (children_added height left right old mid next new r high m (subst (λ (k : Held). AddsSpelling (saved_held (height - 1)) k mid (Ok tt) next) f a)
    (subst (λ (k : Held). AddsSpelling (saved_held (height - 1)) k next r new) s b))

misplaced_children : (height : ℕ) (left right : Held) → height ≡ 0 → (saved_held height).Fits (Parted left right) → ⊥
unfolding saved_held saved_leaf
misplaced_children zero left right low fits = fits.1
misplaced_children (suc n) left right low fits = absurd cc

pub no_children_below : (height : ℕ) (h left right : Held) → height ≡ 0 → h ≡ Parted left right → (saved_held height).Fits h → ⊥
no_children_below height h left right low is fits = misplaced_children height left right low (subst (λ (k : Held). (saved_held height).Fits k) is fits)
