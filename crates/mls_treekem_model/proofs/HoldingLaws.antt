-- Whether a member's private keys are exactly those that are due.
use Rattle.std.proofs.Common.{◌≡◌, ℕ, nat_le, not, ◌&&◌, Bool, true, false, List, [], ◌∷◌, length, Option, Some, None, refl, ap, ap₂, sym, ◌∙◌, le-leb, leb-true}
use Rattle.std.specs.Str.{bytes_eq}
use Rattle.std.proofs.lemmas.Bool.{and_parts, true≢false}
use Rattle.std.proofs.lemmas.Slice.Eq.{bytes_eq-Decides}
use Rattle.mls_leaf.specs.Parent.{Parent}
use Rattle.mls_leaf.specs.declared.leaf.LeafNode.{LeafNode}
use Rattle.mls_suite.specs.Crypto.{Crypto}
use Rattle.mls_tree_model.specs.Sets.{has}
use Rattle.mls_tree_model.specs.Term.{leaf_at}
use Rattle.mls_tree_model.specs.Way.{Step, way}
use Rattle.mls_treekem_model.specs.Holding.{holds_at, holds_own, holds_along, holds_exact, ExactIsHeld, HeldIsExact}
use Rattle.mls_treekem_model.specs.Keys.{Keys, HoldsDueKey, HoldsKey, IsOwnKey, AreKeysAlong, keys_on}

-- a key is that of a public key just where the test says so
same_key : (a b : List ℕ) → a ≡ b → bytes_eq a b ≡ true
same_key a b e = (bytes_eq-Decides a b).1 e

-- ---- at a parent

held_here : (c : Crypto) (j : ℕ) (q : Parent) (o : Option (List ℕ)) (listed : Bool) → has q.unmerged_leaves j ≡ listed → HoldsKey c listed q o → holds_at c j (Some q) o ≡ true
held_here c j q None true is h = is
held_here c j q (Some k) true is h = absurd h
held_here c j q None false is h = absurd h
held_here c j q (Some k) false is h = ap₂ (λ x y. not x && y) is (same_key (c.public k) q.encryption_key h)

at_held : (c : Crypto) (j : ℕ) (q : Option Parent) (o : Option (List ℕ)) → HoldsDueKey c j q o → holds_at c j q o ≡ true
at_held c j None None h = refl
at_held c j None (Some k) h = absurd h
at_held c j (Some q) o h = held_here c j q o (has q.unmerged_leaves j) refl h

fits_here : (c : Crypto) (j : ℕ) (q : Parent) (o : Option (List ℕ)) (listed : Bool) → has q.unmerged_leaves j ≡ listed → holds_at c j (Some q) o ≡ true → HoldsKey c listed q o
fits_here c j q None true is h = tt
fits_here c j q None false is h = absurd (true≢false (sym h ∙ is))
fits_here c j q (Some k) true is h = absurd (true≢false (sym h ∙ ap (λ x. not x && bytes_eq (c.public k) q.encryption_key) is))
fits_here c j q (Some k) false is h = (bytes_eq-Decides (c.public k) q.encryption_key).0 (and_parts (not (has q.unmerged_leaves j)) (bytes_eq (c.public k) q.encryption_key) h).1

held_at : (c : Crypto) (j : ℕ) (q : Option Parent) (o : Option (List ℕ)) → holds_at c j q o ≡ true → HoldsDueKey c j q o
held_at c j None None h = tt
held_at c j None (Some k) h = absurd (true≢false (sym h))
held_at c j (Some q) o h = fits_here c j q o (has q.unmerged_leaves j) refl h

-- ---- at the leaf

own_held : (c : Crypto) (x : Option LeafNode) (ks : Keys) → IsOwnKey c x ks → holds_own c x ks ≡ true
own_held c None ks h = absurd h
own_held c (Some x) [] h = absurd h
own_held c (Some x) (None ∷ ks) h = absurd h
own_held c (Some x) (Some k ∷ []) h = same_key (c.public k) x.encryption_key h
own_held c (Some x) (Some k ∷ o ∷ ks) h = absurd h

held_own : (c : Crypto) (x : Option LeafNode) (ks : Keys) → holds_own c x ks ≡ true → IsOwnKey c x ks
held_own c None ks h = absurd (true≢false (sym h))
held_own c (Some x) [] h = absurd (true≢false (sym h))
held_own c (Some x) (None ∷ ks) h = absurd (true≢false (sym h))
held_own c (Some x) (Some k ∷ []) h = (bytes_eq-Decides (c.public k) x.encryption_key).0 h
held_own c (Some x) (Some k ∷ o ∷ ks) h = absurd (true≢false (sym h))

-- ---- along a way

along_held : (c : Crypto) (j : ℕ) (ss : List Step) (x : Option LeafNode) (ks : Keys) → AreKeysAlong c (HoldsDueKey c j) ss x ks → holds_along c j ss x ks ≡ true
unfolding AreKeysAlong holds_along
along_held c j [] x ks h = own_held c x ks h
along_held c j (s ∷ ss) x [] h = absurd h
along_held c j (s ∷ ss) x (o ∷ ks) h = ap₂ (λ y z. y && z) (at_held c j s.parent o h.0) (along_held c j ss x ks h.1)

held_along : (c : Crypto) (j : ℕ) (ss : List Step) (x : Option LeafNode) (ks : Keys) → holds_along c j ss x ks ≡ true → AreKeysAlong c (HoldsDueKey c j) ss x ks
unfolding AreKeysAlong holds_along
held_along c j [] x ks h = held_own c x ks h
held_along c j (s ∷ ss) x [] h = absurd (true≢false (sym h))
held_along c j (s ∷ ss) x (o ∷ ks) h =
    let p = and_parts (holds_at c j s.parent o) (holds_along c j ss x ks) h in
    (held_at c j s.parent o p.0, held_along c j ss x ks p.1)

-- ---- in a whole tree

pub exact_is_held : ExactIsHeld
unfolding holds_exact
exact_is_held c t p h = ap₂ (λ y z. y && z) (le-leb _ _ h.low) (along_held c p.leaf (way 0 t p.leaf) (leaf_at 0 t p.leaf) (keys_on t p) h.keys)

pub held_is_exact : HeldIsExact
unfolding holds_exact
held_is_exact c t p h =
    let parts = and_parts (nat_le (length p.above) (length (way 0 t p.leaf))) (holds_along c p.leaf (way 0 t p.leaf) (leaf_at 0 t p.leaf) (keys_on t p)) h in
    record { keys = held_along c p.leaf (way 0 t p.leaf) (leaf_at 0 t p.leaf) (keys_on t p) parts.1; low = leb-true _ _ parts.0 }
