-- The saved form of a secret tree, which is this project's own: its height, and what is held below its root.
use Rattle.std.specs.Prelude.{◌≡◌, ℕ, zero, suc, ◌^◌, ◌==◌, nat_le, Bool, true, false, cond, List, length, Option, Some, None, IsSomeAnd, refl}
use Rattle.std.proofs.Common.{sym, ap, ap₂, arith}
use Rattle.std.proofs.lemmas.List.{length-append}
use Rattle.mls_wire.specs.Reading.{uint}
use Rattle.std.proofs.lemmas.Bool.{eqb-true, eq-eqb}
use Rattle.mls_wire.specs.Laws.{wide8}
use Rattle.std.specs.Int.{w8}
use Rattle.mls_wire.specs.Format.{Format}
use Rattle.mls_wire.specs.Combine.{◌⨾◌, image, variant, no_format, with_test, tag_then_body, vector, byte_string, uint32, uint64}
use Rattle.mls_wire.specs.CombineReads.{IsNonempty}
use Rattle.mls_leaf.specs.Nonempty.{uint32_nonempty, uint64_nonempty, first_nonempty}
use Rattle.mls_treemath.specs.Limits.{max_height}
use Rattle.mls_secret_tree.specs.declared.ratchet.KeptKey.{KeptKey}
use Rattle.mls_secret_tree.specs.Ratchet.{Ratcheting}
use Rattle.mls_secret_tree.specs.Held.{Held, Whole, LeafRatchet, Parted}
use Rattle.mls_secret_tree.specs.SecretTree.{Tree}

-- ---- ratchets

-- bytes<V> of so many bytes, else `BadLength` (4)
unfoldable pub sized : ℕ → Format (List ℕ)
sized n = with_test byte_string (λ b. length b == n) 4

-- uint32 generation, key<V> of 16 bytes, nonce<V> of 12
unfoldable pub saved_key : Format KeptKey
saved_key = image (uint32 ⨾ sized 16 ⨾ sized 12)
    (λ x. record { generation = x.0; key = record { key = x.1.0; nonce = x.1.1 } })
    (λ k. (k.generation, (k.key.key, k.key.nonce))) (λ k. refl) (λ x _. refl)

pub saved_key_nonempty : IsNonempty saved_key
unfolding saved_key
saved_key_nonempty k fits =
    first_nonempty uint32 (sized 16 ⨾ sized 12) uint32_nonempty
    (k.generation, (k.key.key, k.key.nonce)) fits

-- the number of a next generation: uint64, at most 2^32, else `BadTag` (7)
unfoldable pub next_number : Format ℕ
next_number = with_test uint64 (λ n. nat_le n (2 ^ 32)) 7

next_nonempty : IsNonempty next_number
unfolding next_number
next_nonempty n fits = uint64_nonempty n fits.0

-- uint64 next generation, its ratchet secret<V> of 32 bytes, the keys that are kept<V>
unfoldable pub saved_ratchet : Format Ratcheting
saved_ratchet = image (next_number ⨾ sized 32 ⨾ vector saved_key saved_key_nonempty)
    (λ x. record { next = x.0; secret = x.1.0; kept = x.1.1 })
    (λ r. (r.next, (r.secret, r.kept))) (λ r. refl) (λ x _. refl)

pub saved_ratchet_nonempty : IsNonempty saved_ratchet
unfolding saved_ratchet
saved_ratchet_nonempty r fits =
    first_nonempty next_number (sized 32 ⨾ vector saved_key saved_key_nonempty) next_nonempty
    (r.next, (r.secret, r.kept)) fits

-- ---- what is held below a node

-- 0 before a node's secret, 1 before anything else
abbrev pub held_tag : Held → ℕ
held_tag (Whole secret) = 0
held_tag (LeafRatchet r) = 1
held_tag (Parted left right) = 1

-- what each kind holds
abbrev pub secret_part : Held → Option (List ℕ)
secret_part (Whole secret) = Some secret
secret_part (LeafRatchet r) = None
secret_part (Parted left right) = None

abbrev pub ratchet_part : Held → Option Ratcheting
ratchet_part (Whole secret) = None
ratchet_part (LeafRatchet r) = Some r
ratchet_part (Parted left right) = None

abbrev pub children_part : Held → Option (Held × Held)
children_part (Whole secret) = None
children_part (LeafRatchet r) = None
children_part (Parted left right) = Some (left, right)

-- what is held below both children
abbrev pub make_parted : Held × Held → Held
make_parted x = Parted x.0 x.1

pub secret_back : (h : Held) (x : List ℕ) → secret_part h ≡ Some x → Whole x ≡ h
secret_back (Whole secret) x e = cc
secret_back (LeafRatchet r) x e = absurd cc
secret_back (Parted left right) x e = absurd cc

pub ratchet_back : (h : Held) (x : Ratcheting) → ratchet_part h ≡ Some x → LeafRatchet x ≡ h
ratchet_back (Whole secret) x e = absurd cc
ratchet_back (LeafRatchet r) x e = cc
ratchet_back (Parted left right) x e = absurd cc

pub children_back : (h : Held) (x : Held × Held) → children_part h ≡ Some x → make_parted x ≡ h
children_back (Whole secret) x e = absurd cc
children_back (LeafRatchet r) x e = absurd cc
children_back (Parted left right) x e = cc

-- a node's secret
abbrev pub saved_secret : Format Held
saved_secret = variant (sized 32) Whole secret_part (λ x. refl) secret_back

-- at a leaf: behind 0 its node's secret, behind 1 its ratchet, behind another byte `BadTag` (7)
abbrev pub leaf_body : ℕ → Format Held
leaf_body zero = saved_secret
leaf_body (suc zero) = variant saved_ratchet LeafRatchet ratchet_part (λ x. refl) ratchet_back
leaf_body (suc (suc t)) = no_format 7

-- above the leaves: behind 0 the node's secret, behind 1 what is held below each child, behind another byte `BadTag` (7)
abbrev pub parent_body : Format Held → ℕ → Format Held
parent_body child zero = saved_secret
parent_body child (suc zero) =
    variant (child ⨾ child) make_parted children_part (λ x. refl) children_back
parent_body child (suc (suc t)) = no_format 7

pub is_leaf_tag : (t : ℕ) (h : Held) → (leaf_body t).Fits h → held_tag h ≡ t
is_leaf_tag zero (Whole secret) fits = refl
is_leaf_tag zero (LeafRatchet r) fits = absurd fits
is_leaf_tag zero (Parted left right) fits = absurd fits
is_leaf_tag (suc zero) (Whole secret) fits = absurd fits
is_leaf_tag (suc zero) (LeafRatchet r) fits = refl
is_leaf_tag (suc zero) (Parted left right) fits = absurd fits
is_leaf_tag (suc (suc t)) h fits = absurd fits

pub is_parent_tag : (child : Format Held) (t : ℕ) (h : Held) → (parent_body child t).Fits h
    → held_tag h ≡ t
is_parent_tag child zero (Whole secret) fits = refl
is_parent_tag child zero (LeafRatchet r) fits = absurd fits
is_parent_tag child zero (Parted left right) fits = absurd fits
is_parent_tag child (suc zero) (Whole secret) fits = absurd fits
is_parent_tag child (suc zero) (LeafRatchet r) fits = absurd fits
is_parent_tag child (suc zero) (Parted left right) fits = refl
is_parent_tag child (suc (suc t)) h fits = absurd fits

-- what is held at a leaf
unfoldable pub saved_leaf : Format Held
saved_leaf = tag_then_body w8 (2 ^ 8) wide8 held_tag leaf_body is_leaf_tag

-- what is held below a node, by how it is spelled below each child
unfoldable pub saved_parent : Format Held → Format Held
saved_parent child =
    tag_then_body w8 (2 ^ 8) wide8 held_tag (parent_body child) (is_parent_tag child)

-- what is held below a node of a height: uint8 tag, and what it calls for
unfoldable pub saved_held : ℕ → Format Held
saved_held zero = saved_leaf
saved_held (suc height) = saved_parent (saved_held height)

-- ---- the tree

-- what is held below the root of a tree of a height
abbrev pub root_part : ℕ → Tree → Option Held
root_part height t = cond (t.height == height) (Some t.root) None

-- the tree of a height with this below its root
abbrev pub make_tree : ℕ → Held → Tree
make_tree height root = record { height = height; root = root }

pub root_made : (height : ℕ) (x : Held) → root_part height (make_tree height x) ≡ Some x
root_made height x = ap (λ (b : Bool). cond b (Some x) None) (eq-eqb height height refl)

root_chosen : (height : ℕ) (b : Bool) (t : Tree) (x : Held) → (b ≡ true → t.height ≡ height)
    → cond b (Some t.root) None ≡ Some x → make_tree height x ≡ t
root_chosen height true t x h e =
    let same : t.root ≡ x = cc in ap₂ make_tree (sym (h refl)) (sym same)
root_chosen height false t x h e = absurd cc

pub root_back : (height : ℕ) (t : Tree) (x : Held) → root_part height t ≡ Some x
    → make_tree height x ≡ t
root_back height t x e =
    root_chosen height (t.height == height) t x (λ same. eqb-true t.height height same) e

-- the tree of a height, where that isn't too large
abbrev pub body_if : Bool → ℕ → Format Tree
body_if true height =
    variant (saved_held height) (make_tree height) (root_part height) (root_made height)
    (root_back height)
body_if false height = no_format 7

-- the tree of a height
abbrev pub tree_body : ℕ → Format Tree
tree_body height = body_if (nat_le height max_height) height

height_chosen : (height : ℕ) (b : Bool) (t : Tree) → (b ≡ true → t.height ≡ height)
    → IsSomeAnd (cond b (Some t.root) None) (saved_held height).Fits → t.height ≡ height
height_chosen height true t h fits = h refl
height_chosen height false t h fits = absurd fits

body_chosen : (allowed : Bool) (height : ℕ) (t : Tree) → (body_if allowed height).Fits t
    → t.height ≡ height
body_chosen true height t fits =
    height_chosen height (t.height == height) t (λ same. eqb-true t.height height same) fits
body_chosen false height t fits = absurd fits

pub is_height : (height : ℕ) (t : Tree) → (tree_body height).Fits t → t.height ≡ height
is_height height t fits = body_chosen (nat_le height max_height) height t fits

-- uint8 height, at most 16, else `BadTag` (7), and what is held below the root
unfoldable pub saved_tree : Format Tree
saved_tree = tag_then_body w8 (2 ^ 8) wide8 (λ t. t.height) tree_body is_height

pub saved_tree_nonempty : IsNonempty saved_tree
unfolding saved_tree uint
saved_tree_nonempty t fits =
    omega (arith, length-append (uint w8 t.height) ((tree_body t.height).spell t))
