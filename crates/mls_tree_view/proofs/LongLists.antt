-- What is seen of nodes that are read past is what their list shows.
use Rattle.std.proofs.Common.{◌≡◌, ℕ, zero, suc, ◌+◌, ◌-◌, ◌^◌, ◌<◌, ◌≤◌, Bool, true, false, not, ◌&&◌, ◌||◌, nat_lt, List, [], ◌∷◌, length, take, drop, Option, Some, None, is_some, ◌⊎◌, inl, inr, refl, sym, ◌∙◌, ap, arith, lt-ltb, pow-suc}
use Rattle.std.proofs.lemmas.List.{length-drop}
use Rattle.std.proofs.Math.Bool.{or-false}
use Rattle.std.proofs.lemmas.Bool.{le-ltb}
use Rattle.mls_leaf.specs.Parent.{Parent}
use Rattle.mls_leaf.specs.declared.leaf.LeafNode.{LeafNode}
use Rattle.mls_leaf.specs.declared.node.Node.{Node}
use Rattle.mls_leaf.specs.declared.node.Node.TheVariants.{Leaf as in_leaf, Parent as in_parent}
use Rattle.mls_treemath.specs.Paths.{nodes_in}
use Rattle.mls_tree_model.specs.Term.{has_leaf, is_full_width}
use Rattle.mls_tree_model.specs.Arrays.{leaf_in, term_of, has_last, alternates, may_stand}
use Rattle.mls_tree_model.proofs.ArrayLaws.{nodes_in-leaves, term_of-zero, term_of-suc}
use Rattle.mls_tree_model.proofs.Equations.{has_leaf_leaf, has_leaf_branch, is_full_width_branch}
use Rattle.mls_tree_view.specs.LongList.{behind, next, kind_of, nothing_passed, one_more}
use Rattle.mls_tree_view.specs.declared.long_list.Passed.{Passed}

-- ---- how many, which is last, and whether each may stand where it does

grown : (n : ℕ) → n < 2 ^ 63 → one_more n ≡ suc n
grown n low = omega arith

next_count : (p : Passed) (c : Option Node) → (next p (kind_of c)).count ≡ one_more p.count
unfolding next
next_count p None = refl
next_count p (Some (in_leaf v)) = refl
next_count p (Some (in_parent q)) = refl

pub count_behind : (p : Passed) (cs : List (Option Node)) → p.count + length cs < 2 ^ 63 → (behind p cs).count ≡ p.count + length cs
unfolding behind
count_behind p [] low = omega arith
count_behind p (c ∷ cs) low =
    let one : (next p (kind_of c)).count ≡ suc p.count = next_count p c ∙ grown p.count (omega arith) in
    count_behind (next p (kind_of c)) cs (omega (arith, one)) ∙ omega (arith, one)

-- whether the last of some nodes isn't blank
abbrev last_behind : Bool → List (Option Node) → Bool
last_behind before [] = before
last_behind before (c ∷ cs) = has_last (c ∷ cs)

next_last : (p : Passed) (c : Option Node) → (next p (kind_of c)).is_last_taken ≡ is_some c
unfolding next
next_last p None = refl
next_last p (Some (in_leaf v)) = refl
next_last p (Some (in_parent q)) = refl

last_more : (c : Option Node) (cs : List (Option Node)) → last_behind (is_some c) cs ≡ has_last (c ∷ cs)
unfolding has_last
last_more c [] = refl
last_more c (d ∷ cs) = refl

last_is : (p : Passed) (cs : List (Option Node)) → (behind p cs).is_last_taken ≡ last_behind p.is_last_taken cs
unfolding behind
last_is p [] = refl
last_is p (c ∷ cs) =
    last_is (next p (kind_of c)) cs ∙ ap (λ b. last_behind b cs) (next_last p c) ∙ last_more c cs

pub last_taken : (cs : List (Option Node)) → (behind nothing_passed cs).is_last_taken ≡ has_last cs
unfolding has_last
last_taken [] = last_is nothing_passed []
last_taken (c ∷ cs) = last_is nothing_passed (c ∷ cs)

next_even : (p : Passed) (c : Option Node) → (next p (kind_of c)).is_even ≡ not p.is_even
unfolding next
next_even p None = refl
next_even p (Some (in_leaf v)) = refl
next_even p (Some (in_parent q)) = refl

and_true : (a : Bool) → a ≡ (a && true)
and_true true = refl
and_true false = refl

next_placed : (p : Passed) (c : Option Node) → (next p (kind_of c)).is_placed ≡ (p.is_placed && may_stand p.is_even c)
unfolding next
next_placed p None = and_true p.is_placed
next_placed p (Some (in_leaf v)) = refl
next_placed p (Some (in_parent q)) = refl

and_more : (a b c : Bool) → ((a && b) && c) ≡ (a && (b && c))
and_more true b c = refl
and_more false b c = refl

placed_is : (p : Passed) (cs : List (Option Node)) → (behind p cs).is_placed ≡ (p.is_placed && alternates p.is_even cs)
unfolding behind alternates
placed_is p [] = and_true p.is_placed
placed_is p (c ∷ cs) =
    placed_is (next p (kind_of c)) cs
    ∙ ap (λ b. b && alternates (next p (kind_of c)).is_even cs) (next_placed p c)
    ∙ ap (λ b. (p.is_placed && may_stand p.is_even c) && alternates b cs) (next_even p c)
    ∙ and_more p.is_placed (may_stand p.is_even c) (alternates (not p.is_even) cs)

pub placed : (cs : List (Option Node)) → (behind nothing_passed cs).is_placed ≡ alternates true cs
placed cs = placed_is nothing_passed cs

-- ---- leaves at even places

-- whether there is a leaf at an even place, where the first place is even or odd
unfoldable pub any_leaf : Bool → List (Option Node) → Bool
any_leaf even [] = false
any_leaf even (c ∷ cs) = (even && is_some (leaf_in c)) || any_leaf (not even) cs

-- even or odd, so many places on
unfoldable pub flips : ℕ → Bool → Bool
flips zero b = b
flips (suc n) b = flips n (not b)

-- whether this is a leaf at an even place
abbrev is_here : Passed → Option Node → Bool
is_here p c = p.is_even && is_some (leaf_in c)

record EndsHere (p : Passed) (c : Option Node) : Type 0 where
  here : is_here p c ≡ true
  end : (next p (kind_of c)).leaf_end ≡ suc p.count

record EndsBefore (p : Passed) (c : Option Node) : Type 0 where
  there : is_here p c ≡ false
  end : (next p (kind_of c)).leaf_end ≡ p.leaf_end

and_false : (b : Bool) → (b && false) ≡ false
and_false true = refl
and_false false = refl

even_leaf : (p : Passed) (v : LeafNode) → p.is_even ≡ true → (next p (kind_of (Some (in_leaf v)))).leaf_end ≡ one_more p.count
unfolding next
even_leaf p v e = rw e refl

odd_leaf : (p : Passed) (v : LeafNode) → p.is_even ≡ false → (next p (kind_of (Some (in_leaf v)))).leaf_end ≡ p.leaf_end
unfolding next
odd_leaf p v e = rw e refl

blank_end : (p : Passed) → (next p (kind_of None)).leaf_end ≡ p.leaf_end
unfolding next
blank_end p = refl

parent_end : (p : Passed) (q : Parent) → (next p (kind_of (Some (in_parent q)))).leaf_end ≡ p.leaf_end
unfolding next
parent_end p q = refl

at_leaf : (p : Passed) (v : LeafNode) (b : Bool) → p.is_even ≡ b → p.count < 2 ^ 63 → EndsHere p (Some (in_leaf v)) ⊎ EndsBefore p (Some (in_leaf v))
at_leaf p v true e low = inl (record { here = sym (and_true p.is_even) ∙ e; end = even_leaf p v e ∙ grown p.count low })
at_leaf p v false e low = inr (record { there = sym (and_true p.is_even) ∙ e; end = odd_leaf p v e })

next_end : (p : Passed) (c : Option Node) → p.count < 2 ^ 63 → EndsHere p c ⊎ EndsBefore p c
next_end p None low = inr (record { there = and_false p.is_even; end = blank_end p })
next_end p (Some (in_leaf v)) low = at_leaf p v p.is_even refl low
next_end p (Some (in_parent q)) low = inr (record { there = and_false p.is_even; end = parent_end p q })

next_is : (p : Passed) (c : Option Node) → p.count < 2 ^ 63 → (next p (kind_of c)).count ≡ suc p.count
next_is p c low = next_count p c ∙ grown p.count low

-- the end never comes back below what it passed
stays : (p : Passed) (cs : List (Option Node)) (k : ℕ) → p.count + length cs < 2 ^ 63 → k < p.leaf_end → p.leaf_end ≤ p.count → k < (behind p cs).leaf_end
unfolding behind
stays p [] k low above within = above
stays p (c ∷ cs) k low above within =
    let one = next_is p c (omega arith) in
    elim (next_end p c (omega arith)) [
      | inl at ↦ (let end = at.end in stays (next p (kind_of c)) cs k (omega (arith, one)) (omega (arith, end)) (omega (arith, end, one)))
      | inr off ↦ (let end = off.end in stays (next p (kind_of c)) cs k (omega (arith, one)) (omega (arith, end)) (omega (arith, end, one)))
    ]

-- a leaf among these nodes, and none before, comes behind place k
from_here : (p : Passed) (cs : List (Option Node)) (k : ℕ) → p.count + length cs < 2 ^ 63 → p.leaf_end ≤ k → k ≤ p.count → nat_lt k (behind p cs).leaf_end ≡ any_leaf p.is_even cs
unfolding behind any_leaf
from_here p [] k low over under = le-ltb k p.leaf_end over
from_here p (c ∷ cs) k low over under =
    let one = next_is p c (omega arith) in
    elim (next_end p c (omega arith)) [
      | inl at ↦
          (let end = at.end in
          lt-ltb k (behind (next p (kind_of c)) cs).leaf_end (stays (next p (kind_of c)) cs k (omega (arith, one)) (omega (arith, end)) (omega (arith, end, one)))
          ∙ sym (ap (λ b. b || any_leaf (not p.is_even) cs) at.here))
      | inr off ↦
          (let end = off.end in
          from_here (next p (kind_of c)) cs k (omega (arith, one)) (omega (arith, end)) (omega (arith, one))
          ∙ ap (λ b. any_leaf b cs) (next_even p c)
          ∙ sym (ap (λ b. b || any_leaf (not p.is_even) cs) off.there))
    ]

held : (p : Passed) (c : Option Node) → p.count < 2 ^ 63 → p.leaf_end ≤ p.count → (next p (kind_of c)).leaf_end ≤ (next p (kind_of c)).count
held p c low within =
    let one = next_is p c low in
    elim (next_end p c low) [
      | inl at ↦ (let end = at.end in omega (arith, end, one))
      | inr off ↦ (let end = off.end in omega (arith, end, one))
    ]

no_leaves : (even : Bool) → any_leaf even [] ≡ false
unfolding any_leaf
no_leaves even = refl

-- a leaf so many places on
pub further_on : (p : Passed) (j : ℕ) (cs : List (Option Node)) → p.count + length cs < 2 ^ 63 → p.leaf_end ≤ p.count → nat_lt (p.count + j) (behind p cs).leaf_end ≡ any_leaf (flips j p.is_even) (drop j cs)
unfolding behind flips
further_on p zero cs low within =
    let same : p.count + zero ≡ p.count = omega arith in
    ap (λ k. nat_lt k (behind p cs).leaf_end) same ∙ from_here p cs p.count low within (omega arith)
further_on p (suc j) [] low within = le-ltb (p.count + suc j) p.leaf_end (omega arith) ∙ sym (no_leaves (flips j (not p.is_even)))
further_on p (suc j) (c ∷ cs) low within =
    let one = next_is p c (omega arith) in
    let same : p.count + suc j ≡ (next p (kind_of c)).count + j = omega (arith, one) in
    ap (λ k. nat_lt k (behind (next p (kind_of c)) cs).leaf_end) same
    ∙ further_on (next p (kind_of c)) j cs (omega (arith, one)) (held p c (omega arith) within)
    ∙ ap (λ b. any_leaf (flips j b) (drop j cs)) (next_even p c)

-- ---- a tree has a leaf where there is one at an even place

or_more : (a b c : Bool) → ((a || b) || c) ≡ (a || (b || c))
or_more true b c = refl
or_more false b c = refl

in_parts : (j : ℕ) (even : Bool) (cs : List (Option Node)) → any_leaf even cs ≡ (any_leaf even (take j cs) || any_leaf (flips j even) (drop j cs))
unfolding any_leaf flips
in_parts zero even cs = refl
in_parts (suc j) even [] = refl
in_parts (suc j) even (c ∷ cs) =
    ap (λ b. (even && is_some (leaf_in c)) || b) (in_parts j (not even) cs)
    ∙ sym (or_more (even && is_some (leaf_in c)) (any_leaf (not even) (take j cs)) (any_leaf (flips j (not even)) (drop j cs)))

not_twice : (b : Bool) → not (not b) ≡ b
not_twice true = refl
not_twice false = refl

twice : (n : ℕ) (b : Bool) → flips (n + n) b ≡ b
unfolding flips
twice zero b = refl
twice (suc n) b =
    let on : suc n + suc n ≡ suc (suc (n + n)) = omega arith in
    ap (λ k. flips k b) on ∙ twice n (not (not b)) ∙ not_twice b

-- a place behind an odd one
behind_odd : (m : ℕ) (cs : List (Option Node)) → any_leaf false (drop m cs) ≡ any_leaf true (drop (suc m) cs)
unfolding any_leaf
behind_odd zero [] = refl
behind_odd zero (c ∷ cs) = refl
behind_odd (suc m) [] = no_leaves false ∙ sym (no_leaves true)
behind_odd (suc m) (c ∷ cs) = behind_odd m cs

pow-positive : (n : ℕ) → 0 < 2 ^ n
pow-positive zero = omega arith
pow-positive (suc n) = let rest = pow-positive n in omega (arith, pow-suc 2 n, rest)

odd_width : (h : ℕ) → flips (nodes_in h) true ≡ false
unfolding flips
odd_width h =
    let half = 2 ^ h - 1 in
    let positive : 0 < 2 ^ h = pow-positive h in
    let is : nodes_in h ≡ suc (half + half) = omega (arith, nodes_in-leaves h, positive) in
    ap (λ k. flips k true) is ∙ twice half false

front_short : (m : ℕ) (cs : List (Option Node)) → length (take m cs) ≤ m
front_short zero cs = omega arith
front_short (suc m) [] = omega arith
front_short (suc m) (c ∷ cs) = let rest = front_short m cs in omega (arith, rest)

pub leaf_among : (h : ℕ) (cs : List (Option Node)) → length cs ≤ nodes_in h → has_leaf (term_of h cs) ≡ any_leaf true cs
unfolding any_leaf nodes_in
leaf_among zero [] short = ap has_leaf (term_of-zero []) ∙ has_leaf_leaf None
leaf_among zero (c ∷ []) short = ap has_leaf (term_of-zero (c ∷ [])) ∙ has_leaf_leaf (leaf_in c) ∙ sym (or-false (is_some (leaf_in c)))
leaf_among zero (c ∷ d ∷ cs) short = absurd (omega arith)
leaf_among (suc h) cs short =
    let m : ℕ = nodes_in h in
    ap has_leaf (term_of-suc h cs)
    ∙ has_leaf_branch _ _ _
    ∙ ap (λ b. b || has_leaf (term_of h (drop (suc m) cs))) (leaf_among h (take m cs) (front_short m cs))
    ∙ ap (λ b. any_leaf true (take m cs) || b) (leaf_among h (drop (suc m) cs) (let len = length-drop (suc m) cs in omega arith))
    ∙ sym (in_parts m true cs ∙ ap (λ b. any_leaf true (take m cs) || b) (ap (λ b. any_leaf b (drop m cs)) (odd_width h) ∙ behind_odd m cs))

-- ---- the right half

pub right_half : (h : ℕ) (cs : List (Option Node)) → 0 < h → length cs < 2 ^ 62 → length cs ≤ nodes_in h → nat_lt (2 ^ h) (behind nothing_passed cs).leaf_end ≡ is_full_width (term_of h cs)
unfolding nodes_in
right_half zero cs above low short = absurd (omega arith)
right_half (suc g) cs above low short =
    let at : 2 ^ suc g ≡ suc (nodes_in g) = omega (arith, pow-suc 2 g, nodes_in-leaves g) in
    let even : flips (2 ^ suc g) true ≡ true = (let is : 2 ^ suc g ≡ 2 ^ g + 2 ^ g = omega (arith, pow-suc 2 g) in ap (λ k. flips k true) is ∙ twice (2 ^ g) true) in
    let start : 2 ^ suc g ≡ 0 + 2 ^ suc g = omega arith in
    ap (λ k. nat_lt k (behind nothing_passed cs).leaf_end) start
    ∙ further_on nothing_passed (2 ^ suc g) cs (omega arith) (omega arith)
    ∙ ap (λ b. any_leaf b (drop (2 ^ suc g) cs)) even
    ∙ ap (λ k. any_leaf true (drop k cs)) at
    ∙ sym (leaf_among g (drop (suc (nodes_in g)) cs) (let len = length-drop (suc (nodes_in g)) cs in omega arith))
    ∙ sym (is_full_width_branch _ _ _)
    ∙ sym (ap is_full_width (term_of-suc g cs))
