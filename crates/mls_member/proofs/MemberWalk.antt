-- The members of a group, walked leaf by leaf.
use Rattle.std.proofs.Common.{rules, ◌≡◌, ◌∙◌, ◌≤◌, ◌<◌, ℕ, zero, suc, ◌+◌, ◌-◌, nat_lt, if◌then◌else◌, List, [], ◌∷◌, ◌++◌, map, Option, Some, None, option_map, refl, ap, sym, arith, add-zero, zero-add}
use Rattle.mls_leaf.specs.declared.leaf.LeafNode.{LeafNode}
use Rattle.mls_leaf.specs.Parent.{Parent}
use Rattle.mls_tree_model.specs.Term.{Term, Leaf, Branch, width, leaf_at, leaf_of}
use Rattle.mls_tree_model.specs.Keys.{members}
use Rattle.mls_member.specs.GroupMembers.{GroupMember, behind, group_member, group_members, member_of_leaf, members_at, members_from}

-- ---- leaf by leaf

none_at : (t : Term) (k : ℕ) → members_at t k 0 ≡ []
unfolding members_at
none_at t k = refl

one_more : (t : Term) (k n : ℕ) → members_at t k (suc n) ≡ behind (members_at t (k + 1) n) (group_member t k)
unfolding members_at
one_more t k n = refl

step : (t : Term) (k : ℕ) → k < width t → members_from t k ≡ behind (members_from t (k + 1)) (group_member t k)
step t k lt =
    let e : width t - k ≡ suc (width t - (k + 1)) = omega arith in
    ap (members_at t k) e ∙ one_more t k (width t - (k + 1))

-- a leaf that isn't blank is the next member's
pub finds : (t : Term) (k : ℕ) (v : LeafNode) → k < width t → leaf_of t k ≡ Some v → members_from t k ≡ member_of_leaf k v ∷ members_from t (k + 1)
finds t k v lt is = step t k lt ∙ ap (λ o. behind (members_from t (k + 1)) (option_map (member_of_leaf k) o)) is

-- a blank leaf is passed
pub passes : (t : Term) (k : ℕ) → k < width t → leaf_of t k ≡ None → members_from t k ≡ members_from t (k + 1)
passes t k lt is = step t k lt ∙ ap (λ o. behind (members_from t (k + 1)) (option_map (member_of_leaf k) o)) is

-- behind the last leaf there is none
pub none_left : (t : Term) (k : ℕ) → width t ≤ k → members_from t k ≡ []
none_left t k le =
    let e : width t - k ≡ 0 = omega arith in
    ap (members_at t k) e ∙ none_at t k

-- ---- all of them

behind_append : (xs ys : List GroupMember) (o : Option GroupMember) → behind (xs ++ ys) o ≡ behind xs o ++ ys
behind_append xs ys None = refl
behind_append xs ys (Some m) = refl

append : (t : Term) (m n k : ℕ) → members_at t k (m + n) ≡ members_at t k m ++ members_at t (k + m) n
append t zero n k = rw (zero-add, add-zero, none_at) refl
append t (suc m) n k =
    let e : suc m + n ≡ suc (m + n) = omega arith in
    let f : (k + 1) + m ≡ k + suc m = omega arith in
    ap (members_at t k) e ∙ one_more t k (m + n)
    ∙ ap (λ (xs : List GroupMember). behind xs (group_member t k)) (append t m n (k + 1))
    ∙ behind_append (members_at t (k + 1) m) (members_at t ((k + 1) + m) n) (group_member t k)
    ∙ ap (λ (xs : List GroupMember). xs ++ members_at t ((k + 1) + m) n) (sym (one_more t k m))
    ∙ ap (λ (i : ℕ). members_at t k (suc m) ++ members_at t i n) f

abbrev shown : List (ℕ × LeafNode) → List GroupMember
shown xs = map (λ (x : ℕ × LeafNode). member_of_leaf x.0 x.1) xs

shown_append : (xs ys : List (ℕ × LeafNode)) → shown xs ++ shown ys ≡ shown (xs ++ ys)
shown_append [] ys = refl
shown_append (x ∷ xs) ys = ap (λ (zs : List GroupMember). member_of_leaf x.0 x.1 ∷ zs) (shown_append xs ys)

-- the leaves of s are those of t from leaf b on
abbrev HasLeaves : Term → ℕ → Term → Type 0
HasLeaves t b s = (j : ℕ) → j < width s → leaf_of t (b + j) ≡ leaf_at b s (b + j)

one_leaf : (t : Term) (b : ℕ) (o : Option LeafNode) → leaf_of t b ≡ o → members_at t b 1 ≡ behind [] (option_map (member_of_leaf b) o)
one_leaf t b o is =
    one_more t b 0 ∙ ap (λ (xs : List GroupMember). behind xs (group_member t b)) (none_at t (b + 1))
    ∙ ap (λ (x : Option LeafNode). behind [] (option_map (member_of_leaf b) x)) is

width-leaf : (o : Option LeafNode) → width (Leaf o) ≡ 1
unfolding width
width-leaf o = refl

width-branch : (c : Option Parent) (l r : Term) → width (Branch c l r) ≡ width l + width r
unfolding width
width-branch c l r = refl

at_leaf : (b : ℕ) (o : Option LeafNode) (i : ℕ) → leaf_at b (Leaf o) i ≡ o
unfolding leaf_at
at_leaf b o i = refl

at_branch : (b : ℕ) (c : Option Parent) (l r : Term) (i : ℕ) → leaf_at b (Branch c l r) i ≡ (if nat_lt i (b + width l) then leaf_at b l i else leaf_at (b + width l) r i)
unfolding leaf_at
at_branch b c l r i = refl

at_left : (b : ℕ) (c : Option Parent) (l r : Term) (i : ℕ) → i < b + width l → leaf_at b (Branch c l r) i ≡ leaf_at b l i
at_left b c l r i lt = at_branch b c l r i ∙ search rules

at_right : (b : ℕ) (c : Option Parent) (l r : Term) (i : ℕ) → b + width l ≤ i → leaf_at b (Branch c l r) i ≡ leaf_at (b + width l) r i
at_right b c l r i le = at_branch b c l r i ∙ search rules

members-none : (b : ℕ) → members b (Leaf None) ≡ []
unfolding members
members-none b = refl

members-some : (b : ℕ) (v : LeafNode) → members b (Leaf (Some v)) ≡ (b, v) ∷ []
unfolding members
members-some b v = refl

members-branch : (b : ℕ) (c : Option Parent) (l r : Term) → members b (Branch c l r) ≡ members b l ++ members (b + width l) r
unfolding members
members-branch b c l r = refl

leaf_there : (t : Term) (b : ℕ) (o : Option LeafNode) → HasLeaves t b (Leaf o) → leaf_of t b ≡ o
leaf_there t b o has =
    let lt : 0 < width (Leaf o) = rw (width-leaf o) (omega arith) in
    let e : b + 0 ≡ b = omega arith in
    sym (ap (leaf_of t) e) ∙ has 0 lt ∙ at_leaf b o (b + 0)

within : (t : Term) (b : ℕ) (s : Term) → HasLeaves t b s → members_at t b (width s) ≡ shown (members b s)
within t b (Leaf None) has =
    ap (members_at t b) (width-leaf None) ∙ one_leaf t b None (leaf_there t b None has) ∙ sym (ap shown (members-none b))
within t b (Leaf (Some v)) has =
    ap (members_at t b) (width-leaf (Some v)) ∙ one_leaf t b (Some v) (leaf_there t b (Some v) has) ∙ sym (ap shown (members-some b v))
within t b (Branch c l r) has =
    let in_l : HasLeaves t b l = λ j lt. has j (rw (width-branch c l r) (omega arith)) ∙ at_left b c l r (b + j) (omega arith) in
    let in_r : HasLeaves t (b + width l) r = λ j lt.
    let e : (b + width l) + j ≡ b + (width l + j) = omega arith in
    ap (leaf_of t) e ∙ has (width l + j) (rw (width-branch c l r) (omega arith))
    ∙ at_right b c l r (b + (width l + j)) (omega arith) ∙ sym (ap (leaf_at (b + width l) r) e) in
    ap (members_at t b) (width-branch c l r) ∙ append t (width l) (width r) b
    ∙ ap (λ (xs : List GroupMember). xs ++ members_at t (b + width l) (width r)) (within t b l in_l)
    ∙ ap (λ (xs : List GroupMember). shown (members b l) ++ xs) (within t (b + width l) r in_r)
    ∙ shown_append (members b l) (members (b + width l) r)
    ∙ sym (ap shown (members-branch b c l r))

of_whole : (t : Term) (j : ℕ) → j < width t → leaf_of t j ≡ leaf_at 0 t j
unfolding leaf_of
of_whole t j lt = search rules

-- the walk from the first leaf on has all members
pub walks_all : (t : Term) → members_from t 0 ≡ group_members t
walks_all t =
    let whole : HasLeaves t 0 t = λ j lt. rw (zero-add j) (of_whole t j lt) in
    let e : width t - 0 ≡ width t = omega arith in
    ap (members_at t 0) e ∙ within t 0 t whole
