-- The members of a group, as an application sees them.
use Rattle.std.specs.Prelude.{◌≡◌, ℕ, zero, suc, ◌+◌, ◌-◌, List, [], ◌∷◌, map, Option, Some, None, option_map}
use Rattle.mls_leaf.specs.declared.leaf.LeafNode.{LeafNode}
use Rattle.mls_tree_model.specs.Term.{Term, width, leaf_of}
use Rattle.mls_tree_model.specs.Keys.{members}
use Rattle.mls_model.specs.Member.{Member}

-- a member of a group: the index of its leaf, its identity, its signature key and its encryption key (RFC 9420, 5.3 and
-- 7.2)
pub record GroupMember : Type 0 where
  pub leaf : ℕ
  pub identity : List ℕ
  pub signature_key : List ℕ
  pub encryption_key : List ℕ

-- the member whose leaf this is, at leaf index i
abbrev pub member_of_leaf : ℕ → LeafNode → GroupMember
member_of_leaf i v =
    record { leaf = i; identity = v.credential.identity; signature_key = v.signature_key; encryption_key = v.encryption_key }

-- the member at leaf index i, if there is one
abbrev pub group_member : Term → ℕ → Option GroupMember
group_member t i = option_map (member_of_leaf i) (leaf_of t i)

-- the members of a group, by rising leaf index
abbrev pub group_members : Term → List GroupMember
group_members t = map (λ (x : ℕ × LeafNode). member_of_leaf x.0 x.1) (members 0 t)

-- the identity of a member's own leaf, if it has one
abbrev pub own_identity : Member → Option (List ℕ)
own_identity m =
    option_map (λ (v : LeafNode). v.credential.identity) (leaf_of m.public.tree m.keys.leaf)

-- ---- one by one

-- some members, behind one more, if there is one
abbrev pub behind : List GroupMember → Option GroupMember → List GroupMember
behind others None = others
behind others (Some m) = m ∷ others

-- the members at n leaves, of which k is the first
unfoldable pub members_at : Term → ℕ → ℕ → List GroupMember
members_at t k zero = []
members_at t k (suc n) = behind (members_at t (k + 1) n) (group_member t k)

-- the members at leaf k and behind it
abbrev pub members_from : Term → ℕ → List GroupMember
members_from t k = members_at t k (width t - k)

-- it is the first member at leaf k or behind it, if there is one
abbrev pub IsNextMember : Term → ℕ → Option GroupMember → Type 0
IsNextMember t k (Some m) = members_from t k ≡ m ∷ members_from t (m.leaf + 1)
IsNextMember t k None = members_from t k ≡ []
