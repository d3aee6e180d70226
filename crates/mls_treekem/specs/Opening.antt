-- What a member's climb along a committer's way is made of.
use Rattle.std.specs.Prelude.{◌≡◌, ℕ, true, List, [], ◌∷◌, ◌++◌, length, reverse, Option, Some, Result, Bool}
use Rattle.mls_wire.specs.Checks.{Answers}
use Rattle.mls_types.specs.declared.update_path.HpkeCiphertext.{HpkeCiphertext}
use Rattle.mls_types.specs.declared.update_path.UpdatePathNode.{UpdatePathNode}
use Rattle.mls_suite.specs.Crypto.{Crypto}
use Rattle.mls_tree_model.specs.Sets.{leaf_numbers, less}
use Rattle.mls_tree_model.specs.Term.{Term, is_perfect}
use Rattle.mls_tree_model.specs.Way.{Step, way}
use Rattle.mls_treekem.specs.declared.error.TreeKemError.{TreeKemError}
use Rattle.mls_treekem.specs.declared.places.Place.{Place}
use Rattle.mls_treekem.specs.Climbing.{with_own}
use Rattle.mls_treekem.specs.Faults.{number_of, AnswersValue}
use Rattle.mls_treekem_model.specs.Keys.{Keys, key_in, PrivateKeys, all_keys, keys_on_way, keys_on}
use Rattle.mls_treekem_model.specs.Make.{Climb, climb_to}
use Rattle.mls_treekem_model.specs.Open.{open_first, open_at_ancestor, climb_open, opened_path, climb_past_parent}
use Rattle.mls_treekem.specs.Place.{step_of}
use Rattle.mls_tree.specs.Tree.{Tree, term}

-- the key that a member has for a node of a tree whose first leaf is b
abbrev pub key_of : ℕ → Term → PrivateKeys → ℕ → Option (List ℕ)
key_of b t p n = key_in b t p.leaf (keys_on_way (way b t p.leaf) (all_keys p)) n

-- it is the same in each perfect tree of this height
abbrev pub IsKeyOf : ℕ → ℕ → PrivateKeys → ℕ → Option (List ℕ) → Type 0
IsKeyOf h b p n key = (t : Term) → is_perfect h t ≡ true → key ≡ key_of b t p n

-- keys above the leaf, the lowest first, are a member's up to this height
abbrev pub AreKeysUpTo : ℕ → PrivateKeys → Keys → Type 0
AreKeysUpTo h p above = (ss : List Step) → length ss ≡ h → reverse above ++ (Some p.own ∷ []) ≡ keys_on_way ss (all_keys p)

-- the path secret that is sealed to the first of some nodes whose key a member has, without the leaves just added
abbrev pub OpensFirst : Crypto → List ℕ → ℕ → ℕ → PrivateKeys → List ℕ → List ℕ → List HpkeCiphertext → Result (List ℕ) TreeKemError → Type 0
OpensFirst c context h b p added nodes xs result =
    (t : Term) → is_perfect h t ≡ true → Answers (λ s. s) number_of (open_first c context (key_of b t p) (less (leaf_numbers added) nodes) xs) result

-- what is opened at a place, with the keys below
abbrev pub OpensAtAncestor : Crypto → List ℕ → List ℕ → Term → ℕ → Place → PrivateKeys → List UpdatePathNode → Result Climb TreeKemError → Type 0
OpensAtAncestor c context added t h q p path result =
    (ss : List Step) → length ss ≡ h → Answers (λ m. with_own p.own m) number_of (open_at_ancestor c context added (step_of t q) p.leaf (keys_on_way ss (all_keys p)) (reverse path)) result

-- a climb along a way
abbrev pub OpensAlong : Crypto → List ℕ → List ℕ → List Step → PrivateKeys → List UpdatePathNode → Result Climb TreeKemError → Type 0
OpensAlong c context added ss p path result =
    Answers (λ m. with_own p.own m) number_of (climb_open c context added ss p.leaf (keys_on_way ss (all_keys p)) (reverse path)) result

-- a member takes the commit secret and its new keys of a path that leaf i made (RFC 9420, 7.5)
abbrev pub OpensPath : Crypto → List ℕ → List ℕ → Tree → ℕ → List UpdatePathNode → PrivateKeys → PrivateKeys → Result (List ℕ) TreeKemError → Type 0
OpensPath c context added tree i path old new result =
    Answers (λ s. climb_to s new) number_of (opened_path c context added (term tree) i old.leaf (keys_on (term tree) old) path) result

-- a member climbs past a parent, for which the last node of the path is made where it is filtered
abbrev pub PassesParent : Crypto → Bool → List UpdatePathNode → Climb → Result Climb TreeKemError → Type 0
PassesParent c filtered path climb result = AnswersValue (climb_past_parent c filtered (reverse path) climb) result
