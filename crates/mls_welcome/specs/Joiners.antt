-- Those whom a commit adds.
use Rattle.std.specs.Prelude.{◌≡◌, ◌^◌, ℕ, List, ◌∷◌, ◌++◌, map}
use Rattle.std.specs.Borrow.{Bor}
use Rattle.std.specs.List.{AllByRecursion, zip}
use Rattle.std.specs.Option.{option_copied}
use Rattle.mls_leaf.specs.KeyPackage.{key_package}
use Rattle.mls_leaf.specs.declared.key_package.KeyPackage.{KeyPackage}
use Rattle.mls_public_group.specs.Short.{IsBelow}
use Rattle.mls_model.specs.Commit.{Edits}
use Rattle.mls_model.specs.Proposals.{adds}
use Rattle.mls_model.specs.PublicState.{Used}
use Rattle.mls_model.specs.Welcome.{secrets_with}
use Rattle.mls_welcome.specs.declared.welcome_message.Joiner.{Joiner}

-- a joiner's KeyPackage and leaf
abbrev pub package_and_leaf_of : Joiner → KeyPackage × ℕ
package_and_leaf_of j = (j.key_package.now, j.leaf)

-- what each leaf is sent: the joiner secret and the path secret of who was added there
abbrev pub AreSecretsOf : List ℕ → (ℕ → List ℕ) → List Joiner → Type 0
AreSecretsOf joiner_secret secrets joiners =
    AllByRecursion
    (λ (j : Joiner). secrets j.leaf ≡ secrets_with joiner_secret (option_copied j.path_secret))
    joiners

-- each KeyPackage encodes to fewer than 2^28 bytes
abbrev pub AreShortJoiners : List Joiner → Type 0
AreShortJoiners joiners =
    AllByRecursion (λ (j : Joiner). IsBelow (2 ^ 28) key_package j.key_package.now) joiners

-- the joiners are those whom the proposals add, each at its leaf
abbrev pub HavePlaces : List Used → Edits → List Joiner → Type 0
HavePlaces used e joiners = map package_and_leaf_of joiners ≡ zip (adds used) e.added

-- a proposal's joiner, if it adds one, took the first of these leaves: whatever proposals follow, the joiners and the rest
-- of the leaves with those whom these add are as many and as before
abbrev pub Places : Used → List Joiner → List ℕ → List Joiner → Bor (List ℕ) → Type 0
Places used old leaves new rest =
    (us : List Used) → map package_and_leaf_of new ++ zip (adds us) rest.now ≡
    map package_and_leaf_of old ++ zip (adds (used ∷ us)) leaves
