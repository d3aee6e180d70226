-- What clauses see of the values that are made.
use Rattle.std.specs.Prelude.{◌≡◌, ℕ, ◌≤◌, List, map, Option, Some, IsSome}
use Rattle.std.specs.Option.{option_copied}
use Rattle.std.specs.Borrow.{Bor}
use Rattle.mls_suite.specs.Crypto.{Crypto}
use Rattle.mls_suite.specs.declared.KeyPair.{KeyPair}
use Rattle.mls_tree_model.specs.Term.{Term, leaf_at}
use Rattle.mls_tree_model.specs.Way.{way, path_length}
use Rattle.mls_treekem_model.specs.Join.{secret_for}
use Rattle.mls_treekem_model.specs.Laws.{AreTwo}
use Rattle.mls_treekem_model.specs.Chain.{chain, path_secrets, node_key, node_public}
use Rattle.mls_treekem_model.specs.GivenSecrets.{secret_among}
use Rattle.mls_treekem.specs.declared.secrets.PathSecrets.{PathSecrets}
use Rattle.mls_treekem.specs.declared.places.Place.{Place}
use Rattle.mls_treekem.specs.Place.{steps_at}

-- key pairs are those of some path secrets
pub record ArePairsOf (c : Crypto) (secrets : List (List ℕ)) (pairs : List KeyPair) : Type 0 where
  pub private : map (λ p. p.sk) pairs ≡ map (node_key c) secrets
  pub public : map (λ p. p.pk.items) pairs ≡ map (node_public c) secrets

-- the first n secrets of a chain, lowest first, their key pairs, and the secret that comes next (RFC 9420, 7.4)
pub record AreOfChain (c : Crypto) (start : List ℕ) (n : ℕ) (made : PathSecrets) : Type 0 where
  pub secrets : made.secrets.items ≡ path_secrets start n
  pub pairs : ArePairsOf c (path_secrets start n) made.pairs.items
  pub commit_secret : made.commit_secret ≡ chain start n

-- the public keys of a path
abbrev pub public_keys : PathSecrets → List (List ℕ)
public_keys made = map (λ p. p.pk.items) made.pairs.items

-- what leaf i sends to leaf j of a tree: where the secrets are the first n of a chain, and those of its filtered direct
-- path among them, the chain's at the parent where both ways part (RFC 9420, 12.4.3.1)
abbrev pub IsSentOf : Term → ℕ → ℕ → List (List ℕ) → Option (List ℕ) → Type 0
IsSentOf t i j secrets o =
    (start : List ℕ) (n : ℕ) → secrets ≡ path_secrets start n → path_length 0 t i ≤ n → AreTwo 0 t i j → IsSome (leaf_at 0 t j) → o ≡ Some (secret_for (way 0 t i) j start)

-- the secret of the parent at some places with leaf j beside it, where there is one
abbrev pub secret_over : PathSecrets → Term → List Place → ℕ → Option (List ℕ)
secret_over made t places j = secret_among (steps_at t places) j made.secrets.items

-- it is told which of some path secrets is for leaf j, where leaf i made them
abbrev pub AnswersSecret : Term → ℕ → ℕ → PathSecrets → Option (Bor (List ℕ)) → Type 0
AnswersSecret t i j made = λ answer. option_copied answer ≡ secret_among (way 0 t i) j made.secrets.items

-- it is told which of some path secrets leaf i sends to leaf j
abbrev pub AnswersSent : Term → ℕ → ℕ → PathSecrets → Option (Bor (List ℕ)) → Type 0
AnswersSent t i j made = λ answer. IsSentOf t i j made.secrets.items (option_copied answer)
