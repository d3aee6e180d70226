-- What a member knows of an epoch, how it is saved, and what is checked of it where it is loaded.
use Rattle.std.specs.Prelude.{◌≡◌, ℕ, ◌==◌, is_some, true, List, reverse, Option, IsSome, Result, Ok}
use Rattle.std.specs.Str.{bytes_eq}
use Rattle.mls_wire.specs.Checks.{Passed, require, ◌>>◌}
use Rattle.mls_wire.specs.Reading.{◌>>=◌}
use Rattle.mls_leaf.specs.declared.node.Node.{Node}
use Rattle.mls_types.specs.declared.group_context.GroupContext.{GroupContext}
use Rattle.mls_saved.specs.declared.state.SavedState.{SavedState}
use Rattle.mls_suite.specs.Crypto.{Crypto}
use Rattle.mls_tree_model.specs.Term.{Term, leaf_of}
use Rattle.mls_tree_model.specs.Arrays.{from_nodes, to_nodes}
use Rattle.mls_tree_model.specs.Good.{IsGood, tree_checks}
use Rattle.mls_tree_model.specs.Hashes.{tree_hash}
use Rattle.mls_tree.specs.Rules.{rules_of}
use Rattle.mls_tree.specs.Tree.{max_leaves}
use Rattle.mls_treekem_model.specs.Keys.{PrivateKeys, HasExact}
use Rattle.mls_treekem_model.specs.Holding.{holds_exact}
use Rattle.mls_model.specs.PublicState.{PublicState}
use Rattle.mls_saved_state.specs.Secrets.{secret_in, keys_in, is_secret, AreKeys}
use Rattle.mls_saved_state.specs.declared.load.EpochState.{EpochState}

-- ---- saving

-- what is saved of an epoch; the keys above the leaf from the node right over it on
unfoldable pub saved_state_of : PublicState → List ℕ → PrivateKeys → SavedState
saved_state_of public epoch keys =
    record {
      context = public.context;
      tree = to_nodes public.tree;
      interim = public.interim;
      epoch = epoch;
      leaf = keys.leaf;
      own = keys.own;
      above = reverse keys.above;
    }

-- each secret of it has 32 bytes
pub record HasSecrets (s : SavedState) : Type 0 where
  pub interim : is_secret s.interim ≡ true
  pub epoch : is_secret s.epoch ≡ true
  pub own : is_secret s.own ≡ true
  pub above : AreKeys s.above

-- ---- loading

-- the tree: `TreeShape` (20) and `TreeFull` (21) its shape and size, `BadTreeHash` (103) its hash isn't the context's,
-- then the checks of a whole tree (RFC 9420, 12.4.3.1 and 12.4.3.3)
unfoldable pub saved_tree : Crypto → GroupContext → List (Option Node) → Result Term ℕ
saved_tree c context nodes = do
  t ← from_nodes max_leaves nodes
  require 103 (bytes_eq context.tree_hash (tree_hash 0 t))
  tree_checks (rules_of c context.group_id) t
  Ok t

-- the leaf with its private keys: `BadSecret` (101) one isn't a secret
unfoldable pub saved_keys : SavedState → Result PrivateKeys ℕ
saved_keys s = do
  own ← secret_in s.own
  above ← keys_in s.above
  Ok (record { leaf = s.leaf; own = own; above = reverse above })

-- `NotAMember` (102) no member is at the leaf, `OtherKey` (104) it hasn't exactly the private keys that are due
-- (RFC 9420, 7.1 and 7.5)
unfoldable pub key_checks : Crypto → Term → PrivateKeys → Result Passed ℕ
key_checks c t keys = do
  require 102 (is_some (leaf_of t keys.leaf))
  require 104 (holds_exact c t keys)

-- what a member knows of an epoch, of its parts
abbrev pub state_with : GroupContext → Term → List ℕ → List ℕ → PrivateKeys → EpochState
state_with context t interim epoch keys =
    record { group = record { context = context; tree = t; interim = interim }; epoch = epoch; keys = keys }

-- what was saved of an epoch: `OtherSuite` (100) another suite, `BadSecret` (101) the secrets, then the tree and the
-- keys
unfoldable pub load_state : Crypto → SavedState → Result EpochState ℕ
load_state c s = do
  require 100 (s.context.cipher_suite == c.number)
  interim ← secret_in s.interim
  epoch ← secret_in s.epoch
  keys ← saved_keys s
  t ← saved_tree c s.context s.tree
  key_checks c t keys
  Ok (state_with s.context t interim epoch keys)

-- ---- what was saved is loaded

-- a good member's public state and keys
pub record IsGoodState (c : Crypto) (public : PublicState) (keys : PrivateKeys) : Type 0 where
  pub suite : public.context.cipher_suite ≡ c.number
  pub tree : IsGood (rules_of c public.context.group_id) public.tree
  pub hash : public.context.tree_hash ≡ tree_hash 0 public.tree
  pub own : IsSome (leaf_of public.tree keys.leaf)
  pub exact : HasExact c public.tree keys

-- what was saved of a good member's epoch is loaded, and is what it was
abbrev pub LoadsWhatWasSaved : Type 0
LoadsWhatWasSaved = (c : Crypto) (public : PublicState) (epoch : List ℕ) (keys : PrivateKeys) → IsGoodState c public keys →
    HasSecrets (saved_state_of public epoch keys) →
    load_state c (saved_state_of public epoch keys) ≡ Ok (record { group = public; epoch = epoch; keys = keys })
