-- The next public state of a commit that a good member found to pass.
use Rattle.std.specs.Prelude.{◌≡◌, ℕ, ◌-◌, ◌^◌, nat_lt, true, List, IsSome, Ok}
use Rattle.std.specs.List.{AllByRecursion}
use Rattle.mls_types.specs.GroupContext.{group_context}
use Rattle.mls_types.specs.Commit.{commit}
use Rattle.mls_types.specs.declared.commit.Commit.{Commit}
use Rattle.mls_types.specs.declared.content.FramedContent.{FramedContent}
use Rattle.mls_suite.specs.Crypto.{Crypto}
use Rattle.mls_tree_model.specs.Arrays.{in_order}
use Rattle.mls_tree_model.specs.Good.{IsGood}
use Rattle.mls_tree_model.specs.Hashes.{tree_hash}
use Rattle.mls_tree_model.specs.Term.{leaf_of}
use Rattle.mls_tree.specs.Rules.{rules_of}
use Rattle.mls_model.specs.MemberInvariant.{NodeFits, IsGoodMember}
use Rattle.mls_model.specs.Commit.{Change, change_of_commit}
use Rattle.mls_model.specs.Member.{Member, find_proposals}
use Rattle.mls_model.specs.PublicState.{Used}
use Rattle.mls_theorems.specs.NodeSpelling.{PartsFit}

-- ---- the whole of it

-- a change leads to a good state: the tree is good, the context is of that tree and of the suite, and all has a
-- spelling
pub record IsNext (c : Crypto) (change : Change) : Type 0 where
  pub good : IsGood (rules_of c change.context.group_id) change.tree
  pub hash : change.context.tree_hash ≡ tree_hash 0 change.tree
  pub suite : change.context.cipher_suite ≡ c.number
  pub context : group_context.Fits change.context
  pub parts : PartsFit change.tree
  pub nodes : AllByRecursion NodeFits (in_order change.tree)

-- each commit of a member that a good member finds to pass leads to a good state
abbrev pub NextStatesGood : Type 0
NextStatesGood = (c : Crypto) (m : Member) (i : ℕ) (used : List Used) (x : Commit) (said : FramedContent)
    (signature : List ℕ) (change : Change) → IsGoodMember c m → IsSome (leaf_of m.public.tree i) →
    nat_lt m.public.context.epoch (2 ^ 64 - 1) ≡ true → commit.Fits x → find_proposals m.kept i x.proposals ≡ Ok used →
    change_of_commit c m.public i used x said signature ≡ Ok change → IsNext c change
