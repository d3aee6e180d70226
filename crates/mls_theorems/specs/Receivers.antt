-- The receivers of a commit that was made.
use Rattle.std.specs.Prelude.{◌≡◌, ◌+◌, true, false, List, Ok, ◌≢◌}
use Rattle.mls_types.specs.declared.commit.ProposalOrRef.{ProposalOrRef}
use Rattle.mls_suite.specs.Crypto.{Crypto, Lawful}
use Rattle.mls_tree_model.specs.Sets.{has}
use Rattle.mls_model.specs.declared.effect.Effect.TheVariants.{Advanced, Removed}
use Rattle.mls_model.specs.PublicState.{Used}
use Rattle.mls_model.specs.Proposals.{removed_leaves}
use Rattle.mls_model.specs.Commit.{Edits, apply_proposals}
use Rattle.mls_model.specs.Member.{Member, find_proposals, after_removal}
use Rattle.mls_model.specs.Make.{Made}
use Rattle.mls_model.specs.Verdict.{bytes_verdict, verdict}
use Rattle.mls_model.specs.Agreement.{Agree, AgreeSecret, Keeps}
use Rattle.mls_model.specs.MemberInvariant.{IsGoodMember}
use Rattle.mls_model.specs.Journal.{names_in, removes_in}
use Rattle.mls_model.specs.Claims.{IsMade}
use Rattle.mls_theorems.specs.OpenedPaths.{Stays}

-- a receiver follows a commit, where it doesn't take the bytes for its pending commit
pub record FollowsOther (c : Crypto) (m : Member) (made : Made) : Type 0 where
  pub after : Member
  pub is : bytes_verdict c m made.commit ≡ Ok (Advanced (m.public.context.epoch + 1), after)
  pub public : after.public ≡ made.pending.public
  pub epoch : after.epoch_secret ≡ made.pending.epoch_secret

-- what a receiver does with bytes that it doesn't take for its pending commit
pub record ReceivesOther (c : Crypto) (m : Member) (list : List ProposalOrRef) (made : Made) : Type 0 where
  pub removed : has (removes_in m.kept list) m.keys.leaf ≡ true →
      bytes_verdict c m made.commit ≡ Ok (Removed, after_removal m)
  pub follows : has (removes_in m.kept list) m.keys.leaf ≡ false → FollowsOther c m made
  pub taken : m.gone ≡ false → verdict c m made.commit ≡ bytes_verdict c m made.commit

-- The receivers' claim, where a member that a commit doesn't remove stands in the tree of its edits.
abbrev pub ReceiversOfStaying : Type 0
ReceiversOfStaying = (c : Crypto) → Lawful c → (maker m : Member) (list : List ProposalOrRef) (made : Made) →
    IsMade c maker list made → IsGoodMember c m → maker.keys.leaf ≢ m.keys.leaf → Agree maker m → AgreeSecret maker m →
    Keeps m.kept list (names_in maker.kept list) →
    ((used : List Used) (e : Edits) → find_proposals m.kept maker.keys.leaf list ≡ Ok used →
    apply_proposals c m.public maker.keys.leaf used ≡ Ok e → has (removed_leaves used) m.keys.leaf ≡ false →
    Stays c m maker.keys.leaf list e) →
    ReceivesOther c m list made
