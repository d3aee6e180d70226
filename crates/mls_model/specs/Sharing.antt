-- Members that share an epoch, and what a commit that one of them makes does: to itself, to the others, and to those
-- that it adds.
use Rattle.std.specs.Prelude.{◌≡◌, ◌≢◌, ℕ, true, false, List, Option, Some, Ok}
use Rattle.std.specs.List.{list_any}
use Rattle.std.specs.Str.{bytes_eq}
use Rattle.mls_leaf.specs.KeyPackage.{key_package}
use Rattle.mls_types.specs.declared.commit.ProposalOrRef.{ProposalOrRef}
use Rattle.mls_suite.specs.Crypto.{Crypto}
use Rattle.mls_tree_model.specs.Sets.{has}
use Rattle.mls_model.specs.declared.effect.Effect.TheVariants.{Advanced, Removed}
use Rattle.mls_model.specs.Agreement.{Agree, AgreeSecret, Keeps}
use Rattle.mls_model.specs.MemberInvariant.{IsGoodMember, IsGoodCandidate}
use Rattle.mls_model.specs.Candidate.{Candidate}
use Rattle.mls_model.specs.Join.{JoinedMember, join_verdict}
use Rattle.mls_model.specs.Journal.{names_in, adds_in, removes_in}
use Rattle.mls_model.specs.Member.{Member, after_removal}
use Rattle.mls_model.specs.Verdict.{verdict}

-- two members of one group share an epoch: both are good and active, stand at two leaves, and agree, in secrets too
pub record ShareEpoch (c : Crypto) (m n : Member) : Type 0 where
  pub good : IsGoodMember c m
  pub other_good : IsGoodMember c n
  pub active : m.gone ≡ false
  pub other_active : n.gone ≡ false
  pub apart : m.keys.leaf ≢ n.keys.leaf
  pub agree : Agree m n
  pub secret : AgreeSecret m n

-- a member follows a commit, and shares the next epoch with its committer
pub record SharesNext (c : Crypto) (next m : Member) (commit : List ℕ) : Type 0 where
  pub after : Member
  pub is : verdict c m commit ≡ Ok (Advanced next.public.context.epoch, after)
  pub shares : ShareEpoch c next after

-- a member accepts a commit of a list (RFC 9420, 12.4.2): one that the list removes answers that it was removed, and
-- another one shares the next epoch
pub record IsAccepted (c : Crypto) (next m : Member) (list : List ProposalOrRef) (commit : List ℕ) : Type 0 where
  pub removed : has (removes_in m.kept list) m.keys.leaf ≡ true → verdict c m commit ≡ Ok (Removed, after_removal m)
  pub follows : has (removes_in m.kept list) m.keys.leaf ≡ false → SharesNext c next m commit

-- a candidate joins by the Welcome of a commit (RFC 9420, 12.4.3.1), and shares the next epoch with its committer
pub record JoinsNext (c : Crypto) (next : Member) (k : Candidate) (welcome : Option (List ℕ)) : Type 0 where
  pub bytes : List ℕ
  pub is : welcome ≡ Some bytes
  pub joined : JoinedMember
  pub joins : join_verdict c k bytes ≡ Ok joined
  pub shares : ShareEpoch c next joined.member

-- A commit of a list reaches the group, made by `maker`, which then has it pending as `after`. The committer follows
-- it into the next epoch. Each member that shares the committer's epoch, and keeps the proposals that the list names,
-- accepts it. Each good candidate whose own KeyPackage the list adds joins by the Welcome.
pub record ReachesGroup (c : Crypto) (maker after : Member) (list : List ProposalOrRef) (commit : List ℕ)
    (welcome : Option (List ℕ)) : Type 0 where
  pub next : Member
  pub own : verdict c after commit ≡ Ok (Advanced next.public.context.epoch, next)
  pub receivers : (m : Member) → ShareEpoch c maker m → Keeps m.kept list (names_in maker.kept list) →
      IsAccepted c next m list commit
  pub joiners : (k : Candidate) → IsGoodCandidate c k →
      list_any (bytes_eq (key_package.spell k.offered)) (adds_in maker.kept list) ≡ true → JoinsNext c next k welcome
