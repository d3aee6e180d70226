-- The claims on single calls from which the headline follows.
use Rattle.std.specs.Prelude.{◌≡◌, ◌≢◌, ℕ, ◌+◌, Bool, true, false, List, Some, Ok}
use Rattle.std.specs.List.{AllByRecursion, list_any}
use Rattle.std.specs.Str.{bytes_eq}
use Rattle.mls_leaf.specs.KeyPackage.{key_package}
use Rattle.mls_types.specs.Commit.{proposal_or_ref}
use Rattle.mls_types.specs.declared.commit.ProposalOrRef.{ProposalOrRef}
use Rattle.mls_suite.specs.Crypto.{Crypto, Lawful}
use Rattle.mls_tree_model.specs.Sets.{has}
use Rattle.mls_model.specs.declared.effect.Effect.TheVariants.{Advanced, Removed}
use Rattle.mls_model.specs.Member.{Member, after_removal}
use Rattle.mls_model.specs.Verdict.{verdict}
use Rattle.mls_model.specs.Candidate.{Candidate}
use Rattle.mls_model.specs.Make.{Made, make}
use Rattle.mls_model.specs.Join.{JoinedMember, join_verdict}
use Rattle.mls_model.specs.Journal.{names_in, adds_in, removes_in}
use Rattle.mls_model.specs.Agreement.{Agree, AgreeSecret, Keeps}
use Rattle.mls_model.specs.MemberInvariant.{IsGoodMember, IsGoodCandidate}

-- a commit that a good member made of a list and a seed
pub record IsMade (c : Crypto) (maker : Member) (list : List ProposalOrRef) (made : Made) : Type 0 where
  pub good : IsGoodMember c maker
  pub fits : AllByRecursion proposal_or_ref.Fits list
  pub wants_path : Bool
  pub seed : List ℕ
  pub is : make c maker list wants_path seed ≡ Ok made

-- ---- receivers

-- a member follows a commit to its maker's next public state and epoch secret
pub record FollowsTo (c : Crypto) (m : Member) (made : Made) : Type 0 where
  pub after : Member
  pub is : verdict c m made.commit ≡ Ok (Advanced (m.public.context.epoch + 1), after)
  pub public : after.public ≡ made.pending.public
  pub epoch : after.epoch_secret ≡ made.pending.epoch_secret

-- a member follows a commit of a list, or answers that it was removed where the list removes it
pub record Receives (c : Crypto) (m : Member) (list : List ProposalOrRef) (made : Made) : Type 0 where
  pub removed : has (removes_in m.kept list) m.keys.leaf ≡ true →
      verdict c m made.commit ≡ Ok (Removed, after_removal m)
  pub follows : has (removes_in m.kept list) m.keys.leaf ≡ false → FollowsTo c m made

-- A made commit passes the verdict of each active member at another leaf that agrees with its maker, in secrets too,
-- and keeps the proposals that it names.
abbrev pub ReceiversClaim : Type 0
ReceiversClaim = (c : Crypto) → Lawful c → (maker m : Member) (list : List ProposalOrRef) (made : Made) →
    IsMade c maker list made →
    IsGoodMember c m → m.gone ≡ false → maker.keys.leaf ≢ m.keys.leaf → Agree maker m → AgreeSecret maker m →
    Keeps m.kept list (names_in maker.kept list) →
    Receives c m list made

-- ---- joiners

-- a candidate becomes a member in the maker's next public state and epoch
pub record JoinsTo (c : Crypto) (k : Candidate) (welcome : List ℕ) (made : Made) : Type 0 where
  pub joined : JoinedMember
  pub is : join_verdict c k welcome ≡ Ok joined
  pub public : joined.member.public ≡ made.pending.public
  pub epoch : joined.member.epoch_secret ≡ made.pending.epoch_secret

-- A made Welcome passes the join verdict of each candidate whose own KeyPackage the commit adds.
abbrev pub JoinersClaim : Type 0
JoinersClaim = (c : Crypto) → Lawful c →
    (maker : Member) (list : List ProposalOrRef) (made : Made) (welcome : List ℕ) (k : Candidate) →
    IsMade c maker list made → made.welcome ≡ Some welcome → IsGoodCandidate c k →
    list_any (bytes_eq (key_package.spell k.offered)) (adds_in maker.kept list) ≡ true → JoinsTo c k welcome made
