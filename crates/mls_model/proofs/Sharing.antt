-- What a caller knows once its members took a commit, and a candidate its Welcome: they share the next epoch, and none of them
-- is refused.
use Rattle.std.proofs.Common.{◌≡◌, ℕ, true, false, List, Option, Some, Result, Ok, Err, sym, ap, subst, ◌∙◌}
use Rattle.std.specs.List.{list_any}
use Rattle.std.specs.Str.{bytes_eq}
use Rattle.mls_wire.specs.Laws.{ok_is}
use Rattle.mls_leaf.specs.KeyPackage.{key_package}
use Rattle.mls_types.specs.declared.commit.ProposalOrRef.{ProposalOrRef}
use Rattle.mls_suite.specs.Crypto.{Crypto}
use Rattle.mls_tree_model.specs.Sets.{has}
use Rattle.mls_model.specs.declared.effect.Effect.{Effect}
use Rattle.mls_model.specs.Agreement.{Keeps}
use Rattle.mls_model.specs.MemberInvariant.{IsGoodCandidate}
use Rattle.mls_model.specs.Candidate.{Candidate}
use Rattle.mls_model.specs.Join.{JoinedMember, join_verdict}
use Rattle.mls_model.specs.Journal.{names_in, adds_in, removes_in}
use Rattle.mls_model.specs.Member.{Member}
use Rattle.mls_model.specs.Sharing.{ShareEpoch, SharesNext, JoinsNext, ReachesGroup}
use Rattle.mls_model.specs.Verdict.{verdict}

-- a definition with a value isn't refused
never : {A : Type 0} (x : A) (n : ℕ) (defined : Result A ℕ) → defined ≡ Ok x → defined ≡ Err n → ⊥
never x n defined a b = cc

after_is : (e f : Effect) (m n : Member) (defined : Result (Effect × Member) ℕ) → defined ≡ Ok (e, m) → defined ≡ Ok (f, n) → m ≡ n
after_is e f m n defined a b = ap (λ (x : Effect × Member). x.1) (ok_is (e, m) (f, n) (sym a ∙ b))

joined_is : (x y : JoinedMember) (defined : Result JoinedMember ℕ) → defined ≡ Ok x → defined ≡ Ok y → x ≡ y
joined_is x y defined a b = ok_is x y (sym a ∙ b)

one_welcome : (o : Option (List ℕ)) (x y : List ℕ) → o ≡ Some x → o ≡ Some y → x ≡ y
one_welcome o x y a b = cc

-- a list removes somebody, or adds a candidate by its own KeyPackage
abbrev pub StaysBy : Member → List ProposalOrRef → Type 0
StaysBy m list = has (removes_in m.kept list) m.keys.leaf ≡ false

abbrev pub IsAddedBy : Member → List ProposalOrRef → Candidate → Type 0
IsAddedBy m list k = list_any (bytes_eq (key_package.spell k.offered)) (adds_in m.kept list) ≡ true

-- `maker` made the commit and has it pending as `held`
module _ (c : Crypto) (maker held : Member) (list : List ProposalOrRef) (commit : List ℕ) (welcome : Option (List ℕ)) (r : ReachesGroup c maker held list commit welcome) where
  pub committer_takes : (n : ℕ) → verdict c held commit ≡ Err n → ⊥
  committer_takes n h = never _ n (verdict c held commit) r.own h

  -- a receiver that the list doesn't remove
  module _ (m : Member) (shares : ShareEpoch c maker m) (keeps : Keeps m.kept list (names_in maker.kept list)) (stays : StaysBy m list) where
    taken : SharesNext c r.next m commit
    taken = (r.receivers m shares keeps).follows stays

    pub receiver_takes : (n : ℕ) → verdict c m commit ≡ Err n → ⊥
    receiver_takes n h = never _ n (verdict c m commit) taken.is h

    pub receiver_shares : (next after : Member) (e f : Effect) → verdict c held commit ≡ Ok (e, next) → verdict c m commit ≡ Ok (f, after) → ShareEpoch c next after
    receiver_shares next after e f own other =
        subst (λ (x : Member). ShareEpoch c x after) (after_is _ e r.next next (verdict c held commit) r.own own)
        (subst (λ (x : Member). ShareEpoch c r.next x) (after_is _ f taken.after after (verdict c m commit) taken.is other) taken.shares)

  -- a candidate that it adds
  module _ (k : Candidate) (good : IsGoodCandidate c k) (added : IsAddedBy maker list k) where
    joins : JoinsNext c r.next k welcome
    joins = r.joiners k good added

    pub welcome_is : (bytes : List ℕ) × (welcome ≡ Some bytes)
    welcome_is = (joins.bytes, joins.is)

    joins_by : (bytes : List ℕ) → welcome ≡ Some bytes → join_verdict c k bytes ≡ Ok joins.joined
    joins_by bytes is = ap (join_verdict c k) (one_welcome welcome bytes joins.bytes is joins.is) ∙ joins.joins

    pub joiner_takes : (bytes : List ℕ) (n : ℕ) → welcome ≡ Some bytes → join_verdict c k bytes ≡ Err n → ⊥
    joiner_takes bytes n is h = never _ n (join_verdict c k bytes) (joins_by bytes is) h

    pub joiner_shares : (bytes : List ℕ) (next : Member) (e : Effect) (x : JoinedMember) → welcome ≡ Some bytes → verdict c held commit ≡ Ok (e, next) → join_verdict c k bytes ≡ Ok x → ShareEpoch c next x.member
    joiner_shares bytes next e x is own join =
        subst (λ (y : Member). ShareEpoch c y x.member) (after_is _ e r.next next (verdict c held commit) r.own own)
        (subst (λ (y : JoinedMember). ShareEpoch c r.next y.member) (joined_is joins.joined x (join_verdict c k bytes) (joins_by bytes is) join) joins.shares)
