-- Active members of a good world with one journal hold one public state; with a homemade one the same secrets, with any the
-- same or twins; their trees are good and their private keys exact.
use Rattle.std.proofs.Common.{◌≡◌, ℕ, true, List, [], ◌∷◌, Some, Result, Ok, refl, ap, subst, ◌∙◌, inl}
use Rattle.mls_wire.proofs.CheckLaws.{bind_ok, given_ok}
use Rattle.mls_wire.specs.Checks.{require_some}
use Rattle.mls_wire.specs.Whole.{whole}
use Rattle.mls_leaf.specs.Limits.{input_limit}
use Rattle.mls_types.specs.GroupInfo.{group_info}
use Rattle.mls_types.specs.declared.group_info.GroupInfo.{GroupInfo}
use Rattle.mls_types.specs.declared.message.MlsMessage.{MlsMessage}
use Rattle.mls_types.specs.declared.message.MlsMessage.TheVariants as message
use Rattle.mls_types.specs.declared.public_message.PublicMessage.{PublicMessage}
use Rattle.mls_types.specs.declared.signed.SignedBody.{SignedBody}
use Rattle.mls_types.specs.declared.signed.SignedBody.TheVariants as body_of
use Rattle.mls_types.specs.declared.signed.SignedContent.{SignedContent}
use Rattle.mls_suite.specs.Crypto.{Crypto, Lawful}
use Rattle.mls_model.specs.declared.origin.Origin.{Origin}
use Rattle.mls_model.specs.declared.origin.Origin.TheVariants.{Creation, GroupInfo as JoinedBy}
use Rattle.mls_model.specs.Agreement.{AgreeOrTwins}
use Rattle.mls_model.specs.Headline.{AgreeByJournal, AgreeSecretIfHomemade, AgreeByConfirmation, KeysAreExact, TreesAreGood}
use Rattle.mls_model.specs.Invariant.{tag_of_body, tag_of_message, tag_of_info, last_tag, IsGoodBy}
use Rattle.mls_model.specs.HomemadeTest.{is_homemade, is_homemade_from}
use Rattle.mls_model.specs.Journal.{Entry, Journal, CommitMade, IsHomemade}
use Rattle.mls_model.specs.Lineage.{IsReached}
use Rattle.mls_model.specs.Member.{Member}
use Rattle.mls_model.specs.Messages.{decode_message, public_in}
use Rattle.mls_model.specs.PublicState.{PublicState}
use Rattle.mls_model.specs.JournalState.{Creations, public_after_body, public_after, public_of_info, public_of}
use Rattle.mls_model.specs.World.{World}
use Rattle.mls_theorems.specs.Journals.{StandsAtJournal}
use Rattle.mls_theorems.proofs.Homemade.{made_is_homemade}
use Rattle.mls_theorems.proofs.Journals.{public_agreement, secret_agreement, last_more}
use Rattle.mls_theorems.proofs.Past.{past_along}
use Rattle.mls_theorems.proofs.Secrets.{agree_secret, one_creation, same_secret}

-- ---- where a member stands

pub stands : (c : Crypto) (creations : Creations) (w : World) (j : Journal) (m : Member) → IsReached c creations w.commits j.origin j.entries m → StandsAtJournal c creations j.origin j.entries m
stands c creations w j m r = past_along c creations w.commits j.origin j.entries m r

-- a member that was reached along a journal was along one that is equal
pub along_same : (c : Crypto) (creations : Creations) (w : World) (j l : Journal) (m : Member) → j ≡ l → IsReached c creations w.commits j.origin j.entries m → IsReached c creations w.commits l.origin l.entries m
along_same c creations w j l m e r = subst (λ (x : Journal). IsReached c creations w.commits x.origin x.entries m) e r

-- ---- one journal

pub agree_by_journal : (c : Crypto) (creations : Creations) (w : World) → IsGoodBy c creations w → AgreeByJournal w
agree_by_journal c creations w g i j s t a b e =
    let p = along_same c creations w s.journal t.journal s.member e (g.members i s a).reached in
    let q = (g.members j t b).reached in
    public_agreement c creations t.journal.origin t.journal.entries s.member t.member (stands c creations w t.journal s.member p) (stands c creations w t.journal t.member q)

-- ---- a homemade one

pub homemade_from : (made : List CommitMade) (j : Journal) → IsHomemade made j → is_homemade_from made j.origin j.entries ≡ true
unfolding is_homemade
homemade_from made j h = made_is_homemade made j h

pub secret_if_homemade : (c : Crypto) → Lawful c → (creations : Creations) (w : World) → IsGoodBy c creations w → AgreeSecretIfHomemade w
secret_if_homemade c laws creations w g i j s t a b e home =
    let p = along_same c creations w s.journal t.journal s.member e (g.members i s a).reached in
    let q = (g.members j t b).reached in
    let h : is_homemade_from w.commits t.journal.origin t.journal.entries ≡ true = homemade_from w.commits t.journal (subst (λ (x : Journal). IsHomemade w.commits x) e home) in
    agree_secret s.member t.member (same_secret c laws creations w g.records t.journal.origin t.journal.entries h s.member t.member p q)

-- ---- any

-- a journal that leads somewhere ends with a tag, a creation alone aside
tag_in_body : (c : Crypto) (p q : PublicState) (names : List (List ℕ)) (v : SignedContent) (b : SignedBody) → public_after_body c p names v b ≡ Ok q → (tag : List ℕ) × (tag_of_body b ≡ Some tag)
tag_in_body c p q names v (body_of.Application text) h = absurd cc
tag_in_body c p q names v (body_of.Proposal said) h = absurd cc
tag_in_body c p q names v (body_of.Commit commit tag) h = (tag, refl)

public_is : (w : MlsMessage) (v : PublicMessage) → public_in w ≡ Some v → w ≡ message.PublicMessage v
public_is (message.PublicMessage u) v e = cc
public_is (message.Welcome u) v e = absurd cc
public_is (message.GroupInfo u) v e = absurd cc
public_is (message.KeyPackage u) v e = absurd cc

abbrev found : MlsMessage → Result MlsMessage ℕ
found m = Ok m

tag_after : (c : Crypto) (p q : PublicState) (e : Entry) → public_after c p e ≡ Ok q → (tag : List ℕ) × (tag_of_message (decode_message e.commit) ≡ Some tag)
unfolding public_after
tag_after c p q e h =
    let s1 = bind_ok (decode_message e.commit) _ _ h in
    let s2 = bind_ok (require_some 41 (public_in s1.0)) _ _ s1.2 in
    let t = tag_in_body c p q e.named_messages s2.0.content s2.0.content.body s2.2 in
    let reads : decode_message e.commit ≡ found (message.PublicMessage s2.0) = s1.1 ∙ ap found (public_is s1.0 s2.0 (given_ok 41 (public_in s1.0) s2.0 s2.1)) in
    (t.0, ap tag_of_message reads ∙ t.1)

tag_of_entry : (c : Crypto) (creations : Creations) (origin : Origin) (e : Entry) (es : List Entry) (p : PublicState) → public_of c creations origin (e ∷ es) ≡ Ok p → (tag : List ℕ) × (last_tag origin (e ∷ es) ≡ Some tag)
unfolding public_of
tag_of_entry c creations origin e es p h =
    let s = bind_ok (public_of c creations origin es) _ _ h in
    let t = tag_after c s.0 p e s.2 in
    (t.0, last_more origin e es ∙ t.1)

abbrev info_found : GroupInfo → Result GroupInfo ℕ
info_found v = Ok v

tag_of_joined : (c : Crypto) (creations : Creations) (info : List ℕ) (p : PublicState) → public_of c creations (JoinedBy info) [] ≡ Ok p → (tag : List ℕ) × (last_tag (JoinedBy info) [] ≡ Some tag)
unfolding public_of public_of_info last_tag
tag_of_joined c creations info p h =
    let s = bind_ok (whole group_info input_limit info) _ _ h in
    (s.0.confirmation_tag, ap tag_of_info s.1)

or_twins : (c : Crypto) (creations : Creations) (w : World) (origin : Origin) (es : List Entry) (m n : Member) → IsReached c creations w.commits origin es m → IsReached c creations w.commits origin es n → StandsAtJournal c creations origin es m → StandsAtJournal c creations origin es n → AgreeOrTwins m n
or_twins c creations w (Creation k) [] m n a b p q = inl (agree_secret m n (one_creation c creations w.commits k m n a b))
or_twins c creations w (JoinedBy info) [] m n a b p q =
    let t = tag_of_joined c creations info m.public p.public in
    secret_agreement c creations (JoinedBy info) [] m n t.0 p q t.1
or_twins c creations w origin (e ∷ es) m n a b p q =
    let t = tag_of_entry c creations origin e es m.public p.public in
    secret_agreement c creations origin (e ∷ es) m n t.0 p q t.1

pub agree_by_confirmation : (c : Crypto) (creations : Creations) (w : World) → IsGoodBy c creations w → AgreeByConfirmation w
agree_by_confirmation c creations w g i j s t a b e =
    let p = along_same c creations w s.journal t.journal s.member e (g.members i s a).reached in
    let q = (g.members j t b).reached in
    or_twins c creations w t.journal.origin t.journal.entries s.member t.member p q (stands c creations w t.journal s.member p) (stands c creations w t.journal t.member q)

-- ---- keys and trees

pub keys_are_exact : (c : Crypto) (creations : Creations) (w : World) → IsGoodBy c creations w → KeysAreExact c w
keys_are_exact c creations w g k s a = (g.members k s a).good.keys

pub trees_are_good : (c : Crypto) (creations : Creations) (w : World) → IsGoodBy c creations w → TreesAreGood c w
trees_are_good c creations w g k s a = (g.members k s a).good.tree
