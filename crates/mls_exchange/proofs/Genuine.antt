-- What opens is genuine.
use Rattle.std.proofs.Common.{◌≡◌, ℕ, true, List, Some, Ok, refl, sym, ap, ◌∙◌, subst}
use Rattle.std.specs.Prelude.{codes}
use Rattle.std.specs.Str.{bytes_eq}
use Rattle.std.proofs.lemmas.Bool.{eqb-true}
use Rattle.std.proofs.lemmas.Slice.Eq.{bytes_eq-Decides}
use Rattle.mls_wire.specs.Checks.{passed}
use Rattle.mls_wire.specs.CheckLaws.{required}
use Rattle.mls_wire.specs.Laws.{bind_ok}
use Rattle.mls_wire.proofs.CheckLaws.{then_ok, require_ok, given_ok}
use Rattle.mls_wire.specs.Whole.{whole}
use Rattle.mls_leaf.specs.Limits.{input_limit}
use Rattle.mls_leaf.specs.declared.leaf.LeafNode.{LeafNode}
use Rattle.mls_suite.specs.Crypto.{Crypto}
use Rattle.mls_suite.specs.Labels.{verify_with_label}
use Rattle.mls_secret_tree.specs.SecretTree.{Drafted, draft_key}
use Rattle.mls_secret_tree.proofs.TreeLaws.{keys_are_derived}
use Rattle.mls_private_message.specs.declared.private_message.PrivateMessage.{PrivateMessage}
use Rattle.mls_private_message.specs.declared.sender_data.SenderData.{SenderData}
use Rattle.mls_private_message.specs.PrivateContent.{private_content_at}
use Rattle.mls_private_message.specs.PrivateMessage.{private_message}
use Rattle.mls_private_message.specs.Sealing.{open_sender_data, open_content}
use Rattle.mls_private_message.specs.Signing.{private_content_tbs}
use Rattle.mls_exchange.specs.declared.open.Opened.{Opened}
use Rattle.mls_exchange.specs.State.{State, member_at, after_draft}
use Rattle.mls_exchange.specs.Contents.{application_content, signed_text, within_limit}
use Rattle.mls_exchange.specs.Opening.{checks_of_place, place_checks, signature_check, data_of, opened, open_here, open_read, open_message}
use Rattle.mls_exchange.specs.Laws.{IsGenuine}
use Rattle.mls_exchange.proofs.Texts.{ok_is, IsWithin, is_within, signed_is}

-- ---- the place

record IsHere (s : State) (m : PrivateMessage) : Type 0 where
  in_group : m.group_id ≡ s.group_id
  in_epoch : m.epoch ≡ s.epoch

is_here : (s : State) (m : PrivateMessage) → place_checks s m ≡ Ok passed → IsHere s m
unfolding checks_of_place
is_here s m e =
    let p = require_ok 111 (bytes_eq m.group_id s.group_id) _ _ e in
    record { in_group = (bytes_eq-Decides m.group_id s.group_id).0 p.0; in_epoch = eqb-true m.epoch s.epoch (required 112 _ _ p.1) }

-- ---- the content

record IsSigned (c : Crypto) (s : State) (m : PrivateMessage) (sender : ℕ) (leaf : LeafNode) (application_data signature : List ℕ) : Type 0 where
  verifies : verify_with_label c leaf.signature_key (codes "FramedContentTBS")
      (private_content_tbs (application_content m.group_id m.epoch sender m.authenticated_data application_data) s.context) signature ≡ true

is_signed : (c : Crypto) (s : State) (m : PrivateMessage) (sender : ℕ) (leaf : LeafNode) (application_data signature : List ℕ)
    → signature_check c s m sender leaf application_data signature ≡ Ok passed → IsSigned c s m sender leaf application_data signature
unfolding signature_check
is_signed c s m sender leaf application_data signature e =
    let said = application_content m.group_id m.epoch sender m.authenticated_data application_data in
    let b = bind_ok (signed_text said s.context) _ _ e in
    let same = signed_is said s.context b.0 b.1 in
    let P : List ℕ → Type 0 = λ text. verify_with_label c leaf.signature_key (codes "FramedContentTBS") text signature ≡ true in
    record { verifies = subst P (sym same) (required 119 _ _ b.2) }

record Says (c : Crypto) (s : State) (m : PrivateMessage) (sender : ℕ) (leaf : LeafNode) (content application_data : List ℕ) : Type 0 where
  signature : List ℕ
  says : private_content_at content ≡ Ok (application_data, signature)
  signed : IsSigned c s m sender leaf application_data signature

says : (c : Crypto) (s : State) (m : PrivateMessage) (sender : ℕ) (leaf : LeafNode) (content application_data : List ℕ)
    → data_of c s m sender leaf content ≡ Ok application_data → Says c s m sender leaf content application_data
unfolding data_of
says c s m sender leaf content application_data e =
    let a = bind_ok (within_limit content) _ _ e in
    let w : IsWithin content a.0 = is_within content a.0 a.1 in
    let b = bind_ok (private_content_at a.0) _ _ a.2 in
    let t = then_ok (signature_check c s m sender leaf b.0.0 b.0.1) _ _ b.2 in
    let P : List ℕ → Type 0 = Says c s m sender leaf content in
    subst P (ok_is b.0.0 application_data t.1)
    (record { signature = b.0.1; says = ap private_content_at w.same ∙ b.1; signed = is_signed c s m sender leaf b.0.0 b.0.1 t.0 })

-- ---- the message

pub record IsOpening (c : Crypto) (s : State) (bytes : List ℕ) (o : Opened) (after : State) : Type 0 where
  pub genuine : IsGenuine c s bytes o
  pub is_after : after_draft s genuine.draft ≡ after

-- the parts of an opening that succeeded
record AreParts (c : Crypto) (s : State) (m : PrivateMessage) (sender : SenderData) (leaf : LeafNode) (draft : Drafted) (content application_data : List ℕ) : Type 0 where
  here : IsHere s m
  is_sent : open_sender_data c s.sender_data_secret m ≡ Ok sender
  stands : member_at s.nodes sender.leaf_index ≡ Some leaf
  drafted : draft_key s.keys sender.leaf_index sender.generation ≡ Ok draft
  opens : open_content c draft.key sender.reuse_guard m ≡ Ok content
  said : Says c s m sender.leaf_index leaf content application_data

genuine : (c : Crypto) (s : State) (bytes : List ℕ) (m : PrivateMessage) (sender : SenderData) (leaf : LeafNode) (draft : Drafted) (content application_data : List ℕ)
    → whole private_message input_limit bytes ≡ Ok m → AreParts c s m sender leaf draft content application_data
    → IsOpening c s bytes (opened m sender leaf application_data) (after_draft s draft)
unfolding opened
genuine c s bytes m sender leaf draft content application_data read parts =
    let F : List ℕ → ℕ → Type 0 = λ group_id epoch. verify_with_label c leaf.signature_key (codes "FramedContentTBS")
    (private_content_tbs (application_content group_id epoch sender.leaf_index m.authenticated_data application_data) s.context) parts.said.signature ≡ true in
    let at_group : F s.group_id m.epoch = subst (λ (x : List ℕ). F x m.epoch) parts.here.in_group parts.said.signed.verifies in
    record {
      genuine = record {
        message = m;
        sender = sender;
        leaf = leaf;
        draft = draft;
        content = content;
        signature = parts.said.signature;
        is_read = read;
        in_group = parts.here.in_group;
        in_epoch = parts.here.in_epoch;
        is_sent = parts.is_sent;
        from_leaf = refl;
        in_generation = refl;
        stands = parts.stands;
        identity = refl;
        drafted = parts.drafted;
        derived = λ secret of. (keys_are_derived secret s.keys sender.leaf_index sender.generation draft of parts.drafted).key;
        opens = parts.opens;
        says = parts.said.says;
        adds = refl;
        verifies = subst (λ (x : ℕ). F s.group_id x) parts.here.in_epoch at_group;
      };
      is_after = refl;
    }

pub is_opening : (c : Crypto) (s : State) (bytes : List ℕ) (o : Opened) (after : State) → open_message c s bytes ≡ Ok (o, after) → IsOpening c s bytes o after
unfolding open_message open_read open_here
is_opening c s bytes o after e =
    let read = bind_ok (whole private_message input_limit bytes) _ _ e in
    let m = read.0 in
    let place = then_ok (place_checks s m) _ _ read.2 in
    let sent = bind_ok (open_sender_data c s.sender_data_secret m) _ _ place.1 in
    let stands = bind_ok _ _ _ sent.2 in
    let drafted = bind_ok (draft_key s.keys sent.0.leaf_index sent.0.generation) _ _ stands.2 in
    let opens = bind_ok (open_content c drafted.0.key sent.0.reuse_guard m) _ _ drafted.2 in
    let said = bind_ok (data_of c s m sent.0.leaf_index stands.0 opens.0) _ _ opens.2 in
    let parts : AreParts c s m sent.0 stands.0 drafted.0 opens.0 said.0 = record {
      here = is_here s m place.0;
      is_sent = sent.1;
      stands = given_ok 114 (member_at s.nodes sent.0.leaf_index) stands.0 stands.1;
      drafted = drafted.1;
      opens = opens.1;
      said = says c s m sent.0.leaf_index stands.0 opens.0 said.0 said.1;
    } in
    let same = ok_is (opened m sent.0 stands.0 said.0, after_draft s drafted.0) (o, after) said.2 in
    subst (λ (x : Opened × State). IsOpening c s bytes x.0 x.1) same (genuine c s bytes m sent.0 stands.0 drafted.0 opens.0 said.0 read.1 parts)
