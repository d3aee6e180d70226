-- What is sealed arrives.
use Rattle.std.proofs.Common.{◌≡◌, ℕ, ◌≤◌, true, List, length, Some, Ok, refl, sym, ap, ◌∙◌, subst, arith}
use Rattle.std.specs.Prelude.{codes}
use Rattle.std.proofs.lemmas.Bool.{eq-eqb}
use Rattle.std.proofs.lemmas.Slice.Eq.{bytes_eq-Decides}
use Rattle.mls_wire.specs.Checks.{passed}
use Rattle.mls_wire.specs.Whole.{whole}
use Rattle.mls_leaf.specs.Faults.{Spells}
use Rattle.mls_leaf.specs.Limits.{input_limit}
use Rattle.mls_leaf.specs.declared.leaf.LeafNode.{LeafNode}
use Rattle.mls_leaf.proofs.WholeLaws.{whole_again}
use Rattle.mls_suite.specs.Crypto.{Crypto, Lawful}
use Rattle.mls_suite.specs.Labels.{sign_with_label, verify_with_label}
use Rattle.mls_secret_tree.specs.declared.secrets.MessageKey.{MessageKey}
use Rattle.mls_secret_tree.specs.Secrets.{application_key}
use Rattle.mls_secret_tree.specs.SecretTree.{Drafted, draft_key, next_generation}
use Rattle.mls_secret_tree.proofs.TreeLaws.{keys_are_derived, each_is_answered}
use Rattle.mls_private_message.specs.declared.private_message.PrivateMessage.{PrivateMessage}
use Rattle.mls_private_message.specs.declared.sender_data.SenderData.{SenderData}
use Rattle.mls_private_message.specs.PrivateContent.{private_content, private_content_at}
use Rattle.mls_private_message.specs.PrivateMessage.{private_message}
use Rattle.mls_private_message.specs.Sealing.{open_sender_data, open_content}
use Rattle.mls_private_message.specs.Laws.{OpensAsSealed}
use Rattle.mls_private_message.proofs.Contents.{is_read_as_written}
use Rattle.mls_private_message.proofs.Sealed.{opens}
use Rattle.mls_exchange.specs.declared.open.Opened.{Opened}
use Rattle.mls_exchange.specs.State.{State, member_at, after_draft}
use Rattle.mls_exchange.specs.Contents.{application_content, signed_text, within_limit}
use Rattle.mls_exchange.specs.Sealing.{own_sender_data, seal_message}
use Rattle.mls_exchange.specs.Opening.{checks_of_place, place_checks, signature_check, data_of, opened, open_here, open_read, open_message}
use Rattle.mls_exchange.specs.Laws.{IsInRange, OfOneEpoch, IsOwnLeaf, CanOpen, Arrives}
use Rattle.mls_exchange.proofs.Texts.{within}
use Rattle.mls_exchange.proofs.Spelled.{message_fits, content_fits, guard_small, sender_fits}
use Rattle.mls_exchange.proofs.Sealed.{own_text, signature_of, message_of, IsSealing, is_sealing, next_small, some_is}
use Rattle.mls_exchange.proofs.Uses.{uses, held_inside}

-- ---- opening, from its parts

pub here : (r : State) (m : PrivateMessage) → m.group_id ≡ r.group_id → m.epoch ≡ r.epoch → place_checks r m ≡ Ok passed
unfolding checks_of_place
here r m g e =
    let same_group = (bytes_eq-Decides m.group_id r.group_id).1 g in
    let same_epoch = eq-eqb m.epoch r.epoch e in
    rw (same_group, same_epoch) refl

signed : (c : Crypto) (r : State) (m : PrivateMessage) (sender : ℕ) (leaf : LeafNode) (application_data signature text : List ℕ)
    → signed_text (application_content m.group_id m.epoch sender m.authenticated_data application_data) r.context ≡ Ok text
    → verify_with_label c leaf.signature_key (codes "FramedContentTBS") text signature ≡ true
    → signature_check c r m sender leaf application_data signature ≡ Ok passed
unfolding signature_check
signed c r m sender leaf application_data signature text t v = rw (t, v) refl

says : (c : Crypto) (r : State) (m : PrivateMessage) (sender : ℕ) (leaf : LeafNode) (content application_data signature : List ℕ)
    → within_limit content ≡ Ok content → private_content_at content ≡ Ok (application_data, signature)
    → signature_check c r m sender leaf application_data signature ≡ Ok passed
    → data_of c r m sender leaf content ≡ Ok application_data
unfolding data_of
says c r m sender leaf content application_data signature w p s = rw (w, p, s) refl

opens_read : (c : Crypto) (r : State) (m : PrivateMessage) (sender : SenderData) (leaf : LeafNode) (draft : Drafted) (content application_data : List ℕ)
    → place_checks r m ≡ Ok passed → open_sender_data c r.sender_data_secret m ≡ Ok sender → member_at r.nodes sender.leaf_index ≡ Some leaf
    → draft_key r.keys sender.leaf_index sender.generation ≡ Ok draft → open_content c draft.key sender.reuse_guard m ≡ Ok content
    → data_of c r m sender.leaf_index leaf content ≡ Ok application_data
    → open_read c r m ≡ Ok (opened m sender leaf application_data, after_draft r draft)
unfolding open_read open_here
opens_read c r m sender leaf draft content application_data a b d e f g = rw (a, b, d, e, f, g) refl

reads : (c : Crypto) (r : State) (bytes : List ℕ) (m : PrivateMessage) (x : Opened × State) → whole private_message input_limit bytes ≡ Ok m → open_read c r m ≡ Ok x
    → open_message c r bytes ≡ Ok x
unfolding open_message
reads c r bytes m x w e = rw (w, e) refl

-- ---- the parts of what was sealed

-- both have one key
record HasKey (r : State) (leaf g : ℕ) (key : MessageKey) : Type 0 where
  draft : Drafted
  drafted : draft_key r.keys leaf g ≡ Ok draft
  same : key ≡ draft.key

has_key : (secret : List ℕ) (s r : State) (leaf g : ℕ) (d : Drafted) → OfOneEpoch secret s r → draft_key s.keys leaf g ≡ Ok d → CanOpen r leaf g → HasKey r leaf g d.key
has_key secret s r leaf g d share e can =
    let x = (each_is_answered secret r.keys leaf g share.other_of).drafted (held_inside r.keys leaf g can.held) can.near can.held in
    let own = (keys_are_derived secret s.keys leaf g d share.of e).key in
    let other = (keys_are_derived secret r.keys leaf g x.0 share.other_of x.1).key in
    record {
      draft = x.0;
      drafted = x.1;
      same = own ∙ ap (λ (h : ℕ). application_key secret h leaf g) (sym share.height) ∙ sym other;
    }

verified : (c : Crypto) → Lawful c → (s : State) (leaf : LeafNode) (application_data authenticated_data : List ℕ) → IsOwnLeaf c s leaf
    → verify_with_label c leaf.signature_key (codes "FramedContentTBS") (own_text s application_data authenticated_data) (signature_of c s application_data authenticated_data) ≡ true
unfolding sign_with_label verify_with_label
verified c laws s leaf d a own =
    ap (λ (k : List ℕ). verify_with_label c k (codes "FramedContentTBS") (own_text s d a) (signature_of c s d a)) own.signature_key
    ∙ laws.verifies s.signing _

-- ---- arriving

arrived : (c : Crypto) → Lawful c → (secret : List ℕ) (s after r : State) (leaf : LeafNode) (application_data authenticated_data : List ℕ) (padding : ℕ) (seed bytes : List ℕ)
    → IsInRange s → OfOneEpoch secret s r → IsOwnLeaf c s leaf
    → (x : IsSealing c s application_data authenticated_data padding seed bytes after) → CanOpen r s.leaf x.generation
    → Arrives c s r leaf x.generation application_data authenticated_data bytes
unfolding opened
arrived c laws secret s after r leaf d a padding seed bytes range share own x can =
    let g = x.generation in
    let sender : SenderData = own_sender_data s g seed in
    let m : PrivateMessage = message_of c s x.draft.key g seed a x.content in
    let k : HasKey r s.leaf g x.draft.key = has_key secret s r s.leaf g x.draft share x.drafted can in
    let fits = sender_fits sender range.leaf (next_small s.keys s.leaf g x.next) (guard_small seed) in
    let o : OpensAsSealed c s.sender_data_secret x.draft.key sender x.content m =
    opens c laws s.sender_data_secret x.draft.key sender s.group_id s.epoch a x.content fits in
    let short : length (private_message.spell m) ≤ input_limit = subst (λ (b : List ℕ). length b ≤ input_limit) (sym x.spelled) x.short in
    let spells : Spells private_message m bytes = record { fits = message_fits m range.epoch (omega (arith, short)); spelled = sym x.spelled } in
    let read : whole private_message input_limit bytes ≡ Ok m = whole_again private_message input_limit bytes m spells x.short in
    let content_short : length (private_content d (signature_of c s d a) padding) ≤ input_limit =
    subst (λ (b : List ℕ). length b ≤ input_limit) (sym x.has.is) x.has.short in
    let written : private_content_at x.content ≡ Ok (d, signature_of c s d a) =
    ap private_content_at (sym x.has.is)
    ∙ (is_read_as_written d (signature_of c s d a)).read padding (content_fits d (signature_of c s d a) padding (omega (arith, content_short))) in
    let text : signed_text (application_content s.group_id s.epoch s.leaf a d) r.context ≡ Ok (own_text s d a) =
    ap (λ (z : List ℕ). signed_text (application_content s.group_id s.epoch s.leaf a d) z) share.context ∙ x.has.signed in
    let said = says c r m s.leaf leaf x.content d (signature_of c s d a) (within x.content x.has.short) written
    (signed c r m s.leaf leaf d (signature_of c s d a) (own_text s d a) text (verified c laws s leaf d a own)) in
    let sent : open_sender_data c r.sender_data_secret m ≡ Ok sender =
    ap (λ (z : List ℕ). open_sender_data c z m) share.sender_data_secret ∙ o.sender_data in
    let stands : member_at r.nodes s.leaf ≡ Some leaf = ap (λ n. member_at n s.leaf) share.nodes ∙ own.stands in
    let content : open_content c k.draft.key sender.reuse_guard m ≡ Ok x.content =
    ap (λ (z : MessageKey). open_content c z sender.reuse_guard m) (sym k.same) ∙ o.content in
    let all = opens_read c r m sender leaf k.draft x.content d (here r m (sym share.group_id) (sym share.epoch)) sent stands k.drafted content said in
    record {
      after = after_draft r k.draft;
      opens = reads c r bytes m _ read all;
      uses = uses secret r s.leaf g k.draft share.other_of k.drafted;
    }

pub sealed_arrives : (c : Crypto) → Lawful c → (secret : List ℕ) (s after r : State) (leaf : LeafNode) (application_data authenticated_data : List ℕ) (padding : ℕ)
    (seed bytes : List ℕ) (generation : ℕ)
    → IsInRange s → OfOneEpoch secret s r → IsOwnLeaf c s leaf
    → seal_message c s application_data authenticated_data padding seed ≡ Ok (bytes, after)
    → next_generation s.keys s.leaf ≡ Some generation → CanOpen r s.leaf generation
    → Arrives c s r leaf generation application_data authenticated_data bytes
sealed_arrives c laws secret s after r leaf d a padding seed bytes generation range share own e next can =
    let x = is_sealing c s d a padding seed bytes after e in
    let same : x.generation ≡ generation = some_is x.generation generation (sym x.next ∙ next) in
    subst (λ (g : ℕ). Arrives c s r leaf g d a bytes) same
    (arrived c laws secret s after r leaf d a padding seed bytes range share own x (subst (CanOpen r s.leaf) (sym same) can))
