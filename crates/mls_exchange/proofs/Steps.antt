-- Sealing and opening, step by step: where a step refuses, the call does.
use Rattle.std.proofs.Common.{◌≡◌, ◌≢◌, ℕ, true, false, List, Some, None, Result, Ok, Err, refl, sym, ap, ◌∙◌}
use Rattle.std.specs.Prelude.{codes}
use Rattle.mls_wire.specs.Checks.{passed, ◌>>◌}
use Rattle.mls_wire.specs.Reading.{◌>>=◌}
use Rattle.mls_wire.specs.declared.WireError.TheVariants as wire
use Rattle.mls_wire.specs.Whole.{whole}
use Rattle.mls_leaf.specs.declared.error.LeafError.{LeafError}
use Rattle.mls_leaf.specs.declared.error.LeafError.TheVariants.{Wire, BadTag, UnsupportedCredential, UnsupportedProposal, NotRising, ExtensionNotAllowed}
use Rattle.mls_leaf.specs.Faults.{Fails, number_of}
use Rattle.mls_leaf.specs.Limits.{input_limit}
use Rattle.mls_leaf.specs.declared.leaf.LeafNode.{LeafNode}
use Rattle.mls_suite.specs.Crypto.{Crypto}
use Rattle.mls_suite.specs.Labels.{sign_with_label, verify_with_label}
use Rattle.mls_secret_tree.specs.declared.secrets.MessageKey.{MessageKey}
use Rattle.mls_secret_tree.specs.SecretTree.{Tree, Drafted, draft_key, keep_draft, next_generation}
use Rattle.mls_private_message.specs.declared.private_message.PrivateMessage.{PrivateMessage}
use Rattle.mls_private_message.specs.declared.sender_data.SenderData.{SenderData}
use Rattle.mls_private_message.specs.PrivateContent.{private_content, private_content_at}
use Rattle.mls_private_message.specs.PrivateMessage.{private_message}
use Rattle.mls_private_message.specs.Sealing.{open_sender_data, open_content}
use Rattle.mls_exchange.specs.declared.exchange.Parts.{Parts}
use Rattle.mls_exchange.specs.Parts.{state_of}
use Rattle.mls_exchange.specs.State.{State, member_at, after_draft}
use Rattle.mls_exchange.specs.Contents.{application_content, signed_text, within_limit}
use Rattle.mls_exchange.specs.Sealing.{own_sender_data, own_signature, own_content, message_under, are_short, reuse_guard, sealing_checks, seal_message}
use Rattle.mls_exchange.specs.Opening.{place_checks, arrival_checks, signature_check, data_of, opened, open_here, open_read, open_message}

-- ---- sealing

pub spent : (s : State) (d a : List ℕ) (padding : ℕ) → next_generation s.keys s.leaf ≡ None → sealing_checks s d a padding ≡ Err 110
unfolding sealing_checks
spent s d a padding e = rw e refl

pub long_argument : (s : State) (d a : List ℕ) (padding g : ℕ) → next_generation s.keys s.leaf ≡ Some g → are_short d a padding ≡ false → sealing_checks s d a padding ≡ Err 6
unfolding sealing_checks
long_argument s d a padding g e f = rw (e, f) refl

pub takes : (s : State) (d a : List ℕ) (padding g : ℕ) → next_generation s.keys s.leaf ≡ Some g → are_short d a padding ≡ true → sealing_checks s d a padding ≡ Ok g
unfolding sealing_checks
takes s d a padding g e f = rw (e, f) refl

pub unsigned : (c : Crypto) (s : State) (d a : List ℕ) (n : ℕ) → signed_text (application_content s.group_id s.epoch s.leaf a d) s.context ≡ Err n
    → own_signature c s d a ≡ Err n
unfolding own_signature
unsigned c s d a n e = rw e refl

pub signs : (c : Crypto) (s : State) (d a text : List ℕ) → signed_text (application_content s.group_id s.epoch s.leaf a d) s.context ≡ Ok text
    → own_signature c s d a ≡ Ok (sign_with_label c s.signing (codes "FramedContentTBS") text)
unfolding own_signature
signs c s d a text e = rw e refl

pub content_unsigned : (c : Crypto) (s : State) (d a : List ℕ) (padding n : ℕ) → own_signature c s d a ≡ Err n → own_content c s d a padding ≡ Err n
unfolding own_content
content_unsigned c s d a padding n e = rw e refl

pub content_signed : (c : Crypto) (s : State) (d a : List ℕ) (padding : ℕ) (signature : List ℕ) → own_signature c s d a ≡ Ok signature
    → own_content c s d a padding ≡ within_limit (private_content d signature padding)
unfolding own_content
content_signed c s d a padding signature e = rw e refl

module _ (c : Crypto) (s : State) (d a : List ℕ) (padding : ℕ) (seed : List ℕ) where
  pub not_sealed : (n : ℕ) → sealing_checks s d a padding ≡ Err n → seal_message c s d a padding seed ≡ Err n
  unfolding seal_message
  not_sealed n e = rw e refl

  pub without_key : (g n : ℕ) → sealing_checks s d a padding ≡ Ok g → draft_key s.keys s.leaf g ≡ Err n → seal_message c s d a padding seed ≡ Err n
  unfolding seal_message
  without_key g n e f = rw (e, f) refl

  pub without_content : (g : ℕ) (draft : Drafted) (n : ℕ) → sealing_checks s d a padding ≡ Ok g → draft_key s.keys s.leaf g ≡ Ok draft
      → own_content c s d a padding ≡ Err n → seal_message c s d a padding seed ≡ Err n
  unfolding seal_message
  without_content g draft n e f h = rw (e, f, h) refl

  pub without_message : (g : ℕ) (draft : Drafted) (content : List ℕ) (n : ℕ) → sealing_checks s d a padding ≡ Ok g → draft_key s.keys s.leaf g ≡ Ok draft
      → own_content c s d a padding ≡ Ok content → message_under c s draft.key (own_sender_data s g seed) a content ≡ Err n
      → seal_message c s d a padding seed ≡ Err n
  unfolding seal_message
  without_message g draft content n e f h i = rw (e, f, h, i) refl

  pub seals : (g : ℕ) (draft : Drafted) (content bytes : List ℕ) → sealing_checks s d a padding ≡ Ok g → draft_key s.keys s.leaf g ≡ Ok draft
      → own_content c s d a padding ≡ Ok content → message_under c s draft.key (own_sender_data s g seed) a content ≡ Ok bytes
      → seal_message c s d a padding seed ≡ Ok (bytes, after_draft s draft)
  unfolding seal_message
  seals g draft content bytes e f h i = rw (e, f, h, i) refl

-- the own sender data, as code makes it
pub under_same : (c : Crypto) (s : State) (k j : MessageKey) (leaf g guard : ℕ) (seed a x y : List ℕ) → k ≡ j → leaf ≡ s.leaf → guard ≡ reuse_guard seed → x ≡ y
    → message_under c s k (record { leaf_index = leaf; generation = g; reuse_guard = guard }) a x ≡ message_under c s j (own_sender_data s g seed) a y
under_same c s k j leaf g guard seed a x y e f h i = rw (e, f, h, i) refl

-- ---- opening

module _ (c : Crypto) (s : State) (m : PrivateMessage) (sender : ℕ) (leaf : LeafNode) where
  pub no_text : (d signature : List ℕ) (n : ℕ) → signed_text (application_content m.group_id m.epoch sender m.authenticated_data d) s.context ≡ Err n
      → signature_check c s m sender leaf d signature ≡ Err n
  unfolding signature_check
  no_text d signature n e = rw e refl

  pub verifies : (d signature text : List ℕ) → signed_text (application_content m.group_id m.epoch sender m.authenticated_data d) s.context ≡ Ok text
      → verify_with_label c leaf.signature_key (codes "FramedContentTBS") text signature ≡ true → signature_check c s m sender leaf d signature ≡ Ok passed
  unfolding signature_check
  verifies d signature text e f = rw (e, f) refl

  pub not_verified : (d signature text : List ℕ) → signed_text (application_content m.group_id m.epoch sender m.authenticated_data d) s.context ≡ Ok text
      → verify_with_label c leaf.signature_key (codes "FramedContentTBS") text signature ≡ false → signature_check c s m sender leaf d signature ≡ Err 119
  unfolding signature_check
  not_verified d signature text e f = rw (e, f) refl

  pub too_large : (content : List ℕ) (n : ℕ) → within_limit content ≡ Err n → data_of c s m sender leaf content ≡ Err n
  unfolding data_of
  too_large content n e = rw e refl

  pub not_read : (content bytes : List ℕ) (n : ℕ) → within_limit content ≡ Ok bytes → private_content_at bytes ≡ Err n → data_of c s m sender leaf content ≡ Err n
  unfolding data_of
  not_read content bytes n e f = rw (e, f) refl

  pub not_signed : (content bytes d signature : List ℕ) (n : ℕ) → within_limit content ≡ Ok bytes → private_content_at bytes ≡ Ok (d, signature)
      → signature_check c s m sender leaf d signature ≡ Err n → data_of c s m sender leaf content ≡ Err n
  unfolding data_of
  not_signed content bytes d signature n e f h = rw (e, f, h) refl

  pub says : (content bytes d signature : List ℕ) → within_limit content ≡ Ok bytes → private_content_at bytes ≡ Ok (d, signature)
      → signature_check c s m sender leaf d signature ≡ Ok passed → data_of c s m sender leaf content ≡ Ok d
  unfolding data_of
  says content bytes d signature e f h = rw (e, f, h) refl

module _ (c : Crypto) (s : State) (m : PrivateMessage) where
  pub no_sender : (n : ℕ) → open_sender_data c s.sender_data_secret m ≡ Err n → open_here c s m ≡ Err n
  unfolding open_here
  no_sender n f = rw f refl

  pub no_leaf : (sender : SenderData) → open_sender_data c s.sender_data_secret m ≡ Ok sender
      → member_at s.nodes sender.leaf_index ≡ None → open_here c s m ≡ Err 114
  unfolding open_here
  no_leaf sender f h = rw (f, h) refl

  pub no_key : (sender : SenderData) (leaf : LeafNode) (n : ℕ) → open_sender_data c s.sender_data_secret m ≡ Ok sender
      → member_at s.nodes sender.leaf_index ≡ Some leaf → draft_key s.keys sender.leaf_index sender.generation ≡ Err n → open_here c s m ≡ Err n
  unfolding open_here
  no_key sender leaf n f h i = rw (f, h, i) refl

  pub no_content : (sender : SenderData) (leaf : LeafNode) (draft : Drafted) (n : ℕ) → open_sender_data c s.sender_data_secret m ≡ Ok sender → member_at s.nodes sender.leaf_index ≡ Some leaf
      → draft_key s.keys sender.leaf_index sender.generation ≡ Ok draft → open_content c draft.key sender.reuse_guard m ≡ Err n → open_here c s m ≡ Err n
  unfolding open_here
  no_content sender leaf draft n f h i j = rw (f, h, i, j) refl

  pub no_data : (sender : SenderData) (leaf : LeafNode) (draft : Drafted) (content : List ℕ) (n : ℕ) → open_sender_data c s.sender_data_secret m ≡ Ok sender → member_at s.nodes sender.leaf_index ≡ Some leaf
      → draft_key s.keys sender.leaf_index sender.generation ≡ Ok draft → open_content c draft.key sender.reuse_guard m ≡ Ok content
      → data_of c s m sender.leaf_index leaf content ≡ Err n → open_here c s m ≡ Err n
  unfolding open_here
  no_data sender leaf draft content n f h i j k = rw (f, h, i, j, k) refl

-- where no step refuses, this is what was opened
pub opens : (c : Crypto) (s : State) (m : PrivateMessage) (sender : SenderData) (leaf : LeafNode) (draft : Drafted) (content d identity : List ℕ)
    → open_sender_data c s.sender_data_secret m ≡ Ok sender → member_at s.nodes sender.leaf_index ≡ Some leaf
    → draft_key s.keys sender.leaf_index sender.generation ≡ Ok draft → open_content c draft.key sender.reuse_guard m ≡ Ok content
    → data_of c s m sender.leaf_index leaf content ≡ Ok d → identity ≡ leaf.credential.identity
    → open_here c s m ≡ Ok (
      record {
        leaf_index = sender.leaf_index;
        identity = identity;
        generation = sender.generation;
        application_data = d;
        authenticated_data = m.authenticated_data;
      },
      after_draft s draft,
    )
unfolding open_here opened
opens c s m sender leaf draft content d identity f h i j k same = rw (f, h, i, j, k, same) refl

-- the parts once their keys were replaced
pub after_keep : (s : State) (d : Drafted) (p : Parts) (keys : Tree) → state_of p ≡ s → keys ≡ keep_draft p.keys d
    → after_draft s d ≡ state_of (record p { keys = keys })
unfolding after_draft
after_keep s d p keys v e = ap (λ (x : State). after_draft x d) (sym v) ∙ ap (λ (k : Tree). state_of (record p { keys = k })) (sym e)

-- memory aside, a reading that failed has the number of its fault
pub fault_of : {A : Type 0} (e : LeafError) (r : Result A ℕ) → Fails e r → number_of e ≢ 1 → r ≡ Err (number_of e)
fault_of (Wire wire.OutOfMemory) r h ne = absurd (ne refl)
fault_of (Wire wire.Truncated) r h ne = h
fault_of (Wire wire.Trailing) r h ne = h
fault_of (Wire wire.BadLength) r h ne = h
fault_of (Wire wire.NotMinimal) r h ne = h
fault_of (Wire wire.TooLong) r h ne = h
fault_of BadTag r h ne = h
fault_of UnsupportedCredential r h ne = h
fault_of UnsupportedProposal r h ne = h
fault_of NotRising r h ne = h
fault_of ExtensionNotAllowed r h ne = h

-- ---- what arrives

pub not_decoded : (c : Crypto) (s : State) (bytes : List ℕ) (n : ℕ) → whole private_message input_limit bytes ≡ Err n → open_message c s bytes ≡ Err n
unfolding open_message
not_decoded c s bytes n e = rw e refl

pub not_arrived : (c : Crypto) (s : State) (bytes : List ℕ) (n : ℕ) → arrival_checks s bytes ≡ Err n → open_message c s bytes ≡ Err n
unfolding open_message arrival_checks open_read
not_arrived c s bytes n e = elsewhere (whole private_message input_limit bytes) e
  where
    elsewhere : (r : Result PrivateMessage ℕ) → (r >>= λ m. place_checks s m) ≡ Err n → (r >>= λ m. place_checks s m >> open_here c s m) ≡ Err n
    elsewhere (Ok m) e = rw e refl
    elsewhere (Err k) e = cc

pub arrived : (c : Crypto) (s : State) (bytes : List ℕ) (m : PrivateMessage) → arrival_checks s bytes ≡ Ok passed → whole private_message input_limit bytes ≡ Ok m
    → open_message c s bytes ≡ open_here c s m
unfolding open_message arrival_checks open_read
arrived c s bytes m e is =
    let here : place_checks s m ≡ Ok passed = sym (ap (λ (r : Result PrivateMessage ℕ). r >>= λ m. place_checks s m) is) ∙ e in
    rw (is, here) refl

-- a message of the group and epoch
pub opened_here : (c : Crypto) (s : State) (bytes : List ℕ) (m : PrivateMessage) → whole private_message input_limit bytes ≡ Ok m → place_checks s m ≡ Ok passed
    → open_message c s bytes ≡ open_here c s m
unfolding open_message open_read
opened_here c s bytes m is e = rw (is, e) refl
