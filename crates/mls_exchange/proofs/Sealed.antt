-- What a sealing that succeeded made, step by step.
use Rattle.std.proofs.Common.{◌≡◌, ℕ, ◌<◌, ◌≤◌, ◌^◌, inl, inr, List, length, Option, Some, None, Result, Ok, refl, sym, ap, ◌∙◌, subst}
use Rattle.std.specs.Prelude.{codes, nat_lt}
use Rattle.std.proofs.lemmas.Bool.{ltb-true}
use Rattle.mls_wire.specs.Laws.{bind_ok, chosen}
use Rattle.mls_wire.proofs.CheckLaws.{require_ok, given_ok}
use Rattle.mls_leaf.specs.Limits.{input_limit}
use Rattle.mls_suite.specs.Crypto.{Crypto}
use Rattle.mls_suite.specs.Labels.{sign_with_label}
use Rattle.mls_treemath.specs.Paths.{leaf_path}
use Rattle.mls_secret_tree.specs.Held.{next_below}
use Rattle.mls_secret_tree.specs.SecretTree.{Tree, Drafted, draft_key, next_generation, in_32_bits}
use Rattle.mls_secret_tree.specs.declared.secrets.MessageKey.{MessageKey}
use Rattle.mls_private_message.specs.declared.private_message.PrivateMessage.{PrivateMessage}
use Rattle.mls_private_message.specs.PrivateContent.{private_content}
use Rattle.mls_private_message.specs.PrivateMessage.{private_message}
use Rattle.mls_private_message.specs.Signing.{private_content_tbs}
use Rattle.mls_private_message.specs.Laws.{sealed_message}
use Rattle.mls_exchange.specs.State.{State, after_draft}
use Rattle.mls_exchange.specs.Contents.{application_content, signed_text}
use Rattle.mls_exchange.specs.Sealing.{own_sender_data, own_signature, own_content, message_under, are_short, sealing_checks, seal_message}
use Rattle.mls_exchange.proofs.Texts.{ok_is, IsWithin, is_within, signed_is}

pub some_is : (x y : ℕ) → (let some : ℕ → Option ℕ = λ z. Some z in some x ≡ some y) → x ≡ y
some_is x y e = cc

small : (n g : ℕ) → in_32_bits n ≡ Some g → g < 2 ^ 32
unfolding in_32_bits
small n g e = elim (chosen (nat_lt n (2 ^ 32)) (Some n) None (Some g) e) [
  | inl right ↦ subst (λ (x : ℕ). x < 2 ^ 32) (some_is n g right.1) (ltb-true n (2 ^ 32) right.0)
  | inr wrong ↦ (let impossible = wrong.1 in absurd cc)
]

-- a generation has 32 bits
pub next_small : (t : Tree) (leaf g : ℕ) → next_generation t leaf ≡ Some g → g < 2 ^ 32
unfolding next_generation
next_small t leaf g e = elim (chosen (nat_lt leaf (2 ^ t.height)) (in_32_bits (next_below t.root (leaf_path t.height leaf))) None (Some g) e) [
  | inl right ↦ small (next_below t.root (leaf_path t.height leaf)) g right.1
  | inr wrong ↦ (let impossible = wrong.1 in absurd cc)
]

-- what is signed, and the signature
abbrev pub own_text : State → List ℕ → List ℕ → List ℕ
own_text s application_data authenticated_data =
    private_content_tbs (application_content s.group_id s.epoch s.leaf authenticated_data application_data) s.context

abbrev pub signature_of : Crypto → State → List ℕ → List ℕ → List ℕ
signature_of c s application_data authenticated_data = sign_with_label c s.signing (codes "FramedContentTBS") (own_text s application_data authenticated_data)

pub record HasContent (c : Crypto) (s : State) (application_data authenticated_data : List ℕ) (padding : ℕ) (content : List ℕ) : Type 0 where
  pub signed : signed_text (application_content s.group_id s.epoch s.leaf authenticated_data application_data) s.context ≡ Ok (own_text s application_data authenticated_data)
  pub is : private_content application_data (signature_of c s application_data authenticated_data) padding ≡ content
  pub short : length content ≤ input_limit

pub has_content : (c : Crypto) (s : State) (application_data authenticated_data : List ℕ) (padding : ℕ) (content : List ℕ)
    → own_content c s application_data authenticated_data padding ≡ Ok content → HasContent c s application_data authenticated_data padding content
unfolding own_content own_signature
has_content c s application_data authenticated_data padding content e =
    let said = application_content s.group_id s.epoch s.leaf authenticated_data application_data in
    let a = bind_ok (own_signature c s application_data authenticated_data) _ _ e in
    let t = bind_ok (signed_text said s.context) _ _ a.1 in
    let same = signed_is said s.context t.0 t.1 in
    let signature : signature_of c s application_data authenticated_data ≡ a.0 =
    ap (λ (x : List ℕ). sign_with_label c s.signing (codes "FramedContentTBS") x) same ∙ ok_is _ _ t.2 in
    let w : IsWithin (private_content application_data a.0 padding) content = is_within _ _ a.2 in
    let is : private_content application_data (signature_of c s application_data authenticated_data) padding ≡ content =
    ap (λ (x : List ℕ). private_content application_data x padding) signature ∙ w.same in
    record {
      signed = t.1 ∙ ap (λ (x : List ℕ). let ok : List ℕ → Result (List ℕ) ℕ = λ z. Ok z in ok x) (sym same);
      is = is;
      short = subst (λ (x : List ℕ). length x ≤ input_limit) w.same w.short;
    }

abbrev pub message_of : Crypto → State → MessageKey → ℕ → List ℕ → List ℕ → List ℕ → PrivateMessage
message_of c s key generation seed authenticated_data content =
    sealed_message c s.sender_data_secret key (own_sender_data s generation seed) s.group_id s.epoch authenticated_data content

pub record IsSealing (c : Crypto) (s : State) (application_data authenticated_data : List ℕ) (padding : ℕ) (seed bytes : List ℕ) (after : State) : Type 0 where
  pub generation : ℕ
  pub draft : Drafted
  pub content : List ℕ
  pub next : next_generation s.keys s.leaf ≡ Some generation
  pub drafted : draft_key s.keys s.leaf generation ≡ Ok draft
  pub has : HasContent c s application_data authenticated_data padding content
  pub spelled : private_message.spell (message_of c s draft.key generation seed authenticated_data content) ≡ bytes
  pub short : length bytes ≤ input_limit
  pub is_after : after_draft s draft ≡ after

pub is_sealing : (c : Crypto) (s : State) (application_data authenticated_data : List ℕ) (padding : ℕ) (seed bytes : List ℕ) (after : State)
    → seal_message c s application_data authenticated_data padding seed ≡ Ok (bytes, after)
    → IsSealing c s application_data authenticated_data padding seed bytes after
unfolding seal_message sealing_checks message_under
is_sealing c s application_data authenticated_data padding seed bytes after e =
    let checks = bind_ok (sealing_checks s application_data authenticated_data padding) _ _ e in
    let next = bind_ok _ _ _ checks.1 in
    let short = require_ok 6 (are_short application_data authenticated_data padding) _ _ next.2 in
    let same = ok_is next.0 checks.0 short.1 in
    let found : next_generation s.keys s.leaf ≡ Some checks.0 =
    given_ok 110 (next_generation s.keys s.leaf) next.0 next.1 ∙ ap (λ (x : ℕ). let some : ℕ → Option ℕ = λ z. Some z in some x) same in
    let drafted = bind_ok (draft_key s.keys s.leaf checks.0) _ _ checks.2 in
    let content = bind_ok (own_content c s application_data authenticated_data padding) _ _ drafted.2 in
    let message = bind_ok (message_under c s drafted.0.key (own_sender_data s checks.0 seed) authenticated_data content.0) _ _ content.2 in
    let w : IsWithin (private_message.spell (message_of c s drafted.0.key checks.0 seed authenticated_data content.0)) message.0 = is_within _ _ message.1 in
    let P : List ℕ × State → Type 0 = λ x. IsSealing c s application_data authenticated_data padding seed x.0 x.1 in
    subst P (ok_is (message.0, after_draft s drafted.0) (bytes, after) message.2)
    (record {
      generation = checks.0;
      draft = drafted.0;
      content = content.0;
      next = found;
      drafted = drafted.1;
      has = has_content c s application_data authenticated_data padding content.0 content.1;
      spelled = w.same;
      short = subst (λ (x : List ℕ). length x ≤ input_limit) w.same w.short;
      is_after = refl;
    })
