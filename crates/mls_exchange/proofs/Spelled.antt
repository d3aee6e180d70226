-- Messages whose numbers are in range have a spelling, unless a vector in them is too long.
use Rattle.std.proofs.Common.{◌≡◌, ℕ, ◌<◌, ◌≤◌, ◌^◌, List, ◌++◌, length, arith, length-append, append_assoc}
use Rattle.std.specs.Prelude.{replicate}
use Rattle.std.specs.Int.{w8, w16, w64}
use Rattle.mls_wire.specs.Reading.{uint, header, opaque}
use Rattle.mls_types.specs.Content.{sender, content, framed_content}
use Rattle.mls_types.specs.declared.content.Sender.TheVariants.{Member}
use Rattle.mls_private_message.specs.declared.private_message.PrivateMessage.{PrivateMessage}
use Rattle.mls_private_message.specs.declared.sender_data.SenderData.{SenderData}
use Rattle.mls_private_message.specs.PrivateMessage.{private_fields, private_message}
use Rattle.mls_private_message.specs.PrivateContent.{private_content, PrivateContentFits}
use Rattle.mls_private_message.specs.Signing.{private_content_tbs}
use Rattle.mls_private_message.specs.SenderData.{sender_data}
use Rattle.mls_exchange.specs.Contents.{application_content}
use Rattle.mls_exchange.specs.Sealing.{reuse_guard}

pub first_within : (xs ys : List ℕ) → length xs ≤ length (xs ++ ys)
first_within xs ys = omega (arith, length-append xs ys)

pub last_within : (xs ys : List ℕ) → length ys ≤ length (xs ++ ys)
last_within xs ys = omega (arith, length-append xs ys)

text_within : (xs : List ℕ) → length xs ≤ length (opaque xs)
text_within xs = last_within (header (length xs)) xs

pub record HasVectors (m : PrivateMessage) : Type 0 where
  pub group : length m.group_id < 2 ^ 30
  pub added : length m.authenticated_data < 2 ^ 30
  pub sender : length m.encrypted_sender_data < 2 ^ 30
  pub text : length m.ciphertext < 2 ^ 30

pub vectors_fit : (m : PrivateMessage) → length (private_message.spell m) < 2 ^ 30 → HasVectors m
unfolding private_message private_fields
vectors_fit m lt =
    let t6 : List ℕ = opaque m.encrypted_sender_data ++ opaque m.ciphertext in
    let t5 : List ℕ = opaque m.authenticated_data ++ t6 in
    let t4 : List ℕ = uint w8 1 ++ t5 in
    let t3 : List ℕ = uint w64 m.epoch ++ t4 in
    let t2 : List ℕ = opaque m.group_id ++ t3 in
    let t1 : List ℕ = uint w16 2 ++ t2 in
    let a : length t2 < 2 ^ 30 = omega (arith, lt, last_within (uint w16 1) t1, last_within (uint w16 2) t2) in
    let g : length m.group_id < 2 ^ 30 = omega (arith, a, first_within (opaque m.group_id) t3, text_within m.group_id) in
    let b : length t5 < 2 ^ 30 = omega (arith, a, last_within (opaque m.group_id) t3, last_within (uint w64 m.epoch) t4, last_within (uint w8 1) t5) in
    let d : length m.authenticated_data < 2 ^ 30 = omega (arith, b, first_within (opaque m.authenticated_data) t6, text_within m.authenticated_data) in
    let f : length m.encrypted_sender_data < 2 ^ 30 =
    omega (arith, b, last_within (opaque m.authenticated_data) t6, first_within (opaque m.encrypted_sender_data) (opaque m.ciphertext), text_within m.encrypted_sender_data) in
    let h : length m.ciphertext < 2 ^ 30 =
    omega (arith, b, last_within (opaque m.authenticated_data) t6, last_within (opaque m.encrypted_sender_data) (opaque m.ciphertext), text_within m.ciphertext) in
    record { group = g; added = d; sender = f; text = h }

pub message_fits : (m : PrivateMessage) → m.epoch < 2 ^ 64 → length (private_message.spell m) < 2 ^ 30 → private_message.Fits m
unfolding private_message private_fields
message_fits m e lt = let v = vectors_fit m lt in (v.group, (e, (v.added, (v.sender, v.text))))

pub content_fits : (application_data signature : List ℕ) (padding : ℕ) → length (private_content application_data signature padding) < 2 ^ 30
    → PrivateContentFits application_data signature
unfolding private_content
content_fits d s n lt = (
  omega (arith, lt, first_within (opaque d ++ opaque s) (replicate n 0), first_within (opaque d) (opaque s), text_within d),
  omega (arith, lt, first_within (opaque d ++ opaque s) (replicate n 0), last_within (opaque d) (opaque s), text_within s),
)

pub record AreShort (group_id authenticated_data application_data : List ℕ) : Type 0 where
  pub group : length group_id < 2 ^ 30
  pub added : length authenticated_data < 2 ^ 30
  pub said : length application_data < 2 ^ 30

-- no vector in a text that is signed is too long, where the text is short
pub are_short : (group_id : List ℕ) (epoch leaf : ℕ) (authenticated_data application_data context : List ℕ)
    → length (private_content_tbs (application_content group_id epoch leaf authenticated_data application_data) context) < 2 ^ 30
    → AreShort group_id authenticated_data application_data
unfolding application_content framed_content sender content
are_short group_id epoch leaf a d context lt =
    let t5 : List ℕ = uint w8 1 ++ opaque d in
    let t4 : List ℕ = opaque a ++ t5 in
    let t3 : List ℕ = sender.spell (Member leaf) ++ t4 in
    let t2 : List ℕ = uint w64 epoch ++ t3 in
    let t1 : List ℕ = opaque group_id ++ t2 in
    let w : length t1 < 2 ^ 30 = omega (arith, lt, first_within ((uint w16 1 ++ uint w16 2) ++ t1) context, last_within (uint w16 1 ++ uint w16 2) t1) in
    let x : length t4 < 2 ^ 30 = omega (arith, w, last_within (opaque group_id) t2, last_within (uint w64 epoch) t3, last_within (sender.spell (Member leaf)) t4) in
    record {
      group = omega (arith, w, first_within (opaque group_id) t2, text_within group_id);
      added = omega (arith, x, first_within (opaque a) t5, text_within a);
      said = omega (arith, x, last_within (opaque a) t5, last_within (uint w8 1) (opaque d), text_within d);
    }

pub guard_small : (seed : List ℕ) → reuse_guard seed < 2 ^ 32
unfolding reuse_guard
guard_small seed = omega arith

pub sender_fits : (v : SenderData) → v.leaf_index < 2 ^ 32 → v.generation < 2 ^ 32 → v.reuse_guard < 2 ^ 32 → sender_data.Fits v
unfolding sender_data
sender_fits v a b c = (a, (b, c))

-- the FramedContentTBS as it is written
pub regrouped : (p q g e t l a k d c : List ℕ) → p ++ q ++ g ++ e ++ t ++ l ++ a ++ k ++ d ++ c ≡ (p ++ q) ++ (g ++ (e ++ ((t ++ l) ++ (a ++ (k ++ d))))) ++ c
regrouped p q g e t l a k d c = simp append_assoc
