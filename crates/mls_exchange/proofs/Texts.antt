-- Texts that are short enough, and what is signed.
use Rattle.std.proofs.Common.{◌≡◌, ℕ, ◌<◌, ◌≤◌, ◌^◌, inl, inr, List, length, Result, Ok, Err}
use Rattle.std.specs.Prelude.{nat_lt}
use Rattle.std.proofs.lemmas.Bool.{cond-true, cond-false, ltb-false, lt-ltb, le-ltb}
use Rattle.mls_wire.specs.Laws.{chosen}
use Rattle.mls_leaf.specs.Limits.{input_limit}
use Rattle.mls_types.specs.declared.content.FramedContent.{FramedContent}
use Rattle.mls_private_message.specs.Signing.{private_content_tbs}
use Rattle.mls_exchange.specs.Contents.{signed_text, within_limit}

pub ok_is : {A : Type 0} (x y : A) → (let ok : A → Result A ℕ = λ z. Ok z in ok x ≡ ok y) → x ≡ y
ok_is x y e = cc

-- ---- within the limit

pub record IsWithin (bytes out : List ℕ) : Type 0 where
  pub same : bytes ≡ out
  pub short : length bytes ≤ input_limit

pub is_within : (bytes out : List ℕ) → within_limit bytes ≡ Ok out → IsWithin bytes out
unfolding within_limit
is_within bytes out e = elim (chosen (nat_lt input_limit (length bytes)) (Err 6) (Ok bytes) (Ok out) e) [
  | inl wrong ↦ (let impossible = wrong.1 in absurd cc)
  | inr right ↦ record { same = ok_is bytes out right.1; short = ltb-false input_limit (length bytes) right.0 }
]

pub within : (bytes : List ℕ) → length bytes ≤ input_limit → within_limit bytes ≡ Ok bytes
unfolding within_limit
within bytes le = cond-false (nat_lt input_limit (length bytes)) (Err 6) (Ok bytes) (le-ltb input_limit (length bytes) le)

pub past_limit : (bytes : List ℕ) → input_limit < length bytes → within_limit bytes ≡ Err 6
unfolding within_limit
past_limit bytes lt = cond-true (nat_lt input_limit (length bytes)) (Err 6) (Ok bytes) (lt-ltb input_limit (length bytes) lt)

-- ---- what is signed

pub signed_is : (said : FramedContent) (context text : List ℕ) → signed_text said context ≡ Ok text → private_content_tbs said context ≡ text
unfolding signed_text
signed_is said context text e = elim (chosen (nat_lt (length (private_content_tbs said context)) (2 ^ 30)) (Ok (private_content_tbs said context)) (Err 6) (Ok text) e) [
  | inl right ↦ ok_is _ _ right.1
  | inr wrong ↦ (let impossible = wrong.1 in absurd cc)
]

pub signed_short : (said : FramedContent) (context : List ℕ) → length (private_content_tbs said context) < 2 ^ 30
    → signed_text said context ≡ Ok (private_content_tbs said context)
unfolding signed_text
signed_short said context lt = cond-true (nat_lt (length (private_content_tbs said context)) (2 ^ 30)) _ _ (lt-ltb _ _ lt)

pub signed_long : (said : FramedContent) (context : List ℕ) → 2 ^ 30 ≤ length (private_content_tbs said context) → signed_text said context ≡ Err 6
unfolding signed_text
signed_long said context le = cond-false (nat_lt (length (private_content_tbs said context)) (2 ^ 30)) _ _ (le-ltb _ _ le)
