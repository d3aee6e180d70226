-- Contents are read as they were written, and written as they are read.
use Rattle.std.proofs.Common.{◌≡◌, ℕ, zero, suc, true, false, cond, eqb, ◌&&◌, inl, inr, List, [], ◌∷◌, ◌++◌, length, Ok, Err, refl, sym, ap, ◌∙◌, subst, append_assoc}
use Rattle.std.specs.Prelude.{replicate}
use Rattle.std.specs.List.{list_all}
use Rattle.std.proofs.lemmas.Bool.{cases_Bool, cond-true, cond-false, eqb-true}
use Rattle.mls_wire.specs.Reading.{◌>>=◌, opaque, opaque_at}
use Rattle.mls_wire.specs.Format.{IsBytes}
use Rattle.mls_wire.specs.Laws.{bind_ok, bound, guard_is, opaque_again, opaque_takes}
use Rattle.mls_private_message.specs.PrivateContent.{private_content, PrivateContentFits, is_padding, private_content_at}
use Rattle.mls_private_message.specs.Laws.{IsReadAsWritten}

zeros_pass : (n : ℕ) → is_padding (replicate n 0) ≡ true
unfolding is_padding
zeros_pass zero = refl
zeros_pass (suc n) = zeros_pass n

zeros_only : (bytes : List ℕ) → is_padding bytes ≡ true → bytes ≡ replicate (length bytes) 0
unfolding is_padding
zeros_only [] e = refl
zeros_only (b ∷ bytes) e = elim (cases_Bool (eqb b 0)) [
  | inl is ↦
      let rest = zeros_only bytes (sym (ap (λ t. t && list_all (λ b. eqb b 0) bytes) is) ∙ e) in
      ap (λ x. x ∷ bytes) (eqb-true b 0 is) ∙ ap (λ (x : List ℕ). 0 ∷ x) rest
  | inr not_so ↦ (let wrong = sym (ap (λ t. t && list_all (λ b. eqb b 0) bytes) not_so) ∙ e in absurd cc)
]

read_again : (application_data signature : List ℕ) (padding : ℕ) → PrivateContentFits application_data signature
    → private_content_at (private_content application_data signature padding) ≡ Ok (application_data, signature)
unfolding private_content private_content_at
read_again d s n fits =
    ap private_content_at (append_assoc (opaque d) (opaque s) (replicate n 0))
    ∙ bound (opaque_at (opaque d ++ (opaque s ++ replicate n 0))) (d, opaque s ++ replicate n 0)
    (λ x. opaque_at x.1 >>= λ y. cond (is_padding y.1) (Ok (x.0, y.0)) (Err 118)) (opaque_again d (opaque s ++ replicate n 0) fits.0)
    ∙ bound (opaque_at (opaque s ++ replicate n 0)) (s, replicate n 0) (λ y. cond (is_padding y.1) (Ok (d, y.0)) (Err 118)) (opaque_again s (replicate n 0) fits.1)
    ∙ cond-true _ _ _ (zeros_pass n)

abbrev IsWritten : List ℕ → List ℕ × List ℕ → Type 0
IsWritten bytes p = (padding : ℕ) × PrivateContentFits p.0 p.1 × (bytes ≡ private_content p.0 p.1 padding)

written_so : (application_data signature bytes : List ℕ) → IsBytes bytes → private_content_at bytes ≡ Ok (application_data, signature)
    → IsWritten bytes (application_data, signature)
unfolding private_content private_content_at
written_so d s bytes fits e =
    let a = bind_ok (opaque_at bytes) (λ x. opaque_at x.1 >>= λ y. cond (is_padding y.1) (Ok (x.0, y.0)) (Err 118)) (d, s) e in
    let b = bind_ok (opaque_at a.0.1) (λ y. cond (is_padding y.1) (Ok (a.0.0, y.0)) (Err 118)) (d, s) a.2 in
    let first = opaque_takes bytes a.0.0 a.0.1 fits a.1 in
    let second = opaque_takes a.0.1 b.0.0 b.0.1 first.0.rest_fits b.1 in
    let g = guard_is (is_padding b.0.1) 118 (a.0.0, b.0.0) (d, s) b.2 in
    let parts : bytes ≡ private_content a.0.0 b.0.0 (length b.0.1) =
    first.0.parts ∙ ap (λ (x : List ℕ). opaque a.0.0 ++ x) (second.0.parts ∙ ap (λ (x : List ℕ). opaque b.0.0 ++ x) (zeros_only b.0.1 g.0))
    ∙ sym (append_assoc (opaque a.0.0) (opaque b.0.0) (replicate (length b.0.1) 0)) in
    subst (IsWritten bytes) g.1 (length b.0.1, (first.1, second.1), parts)

pub is_read_as_written : (application_data signature : List ℕ) → IsReadAsWritten application_data signature
is_read_as_written d s = record { read = read_again d s; written = written_so d s }

-- ---- reading a content step by step

pub first_fault : (bytes : List ℕ) (n : ℕ) → opaque_at bytes ≡ Err n → private_content_at bytes ≡ Err n
unfolding private_content_at
first_fault bytes n e = ap (λ r. r >>= λ x. opaque_at x.1 >>= λ y. cond (is_padding y.1) (Ok (x.0, y.0)) (Err 118)) e

after_first : (bytes d rest : List ℕ) → opaque_at bytes ≡ Ok (d, rest)
    → private_content_at bytes ≡ (opaque_at rest >>= λ y. cond (is_padding y.1) (Ok (d, y.0)) (Err 118))
unfolding private_content_at
after_first bytes d rest e =
    bound (opaque_at bytes) (d, rest) (λ x. opaque_at x.1 >>= λ y. cond (is_padding y.1) (Ok (x.0, y.0)) (Err 118)) e

pub second_fault : (bytes d rest : List ℕ) (n : ℕ) → opaque_at bytes ≡ Ok (d, rest) → opaque_at rest ≡ Err n → private_content_at bytes ≡ Err n
second_fault bytes d rest n e f = after_first bytes d rest e ∙ ap (λ r. r >>= λ y. cond (is_padding y.1) (Ok (d, y.0)) (Err 118)) f

after_both : (bytes d rest s padding : List ℕ) → opaque_at bytes ≡ Ok (d, rest) → opaque_at rest ≡ Ok (s, padding)
    → private_content_at bytes ≡ cond (is_padding padding) (Ok (d, s)) (Err 118)
after_both bytes d rest s padding e f =
    after_first bytes d rest e ∙ bound (opaque_at rest) (s, padding) (λ y. cond (is_padding y.1) (Ok (d, y.0)) (Err 118)) f

pub padding_fault : (bytes d rest s padding : List ℕ) → opaque_at bytes ≡ Ok (d, rest) → opaque_at rest ≡ Ok (s, padding)
    → is_padding padding ≡ false → private_content_at bytes ≡ Err 118
padding_fault bytes d rest s padding e f p = after_both bytes d rest s padding e f ∙ cond-false _ _ _ p

pub all_read : (bytes d rest s padding : List ℕ) → opaque_at bytes ≡ Ok (d, rest) → opaque_at rest ≡ Ok (s, padding)
    → is_padding padding ≡ true → private_content_at bytes ≡ Ok (d, s)
all_read bytes d rest s padding e f p = after_both bytes d rest s padding e f ∙ cond-true _ _ _ p
