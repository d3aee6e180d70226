-- What is sealed in a private message: application data, the signature, and padding (RFC 9420, 6.3.1).
use Rattle.std.specs.Prelude.{ℕ, ◌<◌, ◌^◌, ◌==◌, Bool, if◌then◌else◌, List, ◌++◌, length, replicate, Result, Ok, Err}
use Rattle.std.specs.List.{list_all}
use Rattle.mls_wire.specs.Reading.{◌>>=◌, opaque, opaque_at}

-- PrivateMessageContent (RFC 9420, 6.3.1): application_data<V>, signature<V>, so many bytes of padding, each of them 0
unfoldable pub private_content : List ℕ → List ℕ → ℕ → List ℕ
private_content application_data signature padding =
    opaque application_data ++ opaque signature ++ replicate padding 0

-- no vector in it is too long
abbrev pub PrivateContentFits : List ℕ → List ℕ → Type 0
PrivateContentFits application_data signature =
    (length application_data < 2 ^ 30) × (length signature < 2 ^ 30)

-- whether each byte of the padding is 0
unfoldable pub is_padding : List ℕ → Bool
is_padding bytes = list_all (λ b. b == 0) bytes

-- the data and the signature, of a PrivateMessageContent's bytes: the first fault, or `PaddingNotZero` (118)
unfoldable pub private_content_at : List ℕ → Result (List ℕ × List ℕ) ℕ
private_content_at bytes =
    opaque_at bytes >>= λ x.
    opaque_at x.1 >>= λ y.
    if is_padding y.1 then Ok (x.0, y.0) else Err 118
