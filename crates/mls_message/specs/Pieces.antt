-- Of what pieces a member's message is spelled.
use Rattle.std.specs.Prelude.{◌≡◌, ◌≢◌, ℕ, ◌+◌, ◌<◌, ◌≤◌, List, ◌++◌, length, Result, Err, MatchResult}
use Rattle.std.specs.Global.{Vec}
use Rattle.std.specs.Int.{w16}
use Rattle.mls_wire.specs.Format.{Format}
use Rattle.mls_wire.specs.Reading.{uint}
use Rattle.mls_leaf.specs.Faults.{Spells, number_of}
use Rattle.mls_leaf.specs.Limits.{input_limit}
use Rattle.mls_leaf.specs.declared.error.LeafError.{LeafError}
use Rattle.mls_types.specs.Signed.{signed_content}
use Rattle.mls_types.specs.declared.signed.SignedContent.{SignedContent}
use Rattle.mls_model.specs.Member.{Member}
use Rattle.mls_model.specs.Messages.{message_by}
use Rattle.mls_public_group.specs.MessageLimit.{IsLong, limited_text}

-- the message of a signed content up to its membership tag (RFC 9420, 6 and 6.2): version 1, wire format 1, the content
abbrev pub untagged : SignedContent → List ℕ
untagged v = uint w16 1 ++ (uint w16 1 ++ signed_content.spell v)

-- how many bytes are behind them: membership_tag<V>, a header of one byte and 32 bytes; TAG_LENGTH in the code
abbrev pub tag_length : ℕ
tag_length = 33

-- the text is the message of a content up to its membership tag, which there is room for in a message
pub record IsUntagged (v : SignedContent) (text : List ℕ) : Type 0 where
  pub fits : signed_content.Fits v
  pub spelled : text ≡ untagged v
  pub room : length text + tag_length ≤ input_limit

-- each member's message of the content is refused with this number, unless it is `OutOfMemory`
abbrev pub IsTooLarge : SignedContent → LeafError → Type 0
IsTooLarge v e = number_of e ≢ 1 → (m : Member) → limited_text (message_by m v) ≡ Err (number_of e)

-- There is room for so many bytes more behind a text, or the call refuses with `TooLong` (6). It takes no memory.
abbrev pub HasRoom : {A : Type 0} → List ℕ → ℕ → Result A LeafError → Type 0
HasRoom text more result =
    MatchResult result (λ _. length text + more ≤ input_limit)
    (λ e. (number_of e ≡ 6) × (input_limit < length text + more))

-- The call answers the one spelling of a value, which is no larger than a message may be, or refuses it.
abbrev pub SpellsWithin : {V : Type 0} → Format V → V → Result (Vec ℕ) LeafError → Type 0
SpellsWithin format v result =
    MatchResult result (λ b. Spells format v b.items × (length b.items ≤ input_limit))
    (IsLong (format.spell v))
