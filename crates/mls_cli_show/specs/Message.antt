-- The lines of messages, and the text that bytes show.
use Rattle.std.specs.Prelude.{ℕ, List, [], ◌∷◌, ◌++◌, codes, length, Result, Ok}
use Rattle.mls_wire.specs.Reading.{◌>>=◌}
use Rattle.mls_wire.specs.Whole.{whole}
use Rattle.mls_leaf.specs.Limits.{input_limit}
use Rattle.mls_types.specs.Message.{mls_message}
use Rattle.mls_types.specs.declared.message.MlsMessage.{MlsMessage}
use Rattle.mls_types.specs.declared.message.MlsMessage.TheVariants as message
use Rattle.mls_cli_text.specs.Text.{Entry, entry, number, word}
use Rattle.mls_cli_show.specs.declared.numbered.Detail.{Detail}
use Rattle.mls_cli_show.specs.Numbered.{in_full}
use Rattle.mls_cli_show.specs.Package.{key_package_entries}
use Rattle.mls_cli_show.specs.Public.{public_message_entries}
use Rattle.mls_cli_show.specs.Group.{group_info_entries, welcome_entries}
use Rattle.mls_cli_show.specs.Reference.{reference_entries, reference_of}

-- the lines behind which kind of message it is, and in how many bytes it is spelled
abbrev pub with_head : List ℕ → ℕ → List Entry → List Entry
with_head kind size lines =
    entry [] (codes "message") (word kind) ∷ entry [] (codes "bytes") (number size) ∷ lines

-- RFC 9420, section 6: a message
unfoldable pub message_entries : Detail → ℕ → MlsMessage → List Entry
message_entries detail size (message.PublicMessage v) =
    with_head (codes "public_message") size (public_message_entries detail v)
message_entries detail size (message.Welcome v) =
    with_head (codes "welcome") size (welcome_entries detail v)
message_entries detail size (message.GroupInfo v) =
    with_head (codes "group_info") size (group_info_entries detail v)
message_entries detail size (message.KeyPackage v) =
    with_head (codes "key_package") size (key_package_entries [] v)

-- the lines of a message, and in the full text that of its reference
abbrev pub shown_entries : Detail → ℕ → MlsMessage → List Entry
shown_entries detail size m =
    message_entries detail size m ++ in_full detail (reference_entries (reference_of m))

-- the lines of the message that the bytes spell, or the number of its first fault
abbrev pub text_of : Detail → List ℕ → Result (List Entry) ℕ
text_of detail bytes =
    whole mls_message input_limit bytes >>= λ m. Ok (shown_entries detail (length bytes) m)
