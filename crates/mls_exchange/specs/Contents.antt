-- The content of an application message, what is signed of it, and how long it may be (RFC 9420, 6 and 6.1).
use Rattle.std.specs.Prelude.{ℕ, ◌^◌, nat_lt, if◌then◌else◌, List, length, Result, Ok, Err}
use Rattle.mls_leaf.specs.Limits.{input_limit}
use Rattle.mls_types.specs.declared.content.Content.TheVariants.{Application}
use Rattle.mls_types.specs.declared.content.FramedContent.{FramedContent}
use Rattle.mls_types.specs.declared.content.Sender.TheVariants.{Member}
use Rattle.mls_private_message.specs.Signing.{private_content_tbs}

-- the FramedContent of application data (RFC 9420, 6): group, epoch, leaf of the sender, authenticated data, data
unfoldable pub application_content : List ℕ → ℕ → ℕ → List ℕ → List ℕ → FramedContent
application_content group_id epoch leaf authenticated_data application_data = record {
  group_id = group_id;
  epoch = epoch;
  sender = Member leaf;
  authenticated_data = authenticated_data;
  content = Application application_data;
}

-- what is signed of a content (RFC 9420, 6.1), or `TooLong` (6) where no vector holds it
unfoldable pub signed_text : FramedContent → List ℕ → Result (List ℕ) ℕ
signed_text said context =
    if nat_lt (length (private_content_tbs said context)) (2 ^ 30)
    then Ok (private_content_tbs said context) else Err 6

-- the bytes, or `TooLong` (6) where there are more than an input may have
unfoldable pub within_limit : List ℕ → Result (List ℕ) ℕ
within_limit bytes = if nat_lt input_limit (length bytes) then Err 6 else Ok bytes
