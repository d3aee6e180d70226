-- What the sender of a private message signs (RFC 9420, 6.1).
use Rattle.std.specs.Prelude.{ℕ, List, ◌++◌}
use Rattle.std.specs.Int.{w16}
use Rattle.mls_wire.specs.Reading.{uint}
use Rattle.mls_types.specs.Content.{framed_content}
use Rattle.mls_types.specs.declared.content.FramedContent.{FramedContent}

-- FramedContentTBS (RFC 9420, 6.1): uint16 version (1), uint16 wire_format (2, mls_private_message), FramedContent, and
-- the bytes of the GroupContext
abbrev pub private_content_tbs : FramedContent → List ℕ → List ℕ
private_content_tbs said context = uint w16 1 ++ uint w16 2 ++ framed_content.spell said ++ context
