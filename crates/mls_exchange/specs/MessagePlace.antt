-- Where a message says that it belongs, by its first fields (RFC 9420, 6).
use Rattle.std.specs.Prelude.{ℕ, ◌==◌, List, Result, Ok, Err, if◌then◌else◌}
use Rattle.std.specs.Int.{w16, w64}
use Rattle.mls_wire.specs.Reading.{◌>>=◌, uint_at, opaque_at}
use Rattle.mls_wire.specs.Checks.{require, ◌>>◌}
use Rattle.mls_exchange.specs.declared.place.MessageKind.{MessageKind}
use Rattle.mls_exchange.specs.declared.place.MessageKind.TheVariants.{PublicMessage, PrivateMessage}

pub record MessagePlace : Type 0 where
  pub kind : MessageKind
  pub group_id : List ℕ
  pub epoch : ℕ

-- the kind of message of a wire format (RFC 9420, 17.2): `BadTag` (7) it is of no group's message
unfoldable pub kind_of_format : ℕ → Result MessageKind ℕ
kind_of_format n = if n == 1 then Ok PublicMessage else if n == 2 then Ok PrivateMessage else Err 7

-- the first fields of a message of a group; what follows them isn't read. `BadTag` (7) another
-- version or kind, and the faults of decoding
unfoldable pub place_read : List ℕ → Result MessagePlace ℕ
place_read bytes = do
  version ← uint_at w16 bytes
  require 7 (version.0 == 1)
  format ← uint_at w16 version.1
  kind ← kind_of_format format.0
  group_id ← opaque_at format.1
  epoch ← uint_at w64 group_id.1
  Ok (record { kind = kind; group_id = group_id.0; epoch = epoch.0 })
