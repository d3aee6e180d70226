-- The transcript hashes (RFC 9420, 8.2) as functions on lists of bytes.
use Rattle.std.specs.Prelude.{ℕ, List, ◌++◌}
use Rattle.std.specs.Int.{w16}
use Rattle.sha2.specs.Sha256.{sha256}
use Rattle.mls_wire.specs.Reading.{uint, opaque}

-- the confirmed transcript hash of a commit: from the last interim hash, the wire format, the FramedContent and the
-- signature (RFC 9420, 8.2)
unfoldable pub confirmed_hash : List ℕ → ℕ → List ℕ → List ℕ → List ℕ
confirmed_hash interim wire_format content signature = sha256 (interim ++ uint w16 wire_format ++ content ++ opaque signature)

-- the interim transcript hash: from the confirmed hash, which is empty at epoch 0, and the confirmation tag (RFC 9420,
-- 8.2 and 11)
unfoldable pub interim_hash : List ℕ → List ℕ → List ℕ
interim_hash confirmed tag = sha256 (confirmed ++ opaque tag)
