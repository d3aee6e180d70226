-- What a sender says, as code lends it.
use Rattle.std.specs.Prelude.{ℕ, ◌<◌, ◌^◌, List, ◌++◌, length, Result}
use Rattle.std.specs.Global.{Vec}
use Rattle.std.specs.Int.{w8, w16, w32, w64}
use Rattle.mls_wire.specs.Reading.{uint, opaque}
use Rattle.mls_leaf.specs.Faults.{AddsInput, Writes}
use Rattle.mls_leaf.specs.declared.error.LeafError.{LeafError}
use Rattle.mls_types.specs.declared.content.FramedContent.{FramedContent}
use Rattle.mls_private_message.specs.Signing.{private_content_tbs}
use Rattle.mls_exchange.specs.declared.said.Said.{Said}
use Rattle.mls_exchange.specs.Contents.{application_content}

-- the FramedContent of it (RFC 9420, 6)
abbrev pub said_by : Said → FramedContent
said_by said =
    application_content said.group_id.now said.epoch said.leaf
    said.authenticated_data.now said.application_data.now

-- no vector in it is too long
abbrev pub AreVectors : Said → Type 0
AreVectors said =
    (length said.group_id.now < 2 ^ 30) × (length said.authenticated_data.now < 2 ^ 30)
    × (length said.application_data.now < 2 ^ 30)

-- adding what stands before the sender, and the rest of the content (RFC 9420, 6 and 6.1)
abbrev pub AddsPlace : Said → List ℕ → Result (Unit {0}) LeafError → List ℕ → Type 0
AddsPlace said old result new =
    AddsInput (length said.group_id.now < 2 ^ 30)
    (uint w16 1 ++ uint w16 2 ++ opaque said.group_id.now ++ uint w64 said.epoch) old result new

abbrev pub AddsData : Said → List ℕ → Result (Unit {0}) LeafError → List ℕ → Type 0
AddsData said old result new =
    AddsInput
    ((length said.authenticated_data.now < 2 ^ 30) × (length said.application_data.now < 2 ^ 30))
    (uint w8 1 ++ uint w32 said.leaf ++ opaque said.authenticated_data.now
    ++ uint w8 1 ++ opaque said.application_data.now) old result new

-- writing what is signed of it in an epoch with this GroupContext (RFC 9420, 6.1)
abbrev pub WritesSigned : Said → List ℕ → Result (Vec ℕ) LeafError → Type 0
WritesSigned said context result =
    Writes (AreVectors said) (private_content_tbs (said_by said) context) result
