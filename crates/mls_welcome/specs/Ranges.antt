-- Values whose numbers are in range.
use Rattle.std.specs.Prelude.{◌≡◌, ◌<◌, ◌^◌, true, IfSome}
use Rattle.std.specs.List.{AllByRecursion}
use Rattle.mls_wire.specs.Combine.{optional}
use Rattle.mls_leaf.specs.GroupExtensions.{are_allowed}
use Rattle.mls_leaf.specs.Node.{node}
use Rattle.mls_types.specs.declared.group_info.GroupInfo.{GroupInfo}
use Rattle.mls_public_group.specs.MessageLimit.{FitsIfShort}

-- the numbers of a GroupInfo are in range, and its group may carry the extensions of its context
pub record IsRanged (v : GroupInfo) : Type 0 where
  pub suite : v.group_context.cipher_suite < 2 ^ 16
  pub epoch : v.group_context.epoch < 2 ^ 64
  pub allowed : are_allowed v.group_context.extensions ≡ true
  pub signer : v.signer < 2 ^ 32
  pub nodes : IfSome v.ratchet_tree (λ xs. AllByRecursion (FitsIfShort (optional node)) xs)
