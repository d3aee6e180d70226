-- Bytes within the limit, by a test of their number.
use Rattle.std.proofs.Common.{◌≡◌, ℕ, Bool, true, false, ◌&&◌, List, length, refl, sym, ◌∙◌}
use Rattle.std.specs.Prelude.{nat_lt, nat_le}
use Rattle.std.specs.List.{list_all}
use Rattle.mls_wire.specs.Checks.{require}
use Rattle.mls_wire.specs.Format.{IsBytes}
use Rattle.mls_leaf.specs.Limits.{input_limit}
use Rattle.mls_model.specs.Messages.{are_bytes, require_within_limit}
use Rattle.mls_public_group.proofs.Limits.{all_bytes}

all_there : (a b : Bool) → b ≡ true → (a && b) ≡ a
all_there true b e = e
all_there false b e = refl

-- bytes are within the limit where they are few enough
pub within : (bytes : List ℕ) (few : Bool) → IsBytes bytes → few ≡ nat_le (length bytes) input_limit → require_within_limit bytes ≡ require 6 few
unfolding require_within_limit are_bytes
within bytes few h e = let both : (nat_le (length bytes) input_limit && list_all (λ (b : ℕ). nat_lt b 256) bytes) ≡ few = all_there _ _ (all_bytes bytes h) ∙ sym e in rw both refl
