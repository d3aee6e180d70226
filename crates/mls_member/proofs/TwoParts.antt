-- The checks of every message, in two parts.
use Rattle.std.proofs.Common.{◌≡◌, ℕ, Bool, true, false, List, Option, Some, None, Result, Ok, Err, refl}
use Rattle.mls_wire.specs.Checks.{Passed, require, require_some, ◌>>◌}
use Rattle.mls_wire.specs.Reading.{◌>>=◌}
use Rattle.mls_leaf.specs.declared.leaf.LeafNode.{LeafNode}
use Rattle.mls_suite.specs.Crypto.{Crypto}
use Rattle.mls_tree_model.specs.Term.{leaf_of}
use Rattle.mls_types.specs.declared.public_message.PublicMessage.{PublicMessage}
use Rattle.mls_model.specs.Member.{Member}
use Rattle.mls_model.specs.Verdict.{framing_checks}
use Rattle.mls_member.specs.Process.{sender_of, sender_at, check_sender}

-- two tests, a value, two tests, and what comes after
in_parts : (a b d e : Bool) (o : Option LeafNode) (later : LeafNode → Result Passed ℕ) →
    (((require 42 a >> (require 43 b >> (require_some 44 o >>= λ leaf. require 45 d >> Ok leaf))) >>= λ leaf. require 46 e >> Ok leaf) >>= later) ≡ (require 42 a >> (require 43 b >> (require_some 44 o >>= λ leaf. require 45 d >> (require 46 e >> later leaf))))
in_parts false b d e o later = refl
in_parts true false d e o later = refl
in_parts true true d e None later = refl
in_parts true true false e (Some leaf) later = refl
in_parts true true true false (Some leaf) later = refl
in_parts true true true true (Some leaf) later = refl

-- 42 to 46, and then 47 and 48
pub framing_is : (c : Crypto) (m : Member) (v : PublicMessage) (bytes : List ℕ) → (sender_of m v >>= check_sender c m v bytes) ≡ framing_checks c m v bytes
unfolding sender_at check_sender framing_checks
framing_is c m v bytes = in_parts _ _ _ _ (leaf_of m.public.tree _) (check_sender c m v bytes)

pub fails_first : (c : Crypto) (m : Member) (v : PublicMessage) (bytes : List ℕ) (n : ℕ) → sender_of m v ≡ Err n → framing_checks c m v bytes ≡ Err n
fails_first c m v bytes n e = rw (← framing_is c m v bytes, e) refl

pub goes_on : (c : Crypto) (m : Member) (v : PublicMessage) (bytes : List ℕ) (leaf : LeafNode) → sender_of m v ≡ Ok leaf → framing_checks c m v bytes ≡ check_sender c m v bytes leaf
goes_on c m v bytes leaf e = rw (← framing_is c m v bytes, e) refl
