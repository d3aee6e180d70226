-- KeyPackages that are made are short.
use Rattle.std.proofs.Common.{◌≡◌, ℕ, ◌+◌, ◌-◌, ◌<◌, ◌≤◌, ◌^◌, List, [], ◌++◌, length, ap, arith}
use Rattle.std.specs.Int.{w16, to_be_bytes}
use Rattle.std.proofs.lemmas.List.{length-append}
use Rattle.mls_wire.specs.Reading.{opaque, uint}
use Rattle.mls_leaf.specs.Inputs.{key_package_tbs, KeyPackageTbsFits}
use Rattle.mls_leaf.proofs.InputLaws.{key_package-spelled}
use Rattle.mls_leaf.specs.KeyPackage.{key_package}
use Rattle.mls_leaf.specs.Leaf.{leaf_node}
use Rattle.mls_leaf.specs.Limits.{input_limit}
use Rattle.mls_leaf.specs.declared.key_package.KeyPackage.{KeyPackage}
use Rattle.mls_leaf.specs.declared.proposal.Proposal.TheVariants.{Add}
use Rattle.mls_types.specs.Message.{mls_message}
use Rattle.mls_model.specs.Candidate.{package_message}
use Rattle.mls_public_group.specs.Short.{IsBelow}
use Rattle.mls_public_group.specs.ShortProposal.{IsShortProposal}
use Rattle.mls_candidate.specs.Short.{IsShortPackage}
use Rattle.mls_candidate.proofs.LeafLaws.{owner_in}
use Rattle.mls_public_group.proofs.Lengths.{opaque_most}

pub package_tbs_fits : (k : KeyPackage) → IsShortPackage k → KeyPackageTbsFits k
package_tbs_fits k s = let key = s.key in (s.suite, (omega arith, s.leaf.fits))

five : (a b c d e : List ℕ) → length (a ++ b ++ c ++ d ++ e) ≡ length a + length b + length c + length d + length e
five a b c d e = omega (arith, length-append (a ++ b ++ c ++ d) e, length-append (a ++ b ++ c) d, length-append (a ++ b) c, length-append a b)

pub package_tbs_short : (k : KeyPackage) → IsShortPackage k → length (key_package_tbs k) < 2 ^ 30
unfolding key_package_tbs uint
package_tbs_short k s =
    omega (arith, five (to_be_bytes w16 1) (to_be_bytes w16 k.cipher_suite) (opaque k.init_key) (leaf_node.spell k.leaf_node) (opaque []), opaque_most k.init_key, opaque_most [], s.key, s.leaf.below)

pub package_fits : (k : KeyPackage) → IsShortPackage k → length k.signature < 2 ^ 16 → key_package.Fits k
unfolding key_package
package_fits k s lt = let key = s.key in (s.suite, (omega arith, (s.leaf.fits, omega arith)))

-- its message is longer than it
message_longer : (k : KeyPackage) → length (key_package.spell k) ≤ length (package_message k)
unfolding package_message mls_message uint
message_longer k = omega (arith, length-append (to_be_bytes w16 1) (to_be_bytes w16 5 ++ key_package.spell k), length-append (to_be_bytes w16 5) (key_package.spell k))

pub package_below : (k : KeyPackage) → key_package.Fits k → length (package_message k) ≤ input_limit → IsBelow (2 ^ 27) key_package k
package_below k fits le = record { fits = fits; below = omega (arith, message_longer k) }

-- ---- how long an identity makes it

leaf_in : (k : KeyPackage) → length (leaf_node.spell k.leaf_node) ≤ length (key_package.spell k)
unfolding key_package_tbs
leaf_in k =
    omega (arith, ap length (key_package-spelled k), length-append (key_package_tbs k) (opaque k.signature), five (uint w16 1) (uint w16 k.cipher_suite) (opaque k.init_key) (leaf_node.spell k.leaf_node) (opaque []))

pub identity_in : (k : KeyPackage) → length k.leaf_node.credential.identity ≤ length (package_message k)
identity_in k = omega (arith, owner_in k.leaf_node, leaf_in k, message_longer k)

-- its leaf is as short
pub leaf_below : (n : ℕ) (k : KeyPackage) → IsBelow n key_package k → IsBelow n leaf_node k.leaf_node
unfolding key_package
leaf_below n k b = record { fits = b.fits.1.1.0; below = omega (arith, leaf_in k, b.below) }

-- and the proposal that adds it is short
pub addition_short : (k : KeyPackage) → IsBelow (2 ^ 27) key_package k → IsShortProposal (Add k)
addition_short k b = record { fits = b.fits; below = omega (arith, b.below) }
