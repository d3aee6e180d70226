-- What is signed of a short leaf or key package has a spelling, and a short one; so only memory can be wanting.
use Rattle.std.proofs.Common.{◌≡◌, ℕ, ◌+◌, ◌<◌, ◌≤◌, ◌^◌, Bool, true, false, cond, ltb, List, [], ◌∷◌, ◌++◌, length, Result, Ok, Err, refl, ap, arith}
use Rattle.std.specs.Prelude.{IfErr}
use Rattle.std.specs.Global.{Vec}
use Rattle.std.specs.Int.{w16, w32, to_be_bytes}
use Rattle.std.proofs.lemmas.List.{length-append}
use Rattle.mls_wire.specs.Reading.{header, opaque, uint}
use Rattle.mls_wire.specs.declared.WireError.TheVariants as wire
use Rattle.mls_leaf.specs.declared.error.LeafError.{LeafError}
use Rattle.mls_leaf.specs.declared.error.LeafError.TheVariants.{Wire, BadTag, UnsupportedCredential, UnsupportedProposal, NotRising, ExtensionNotAllowed}
use Rattle.mls_leaf.specs.declared.leaf.LeafNode.{LeafNode}
use Rattle.mls_leaf.specs.declared.leaf.LeafSource.{LeafSource}
use Rattle.mls_leaf.specs.declared.leaf.LeafSource.TheVariants.{KeyPackage as by_key_package, Update as by_update, Commit as by_commit}
use Rattle.mls_leaf.specs.declared.key_package.KeyPackage.{KeyPackage}
use Rattle.mls_leaf.specs.Faults.{Refuses, Writes}
use Rattle.mls_leaf.specs.Leaf.{leaf_node}
use Rattle.mls_leaf.specs.KeyPackage.{key_package}
use Rattle.mls_leaf.specs.Inputs.{leaf_content, leaf_place, leaf_node_tbs, key_package_tbs, LeafContentFits, LeafPlaceFits, LeafNodeTbsFits, KeyPackageTbsFits}
use Rattle.mls_leaf.proofs.InputLaws.{leaf_node-spelled, key_package-spelled}
use Rattle.mls_checks.specs.Short.{IsShort}

-- ---- only memory can be wanting

wanting : (P : Type 0) (e : LeafError) → P → Refuses P e → e ≡ Wire wire.OutOfMemory
wanting P (Wire wire.OutOfMemory) p r = refl
wanting P (Wire wire.Truncated) p r = absurd r
wanting P (Wire wire.Trailing) p r = absurd r
wanting P (Wire wire.BadLength) p r = absurd r
wanting P (Wire wire.NotMinimal) p r = absurd r
wanting P (Wire wire.TooLong) p r = absurd (r p)
wanting P BadTag p r = absurd r
wanting P UnsupportedCredential p r = absurd r
wanting P UnsupportedProposal p r = absurd r
wanting P NotRising p r = absurd r
wanting P ExtensionNotAllowed p r = absurd r

pub written_or_wanting : (P : Type 0) (bytes : List ℕ) (r : Result (Vec ℕ) LeafError) → P → Writes P bytes r → IfErr r (λ e. e ≡ Wire wire.OutOfMemory)
written_or_wanting P bytes (Ok v) p w = tt
written_or_wanting P bytes (Err e) p w = wanting P e p w

pub written_is : (P : Type 0) (bytes : List ℕ) (r : Result (Vec ℕ) LeafError) (v : Vec ℕ) → r ≡ Ok v → Writes P bytes r → v.items ≡ bytes
written_is P bytes (Ok u) v e w = (let same : u ≡ v = cc in rw (← same) w.1)
written_is P bytes (Err f) v e w = absurd cc

-- ---- lengths

header_choice : (b : Bool) (x y : List ℕ) → length x ≤ 4 → length y ≤ 4 → length (cond b x y) ≤ 4
header_choice true x y h k = h
header_choice false x y h k = k

header_length : (n : ℕ) → length (header n) ≤ 4
unfolding header
header_length n = header_choice (ltb n 64) (n ∷ []) (cond (ltb n 16384) (to_be_bytes w16 (16384 + n)) (to_be_bytes w32 (2147483648 + n))) (omega arith)
    (header_choice (ltb n 16384) (to_be_bytes w16 (16384 + n)) (to_be_bytes w32 (2147483648 + n)) (omega arith) (omega arith))

place_behind : (group : List ℕ) (index : ℕ) → length group < 2 ^ 28 → length (opaque group ++ uint w32 index) < 2 ^ 29
unfolding uint
place_behind group index lt =
    omega (arith, length-append (opaque group) (to_be_bytes w32 index), length-append (header (length group)) group, header_length (length group))

place_length : (source : LeafSource) (group : List ℕ) (index : ℕ) → length group < 2 ^ 28 → length (leaf_place source group index) < 2 ^ 29
place_length (by_key_package before after) group index lt = omega arith
place_length by_update group index lt = place_behind group index lt
place_length (by_commit hash) group index lt = place_behind group index lt

place_fits : (source : LeafSource) (group : List ℕ) → length group < 2 ^ 28 → LeafPlaceFits source group
place_fits (by_key_package before after) group lt = tt
place_fits by_update group lt = omega arith
place_fits (by_commit hash) group lt = omega arith

-- ---- leaves

content_fits : (v : LeafNode) → leaf_node.Fits v → LeafContentFits v
unfolding leaf_node
content_fits v f = (f.0, (f.1.0, (f.1.1.0, (f.1.1.1.0, f.1.1.1.1.0))))

pub leaf_tbs_fits : (v : LeafNode) (group : List ℕ) → IsShort leaf_node v → length group < 2 ^ 28 → LeafNodeTbsFits v group
leaf_tbs_fits v group s lt = (content_fits v s.fits, place_fits v.source group lt)

pub leaf_tbs_short : (v : LeafNode) (group : List ℕ) (index : ℕ) → IsShort leaf_node v → length group < 2 ^ 28 → length (leaf_node_tbs v group index) < 2 ^ 30
unfolding leaf_node_tbs
leaf_tbs_short v group index s lt =
    omega (arith, length-append (leaf_content v) (leaf_place v.source group index), place_length v.source group index lt, s.short, ap length (leaf_node-spelled v), length-append (leaf_content v) (opaque v.signature))

-- ---- key packages

pub package_tbs_fits : (p : KeyPackage) → IsShort key_package p → KeyPackageTbsFits p
unfolding key_package
package_tbs_fits p s = (s.fits.0, (s.fits.1.0, s.fits.1.1.0))

pub package_tbs_short : (p : KeyPackage) → IsShort key_package p → length (key_package_tbs p) < 2 ^ 30
package_tbs_short p s =
    omega (arith, s.short, ap length (key_package-spelled p), length-append (key_package_tbs p) (opaque p.signature))

-- a short key package has a short leaf
pub leaf_is_short : (p : KeyPackage) → IsShort key_package p → IsShort leaf_node p.leaf_node
unfolding key_package key_package_tbs
leaf_is_short p s = record {
  fits = s.fits.1.1.0;
  short = inside (uint w16 1) (uint w16 p.cipher_suite) (opaque p.init_key) (leaf_node.spell p.leaf_node) (opaque []) (opaque p.signature) (key_package.spell p) (key_package-spelled p) s.short;
}
  where
    inside : (a b c d e f whole : List ℕ) → whole ≡ (a ++ b ++ c ++ d ++ e) ++ f → length whole < 2 ^ 28 → length d < 2 ^ 28
    inside a b c d e f whole is lt =
        omega (arith, ap length is, length-append (a ++ b ++ c ++ d ++ e) f, length-append (a ++ b ++ c ++ d) e, length-append (a ++ b ++ c) d)
