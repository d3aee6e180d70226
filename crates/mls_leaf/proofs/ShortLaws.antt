-- How long the spelling of extensions is, as the sum of their lengths goes.
use Rattle.std.proofs.Common.{◌≡◌, ℕ, ◌+◌, ◌<◌, ◌≤◌, false, List, length, get_or, take, ap, ◌∙◌, arith}
use Rattle.std.specs.List.{flat_map}
use Rattle.std.proofs.lemmas.Bool.{lt-leb}
use Rattle.std.proofs.lemmas.List.{length-append, take_all}
use Rattle.std.proofs.lemmas.List.Folds.{length-flat_map-take}
use Rattle.mls_wire.specs.Reading.{uint, header}
use Rattle.mls_wire.specs.Combine.{uint16, byte_string}
use Rattle.mls_leaf.specs.Limits.{input_limit}
use Rattle.mls_leaf.specs.declared.extension.Extension.{Extension}
use Rattle.mls_leaf.specs.Extension.{extension}
use Rattle.mls_leaf.specs.GroupExtensions.{group_extensions, is_short}
use Rattle.mls_leaf.proofs.Loops.{flat_map-more}
use Rattle.mls_leaf.proofs.GroupExtensionsLaws.{group_extensions-spelled}

-- how many bytes the spelling of some of them has
abbrev pub content_length : List Extension → ℕ
content_length vs = length (flat_map extension.spell vs)

pub spell_length : (v : Extension) → length (extension.spell v) ≡ 2 + length (header (length v.content)) + length v.content
unfolding extension uint
spell_length v = omega (arith, length-append (uint16.spell v.kind) (byte_string.spell v.content), length-append (header (length v.content)) v.content)

pub content_more : (vs : List Extension) (i : ℕ) (v : Extension) → i < length vs → v ≡ get_or vs i v → content_length (take (i + 1) vs) ≡ content_length (take i vs) + length (extension.spell v)
content_more vs i v lt is = ap length (flat_map-more extension.spell vs i v lt is) ∙ length-append (flat_map extension.spell (take i vs)) (extension.spell v)

pub content_all : (vs : List Extension) (n : ℕ) → length vs ≤ n → content_length (take n vs) ≡ content_length vs
content_all vs n le = ap content_length (take_all n vs le)

-- the list is its content behind a header
pub list_length : (vs : List Extension) → length (group_extensions.spell vs) ≡ length (header (content_length vs)) + content_length vs
list_length vs = ap length (group_extensions-spelled vs) ∙ length-append (header (content_length vs)) (flat_map extension.spell vs)

-- a front of it that is too long makes it too long
pub front_too_long : (vs : List Extension) (i : ℕ) (v : Extension) → i < length vs → v ≡ get_or vs i v → input_limit < content_length (take i vs) + length (extension.spell v) → is_short vs ≡ false
front_too_long vs i v lt is over =
    let all = length-flat_map-take extension.spell vs i v lt in
    let here : length (extension.spell v) ≡ length (extension.spell (get_or vs i v)) = ap (λ (w : Extension). length (extension.spell w)) is in
    lt-leb (length (group_extensions.spell vs)) input_limit (omega (arith, list_length vs))
