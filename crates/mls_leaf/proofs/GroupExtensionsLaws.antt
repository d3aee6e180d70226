-- The laws of the extensions that a group carries.
use Rattle.std.proofs.Common.{◌≡◌, ℕ, zero, suc, ◌<◌, ◌≤◌, ◌^◌, Bool, true, false, ◌&&◌, List, [], ◌∷◌, ◌++◌, length, Result, Ok, Err, refl, sym, ap, subst, ◌∙◌, arith}
use Rattle.std.specs.Prelude.{nat_le, nat_lt, not}
use Rattle.std.specs.List.{flat_map, AllByRecursion}
use Rattle.std.proofs.lemmas.Bool.{and_parts, ltb-true, leb-true}
use Rattle.std.proofs.lemmas.List.{length-append}
use Rattle.mls_wire.specs.Reading.{◌>>=◌, header}
use Rattle.mls_wire.specs.Laws.{bind_ok, ok_is, guard_is}
use Rattle.mls_wire.specs.CombineLaws.{chosen_by}
use Rattle.mls_wire.specs.Combine.{vector, uint16, byte_string}
use Rattle.mls_wire.specs.CombineReads.{next_read, seen_read, if_passes}
use Rattle.mls_wire.specs.StatefulReads.{run_at, run_spelling, RunFits}
use Rattle.mls_leaf.specs.declared.error.LeafError.{LeafError}
use Rattle.mls_leaf.specs.declared.extension.Extension.{Extension}
use Rattle.mls_leaf.specs.Faults.{AddsSpelling}
use Rattle.mls_leaf.specs.Extension.{extension, extension_nonempty}
use Rattle.mls_leaf.specs.GroupExtensions.{is_private, is_among, is_new, are_new, are_allowed, extension_where, each_once, group_extensions}
use Rattle.mls_leaf.specs.TypeMarks.{type_where}
use Rattle.mls_leaf.proofs.Codecs.{Refuses-whole}

-- ---- an extension at a time

pub is_among-nil : (kind : ℕ) → is_among [] kind ≡ false
unfolding is_among
is_among-nil kind = refl

pub are_new-nil : (types : List ℕ) → are_new types [] ≡ true
unfolding are_new
are_new-nil types = refl

pub are_new-cons : (types : List ℕ) (v : Extension) (vs : List Extension) → are_new types (v ∷ vs) ≡ (is_new types v.kind && are_new (v.kind ∷ types) vs)
unfolding are_new
are_new-cons types v vs = refl

pub are_new-more : (types : List ℕ) (v : Extension) (vs : List Extension) → is_new types v.kind ≡ true → are_new types (v ∷ vs) ≡ are_new (v.kind ∷ types) vs
are_new-more types v vs new = are_new-cons types v vs ∙ ap (λ (b : Bool). b && are_new (v.kind ∷ types) vs) new

pub are_new-stops : (types : List ℕ) (v : Extension) (vs : List Extension) → is_new types v.kind ≡ false → are_new types (v ∷ vs) ≡ false
are_new-stops types v vs old = are_new-cons types v vs ∙ ap (λ (b : Bool). b && are_new (v.kind ∷ types) vs) old

-- a type for private use is one of f000 to ffff
pub private_within : (kind : ℕ) → is_private kind ≡ true → (61440 ≤ kind) × (kind < 65536)
private_within kind is =
    let both = and_parts (nat_le 61440 kind) (nat_lt kind 65536) is in
    (leb-true 61440 kind both.0, ltb-true kind 65536 both.1)

-- ---- what is read passes its test

abbrev pub extension_of : ℕ × List ℕ → Extension
extension_of x = record { kind = x.0; content = x.1 }

abbrev pub data_put : ℕ → List ℕ × List ℕ → Result ((ℕ × List ℕ) × List ℕ) ℕ
data_put kind y = Ok ((kind, y.0), y.1)

abbrev pub seen_put : (ℕ × List ℕ) × List ℕ → Result (Extension × List ℕ) ℕ
seen_put x = seen_read extension_of x

abbrev pub item_read : Result (ℕ × List ℕ) ℕ → Result (Extension × List ℕ) ℕ
item_read kind = (kind >>= next_read (λ (k : ℕ). byte_string)) >>= seen_put

-- an extension is read as its type and its data are
pub where_read : (allowed : ℕ → Bool) (bytes mid rest content : List ℕ) (kind : ℕ) → (type_where allowed).read bytes ≡ Ok (kind, mid) → byte_string.read mid ≡ Ok (content, rest) → (extension_where allowed).read bytes ≡ Ok (extension_of (kind, content), rest)
where_read allowed bytes mid rest content kind first second =
    ap item_read first ∙ ap (λ (r : Result (List ℕ × List ℕ) ℕ). (r >>= data_put kind) >>= seen_put) second

pub type_passes : (allowed : ℕ → Bool) (bytes rest : List ℕ) (kind : ℕ) → (type_where allowed).read bytes ≡ Ok (kind, rest) → allowed kind ≡ true
type_passes allowed bytes rest kind e =
    let number = bind_ok (uint16.read bytes) (if_passes allowed 14) (kind, rest) e in
    let test = guard_is (allowed number.0.0) 14 number.0 (kind, rest) number.2 in
    subst (λ (k : ℕ). allowed k ≡ true) (ap (λ (x : ℕ × List ℕ). x.0) test.1) test.0

pub where_passes : (allowed : ℕ → Bool) (bytes rest : List ℕ) (v : Extension) → (extension_where allowed).read bytes ≡ Ok (v, rest) → allowed v.kind ≡ true
where_passes allowed bytes rest v e =
    let whole = bind_ok ((type_where allowed).read bytes >>= next_read (λ (k : ℕ). byte_string)) seen_put (v, rest) e in
    let parts = bind_ok ((type_where allowed).read bytes) (next_read (λ (k : ℕ). byte_string)) whole.0 whole.1 in
    let content = bind_ok (byte_string.read parts.0.1) (data_put parts.0.0) whole.0 parts.2 in
    let second : parts.0.0 ≡ whole.0.0.0 = ap (λ (x : (ℕ × List ℕ) × List ℕ). x.0.0) (ok_is ((parts.0.0, content.0.0), content.0.1) whole.0 content.2) in
    let third : whole.0.0.0 ≡ v.kind = ap (λ (x : Extension × List ℕ). x.0.kind) (ok_is (extension_of whole.0.0, whole.0.1) (v, rest) whole.2) in
    subst (λ (k : ℕ). allowed k ≡ true) (second ∙ third) (type_passes allowed bytes parts.0.1 parts.0.0 parts.1)

-- two tests that answer alike read alike
pub types_alike : (one other : ℕ → Bool) → ((k : ℕ) → one k ≡ other k) → (bytes : List ℕ) → (type_where one).read bytes ≡ (type_where other).read bytes
types_alike one other same bytes = alike (uint16.read bytes)
  where
    alike : (r : Result (ℕ × List ℕ) ℕ) → (r >>= if_passes one 14) ≡ (r >>= if_passes other 14)
    alike (Ok x) = ap (λ (b : Bool). chosen_by b 14 x) (same x.0)
    alike (Err e) = refl

-- what is read may be carried
pub run_new : (fuel : ℕ) (types bytes : List ℕ) (vs : List Extension) → run_at each_once fuel types bytes ≡ Ok vs → are_new types vs ≡ true
run_new fuel types [] vs e = subst (λ (l : List Extension). are_new types l ≡ true) (ok_is [] vs e) (are_new-nil types)
run_new zero types (b ∷ bytes) vs e = absurd cc
run_new (suc fuel) types (b ∷ bytes) vs e =
    let a = bind_ok ((each_once.item types).read (b ∷ bytes)) (λ first. run_at each_once fuel (each_once.next types first.0) first.1 >>= λ others. Ok (first.0 ∷ others)) vs e in
    let t = bind_ok (run_at each_once fuel (each_once.next types a.0.0) a.0.1) (λ others. Ok (a.0.0 ∷ others)) vs a.2 in
    let passed = where_passes (is_new types) (b ∷ bytes) a.0.1 a.0.0 a.1 in
    subst (λ (l : List Extension). are_new types l ≡ true) (ok_is (a.0.0 ∷ t.0) vs t.2) (are_new-more types a.0.0 t.0 passed ∙ run_new fuel (a.0.0.kind ∷ types) a.0.1 t.0 t.1)

-- ---- they are spelled as other extensions are

pub run_spelling-once : (types : List ℕ) (vs : List Extension) → run_spelling each_once types vs ≡ flat_map extension.spell vs
unfolding extension
run_spelling-once types [] = refl
run_spelling-once types (v ∷ vs) = ap (λ (l : List ℕ). extension.spell v ++ l) (run_spelling-once (v.kind ∷ types) vs)

pub RunFits-once : (types : List ℕ) (vs : List Extension) → are_new types vs ≡ true → AllByRecursion extension.Fits vs → RunFits each_once types vs
unfolding extension
RunFits-once types [] new fits = tt
RunFits-once types (v ∷ vs) new fits =
    let both = and_parts (is_new types v.kind) (are_new (v.kind ∷ types) vs) (sym (are_new-cons types v vs) ∙ new) in
    (((fits.0.0, both.0), fits.0.1), RunFits-once (v.kind ∷ types) vs both.1 fits.1)

pub RunFits-entries : (types : List ℕ) (vs : List Extension) → RunFits each_once types vs → AllByRecursion extension.Fits vs
unfolding extension
RunFits-entries types [] fits = tt
RunFits-entries types (v ∷ vs) fits = ((fits.0.0.0, fits.0.1), RunFits-entries (v.kind ∷ types) vs fits.1)

pub RunFits-new : (types : List ℕ) (vs : List Extension) → RunFits each_once types vs → are_new types vs ≡ true
RunFits-new types [] fits = are_new-nil types
RunFits-new types (v ∷ vs) fits = are_new-more types v vs fits.0.0.1 ∙ RunFits-new (v.kind ∷ types) vs fits.1

pub extensions_added : (vs : List Extension) (old new : List ℕ) (r : Result (Unit {0}) LeafError) → are_allowed vs ≡ true → AddsSpelling (vector extension extension_nonempty) vs old r new → AddsSpelling group_extensions vs old r new
unfolding group_extensions
extensions_added vs old new (Ok _) may h = rw (run_spelling-once [] vs) ((RunFits-once [] vs may h.0.0, h.0.1), h.1)
extensions_added vs old new (Err e) may h =
    Refuses-whole ((vector extension extension_nonempty).Fits vs) (group_extensions.Fits vs) e
    (λ fits. (RunFits-entries [] vs fits.0, subst (λ (l : List ℕ). length l < 2 ^ 30) (run_spelling-once [] vs) fits.1)) h

-- ---- which lists have a spelling

pub group_extensions-spelled : (vs : List Extension) → group_extensions.spell vs ≡ (vector extension extension_nonempty).spell vs
unfolding group_extensions
group_extensions-spelled vs = rw (run_spelling-once [] vs) refl

-- a list that has a spelling may be carried
pub group_extensions-allowed : (vs : List Extension) → group_extensions.Fits vs → are_allowed vs ≡ true
unfolding group_extensions
group_extensions-allowed vs fits = RunFits-new [] vs fits.0

content_within : (text : List ℕ) → length text ≤ length (byte_string.spell text)
content_within text = omega (arith, length-append (header (length text)) text)

entries_fit : (types : List ℕ) (vs : List Extension) → are_new types vs ≡ true → length (flat_map extension.spell vs) < 2 ^ 30 → AllByRecursion extension.Fits vs
unfolding extension
entries_fit types [] new lt = tt
entries_fit types (v ∷ vs) new lt =
    let both = and_parts (is_new types v.kind) (are_new (v.kind ∷ types) vs) (sym (are_new-cons types v vs) ∙ new) in
    let within = private_within v.kind (and_parts (is_private v.kind) (not (is_among types v.kind)) both.0).0 in
    let below : v.kind < 65536 = within.1 in
    let parts = length-append (uint16.spell v.kind ++ byte_string.spell v.content) (flat_map extension.spell vs) in
    let first = length-append (uint16.spell v.kind) (byte_string.spell v.content) in
    let inside = content_within v.content in
    ((omega arith, omega arith), entries_fit (v.kind ∷ types) vs both.1 (omega arith))

-- a list that may be carried has a spelling, unless it is too long
pub group_extensions-fits : (vs : List Extension) → are_allowed vs ≡ true → length (group_extensions.spell vs) < 2 ^ 30 → group_extensions.Fits vs
unfolding group_extensions
group_extensions-fits vs may lt =
    let content : length (run_spelling each_once [] vs) < 2 ^ 30 = omega (arith, content_within (run_spelling each_once [] vs)) in
    (RunFits-once [] vs may (entries_fit [] vs may (subst (λ (l : List ℕ). length l < 2 ^ 30) (run_spelling-once [] vs) content)), content)
