-- The laws of the marks of types, and the loops that read extensions with them.
use Rattle.std.proofs.Common.{◌≡◌, ◌≢◌, ℕ, ◌+◌, ◌-◌, ◌<◌, ◌≤◌, ◌==◌, Bool, true, false, not, ◌&&◌, ◌||◌, List, [], ◌∷◌, ◌++◌, length, get_or, set, Result, Ok, Err, refl, sym, ap, subst, ◌∙◌, arith, inl, inr}
use Rattle.std.proofs.lemmas.Bool.{and_parts, cases_eq, eq-eqb, ne_eqb}
use Rattle.std.proofs.lemmas.List.{length-set, get_or-set_same, get_or-set_other}
use Rattle.mls_wire.specs.Reading.{◌>>=◌}
use Rattle.mls_wire.specs.Format.{IsBytes}
use Rattle.mls_wire.specs.Combine.{byte_string}
use Rattle.mls_wire.specs.declared.WireError.TheVariants as wire
use Rattle.mls_wire.specs.CombineReads.{without_value}
use Rattle.mls_leaf.specs.declared.error.LeafError.{LeafError}
use Rattle.mls_leaf.specs.declared.error.LeafError.TheVariants.{Wire, BadTag, UnsupportedCredential, UnsupportedProposal, NotRising, ExtensionNotAllowed}
use Rattle.mls_leaf.specs.declared.extension.Extension.{Extension}
use Rattle.mls_leaf.specs.Faults.{Fails, number_of}
use Rattle.mls_leaf.specs.GroupExtensions.{is_private, is_among, is_new, are_new, are_allowed, extension_where, extension_where_nonempty, each_once, allowed_extensions}
use Rattle.mls_leaf.specs.TypeMarks.{private_types, is_unmarked, with_mark, AreClear, type_where}
use Rattle.mls_leaf.proofs.Codecs.{Fails-then}
use Rattle.mls_leaf.proofs.RunLoops.{GoesOnFrom, begins_from, goes_on_from, ends_from, is_done_from, is_shorter, PastFrom, past_begins_from, past_goes_on_from, past_ends_from, past_is_done_from}
use Rattle.mls_leaf.proofs.GroupExtensionsLaws.{is_among-nil, are_new-nil, are_new-more, are_new-stops, private_within, extension_of, data_put, seen_put, item_read, where_read, type_passes, types_alike}

-- ---- which types have a mark

-- The types that have a mark are these.
pub record AreMarks (marks : List Bool) (types : List ℕ) : Type 0 where
  pub wide : length marks ≡ private_types
  pub marked : (k : ℕ) → k < private_types → get_or marks k false ≡ is_among types (61440 + k)

pub clear_marks : (marks : List Bool) → AreClear marks → AreMarks marks []
clear_marks marks clear = record { wide = clear.0; marked = λ k lt. clear.1 k ∙ sym (is_among-nil (61440 + k)) }

pub is_among-cons : (x kind : ℕ) (xs : List ℕ) → is_among (x ∷ xs) kind ≡ ((x == kind) || is_among xs kind)
unfolding is_among
is_among-cons x kind xs = refl

-- a type has no mark just where it is a new one
pub new_unmarked : (marks : List Bool) (types : List ℕ) → AreMarks marks types → (kind : ℕ) → is_unmarked marks kind ≡ is_new types kind
new_unmarked marks types are kind = by_private (is_private kind) refl
  where
    by_private : (b : Bool) → is_private kind ≡ b → is_unmarked marks kind ≡ is_new types kind
    by_private false is = ap (λ (b : Bool). b && not (get_or marks (kind - 61440) false)) is ∙ sym (ap (λ (b : Bool). b && not (is_among types kind)) is)
    by_private true is =
        let within = private_within kind is in
        let low : 61440 ≤ kind = within.0 in
        let high : kind < 65536 = within.1 in
        let place : 61440 + (kind - 61440) ≡ kind = omega arith in
        let there = are.marked (kind - 61440) (omega arith) ∙ ap (is_among types) place in
        ap (λ (b : Bool). is_private kind && not b) there

-- a mark more is a type more
pub marks_more : (marks : List Bool) (types : List ℕ) (kind : ℕ) → AreMarks marks types → is_private kind ≡ true → AreMarks (with_mark marks kind) (kind ∷ types)
marks_more marks types kind are is = record { wide = length-set marks (kind - 61440) true ∙ are.wide; marked = more }
  where
    more : (k : ℕ) → k < private_types → get_or (set marks (kind - 61440) true) k false ≡ is_among (kind ∷ types) (61440 + k)
    more k lt =
        let within = private_within kind is in
        let low : 61440 ≤ kind = within.0 in
        let high : kind < 65536 = within.1 in
        let wide : length marks ≡ private_types = are.wide in
        elim (cases_eq (kind - 61440) k) [
          | inl here ↦
              (let at : kind ≡ 61440 + k = omega arith in
              subst (λ (i : ℕ). get_or (set marks (kind - 61440) true) i false ≡ true) here (get_or-set_same marks (kind - 61440) true false (omega arith))
              ∙ sym (is_among-cons kind (61440 + k) types ∙ ap (λ (b : Bool). b || is_among types (61440 + k)) (eq-eqb kind (61440 + k) at)))
          | inr other ↦
              (let apart : k ≢ kind - 61440 = λ e. other (sym e) in
              get_or-set_other marks (kind - 61440) k true false apart ∙ are.marked k lt
              ∙ sym (is_among-cons kind (61440 + k) types ∙ ap (λ (b : Bool). b || is_among types (61440 + k)) (ne_eqb kind (61440 + k) (λ e. other (omega arith)))))
        ]

-- a new type is for private use
new_private : (types : List ℕ) (kind : ℕ) → is_new types kind ≡ true → is_private kind ≡ true
new_private types kind new = (and_parts (is_private kind) (not (is_among types kind)) new).0

-- ---- whether a list may be carried, as the loop goes

-- What is left may stand behind what was marked just where all may be carried.
pub record AllowedFrom (total : Bool) (marks : List Bool) (vs : List Extension) : Type 0 where
  pub types : List ℕ
  pub are : AreMarks marks types
  pub so_far : are_new types vs ≡ total

pub allowed_begins : (marks : List Bool) (vs : List Extension) → AreClear marks → AllowedFrom (are_allowed vs) marks vs
allowed_begins marks vs clear = record { types = []; are = clear_marks marks clear; so_far = refl }

pub allowed_goes_on : (total : Bool) (marks : List Bool) (v : Extension) (vs : List Extension) → is_unmarked marks v.kind ≡ true → AllowedFrom total marks (v ∷ vs) → AllowedFrom total (with_mark marks v.kind) vs
allowed_goes_on total marks v vs new h =
    let is : is_new h.types v.kind ≡ true = sym (new_unmarked marks h.types h.are v.kind) ∙ new in
    record { types = v.kind ∷ h.types; are = marks_more marks h.types v.kind h.are (new_private h.types v.kind is); so_far = sym (are_new-more h.types v vs is) ∙ h.so_far }

pub allowed_stops : (total : Bool) (marks : List Bool) (v : Extension) (vs : List Extension) → is_unmarked marks v.kind ≡ false → AllowedFrom total marks (v ∷ vs) → total ≡ false
allowed_stops total marks v vs old h = sym h.so_far ∙ are_new-stops h.types v vs (sym (new_unmarked marks h.types h.are v.kind) ∙ old)

pub allowed_ends : (total : Bool) (marks : List Bool) → AllowedFrom total marks [] → total ≡ true
allowed_ends total marks h = sym h.so_far ∙ are_new-nil h.types

-- ---- reading

-- an item's fault, as a call tells it, is the fault of all
pub fails_from : (total : Result (List Extension) ℕ) (front : List Extension) (types bytes : List ℕ) (e : LeafError) → 0 < length bytes → Fails e ((each_once.item types).read bytes) → GoesOnFrom each_once total front types bytes → Fails e total
fails_from total front types bytes (Wire wire.OutOfMemory) some h b = tt
fails_from total front types bytes (Wire wire.Truncated) some h b = ends_from each_once total front types bytes 2 some h b
fails_from total front types bytes (Wire wire.Trailing) some h b = ends_from each_once total front types bytes 3 some h b
fails_from total front types bytes (Wire wire.BadLength) some h b = ends_from each_once total front types bytes 4 some h b
fails_from total front types bytes (Wire wire.NotMinimal) some h b = ends_from each_once total front types bytes 5 some h b
fails_from total front types bytes (Wire wire.TooLong) some h b = ends_from each_once total front types bytes 6 some h b
fails_from total front types bytes BadTag some h b = ends_from each_once total front types bytes 7 some h b
fails_from total front types bytes UnsupportedCredential some h b = ends_from each_once total front types bytes 11 some h b
fails_from total front types bytes UnsupportedProposal some h b = ends_from each_once total front types bytes 12 some h b
fails_from total front types bytes NotRising some h b = ends_from each_once total front types bytes 13 some h b
fails_from total front types bytes ExtensionNotAllowed some h b = ends_from each_once total front types bytes 14 some h b

-- a fault that reading has is one that a call may tell
pub fails_now : {V : Type 0} (e : LeafError) (r : Result V ℕ) → r ≡ Err (number_of e) → Fails e r
fails_now (Wire wire.OutOfMemory) r h = tt
fails_now (Wire wire.Truncated) r h = h
fails_now (Wire wire.Trailing) r h = h
fails_now (Wire wire.BadLength) r h = h
fails_now (Wire wire.NotMinimal) r h = h
fails_now (Wire wire.TooLong) r h = h
fails_now BadTag r h = h
fails_now UnsupportedCredential r h = h
fails_now UnsupportedProposal r h = h
fails_now NotRising r h = h
fails_now ExtensionNotAllowed r h = h

-- What is left is read, behind the types that are marked, to the answer for all of it.
pub record ReadsOn (total : Result (List Extension) ℕ) (front : List Extension) (marks : List Bool) (bytes : List ℕ) : Type 0 where
  pub types : List ℕ
  pub are : AreMarks marks types
  pub goes_on : GoesOnFrom each_once total front types bytes

pub reads_begin : (marks : List Bool) (bytes : List ℕ) → AreClear marks → ReadsOn (allowed_extensions bytes) [] marks bytes
reads_begin marks bytes clear = record { types = []; are = clear_marks marks clear; goes_on = begins_from each_once [] bytes }

-- the type, read as the marks say, is read as the types say
type_read : (marks : List Bool) (types bytes : List ℕ) → AreMarks marks types → (type_where (is_new types)).read bytes ≡ (type_where (is_unmarked marks)).read bytes
type_read marks types bytes are = types_alike (is_new types) (is_unmarked marks) (λ k. sym (new_unmarked marks types are k)) bytes

where_is : (marks : List Bool) (types bytes mid rest content : List ℕ) (kind : ℕ) → AreMarks marks types → (type_where (is_unmarked marks)).read bytes ≡ Ok (kind, mid) → byte_string.read mid ≡ Ok (content, rest)
    → (each_once.item types).read bytes ≡ Ok (extension_of (kind, content), rest)
where_is marks types bytes mid rest content kind are first second = where_read (is_new types) bytes mid rest content kind (type_read marks types bytes are ∙ first) second

-- the type that was read is marked
marks_read : (marks : List Bool) (types bytes mid : List ℕ) (kind : ℕ) → AreMarks marks types → (type_where (is_unmarked marks)).read bytes ≡ Ok (kind, mid) → AreMarks (with_mark marks kind) (kind ∷ types)
marks_read marks types bytes mid kind are first = marks_more marks types kind are (and_parts (is_private kind) (not (get_or marks (kind - 61440) false)) (type_passes (is_unmarked marks) bytes mid kind first)).0

pub reads_on : (total : Result (List Extension) ℕ) (front : List Extension) (marks : List Bool) (bytes mid rest content : List ℕ) (kind : ℕ) → IsBytes bytes → (type_where (is_unmarked marks)).read bytes ≡ Ok (kind, mid) → byte_string.read mid ≡ Ok (content, rest)
    → ReadsOn total front marks bytes → ReadsOn total (front ++ extension_of (kind, content) ∷ []) (with_mark marks kind) rest
reads_on total front marks bytes mid rest content kind fits first second h = record {
  types = kind ∷ h.types;
  are = marks_read marks h.types bytes mid kind h.are first;
  goes_on = goes_on_from each_once total front h.types bytes rest (extension_of (kind, content)) fits (where_is marks h.types bytes mid rest content kind h.are first second) h.goes_on;
}

pub reads_shorter : (marks : List Bool) (bytes mid rest content : List ℕ) (kind : ℕ) → IsBytes bytes → (type_where (is_unmarked marks)).read bytes ≡ Ok (kind, mid) → byte_string.read mid ≡ Ok (content, rest) → length rest < length bytes
reads_shorter marks bytes mid rest content kind fits first second =
    is_shorter (extension_where (is_unmarked marks)) (extension_where_nonempty (is_unmarked marks)) bytes rest (extension_of (kind, content)) fits (where_read (is_unmarked marks) bytes mid rest content kind first second)

-- the type's fault is the fault of all
pub type_ends : (total : Result (List Extension) ℕ) (front : List Extension) (marks : List Bool) (bytes : List ℕ) (e : LeafError) → 0 < length bytes → (type_where (is_unmarked marks)).read bytes ≡ Err (number_of e)
    → ReadsOn total front marks bytes → Fails e total
type_ends total front marks bytes e some h b =
    let item : (each_once.item b.types).read bytes ≡ Err (number_of e) = ap item_read (type_read marks b.types bytes b.are ∙ h) in
    fails_from total front b.types bytes e some (fails_now e ((each_once.item b.types).read bytes) item) b.goes_on

-- the data's fault is the fault of all
pub data_ends : (total : Result (List Extension) ℕ) (front : List Extension) (marks : List Bool) (bytes mid : List ℕ) (kind : ℕ) (e : LeafError) → 0 < length bytes → (type_where (is_unmarked marks)).read bytes ≡ Ok (kind, mid)
    → Fails e (byte_string.read mid) → ReadsOn total front marks bytes → Fails e total
data_ends total front marks bytes mid kind e some first h b =
    let item : (each_once.item b.types).read bytes ≡ (byte_string.read mid >>= data_put kind >>= seen_put) = ap item_read (type_read marks b.types bytes b.are ∙ first) in
    let there : Fails e (byte_string.read mid >>= data_put kind >>= seen_put) = Fails-then e (byte_string.read mid >>= data_put kind) seen_put (Fails-then e (byte_string.read mid) (data_put kind) h) in
    fails_from total front b.types bytes e some (subst (λ (r : Result (Extension × List ℕ) ℕ). Fails e r) (sym item) there) b.goes_on

-- nothing is left
pub reads_end : (total : Result (List Extension) ℕ) (front : List Extension) (marks : List Bool) (bytes : List ℕ) → bytes ≡ [] → ReadsOn total front marks bytes → total ≡ Ok front
reads_end total front marks bytes nil b = is_done_from each_once total front b.types bytes nil b.goes_on

-- ---- reading past

-- What is left is read past, behind the types that are marked, to the answer for all of it.
pub record PassesOn (total : Result (Unit {0}) ℕ) (marks : List Bool) (bytes : List ℕ) : Type 0 where
  pub types : List ℕ
  pub are : AreMarks marks types
  pub goes_on : PastFrom each_once total types bytes

pub passes_begin : (marks : List Bool) (bytes : List ℕ) → AreClear marks → PassesOn (without_value (allowed_extensions bytes)) marks bytes
passes_begin marks bytes clear = record { types = []; are = clear_marks marks clear; goes_on = past_begins_from each_once [] bytes }

pub passes_on : (total : Result (Unit {0}) ℕ) (marks : List Bool) (bytes mid rest content : List ℕ) (kind : ℕ) → IsBytes bytes → (type_where (is_unmarked marks)).read bytes ≡ Ok (kind, mid) → byte_string.read mid ≡ Ok (content, rest)
    → PassesOn total marks bytes → PassesOn total (with_mark marks kind) rest
passes_on total marks bytes mid rest content kind fits first second h = record {
  types = kind ∷ h.types;
  are = marks_read marks h.types bytes mid kind h.are first;
  goes_on = past_goes_on_from each_once total h.types bytes rest (extension_of (kind, content)) fits (where_is marks h.types bytes mid rest content kind h.are first second) h.goes_on;
}

pub type_past_ends : (total : Result (Unit {0}) ℕ) (marks : List Bool) (bytes : List ℕ) (f : ℕ) → 0 < length bytes → (type_where (is_unmarked marks)).read bytes ≡ Err f → PassesOn total marks bytes → total ≡ Err f
type_past_ends total marks bytes f some h b = past_ends_from each_once total b.types bytes f some (ap item_read (type_read marks b.types bytes b.are ∙ h)) b.goes_on

pub data_past_ends : (total : Result (Unit {0}) ℕ) (marks : List Bool) (bytes mid : List ℕ) (kind f : ℕ) → 0 < length bytes → (type_where (is_unmarked marks)).read bytes ≡ Ok (kind, mid) → byte_string.read mid ≡ Err f
    → PassesOn total marks bytes → total ≡ Err f
data_past_ends total marks bytes mid kind f some first h b =
    past_ends_from each_once total b.types bytes f some
    (ap item_read (type_read marks b.types bytes b.are ∙ first) ∙ ap (λ (r : Result (List ℕ × List ℕ) ℕ). r >>= data_put kind >>= seen_put) h) b.goes_on

pub passes_end : (total : Result (Unit {0}) ℕ) (marks : List Bool) (bytes : List ℕ) → bytes ≡ [] → PassesOn total marks bytes → total ≡ Ok tt
passes_end total marks bytes nil b = past_is_done_from each_once total b.types bytes nil b.goes_on
