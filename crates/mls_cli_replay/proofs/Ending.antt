-- The lines of members, compared with those that are expected, one by one.
use Rattle.std.proofs.Common.{◌≡◌, ◌∙◌, ◌<◌, ◌≤◌, ◌+◌, ◌-◌, ◌==◌, ◌++◌, ℕ, zero, suc, List, [], ◌∷◌, Bool, Option, Some, None, option_map, option_to_list, map, max, length, slice_get, string_bytes, Result, Ok, Err, refl, ap, sym, arith, append_assoc, append-nil, ne_eqb}
use Rattle.std.proofs.lemmas.Grind.{flat_map-append}
use Rattle.std.proofs.lemmas.List.{map-append}
use Rattle.std.proofs.lemmas.List.Folds.{flat_map-map}
use Rattle.std.specs.Borrow.{Bor}
use Rattle.std.specs.Global.{Global, Vec}
use Rattle.std.specs.List.{flat_map}
use Rattle.std.specs.Prelude.{IfErr}
use Rattle.std.specs.declared.string.String.{String}
use Rattle.mls_model.specs.Member.{Member}
use Rattle.mls_model.specs.World.{Seat}
use Rattle.mls_cli_recording.specs.Calls.{texts_view}
use Rattle.mls_cli_replay.specs.Replay.{ReplayEntry, closing_text, difference, differences, entry_of, entry_text, entry_words, final_entries, is_silent, line_at, member_entries, member_entry, members_text, missing, texts_of}
use Rattle.mls_cli_replay.specs.declared.line.ReplayLine.{ReplayLine}
use Rattle.mls_cli_replay.proofs.Playing.{entry_nonempty}

-- ---- one number more

none_there : (seats : List Seat) (texts : List (List ℕ)) (k : ℕ) → differences seats texts k zero ≡ []
unfolding differences
none_there seats texts k = refl

one_more : (seats : List Seat) (texts : List (List ℕ)) (k n : ℕ) → differences seats texts k (suc n) ≡ option_to_list (difference k (line_at seats k) (slice_get texts k)) ++ differences seats texts (k + 1) n
unfolding differences
one_more seats texts k n = refl

-- the lines that are made so far, and what is left to say
abbrev pub Compared : List Seat → List (List ℕ) → ℕ → ℕ → List ReplayLine → Type 0
Compared seats texts most k lines = map entry_of lines ++ differences seats texts k (most - k) ≡ differences seats texts 0 most

pub compared_none : (seats : List Seat) (texts : List (List ℕ)) (most : ℕ) → Compared seats texts most 0 []
compared_none seats texts most = ap (differences seats texts 0) (omega arith)

behind : (lines : List ReplayLine) (found : Option ReplayLine) (rest : List ReplayEntry) → map entry_of (lines ++ option_to_list found) ++ rest ≡ map entry_of lines ++ (option_to_list (option_map entry_of found) ++ rest)
behind lines None rest = rw append-nil refl
behind lines (Some line) rest = rw (map-append entry_of lines (line ∷ [])) (append_assoc (map entry_of lines) (entry_of line ∷ []) rest)

pub compared_next : (seats : List Seat) (texts : List (List ℕ)) (most k : ℕ) (lines new : List ReplayLine) (found : Option ReplayLine) → k < most
    → option_map entry_of found ≡ difference k (line_at seats k) (slice_get texts k) → new ≡ lines ++ option_to_list found
    → Compared seats texts most k lines → Compared seats texts most (k + 1) new
compared_next seats texts most k lines new found lt is grew so =
    let left : most - k ≡ suc (most - (k + 1)) = omega arith in
    ap (λ (xs : List ReplayLine). map entry_of xs ++ differences seats texts (k + 1) (most - (k + 1))) grew
    ∙ behind lines found (differences seats texts (k + 1) (most - (k + 1)))
    ∙ ap (λ (d : Option ReplayEntry). map entry_of lines ++ (option_to_list d ++ differences seats texts (k + 1) (most - (k + 1)))) is
    ∙ ap (λ (xs : List ReplayEntry). map entry_of lines ++ xs) (sym (one_more seats texts k (most - (k + 1))))
    ∙ ap (λ (n : ℕ). map entry_of lines ++ differences seats texts k n) (sym left)
    ∙ so

pub compared_all : (seats : List Seat) (texts : List (List ℕ)) (most k : ℕ) (lines : List ReplayLine) → most ≤ k → Compared seats texts most k lines → map entry_of lines ≡ differences seats texts 0 most
compared_all seats texts most k lines le so =
    let none : most - k ≡ zero = omega arith in
    sym (ap (λ (n : ℕ). map entry_of lines ++ differences seats texts k n) none ∙ ap (λ (xs : List ReplayEntry). map entry_of lines ++ xs) (none_there seats texts k) ∙ append-nil (map entry_of lines))
    ∙ so

-- ---- something is said in the end, where there is a member or a text

first_missing : (t : List ℕ) (ts : List (List ℕ)) (m : ℕ) → 0 < m → 0 < length (flat_map entry_text (differences [] (t ∷ ts) 0 m))
unfolding differences
first_missing t ts zero lt = absurd (omega arith)
first_missing t ts (suc n) lt = entry_nonempty (missing 0 t) (flat_map entry_text (differences [] (t ∷ ts) 1 n))

pub something_said : (seats : List Seat) (texts : List (List ℕ)) → 0 < max (length seats) (length texts) → 0 < length (closing_text seats (Some texts))
unfolding member_entries
something_said (s ∷ ss) texts lt = entry_nonempty (member_entry 0 s.member) (flat_map entry_text (member_entries 1 ss ++ final_entries (s ∷ ss) (Some texts)))
something_said [] [] lt = absurd (omega arith)
something_said [] (t ∷ ts) lt = let none : List Seat = [] in first_missing t ts (max (length none) (length (t ∷ ts))) lt

pub if_err : {T E : Type 0} {P Q : Type 0} (r : Result T E) → (P → Q) → IfErr r (λ _. P) → IfErr r (λ _. Q)
if_err (Ok x) f p = tt
if_err (Err e) f p = f p

-- ---- what is printed

-- the line of member k by the member that is there
pub line_by : (seats : List Seat) (k : ℕ) → line_at seats k ≡ option_map (λ (m : Member). entry_words (member_entry k m)) (option_map (λ (s : Seat). s.member) (slice_get seats k))
line_by seats k = by (slice_get seats k)
  where
    by : (o : Option Seat) → option_map (λ (s : Seat). entry_words (member_entry k s.member)) o ≡ option_map (λ (m : Member). entry_words (member_entry k m)) (option_map (λ (s : Seat). s.member) o)
    by None = refl
    by (Some s) = refl

pub closing_is : (seats : List Seat) (texts : Option (List (List ℕ))) → closing_text seats texts ≡ members_text seats ++ flat_map entry_text (final_entries seats texts)
closing_is seats texts = flat_map-append entry_text (member_entries 0 seats) (final_entries seats texts)

-- lines that say the differences have their text
pub lines_say : (lines : List ReplayLine) (entries : List ReplayEntry) → map entry_of lines ≡ entries → flat_map (λ (l : ReplayLine). entry_text (entry_of l)) lines ≡ flat_map entry_text entries
lines_say lines entries is = sym (flat_map-map entry_text entry_of lines) ∙ ap (flat_map entry_text) is

pub silent : (lines : List ReplayLine) (entries : List ReplayEntry) (b : Bool) → map entry_of lines ≡ entries → b ≡ (length lines == 0) → b ≡ is_silent entries
silent [] entries b is none = rw (none, ← is) refl
silent (l ∷ ls) entries b is some = rw (some, ne_eqb (length (l ∷ ls)) 0 (λ e. omega (arith, e)), ← is) refl

-- the texts that are expected, by what is lent of them
pub texts_lent : (lent : Option (Bor (List (String Global)))) (own : Option (Vec (String Global)))
    → option_map (λ (t : Bor (List (String Global))). t.now) lent ≡ option_map (λ (v : Vec (String Global)). v.items) own → texts_of lent ≡ option_map texts_view own
texts_lent None None e = refl
texts_lent None (Some v) e = absurd cc
texts_lent (Some t) None e = absurd cc
texts_lent (Some t) (Some v) e = let same : t.now ≡ v.items = cc in ap (λ (xs : List (String Global)). Some (map string_bytes xs)) same
