-- Ciphertexts one after the other, as the loops go that count them and seek one.
use Rattle.std.proofs.Common.{◌≡◌, ℕ, suc, zero, ◌+◌, ◌^◌, ◌<◌, ◌≤◌, List, [], ◌∷◌, ◌++◌, length, drop, Option, Some, None, Result, Ok, Err, refl, sym, ap, subst, ◌∙◌, arith, length-append, length-drop}
use Rattle.std.specs.List.{flat_map, AllByRecursion, slice_get}
use Rattle.std.specs.Option.{option_copied, option_map}
use Rattle.std.specs.Borrow.{Bor}
use Rattle.std.specs.Slice.{IsItemAt}
use Rattle.std.specs.Prelude.{MatchResult}
use Rattle.std.specs.Result.{result_ok}
use Rattle.std.proofs.lemmas.Option.{slice_get_past, slice_get-get_or}
use Rattle.mls_wire.specs.Reading.{length_at, opaque, opaque_at}
use Rattle.mls_wire.specs.Combine.{vector}
use Rattle.mls_wire.specs.Faults.{RefusesContent}
use Rattle.mls_wire.specs.declared.WireError.{WireError}
use Rattle.mls_wire.specs.declared.WireError.TheVariants.{OutOfMemory, Truncated, Trailing, BadLength, NotMinimal, TooLong}
use Rattle.mls_wire.specs.Format.{IsBytes}
use Rattle.mls_wire.specs.Laws.{ok_is}
use Rattle.mls_wire.specs.CombineLaws.{good, items_take}
use Rattle.mls_wire.specs.CombineReads.{items_at}
use Rattle.mls_leaf.specs.declared.error.LeafError.{LeafError}
use Rattle.mls_leaf.specs.declared.error.LeafError.TheVariants.{Wire}
use Rattle.mls_leaf.specs.Faults.{Refuses, items_in}
use Rattle.mls_leaf.proofs.Loops.{GoesOn, begins, goes_on, is_done, past_err}
use Rattle.mls_leaf.proofs.RunLoops.{with_front, is_shorter}
use Rattle.mls_leaf.proofs.WholeLaws.{past_ok}
use Rattle.mls_types.specs.declared.update_path.HpkeCiphertext.{HpkeCiphertext}
use Rattle.mls_types.specs.declared.ciphertexts.CiphertextRef.{CiphertextRef}
use Rattle.mls_types.specs.UpdatePath.{hpke_ciphertext, hpke_ciphertext_nonempty}
use Rattle.mls_types.specs.Ciphertexts.{AreSpelled, SpellSoMany, ciphertext_lent, ciphertexts_in, items_or_none}

abbrev done_all : List HpkeCiphertext → Result (List HpkeCiphertext) ℕ
done_all xs = Ok xs

abbrev pub some_of : HpkeCiphertext → Option HpkeCiphertext
some_of x = Some x

-- ---- counting

-- so many ciphertexts stand in front of what is left
pub record Counted (bytes : List ℕ) (count : ℕ) (rest : List ℕ) : Type 0 where
  pub fits : IsBytes bytes
  pub front : List HpkeCiphertext
  pub left : GoesOn hpke_ciphertext (items_in hpke_ciphertext bytes) front rest
  pub counted : count ≡ length front
  pub within : count + length rest ≤ length bytes

pub counted_none : (bytes : List ℕ) → IsBytes bytes → Counted bytes 0 bytes
counted_none bytes fits = record { fits = fits; front = []; left = begins hpke_ciphertext bytes; counted = refl; within = omega arith }

-- what is read past is a ciphertext
pub passed_is : (rest left : List ℕ) → hpke_ciphertext.pass rest ≡ Ok left → (x : HpkeCiphertext) × (hpke_ciphertext.read rest ≡ Ok (x, left))
passed_is rest left e = past_ok (hpke_ciphertext.read rest) left (sym (hpke_ciphertext.passes rest) ∙ e)

pub passed_shorter : (rest left : List ℕ) → IsBytes rest → hpke_ciphertext.pass rest ≡ Ok left → length left < length rest
passed_shorter rest left fits e =
    let x = passed_is rest left e in
    is_shorter hpke_ciphertext hpke_ciphertext_nonempty rest left x.0 fits x.1

pub counted_more : (bytes : List ℕ) (count : ℕ) (rest left : List ℕ) → IsBytes rest → hpke_ciphertext.pass rest ≡ Ok left → Counted bytes count rest → Counted bytes (count + 1) left
counted_more bytes count rest left fits e c =
    let x = passed_is rest left e in
    let shorter : length left < length rest = passed_shorter rest left fits e in
    record {
      fits = c.fits;
      front = c.front ++ x.0 ∷ [];
      left = goes_on hpke_ciphertext hpke_ciphertext_nonempty (items_in hpke_ciphertext bytes) c.front rest left x.0 fits x.1 c.left;
      counted = omega (arith, c.counted, length-append c.front (x.0 ∷ []));
      within = omega (arith, c.within);
    }

all_spelled : (bytes : List ℕ) (front : List HpkeCiphertext) → IsBytes bytes → items_in hpke_ciphertext bytes ≡ Ok front → (n : ℕ) → n ≡ length front → SpellSoMany bytes n
unfolding ciphertexts_in
all_spelled bytes front fits e n counted =
    let is : ciphertexts_in bytes ≡ front = ap (λ (r : Result (List HpkeCiphertext) ℕ). items_or_none r) e in
    let read : items_in hpke_ciphertext bytes ≡ Ok (ciphertexts_in bytes) = e ∙ ap (λ (xs : List HpkeCiphertext). done_all xs) (sym is) in
    let t = items_take hpke_ciphertext (length bytes) bytes (ciphertexts_in bytes) fits read in
    record {
      are_read = read;
      are_spelled = record { fit = t.1; spelled = t.0 };
      counted = counted ∙ ap length (sym is);
    }

-- nothing is left
pub counted_all : (bytes : List ℕ) (count : ℕ) (rest : List ℕ) → rest ≡ [] → Counted bytes count rest → SpellSoMany bytes count
counted_all bytes count rest nil c =
    all_spelled bytes c.front c.fits (is_done hpke_ciphertext (items_in hpke_ciphertext bytes) c.front rest nil c.left) count c.counted

stops_at : (total : Result (List HpkeCiphertext) ℕ) (front : List HpkeCiphertext) (fuel : ℕ) (rest : List ℕ) (f : ℕ) → 0 < length rest → length rest ≤ fuel → hpke_ciphertext.read rest ≡ Err f → with_front front (items_at hpke_ciphertext.read fuel rest) ≡ total → total ≡ Err f
stops_at total front fuel [] f some enough e so_far = absurd (omega arith)
stops_at total front zero (b ∷ rest) f some enough e so_far = absurd (omega arith)
stops_at total front (suc fuel) (b ∷ rest) f some enough e so_far =
    let one : with_front front (items_at hpke_ciphertext.read (suc fuel) (b ∷ rest)) ≡ Err f = rw e refl in
    sym so_far ∙ one

-- a fault there is the fault of all
pub counting_stops : (bytes : List ℕ) (count : ℕ) (rest : List ℕ) (f : ℕ) → 0 < length rest → hpke_ciphertext.pass rest ≡ Err f → Counted bytes count rest → items_in hpke_ciphertext bytes ≡ Err f
counting_stops bytes count rest f some e c =
    let fault : hpke_ciphertext.read rest ≡ Err f = past_err (hpke_ciphertext.read rest) f (sym (hpke_ciphertext.passes rest) ∙ e) in
    stops_at (items_in hpke_ciphertext bytes) c.front c.left.fuel rest f some c.left.enough fault c.left.so_far

-- ---- seeking

abbrev refused : ℕ → Result (HpkeCiphertext × List ℕ) ℕ
refused f = Err f

nothing_there : (x : HpkeCiphertext) (left : List ℕ) → hpke_ciphertext.read [] ≡ Ok (x, left) → ⊥
unfolding hpke_ciphertext opaque_at length_at
nothing_there x left e = let no : refused 2 ≡ good x left = e in cc

-- what is left are the spellings from some number on
abbrev pub IsFrom : List ℕ → ℕ → List ℕ → Type 0
IsFrom bytes i rest = rest ≡ flat_map hpke_ciphertext.spell (drop i (ciphertexts_in bytes))

pub from_first : (bytes : List ℕ) → AreSpelled bytes → IsFrom bytes 0 bytes
from_first bytes are = are.spelled

-- the ciphertexts from some number on have spellings
fit_from : (xs : List HpkeCiphertext) (i : ℕ) → AllByRecursion hpke_ciphertext.Fits xs → AllByRecursion hpke_ciphertext.Fits (drop i xs)
fit_from xs zero fit = fit
fit_from [] (suc i) fit = tt
fit_from (x ∷ xs) (suc i) fit = fit_from xs i fit.1

abbrev first_of : List HpkeCiphertext → Option HpkeCiphertext
first_of [] = None
first_of (x ∷ xs) = Some x

abbrev rest_from : List HpkeCiphertext → List HpkeCiphertext
rest_from [] = []
rest_from (x ∷ xs) = xs

first_dropped : (xs : List HpkeCiphertext) (i : ℕ) → slice_get xs i ≡ first_of (drop i xs)
first_dropped [] zero = refl
first_dropped [] (suc i) = refl
first_dropped (x ∷ xs) zero = refl
first_dropped (x ∷ xs) (suc i) = first_dropped xs i

rest_dropped : (xs : List HpkeCiphertext) (i : ℕ) → drop (suc i) xs ≡ rest_from (drop i xs)
rest_dropped [] zero = refl
rest_dropped [] (suc i) = refl
rest_dropped (x ∷ xs) zero = refl
rest_dropped (x ∷ xs) (suc i) = rest_dropped xs i

-- what is read in front of spellings
read_front : (xs : List HpkeCiphertext) (rest left : List ℕ) (x : HpkeCiphertext) → AllByRecursion hpke_ciphertext.Fits xs → rest ≡ flat_map hpke_ciphertext.spell xs → hpke_ciphertext.read rest ≡ Ok (x, left)
    → (first_of xs ≡ Some x) × (left ≡ flat_map hpke_ciphertext.spell (rest_from xs))
read_front [] rest left x fit is e = absurd (nothing_there x left (sym (ap hpke_ciphertext.read is) ∙ e))
read_front (y ∷ ys) rest left x fit is e =
    let again : hpke_ciphertext.read rest ≡ Ok (y, flat_map hpke_ciphertext.spell ys) = ap hpke_ciphertext.read is ∙ hpke_ciphertext.lawful.again y (flat_map hpke_ciphertext.spell ys) fit.0 in
    let same : (y, flat_map hpke_ciphertext.spell ys) ≡ (x, left) = ok_is (y, flat_map hpke_ciphertext.spell ys) (x, left) (sym again ∙ e) in
    (ap (λ (p : HpkeCiphertext × List ℕ). some_of p.0) same, sym (ap (λ (p : HpkeCiphertext × List ℕ). p.1) same))

-- a fault shows that none is left
none_front : (xs : List HpkeCiphertext) (rest : List ℕ) (f : ℕ) → AllByRecursion hpke_ciphertext.Fits xs → rest ≡ flat_map hpke_ciphertext.spell xs → hpke_ciphertext.read rest ≡ Err f → xs ≡ []
none_front [] rest f fit is e = refl
none_front (y ∷ ys) rest f fit is e =
    let again : hpke_ciphertext.read rest ≡ Ok (y, flat_map hpke_ciphertext.spell ys) = ap hpke_ciphertext.read is ∙ hpke_ciphertext.lawful.again y (flat_map hpke_ciphertext.spell ys) fit.0 in
    let no : good y (flat_map hpke_ciphertext.spell ys) ≡ Err f = sym again ∙ e in
    absurd cc

pub from_next : (bytes : List ℕ) (i : ℕ) (rest left : List ℕ) → AreSpelled bytes → IsFrom bytes i rest → hpke_ciphertext.pass rest ≡ Ok left → IsFrom bytes (i + 1) left
from_next bytes i rest left are is e =
    let x = passed_is rest left e in
    let xs : List HpkeCiphertext = ciphertexts_in bytes in
    let t = read_front (drop i xs) rest left x.0 (fit_from xs i are.fit) is x.1 in
    let more : drop (i + 1) xs ≡ rest_from (drop i xs) = ap (λ n. drop n xs) (let z : i + 1 ≡ suc i = omega arith in z) ∙ rest_dropped xs i in
    t.1 ∙ ap (λ (ys : List HpkeCiphertext). flat_map hpke_ciphertext.spell ys) (sym more)

-- the one that is lent there has that number
pub found_from : (bytes : List ℕ) (i : ℕ) (rest left : List ℕ) (x : HpkeCiphertext) → AreSpelled bytes → IsFrom bytes i rest → hpke_ciphertext.read rest ≡ Ok (x, left) → slice_get (ciphertexts_in bytes) i ≡ Some x
found_from bytes i rest left x are is e =
    let xs : List HpkeCiphertext = ciphertexts_in bytes in
    let t = read_front (drop i xs) rest left x (fit_from xs i are.fit) is e in
    first_dropped xs i ∙ t.0

-- from there on none has a number
none_later : (xs : List HpkeCiphertext) (i j : ℕ) → drop i xs ≡ [] → i ≤ j → slice_get xs j ≡ None
none_later xs i j nil le = slice_get_past xs j (omega (arith, ap length nil, length-drop i xs))

pub missing_from : (bytes : List ℕ) (i j : ℕ) (rest : List ℕ) (f : ℕ) → AreSpelled bytes → IsFrom bytes i rest → hpke_ciphertext.read rest ≡ Err f → i ≤ j → slice_get (ciphertexts_in bytes) j ≡ None
missing_from bytes i j rest f are is e le =
    let xs : List HpkeCiphertext = ciphertexts_in bytes in
    none_later xs i j (none_front (drop i xs) rest f (fit_from xs i are.fit) is e) le

pub missing_past : (bytes : List ℕ) (i j : ℕ) (rest : List ℕ) (f : ℕ) → AreSpelled bytes → IsFrom bytes i rest → hpke_ciphertext.pass rest ≡ Err f → i ≤ j → slice_get (ciphertexts_in bytes) j ≡ None
missing_past bytes i j rest f are is e le =
    missing_from bytes i j rest f are is (past_err (hpke_ciphertext.read rest) f (sym (hpke_ciphertext.passes rest) ∙ e)) le

-- what was lent, where it was
pub lent_if_ok : (o : Option HpkeCiphertext) (r : Result CiphertextRef LeafError) → MatchResult r (λ x. o ≡ Some (ciphertext_lent x)) (λ _. o ≡ None) → option_map ciphertext_lent (result_ok r) ≡ o
lent_if_ok o (Ok x) h = sym h
lent_if_ok o (Err e) h = sym h

-- ---- writing

module _ (bytes : List ℕ) (xs : List HpkeCiphertext) (content : List ℕ) (are : AreSpelled bytes) (seen : ciphertexts_in bytes ≡ xs) (same : content ≡ bytes) where
  content_is : content ≡ flat_map hpke_ciphertext.spell xs
  content_is = same ∙ are.spelled ∙ ap (λ (ys : List HpkeCiphertext). flat_map hpke_ciphertext.spell ys) seen

  pub spelled_added : (old new : List ℕ) → (length content < 2 ^ 30) × (new ≡ old ++ opaque content) → (vector hpke_ciphertext hpke_ciphertext_nonempty).Fits xs × (new ≡ old ++ opaque (flat_map hpke_ciphertext.spell xs))
  spelled_added old new h =
      ((subst (λ (ys : List HpkeCiphertext). AllByRecursion hpke_ciphertext.Fits ys) seen are.fit, subst (λ (l : List ℕ). length l < 2 ^ 30) content_is h.0), h.1 ∙ ap (λ (l : List ℕ). old ++ opaque l) content_is)

  too_long : 2 ^ 30 ≤ length content → (vector hpke_ciphertext hpke_ciphertext_nonempty).Fits xs → ⊥
  too_long ge fits =
      let short : length (flat_map hpke_ciphertext.spell xs) < 2 ^ 30 = fits.1 in
      omega (arith, ap length content_is)

  pub spelled_refused : (e : WireError) → RefusesContent content e → Refuses ((vector hpke_ciphertext hpke_ciphertext_nonempty).Fits xs) (Wire e)
  spelled_refused OutOfMemory h = tt
  spelled_refused Truncated h = h
  spelled_refused Trailing h = h
  spelled_refused BadLength h = h
  spelled_refused NotMinimal h = h
  spelled_refused TooLong h = too_long h

-- ---- lending an item

-- what is lent of a list
pub copied_is : (r : Option (Bor HpkeCiphertext)) (i : ℕ) (xs : List HpkeCiphertext) → IsItemAt xs i r → option_copied r ≡ slice_get xs i
copied_is None i xs h = sym (slice_get_past xs i h.3)
copied_is (Some x) i xs h = ap Some h.1 ∙ sym (slice_get-get_or xs i x.now h.3.0)
