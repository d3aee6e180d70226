-- Writing piece by piece.
use Rattle.std.proofs.Common.{◌≡◌, ◌∙◌, ◌<◌, ◌-◌, ℕ, zero, suc, List, [], ◌∷◌, ◌++◌, Option, Result, Ok, Err, OnErr, take, drop, length, get_or, refl, ap, sym, arith, append_assoc, take-append-drop, length-append}
use Rattle.std.proofs.lemmas.List.{take_rest}
use Rattle.std.specs.List.{flat_map}
use Rattle.std.specs.Io.KnownBytes.{Appends, Keeps}
use Rattle.std.proofs.KnownBytes.{Appends-kept, Appends-nil, Appends-trans}
use Rattle.mls_cli_text.specs.InputOutput.{AppendsPart}

pub grown : (a b c : Option (List ℕ)) (bytes done rest next : List ℕ) (n : ℕ) → bytes ≡ done ++ rest
    → next ≡ take (length rest - n) (drop n rest) → Appends a b done
    → Appends b c (take n rest) → (x : List ℕ) × (bytes ≡ x ++ next) × Appends a c x
grown a b c bytes done rest next n e f old new = (
  done ++ take n rest,
  e ∙ ap (λ t. done ++ t) (sym (take-append-drop n rest)) ∙ sym (append_assoc done (take n rest) (drop n rest))
      ∙ ap (λ t. (done ++ take n rest) ++ t) (sym (f ∙ take_rest rest n)),
  Appends-trans a b c done (take n rest) old new,
)

pub kept : (a b c : Option (List ℕ)) (bytes done rest next : List ℕ) → bytes ≡ done ++ rest → next ≡ rest → Appends a b done
    → Keeps b c → (x : List ℕ) × (bytes ≡ x ++ next) × Appends a c x
kept a b c bytes done rest next e f old same = (done, e ∙ ap (λ t. done ++ t) (sym f), Appends-kept a b c done old same)

-- a beginning of the front is one of the whole
pub part_of_front : (a b : Option (List ℕ)) (front text : List ℕ) → AppendsPart a b front → AppendsPart a b (front ++ text)
part_of_front a b front text (done, rest, e, left, grew) =
    (done, rest ++ text, ap (λ t. t ++ text) e ∙ append_assoc done rest text, omega (arith, length-append rest text), grew)

-- behind the whole front, a beginning of the rest is one of the whole
pub part_behind : (a b c : Option (List ℕ)) (front text : List ℕ) → Appends a b front → AppendsPart b c text → AppendsPart a c (front ++ text)
part_behind a b c front text whole (done, rest, e, left, grew) =
    (front ++ done, rest, ap (λ t. front ++ t) e ∙ sym (append_assoc front done rest), left, Appends-trans a b c front done whole grew)

split : {A : Type 0} (text : A → List ℕ) (xs : List A) (i : ℕ) (x : A) → i < length xs → x ≡ get_or xs i x
    → (rest : List ℕ) × (flat_map text xs ≡ flat_map text (take i xs) ++ (text x ++ rest))
split text [] i x lt is = absurd (omega arith)
split text (y ∷ ys) zero x lt is = (flat_map text ys, ap (λ l. text l ++ flat_map text ys) (sym is))
split text (y ∷ ys) (suc i) x lt is =
    let (rest, e) = split text ys i x (omega arith) is in
    (rest, ap (λ t. text y ++ t) e ∙ sym (append_assoc (text y) _ _))

-- after the whole texts in front, a part of the next one is a part of all
pub part_of_texts : {A E T : Type 0} (text : A → List ℕ) (r : Result T E) (a b c : Option (List ℕ)) (xs : List A) (i : ℕ) (x : A)
    → i < length xs → x ≡ get_or xs i x
    → Appends a b (flat_map text (take i xs)) → AppendsPart b c (text x)
    → OnErr r (AppendsPart a c (flat_map text xs))
part_of_texts text (Ok y) a b c xs i x lt is whole part = tt
part_of_texts text (Err y) a b c xs i x lt is whole (done, rest, e, left, grew) =
    let (behind, all) = split text xs i x lt is in
    let before = flat_map text (take i xs) in (
      before ++ done,
      rest ++ behind,
      all ∙ ap (λ t. before ++ (t ++ behind)) e ∙ ap (λ t. before ++ t) (append_assoc done rest behind) ∙ sym (append_assoc before done (rest ++ behind)),
      omega (arith, length-append rest behind),
      Appends-trans a b c before done whole grew,
    )

-- nothing of a text is written yet
pub nothing_yet : {T E : Type 0} (r : Result T E) (a : Option (List ℕ)) (text : List ℕ) → 0 < length text → OnErr r (AppendsPart a a text)
nothing_yet (Ok x) a text lt = tt
nothing_yet (Err e) a text lt = ([], text, refl, lt, Appends-nil a)
