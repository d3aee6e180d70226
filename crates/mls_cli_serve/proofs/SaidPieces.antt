-- Texts that are said piece by piece.
use Rattle.std.proofs.Common.{ℕ, List, ◌++◌, Option, Result, Ok, Err, OnOk, OnErr}
use Rattle.std.specs.Io.KnownBytes.{Appends}
use Rattle.std.proofs.KnownBytes.{Appends-trans}
use Rattle.mls_cli_text.specs.InputOutput.{AppendsPart}
use Rattle.mls_cli_text.proofs.Pieces.{part_behind, part_of_front}

pub err_front : {T E : Type 0} (r : Result T E) (a b : Option (List ℕ)) (front text : List ℕ)
    → AppendsPart a b front → OnErr r (AppendsPart a b (front ++ text))
err_front (Ok x) a b front text part = tt
err_front (Err e) a b front text part = part_of_front a b front text part

pub err_behind : {T E : Type 0} (r : Result T E) (a b c : Option (List ℕ)) (front text : List ℕ)
    → Appends a b front → OnErr r (AppendsPart b c text) → OnErr r (AppendsPart a c (front ++ text))
err_behind (Ok x) a b c front text whole part = tt
err_behind (Err e) a b c front text whole part = part_behind a b c front text whole part

pub ok_behind : {T E : Type 0} (r : Result T E) (a b c : Option (List ℕ)) (front text : List ℕ)
    → Appends a b front → OnOk r (Appends b c text) → OnOk r (Appends a c (front ++ text))
ok_behind (Ok x) a b c front text whole rest = Appends-trans a b c front text whole rest
ok_behind (Err e) a b c front text whole rest = tt
