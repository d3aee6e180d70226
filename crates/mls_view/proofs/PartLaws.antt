-- What is made of a part.
use Rattle.std.proofs.Common.{◌≡◌, ℕ, List, [], ◌++◌, Result, Ok, Err, sym, ap, ◌∙◌}
use Rattle.std.proofs.lemmas.List.{append-nil}
use Rattle.mls_wire.specs.Format.{Format, IsBytes}
use Rattle.mls_wire.specs.Laws.{ok_is}
use Rattle.mls_leaf.specs.declared.error.LeafError.{LeafError}
use Rattle.mls_leaf.specs.Faults.{Spells, ReadsFront}
use Rattle.mls_leaf.proofs.WholeLaws.{past_ok, value_fails}
use Rattle.mls_leaf.proofs.WholeLaws.{spells_same}
use Rattle.mls_view.specs.Views.{Owns, IsOwned}

-- what is read of a spelling is its value, or memory ran out
pub owned : {V : Type 0} (format : Format V) (bytes rest : List ℕ) (r : Result V LeafError) → IsBytes bytes → format.pass bytes ≡ Ok [] → ReadsFront format bytes r rest → Owns format bytes r
owned {V} format bytes rest (Ok v) fits passes read =
    let past = past_ok (format.read bytes) [] (sym (format.passes bytes) ∙ passes) in
    let nil : rest ≡ [] = ap (λ (x : V × List ℕ). x.1) (ok_is (v, rest) (past.0, []) (sym read ∙ past.1)) in
    let t = format.lawful.takes bytes v rest fits read in
    record { fits = t.1; spelled = t.0.parts ∙ ap (λ (l : List ℕ). format.spell v ++ l) nil ∙ append-nil (format.spell v) }
owned format bytes rest (Err e) fits passes fails =
    let past = past_ok (format.read bytes) [] (sym (format.passes bytes) ∙ passes) in
    value_fails e (format.read bytes) (past.0, []) past.1 fails

-- what is owned of a part is the one value that it spells
pub owned_is : {V : Type 0} (format : Format V) (v : V) (bytes : List ℕ) (r : Result V LeafError) → Spells format v bytes → Owns format bytes r → IsOwned v r
owned_is format v bytes (Ok w) spells owns = spells_same format w v bytes owns spells
owned_is format v bytes (Err e) spells owns = owns
