-- What views of a welcome's entries and of a commit's proposals show.
use Rattle.std.proofs.Common.{◌≡◌, ℕ, List, [], Ok, Err, sym, ap, subst, ◌∙◌}
use Rattle.std.proofs.lemmas.List.{append-nil}
use Rattle.mls_wire.specs.Format.{Format}
use Rattle.mls_wire.specs.Laws.{ok_is}
use Rattle.mls_leaf.specs.Faults.{Spells}
use Rattle.mls_view.specs.Views.{Lends}

spelling_read : {V : Type 0} (format : Format V) (v : V) (bytes : List ℕ) → Spells format v bytes → format.read bytes ≡ Ok (v, [])
spelling_read format v bytes spells = ap format.read (spells.spelled ∙ sym (append-nil (format.spell v))) ∙ format.lawful.again v [] spells.fits

-- a view of a spelling shows the value that is spelled
pub shown_of : {V X : Type 0} (format : Format V) (Shows : X → V → Type 0) (v : V) (bytes rest : List ℕ) (x : X) → Spells format v bytes → Lends format Shows bytes x rest → Shows x v
shown_of {V} {X} format Shows v bytes rest x spells lends =
    let same : lends.value ≡ v = ap (λ (y : V × List ℕ). y.0) (ok_is (lends.value, rest) (v, []) (sym lends.is_read ∙ spelling_read format v bytes spells)) in
    subst (λ (y : V). Shows x y) same lends.shows

-- the reading of a spelling has no fault
pub no_fault_of : {V : Type 0} (format : Format V) (v : V) (bytes : List ℕ) (n : ℕ) → Spells format v bytes → format.read bytes ≡ Err n → ⊥
no_fault_of format v bytes n spells e = let read = spelling_read format v bytes spells in cc
