-- An exchange goes on as it was saved.
use Rattle.std.proofs.Common.{◌≡◌, ℕ, ◌<◌, ◌≤◌, true, List, length, Ok, refl, sym, ap, ◌∙◌, arith}
use Rattle.std.specs.Prelude.{◌==◌}
use Rattle.std.proofs.lemmas.Bool.{eq-eqb}
use Rattle.std.proofs.lemmas.Slice.Eq.{bytes_eq-Decides}
use Rattle.mls_wire.specs.Checks.{passed}
use Rattle.mls_wire.specs.Whole.{whole}
use Rattle.mls_leaf.specs.Faults.{Refuses, Spells}
use Rattle.mls_leaf.specs.Limits.{input_limit}
use Rattle.mls_leaf.specs.declared.error.LeafError.{LeafError}
use Rattle.mls_leaf.proofs.Codecs.{Refuses-whole}
use Rattle.mls_leaf.proofs.WholeLaws.{whole_again}
use Rattle.mls_exchange.specs.declared.save.SavedExchange.{SavedExchange}
use Rattle.mls_exchange.specs.State.{State}
use Rattle.mls_exchange.specs.Opening.{checks_of_place}
use Rattle.mls_exchange.specs.Saved.{saved_exchange, saved_of, FitsInput, checks_of_saved, saved_at, keys_at, restore, RestoresAsWas}

pub unfit : (v : SavedExchange) (e : LeafError) → Refuses (saved_exchange.Fits v) e → Refuses (FitsInput v) e
unfit v e h = Refuses-whole (saved_exchange.Fits v) (FitsInput v) e (λ fits. fits.0) h

pub too_long : (v : SavedExchange) (bytes : List ℕ) → Spells saved_exchange v bytes → input_limit < length bytes → FitsInput v → ⊥
too_long v bytes spells lt fits = absurd (omega (arith, ap length spells.spelled, fits.1))

pub bytes_restored : (s : State) (bytes : List ℕ) → Spells saved_exchange (saved_of s) bytes → length bytes ≤ input_limit → RestoresAsWas s bytes
unfolding restore keys_at saved_at checks_of_saved checks_of_place
bytes_restored s bytes spells le first start =
    let w : whole saved_exchange input_limit bytes ≡ Ok (saved_of s) = whole_again saved_exchange input_limit bytes (saved_of s) spells le in
    let g = (bytes_eq-Decides _ _).1 (sym (ap (λ (x : State). x.group_id) start.same)) in
    let e : (s.epoch == first.epoch) ≡ true = ap (λ n. s.epoch == n) (ap (λ (x : State). x.epoch) start.same) ∙ eq-eqb s.epoch s.epoch refl in
    let i : (s.leaf == first.leaf) ≡ true = ap (λ n. s.leaf == n) (ap (λ (x : State). x.leaf) start.same) ∙ eq-eqb s.leaf s.leaf refl in
    let h : (s.keys.height == first.keys.height) ≡ true = ap (λ n. s.keys.height == n) start.height ∙ eq-eqb s.keys.height s.keys.height refl in
    rw (start.fresh, w, g, e, i, h) (ap (λ (x : State). Ok (passed, record x { keys = s.keys })) start.same)
