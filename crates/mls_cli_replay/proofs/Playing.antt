-- Actions, played one by one: what is out, and what is left to play.
use Rattle.std.proofs.Common.{◌≡◌, ◌∙◌, ◌≤◌, ◌<◌, ◌++◌, ◌∷◌, [], ◌+◌, ◌&&◌, ℕ, suc, Bool, true, false, List, Option, Result, Ok, Err, OnErr, length, drop, drop-cons, get_or, add-one, arith, length-append, refl, ap, sym, subst, append_assoc, append-nil}
use Rattle.std.proofs.Math.Bool.{and_assoc, and-true}
use Rattle.std.proofs.lemmas.Grind.{flat_map-append}
use Rattle.std.proofs.lemmas.List.{drop_all}
use Rattle.std.proofs.KnownBytes.{Appends-nil, Appends-trans}
use Rattle.std.specs.Prelude.{codes}
use Rattle.std.specs.List.{flat_map}
use Rattle.std.specs.Io.KnownBytes.{Appends}
use Rattle.mls_suite.specs.Crypto.{Crypto}
use Rattle.mls_model.specs.World.{World}
use Rattle.mls_cli_text.specs.InputOutput.{AppendsPart}
use Rattle.mls_cli_text.proofs.Pieces.{part_behind, part_of_front}
use Rattle.mls_cli_recording.specs.declared.reading.Recorded.{Recorded}
use Rattle.mls_cli_replay.specs.Actions.{outcome_in, outcomes, run_all, world_after}
use Rattle.mls_cli_replay.specs.Replay.{action_entries, action_text, actions_of, all_meet, all_met, entry_text, entry_words, expectation, expectations_of, expected_entries, is_met, outcome_entries, replied, unmet_entries, ReplayEntry}
use Rattle.mls_cli_replay.specs.declared.reply.Outcome.{Outcome}

-- ---- the text of actions from a world on, numbered from i on, and whether they all_meet what is expected

abbrev pub said : Crypto → World → ℕ → List Recorded → List ℕ
said c w i rs = flat_map entry_text (outcome_entries i (outcomes c w (actions_of rs)) (expectations_of rs))

pub said_first : (c : Crypto) (w : World) (i : ℕ) (r : Recorded) (rs : List Recorded) → said c w i (r ∷ rs) ≡ action_text c w i r ++ said c (world_after c w r.action) (i + 1) rs
unfolding outcome_entries outcomes
said_first c w i r rs =
    flat_map-append entry_text (action_entries i (outcome_in c w r.action) (expectation r))
    (outcome_entries (i + 1) (outcomes c (world_after c w r.action) (actions_of rs)) (expectations_of rs))

pub said_none : (c : Crypto) (w : World) (i : ℕ) → said c w i [] ≡ []
unfolding outcome_entries outcomes
said_none c w i = refl

pub meet_first : (c : Crypto) (w : World) (r : Recorded) (rs : List Recorded) → all_meet c w (r ∷ rs) ≡ (is_met (outcome_in c w r.action) (expectation r) && all_meet c (world_after c w r.action) rs)
unfolding all_met outcomes
meet_first c w r rs = refl

pub meet_none : (c : Crypto) (w : World) → all_meet c w [] ≡ true
unfolding all_met outcomes
meet_none c w = refl

pub run_first : (c : Crypto) (w : World) (r : Recorded) (rs : List Recorded) → run_all c w (actions_of (r ∷ rs)) ≡ run_all c (world_after c w r.action) (actions_of rs)
unfolding run_all
run_first c w r rs = refl

pub run_none : (c : Crypto) (w : World) → run_all c w (actions_of []) ≡ w
unfolding run_all
run_none c w = refl

-- ---- before the action of number i

-- what is out, which world was reached, and whether all was met, where these actions are left of all
pub record Played (c : Crypto) (w : World) (all : List Recorded) (old new : Option (List ℕ)) (i : ℕ) (v : World) (met : Bool) (rest : List Recorded) : Type 0 where
  pub done : List ℕ
  pub grown : Appends old new done
  pub text : said c w 0 all ≡ done ++ said c v i rest
  pub world : run_all c w (actions_of all) ≡ run_all c v (actions_of rest)
  pub meets : all_meet c w all ≡ (met && all_meet c v rest)

pub played_nothing : (c : Crypto) (w : World) (all : List Recorded) (old : Option (List ℕ)) → Played c w all old old 0 w true all
played_nothing c w all old = record { done = []; grown = Appends-nil old; text = refl; world = refl; meets = refl }

pub played_on : (c : Crypto) (w : World) (all : List Recorded) (old new now : Option (List ℕ)) (i : ℕ) (v : World) (met : Bool) (r : Recorded) (rest : List Recorded)
    → Played c w all old new i v met (r ∷ rest) → Appends new now (action_text c v i r)
    → Played c w all old now (i + 1) (world_after c v r.action) (met && is_met (outcome_in c v r.action) (expectation r)) rest
played_on c w all old new now i v met r rest p grew = record {
  done = p.done ++ action_text c v i r;
  grown = Appends-trans old new now p.done (action_text c v i r) p.grown grew;
  text = p.text ∙ ap (λ t. p.done ++ t) (said_first c v i r rest) ∙ sym (append_assoc p.done (action_text c v i r) (said c (world_after c v r.action) (i + 1) rest));
  world = p.world ∙ run_first c v r rest;
  meets = p.meets ∙ ap (λ b. met && b) (meet_first c v r rest) ∙ sym (and_assoc met (is_met (outcome_in c v r.action) (expectation r)) (all_meet c (world_after c v r.action) rest));
}

-- where an action's text is cut, so is that of all
pub played_cut : (c : Crypto) (w : World) (all : List Recorded) (old new now : Option (List ℕ)) (i : ℕ) (v : World) (met : Bool) (r : Recorded) (rest : List Recorded)
    → Played c w all old new i v met (r ∷ rest) → AppendsPart new now (action_text c v i r) → AppendsPart old now (said c w 0 all)
played_cut c w all old new now i v met r rest p part =
    let first = part_of_front new now (action_text c v i r) (said c (world_after c v r.action) (i + 1) rest) part in
    let left : AppendsPart new now (said c v i (r ∷ rest)) = subst (AppendsPart new now) (sym (said_first c v i r rest)) first in
    subst (AppendsPart old now) (sym p.text) (part_behind old new now p.done (said c v i (r ∷ rest)) p.grown left)

-- ---- behind the last action

pub record PlayedAll (c : Crypto) (w : World) (all : List Recorded) (old new : Option (List ℕ)) (v : World) (met : Bool) : Type 0 where
  pub grown : Appends old new (said c w 0 all)
  pub world : v ≡ run_all c w (actions_of all)
  pub meets : met ≡ all_meet c w all

pub played_all : (c : Crypto) (w : World) (all : List Recorded) (old new : Option (List ℕ)) (i : ℕ) (v : World) (met : Bool) → Played c w all old new i v met [] → PlayedAll c w all old new v met
played_all c w all old new i v met p =
    let text : said c w 0 all ≡ p.done ++ [] = p.text ∙ ap (λ t. p.done ++ t) (said_none c v i) in
    record {
      grown = subst (Appends old new) (sym (text ∙ append-nil p.done)) p.grown;
      world = sym (p.world ∙ run_none c v);
      meets = sym (p.meets ∙ ap (λ b. met && b) (meet_none c v) ∙ and-true met);
    }

-- ---- the same, of the action of number i

pub next_of : (all : List Recorded) (i : ℕ) (r : Recorded) → i < length all → r ≡ get_or all i r → drop i all ≡ r ∷ drop (i + 1) all
next_of all i r lt is = rw (add-one i) (drop-cons all i r lt ∙ ap (λ (x : Recorded). x ∷ drop (suc i) all) (sym is))

pub played_step : (c : Crypto) (w : World) (all : List Recorded) (old new now : Option (List ℕ)) (i : ℕ) (v u : World) (met b and_met : Bool) (r : Recorded)
    → i < length all → r ≡ get_or all i r → Played c w all old new i v met (drop i all) → Appends new now (action_text c v i r)
    → u ≡ (world_after c v r.action) → b ≡ is_met (outcome_in c v r.action) (expectation r) → and_met ≡ (met && b)
    → Played c w all old now (i + 1) u and_met (drop (i + 1) all)
played_step c w all old new now i v u met b and_met r lt is p grew stepped same both =
    let before : Played c w all old new i v met (r ∷ drop (i + 1) all) = subst (Played c w all old new i v met) (next_of all i r lt is) p in
    let behind = played_on c w all old new now i v met r (drop (i + 1) all) before grew in
    let all_of : and_met ≡ (met && is_met (outcome_in c v r.action) (expectation r)) = both ∙ ap (λ x. met && x) same in
    subst (λ (x : World). Played c w all old now (i + 1) x and_met (drop (i + 1) all)) (sym stepped)
    (subst (λ (x : Bool). Played c w all old now (i + 1) (world_after c v r.action) x (drop (i + 1) all)) (sym all_of) behind)

pub played_part : (c : Crypto) (w : World) (all : List Recorded) (old new now : Option (List ℕ)) (i : ℕ) (v : World) (met : Bool) (r : Recorded)
    → i < length all → r ≡ get_or all i r → Played c w all old new i v met (drop i all) → AppendsPart new now (action_text c v i r) → AppendsPart old now (said c w 0 all)
played_part c w all old new now i v met r lt is p part =
    played_cut c w all old new now i v met r (drop (i + 1) all) (subst (Played c w all old new i v met) (next_of all i r lt is) p) part

pub none_left : (all : List Recorded) (i : ℕ) → length all ≤ i → drop i all ≡ []
none_left all i le = drop_all i all le

pub played_end : (c : Crypto) (w : World) (all : List Recorded) (old new : Option (List ℕ)) (i : ℕ) (v : World) (met : Bool) → length all ≤ i
    → Played c w all old new i v met (drop i all) → PlayedAll c w all old new v met
played_end c w all old new i v met le p = played_all c w all old new i v met (subst (Played c w all old new i v met) (none_left all i le) p)

-- ---- booleans and faults

pub both_then : (x a m : Bool) → a ≡ true → x ≡ m → x ≡ (a && m)
both_then x a m at is = rw at is

pub both_else : (x a m : Bool) → a ≡ false → x ≡ false → x ≡ (a && m)
both_else x a m at is = rw at is

pub on_err : {T E : Type 0} {P : Type 0} (r : Result T E) → P → OnErr r P
on_err (Ok x) p = tt
on_err (Err e) p = p

-- ---- the text of one action

pub entry_nonempty : (e : ReplayEntry) (more : List ℕ) → 0 < length (entry_text e ++ more)
entry_nonempty e more = omega (arith, length-append (entry_text e) more, length-append (entry_words e) (codes "\n"))

pub said_nonempty : (i : ℕ) (outcome : Outcome) (expect : Option (List ℕ)) → 0 < length (flat_map entry_text (action_entries i outcome expect))
said_nonempty i outcome expect = entry_nonempty (replied i outcome) (flat_map entry_text (unmet_entries i outcome expect))

pub said_unmet : (i : ℕ) (outcome : Outcome) (expect : Option (List ℕ)) → is_met outcome expect ≡ false
    → flat_map entry_text (action_entries i outcome expect) ≡ entry_text (replied i outcome) ++ flat_map entry_text (expected_entries i expect)
said_unmet i outcome expect unmet = rw unmet refl
