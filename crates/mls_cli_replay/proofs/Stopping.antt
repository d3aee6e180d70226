-- Where doing or playing actions stops: those before one are said or reported, and none behind it has begun.
use Rattle.std.proofs.Common.{◌≡◌, ◌∙◌, ◌<◌, ◌++◌, ◌∷◌, [], ◌+◌, ℕ, suc, List, Option, Some, option_map, inl, inr, length, take, slice_get, get_or, add-one, arith, refl, ap, sym, subst, append_assoc, append-nil}
use Rattle.std.proofs.Math.Seq.{take-suc}
use Rattle.std.proofs.Math.Nat.{add-zero, zero-add}
use Rattle.std.proofs.lemmas.List.{length-map, length-take-le, take-map}
use Rattle.std.proofs.lemmas.Option.{slice_get-map, slice_get_read}
use Rattle.std.proofs.KnownBytes.{Appends-nil, Appends-trans}
use Rattle.std.specs.Io.KnownBytes.{Appends}
use Rattle.mls_suite.specs.Crypto.{Crypto}
use Rattle.mls_model.specs.declared.event.Event.{Event}
use Rattle.mls_model.specs.World.{World}
use Rattle.mls_cli_text.specs.InputOutput.{AppendsPart}
use Rattle.mls_cli_recording.specs.declared.actions.Action.{Action}
use Rattle.mls_cli_recording.specs.declared.reading.Recorded.{Recorded}
use Rattle.mls_cli_replay.specs.Actions.{events_in, run_all, world_after, HasRunPart}
use Rattle.mls_cli_replay.specs.Progress.{HasDonePart, ReportsFirst}
use Rattle.mls_cli_replay.specs.Replay.{StopsAt, StopsWithin, action_text, actions_of}
use Rattle.mls_cli_replay.proofs.Delivering.{all_run}
use Rattle.mls_cli_replay.proofs.Playing.{said, said_first, said_none, run_first, run_none}

-- ---- one action more

said_more : (c : Crypto) (w : World) (i : ℕ) (rs : List Recorded) (r : Recorded) → said c w i (rs ++ (r ∷ [])) ≡ said c w i rs ++ action_text c (run_all c w (actions_of rs)) (i + length rs) r
said_more c w i [] r =
    said_first c w i r []
    ∙ ap (λ (t : List ℕ). action_text c w i r ++ t) (said_none c (world_after c w r.action) (i + 1))
    ∙ append-nil (action_text c w i r)
    ∙ ap (λ (n : ℕ). action_text c w n r) (sym (add-zero i))
    ∙ ap (λ (v : World). action_text c v (i + 0) r) (sym (run_none c w))
    ∙ ap (λ (t : List ℕ). t ++ action_text c (run_all c w (actions_of [])) (i + 0) r) (sym (said_none c w i))
said_more c w i (x ∷ rs) r =
    let v = (world_after c w x.action) in
    let place : (i + 1) + length rs ≡ i + suc (length rs) = omega arith in
    said_first c w i x (rs ++ (r ∷ []))
    ∙ ap (λ (t : List ℕ). action_text c w i x ++ t) (said_more c v (i + 1) rs r)
    ∙ sym (append_assoc (action_text c w i x) (said c v (i + 1) rs) (action_text c (run_all c v (actions_of rs)) ((i + 1) + length rs) r))
    ∙ ap (λ (t : List ℕ). t ++ action_text c (run_all c v (actions_of rs)) ((i + 1) + length rs) r) (sym (said_first c w i x rs))
    ∙ ap (λ (n : ℕ). said c w i (x ∷ rs) ++ action_text c (run_all c v (actions_of rs)) n r) place
    ∙ ap (λ (u : World). said c w i (x ∷ rs) ++ action_text c u (i + suc (length rs)) r) (sym (run_first c w x rs))

run_more : (c : Crypto) (w : World) (rs : List Recorded) (r : Recorded) → run_all c w (actions_of (rs ++ (r ∷ []))) ≡ (world_after c (run_all c w (actions_of rs)) r.action)
run_more c w [] r = run_first c w r [] ∙ run_none c (world_after c w r.action) ∙ ap (λ (v : World). (world_after c v r.action)) (sym (run_none c w))
run_more c w (x ∷ rs) r =
    run_first c w x (rs ++ (r ∷ [])) ∙ run_more c (world_after c w x.action) rs r ∙ ap (λ (v : World). (world_after c v r.action)) (sym (run_first c w x rs))

take_next : (all : List Recorded) (i : ℕ) (r : Recorded) → i < length all → r ≡ get_or all i r → take (i + 1) all ≡ take i all ++ (r ∷ [])
take_next all i r lt is = rw (add-one i) (take-suc all i r lt ∙ ap (λ (x : Recorded). take i all ++ (x ∷ [])) (sym is))

-- ---- before the action of number i

-- the world is that of the actions before it
pub before_first : (c : Crypto) (w : World) (all : List Recorded) → w ≡ run_all c w (actions_of (take 0 all))
before_first c w all = sym (run_none c w)

pub before_next : (c : Crypto) (w : World) (all : List Recorded) (i : ℕ) (v u : World) (r : Recorded)
    → i < length all → r ≡ get_or all i r → v ≡ run_all c w (actions_of (take i all)) → u ≡ world_after c v r.action → u ≡ run_all c w (actions_of (take (i + 1) all))
before_next c w all i v u r lt is before stepped =
    stepped ∙ ap (λ (x : World). world_after c x r.action) before ∙ sym (run_more c w (take i all) r) ∙ ap (λ (rs : List Recorded). run_all c w (actions_of rs)) (sym (take_next all i r lt is))

-- the actions before it are said, and the world is theirs
pub record Reached (c : Crypto) (w : World) (all : List Recorded) (old new : Option (List ℕ)) (i : ℕ) (v : World) : Type 0 where
  pub grown : Appends old new (said c w 0 (take i all))
  pub world : v ≡ run_all c w (actions_of (take i all))

pub reached_nothing : (c : Crypto) (w : World) (all : List Recorded) (old : Option (List ℕ)) → Reached c w all old old 0 w
reached_nothing c w all old = record { grown = subst (Appends old old) (sym (said_none c w 0)) (Appends-nil old); world = before_first c w all }

text_next : (c : Crypto) (w : World) (all : List Recorded) (i : ℕ) (v : World) (r : Recorded) → i < length all → r ≡ get_or all i r → v ≡ run_all c w (actions_of (take i all))
    → said c w 0 (take (i + 1) all) ≡ said c w 0 (take i all) ++ action_text c v i r
text_next c w all i v r lt is world =
    ap (said c w 0) (take_next all i r lt is)
    ∙ said_more c w 0 (take i all) r
    ∙ ap (λ (n : ℕ). said c w 0 (take i all) ++ action_text c (run_all c w (actions_of (take i all))) n r) (zero-add (length (take i all)) ∙ length-take-le i all (omega arith))
    ∙ ap (λ (u : World). said c w 0 (take i all) ++ action_text c u i r) (sym world)

pub reached_next : (c : Crypto) (w : World) (all : List Recorded) (old new now : Option (List ℕ)) (i : ℕ) (v u : World) (r : Recorded)
    → i < length all → r ≡ get_or all i r → Reached c w all old new i v → Appends new now (action_text c v i r) → u ≡ (world_after c v r.action) → Reached c w all old now (i + 1) u
reached_next c w all old new now i v u r lt is p grew stepped = record {
  grown = subst (Appends old now) (sym (text_next c w all i v r lt is p.world)) (Appends-trans old new now (said c w 0 (take i all)) (action_text c v i r) p.grown grew);
  world = before_next c w all i v u r lt is p.world stepped;
}

pub stops : {P : Type 0} (reports : P → P → ℕ → ℕ → Type 0) (c : Crypto) (w : World) (all : List Recorded) (old new now : Option (List ℕ)) (begun told : P) (i : ℕ) (v u : World) (r : Recorded)
    → i < length all → r ≡ get_or all i r → Reached c w all old new i v → ReportsFirst reports (length all) i begun told → AppendsPart new now (action_text c v i r)
    → StopsWithin c v u (events_in v r.action) new now → StopsAt reports c w all old now begun told u
stops reports c w all old new now begun told i v u r lt is p first part stopped = record {
  count = i;
  one = r;
  is = slice_get_read all (length all) i r refl lt is;
  reached = v;
  before = p.world;
  between = new;
  said = p.grown;
  reported = first;
  part = part;
  world = stopped;
}

-- ---- where nothing is said

happened : (c : Crypto) (v u : World) (events : List Event) (old new : Option (List ℕ)) → StopsWithin c v u events old new → HasRunPart c v u events
happened c v u events old new (inl (count, is, same)) = record { count = count; world = is }
happened c v u events old new (inr is) = all_run c v u events is

-- the same of recorded actions as of actions
module _ {P : Type 0} (reports : P → P → ℕ → ℕ → Type 0) (c : Crypto) (w : World) (all : List Recorded) (begun told : P) where
  pub done_part : (i : ℕ) (v u : World) (r : Recorded) → slice_get all i ≡ Some r → v ≡ run_all c w (actions_of (take i all))
      → ReportsFirst reports (length all) i begun told → HasRunPart c v u (events_in v r.action) → HasDonePart reports c w u (actions_of all) begun told
  done_part i v u r is before first part = record {
    count = i;
    one = r.action;
    is = slice_get-map (λ (x : Recorded). x.action) all i ∙ ap (option_map (λ (x : Recorded). x.action)) is;
    reached = v;
    before = before ∙ ap (λ (xs : List Action). run_all c w xs) (sym (take-map (λ (x : Recorded). x.action) i all));
    reported = subst (λ (n : ℕ). ReportsFirst reports n i begun told) (sym (length-map all (λ (x : Recorded). x.action))) first;
    part = part;
  }

  -- some of the events of the action of number i have happened, or all of them have
  pub part_of_next : (i : ℕ) (v u : World) (r : Recorded) → i < length all → r ≡ get_or all i r → v ≡ run_all c w (actions_of (take i all))
      → ReportsFirst reports (length all) i begun told → HasRunPart c v u (events_in v r.action) → HasDonePart reports c w u (actions_of all) begun told
  part_of_next i v u r lt is before first part = done_part i v u r (slice_get_read all (length all) i r refl lt is) before first part

  pub all_of_next : (i : ℕ) (v u : World) (r : Recorded) → i < length all → r ≡ get_or all i r → v ≡ run_all c w (actions_of (take i all))
      → ReportsFirst reports (length all) i begun told → u ≡ world_after c v r.action → HasDonePart reports c w u (actions_of all) begun told
  all_of_next i v u r lt is before first stepped = part_of_next i v u r lt is before first (all_run c v u (events_in v r.action) stepped)

  -- so it is where playing stopped
  pub played_part_done : (old new : Option (List ℕ)) (u : World) → StopsAt reports c w all old new begun told u → HasDonePart reports c w u (actions_of all) begun told
  played_part_done old new u s = done_part s.count s.reached u s.one s.is s.before s.reported (happened c s.reached u (events_in s.reached s.one.action) s.between new s.world)
