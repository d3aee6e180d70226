-- Active members of a world that events led to are good, so each is loaded as it was saved.
use Rattle.std.proofs.Common.{◌≡◌, ◌≢◌, ℕ, Bool, true, false, List, Option, Some, None, Ok, Err, slice_get, refl, sym, ap, subst, ◌∙◌}
use Rattle.std.specs.Prelude.{if◌then◌else◌, option_map}
use Rattle.mls_saved.specs.Loading.{Loads}
use Rattle.mls_saved_state.specs.Faults.{number_of}
use Rattle.mls_saved_state.specs.declared.error.LoadError.{LoadError}
use Rattle.mls_suite.specs.Crypto.{Crypto, Lawful}
use Rattle.mls_model.specs.Headline.{IsActive}
use Rattle.mls_model.specs.Invariant.{IsGoodWorld, IsSeated}
use Rattle.mls_model.specs.Member.{Member}
use Rattle.mls_model.specs.MemberInvariant.{IsGoodMember}
use Rattle.mls_model.specs.World.{World, Seat, empty_world}
use Rattle.mls_theorems.specs.Reachable.{IsReachable}
use Rattle.mls_theorems.proofs.Runs.{empty_good, runs_keep_good}
use Rattle.mls_member.specs.Saved.{load, LoadsAsWas}
use Rattle.mls_world.specs.Reload.{present, active_member, IsTooLong, Reloads}
use Rattle.mls_world_plain.specs.CallAnswers.{seated_member}

-- a world that events led to is good
reachable_good : (c : Crypto) → Lawful c → (w : World) → IsReachable c w → IsGoodWorld c w
reachable_good c laws w reach =
    subst (IsGoodWorld c) (sym reach.is) (runs_keep_good c laws empty_world (empty_good c) reach.events reach.range)

seat_in : (o : Option Seat) (m : Member) → option_map (λ (s : Seat). s.member) o ≡ Some m → (s : Seat) × ((o ≡ Some s) × (s.member ≡ m))
seat_in None m h = absurd cc
seat_in (Some s) m h = (s, (refl, cc))

-- a member that is present wasn't removed
present_by : (m n : Member) (gone : Bool) → n.gone ≡ gone → (if gone then None else Some n) ≡ Some m → (Some n ≡ Some m) × (m.gone ≡ false)
present_by m n true e h = absurd cc
present_by m n false e h = let same : n ≡ m = cc in (h, sym (ap (λ (x : Member). x.gone) same) ∙ e)

present_in : (o : Option Member) (m : Member) → present o ≡ Some m → (o ≡ Some m) × (m.gone ≡ false)
present_in None m h = absurd cc
present_in (Some n) m h = present_by m n n.gone refl h

-- an active member is good
pub active_good : (c : Crypto) → Lawful c → (w : World) → IsReachable c w → (k : ℕ) (m : Member) → active_member w k ≡ Some m → IsGoodMember c m
active_good c laws w reach k m at =
    let there = present_in (seated_member w k) m at in
    let s : (s : Seat) × ((slice_get w.seats k ≡ Some s) × (s.member ≡ m)) = seat_in (slice_get w.seats k) m there.0 in
    let good = reachable_good c laws w reach in
    let seated : IsActive w k s.0 = record { is = s.1.0; active = subst (λ (n : Member). n.gone ≡ false) (sym s.1.1) there.1 } in
    let found : IsSeated c good.0 w s.0 = good.1.members k s.0 seated in
    subst (IsGoodMember c) s.1.1 found.good

-- what the bytes of an active member are loaded as is the member
pub loaded_same : (c : Crypto) → Lawful c → (w : World) → IsReachable c w → (k : ℕ) (m n : Member) (bytes slice : List ℕ) → active_member w k ≡ Some m → LoadsAsWas c m bytes →
    slice ≡ bytes → load c slice ≡ Ok n → seated_member w k ≡ Some n
loaded_same c laws w reach k m n bytes slice at loads is h =
    let as_was : load c slice ≡ Ok m = subst (λ (x : List ℕ). load c x ≡ Ok m) (sym is) (loads (active_good c laws w reach k m at)) in
    let same : Ok m ≡ Ok n = sym as_was ∙ h in
    let equal : m ≡ n = cc in
    (present_in (seated_member w k) m at).0 ∙ ap (λ (x : Member). Some x) equal

-- bytes that are loaded are refused for want of memory alone
refused : (c : Crypto) (m : Member) (bytes : List ℕ) (e : LoadError) → load c bytes ≡ Ok m → Loads number_of (load c bytes) (Err e) → number_of e ≢ 1 → (number_of e ≡ 6) × IsTooLong m
refused c m bytes e is h other = let wrong : Err (number_of e) ≡ Ok m = sym (h other) ∙ is in absurd cc

-- the bytes of an active member are refused for want of memory alone
pub load_refused : (c : Crypto) → Lawful c → (w : World) → IsReachable c w → (k : ℕ) (m : Member) (bytes slice : List ℕ) (e : LoadError) →
    active_member w k ≡ Some m → LoadsAsWas c m bytes → slice ≡ bytes → Loads number_of (load c slice) (Err e) → Reloads (active_member w k) (Err e)
load_refused c laws w reach k m bytes slice e at loads is h =
    let as_was : load c slice ≡ Ok m = subst (λ (x : List ℕ). load c x ≡ Ok m) (sym is) (loads (active_good c laws w reach k m at)) in
    let short : Reloads (Some m) (Err e) = refused c m slice e as_was h in
    subst (λ (o : Option Member). Reloads o (Err e)) (sym at) short
