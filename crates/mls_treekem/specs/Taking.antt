-- What a joiner takes from a path secret, as code has it (RFC 9420, 12.4.3.1).
use Rattle.std.specs.Prelude.{◌≡◌, ℕ, Bool, true, false, List, length, replicate, None, Result, MatchResult, Option, reverse}
use Rattle.mls_wire.specs.Checks.{Answers}
use Rattle.mls_suite.specs.Crypto.{Crypto}
use Rattle.mls_tree.specs.Tree.{Tree, term}
use Rattle.mls_treekem_model.specs.Keys.{PrivateKeys}
use Rattle.mls_treekem_model.specs.Make.{Climb, climb_to}
use Rattle.mls_treekem_model.specs.Join.{climb_past_present, require_present, climb_take, take_answer, has_due_on, has_due, is_complete}
use Rattle.mls_treekem.specs.declared.error.TreeKemError.{TreeKemError}
use Rattle.mls_treekem.specs.declared.error.TreeKemError.TheVariants.{KeyMissing}
use Rattle.mls_treekem.specs.declared.places.Place.{Place}
use Rattle.mls_treekem.specs.Climbing.{with_own}
use Rattle.mls_treekem.specs.Faults.{number_of, AnswersValue}
use Rattle.mls_treekem.specs.Place.{places_from, step_of, steps_at}

-- a climb starts at a place so far above the leaves, where something stands
abbrev pub StartsClimb : Tree → Place → ℕ → List ℕ → Result Climb TreeKemError → Type 0
StartsClimb tree p height secret result =
    AnswersValue (require_present (step_of (term tree) p).parent (record { secret = secret; keys = replicate height None })) result

-- a joiner climbs past what stands at a place
abbrev pub ClimbsPast : Crypto → ℕ → Tree → Place → Climb → Result Climb TreeKemError → Type 0
ClimbsPast c j tree p climb result = AnswersValue (climb_past_present c j (step_of (term tree) p).parent climb) result

-- a joiner climbs along some places, from the one where the ways part
abbrev pub TakesAlong : Crypto → Tree → List Place → ℕ → List ℕ → Result Climb TreeKemError → Type 0
TakesAlong c tree places j secret result =
    AnswersValue (climb_take c (steps_at (term tree) places) j (replicate (length places) None) secret) result

-- a joiner climbs from a path secret of leaf i
abbrev pub ClimbsFrom : Crypto → Tree → ℕ → PrivateKeys → List ℕ → Result Climb TreeKemError → Type 0
ClimbsFrom c tree i p secret result =
    Answers (λ m. with_own p.own m) number_of (take_answer c (term tree) i p.leaf p.own secret) result

-- a joiner takes the commit secret and its new keys from a path secret of leaf i
abbrev pub TakesSecret : Crypto → Tree → ℕ → List ℕ → PrivateKeys → PrivateKeys → Result (List ℕ) TreeKemError → Type 0
TakesSecret c tree i secret old new result =
    Answers (λ s. climb_to s new) number_of (take_answer c (term tree) i old.leaf old.own secret) result

-- whether a member has each key that is due in a subtree of height h, whose first leaf is b
abbrev pub has_due_below : ℕ → ℕ → Tree → PrivateKeys → Bool
has_due_below h b tree p = has_due_on p (steps_at (term tree) (places_from h b p.leaf))

-- a call refuses a member that lacks a key that is due, and no other
abbrev pub AnswersDue : Tree → PrivateKeys → Result (Unit {0}) TreeKemError → Type 0
AnswersDue tree p result =
    MatchResult result (λ _. has_due (term tree) p ≡ true) (λ e. (e ≡ KeyMissing) × (has_due (term tree) p ≡ false))

-- whether a joiner has each key that is due at some places, where its keys are given the lowest one's first
abbrev pub is_complete_at : ℕ → Tree → List Place → List (Option (List ℕ)) → Bool
is_complete_at j tree places above = is_complete j (steps_at (term tree) places) (reverse above)
