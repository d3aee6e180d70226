-- Each call on a world is refused with one of its numbers.
use Rattle.std.specs.Prelude.{◌≡◌, ℕ, true, ◌||◌, [], ◌∷◌, Err, Bool}
use Rattle.mls_leaf.specs.WholeLaws.{is_input_fault}
use Rattle.mls_suite.specs.Crypto.{Crypto}
use Rattle.mls_tree_model.specs.Sets.{has}
use Rattle.mls_model.specs.declared.event.Event.{Event}
use Rattle.mls_model.specs.declared.event.Event.TheVariants as event
use Rattle.mls_model.specs.World.{World}
use Rattle.mls_model.specs.Run.{answer}
use Rattle.mls_model.specs.Refusals.{verdict_numbers, propose_add_numbers, propose_update_numbers, propose_remove_numbers, propose_extensions_numbers, make_numbers, join_numbers}

-- ---- which numbers

-- whether an event can be refused with a number
abbrev pub is_refusal_of : Event → ℕ → Bool
is_refusal_of (event.Candidate identity seed) n = has (6 ∷ 57 ∷ 93 ∷ []) n
is_refusal_of (event.Create k group seed) n = has (6 ∷ 91 ∷ 92 ∷ []) n
is_refusal_of (event.ProposeAdd k source) n = is_input_fault n || has (90 ∷ 94 ∷ 95 ∷ propose_add_numbers) n
is_refusal_of (event.ProposeUpdate k seed) n = has (90 ∷ propose_update_numbers) n
is_refusal_of (event.ProposeRemove k leaf) n = has (90 ∷ propose_remove_numbers) n
is_refusal_of (event.ProposeExtensions k list) n = has (14 ∷ 90 ∷ propose_extensions_numbers) n
is_refusal_of (event.Commit k items path seed) n = is_input_fault n || has (90 ∷ 94 ∷ 95 ∷ make_numbers) n
is_refusal_of (event.DropPending k) n = has (90 ∷ []) n
is_refusal_of (event.Deliver k source) n = is_input_fault n || has (90 ∷ 94 ∷ verdict_numbers) n
is_refusal_of (event.Join k source) n = is_input_fault n || has (91 ∷ 92 ∷ 94 ∷ join_numbers) n

-- an event that is refused is so with one of its numbers
abbrev pub EventNumbers : Type 0
EventNumbers = (c : Crypto) (w : World) (e : Event) (n : ℕ) → answer c w e ≡ Err n → is_refusal_of e n ≡ true
