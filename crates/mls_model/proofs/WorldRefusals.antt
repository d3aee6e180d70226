-- Each call on a world is refused with one of its numbers.
use Rattle.std.proofs.Common.{◌≡◌, ℕ, true, false, ◌||◌, not, List, [], ◌∷◌, Err, refl, sym, ap}
use Rattle.std.specs.Prelude.{Bool, slice_get}
use Rattle.std.specs.List.{list_any, list_all}
use Rattle.std.specs.Str.{bytes_eq}
use Rattle.std.proofs.lemmas.Bool.{or_left, or_right}
use Rattle.mls_wire.specs.Checks.{require_some}
use Rattle.mls_leaf.specs.GroupExtensions.{are_allowed}
use Rattle.mls_leaf.specs.Limits.{input_limit}
use Rattle.mls_leaf.specs.WholeLaws.{is_input_fault}
use Rattle.mls_leaf.proofs.WholeLaws.{is_input_answered}
use Rattle.mls_types.specs.ReadFaults.{mls_message_faults}
use Rattle.mls_types.specs.Message.{mls_message}
use Rattle.mls_tree_model.specs.Sets.{has}
use Rattle.mls_treekem_model.specs.Seeds.{sign_seed}
use Rattle.mls_model.specs.declared.event.Source.{Source}
use Rattle.mls_model.specs.declared.event.Source.TheVariants.{Given, Message}
use Rattle.mls_model.specs.declared.event.WorldItem.{WorldItem}
use Rattle.mls_model.specs.declared.event.WorldItem.TheVariants.{RefOf, Add, Remove, Extensions}
use Rattle.mls_model.specs.declared.event.Event.TheVariants as event
use Rattle.mls_model.specs.Messages.{decode_message}
use Rattle.mls_model.specs.Verdict.{verdict}
use Rattle.mls_model.specs.Candidate.{new_candidate, create_group}
use Rattle.mls_model.specs.Propose.{propose_add, propose_update, propose_remove, propose_extensions}
use Rattle.mls_model.specs.Make.{make}
use Rattle.mls_model.specs.Join.{join_verdict}
use Rattle.mls_model.specs.World.{World, Entrant, seat_at, entrant_at, bytes_of, package_in, proposal_in, package_of, proposal_of, item_of, items_of}
use Rattle.mls_model.specs.WorldCalls.{candidate_answer, create_answer, propose_add_answer, propose_update_answer, propose_remove_answer, propose_extensions_answer, commit_answer, drop_answer, deliver_answer, join_answer}
use Rattle.mls_model.specs.Run.{answer}
use Rattle.mls_model.specs.Refusals.{verdict_numbers, propose_add_numbers, propose_update_numbers, propose_remove_numbers, propose_extensions_numbers, make_numbers, join_numbers}
use Rattle.mls_model.proofs.RefusedSteps.{is_one, widen, bind_refused, test_refused, given_refused}
use Rattle.mls_model.proofs.VerdictRefusals.{verdict_refused}
use Rattle.mls_model.proofs.CallRefusals.{propose_add_refused, propose_update_refused, propose_remove_refused, propose_extensions_refused, make_refused, candidate_refused, create_refused}
use Rattle.mls_model.proofs.JoinRefusals.{join_refused}
use Rattle.mls_model.specs.WorldRefusals.{EventNumbers}

-- ---- look-ups and sources

seat_refused : (w : World) (k n : ℕ) → seat_at w k ≡ Err n → 90 ≡ n
seat_refused w k n h = given_refused 90 (slice_get w.seats k) n h

entrant_refused : (ns : List ℕ) (w : World) (k n : ℕ) → has ns 91 ≡ true → has ns 92 ≡ true → entrant_at w k ≡ Err n → has ns n ≡ true
unfolding entrant_at
entrant_refused ns w k n a b h =
    bind_refused (require_some 92 (slice_get w.entrants k)) _ n h (λ e. is_one ns 92 n b (given_refused 92 (slice_get w.entrants k) n e)) (λ e h1.
    test_refused 91 (not e.is_spent) _ n h1 (is_one ns 91 n a) (λ never. absurd cc))

bytes_refused : (w : World) (source : Source) (n : ℕ) → bytes_of w source ≡ Err n → 94 ≡ n
bytes_refused w (Given bytes) n h = absurd cc
bytes_refused w (Message k) n h = given_refused 94 (slice_get w.messages k) n h

-- decoding's, or one of these
or_read : (ns : List ℕ) (m n : ℕ) → has ns m ≡ true → m ≡ n → (is_input_fault n || has ns n) ≡ true
or_read ns m n h e = or_right (is_input_fault n) (has ns n) (is_one ns m n h e)

decoded_refused : (ns : List ℕ) (bytes : List ℕ) (n : ℕ) → decode_message bytes ≡ Err n → (is_input_fault n || has ns n) ≡ true
unfolding decode_message
decoded_refused ns bytes n h = or_left (is_input_fault n) (has ns n) (is_input_answered mls_message input_limit mls_message_faults bytes n h)

package_refused : (ns : List ℕ) (w : World) (source : Source) (n : ℕ) → has ns 94 ≡ true → has ns 95 ≡ true → package_of w source ≡ Err n → (is_input_fault n || has ns n) ≡ true
unfolding package_of
package_refused ns w source n a b h =
    bind_refused (bytes_of w source) _ n h (λ e. or_read ns 94 n a (bytes_refused w source n e)) (λ bytes h1.
    bind_refused (decode_message bytes) _ n h1 (decoded_refused ns bytes n) (λ m h2. or_read ns 95 n b (given_refused 95 (package_in m) n h2)))

proposal_refused : (ns : List ℕ) (w : World) (source : Source) (n : ℕ) → has ns 94 ≡ true → has ns 95 ≡ true → proposal_of w source ≡ Err n → (is_input_fault n || has ns n) ≡ true
unfolding proposal_of
proposal_refused ns w source n a b h =
    bind_refused (bytes_of w source) _ n h (λ e. or_read ns 94 n a (bytes_refused w source n e)) (λ bytes h1.
    bind_refused (decode_message bytes) _ n h1 (decoded_refused ns bytes n) (λ m h2. or_read ns 95 n b (given_refused 95 (proposal_in m) n h2)))

item_refused : (ns : List ℕ) (w : World) (item : WorldItem) (n : ℕ) → has ns 94 ≡ true → has ns 95 ≡ true → item_of w item ≡ Err n → (is_input_fault n || has ns n) ≡ true
item_refused ns w (RefOf source) n a b h = bind_refused (proposal_of w source) _ n h (proposal_refused ns w source n a b) (λ v never. absurd cc)
item_refused ns w (Add source) n a b h = bind_refused (package_of w source) _ n h (package_refused ns w source n a b) (λ v never. absurd cc)
item_refused ns w (Remove leaf) n a b h = absurd cc
item_refused ns w (Extensions list) n a b h =
    test_refused 14 (are_allowed list.items) _ n h (λ e. or_left (is_input_fault n) (has ns n) (sym (ap is_input_fault e))) (λ never. absurd cc)

items_refused : (ns : List ℕ) (w : World) (items : List WorldItem) (n : ℕ) → has ns 94 ≡ true → has ns 95 ≡ true → items_of w items ≡ Err n → (is_input_fault n || has ns n) ≡ true
unfolding items_of
items_refused ns w [] n a b h = absurd cc
items_refused ns w (x ∷ xs) n a b h =
    bind_refused (item_of w x) _ n h (item_refused ns w x n a b) (λ y h1.
    bind_refused (items_of w xs) _ n h1 (items_refused ns w xs n a b) (λ ys never. absurd cc))

-- ---- numbers of a member among those of an event

among : (ms ns : List ℕ) (n : ℕ) → list_all (has ns) ms ≡ true → has ms n ≡ true → (is_input_fault n || has ns n) ≡ true
among ms ns n a h = or_right (is_input_fault n) (has ns n) (widen ms ns n a h)

among_read : (ms ns : List ℕ) (n : ℕ) (b : Bool) → is_input_fault n ≡ b → list_all (has ns) ms ≡ true → (b || has ms n) ≡ true → (b || has ns n) ≡ true
among_read ms ns n true e a h = refl
among_read ms ns n false e a h = widen ms ns n a h

-- ---- events

pub event_refused : EventNumbers
unfolding answer candidate_answer create_answer propose_add_answer propose_update_answer propose_remove_answer propose_extensions_answer commit_answer drop_answer deliver_answer join_answer has
event_refused c w (event.Candidate identity seed) n h =
    let ns : List ℕ = 6 ∷ 57 ∷ 93 ∷ [] in
    test_refused 93 (not (list_any (λ (e : Entrant). bytes_eq e.candidate.offered.leaf_node.signature_key (c.sig_public (sign_seed seed))) w.entrants)) _ n h (is_one ns 93 n refl) (λ h1.
    bind_refused (new_candidate c identity.items seed) _ n h1 (λ e. widen (6 ∷ 57 ∷ []) ns n refl (candidate_refused c identity.items seed n e)) (λ k never. absurd cc))
event_refused c w (event.Create k group seed) n h =
    let ns : List ℕ = 6 ∷ 91 ∷ 92 ∷ [] in
    bind_refused (entrant_at w k) _ n h (entrant_refused ns w k n refl refl) (λ e h1.
    bind_refused (create_group c e.candidate group.items seed) _ n h1 (λ f. widen (6 ∷ []) ns n refl (create_refused c e.candidate group.items seed n f)) (λ m never. absurd cc))
event_refused c w (event.ProposeAdd k source) n h =
    let ns : List ℕ = 90 ∷ 94 ∷ 95 ∷ propose_add_numbers in
    bind_refused (seat_at w k) _ n h (λ e. or_read ns 90 n refl (seat_refused w k n e)) (λ s h1.
    bind_refused (package_of w source) _ n h1 (package_refused ns w source n refl refl) (λ offered h2.
    bind_refused (propose_add c s.member offered) _ n h2 (λ e. among propose_add_numbers ns n refl (propose_add_refused c s.member offered n e)) (λ x never. absurd cc)))
event_refused c w (event.ProposeUpdate k seed) n h =
    let ns : List ℕ = 90 ∷ propose_update_numbers in
    bind_refused (seat_at w k) _ n h (λ e. is_one ns 90 n refl (seat_refused w k n e)) (λ s h1.
    bind_refused (propose_update c s.member seed) _ n h1 (λ e. widen propose_update_numbers ns n refl (propose_update_refused c s.member seed n e)) (λ x never. absurd cc))
event_refused c w (event.ProposeRemove k leaf) n h =
    let ns : List ℕ = 90 ∷ propose_remove_numbers in
    bind_refused (seat_at w k) _ n h (λ e. is_one ns 90 n refl (seat_refused w k n e)) (λ s h1.
    bind_refused (propose_remove c s.member leaf) _ n h1 (λ e. widen propose_remove_numbers ns n refl (propose_remove_refused c s.member leaf n e)) (λ x never. absurd cc))
event_refused c w (event.ProposeExtensions k list) n h =
    let ns : List ℕ = 14 ∷ 90 ∷ propose_extensions_numbers in
    bind_refused (seat_at w k) _ n h (λ e. is_one ns 90 n refl (seat_refused w k n e)) (λ s h1.
    test_refused 14 (are_allowed list.items) _ n h1 (is_one ns 14 n refl) (λ h2.
    bind_refused (propose_extensions c s.member list.items) _ n h2 (λ e. widen propose_extensions_numbers ns n refl (propose_extensions_refused c s.member list.items n e)) (λ x never. absurd cc)))
event_refused c w (event.Commit k items path seed) n h =
    let ns : List ℕ = 90 ∷ 94 ∷ 95 ∷ make_numbers in
    bind_refused (seat_at w k) _ n h (λ e. or_read ns 90 n refl (seat_refused w k n e)) (λ s h1.
    bind_refused (items_of w items.items) _ n h1 (items_refused ns w items.items n refl refl) (λ list h2.
    bind_refused (make c s.member list path seed) _ n h2 (λ e. among make_numbers ns n refl (make_refused c s.member list path seed n e)) (λ made never. absurd cc)))
event_refused c w (event.DropPending k) n h = bind_refused (seat_at w k) _ n h (λ e. is_one (90 ∷ []) 90 n refl (seat_refused w k n e)) (λ s never. absurd cc)
event_refused c w (event.Deliver k source) n h =
    let ns : List ℕ = 90 ∷ 94 ∷ verdict_numbers in
    bind_refused (seat_at w k) _ n h (λ e. or_read ns 90 n refl (seat_refused w k n e)) (λ s h1.
    bind_refused (bytes_of w source) _ n h1 (λ e. or_read ns 94 n refl (bytes_refused w source n e)) (λ bytes h2.
    bind_refused (verdict c s.member bytes) _ n h2 (λ e. among_read verdict_numbers ns n (is_input_fault n) refl refl (verdict_refused c s.member bytes n e)) (λ x never. absurd cc)))
event_refused c w (event.Join k source) n h =
    let ns : List ℕ = 91 ∷ 92 ∷ 94 ∷ join_numbers in
    bind_refused (entrant_at w k) _ n h (λ e. or_right (is_input_fault n) (has ns n) (entrant_refused ns w k n refl refl e)) (λ e h1.
    bind_refused (bytes_of w source) _ n h1 (λ f. or_read ns 94 n refl (bytes_refused w source n f)) (λ bytes h2.
    bind_refused (join_verdict c e.candidate bytes) _ n h2 (λ f. among_read join_numbers ns n (is_input_fault n) refl refl (join_refused c e.candidate bytes n f)) (λ j never. absurd cc)))
