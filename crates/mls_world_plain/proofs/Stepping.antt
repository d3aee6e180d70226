-- What an event is refused before anything grows: of which call, and never with 1, which is want of memory.
use Rattle.std.proofs.Common.{◌≡◌, ℕ, Bool, true, not, List, [], ◌∷◌, Option, Some, None, Err, refl, subst, slice_get, arith}
use Rattle.std.specs.Prelude.{◌==◌}
use Rattle.std.specs.Str.{bytes_eq}
use Rattle.std.specs.Global.{Vec}
use Rattle.mls_wire.specs.Checks.{require_some}
use Rattle.mls_leaf.specs.GroupExtensions.{are_allowed}
use Rattle.mls_leaf.specs.declared.extension.Extension.{Extension}
use Rattle.mls_leaf.specs.Limits.{input_limit}
use Rattle.mls_leaf.specs.WholeLaws.{is_input_fault}
use Rattle.mls_leaf.proofs.WholeLaws.{is_input_answered}
use Rattle.mls_types.specs.ReadFaults.{mls_message_faults}
use Rattle.mls_types.specs.Message.{mls_message}
use Rattle.mls_model.specs.declared.event.Source.{Source}
use Rattle.mls_model.specs.declared.event.Source.TheVariants.{Given, Message}
use Rattle.mls_model.specs.declared.event.WorldItem.{WorldItem}
use Rattle.mls_model.specs.declared.event.WorldItem.TheVariants.{RefOf, Add, Remove, Extensions}
use Rattle.mls_model.specs.declared.event.Event.{Event}
use Rattle.mls_model.specs.declared.event.Event.TheVariants as event
use Rattle.mls_model.specs.Messages.{decode_message, public_in, sender_leaf, is_handshake, content_tag}
use Rattle.mls_model.specs.OpenedWelcome.{welcome_in}
use Rattle.mls_model.specs.Member.{Member, Pending}
use Rattle.mls_model.specs.Verdict.{own_pending}
use Rattle.mls_tree_model.specs.Term.{leaf_of}
use Rattle.mls_types.specs.declared.public_message.PublicMessage.{PublicMessage}
use Rattle.mls_join.specs.Entrance.{welcome_outer_checks}
use Rattle.mls_member.specs.EarlyChecks.{checks_unless_own, early_checks as early_member_checks}
use Rattle.mls_member.specs.Process.{sender_at, sender_of, message_outer_checks}
use Rattle.mls_model.proofs.RefusedSteps.{bind_refused, test_refused, given_refused}
use Rattle.mls_model.specs.World.{World, seat_at, entrant_at, bytes_of, package_in, proposal_in, package_of, proposal_of, item_of}
use Rattle.mls_world_plain.specs.EarlyChecks.{early_add_checks, early_extensions_checks, first_checks, early_commit_checks, early_delivery_checks, early_join_checks, early_checks}
use Rattle.mls_model.specs.WorldCalls.{drop_answer}
use Rattle.mls_world_plain.proofs.EarlyChecks.{unchecked, required_is}

decoded_so : (bytes : List ℕ) → decode_message bytes ≡ Err 1 → ⊥
unfolding decode_message
decoded_so bytes h = let e : is_input_fault 1 ≡ true = is_input_answered mls_message input_limit mls_message_faults bytes 1 h in cc

seat_so : (w : World) (k : ℕ) → seat_at w k ≡ Err 1 → ⊥
seat_so w k h = let e = given_refused 90 (slice_get w.seats k) 1 h in omega (arith, e)

entrant_so : (w : World) (k : ℕ) → entrant_at w k ≡ Err 1 → ⊥
unfolding entrant_at
entrant_so w k h =
    bind_refused (require_some 92 (slice_get w.entrants k)) _ 1 h (λ e. let a = given_refused 92 (slice_get w.entrants k) 1 e in omega (arith, a)) (λ x h1.
    test_refused 91 (not x.is_spent) _ 1 h1 (λ a. omega (arith, a)) (λ never. absurd cc))

bytes_so : (w : World) (source : Source) → bytes_of w source ≡ Err 1 → ⊥
bytes_so w (Given bytes) h = absurd cc
bytes_so w (Message k) h = let e = given_refused 94 (slice_get w.messages k) 1 h in omega (arith, e)

package_so : (w : World) (source : Source) → package_of w source ≡ Err 1 → ⊥
unfolding package_of
package_so w source h =
    bind_refused (bytes_of w source) _ 1 h (bytes_so w source) (λ bytes h1.
    bind_refused (decode_message bytes) _ 1 h1 (decoded_so bytes) (λ m h2. let e = given_refused 95 (package_in m) 1 h2 in omega (arith, e)))

proposal_so : (w : World) (source : Source) → proposal_of w source ≡ Err 1 → ⊥
unfolding proposal_of
proposal_so w source h =
    bind_refused (bytes_of w source) _ 1 h (bytes_so w source) (λ bytes h1.
    bind_refused (decode_message bytes) _ 1 h1 (decoded_so bytes) (λ m h2. let e = given_refused 95 (proposal_in m) 1 h2 in omega (arith, e)))

item_so : (w : World) (item : WorldItem) → item_of w item ≡ Err 1 → ⊥
item_so w (RefOf source) h = bind_refused (proposal_of w source) _ 1 h (proposal_so w source) (λ v never. absurd cc)
item_so w (Add source) h = bind_refused (package_of w source) _ 1 h (package_so w source) (λ v never. absurd cc)
item_so w (Remove leaf) h = absurd cc
item_so w (Extensions list) h = test_refused 14 (are_allowed list.items) _ 1 h (λ e. omega (arith, e)) (λ never. absurd cc)

first_so : (w : World) (items : List WorldItem) → first_checks w items ≡ Err 1 → ⊥
first_so w [] h = absurd cc
first_so w (x ∷ xs) h = item_so w x (unchecked (item_of w x) 1 h)

-- what a member refuses
sender_at_so : (m : Member) (group_id : List ℕ) (epoch sender : ℕ) (handshake : Bool) → sender_at m group_id epoch sender handshake ≡ Err 1 → ⊥
unfolding sender_at
sender_at_so m group_id epoch sender handshake h =
    test_refused 42 (bytes_eq group_id m.public.context.group_id) _ 1 h (λ a. omega (arith, a)) (λ h1.
    test_refused 43 (epoch == m.public.context.epoch) _ 1 h1 (λ a. omega (arith, a)) (λ h2.
    bind_refused (require_some 44 (leaf_of m.public.tree sender)) _ 1 h2 (λ e. let a = given_refused 44 (leaf_of m.public.tree sender) 1 e in omega (arith, a)) (λ leaf h3.
    test_refused 45 handshake _ 1 h3 (λ a. omega (arith, a)) (λ never. absurd cc))))

sender_so : (m : Member) (v : PublicMessage) → sender_of m v ≡ Err 1 → ⊥
sender_so m v h =
    bind_refused (sender_at m v.content.group_id v.content.epoch (sender_leaf v.content.sender) (is_handshake v.content.body)) _ 1 h (sender_at_so m _ _ _ _) (λ leaf h1.
    test_refused 46 (bytes_eq v.membership_tag (content_tag m.epoch_secret v.content m.public.context)) _ 1 h1 (λ a. omega (arith, a)) (λ never. absurd cc))

outer_so : (m : Member) (bytes : List ℕ) → message_outer_checks m bytes ≡ Err 1 → ⊥
unfolding message_outer_checks
outer_so m bytes h =
    bind_refused (decode_message bytes) _ 1 h (decoded_so bytes) (λ whole h1.
    bind_refused (require_some 41 (public_in whole)) _ 1 h1 (λ e. let a = given_refused 41 (public_in whole) 1 e in omega (arith, a)) (λ v h2. sender_so m v h2))

unless_own_so : (m : Member) (bytes : List ℕ) (o : Option Pending) → checks_unless_own m bytes o ≡ Err 1 → ⊥
unless_own_so m bytes (Some p) h = absurd cc
unless_own_so m bytes None h = outer_so m bytes (unchecked (message_outer_checks m bytes) 1 h)

member_so : (m : Member) (bytes : List ℕ) → early_member_checks m bytes ≡ Err 1 → ⊥
unfolding early_member_checks
member_so m bytes h = test_refused 40 (not m.gone) _ 1 h (λ a. omega (arith, a)) (λ h1. unless_own_so m bytes (own_pending m.pending bytes) h1)

welcome_so : (number : ℕ) (bytes : List ℕ) → welcome_outer_checks number bytes ≡ Err 1 → ⊥
unfolding welcome_outer_checks
welcome_so number bytes h =
    bind_refused (decode_message bytes) _ 1 h (decoded_so bytes) (λ outer h1.
    bind_refused (require_some 70 (welcome_in outer)) _ 1 h1 (λ e. let a = given_refused 70 (welcome_in outer) 1 e in omega (arith, a)) (λ v h2.
    let a = required_is 71 (v.cipher_suite == number) 1 h2 in omega (arith, a)))

pub never_memory : (number : ℕ) (w : World) (e : Event) → early_checks number w e ≡ Err 1 → ⊥
unfolding early_checks early_add_checks early_extensions_checks early_commit_checks early_delivery_checks early_join_checks
never_memory number w (event.Candidate identity seed) h = absurd cc
never_memory number w (event.Create k group seed) h = entrant_so w k (unchecked (entrant_at w k) 1 h)
never_memory number w (event.ProposeAdd k source) h = bind_refused (seat_at w k) _ 1 h (seat_so w k) (λ s h1. package_so w source (unchecked (package_of w source) 1 h1))
never_memory number w (event.ProposeUpdate k seed) h = seat_so w k (unchecked (seat_at w k) 1 h)
never_memory number w (event.ProposeRemove k leaf) h = seat_so w k (unchecked (seat_at w k) 1 h)
never_memory number w (event.ProposeExtensions k list) h = bind_refused (seat_at w k) _ 1 h (seat_so w k) (λ s h1. let e = required_is 14 (are_allowed list.items) 1 h1 in omega (arith, e))
never_memory number w (event.Commit k items path seed) h = bind_refused (seat_at w k) _ 1 h (seat_so w k) (λ s h1. first_so w items.items h1)
never_memory number w (event.DropPending k) h = seat_so w k (unchecked (seat_at w k) 1 h)
never_memory number w (event.Deliver k source) h = bind_refused (seat_at w k) _ 1 h (seat_so w k) (λ s h1.
    bind_refused (bytes_of w source) _ 1 h1 (bytes_so w source) (λ bytes h2. member_so s.member bytes h2))
never_memory number w (event.Join k source) h = bind_refused (entrant_at w k) _ 1 h (entrant_so w k) (λ x h1.
    bind_refused (bytes_of w source) _ 1 h1 (bytes_so w source) (λ bytes h2. welcome_so number bytes h2))

-- ---- the call of an event

module _ (number : ℕ) (w : World) (e : Event) (n : ℕ) where
  -- a candidate is refused nothing early
  pub of_candidate : (identity : Vec ℕ) (seed : List ℕ) → e ≡ event.Candidate identity seed → early_checks number w e ≡ Err n → ⊥
  unfolding early_checks
  of_candidate identity seed is h = let a = subst (λ (x : Event). early_checks number w x ≡ Err n) is h in absurd cc

  pub of_create : (k : ℕ) (group : Vec ℕ) (seed : List ℕ) → e ≡ event.Create k group seed → early_checks number w e ≡ Err n → entrant_at w k ≡ Err n
  unfolding early_checks
  of_create k group seed is h = unchecked (entrant_at w k) n (subst (λ (x : Event). early_checks number w x ≡ Err n) is h)

  pub of_add : (k : ℕ) (source : Source) → e ≡ event.ProposeAdd k source → early_checks number w e ≡ Err n → early_add_checks w k source ≡ Err n
  unfolding early_checks
  of_add k source is h = subst (λ (x : Event). early_checks number w x ≡ Err n) is h

  pub of_update : (k : ℕ) (seed : List ℕ) → e ≡ event.ProposeUpdate k seed → early_checks number w e ≡ Err n → seat_at w k ≡ Err n
  unfolding early_checks
  of_update k seed is h = unchecked (seat_at w k) n (subst (λ (x : Event). early_checks number w x ≡ Err n) is h)

  pub of_remove : (k leaf : ℕ) → e ≡ event.ProposeRemove k leaf → early_checks number w e ≡ Err n → seat_at w k ≡ Err n
  unfolding early_checks
  of_remove k leaf is h = unchecked (seat_at w k) n (subst (λ (x : Event). early_checks number w x ≡ Err n) is h)

  pub of_extensions : (k : ℕ) (list : Vec Extension) → e ≡ event.ProposeExtensions k list → early_checks number w e ≡ Err n → early_extensions_checks w k list.items ≡ Err n
  unfolding early_checks
  of_extensions k list is h = subst (λ (x : Event). early_checks number w x ≡ Err n) is h

  pub of_commit : (k : ℕ) (items : Vec WorldItem) (path : Bool) (seed : List ℕ) → e ≡ event.Commit k items path seed → early_checks number w e ≡ Err n → early_commit_checks w k items.items ≡ Err n
  unfolding early_checks
  of_commit k items path seed is h = subst (λ (x : Event). early_checks number w x ≡ Err n) is h

  pub of_drop : (k : ℕ) → e ≡ event.DropPending k → early_checks number w e ≡ Err n → drop_answer w k ≡ Err n
  unfolding early_checks drop_answer
  of_drop k is h = let a : seat_at w k ≡ Err n = unchecked (seat_at w k) n (subst (λ (x : Event). early_checks number w x ≡ Err n) is h) in rw a refl

  pub of_delivery : (k : ℕ) (source : Source) → e ≡ event.Deliver k source → early_checks number w e ≡ Err n → early_delivery_checks w k source ≡ Err n
  unfolding early_checks
  of_delivery k source is h = subst (λ (x : Event). early_checks number w x ≡ Err n) is h

  pub of_join : (k : ℕ) (source : Source) → e ≡ event.Join k source → early_checks number w e ≡ Err n → early_join_checks number w k source ≡ Err n
  unfolding early_checks
  of_join k source is h = subst (λ (x : Event). early_checks number w x ≡ Err n) is h
