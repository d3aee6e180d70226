-- The walks over group contexts and group infos find the faults that reading answers.
use Rattle.std.specs.Prelude.{◌≡◌, ℕ, ◌==◌, Bool, true, false, if◌then◌else◌, List, length, Result, Ok, Err, refl}
use Rattle.std.specs.Int.{w16}
use Rattle.std.proofs.Common.{ap, arith, lit<, ◌∙◌}
use Rattle.mls_wire.specs.Combine.{byte_string, mark, uint16, uint32, uint64}
use Rattle.mls_wire.specs.Reading.{◌>>=◌, uint_at}
use Rattle.mls_wire.specs.CombineReads.{ended_past}
use Rattle.mls_leaf.specs.GroupExtensions.{group_extensions}
use Rattle.mls_types.specs.GroupContext.{group_context}
use Rattle.mls_types.specs.GroupInfo.{group_info, group_info_extensions, ratchet_tree, tree_extension}
use Rattle.mls_types.specs.EnclosedReads.{alone_past, one_past}
use Rattle.mls_cli_place.specs.declared.place.Found.{Found}
use Rattle.mls_cli_place.specs.declared.step.GroupField.TheVariants as group
use Rattle.mls_cli_place.specs.declared.step.Step.{Step}
use Rattle.mls_cli_place.specs.declared.step.Step.TheVariants.{Group, Item}
use Rattle.mls_cli_place.specs.Finding.{AllWithin, Finds, FindsAll, all_followed, finds_enclosed, finds_field, finds_one, finds_skip, finds_then, inside_within, number_followed, number_in, number_inside}
use Rattle.mls_cli_place.specs.Group.{ended, group_context_walk, group_info_extensions_walk, group_info_walk, no_second, tree_data, tree_extension_walk, tree_extensions}
use Rattle.mls_cli_place.specs.TreeFinding.{ratchet_tree_finds}
use Rattle.mls_cli_place.specs.Walk.{Walk, at_front, followed, inside, located}

pub group_context_finds : Finds group_context_walk group_context.pass
unfolding group_context_walk group_context
group_context_finds =
    finds_then (finds_field _ (finds_skip (mark 1 7 (lit< tt)))) (finds_then (finds_field _ (finds_one uint16)) (finds_then (finds_field _ (finds_one byte_string))
    (finds_then (finds_field _ (finds_one uint64)) (finds_then (finds_field _ (finds_one byte_string)) (finds_then (finds_field _ (finds_one byte_string)) (finds_field _ (finds_one group_extensions)))))))

-- ---- the data of the extension

abbrev end_at : List ℕ → Bool → Result (Unit {0}) Found
end_at bytes b = if b then Ok tt else Err (at_front bytes 3)

abbrev end_past : Bool → Result (Unit {0}) ℕ
end_past b = if b then Ok tt else Err 3

ended_same : (bytes : List ℕ) (b : Bool) → number_in (end_at bytes b) ≡ end_past b
ended_same bytes true = refl
ended_same bytes false = refl

ended_within : (bytes : List ℕ) (b : Bool) → AllWithin bytes (end_at bytes b)
ended_within bytes true = tt
ended_within bytes false = omega arith

finds_behind : {walk : Walk} {pass : List ℕ → Result (List ℕ) ℕ} {more : List ℕ → Result (Unit {0}) Found} {more_past : List ℕ → Result (Unit {0}) ℕ} (step : Step) → Finds walk pass → FindsAll more more_past
    → FindsAll (λ bytes. followed (inside step (walk bytes)) more) (λ bytes. pass bytes >>= more_past)
finds_behind {walk} {pass} {more} {more_past} step h k = record {
  same = λ bytes.
      number_followed (inside step (walk bytes)) more more_past k.same
      ∙ ap (λ (r : Result (List ℕ) ℕ). r >>= more_past) (number_inside step (walk bytes) ∙ h.same bytes);
  within = λ bytes fits. all_followed bytes (inside step (walk bytes)) more (inside_within step bytes (walk bytes) (h.within bytes fits)) k.within;
}

finds_end : FindsAll ended ended_past
finds_end = record { same = λ bytes. ended_same bytes (length bytes == 0); within = λ bytes fits. ended_within bytes (length bytes == 0) }

pub finds_tree_data : FindsAll tree_data (λ bytes. ratchet_tree.pass bytes >>= ended_past)
finds_tree_data = finds_behind _ ratchet_tree_finds finds_end

tree_extension_finds : Finds tree_extension_walk tree_extension.pass
unfolding tree_extension_walk
tree_extension_finds = finds_then (finds_field _ (finds_skip (mark 2 14 (lit< tt)))) (finds_field _ (finds_enclosed finds_tree_data))

-- ---- at most one extension

abbrev no_value : ℕ → Result (Unit {0}) ℕ
no_value n = Err n

abbrev second_on : List ℕ → Result (ℕ × List ℕ) ℕ → Result (Unit {0}) Found
second_on bytes r = inside (Item 1) (inside (Group group.ExtensionType) (followed (located bytes r) (λ x. Err (at_front bytes 14))))

second_same : (bytes : List ℕ) (r : Result (ℕ × List ℕ) ℕ) → number_in (second_on bytes r) ≡ (r >>= λ _. no_value 14)
second_same bytes (Ok x) = refl
second_same bytes (Err n) = refl

abbrev empty_or : {E : Type 0} → Bool → Result (Unit {0}) E → Result (Unit {0}) E
empty_or b r = if b then Ok tt else r

if_same : (b : Bool) (r : Result (Unit {0}) Found) (s : Result (Unit {0}) ℕ) → number_in r ≡ s → number_in (empty_or b r) ≡ empty_or b s
if_same true r s e = refl
if_same false r s e = e

second_within : (bytes : List ℕ) (r : Result (ℕ × List ℕ) ℕ) → AllWithin bytes (second_on bytes r)
second_within bytes (Ok x) = omega arith
second_within bytes (Err n) = omega arith

if_within : (bytes : List ℕ) (b : Bool) (r : Result (Unit {0}) Found) → AllWithin bytes r → AllWithin bytes (empty_or b r)
if_within bytes true r h = tt
if_within bytes false r h = h

finds_no_second : FindsAll no_second (alone_past 14)
finds_no_second = record {
  same = λ bytes. if_same (length bytes == 0) (second_on bytes (uint_at w16 bytes)) (uint_at w16 bytes >>= λ _. no_value 14) (second_same bytes (uint_at w16 bytes));
  within = λ bytes fits. if_within bytes (length bytes == 0) (second_on bytes (uint_at w16 bytes)) (second_within bytes (uint_at w16 bytes));
}

pub finds_tree_extensions : FindsAll tree_extensions (one_past tree_extension 14)
finds_tree_extensions =
    let all = finds_behind (Item 0) tree_extension_finds finds_no_second in
    record {
      same = λ bytes. if_same (length bytes == 0) (followed (inside (Item 0) (tree_extension_walk bytes)) no_second) (tree_extension.pass bytes >>= alone_past 14) (all.same bytes);
      within = λ bytes fits. if_within bytes (length bytes == 0) (followed (inside (Item 0) (tree_extension_walk bytes)) no_second) (all.within bytes fits);
    }

group_info_extensions_finds : Finds group_info_extensions_walk group_info_extensions.pass
unfolding group_info_extensions_walk group_info_extensions
group_info_extensions_finds = finds_enclosed finds_tree_extensions

pub group_info_finds : Finds group_info_walk group_info.pass
unfolding group_info_walk group_info
group_info_finds =
    finds_then (finds_field _ group_context_finds) (finds_then (finds_field _ group_info_extensions_finds) (finds_then (finds_field _ (finds_one byte_string))
    (finds_then (finds_field _ (finds_one uint32)) (finds_field _ (finds_one byte_string)))))
