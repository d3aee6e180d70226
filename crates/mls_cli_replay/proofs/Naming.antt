-- Members, named one by one: what is out, and who is left.
use Rattle.std.proofs.Common.{◌≡◌, ◌∙◌, ◌≤◌, ◌<◌, ◌⊎◌, inl, inr, ◌++◌, ◌∷◌, [], ◌+◌, ℕ, suc, List, Option, Some, None, option_map, slice_get, drop, length, refl, ap, sym, subst, append_assoc, append-nil, drop-cons, add-one, get_or}
use Rattle.std.proofs.lemmas.Option.{slice_get_cases}
use Rattle.std.proofs.lemmas.List.{drop_all}
use Rattle.std.proofs.KnownBytes.{Appends-trans}
use Rattle.std.specs.List.{flat_map}
use Rattle.std.specs.Io.KnownBytes.{Appends}
use Rattle.mls_model.specs.Member.{Member}
use Rattle.mls_model.specs.World.{Seat}
use Rattle.mls_cli_text.specs.InputOutput.{AppendsPart}
use Rattle.mls_cli_text.proofs.Pieces.{part_behind, part_of_front}
use Rattle.mls_cli_replay.specs.Replay.{entry_text, member_entries, member_entry}

abbrev pub named : ℕ → List Seat → List ℕ
named k seats = flat_map entry_text (member_entries k seats)

abbrev pub name_of : ℕ → Member → List ℕ
name_of k m = entry_text (member_entry k m)

abbrev pub member_at : List Seat → ℕ → Option Member
member_at seats k = option_map (λ (s : Seat). s.member) (slice_get seats k)

named_first : (k : ℕ) (s : Seat) (seats : List Seat) → named k (s ∷ seats) ≡ name_of k s.member ++ named (k + 1) seats
unfolding member_entries
named_first k s seats = refl

named_none : (k : ℕ) → named k [] ≡ []
unfolding member_entries
named_none k = refl

-- ---- member k is there, or none is from there on

split_by : (seats : List Seat) (k : ℕ) (m : Member) → member_at seats k ≡ Some m
    → ((x : Seat) × (k < length seats) × (slice_get seats k ≡ Some x) × (get_or seats k x ≡ x)) ⊎ ((length seats ≤ k) × (slice_get seats k ≡ None))
    → (s : Seat) × (drop k seats ≡ s ∷ drop (k + 1) seats) × (s.member ≡ m)
split_by seats k m is (inl (x, lt, at, same)) =
    (x, rw add-one (drop-cons seats k x lt ∙ ap (λ (y : Seat). y ∷ drop (suc k) seats) same), cc (ap (option_map (λ (s : Seat). s.member)) at))
split_by seats k m is (inr (le, none)) = absurd (cc (ap (option_map (λ (s : Seat). s.member)) none))

pub split_at : (seats : List Seat) (k : ℕ) (m : Member) → member_at seats k ≡ Some m → (s : Seat) × (drop k seats ≡ s ∷ drop (k + 1) seats) × (s.member ≡ m)
split_at seats k m is = split_by seats k m is (slice_get_cases seats k).1

past_by : (seats : List Seat) (k : ℕ) → member_at seats k ≡ None
    → ((x : Seat) × (k < length seats) × (slice_get seats k ≡ Some x) × (get_or seats k x ≡ x)) ⊎ ((length seats ≤ k) × (slice_get seats k ≡ None)) → length seats ≤ k
past_by seats k is (inl (x, lt, at, same)) = absurd (cc (ap (option_map (λ (s : Seat). s.member)) at))
past_by seats k is (inr (le, none)) = le

pub past_all : (seats : List Seat) (k : ℕ) → member_at seats k ≡ None → length seats ≤ k
past_all seats k is = past_by seats k is (slice_get_cases seats k).1

-- ---- before member k

pub record Named (seats : List Seat) (old new : Option (List ℕ)) (k : ℕ) : Type 0 where
  pub done : List ℕ
  pub grown : Appends old new done
  pub text : named 0 seats ≡ done ++ named k (drop k seats)

next_text : (seats : List Seat) (k : ℕ) (m : Member) → member_at seats k ≡ Some m → named k (drop k seats) ≡ name_of k m ++ named (k + 1) (drop (k + 1) seats)
next_text seats k m is =
    let (s, split, same) = split_at seats k m is in
    ap (named k) split ∙ named_first k s (drop (k + 1) seats) ∙ ap (λ (x : Member). name_of k x ++ named (k + 1) (drop (k + 1) seats)) same

pub named_on : (seats : List Seat) (old new now : Option (List ℕ)) (k : ℕ) (m : Member) → member_at seats k ≡ Some m
    → Named seats old new k → Appends new now (name_of k m) → Named seats old now (k + 1)
named_on seats old new now k m is p grew = record {
  done = p.done ++ name_of k m;
  grown = Appends-trans old new now p.done (name_of k m) p.grown grew;
  text = p.text ∙ ap (λ t. p.done ++ t) (next_text seats k m is) ∙ sym (append_assoc p.done (name_of k m) (named (k + 1) (drop (k + 1) seats)));
}

-- where a member's line is cut, so are those of all
pub named_cut : (seats : List Seat) (old new now : Option (List ℕ)) (k : ℕ) (m : Member) → member_at seats k ≡ Some m
    → Named seats old new k → AppendsPart new now (name_of k m) → AppendsPart old now (named 0 seats)
named_cut seats old new now k m is p part =
    let first = part_of_front new now (name_of k m) (named (k + 1) (drop (k + 1) seats)) part in
    let left : AppendsPart new now (named k (drop k seats)) = subst (AppendsPart new now) (sym (next_text seats k m is)) first in
    subst (AppendsPart old now) (sym p.text) (part_behind old new now p.done (named k (drop k seats)) p.grown left)

-- behind the last member
pub nobody_left : (seats : List Seat) (k : ℕ) → length seats ≤ k → drop k seats ≡ []
nobody_left seats k le = drop_all k seats le

pub named_all : (seats : List Seat) (old new : Option (List ℕ)) (k : ℕ) → length seats ≤ k → Named seats old new k → Appends old new (named 0 seats)
named_all seats old new k le p =
    let text : named 0 seats ≡ p.done = p.text ∙ ap (λ t. p.done ++ t) (ap (named k) (nobody_left seats k le) ∙ named_none k) ∙ append-nil p.done in
    subst (Appends old new) (sym text) p.grown
