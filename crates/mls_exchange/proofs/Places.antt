-- The group's identifier and the epoch stand at their place in each message that is read.
use Rattle.std.proofs.Common.{◌≡◌, ℕ, Bool, true, false, List, length, Result, Ok, Err, refl, sym, ap, ◌∙◌}
use Rattle.std.specs.Prelude.{◌==◌, nat_lt, if◌then◌else◌}
use Rattle.std.specs.Int.{w16, w64}
use Rattle.mls_wire.specs.Laws.{bind_ok, ok_is}
use Rattle.mls_wire.specs.Reading.{◌>>=◌, uint_at, mark_at, opaque_at}
use Rattle.mls_wire.specs.Format.{Format}
use Rattle.mls_wire.specs.Combine.{◌⨾◌, behind, byte_string, uint64}
use Rattle.mls_wire.specs.CombineReads.{next_read}
use Rattle.mls_wire.specs.Whole.{whole}
use Rattle.mls_leaf.specs.Limits.{input_limit}
use Rattle.mls_private_message.specs.declared.private_message.PrivateMessage.{PrivateMessage}
use Rattle.mls_private_message.specs.PrivateMessage.{application_type, private_fields, private_message}
use Rattle.mls_exchange.specs.State.{State}
use Rattle.mls_exchange.specs.Opening.{place_at, checks_of_place, arrival_checks}

-- what was read, and the bytes after it
abbrev Read : Type 0 → Type 0
Read V = V × List ℕ

abbrev given : {V : Type 0} → Read V → Result (Read V) ℕ
given x = Ok x

-- a value with nothing behind it, within a limit
abbrev last_if : {V : Type 0} → Bool → V → Result V ℕ
last_if b v = if b then Ok v else Err 3

abbrev unless_long : {V : Type 0} → Bool → Result V ℕ → Result V ℕ
unless_long b r = if b then Err 6 else r

is_last : {V : Type 0} (b : Bool) (x v : V) → last_if b x ≡ Ok v → x ≡ v
is_last true x v e = ok_is x v e
is_last false x v e = absurd cc

-- what all of the bytes spell stands at the front
is_front : {V : Type 0} (format : Format V) (limit : ℕ) (bytes : List ℕ) (v : V) → whole format limit bytes ≡ Ok v → (rest : List ℕ) × (format.read bytes ≡ Ok (v, rest))
unfolding whole
is_front {V} format limit bytes v e = within (nat_lt limit (length bytes)) e
  where
    within : (b : Bool) → unless_long b (format.read bytes >>= λ x. last_if (length x.1 == 0) x.0) ≡ Ok v → (rest : List ℕ) × (format.read bytes ≡ Ok (v, rest))
    within true e = absurd cc
    within false e =
        let b = bind_ok (format.read bytes) (λ x. last_if (length x.1 == 0) x.0) v e in
        let same : b.0.0 ≡ v = is_last (length b.0.1 == 0) b.0.0 v b.2 in
        (b.0.1, b.1 ∙ ap (λ (y : V). given (y, b.0.1)) same)

-- a number that was read past
is_marked : (mark fault : ℕ) (bytes rest : List ℕ) → mark_at w16 mark fault bytes ≡ Ok rest → (n : ℕ) × (uint_at w16 bytes ≡ Ok (n, rest))
unfolding mark_at
is_marked mark fault bytes rest e =
    let b = bind_ok (uint_at w16 bytes) (λ n. if n.0 == mark then Ok n.1 else Err fault) rest e in
    let same : b.0.1 ≡ rest = chosen b.0.1 (b.0.0 == mark) b.2 in
    (b.0.0, b.1 ∙ ap (λ (y : List ℕ). let ok : ℕ × List ℕ → Result (ℕ × List ℕ) ℕ = λ z. Ok z in ok (b.0.0, y)) same)
  where
    chosen : (x : List ℕ) (b : Bool) → (if b then Ok x else Err fault) ≡ Ok rest → x ≡ rest
    chosen x true e = ok_is x rest e
    chosen x false e = absurd cc

-- the epoch, and the vectors behind it
abbrev Numbered : Type 0
Numbered = ℕ × (List ℕ × (List ℕ × List ℕ))

-- the fields behind version and wire format
record HasPlace (bytes : List ℕ) (m : PrivateMessage) : Type 0 where
  after_group : List ℕ
  group : opaque_at bytes ≡ Ok (m.group_id, after_group)
  after_epoch : List ℕ
  epoch : uint_at w64 after_group ≡ Ok (m.epoch, after_epoch)

has_place : (bytes : List ℕ) (x : PrivateMessage × List ℕ) → private_fields.read bytes ≡ Ok x → HasPlace bytes x.0
unfolding private_fields
has_place bytes x e =
    let others = behind application_type (byte_string ⨾ byte_string ⨾ byte_string) in
    let a = bind_ok ((byte_string ⨾ uint64 ⨾ others).read bytes) _ _ e in
    let g = bind_ok (opaque_at bytes) (next_read (λ _. uint64 ⨾ others)) _ a.1 in
    let f = bind_ok ((uint64 ⨾ others).read g.0.1) _ _ g.2 in
    let n = bind_ok (uint_at w64 g.0.1) (next_read (λ _. others)) _ f.1 in
    let h = bind_ok (others.read n.0.1) _ _ n.2 in
    let of_group : g.0.0 ≡ x.0.group_id =
    ap (λ (y : Read (List ℕ × Numbered)). y.0.0) (ok_is _ a.0 f.2) ∙ ap (λ (y : Read PrivateMessage). y.0.group_id) (ok_is _ x a.2) in
    let of_epoch : n.0.0 ≡ x.0.epoch =
    ap (λ (y : Read Numbered). y.0.0) (ok_is _ f.0 h.2) ∙ ap (λ (y : Read (List ℕ × Numbered)). y.0.1.0) (ok_is _ a.0 f.2)
    ∙ ap (λ (y : Read PrivateMessage). y.0.epoch) (ok_is _ x a.2) in
    record {
      after_group = g.0.1;
      group = g.1 ∙ ap (λ (y : List ℕ). given (y, g.0.1)) of_group;
      after_epoch = n.0.1;
      epoch = n.1 ∙ ap (λ (y : ℕ). given (y, n.0.1)) of_epoch;
    }

pub place_is : (bytes : List ℕ) (m : PrivateMessage) → whole private_message input_limit bytes ≡ Ok m → place_at bytes ≡ Ok (m.group_id, m.epoch)
unfolding place_at private_message
place_is bytes m e =
    let front = is_front private_message input_limit bytes m e in
    let first = bind_ok (mark_at w16 1 7 bytes) _ _ front.1 in
    let second = bind_ok (mark_at w16 2 7 first.0) _ _ first.2 in
    let version = is_marked 1 7 bytes first.0 first.1 in
    let wire_format = is_marked 2 7 first.0 second.0 second.1 in
    let p = has_place second.0 (m, front.0) second.2 in
    rw (version.1, wire_format.1, p.group, p.epoch) refl

-- ---- the checks

pub unread : (s : State) (bytes : List ℕ) (n : ℕ) → whole private_message input_limit bytes ≡ Err n → arrival_checks s bytes ≡ Err n
unfolding arrival_checks
unread s bytes n e = rw e refl

module _ (s : State) (bytes : List ℕ) (m : PrivateMessage) (is : whole private_message input_limit bytes ≡ Ok m) where
  pub has_no_fault : (n : ℕ) → place_at bytes ≡ Err n → ⊥
  has_no_fault n e = let p = sym (place_is bytes m is) ∙ e in absurd cc

  pub checked : (group_id : List ℕ) (epoch : ℕ) → place_at bytes ≡ Ok (group_id, epoch) → checks_of_place s group_id epoch ≡ arrival_checks s bytes
  unfolding arrival_checks
  checked group_id epoch at =
      let same : (m.group_id, m.epoch) ≡ (group_id, epoch) = ok_is (m.group_id, m.epoch) (group_id, epoch) (sym (place_is bytes m is) ∙ at) in
      let of_group : m.group_id ≡ group_id = ap (λ (x : List ℕ × ℕ). x.0) same in
      let of_epoch : m.epoch ≡ epoch = ap (λ (x : List ℕ × ℕ). x.1) same in
      rw (is, of_group, of_epoch) refl
