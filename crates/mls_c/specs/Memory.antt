-- What lies at the pointers that C passes.
use Rattle.std.specs.Prelude.{◌≡◌, ℕ, ◌<◌, ◌^◌, List, [], Option, Result, ⊤}
use base.Fraction.{full_share}
use base.Fml.{Fml, Share, ftrue, fsep, fex}
use denote.RattleType.{RattleType}
use denote.Array.{Array}
use denote.Builtin.{u8, u64, RawPtr}
use denote.RawPtr.{Ptr, block_ptr, null_ptr, Testable, lies_at, room_at}
use Rattle.std.specs.Global.{Global, Vec}
use Rattle.std.specs.contracts.impls.GlobalAllocator.TheImpl.{ghosts}
use Rattle.std_alloc.specs.Box.Ownership.{box_owns}
use Rattle.mls_calls.specs.Answers.{DoesCall}
use Rattle.mls_calls.specs.Faults.{number_of}
use Rattle.mls_calls.specs.declared.error.MisuseError.TheVariants.{NullHandle}
use Rattle.mls_calls.specs.Given.{IsGiven, given_bytes}
use Rattle.mls_c.specs.Loose.{loose_owns}
use Rattle.mls_calls.specs.Parts.{made_of, other_of, value_of, answer_number}
use Rattle.mls_calls.specs.Shown.{shown}
use Rattle.mls_calls.specs.contracts.held.Held.{the_row}
use Rattle.mls_calls.specs.declared.call.Call.{Call}
use Rattle.mls_calls.specs.declared.done.Done.{Done}
use Rattle.mls_calls.specs.declared.held.Held.{Held}
use Rattle.mls_calls.specs.declared.held.Held.TheVariants.{Nothing}

-- P, where the pointer is null
abbrev pub IfNull : Ptr → Type 0 → Type 0
IfNull null_ptr P = P
IfNull (block_ptr b o) P = ⊤

-- a plain fact
abbrev pub says : Type 0 → Fml
says P = fex P (λ _. ftrue)

-- the handle at p holds x: its box, or nothing at null
abbrev pub held_at : Ptr → Held → Fml
held_at null_ptr x = says (x ≡ Nothing)
held_at (block_ptr b o) x =
    fex Global (λ a. box_owns (ghosts.dealloc_token a) the_row (block_ptr b o) x)

-- what freeing a handle answers
abbrev pub free_answer : Ptr → ℕ
free_answer null_ptr = number_of NullHandle
free_answer (block_ptr b o) = 0

-- a share of the bytes xs lies at p, or p is null
abbrev pub bytes_at : Share → Ptr → ℕ → List ℕ → Fml
bytes_at q null_ptr length xs = says (xs ≡ [])
bytes_at q (block_ptr b o) length xs =
    fsep (says (Testable (block_ptr b o) × (length < 2 ^ 63)))
    (lies_at (Array u8 length) q (block_ptr b o) xs)

-- room for an R at p, or p is null
abbrev pub room_if : RattleType → Ptr → Fml
room_if R null_ptr = ftrue
room_if R (block_ptr b o) = fsep (says (Testable (block_ptr b o))) (room_at R (block_ptr b o))

-- a number that was put at p, unless p is null
abbrev pub number_put : Ptr → ℕ → Fml
number_put null_ptr n = ftrue
number_put (block_ptr b o) n = lies_at u64 full_share (block_ptr b o) n

-- a handle that was put at p, unless p is null: that handle is null where nothing was made
abbrev pub handle_put : Ptr → Option Held → Fml
handle_put null_ptr made = ftrue
handle_put (block_ptr b o) made = fex (Ptr × Global) (λ s.
    fsep (lies_at RawPtr full_share (block_ptr b o) s.0)
    (loose_owns (ghosts.dealloc_token s.1) the_row s.0 made))

-- ---- a whole call

-- where C points to
pub record Passed : Type 0 where
  pub handle : Ptr
  pub first : Ptr
  pub first_length : ℕ
  pub second : Ptr
  pub second_length : ℕ
  pub third : Ptr
  pub third_length : ℕ
  pub made : Ptr
  pub other : Ptr
  pub value : Ptr

-- nowhere
abbrev pub nowhere : Passed
nowhere = record {
  handle = null_ptr;
  first = null_ptr;
  first_length = 0;
  second = null_ptr;
  second_length = 0;
  third = null_ptr;
  third_length = 0;
  made = null_ptr;
  other = null_ptr;
  value = null_ptr;
}

-- what lies there before
pub record Asked : Type 0 where
  pub held : Held
  pub first : Share × List ℕ
  pub second : Share × List ℕ
  pub third : Share × List ℕ

abbrev pub texts_at : Passed → Asked → Fml
texts_at at asked =
    fsep (bytes_at asked.first.0 at.first at.first_length asked.first.1)
    (fsep (bytes_at asked.second.0 at.second at.second_length asked.second.1)
    (bytes_at asked.third.0 at.third at.third_length asked.third.1))

abbrev pub asked_at : Passed → Asked → Fml
asked_at at asked =
    fsep (held_at at.handle asked.held)
    (fsep (texts_at at asked)
    (fsep (room_if RawPtr at.made) (fsep (room_if RawPtr at.other) (room_if u64 at.value))))

-- the copies of the bytes, and what the call did with them
abbrev pub Outcome : Type 0
Outcome = Result (Vec ℕ) ℕ × Result (Vec ℕ) ℕ × Result (Vec ℕ) ℕ × Done

abbrev pub HasAnswered : Call → ℕ → Passed → Asked → ℕ → Outcome → Type 0
HasAnswered call number at asked answer o =
    IsGiven at.first at.first_length asked.first.1 o.0
    × IsGiven at.second at.second_length asked.second.1 o.1
    × IsGiven at.third at.third_length asked.third.1 o.2
    × DoesCall call number (shown asked.held)
    (given_bytes o.0) (given_bytes o.1) (given_bytes o.2) o.3
    × (answer ≡ answer_number o.3.outcome)

abbrev pub left_at : Passed → Asked → Done → Fml
left_at at asked done =
    fsep (held_at at.handle done.held)
    (fsep (texts_at at asked)
    (fsep (handle_put at.made (made_of done.outcome))
    (fsep (handle_put at.other (other_of done.outcome))
    (number_put at.value (value_of done.outcome)))))

abbrev pub answered_at : Call → ℕ → Passed → Asked → ℕ → Fml
answered_at call number at asked answer =
    fex Outcome (λ o.
    fsep (says (HasAnswered call number at asked answer o)) (left_at at asked o.3))
