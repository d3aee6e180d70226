-- What a message would do to a member, and who sent it.
use Rattle.std.specs.Prelude.{ℕ, Option, None, option_map, Result, Ok, Err, IfOk}
use Rattle.mls_wire.specs.Checks.{Answers}
use Rattle.mls_types.specs.declared.message.MlsMessage.{MlsMessage}
use Rattle.mls_types.specs.declared.public_message.PublicMessage.{PublicMessage}
use Rattle.mls_suite.specs.Crypto.{Crypto}
use Rattle.mls_model.specs.declared.effect.Effect.{Effect}
use Rattle.mls_model.specs.Member.{Member}
use Rattle.mls_model.specs.MemberInvariant.{IsGoodMember}
use Rattle.mls_model.specs.Messages.{public_in, sender_leaf}
use Rattle.mls_member.specs.Faults.{number_of}
use Rattle.mls_member.specs.declared.error.Refusal.{Refusal}
use Rattle.mls_member.specs.declared.inspect.Inspection.{Inspection}

-- the effect, and the member after it
abbrev pub inspection_as : {S : Type 0} → Inspection S → Effect × Member
inspection_as x = (x.effect, x.member)

-- The call answers the effect and the member after it, or refuses with the number of the first check that fails, or
-- with `OutOfMemory`.
abbrev pub Inspects : {S : Type 0} → Result (Effect × Member) ℕ → Result (Inspection S) Refusal →
    Type 0
Inspects defined result = Answers inspection_as number_of defined result

-- of a good member it answers a good one
abbrev pub ShowsGood : {S : Type 0} → Crypto → Member → Result (Inspection S) Refusal → Type 0
ShowsGood c m result = IsGoodMember c m → IfOk result (λ x. IsGoodMember c x.member)

-- the leaf of a message's sender, where it is a PublicMessage (RFC 9420, 6)
abbrev pub sender_of_message : MlsMessage → Option ℕ
sender_of_message message =
    option_map (λ (v : PublicMessage). sender_leaf v.content.sender) (public_in message)

-- the leaf of the sender of the message that was read, if there is one
abbrev pub sender_in : Result MlsMessage ℕ → Option ℕ
sender_in (Ok message) = sender_of_message message
sender_in (Err n) = None
