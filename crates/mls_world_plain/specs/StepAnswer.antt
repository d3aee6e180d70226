-- What calls on a world answer.
use Rattle.std.specs.Prelude.{◌≡◌, ℕ, Result, Ok, Err}
use Rattle.mls_suite.specs.Crypto.{Crypto}
use Rattle.mls_model.specs.declared.event.Event.{Event}
use Rattle.mls_model.specs.declared.event.Reply.{Reply}
use Rattle.mls_model.specs.declared.event.Reply.TheVariants as reply
use Rattle.mls_model.specs.World.{World}
use Rattle.mls_model.specs.Run.{step}
use Rattle.mls_world_plain.specs.EarlyChecks.{early_checks}

-- an event happened, with its reply, or memory was refused and nothing did
abbrev pub DoesStep : {E : Type 0} → Crypto → Event → World → World → Result Reply E → Type 0
DoesStep c event old new (Ok r) = step c old event ≡ (r, new)
DoesStep c event old new (Err e) = new ≡ old

-- What is decided before anything grows, for a suite's number, is the reply also when an allocation fails, and changes
-- nothing.
abbrev pub RepliesEarly : {E : Type 0} → ℕ → Event → World → World → Result Reply E → Type 0
RepliesEarly number event old new result = (n : ℕ) → early_checks number old event ≡ Err n → (result ≡ Ok (reply.Refused n)) × (new ≡ old)
