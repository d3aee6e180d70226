-- What a command is behind one more argument.
use Rattle.std.proofs.Common.{◌≡◌, ◌∙◌, ◌||◌, Bool, false, Result, Ok, Err, refl, ap, ap₂}
use Rattle.std.specs.Prelude.{IfOk}
use Rattle.clap.specs.Words.{AddsArg, App, Rule, app_of, rule_of, with_rule}
use Rattle.clap.specs.declared.builder.arg.Arg.{Arg}
use Rattle.clap.specs.declared.builder.command.Command.{Command}
use Rattle.clap.specs.declared.builder.command.Command.TheViews.{out-Command}

pub app_is : {old new : Command} {a : Arg} {app : App} {rule : Rule} → AddsArg old a new → a.global ≡ false → app_of old ≡ app → rule_of a ≡ rule → app_of new ≡ with_rule app rule
app_is adds local is ruled = adds.shape local ∙ ap₂ with_rule is ruled

neither : (a b : Bool) → a ≡ false → b ≡ false → (a || b) ≡ false
neither a b none local = rw (none, local) refl

pub local_is : {old new : Command} {a : Arg} → AddsArg old a new → a.global ≡ false → (out-Command old).has_globals ≡ false → (out-Command new).has_globals ≡ false
local_is {old} {new} {a} adds local none = adds.globals ∙ neither ((out-Command old).has_globals) a.global none local

pub last_app : {E : Type 0} (r : Result Command E) (old : Command) (a : Arg) {app : App} {rule : Rule} → IfOk r (λ (new : Command). AddsArg old a new) → a.global ≡ false → app_of old ≡ app → rule_of a ≡ rule
    → IfOk r (λ (new : Command). app_of new ≡ with_rule app rule)
last_app (Ok new) old a {app} {rule} adds local is ruled = app_is {old = old} {new = new} {a = a} {app = app} {rule = rule} adds local is ruled
last_app (Err e) old a adds local is ruled = tt

pub last_local : {E : Type 0} (r : Result Command E) (old : Command) (a : Arg) → IfOk r (λ (new : Command). AddsArg old a new) → a.global ≡ false → (out-Command old).has_globals ≡ false
    → IfOk r (λ (new : Command). (out-Command new).has_globals ≡ false)
last_local (Ok new) old a adds local none = local_is {old = old} {new = new} {a = a} adds local none
last_local (Err e) old a adds local none = tt

-- behind further arguments
pub then_app : {E : Type 0} (r : Result Command E) (more : App → App) {from app : App} → IfOk r (λ (new : Command). app_of new ≡ more from) → from ≡ app → IfOk r (λ (new : Command). app_of new ≡ more app)
then_app (Ok new) more is same = is ∙ ap more same
then_app (Err e) more is same = tt
