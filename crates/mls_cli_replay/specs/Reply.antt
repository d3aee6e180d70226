-- The texts of replies, as they are printed and as a recording expects them.
use Rattle.std.specs.Prelude.{ℕ, true, false, List, ◌++◌, codes, Some, None}
use Rattle.std.specs.Fmt.{decimal}
use Rattle.mls_wire.specs.Names.{refusal_name}
use Rattle.mls_model.specs.declared.effect.Effect.{Effect}
use Rattle.mls_model.specs.declared.effect.Effect.TheVariants as effect
use Rattle.mls_model.specs.declared.event.Reply.{Reply}
use Rattle.mls_model.specs.declared.event.Reply.TheVariants as reply
use Rattle.mls_cli_replay.specs.declared.deliveries.Tally.{Tally}
use Rattle.mls_cli_replay.specs.declared.reply.Outcome.{Outcome}
use Rattle.mls_cli_replay.specs.declared.reply.Outcome.TheVariants as outcome

-- what a delivered message did to the member
abbrev pub effect_text : Effect → List ℕ
effect_text (effect.Proposed reference) = codes "proposed"
effect_text (effect.Known reference) = codes "known"
effect_text (effect.Advanced epoch) = codes "advanced to " ++ decimal epoch
effect_text effect.Removed = codes "removed"

-- the text of a refusal
abbrev pub refused_text : ℕ → List ℕ → List ℕ
refused_text number name = codes "refused " ++ (decimal number ++ (codes " " ++ name))

-- the text of a reply; a refusal has its number and its name
abbrev pub reply_text : Reply → List ℕ
reply_text (reply.Candidate candidate message) =
    codes "candidate " ++ (decimal candidate ++ (codes ", message " ++ decimal message))
reply_text (reply.Created member) = codes "member " ++ decimal member
reply_text (reply.Proposal message) = codes "message " ++ decimal message
reply_text (reply.Commit message None) = codes "message " ++ decimal message
reply_text (reply.Commit message (Some welcome)) =
    codes "message " ++ (decimal message ++ (codes ", welcome " ++ decimal welcome))
reply_text (reply.Dropped true) = codes "dropped"
reply_text (reply.Dropped false) = codes "nothing pending"
reply_text (reply.Delivered done) = effect_text done
reply_text (reply.Joined member epoch) =
    codes "member " ++ (decimal member ++ (codes " at epoch " ++ decimal epoch))
reply_text (reply.Refused number) = refused_text number (refusal_name number)

-- how many deliveries had each kind of reply
abbrev pub tally_text : Tally → List ℕ
tally_text t =
    codes "proposed " ++ (decimal t.proposed ++ (codes ", known " ++ (decimal t.known
    ++ (codes ", advanced " ++ (decimal t.advanced
    ++ (codes ", removed " ++ (decimal t.removed ++ (codes ", refused " ++ decimal t.refused))))))))

-- the text of what an action came to
abbrev pub outcome_text : Outcome → List ℕ
outcome_text (outcome.Reply r) = reply_text r
outcome_text (outcome.Tally t) = tally_text t
