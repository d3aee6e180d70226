-- What is said of a file's text on the errors, though nothing failed.
use Rattle.std.specs.Prelude.{◌≡◌, ◌⊎◌, ◌++◌, ◌==◌, ◌&&◌, ℕ, Bool, true, false, List, [], Option}
use Rattle.mls_cli_text.specs.declared.output.Out.{Out}
use Rattle.mls_cli_serve.specs.declared.tasks.Job.{Job}
use Rattle.mls_cli_serve.specs.declared.tasks.Job.TheVariants as job
use Rattle.mls_cli_serve.specs.declared.tasks.Request.{Request}
use Rattle.mls_cli_serve.specs.Hints.{hint}
use Rattle.mls_cli_serve.specs.Places.{IsPlaceText}
use Rattle.mls_cli_serve.specs.Saying.{Says}

-- without being asked for
abbrev pub job_hint : Job → List ℕ → List ℕ
job_hint (job.Show file form detail layout) text = hint form text
job_hint (job.Check file form suite signatures group layout) text = hint form text
job_hint (job.CheckGroupInfo file form signatures layout) text = hint form text
job_hint (job.Draw file form source drawing) text = hint form text
job_hint (job.Replay file suite view progress) text = []
job_hint (job.DrawMember file suite member drawing progress) text = []
job_hint (job.Vectors file) text = []

-- where content is refused, and that is asked for
abbrev pub asks_for_place : Request → ℕ → Bool
asks_for_place r status = r.asks_where && (status == 1)

-- the hint, and behind it the place
abbrev pub IsRemarkWithPlace : Job → List ℕ → List ℕ → Type 0
IsRemarkWithPlace j text said =
    (place : List ℕ) × IsPlaceText j text place × (said ≡ job_hint j text ++ place)

-- by whether the place is asked for: the hint alone, where memory is wanting for the place
abbrev pub IsRemark : Bool → Job → List ℕ → List ℕ → Type 0
IsRemark true j text said = IsRemarkWithPlace j text said ⊎ (said ≡ job_hint j text)
IsRemark false j text said = said ≡ job_hint j text

-- such a remark is said
abbrev pub SaysRemark : {E : Type 0} → (E → Option (List ℕ)) → Bool → Job → List ℕ → Out E → Out E
    → Type 0
SaysRemark contents asked j text old new =
    (said : List ℕ) × IsRemark asked j text said × Says contents old new said
