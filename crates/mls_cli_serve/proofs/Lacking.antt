-- Words that name neither a job nor a refusal, though clap finds no fault in them, are a mistake.
use Rattle.std.proofs.Common.{◌≡◌, List, Option, Some, None, inl, inr}
use Rattle.clap.specs.Words.{Row, Text}
use Rattle.mls_cli_serve.specs.Arguments.{ComesOf, IsHelp, Lacks}
use Rattle.mls_cli_serve.specs.ExplainArguments.{lacking, told_on}
use Rattle.mls_cli_serve.specs.declared.tasks.NoJob.{NoJob}
use Rattle.mls_cli_serve.specs.declared.tasks.NoJob.TheVariants as no_job

no_help : (asked : Option Text) (found : Option (Text × List Row)) → IsHelp (lacking asked found) → ⊥
no_help None None (inl e) = cc
no_help None None (inr e) = cc
no_help None (Some subcommand) (inl e) = cc
no_help None (Some subcommand) (inr e) = cc
no_help (Some word) found (inl e) = cc
no_help (Some word) found (inr e) = cc

pub lacks : (asked : Option Text) (found : Option (Text × List Row)) (e : NoJob) → told_on asked found ≡ None → ComesOf e (lacking asked found) → Lacks asked found e
lacks asked found (no_job.Shown text) none help = no_help asked found help
lacks asked found (no_job.Mistaken text) none mistake = (none, mistake)
lacks asked found (no_job.Explained n told) none never = absurd never
lacks asked found no_job.OutOfMemory none u = tt
