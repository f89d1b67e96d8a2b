-- Meaning: That each line `pass NAME` that was put has its meaning, by what was read and put in a run. Rule of this
-- project.
use Rattle.std.specs.Prelude.{◌≡◌, ℕ, List, ◌++◌, Some}
use Rattle.std.specs.List.{Contains}
use Rattle.fv_base.specs.declared.event.Event.{Event}
use Rattle.fv_base.specs.declared.event.Event.TheVariants.{Put}
use Rattle.rvf_words.specs.declared.line.Line.TheVariants as words
use Rattle.rvf_words.specs.Line.{line_of}
use Rattle.rvf_checks.specs.CheckLines.{pass_line}
use Rattle.rvf_report.specs.declared.status.Status.{Status}
use Rattle.rvf_core.specs.Pass.{HasPassed}
use Rattle.rvf_core.specs.Run.{Answers, Run}
use Rattle.rvf_core.specs.Tasks.{request}

-- under the words `run CFG OUTDIR` with their options, a line `pass NAME` that was put is of a check that passes
abbrev pub PassesAreMeant : Type 0
PassesAreMeant =
    (status : Status) (r : Run) (cfg outdir core basedir : List ℕ) (budget jobs cubes : ℕ)
    → line_of r.words ≡ Some (words.Run cfg outdir core basedir budget jobs cubes) → Answers status r
    → (reads puts : List Event) → r.now.heard ≡ r.before.heard ++ reads → r.now.taken ≡ r.before.taken ++ puts
    → (name : List ℕ) → Contains puts (Put (pass_line name))
    → HasPassed (request cfg core basedir) r.before.held reads name
