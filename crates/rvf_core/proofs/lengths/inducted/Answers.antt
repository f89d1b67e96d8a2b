use Rattle.std.proofs.Common.{◌∙◌}
use Rattle.bm_decide.specs.Searches.{TakesFewer}
use Rattle.ck_cfg.specs.Checks.{checks_of}
use Rattle.rvf_checks.specs.Lengths.{lengths_plan}
use Rattle.rvf_report.specs.Outcome.{outside}
use Rattle.rvf_core.proofs.LengthEndings.{nothing_begun}
use Rattle.rvf_core.proofs.lengths.inducted.Goals as goal

pub returns-in_default-clause-concluded : goal.returns-in_default-clause-concluded
returns-in_default-clause-concluded g c =
    let case = c.args.case.now in
    nothing_begun
    (lengths_plan TakesFewer case (checks_of case.config) c.args.order.now.outdir.now c.args.steps.number
    c.args.order.now.budget)
    (outside (g.F.Files.state c.args.files.now) (g.O.Out.state c.args.out.now))

pub conclude-requires-clause-ready : goal.conclude-requires-clause-ready
conclude-requires-clause-ready g c κs lives =
    (c.requires.ready, c.requires.asked, c.as_slice.ensures ∙ c.in-Ok.ensures, c.requires.budget)
