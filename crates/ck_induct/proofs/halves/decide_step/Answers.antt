use Rattle.std.proofs.lemmas.Result.{IfOk-weaker}
use Rattle.bm_induct.specs.Halves.{IsStepChoice}
use Rattle.bm_induct.specs.StepRuns.{IsStepRun}
use Rattle.ck_induct.proofs.Framed.{of_frames}
use Rattle.ck_induct.proofs.Settling.{settled_by}
use Rattle.ck_induct.proofs.halves.decide_step.Goals as goal

pub returns : goal.returns
returns g c =
    let net = c.args.net.now in
    let made = c.in_ok-clauses.clauses in
    let f = c.in_ok-frames.ensures in
    let both = of_frames net (IsStepChoice net c.args.k) (IsStepRun net c.args.bad c.args.k) c.in_ok-frames.frames made
    c.in_ok-clauses.ensures.same f.sources f.widths f.whole.widths f.distinct f.chosen f.roots f.watch
    c.in_ok-clauses.ensures.places c.in_ok-clauses.ensures.models in
    IfOk-weaker c.settle.result _ _
    (λ verdict s. settled_by net (IsStepChoice net c.args.k) (IsStepRun net c.args.bad c.args.k)
    (g.S.Search.more c.args.search.now c.args.budget) c.args.budget made verdict both.0 both.1 s)
    c.settle.ensures
