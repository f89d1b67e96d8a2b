use Rattle.std.proofs.Common.{ap, sym, ◌∙◌, arith}
use Rattle.std.specs.Option.{is_some}
use Rattle.sat_trail.proofs.Starts.{decided_here, decided_older}
use Rattle.sat_trail.proofs.trail.Trail.has_decision.Goals as goal

pub returns-then-is_none : goal.returns-then-is_none
returns-then-is_none c =
    decided_here c.self.inside.entries.items c.args.self.now c.self.view_is c.loop-place.place c.index.result.now
    c.loop-place-test.true c.loop-place.invariant.0
    (ap (λ e. is_some e.reason) (sym c.index.ensures) ∙ c.if-is_none.ensures) c.loop-place.invariant.1

pub loop-place-preserved : goal.loop-place-preserved
loop-place-preserved c = (
  omega (arith, c.loop-place.invariant.0),
  decided_older c.self.inside.entries.items c.args.self.now c.self.view_is c.loop-place.place c.index.result.now
      c.loop-place-test.true c.loop-place.invariant.0
      (ap (λ e. is_some e.reason) (sym c.index.ensures) ∙ c.if-is_none.ensures) c.loop-place.invariant.1,
)
