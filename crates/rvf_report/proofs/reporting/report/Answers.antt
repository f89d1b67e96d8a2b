use Rattle.std.proofs.Common.{arith}
use Rattle.rvf_report.proofs.reporting.report.Goals as goal

pub batches-init : goal.batches-init
batches-init g c =
    record {
      within = omega (arith, c.in-Ok.ensures.first);
      tallied = c.in-Ok.ensures.tallied;
      stands = c.in-Ok.ensures.proceeds;
    }

pub batches-preserved : goal.batches-preserved
batches-preserved g c =
    record {
      within = c.in-Ok-deliver_batch.ensures.within;
      tallied = c.in-Ok-deliver_batch.ensures.tallied;
      stands = c.in-Ok-deliver_batch.ensures.proceeds _ c.batches.invariant.stands;
    }

pub batches-smaller : goal.batches-smaller
batches-smaller g c =
    omega (arith, c.in-Ok-deliver_batch.ensures.within, c.in-Ok-deliver_batch.ensures.more)

pub finish-requires-clause-all : goal.finish-requires-clause-all
finish-requires-clause-all g c =
    omega (arith, c.batches.invariant.within, c.batches-test.false, c.size-size.ensures)

pub returns : goal.returns
returns g c = c.finish.ensures _ c.batches.invariant.stands
