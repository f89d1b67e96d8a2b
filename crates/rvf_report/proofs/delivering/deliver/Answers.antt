use Rattle.rvf_report.proofs.Deliveries.{SoFar-leaves, SoFar-more, SoFar-stops}
use Rattle.rvf_report.proofs.delivering.deliver.Goals as goal

pub returns-in-Err-clause-delivered : goal.returns-in-Err-clause-delivered
returns-in-Err-clause-delivered g c =
    SoFar-stops c.in-Err.fault _ _ _ c.loop-delivery.delivery-index c.args.deliveries.now c.delivery-item.result
    c.loop-delivery-test.true c.delivery-item.is
    c.loop-delivery.invariant c.in-Err.ensures.done

pub returns-in-Err-clause-left : goal.returns-in-Err-clause-left
returns-in-Err-clause-left g c =
    SoFar-leaves c.in-Err.fault _ _ _ c.loop-delivery.delivery-index c.args.deliveries.now c.delivery-item.result
    c.loop-delivery-test.true c.delivery-item.is
    c.loop-delivery.invariant c.in-Err.ensures.done

pub loop-delivery-preserved : goal.loop-delivery-preserved
loop-delivery-preserved g c =
    SoFar-more _ _ _ c.loop-delivery.delivery-index c.args.deliveries.now c.delivery-item.result c.in_default.field-0
    c.loop-delivery-test.true c.delivery-item.is
    c.loop-delivery.invariant c.in_default.ensures.done c.in_default.ensures.counts
