use Rattle.std.proofs.Common.{subst, refl, length}
use Rattle.std.proofs.lemmas.Option.{slice_get_read}
use Rattle.vl_flow_order.specs.Edges.{HasNoEdges}
use Rattle.vl_flow_order.proofs.Bucketing.{no_buckets, one_bucket_more}
use Rattle.vl_flow_order.proofs.buckets.buckets_of.Goals as goal

pub loop-driver-init : goal.loop-driver-init
loop-driver-init c =
    no_buckets c.args.groups.now c.args.footprints.now c.in_ok-buckets.buckets.items
    (subst (λ n. HasNoEdges n c.in_ok-buckets.buckets.items) c.len.ensures c.in_ok-buckets.ensures)

pub loop-driver-preserved : goal.loop-driver-preserved
loop-driver-preserved c =
    let xs = c.args.footprints.now in
    let x = c.index-footprints-driver.result in
    one_bucket_more c.args.groups.now xs c.loop-driver.driver x c.loop-driver.buckets.items
    c.add_settled.new.buckets.items
    (slice_get_read xs (length xs) c.loop-driver.driver x refl c.loop-driver-test.true
    c.index-footprints-driver.is) c.loop-driver.invariant c.in_ok-add_settled.ensures
