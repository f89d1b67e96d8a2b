use Rattle.std.proofs.Common.{None, refl, length, sym, subst}
use Rattle.std.proofs.lemmas.Option.{slice_get_read}
use Rattle.fv_graph.proofs.Lists.{get_less}
use Rattle.vl_flow_order.specs.Visits.{AreVisits}
use Rattle.vl_flow_order.proofs.Bucketing.{visits_within}
use Rattle.vl_flow_order.proofs.ReadsReading.{reader_settled}
use Rattle.vl_flow_order.proofs.rows.add_reader.Goals as goal

pub add_visits-requires-clause-drivers : goal.add_visits-requires-clause-drivers
add_visits-requires-clause-drivers c =
    λ group j lead. let known = c.requires.buckets.sound group j lead in
    get_less c.args.footprints.now j known.0 known.1

pub add_visits-requires-clause-groups : goal.add_visits-requires-clause-groups
add_visits-requires-clause-groups c =
    visits_within c.args.groups.now c.index-footprints-reader.result.needs c.in_ok-visits.visits.items
    c.as_slice.result.now _ c.in_ok-visits.ensures c.as_slice.ensures.value c.requires.buckets.size

pub returns : goal.returns
returns c =
    let xs = c.args.footprints.now in
    let x = c.index-footprints-reader.result in
    reader_settled c.args.groups.now xs c.args.graph.now.items c.add_visits.new.graph.items c.args.reader x
    c.args.buckets.now c.as_slice.result.now
    (slice_get_read xs (length xs) c.args.reader x refl c.requires.reader c.index-footprints-reader.is)
    c.if-footprint.false c.requires.buckets
    (subst (λ vs. AreVisits c.args.groups.now x.needs vs None) (sym c.as_slice.ensures.value)
    c.in_ok-visits.ensures) c.in_ok-add_visits.ensures
