use Rattle.std.proofs.Common.{◌≡◌, ◌∙◌, Err, Result, ap, arith, length, rules, subst, sym}
use Rattle.std.specs.Prelude.{IfErr}
use Rattle.vl_flow.specs.declared.ordered.Ordered.{Ordered}
use Rattle.vl_flow_order.specs.Found.{Tells}
use Rattle.vl_flow.specs.declared.fault.FlowFault.{FlowFault}
use Rattle.vl_flow.specs.declared.fault.FlowFault.TheVariants as f
use Rattle.vl_flow.specs.Faults.{Answers, IsAnswer}
use Rattle.vl_flow.proofs.Analysing.{few_drivers, told_of}
use Rattle.vl_flow.proofs.Judging.{loop_answered}
use Rattle.vl_flow.proofs.ordering.order.Goals as goal

pub returns-in_err-analysis-clause-each_fault : goal.returns-in_err-analysis-clause-each_fault
returns-in_err-analysis-clause-each_fault c fault is =
    let left : c.from_residual.result ≡ Err f.Memory = search rules in
    subst (λ (r : Result Ordered FlowFault). Answers r fault) (sym left) tt

pub returns-in_err-analysis-clause-refused : goal.returns-in_err-analysis-clause-refused
returns-in_err-analysis-clause-refused c =
    let left : c.from_residual.result ≡ Err f.Memory = search rules in
    subst (λ (r : Result Ordered FlowFault). IfErr r (IsAnswer c.args.flat.decls c.args.flat.drivers)) (sym left) tt

pub sequence_of-requires-clause-size : goal.sequence_of-requires-clause-size
sequence_of-requires-clause-size c =
    let one : c.as_slice-footprints.result.now ≡ c.in_ok-analysis.analysis.layout.footprints = search rules in
    let other : c.as_slice.result.now ≡ c.args.flat.drivers = search rules in
    ap length one ∙ c.in_ok-analysis.ensures.layout_is.footprints.size ∙ sym (ap length other)

pub sequence_of-requires-clause-few : goal.sequence_of-requires-clause-few
sequence_of-requires-clause-few c =
    let one : c.as_slice-footprints.result.now ≡ c.in_ok-analysis.analysis.layout.footprints = search rules in
    let same : length c.as_slice-footprints.result.now ≡ length c.args.flat.drivers =
    ap length one ∙ c.in_ok-analysis.ensures.layout_is.footprints.size in
    let few = few_drivers c.args.flat.drivers c.args.flat.starts in
    let nodes = c.args.flat.lawful.few_nodes in
    omega (arith, same, few, nodes)

pub returns-in_err-places-clause-each_fault : goal.returns-in_err-places-clause-each_fault
returns-in_err-places-clause-each_fault c fault is =
    let left : c.from_residual-in_err-places.result ≡ Err f.Memory =
    search (rules, c.from_residual-in_err-places.ensures) in
    subst (λ (r : Result Ordered FlowFault). Answers r fault) (sym left) tt

pub returns-in_err-places-clause-refused : goal.returns-in_err-places-clause-refused
returns-in_err-places-clause-refused c =
    let left : c.from_residual-in_err-places.result ≡ Err f.Memory =
    search (rules, c.from_residual-in_err-places.ensures) in
    subst (λ (r : Result Ordered FlowFault). IfErr r (IsAnswer c.args.flat.decls c.args.flat.drivers)) (sym left) tt

pub returns-in-Loop-clause-refused : goal.returns-in-Loop-clause-refused
returns-in-Loop-clause-refused c =
    let ds = c.args.flat.decls in
    let drivers = c.args.flat.drivers in
    let layout = c.in_ok-analysis.analysis.layout in
    let one : c.as_slice-footprints.result.now ≡ layout.footprints = search rules in
    let other : c.as_slice.result.now ≡ drivers = search rules in
    let told = told_of ds layout.groups layout.footprints c.as_slice-footprints.result.now drivers c.as_slice.result.now
    c.in_ok-places.field-0 one other c.in_ok-analysis.ensures.layout_is.footprints (c.in_ok-places.ensures ds) in
    subst (Tells ds drivers) c.in-Loop.is told

pub returns-in-Loop-clause-each_fault : goal.returns-in-Loop-clause-each_fault
returns-in-Loop-clause-each_fault c =
    let ds = c.args.flat.decls in
    let drivers = c.args.flat.drivers in
    let layout = c.in_ok-analysis.analysis.layout in
    let one : c.as_slice-footprints.result.now ≡ layout.footprints = search rules in
    let other : c.as_slice.result.now ≡ drivers = search rules in
    let told = told_of ds layout.groups layout.footprints c.as_slice-footprints.result.now drivers c.as_slice.result.now
    c.in_ok-places.field-0 one other c.in_ok-analysis.ensures.layout_is.footprints (c.in_ok-places.ensures ds) in
    loop_answered ds drivers c.in-Loop.places (subst (Tells ds drivers) c.in-Loop.is told)

pub judged-requires-clause-analysis : goal.judged-requires-clause-analysis
judged-requires-clause-analysis c = c.in_ok-analysis.ensures

pub judged-requires-clause-in_order : goal.judged-requires-clause-in_order
judged-requires-clause-in_order c =
    let ds = c.args.flat.decls in
    let drivers = c.args.flat.drivers in
    let layout = c.in_ok-analysis.analysis.layout in
    let one : c.as_slice-footprints.result.now ≡ layout.footprints = search rules in
    let other : c.as_slice.result.now ≡ drivers = search rules in
    let told = told_of ds layout.groups layout.footprints c.as_slice-footprints.result.now drivers c.as_slice.result.now
    c.in_ok-places.field-0 one other c.in_ok-analysis.ensures.layout_is.footprints (c.in_ok-places.ensures ds) in
    subst (Tells ds drivers) c.in-InOrder.is told
