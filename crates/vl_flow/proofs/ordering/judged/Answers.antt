use Rattle.std.proofs.Common.{◌≡◌, ◌∙◌, Err, List, None, Result, ap, rules, subst, sym}
use Rattle.std.specs.Prelude.{All, IfErr}
use Rattle.vl_mean.specs.FlatLaw.{IsDriver}
use Rattle.vl_mean.specs.declared.driver.Driver.{Driver}
use Rattle.vl_flow.specs.declared.ordered.Ordered.{Ordered}
use Rattle.vl_flow.specs.declared.fault.FlowFault.{FlowFault}
use Rattle.vl_flow.specs.declared.fault.FlowFault.TheVariants as f
use Rattle.vl_flow.specs.Analyses.{IsAnalysisOf}
use Rattle.vl_flow.specs.Faults.{Answers, IsAnswer, later_fault}
use Rattle.vl_flow.proofs.Judging.{answer_is, later_answered, none_answered, none_refused}
use Rattle.vl_flow.proofs.ordering.judged.Goals as goal

pub later_fault-requires-clause-analysis : goal.later_fault-requires-clause-analysis
later_fault-requires-clause-analysis c =
    let slice : c.as_slice-drivers.result.now ≡ c.args.flat.drivers = search rules in
    subst (λ (xs : List Driver). IsAnalysisOf c.args.flat.decls xs c.args.analysis.now) (sym slice) c.requires.analysis

pub later_fault-requires-clause-driven : goal.later_fault-requires-clause-driven
later_fault-requires-clause-driven c =
    let slice : c.as_slice-drivers.result.now ≡ c.args.flat.drivers = search rules in
    subst (λ (xs : List Driver). All (λ x. IsDriver c.args.flat.decls x.what) xs) (sym slice) c.args.flat.lawful.driven

pub later_fault-requires-clause-kept : goal.later_fault-requires-clause-kept
later_fault-requires-clause-kept c = c.args.flat.lawful.kept

pub returns-in_err-fault-clause-each_fault : goal.returns-in_err-fault-clause-each_fault
returns-in_err-fault-clause-each_fault c fault is =
    let left : c.from_residual.result ≡ Err f.Memory = search rules in
    subst (λ (r : Result Ordered FlowFault). Answers r fault) (sym left) tt

pub returns-in_err-fault-clause-refused : goal.returns-in_err-fault-clause-refused
returns-in_err-fault-clause-refused c =
    let left : c.from_residual.result ≡ Err f.Memory = search rules in
    subst (λ (r : Result Ordered FlowFault). IfErr r (IsAnswer c.args.flat.decls c.args.flat.drivers)) (sym left) tt

pub returns-in-Some-clause-refused : goal.returns-in-Some-clause-refused
returns-in-Some-clause-refused c =
    let ds = c.args.flat.decls in
    let drivers = c.args.flat.drivers in
    let slice : c.as_slice-drivers.result.now ≡ drivers = search rules in
    answer_is ds drivers c.in-Some.fault (c.an_order_has_no_loop.ensures ds drivers c.args.sequence c.requires.in_order)
    (sym (ap (λ xs. later_fault ds xs) slice) ∙ sym c.in_ok-fault.ensures ∙ c.in-Some.is)

pub returns-in-Some-clause-each_fault : goal.returns-in-Some-clause-each_fault
returns-in-Some-clause-each_fault c =
    let ds = c.args.flat.decls in
    let drivers = c.args.flat.drivers in
    let slice : c.as_slice-drivers.result.now ≡ drivers = search rules in
    later_answered ds drivers c.in-Some.fault
    (c.an_order_has_no_loop.ensures ds drivers c.args.sequence c.requires.in_order)
    (sym (ap (λ xs. later_fault ds xs) slice) ∙ sym c.in_ok-fault.ensures ∙ c.in-Some.is)

pub returns-in_err-weight-clause-each_fault : goal.returns-in_err-weight-clause-each_fault
returns-in_err-weight-clause-each_fault c fault is =
    let left : c.from_residual-in_err-weight.result ≡ Err f.Memory = search rules in
    subst (λ (r : Result Ordered FlowFault). Answers r fault) (sym left) tt

pub returns-in_err-weight-clause-refused : goal.returns-in_err-weight-clause-refused
returns-in_err-weight-clause-refused c =
    let left : c.from_residual-in_err-weight.result ≡ Err f.Memory = search rules in
    subst (λ (r : Result Ordered FlowFault). IfErr r (IsAnswer c.args.flat.decls c.args.flat.drivers)) (sym left) tt

pub invariant_of-result : goal.invariant_of-result
invariant_of-result c =
    let ds = c.args.flat.decls in
    let drivers = c.args.flat.drivers in
    let slice : c.as_slice-drivers.result.now ≡ drivers = search rules in
    let none : c.in_ok-fault.field-0 ≡ None = search (rules, c.in_default.is) in record {
      accepted = none_refused ds drivers
          (c.an_order_has_no_loop.ensures ds drivers c.args.sequence c.requires.in_order)
          (sym (ap (λ xs. later_fault ds xs) slice) ∙ sym c.in_ok-fault.ensures ∙ none);
      in_order = c.requires.in_order;
      weighed = c.in_ok-weight.ensures;
    }

pub returns-clause-each_fault : goal.returns-clause-each_fault
returns-clause-each_fault c fault is =
    let ds = c.args.flat.decls in
    let drivers = c.args.flat.drivers in
    let slice : c.as_slice-drivers.result.now ≡ drivers = search rules in
    let none : c.in_ok-fault.field-0 ≡ None = search (rules, c.in_default.is) in
    none_answered ds drivers (c.an_order_has_no_loop.ensures ds drivers c.args.sequence c.requires.in_order)
    (sym (ap (λ xs. later_fault ds xs) slice) ∙ sym c.in_ok-fault.ensures ∙ none) fault is
