use Rattle.std.proofs.Common.{◌≡◌, ◌∙◌, ◌+◌, ◌&&◌, [], ◌∷◌, ap, sym, subst, arith, refl}
use Rattle.std.specs.Prelude.{drop, not}
use Rattle.std.proofs.lemmas.Grind.{common_steps}
use Rattle.vl_elab_spec.specs.Items.{is_localparam}
use Rattle.vl_elab_spec.specs.Meanings.{meanings_at}
use Rattle.vl_elab_scope.specs.Alike.{Alike}
use Rattle.vl_elab_names.specs.Known.{AreNames}
use Rattle.vl_elab_decls.specs.declared.scopes.Inside.{Inside}
use Rattle.vl_elab_params.specs.Reached.{AreAround, IsReached}
use Rattle.vl_elab_check_scope.proofs.Behind.{names_before, one_more, none_yet, all_passed, fault_on, fault_end}
use Rattle.vl_elab_check_scope.proofs.Behind.{fault_start}
use Rattle.vl_elab_check_scope.proofs.parameters.parameters_fault.Goals as goal

pub loop-parameter-init : goal.loop-parameter-init
loop-parameter-init c =
    let all = c.args.all.now in
    record {
      inside = refl;
      earlier = λ before h. subst (AreNames c.args.earlier.now) (none_yet before all) h;
      reached = λ at before same h. subst (IsReached c.args.reached.now at) (none_yet before all) h;
      fault = λ at before same said names reached gives.
          fault_start at c.args.kind (names_before before 0 all) before all _ refl (none_yet before all);
    }

pub loop-parameter-preserved : goal.loop-parameter-preserved
loop-parameter-preserved c =
    let all = c.args.all.now in
    let i = c.loop-parameter.parameter-index in
    let x = c.parameter-item.result in
    let same_inside = c.loop-parameter.invariant.inside in
    let front : drop c.loop-parameter.parameter-index c.args.all.now ≡ c.parameter-item.result
    ∷ drop (c.loop-parameter.parameter-index + 1) c.args.all.now = grind (arith, common_steps) in
    let rest = drop (c.loop-parameter.parameter-index + 1) c.args.all.now in
    record {
      inside = c.in_ok-found.ensures.inside ∙ same_inside;
      earlier = λ before h.
          subst (AreNames c.with_parameter.new.earlier) (one_more before i all x rest front)
          (c.in_ok-found.ensures.earlier (names_before before i all) (c.loop-parameter.invariant.earlier before h));
      reached = λ at before same h.
          subst (IsReached c.with_parameter.new.reached at) (one_more before i all x rest front)
          (c.in_ok-found.ensures.reached at (names_before before i all)
          (subst (λ (i : Inside). Alike i.names (meanings_at at)) (sym same_inside) same)
          (c.loop-parameter.invariant.reached at before same h));
      fault = λ at before same said names reached gives.
          fault_on at c.args.kind (names_before before i all) (names_before before (i + 1) all) x
          (drop i all) rest c.is_given-test.result c.loop-parameter.fault c.in_ok-found.found c.first_of-fault.result _
          front (one_more before i all x rest front)
          (c.in_ok-found.ensures.fault at (names_before before i all)
          (subst (λ (i : Inside). Alike i.names (meanings_at at)) (sym same_inside) same)
          (subst (λ (i : Inside). AreAround i.around at) (sym same_inside) said)
          (c.loop-parameter.invariant.earlier before names)
          (c.loop-parameter.invariant.reached at before same reached))
          (c.is_given-test.ensures ∙ ap (λ b. not (is_localparam c.args.kind) && b) (sym (gives x.name)))
          c.first_of-fault.ensures (c.loop-parameter.invariant.fault at before same said names reached gives);
    }

pub returns-clause-earlier : goal.returns-clause-earlier
returns-clause-earlier c before h =
    let gone : drop c.loop-parameter.parameter-index c.args.all.now ≡ [] = grind (arith, common_steps) in
    subst (AreNames c.loop-parameter.earlier) (all_passed before c.loop-parameter.parameter-index c.args.all.now gone)
    (c.loop-parameter.invariant.earlier before h)

pub returns-clause-reached : goal.returns-clause-reached
returns-clause-reached c at before same h =
    let gone : drop c.loop-parameter.parameter-index c.args.all.now ≡ [] = grind (arith, common_steps) in
    subst (IsReached c.loop-parameter.reached at)
    (all_passed before c.loop-parameter.parameter-index c.args.all.now gone)
    (c.loop-parameter.invariant.reached at before same h)

pub returns-clause-fault : goal.returns-clause-fault
returns-clause-fault c at before same said names reached gives =
    let gone : drop c.loop-parameter.parameter-index c.args.all.now ≡ [] = grind (arith, common_steps) in
    fault_end at c.args.kind (names_before before c.loop-parameter.parameter-index c.args.all.now)
    (drop c.loop-parameter.parameter-index c.args.all.now) c.loop-parameter.fault _ gone
    (c.loop-parameter.invariant.fault at before same said names reached gives)
