use Rattle.std.proofs.Common.{◌≡◌, ◌∙◌, ◌+◌, ◌++◌, [], ◌∷◌, ap, sym, subst, refl, arith}
use Rattle.std.specs.Prelude.{drop}
use Rattle.std.proofs.lemmas.Grind.{common_steps}
use Rattle.std.proofs.lemmas.List.{append_assoc, append-nil}
use Rattle.vl_mean.specs.Declarations.{header_parameters}
use Rattle.vl_mean.specs.Walk.{Place, header, header_steps, parameter_names, with_earlier}
use Rattle.vl_elab_spec.specs.Meanings.{meanings_at}
use Rattle.vl_elab_scope.specs.Alike.{Alike}
use Rattle.vl_elab_names.specs.Known.{AreNames}
use Rattle.vl_elab_params.specs.Reached.{AreAround, IsReached}
use Rattle.vl_elab_decls.specs.declared.scopes.Inside.{Inside}
use Rattle.vl_elab_check.specs.Left.{AreLeft}
use Rattle.vl_elab_check.proofs.Rest.{found_none, none_found, left_start, left_on, left_stop, left_end}
use Rattle.vl_elab_check.proofs.headers.walk_headers.Goals as goal

pub loop-parameter-init : goal.loop-parameter-init
loop-parameter-init c = record {
  inside = refl;
  earlier = λ before h. (before, h, refl);
  reached = λ at before same h. (before, h, refl);
  walked = λ ms at t same said names reached gives known. (
    at.earlier,
    names,
    reached,
    left_start ms t (header_steps at (header_parameters c.args.parameters.now))
        c.args.totals.now known,
  );
}

pub loop-parameter-preserved : goal.loop-parameter-preserved
loop-parameter-preserved c =
    let x = c.parameter-item.result.parameter in
    let inv = c.loop-parameter.invariant in
    let same_inside = inv.inside in
    let all = header_parameters c.args.parameters.now in
    let front : drop c.loop-parameter.parameter-index c.args.parameters.now ≡ c.parameter-item.result
    ∷ drop (c.loop-parameter.parameter-index + 1) c.args.parameters.now = grind (arith, common_steps) in
    let rest = header_parameters (drop (c.loop-parameter.parameter-index + 1) c.args.parameters.now) in
    let nothing = found_none c.in_ok-found.found c.is_some.result c.is_some.ensures c.if-is_some.false in
    record {
      inside = c.in_ok-found.ensures.inside ∙ same_inside;
      earlier = λ before h.
          let old = inv.earlier before h in (
            old.0 ++ x.name ∷ [],
            c.in_ok-found.ensures.earlier old.0 old.1,
            append_assoc old.0 (x.name ∷ []) (parameter_names rest)
                ∙ ap (λ l. old.0 ++ parameter_names (header_parameters l)) (sym front) ∙ old.2,
          );
      reached = λ at before same h.
          let old = inv.reached at before same h in (
            old.0 ++ x.name ∷ [],
            c.in_ok-found.ensures.reached at old.0 (subst (λ (i : Inside). Alike i.names (meanings_at at)) (sym same_inside) same)
                old.1,
            append_assoc old.0 (x.name ∷ []) (parameter_names rest)
                ∙ ap (λ l. old.0 ++ parameter_names (header_parameters l)) (sym front) ∙ old.2,
          );
      walked = λ ms at t same said names reached gives known.
          let old = inv.walked ms at t same said names reached gives known in
          let here : Place = record at { earlier = old.0 } in
          let alike = subst (λ (i : Inside). Alike i.names (meanings_at at)) (sym same_inside) same in
          let left = subst (λ l. AreLeft ms t (header_steps at all) c.loop-parameter.totals
          (header_steps here (header_parameters l))) front old.3 in (
            old.0 ++ x.name ∷ [],
            c.in_ok-found.ensures.earlier old.0 old.1,
            c.in_ok-found.ensures.reached at old.0 alike old.2,
            left_on ms t (header_steps at all) c.loop-parameter.totals c.walk_header.new.totals
                (header here x ∷ []) (header_steps (with_earlier here (x.name ∷ [])) rest) c.in_ok-found.found left
                (c.in_ok-found.ensures.walked ms here left.now alike
                (subst (λ (i : Inside). AreAround i.around at) (sym inv.inside) said) old.1 old.2 gives left.known) nothing,
          );
    }

pub returns-then-is_some-clause-walked : goal.returns-then-is_some-clause-walked
returns-then-is_some-clause-walked c ms at t same said names reached gives known =
    let x = c.parameter-item.result.parameter in
    let inv = c.loop-parameter.invariant in
    let all = header_parameters c.args.parameters.now in
    let front : drop c.loop-parameter.parameter-index c.args.parameters.now ≡ c.parameter-item.result
    ∷ drop (c.loop-parameter.parameter-index + 1) c.args.parameters.now = grind (arith, common_steps) in
    let rest = header_parameters (drop (c.loop-parameter.parameter-index + 1) c.args.parameters.now) in
    let old = inv.walked ms at t same said names reached gives known in
    let here : Place = record at { earlier = old.0 } in
    let alike = subst (λ (i : Inside). Alike i.names (meanings_at at)) (sym inv.inside) same in
    let left = subst (λ l. AreLeft ms t (header_steps at all) c.loop-parameter.totals
    (header_steps here (header_parameters l))) front old.3 in
    left_stop ms t (header_steps at all) c.loop-parameter.totals c.walk_header.new.totals (header here x ∷ [])
    (header_steps (with_earlier here (x.name ∷ [])) rest) c.in_ok-found.found left
    (c.in_ok-found.ensures.walked ms here left.now alike
    (subst (λ (i : Inside). AreAround i.around at) (sym inv.inside) said) old.1 old.2 gives left.known)
    (sym c.is_some.ensures ∙ c.if-is_some.true)

pub returns-then-is_some-clause-earlier : goal.returns-then-is_some-clause-earlier
returns-then-is_some-clause-earlier c e =
    absurd (none_found c.in_ok-found.found c.is_some.result c.is_some.ensures c.if-is_some.true e)

pub returns-then-is_some-clause-reached : goal.returns-then-is_some-clause-reached
returns-then-is_some-clause-reached c e =
    absurd (none_found c.in_ok-found.found c.is_some.result c.is_some.ensures c.if-is_some.true e)

pub returns-clause-walked : goal.returns-clause-walked
returns-clause-walked c ms at t same said names reached gives known =
    let gone : drop c.loop-parameter.parameter-index c.args.parameters.now ≡ [] = grind (arith, common_steps) in
    let old = c.loop-parameter.invariant.walked ms at t same said names reached gives known in
    left_end ms t (header_steps at (header_parameters c.args.parameters.now)) c.loop-parameter.totals
    (header_steps (record at { earlier = old.0 })
    (header_parameters (drop c.loop-parameter.parameter-index c.args.parameters.now)))
    (ap (λ l. header_steps (record at { earlier = old.0 }) (header_parameters l)) gone) old.3

pub returns-clause-earlier : goal.returns-clause-earlier
returns-clause-earlier c e at same said names reached gives =
    let gone : drop c.loop-parameter.parameter-index c.args.parameters.now ≡ [] = grind (arith, common_steps) in
    let old = c.loop-parameter.invariant.earlier at.earlier names in
    subst (AreNames c.loop-parameter.earlier) (sym (append-nil old.0)
    ∙ ap (λ l. old.0 ++ parameter_names (header_parameters l)) (sym gone) ∙ old.2) old.1

pub returns-clause-reached : goal.returns-clause-reached
returns-clause-reached c e at same said names reached gives =
    let gone : drop c.loop-parameter.parameter-index c.args.parameters.now ≡ [] = grind (arith, common_steps) in
    let old = c.loop-parameter.invariant.reached at at.earlier same reached in
    subst (IsReached c.loop-parameter.reached at) (sym (append-nil old.0)
    ∙ ap (λ l. old.0 ++ parameter_names (header_parameters l)) (sym gone) ∙ old.2) old.1
