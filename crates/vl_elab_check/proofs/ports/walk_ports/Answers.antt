use Rattle.std.proofs.Common.{◌≡◌, ◌∙◌, ◌+◌, ◌++◌, [], ◌∷◌, ap, sym, subst, refl, arith}
use Rattle.std.specs.Option.{option_copied}
use Rattle.std.specs.Prelude.{drop, None}
use Rattle.std.proofs.lemmas.Grind.{common_steps}
use Rattle.std.proofs.lemmas.List.{append-nil}
use Rattle.vl_mean.specs.Declarations.{full_port, full_ports}
use Rattle.vl_mean.specs.Walk.{Place, optional_name, port_names, port_step, port_steps, with_earlier}
use Rattle.vl_elab_names.specs.Known.{AreNames}
use Rattle.vl_elab_params.specs.Reached.{IsReached}
use Rattle.vl_elab_check.specs.Left.{AreLeft}
use Rattle.vl_elab_check.proofs.Rest.{found_none, none_found, left_start, left_on, left_stop, left_end, next_steps}
use Rattle.vl_elab_check.proofs.Rest.{next_names}
use Rattle.vl_elab_check.proofs.ports.walk_ports.Goals as goal

pub loop-port-init : goal.loop-port-init
loop-port-init c = record {
  earlier = λ before h. (before, h, refl);
  reached = λ at before same h. (before, h, refl);
  walked = λ ms at u t same names known.
      (at.earlier, names, left_start ms t (port_steps at u None c.args.ports.now) c.args.totals.now known);
}

pub loop-port-preserved : goal.loop-port-preserved
loop-port-preserved c =
    let p = c.port-item.result in
    let inv = c.loop-port.invariant in
    let last = option_copied c.loop-port.last in
    let q = full_port last p.kind in
    let front : drop c.loop-port.port-index c.args.ports.now ≡ c.port-item.result
    ∷ drop (c.loop-port.port-index + 1) c.args.ports.now = grind (arith, common_steps) in
    let rest = drop (c.loop-port.port-index + 1) c.args.ports.now in
    let nothing = found_none c.in_ok-found.found c.is_some.result c.is_some.ensures c.if-is_some.false in
    record {
      earlier = λ before h.
          let old = inv.earlier before h in (
            old.0 ++ optional_name q,
            c.in_ok-found.ensures.earlier old.0 old.1,
            next_names last p.kind (option_copied c.next_full-last.result) old.0 rest c.next_full-last.ensures
                ∙ ap (λ l. old.0 ++ port_names (full_ports last l)) (sym front) ∙ old.2,
          );
      reached = λ at before same h.
          let old = inv.reached at before same h in (
            old.0 ++ optional_name q,
            c.in_ok-found.ensures.reached at old.0 same old.1,
            next_names last p.kind (option_copied c.next_full-last.result) old.0 rest c.next_full-last.ensures
                ∙ ap (λ l. old.0 ++ port_names (full_ports last l)) (sym front) ∙ old.2,
          );
      walked = λ ms at u t same names known.
          let old = inv.walked ms at u t same names known in
          let here : Place = record at { earlier = old.0 } in
          let behind = port_steps (with_earlier here (optional_name q)) u q rest in
          let left = subst (λ l. AreLeft ms t (port_steps at u None c.args.ports.now) c.loop-port.totals
          (port_steps here u last l)) front old.2 in (
            old.0 ++ optional_name q,
            c.in_ok-found.ensures.earlier old.0 old.1,
            subst (AreLeft ms t (port_steps at u None c.args.ports.now) c.walk_port.new.totals)
                (next_steps (with_earlier here (optional_name q)) u last p.kind (option_copied c.next_full-last.result)
                rest c.next_full-last.ensures)
                (left_on ms t (port_steps at u None c.args.ports.now) c.loop-port.totals c.walk_port.new.totals
                (port_step here u p q) behind c.in_ok-found.found
                left
                (c.in_ok-found.ensures.walked ms here u left.now same old.1 left.known) nothing),
          );
    }

pub returns-then-is_some-clause-walked : goal.returns-then-is_some-clause-walked
returns-then-is_some-clause-walked c ms at u t same names known =
    let p = c.port-item.result in
    let last = option_copied c.loop-port.last in
    let q = full_port last p.kind in
    let front : drop c.loop-port.port-index c.args.ports.now ≡ c.port-item.result
    ∷ drop (c.loop-port.port-index + 1) c.args.ports.now = grind (arith, common_steps) in
    let rest = drop (c.loop-port.port-index + 1) c.args.ports.now in
    let old = c.loop-port.invariant.walked ms at u t same names known in
    let here : Place = record at { earlier = old.0 } in
    let behind = port_steps (with_earlier here (optional_name q)) u q rest in
    let left = subst (λ l. AreLeft ms t (port_steps at u None c.args.ports.now) c.loop-port.totals
    (port_steps here u last l)) front old.2 in
    left_stop ms t (port_steps at u None c.args.ports.now) c.loop-port.totals c.walk_port.new.totals
    (port_step here u p q) behind c.in_ok-found.found left
    (c.in_ok-found.ensures.walked ms here u left.now same old.1 left.known) (sym c.is_some.ensures ∙ c.if-is_some.true)

pub returns-then-is_some-clause-earlier : goal.returns-then-is_some-clause-earlier
returns-then-is_some-clause-earlier c e =
    absurd (none_found c.in_ok-found.found c.is_some.result c.is_some.ensures c.if-is_some.true e)

pub returns-then-is_some-clause-reached : goal.returns-then-is_some-clause-reached
returns-then-is_some-clause-reached c e =
    absurd (none_found c.in_ok-found.found c.is_some.result c.is_some.ensures c.if-is_some.true e)

pub returns-clause-walked : goal.returns-clause-walked
returns-clause-walked c ms at u t same names known =
    let gone : drop c.loop-port.port-index c.args.ports.now ≡ [] = grind (arith, common_steps) in
    let old = c.loop-port.invariant.walked ms at u t same names known in
    left_end ms t (port_steps at u None c.args.ports.now) c.loop-port.totals
    (port_steps (record at { earlier = old.0 }) u (option_copied c.loop-port.last)
    (drop c.loop-port.port-index c.args.ports.now))
    (ap (λ l. port_steps (record at { earlier = old.0 }) u (option_copied c.loop-port.last) l) gone) old.2

pub returns-clause-earlier : goal.returns-clause-earlier
returns-clause-earlier c e before h =
    let gone : drop c.loop-port.port-index c.args.ports.now ≡ [] = grind (arith, common_steps) in
    let old = c.loop-port.invariant.earlier before h in
    subst (AreNames c.loop-port.earlier) (sym (append-nil old.0)
    ∙ ap (λ l. old.0 ++ port_names (full_ports (option_copied c.loop-port.last) l)) (sym gone) ∙ old.2) old.1

pub returns-clause-reached : goal.returns-clause-reached
returns-clause-reached c e at before same h =
    let gone : drop c.loop-port.port-index c.args.ports.now ≡ [] = grind (arith, common_steps) in
    let old = c.loop-port.invariant.reached at before same h in
    subst (IsReached c.loop-port.reached at) (sym (append-nil old.0)
    ∙ ap (λ l. old.0 ++ port_names (full_ports (option_copied c.loop-port.last) l)) (sym gone) ∙ old.2) old.1
