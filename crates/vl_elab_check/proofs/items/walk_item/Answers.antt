use Rattle.std.proofs.Common.{◌∙◌, ◌++◌, sym, subst}
use Rattle.std.specs.Prelude.{drop}
use Rattle.vl_mean.specs.Walk.{item, with_earlier}
use Rattle.vl_elab_spec.specs.Meanings.{item_names, meanings_at}
use Rattle.vl_elab_scope.specs.Alike.{Alike}
use Rattle.vl_elab_const.specs.Numbers.{HaveNumbers}
use Rattle.vl_elab_params.specs.Reached.{IsReached}
use Rattle.vl_elab_check.specs.Here.{IsAt, own_parameters}
use Rattle.vl_elab_check.specs.Standing.{IsHere}
use Rattle.vl_elab_check.proofs.ItemKinds.{all_own}
use Rattle.vl_elab_check.proofs.Places.{goes_past, same_inside}
use Rattle.vl_elab_check.proofs.items.walk_item.Goals as goal

pub returns-clause-inside : goal.returns-clause-inside
returns-clause-inside c =
    same_inside c.args.inside.now c.item_fault.new.inside
    (c.in_ok-fault.ensures.names ∙ c.in_ok-pos.ensures.names ∙ c.in_ok-added.ensures.meanings)
    (c.in_ok-fault.ensures.numbers ∙ c.in_ok-pos.ensures.numbers ∙ c.in_ok-added.ensures.numbers)
    c.in_ok-fault.ensures.clocks c.in_ok-fault.ensures.around

pub returns-clause-here : goal.returns-clause-here
returns-clause-here c at h =
    let x = c.args.item.now in
    let new = record c.item_fault.new.here { reached = c.pass_declared.new.reached } in
    let alike = subst (λ ns. Alike ns (meanings_at at))
    (sym (c.in_ok-pos.ensures.names ∙ c.in_ok-added.ensures.meanings)) h.known.alike in
    subst (λ inside. IsHere inside new c.args.walk.now.path (with_earlier at (item_names x)))
    (sym (returns-clause-inside c))
    (goes_past c.args.inside.now c.args.here.now c.args.walk.now.path at (item_names x) new c.in_ok-fault.ensures.given h
    (c.in_ok-fault.ensures.earlier at.earlier h.known.before)
    (subst (IsReached c.pass_declared.new.reached at) (all_own x at.earlier)
    (c.in_ok-pass_declared.ensures at (at.earlier ++ own_parameters x)
    (subst (λ ns. Alike ns (meanings_at at)) (sym c.in_ok-fault.ensures.names) alike)
    (c.in_ok-fault.ensures.reached at at.earlier alike h.known.parameters))))

pub returns-clause-walked : goal.returns-clause-walked
returns-clause-walked c at t h known =
    let x = c.args.item.now in
    let before = c.args.here.now in
    let here = h.known in
    let nodes = c.in_ok-added.ensures.nodes at here.alike here.constants in
    let names = c.in_ok-added.ensures.names at.around here.shapes in
    let place = c.in_ok-pos.ensures.place at t
    (subst (λ ns. Alike ns (meanings_at at)) (sym c.in_ok-added.ensures.meanings) here.alike)
    (subst (λ ns. HaveNumbers ns at.scopes) (sym c.in_ok-added.ensures.numbers) here.constants)
    (subst (λ ns. HaveNumbers (drop 1 ns) at.around) (sym c.in_ok-added.ensures.numbers) here.shapes) nodes names known in
    let still = subst (λ ms. IsAt ms c.item_place.new.numbers before.earlier before.reached before.given at)
    (sym (c.in_ok-pos.ensures.names ∙ c.in_ok-added.ensures.meanings))
    (subst (λ ns. IsAt c.args.inside.now.names ns before.earlier before.reached before.given at)
    (sym (c.in_ok-pos.ensures.numbers ∙ c.in_ok-added.ensures.numbers)) here) in
    c.weighed.ensures c.args.source.now.modules.now (item at x) t (c.in_ok-fault.ensures.fault at still h.within.around h.within.modules) nodes
    names place known
