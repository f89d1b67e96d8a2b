use Rattle.std.specs.Prelude.{◌≡◌, refl, List, [], ◌∷◌, drop}
use Rattle.std.proofs.Common.{ap, sym, ◌∙◌, subst}
use Rattle.std.proofs.lemmas.Result.{on_ok_weaker}
use Rattle.vl_tree.specs.Item.{items}
use Rattle.vl_mean.specs.Declarations.{with_constants}
use Rattle.vl_mean.specs.Walk.{block_place}
use Rattle.vl_elab_spec.specs.Meanings.{items_names, meanings_at, meanings_before}
use Rattle.vl_elab_scope.specs.Seen.{innermost}
use Rattle.vl_elab_params.specs.Reached.{AreAround}
use Rattle.vl_elab_params.specs.Shadows.{with_shadows}
use Rattle.vl_elab_params.proofs.Law.{laid_alike}
use Rattle.vl_elab_const.specs.Numbers.{HaveNumbers}
use Rattle.vl_elab_decls.proofs.StandWhole.{block_use, block_inputs, block_contents, block_scope, shapes_meant}
use Rattle.vl_elab_decls.proofs.StandWhole.{block_declared, block_entered, parameters_alike}
use Rattle.vl_elab_decls.proofs.Shadowed.{block_said}
use Rattle.vl_elab_decls.proofs.Stacks.{same_numbers}
use Rattle.vl_elab_decls.proofs.scopes.enter_block.Goals as goal

pub returns-clause-around : goal.returns-clause-around
returns-clause-around c =
    on_ok_weaker c.enter.result (λ e. ap (drop 1) e ∙ c.in_ok-enter_own.ensures.around) c.enter.ensures.ok

pub returns-clause-names : goal.returns-clause-names
returns-clause-names c =
    on_ok_weaker c.enter.result (λ e. ap (drop 2) c.in_ok-enter_objects.ensures.stack
    ∙ ap (drop 2) c.in_ok-enter_own.ensures.names) c.enter.ensures.ok

pub returns-clause-numbers : goal.returns-clause-numbers
returns-clause-numbers c =
    on_ok_weaker c.enter.result (λ e. ap (drop 2) c.in_ok-hide.ensures ∙ c.in_ok-enter_own.ensures.numbers)
    c.enter.ensures.ok

pub returns-clause-inside : goal.returns-clause-inside
returns-clause-inside c =
    on_ok_weaker c.enter.result (λ e. subst (λ ns. ns ≡ innermost ns ∷ drop 1 ns) (sym c.in_ok-hide.ensures) refl)
    c.enter.ensures.ok

pub returns-clause-stands : goal.returns-clause-stands
returns-clause-stands c =
    on_ok_weaker c.enter.result (λ e at path clocks said prior plain.
    let xs = items c.args.all.now in
    let s = block_scope at path xs in
    let laid = laid_alike at at.earlier c.args.around.now c.args.names.now said prior.alike in
    let own = c.in_ok-enter_own.ensures.own s (meanings_before at at.earlier) at.scopes laid prior.numbers refl in
    let alike = parameters_alike s (meanings_before at at.earlier) (meanings_at at) (block_contents at path xs)
    c.enter_own.new.names c.args.names.now (innermost c.enter_own.new.numbers) c.in_ok-enter_own.ensures.names own
    c.in_ok-enter_own.ensures.behind prior.alike in
    block_entered at path xs clocks c.args.names.now c.enter_own.new.names c.enter_objects.new.names
    c.args.numbers.now c.enter_own.new.numbers c.hide.new.numbers prior
    (ap (drop 2) c.in_ok-enter_own.ensures.names) c.in_ok-enter_own.ensures.numbers own
    c.in_ok-enter_objects.ensures.stack
    (c.in_ok-enter_objects.ensures.shaped s (meanings_at at) (shapes_meant at path xs)
    (with_constants s.constants at.scopes) block_use block_inputs alike
    (block_declared at path xs plain clocks c.args.names.now c.args.numbers.now prior
    (innermost c.enter_own.new.names) (innermost c.enter_own.new.numbers) own)) c.in_ok-hide.ensures)
    c.enter.ensures.ok

pub returns-clause-shapes : goal.returns-clause-shapes
returns-clause-shapes c =
    on_ok_weaker c.enter.result (λ e at path clocks said prior.
    let xs = items c.args.all.now in
    let s = block_scope at path xs in
    let laid = laid_alike at at.earlier c.args.around.now c.args.names.now said prior.alike in
    subst (λ ns. HaveNumbers ns (with_constants s.constants at.scopes)) (sym (ap (drop 1) c.in_ok-hide.ensures))
    (same_numbers c.enter_own.new.numbers (with_constants s.constants at.scopes)
    (c.in_ok-enter_own.ensures.constants s (meanings_before at at.earlier) at.scopes laid prior.numbers refl)))
    c.enter.ensures.ok

pub returns-clause-parameters : goal.returns-clause-parameters
returns-clause-parameters c =
    on_ok_weaker c.enter.result (λ e at path clocks said prior plain.
    let xs = items c.args.all.now in
    let s = block_scope at path xs in
    let laid = laid_alike at at.earlier c.args.around.now c.args.names.now said prior.alike in
    let own = c.in_ok-enter_own.ensures.own s (meanings_before at at.earlier) at.scopes laid prior.numbers refl in
    let alike = parameters_alike s (meanings_before at at.earlier) (meanings_at at) (block_contents at path xs)
    c.enter_own.new.names c.args.names.now (innermost c.enter_own.new.numbers) c.in_ok-enter_own.ensures.names own
    c.in_ok-enter_own.ensures.behind prior.alike in
    let shaped = c.in_ok-enter_objects.ensures.shaped s (meanings_at at) (shapes_meant at path xs)
    (with_constants s.constants at.scopes) block_use block_inputs alike
    (block_declared at path xs plain clocks c.args.names.now c.args.numbers.now prior
    (innermost c.enter_own.new.names) (innermost c.enter_own.new.numbers) own) in
    let stands = block_entered at path xs clocks c.args.names.now c.enter_own.new.names c.enter_objects.new.names
    c.args.numbers.now c.enter_own.new.numbers c.hide.new.numbers prior
    (ap (drop 2) c.in_ok-enter_own.ensures.names) c.in_ok-enter_own.ensures.numbers own
    c.in_ok-enter_objects.ensures.stack shaped c.in_ok-hide.ensures in
    let hides = c.in_ok-own.own in
    let kept = sym c.in_ok-enter_own.ensures.around in
    subst (λ ns. AreAround ns (block_place at path xs)) (sym (e ∙ ap (λ ns. hides ∷ ns) (sym kept)))
    (block_said at path xs (innermost c.enter_own.new.names) (innermost c.enter_own.new.numbers)
    (innermost (drop 1 c.enter_objects.new.names)) own shaped c.enter_objects.new.names c.args.around.now hides said
    stands.alike (c.in_ok-own.ensures ∙ ap (λ k. with_shadows c.enter_objects.new.names k [] (items_names xs)) (sym kept))))
    c.enter.ensures.ok
