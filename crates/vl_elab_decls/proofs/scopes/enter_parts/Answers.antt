use Rattle.std.specs.Prelude.{◌≡◌, refl, ℕ, List, [], ◌∷◌, drop, None}
use Rattle.std.proofs.Common.{ap, sym, ◌∙◌, subst}
use Rattle.vl_tree.specs.Item.{items}
use Rattle.vl_mean.specs.Declarations.{with_constants}
use Rattle.vl_elab_spec.specs.Meanings.{Names, scope_meanings}
use Rattle.vl_elab_scope.specs.Alike.{Alike}
use Rattle.vl_elab_const.specs.Numbers.{HaveNumbers}
use Rattle.vl_elab_names.specs.Known.{contains}
use Rattle.vl_elab_params.specs.Among.{among_parameters, contents}
use Rattle.vl_elab_scope.specs.Seen.{innermost}
use Rattle.vl_elab_decls.specs.Stands.{Stands}
use Rattle.vl_elab_decls.proofs.StandWhole.{module_entered, module_declared, nothing_alike, nothing_numbers}
use Rattle.vl_elab_decls.proofs.scopes.enter_parts.Goals as goal

pub returns-clause-stands : goal.returns-clause-stands
returns-clause-stands c s u inputs given plain constants decls =
    let ps = c.args.parameters.now in
    let qs = c.args.ports.now in
    let xs = c.args.all.now in
    let alike = nothing_alike _ c.new-names.ensures in
    let numbers = nothing_numbers _ c.new-numbers.ensures in
    let own = c.in_ok-enter_parameters.ensures.own s [] [] u.overrides given alike numbers constants in
    subst (λ ns. Stands c.enter_objects.new.names ns (contains c.in_ok-clocks.clocks)
    (scope_meanings s [] [] (contents u.overrides ps qs xs) ∷ []) (s ∷ []))
    (sym (c.in_ok-enter.ensures.ok ∙ ap (λ l. l ∷ c.enter_parameters.new.numbers) c.new.ensures))
    (module_entered s u ps qs xs decls (contains c.in_ok-clocks.clocks) c.enter_parameters.new.names
    c.enter_objects.new.names c.enter_parameters.new.numbers
    (c.in_ok-enter_parameters.ensures.around ∙ c.new-names.ensures)
    (c.in_ok-enter_parameters.ensures.beneath ∙ c.new-numbers.ensures) own c.in_ok-enter_objects.ensures.stack
    (c.in_ok-enter_objects.ensures.shaped s [] (among_parameters s [] [] (contents u.overrides ps qs xs))
    (with_constants s.constants []) u inputs
    (c.in_ok-enter_parameters.ensures.names s [] [] u.overrides given alike numbers constants)
    (module_declared s u ps qs xs decls plain (innermost c.enter_parameters.new.names)
    (innermost c.enter_parameters.new.numbers) own))
    (c.in_ok-clocks.ensures (with_constants s.constants []) u inputs))

pub returns-clause-around : goal.returns-clause-around
returns-clause-around c s u given constants =
    subst (λ ns. HaveNumbers ns (with_constants s.constants [])) (sym (ap (drop 1) c.in_ok-enter.ensures.ok))
    (c.in_ok-enter_parameters.ensures.numbers s [] [] u.overrides given (nothing_alike _ c.new-names.ensures)
    (nothing_numbers _ c.new-numbers.ensures) constants)

pub returns-clause-inside : goal.returns-clause-inside
returns-clause-inside c = subst (λ ns. ns ≡ innermost ns ∷ drop 1 ns) (sym c.in_ok-enter.ensures.ok) refl

pub returns-clause-parameters : goal.returns-clause-parameters
returns-clause-parameters c = c.new-2.ensures
