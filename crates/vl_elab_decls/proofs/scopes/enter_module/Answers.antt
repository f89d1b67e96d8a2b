use Rattle.std.specs.Prelude.{◌≡◌, ◌++◌, ℕ, List, [], ◌∷◌, drop}
use Rattle.std.proofs.Common.{ap, sym, ◌∙◌, subst}
use Rattle.std.proofs.lemmas.Result.{IfOk-weaker}
use Rattle.vl_mean.specs.Walk.{Use, module_scope, module_around, module_contents}
use Rattle.vl_elab_spec.specs.Meanings.{scope_meanings}
use Rattle.vl_elab_names.specs.Known.{contains}
use Rattle.vl_elab_decls.specs.Stands.{Stands}
use Rattle.vl_elab_decls.proofs.StandWhole.{made_is, module_constants_are, module_decls_are, plain_is}
use Rattle.vl_elab_decls.proofs.scopes.enter_module.Goals as goal

pub returns-clause-stands : goal.returns-clause-stands
returns-clause-stands c =
    IfOk-weaker c.enter_parts.result _ _ (λ inside h u path inputs given plain.
    let m = c.args.module.now in
    let ps = c.header_of-parameters.result.now in
    let qs = c.ports_of-ports.result.now in
    let xs = c.as_slice-all.result.now in
    let e = c.header_of-parameters.ensures in
    let f = c.ports_of-ports.ensures in
    let g = c.as_slice-all.ensures in
    subst (λ k. Stands inside.names inside.numbers (contains inside.clocks)
    (scope_meanings (module_scope m u path) [] [] k ∷ []) (module_scope m u path ∷ [])) (made_is m u path ps qs xs e f g)
    (h (module_scope m u path) u inputs given (plain_is m u path ps qs xs e f g plain)
    (module_constants_are m u path ps qs xs e f g) (module_decls_are m u path ps qs xs e f g)))
    c.enter_parts.ensures.stands

pub returns-clause-around : goal.returns-clause-around
returns-clause-around c =
    IfOk-weaker c.enter_parts.result _ _ (λ inside h u given.
    let m = c.args.module.now in
    h (module_scope m u []) u given (module_constants_are m u [] c.header_of-parameters.result.now
    c.ports_of-ports.result.now c.as_slice-all.result.now c.header_of-parameters.ensures c.ports_of-ports.ensures
    c.as_slice-all.ensures)) c.enter_parts.ensures.around

pub returns-clause-inside : goal.returns-clause-inside
returns-clause-inside c = c.enter_parts.ensures.inside

pub returns-clause-parameters : goal.returns-clause-parameters
returns-clause-parameters c = c.enter_parts.ensures.parameters
