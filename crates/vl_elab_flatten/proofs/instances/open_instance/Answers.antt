use Rattle.std.proofs.Common.{◌++◌, subst, sym}
use Rattle.std.specs.Prelude.{codes}
use Rattle.std.proofs.lemmas.Result.{IfOk-weaker}
use Rattle.vl_mean.specs.Walk.{has_any}
use Rattle.vl_mean.specs.Walk.{Use, module_scope, use_of}
use Rattle.vl_elab_const.specs.Given.{IsGiven, value_given}
use Rattle.vl_elab_const.specs.Openable.{IsOpenable}
use Rattle.vl_elab_decls.specs.Inputs.{AreInputs}
use Rattle.vl_elab_flatten.specs.Modules.{IsModuleOpened}
use Rattle.vl_elab_flatten.proofs.Given.{instance_given}
use Rattle.vl_elab_flatten.proofs.instances.open_instance.Goals as goal

pub open_module-requires : goal.open_module-requires
open_module-requires c =
    let ss = c.args.here.now.scopes in
    let x = c.args.instance.now in
    record {
      used = use_of has_any ss x;
      inputs_are = c.in_ok-inputs.ensures x (sym c.as_slice.ensures);
      given_is = instance_given (value_given c.in_ok-given.given) ss c.connections_of.result.now x
          c.connections_of.ensures (c.in_ok-given.ensures ss c.requires.numbers);
      openable = subst (λ p. IsOpenable (module_scope c.args.module.now (use_of has_any ss x) p)) (sym c.in_ok-path.ensures)
          c.requires.openable;
    }

pub returns : goal.returns
returns c =
    let ss = c.args.here.now.scopes in
    let x = c.args.instance.now in
    let m = c.args.module.now in
    let inputs = c.in_ok-inputs.inputs in
    let given = value_given c.in_ok-given.given in
    let path = c.in_ok-path.path in
    let is_given : IsGiven given (use_of has_any ss x).overrides =
    instance_given given ss c.connections_of.result.now x c.connections_of.ensures
    (c.in_ok-given.ensures ss c.requires.numbers) in
    IfOk-weaker c.open_module.result
    (λ o. (u : Use) → AreInputs inputs u → IsGiven given u.overrides → IsModuleOpened m u path o)
    (λ o. IsModuleOpened m (use_of has_any ss x) (c.args.here.now.path ++ x.name ++ codes ".") o)
    (λ o h. subst (λ p. IsModuleOpened m (use_of has_any ss x) p o) c.in_ok-path.ensures
    (h (use_of has_any ss x) (c.in_ok-inputs.ensures x (sym c.as_slice.ensures)) is_given)) c.open_module.ensures
