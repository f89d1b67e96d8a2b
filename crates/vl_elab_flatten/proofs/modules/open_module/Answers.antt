use Rattle.std.proofs.Common.{ap}
use Rattle.std.proofs.lemmas.Result.{IfOk-weaker}
use Rattle.vl_tree.specs.Item.{items}
use Rattle.vl_mean.specs.Walk.{Use}
use Rattle.vl_elab_const.specs.Given.{IsGiven, value_given}
use Rattle.vl_elab_decls.specs.Inputs.{AreInputs}
use Rattle.vl_elab_flatten.specs.Modules.{IsModuleOpened, IsOpened}
use Rattle.vl_elab_flatten.proofs.Entered.{can_open, module_opened}
use Rattle.vl_elab_flatten.proofs.modules.open_module.Goals as goal

pub open_contents-requires : goal.open_contents-requires
open_contents-requires c =
    can_open c.args.module.now c.header_of.result.now c.written_ports.result.now (items c.as_slice.result.now)
    c.args.path c.header_of.ensures c.written_ports.ensures (ap items c.as_slice.ensures) c.args.inputs.now
    (value_given c.args.given.now) c.requires

pub returns : goal.returns
returns c =
    let given = value_given c.args.given.now in
    let inputs = c.args.inputs.now in
    IfOk-weaker c.open_contents.result
    (λ o. (u : Use) → AreInputs inputs u → IsGiven given u.overrides
    → IsOpened c.header_of.result.now c.written_ports.result.now (items c.as_slice.result.now) u c.args.path o)
    (λ o. (u : Use) → AreInputs inputs u → IsGiven given u.overrides
    → IsModuleOpened c.args.module.now u c.args.path o)
    (λ o h u a g. module_opened c.args.module.now c.header_of.result.now c.written_ports.result.now
    (items c.as_slice.result.now) c.args.path c.header_of.ensures c.written_ports.ensures
    (ap items c.as_slice.ensures) u o
    (h u a g)) c.open_contents.ensures
