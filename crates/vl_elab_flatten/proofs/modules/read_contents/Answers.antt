use Rattle.std.proofs.Common.{[]}
use Rattle.vl_tree.specs.Item.{items}
use Rattle.vl_mean.specs.Walk.{Use}
use Rattle.vl_elab_const.specs.Given.{IsGiven, value_given}
use Rattle.vl_elab_flatten.specs.Levels.{HasConstants}
use Rattle.vl_elab_flatten.specs.Modules.{constants_with}
use Rattle.vl_elab_flatten.proofs.Entered.{constants_are, decls_read, ports_read}
use Rattle.vl_elab_flatten.proofs.modules.read_contents.Goals as goal

pub returns : goal.returns
returns c w a g =
    let hs = c.args.header.now in
    let ps = c.args.ports.now in
    let xs = items c.args.all.now in
    let inputs = c.args.inputs.now in
    let given = value_given c.args.given.now in
    let path = c.args.path.now in
    let t = c.constants_of.new.scope in
    let ms = c.constants_of.new.numbers in
    let has : (u : Use) → IsGiven given u.overrides → HasConstants path (constants_with hs xs u) [] t ms =
    constants_are hs ps xs inputs given path c.requires c.in_ok-copied.field-0 c.new-scope.result t
    c.in_ok-numbers.numbers ms c.in_ok-copied.ensures c.new-scope.ensures c.in_ok-numbers.ensures
    c.in_ok-constants_of.ensures in
    record {
      constants = has w g;
      ports_are = ports_read hs ps xs inputs given path c.requires t ms has w a g c.in_ok-ports.ports
          c.in_ok-ports.ensures;
      decls_are = decls_read hs ps xs inputs given path c.requires t ms has w a g c.in_ok-decls.decls
          c.in_ok-decls.ensures;
    }
