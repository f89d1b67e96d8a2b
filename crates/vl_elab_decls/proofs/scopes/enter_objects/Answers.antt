use Rattle.std.specs.Prelude.{◌≡◌, ◌++◌, List, None}
use Rattle.std.proofs.Common.{subst, sym}
use Rattle.std.proofs.lemmas.Result.{on_ok_weaker}
use Rattle.vl_tree.specs.Item.{items}
use Rattle.vl_mean.specs.Declarations.{full_ports}
use Rattle.vl_elab_spec.specs.Meanings.{port_meanings, items_meanings}
use Rattle.vl_elab_decls.specs.Shaped.{AreShaped}
use Rattle.vl_elab_decls.proofs.Stacks.{stack_is, rest_is}
use Rattle.vl_elab_decls.proofs.scopes.enter_objects.Goals as goal

pub returns-clause-stack : goal.returns-clause-stack
returns-clause-stack c =
    on_ok_weaker c.enter-2.result (λ e. stack_is c.args.names.now c.take-own.new.self c.leave.new.self c.enter.new.self
    c.enter-2.new.self c.take-own.result c.in_ok-rest.rest
    c.take-own.ensures.level c.take-own.ensures.rest c.leave.ensures c.in_ok-enter.ensures.ok e) c.enter-2.ensures.ok

pub returns-clause-shaped : goal.returns-clause-shaped
returns-clause-shaped c =
    on_ok_weaker c.enter-2.result (λ e s outer known ss u g h d.
    subst (λ rest. AreShaped rest (port_meanings s outer known (full_ports None c.args.ports.now)
    ++ items_meanings s outer known (items c.args.all.now)) s.decls)
    (sym (rest_is c.args.names.now c.take-own.new.self c.leave.new.self c.enter.new.self
    c.enter-2.new.self c.take-own.result c.in_ok-rest.rest
    c.take-own.ensures.level c.take-own.ensures.rest c.leave.ensures c.in_ok-enter.ensures.ok e))
    (c.in_ok-rest.ensures s outer known ss u g h d)) c.enter-2.ensures.ok
