use Rattle.std.proofs.lemmas.Result.{on_ok_weaker}
use Rattle.vl_tree.specs.Item.{items}
use Rattle.vl_mean.specs.Declarations.{header_parameters}
use Rattle.vl_elab_const.specs.Given.{value_given}
use Rattle.vl_elab_params.proofs.Own.{behind_kept, names_made, numbers_made, own_made}
use Rattle.vl_elab_params.proofs.Around.{entered_around, entered_behind, entered_beneath}
use Rattle.vl_elab_params.proofs.parameters.enter_parameters.Goals as goal

pub returns-clause-around : goal.returns-clause-around
returns-clause-around c =
    on_ok_weaker c.enter_all.result (λ e. entered_around (value_given c.args.given.now)
    (header_parameters c.args.parameters.now) (items c.args.all.now) c.in_ok-behind.behind c.args.names.now
    c.args.numbers.now c.enter_all.new.names c.enter_all.new.numbers e)
    c.enter_all.ensures

pub returns-clause-beneath : goal.returns-clause-beneath
returns-clause-beneath c =
    on_ok_weaker c.enter_all.result (λ e. entered_beneath (value_given c.args.given.now)
    (header_parameters c.args.parameters.now) (items c.args.all.now) c.in_ok-behind.behind c.args.names.now
    c.args.numbers.now c.enter_all.new.names c.enter_all.new.numbers e)
    c.enter_all.ensures

pub returns-clause-behind : goal.returns-clause-behind
returns-clause-behind c =
    on_ok_weaker c.enter_all.result (λ e os. behind_kept c.in_ok-behind.behind _ _ (entered_behind
    (value_given c.args.given.now) (header_parameters c.args.parameters.now) (items c.args.all.now)
    c.in_ok-behind.behind c.args.names.now c.args.numbers.now c.enter_all.new.names c.enter_all.new.numbers e)
    c.in_ok-behind.ensures.named (c.in_ok-behind.ensures.meaning os))
    c.enter_all.ensures

pub returns-clause-names : goal.returns-clause-names
returns-clause-names c =
    on_ok_weaker c.enter_all.result (λ e. names_made (value_given c.args.given.now) c.args.parameters.now
    c.args.ports.now c.args.all.now c.in_ok-behind.behind c.in_ok-behind.ensures.meaning
    c.in_ok-behind.ensures.named c.args.names.now c.args.numbers.now c.enter_all.new.names c.enter_all.new.numbers e)
    c.enter_all.ensures

pub returns-clause-numbers : goal.returns-clause-numbers
returns-clause-numbers c =
    on_ok_weaker c.enter_all.result (λ e. numbers_made (value_given c.args.given.now) c.args.parameters.now
    c.args.ports.now c.args.all.now c.in_ok-behind.behind c.in_ok-behind.ensures.meaning
    c.in_ok-behind.ensures.named c.args.names.now c.args.numbers.now c.enter_all.new.names c.enter_all.new.numbers e)
    c.enter_all.ensures

pub returns-clause-own : goal.returns-clause-own
returns-clause-own c =
    on_ok_weaker c.enter_all.result (λ e. own_made (value_given c.args.given.now) c.args.parameters.now
    c.args.ports.now c.args.all.now c.in_ok-behind.behind c.in_ok-behind.ensures.meaning
    c.in_ok-behind.ensures.named c.args.names.now c.args.numbers.now c.enter_all.new.names c.enter_all.new.numbers e)
    c.enter_all.ensures
