use Rattle.std.specs.Prelude.{[], List}
use Rattle.std.proofs.Common.{sym, subst}
use Rattle.std.proofs.lemmas.Result.{on_ok_weaker}
use Rattle.vl_elab_spec.specs.Meanings.{Names, all_later}
use Rattle.vl_elab_scope.specs.Alike.{Alike}
use Rattle.vl_elab_scope.specs.Seen.{innermost}
use Rattle.vl_elab_params.specs.Among.{contents, parameter_meanings}
use Rattle.vl_elab_params.specs.Own.{AreBehind, AreOwn}
use Rattle.vl_elab_decls.proofs.StandWhole.{nothing_given}
use Rattle.vl_elab_decls.proofs.Stacks.{left_is_laid, put_first, put_is, put_second}
use Rattle.vl_elab_decls.proofs.scopes.enter_own.Goals as goal

pub returns-clause-around : goal.returns-clause-around
returns-clause-around c =
    on_ok_weaker c.enter-2.result (λ e.
    let left = left_is_laid c.args.names.now c.lay.new.self c.args.around.now c.enter_parameters.new.names
    c.take-own.new.self c.take-behind.new.self [] [] [] c.take-own.result c.take-behind.result c.in_ok-count.count
    c.in_ok-count.ensures.names c.in_ok-enter_parameters.ensures.around c.take-own.ensures.level
    c.take-own.ensures.rest c.take-behind.ensures.level c.take-behind.ensures.rest in
    c.in_ok-around.ensures.laid c.args.around.now c.args.names.now left (sym c.in_ok-count.ensures.count))
    c.enter-2.ensures.ok

pub returns-clause-names : goal.returns-clause-names
returns-clause-names c =
    on_ok_weaker c.enter-2.result (λ e.
    let left = left_is_laid c.args.names.now c.lay.new.self c.args.around.now c.enter_parameters.new.names
    c.take-own.new.self c.take-behind.new.self [] [] [] c.take-own.result c.take-behind.result c.in_ok-count.count
    c.in_ok-count.ensures.names c.in_ok-enter_parameters.ensures.around c.take-own.ensures.level
    c.take-own.ensures.rest c.take-behind.ensures.level c.take-behind.ensures.rest in
    put_is c.args.names.now c.lay.new.self c.args.around.now c.enter_parameters.new.names
    c.take-own.new.self c.take-behind.new.self c.lift.new.self c.enter.new.self c.enter-2.new.self
    c.take-own.result c.take-behind.result c.in_ok-count.count
    c.in_ok-count.ensures.names c.in_ok-enter_parameters.ensures.around c.take-own.ensures.level
    c.take-own.ensures.rest c.take-behind.ensures.level c.take-behind.ensures.rest
    (c.in_ok-around.ensures.rest c.args.around.now c.args.names.now left (sym c.in_ok-count.ensures.count))
    c.in_ok-enter.ensures.ok e)
    c.enter-2.ensures.ok

pub returns-clause-numbers : goal.returns-clause-numbers
returns-clause-numbers c =
    on_ok_weaker c.enter-2.result (λ e. c.in_ok-enter_parameters.ensures.beneath) c.enter-2.ensures.ok

pub returns-clause-behind : goal.returns-clause-behind
returns-clause-behind c =
    on_ok_weaker c.enter-2.result (λ e.
    let left = left_is_laid c.args.names.now c.lay.new.self c.args.around.now c.enter_parameters.new.names
    c.take-own.new.self c.take-behind.new.self [] [] [] c.take-own.result c.take-behind.result c.in_ok-count.count
    c.in_ok-count.ensures.names c.in_ok-enter_parameters.ensures.around c.take-own.ensures.level
    c.take-own.ensures.rest c.take-behind.ensures.level c.take-behind.ensures.rest in
    subst (λ ns. AreBehind ns (all_later (contents [] [] [] c.args.all.now)))
    (put_second c.args.names.now c.lay.new.self c.args.around.now c.enter_parameters.new.names
    c.take-own.new.self c.take-behind.new.self c.lift.new.self c.enter.new.self c.enter-2.new.self
    c.take-own.result c.take-behind.result c.in_ok-count.count
    c.in_ok-count.ensures.names c.in_ok-enter_parameters.ensures.around c.take-own.ensures.level
    c.take-own.ensures.rest c.take-behind.ensures.level c.take-behind.ensures.rest
    (c.in_ok-around.ensures.rest c.args.around.now c.args.names.now left (sym c.in_ok-count.ensures.count))
    c.in_ok-enter.ensures.ok e)
    (c.in_ok-enter_parameters.ensures.behind []))
    c.enter-2.ensures.ok

pub returns-clause-constants : goal.returns-clause-constants
returns-clause-constants c =
    on_ok_weaker c.enter-2.result (λ e s before ss alike numbers same.
    c.in_ok-enter_parameters.ensures.numbers s before ss [] (nothing_given _ c.new-nothing.ensures)
    (subst (λ ns. Alike ns before) (sym c.in_ok-count.ensures.names) alike) numbers same)
    c.enter-2.ensures.ok

pub returns-clause-own : goal.returns-clause-own
returns-clause-own c =
    on_ok_weaker c.enter-2.result (λ e s before ss alike numbers same.
    let left = left_is_laid c.args.names.now c.lay.new.self c.args.around.now c.enter_parameters.new.names
    c.take-own.new.self c.take-behind.new.self [] [] [] c.take-own.result c.take-behind.result c.in_ok-count.count
    c.in_ok-count.ensures.names c.in_ok-enter_parameters.ensures.around c.take-own.ensures.level
    c.take-own.ensures.rest c.take-behind.ensures.level c.take-behind.ensures.rest in
    subst (λ ns. AreOwn ns (innermost c.enter_parameters.new.numbers)
    (parameter_meanings s before (contents [] [] [] c.args.all.now)) s.constants)
    (put_first c.args.names.now c.lay.new.self c.args.around.now c.enter_parameters.new.names
    c.take-own.new.self c.take-behind.new.self c.lift.new.self c.enter.new.self c.enter-2.new.self
    c.take-own.result c.take-behind.result c.in_ok-count.count
    c.in_ok-count.ensures.names c.in_ok-enter_parameters.ensures.around c.take-own.ensures.level
    c.take-own.ensures.rest c.take-behind.ensures.level c.take-behind.ensures.rest
    (c.in_ok-around.ensures.rest c.args.around.now c.args.names.now left (sym c.in_ok-count.ensures.count))
    c.in_ok-enter.ensures.ok e)
    (c.in_ok-enter_parameters.ensures.own s before ss [] (nothing_given _ c.new-nothing.ensures)
    (subst (λ ns. Alike ns before) (sym c.in_ok-count.ensures.names) alike) numbers same))
    c.enter-2.ensures.ok
