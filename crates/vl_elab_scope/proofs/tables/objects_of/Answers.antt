use Rattle.std.proofs.Common.{◌≡◌, ◌+◌, [], ◌∷◌, arith}
use Rattle.std.specs.Prelude.{drop}
use Rattle.std.proofs.lemmas.Grind.{common_steps}
use Rattle.vl_size.specs.Table.{declared_as}
use Rattle.vl_elab_spec.specs.Meanings.{objects}
use Rattle.vl_elab_scope.proofs.Reached.{table_on, table_end}
use Rattle.vl_elab_scope.proofs.tables.objects_of.Goals as goal

pub loop-text-preserved : goal.loop-text-preserved
loop-text-preserved c =
    let front : drop c.loop-text.text-index c.args.texts.now ≡ c.text-item.result
    ∷ drop (c.loop-text.text-index + 1) c.args.texts.now = grind (arith, common_steps) in
    record {
      plain = c.in_ok-add_object.ensures.plain;
      table = λ other. table_on (declared_as (objects c.args.names.now)) (declared_as c.loop-text.decls)
          (declared_as c.add_object.new.decls) c.args.texts.now c.text-item.result c.loop-text.text-index _ other front
          (c.in_ok-add_object.ensures.ok other) (c.loop-text.invariant.table other);
    }

pub returns : goal.returns
returns c other =
    let gone : drop c.loop-text.text-index c.args.texts.now ≡ [] = grind (arith, common_steps) in
    table_end (declared_as (objects c.args.names.now)) (declared_as c.loop-text.decls) c.args.texts.now
    c.loop-text.text-index _ other gone (c.loop-text.invariant.table other)
