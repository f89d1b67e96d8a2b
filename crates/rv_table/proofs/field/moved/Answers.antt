use Rattle.std.proofs.Common.{◌≡◌, ◌+◌, ◌-◌, ◌*◌, ◌^◌, ◌%◌, arith, refl}
use Rattle.rv_table.proofs.FieldLemmas.{moved_value, moved_small}
use Rattle.rv_table.proofs.field.moved.Goals as goal

pub returns-clause-value : goal.returns-clause-value
returns-clause-value c =
    moved_value c.field.result _ (c.args.high + 1 - c.args.low) c.args.to c.field.ensures.small
    (omega arith) c.field.ensures.value

pub returns-clause-small : goal.returns-clause-small
returns-clause-small c =
    let whole : c.field.result * 2 ^ c.args.to % 4294967296 ≡ c.field.result * 2 ^ c.args.to =
    moved_value c.field.result c.field.result (c.args.high + 1 - c.args.low) c.args.to c.field.ensures.small
    (omega arith) refl in
    rw whole (moved_small c.field.result (c.args.high + 1 - c.args.low) c.args.to c.field.ensures.small)
