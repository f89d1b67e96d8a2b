use Rattle.std.proofs.Common.{◌<◌, length, arith}
use Rattle.vcd_text.proofs.Values.{at_index, no_value}
use Rattle.vcd_text.proofs.words.value_of.Goals as goal

pub returns-in_default-value_for : goal.returns-in_default-value_for
returns-in_default-value_for c =
    let l : c.in-Some.index < length c.args.names.now = grind arith in
    let f = c.in-Some.ensures in
    no_value c.args.wide c.args.digits.now c.args.characters.now c.args.names.now c.in-Some.index
    c.index-names-index.result f.1
    (at_index c.args.names.now c.in-Some.index c.index-names-index.result l c.index-names-index.is)
    c.in_default-value_for.ensures

pub returns : goal.returns
returns c =
    let l : c.in-Some.index < length c.args.names.now = grind arith in
    let f = c.in-Some.ensures in
    let v = c.in-Some-value_for.ensures in (
      c.index-names-index.result,
      at_index c.args.names.now c.in-Some.index c.index-names-index.result l
          c.index-names-index.is,
      record { form = v.0; digits_are = v.1; code_is = f.1; fits = v.2 },
    )
