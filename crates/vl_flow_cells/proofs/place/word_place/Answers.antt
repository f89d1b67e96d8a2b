use Rattle.std.proofs.Common.{rules, sym, ◌∙◌}
use mir.Val.{SFits}
use mir.Syntax.{w128}
use Rattle.std.proofs.lemmas.Int.{to_z-of_z}
use Rattle.fv_bits.specs.Bits.{as_int}
use Rattle.vl_size.specs.Table.{is_between}
use Rattle.vl_flow_cells.proofs.Ranges.{passed, taken}
use Rattle.vl_flow_cells.proofs.place.word_place.Goals as goal

pub returns-in-Some-clause-some : goal.returns-in-Some-clause-some
returns-in-Some-clause-some c =
    let i = as_int c.args.index.width c.args.index.signed c.args.index.number in
    let j = c.in-Some.index in
    let t = is_between c.args.words.0 c.args.words.1 i in
    let fits : SFits w128 j = search rules in
    let e = sym c.word_of.ensures ∙ c.in-Some.is in (
      passed t i j e,
      c.words_before.ensures.within,
      c.words_before.ensures.index ∙ to_z-of_z w128 j fits ∙ sym (taken t i j e),
    )
