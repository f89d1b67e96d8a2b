use Rattle.std.proofs.Common.{rules, sym, ◌∙◌, ◌+ℤ◌, pos}
use mir.Val.{SFits}
use mir.Syntax.{w128}
use Rattle.fv_bits.specs.Bits.{as_int}
use Rattle.vl_mean.proofs.SelectLemmas.{far_place, not_near, is_index, through_bits}
use Rattle.vl_mean.proofs.select.bits_after.Goals as goal

pub returns-in-None-clause-value : goal.returns-in-None-clause-value
returns-in-None-clause-value c =
    let i = as_int c.args.index.width c.args.index.signed c.args.index.number +ℤ pos c.args.more in
    sym (far_place _ _ _ c.requires.count c.requires.width _ i c.right_of-right.ensures.low
    c.right_of-right.ensures.high c.args.decl.now
    (sym c.right_of-right.ensures.value) (not_near i (sym c.in-None.is ∙ c.near.ensures.value)))

pub returns-in-Some-clause-value : goal.returns-in-Some-clause-value
returns-in-Some-clause-value c =
    let i = as_int c.args.index.width c.args.index.signed c.args.index.number +ℤ pos c.args.more in
    let fits : SFits w128 c.in-Some.index = search rules in
    let fits_too : SFits w128 c.place_of.result = search rules in
    through_bits _ _ _ c.args.decl.now i c.in-Some.index c.place_of.result _ fits fits_too
    (is_index i _ (sym c.in-Some.is ∙ c.near.ensures.value))
    c.place_of.ensures c.bits_from.ensures.value
