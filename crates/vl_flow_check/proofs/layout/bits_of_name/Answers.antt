use Rattle.std.proofs.Common.{arith, ap, sym, ◌∙◌, true≢false}
use Rattle.std.specs.Prelude.{is_none}
use Rattle.std.specs.Option.{option_copied}
use Rattle.vl_size.specs.Table.{IsShaped}
use Rattle.vl_flow_cells.proofs.Lists.{all_at, get_some}
use Rattle.vl_flow_check.specs.Layouts.{counts}
use Rattle.vl_flow_check.proofs.Layouts.{name_bits}
use Rattle.vl_flow_check.proofs.layout.bits_of_name.Goals as goal

pub unreachable-requires : goal.unreachable-requires
unreachable-requires c =
    let r = get_some c.args.decls.now c.args.place c.requires.within in
    true≢false (ap is_none (sym (ap option_copied c.in-None.is) ∙ c.get.ensures ∙ r.1))

pub span_of-span-requires : goal.span_of-span-requires
span_of-span-requires c = omega (arith, c.requires.within, c.requires.groups.below.names)

pub bits_at-requires : goal.bits_at-requires
bits_at-requires c =
    (all_at IsShaped c.args.decls.now c.args.place c.in-Some.decl.now
    (sym c.get.ensures ∙ ap option_copied c.in-Some.is) c.len-count.ensures.shaped).few_bits

pub returns : goal.returns
returns c =
    let ds = c.args.decls.now in
    name_bits ds (counts c.args.names) c.args.place c.in-Some.decl.now c.span_of-span.result c.counts.result
    c.in_ok-bits_at-in-Some.field-0 (sym c.get.ensures ∙ ap option_copied c.in-Some.is)
    (c.span_of-span.ensures ds c.requires.groups) c.counts.ensures c.in_ok-bits_at-in-Some.ensures
