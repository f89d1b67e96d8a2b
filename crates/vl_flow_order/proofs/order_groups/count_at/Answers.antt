use Rattle.std.proofs.Common.{◌+◌, ap, sym, ◌∙◌, true≢false}
use Rattle.std.specs.Prelude.{is_none}
use Rattle.std.specs.Option.{option_copied}
use Rattle.vl_mean.specs.FlatLaw.{IsKept}
use Rattle.vl_flow_cells.specs.Numbered.{first_cell}
use Rattle.vl_flow_cells.proofs.Lists.{all_at, get_some}
use Rattle.vl_flow_cells.proofs.Numbers.{next_first}
use Rattle.vl_flow_order.proofs.order_groups.count_at.Goals as goal

pub unreachable-requires : goal.unreachable-requires
unreachable-requires c =
    let r = get_some c.args.decls.now c.args.index c.requires.within in
    true≢false (ap is_none (sym (ap option_copied c.in-None.is) ∙ c.get.ensures ∙ r.1))

pub cell_count-requires : goal.cell_count-requires
cell_count-requires c =
    all_at IsKept c.args.decls.now c.args.index c.in-Some.decl.now
    (sym c.get.ensures ∙ ap option_copied c.in-Some.is) c.requires.kept

pub returns : goal.returns
returns c =
    let ds = c.args.decls.now in
    let at = sym c.get.ensures ∙ ap option_copied c.in-Some.is in
    next_first ds c.args.index c.in-Some.decl.now at
    ∙ ap (λ k. first_cell ds c.args.index + k) (sym c.cell_count.ensures.value)
