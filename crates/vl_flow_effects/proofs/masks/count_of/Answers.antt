use Rattle.std.proofs.Common.{◌≡◌, ◌+◌, ◌<◌, ap, sym, ◌∙◌, arith, suc, true≢false, length}
use Rattle.std.specs.Prelude.{is_none}
use Rattle.std.specs.Option.{option_copied}
use Rattle.vl_mean.specs.FlatLaw.{IsKept}
use Rattle.vl_flow_cells.specs.Numbered.{first_cell}
use Rattle.vl_flow_cells.proofs.Lists.{all_at, get_some}
use Rattle.vl_flow_cells.proofs.Numbers.{first_few, first_none, next_first}
use Rattle.vl_flow_order.proofs.Cells.{all_length}
use Rattle.vl_flow_effects.proofs.masks.count_of.Goals as goal

pub loop-index-init : goal.loop-index-init
loop-index-init c = sym (first_none c.args.decls.now)

pub unreachable-requires : goal.unreachable-requires
unreachable-requires c =
    let ds = c.args.decls.now in
    let less : c.loop-index.index < length ds = omega (arith, c.loop-index-test.true, c.len-index-end.ensures.value) in
    let r = get_some ds c.loop-index.index less in
    true≢false (ap is_none (sym (ap option_copied c.in-None.is) ∙ c.get.ensures ∙ r.1))

pub cell_count-count-requires : goal.cell_count-count-requires
cell_count-count-requires c =
    all_at IsKept c.args.decls.now c.loop-index.index c.in-Some.decl.now
    (sym c.get.ensures ∙ ap option_copied c.in-Some.is) c.requires.kept

pub overflow_add-count : goal.overflow_add-count
overflow_add-count c =
    let ds = c.args.decls.now in
    let i = c.loop-index.index in
    let at = sym c.get.ensures ∙ ap option_copied c.in-Some.is in
    let more = next_first ds i c.in-Some.decl.now at in
    let few = first_few ds (suc i) in
    omega (arith, c.loop-index.invariant, c.cell_count-count.ensures.value, more, few, c.requires.few)

pub loop-index-preserved : goal.loop-index-preserved
loop-index-preserved c =
    let ds = c.args.decls.now in
    let i = c.loop-index.index in
    let at = sym c.get.ensures ∙ ap option_copied c.in-Some.is in
    let next : i + 1 ≡ suc i = omega arith in
    (λ j. c.loop-index.invariant j + c.cell_count-count.ensures.value j)
    ∙ sym (next_first ds i c.in-Some.decl.now at) ∙ ap (first_cell ds) (sym next)

pub returns : goal.returns
returns c =
    let ds = c.args.decls.now in
    let last : c.loop-index.index ≡ length ds = omega (arith, c.len-index-end.ensures.value) in
    c.loop-index.invariant ∙ ap (first_cell ds) last ∙ all_length ds
