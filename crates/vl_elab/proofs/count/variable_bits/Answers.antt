use Rattle.std.proofs.Common.{◌≡◌, ◌+◌, ◌*◌, ◌<◌, ◌≤◌, Some, ap, arith, length, slice_get, subst, sym, take}
use Rattle.std.proofs.Common.{true≢false, ◌∙◌}
use Rattle.std.specs.Prelude.{is_none}
use Rattle.std.specs.Option.{option_copied}
use Rattle.vl_mean.specs.Cells.{cells}
use Rattle.vl_mean.specs.FlatLaw.{IsKept}
use Rattle.vl_size.specs.Table.{IsShaped}
use Rattle.vl_flow_cells.proofs.Lists.{all_at, get_some}
use Rattle.vl_elab.proofs.Counting.{AreLeft, next, room, starts}
use Rattle.vl_elab.specs.Bits.{mask_bits}
use Rattle.vl_elab.proofs.count.variable_bits.Goals as goal

pub loop-index-init : goal.loop-index-init
loop-index-init c = starts c.args.decls.now c.args.masks.now c.requires.cells

pub unreachable-requires : goal.unreachable-requires
unreachable-requires c =
    let ds = c.args.decls.now in
    let less : c.loop-index.index < length ds = omega (arith, c.loop-index-test.true, c.len-index-end.ensures.value) in
    let r = get_some ds c.loop-index.index less in
    true≢false (ap is_none (sym (ap option_copied c.in-None.is) ∙ c.get.ensures ∙ r.1))

pub cell_count-requires : goal.cell_count-requires
cell_count-requires c =
    all_at IsKept c.args.decls.now c.loop-index.index c.in-Some.decl.now
    (sym c.get.ensures ∙ ap option_copied c.in-Some.is) c.requires.kept

pub split_at-requires : goal.split_at-requires
split_at-requires c =
    let ds = c.args.decls.now in
    let at = sym c.get.ensures ∙ ap option_copied c.in-Some.is in
    let r : length (cells c.in-Some.decl.now) ≤ length c.loop-index.rest.now
    = room ds c.args.masks.now c.loop-index.index c.loop-index.rest.now c.loop-index.bits c.in-Some.decl.now at
    c.loop-index.invariant in
    omega (arith, r, c.cell_count.ensures.value)

pub own_bits-bits-requires-clause-shaped : goal.own_bits-bits-requires-clause-shaped
own_bits-bits-requires-clause-shaped c =
    all_at IsShaped c.args.decls.now c.loop-index.index c.in-Some.decl.now
    (sym c.get.ensures ∙ ap option_copied c.in-Some.is) c.len-index-end.ensures.shaped

pub loop-index-preserved : goal.loop-index-preserved
loop-index-preserved c =
    let ds = c.args.decls.now in
    let i = c.loop-index.index in
    let rest = c.loop-index.rest.now in
    let d = c.in-Some.decl.now in
    let n = c.cell_count.result in
    let own = c.own_bits-bits.result in
    let at : slice_get ds i ≡ Some d = sym c.get.ensures ∙ ap option_copied c.in-Some.is in
    let front : c.split_at.result.0.now ≡ take n rest = c.split_at.ensures.front in
    subst (λ r. AreLeft ds c.args.masks.now (i + 1) r (c.loop-index.bits + own)) (sym c.split_at.ensures.back)
    (next ds c.args.masks.now i rest c.loop-index.bits d at c.loop-index.invariant n own c.cell_count.ensures.value
    (c.own_bits-bits.ensures.value ∙ ap (mask_bits d.class d.width) front)
    (subst (λ l. own ≤ 128 * length l) front c.own_bits-bits.ensures.few))
