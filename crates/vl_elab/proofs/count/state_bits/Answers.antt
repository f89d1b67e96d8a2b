use Rattle.std.proofs.Common.{◌≡◌, ◌≤◌, ap, arith, length, subst, sym, ◌∙◌}
use Rattle.vl_mean.specs.FlatLaw.{all_names_count}
use Rattle.vl_flow_cells.specs.Numbered.{all_cells, first_cell}
use Rattle.vl_flow_cells.proofs.Numbers.{first_few}
use Rattle.vl_flow_order.proofs.Cells.{all_length}
use Rattle.vl_flow_effects.specs.Masks.{AreDriven}
use Rattle.vl_elab.proofs.Told.{counted}
use Rattle.vl_elab.proofs.count.state_bits.Goals as goal

pub variable_bits-requires-clause-cells : goal.variable_bits-requires-clause-cells
variable_bits-requires-clause-cells c =
    ap length c.as_slice-2.ensures ∙ (c.in_ok-masks.ensures c.args.flat.now.starts).0

pub variable_bits-requires-clause-few : goal.variable_bits-requires-clause-few
variable_bits-requires-clause-few c =
    let ds = c.args.flat.now.decls in
    let size : length c.as_slice-2.result.now ≡ length (all_cells ds)
    = ap length c.as_slice-2.ensures ∙ (c.in_ok-masks.ensures c.args.flat.now.starts).0 in
    let all : first_cell ds (length ds) ≡ length (all_cells ds) = all_length ds in
    let less : first_cell ds (length ds) ≤ all_names_count ds = first_few ds (length ds) in
    let few : all_names_count ds ≤ 200000 = c.in_ok-numbering.ensures.few in
    omega (arith, size, all, less, few)

pub returns : goal.returns
returns c =
    let f = c.args.flat.now in
    counted f.decls f.drivers f.starts c.as_slice-2.result.now c.variable_bits.result
    (subst (AreDriven f.decls f.drivers) (sym c.as_slice-2.ensures)
    (subst (λ xs. AreDriven f.decls xs c.in_ok-masks.masks) c.as_slice.ensures c.in_ok-masks.ensures))
    c.variable_bits.ensures
