use Rattle.std.specs.Prelude.{refl, ◌-◌, ◌++◌, length, replicate}
use Rattle.std.proofs.Common.{◌∙◌}
use Rattle.vl_lower.proofs.Single.{cell_adds}
use Rattle.vl_lower.proofs.sources.Sources.add_cell.Goals as goal

pub returns : goal.returns
returns c =
    let old = c.args.self.now in
    cell_adds old _ c.args.keep.now c.args.width (length old.cells) c.args.name c.in_ok-node.node
    (record { inputs = refl; mems = refl; memory_cells = refl }) c.in_ok-node.ensures.adds c.in_ok-node.ensures.holds
    c.in_ok-push_spots.ensures
    (c.in_ok-push_times.ensures
    ∙ (λ i. old.register_cells ++ replicate (c.len.ensures i - c.len-before.ensures i) (c.len-cell.ensures i)))
    c.in_ok-push.ensures.ok
