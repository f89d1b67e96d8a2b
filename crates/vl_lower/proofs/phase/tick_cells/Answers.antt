use Rattle.std.proofs.Common.{◌∙◌}
use Rattle.vl_lower_assign.specs.Frames.{cells_of}
use Rattle.vl_lower_cell_laws.specs.Ticked.{ticked}
use Rattle.vl_lower_cell_laws.specs.Left.{seen_at_edges}
use Rattle.vl_lower.specs.Closing.{over}
use Rattle.vl_lower.proofs.Between.{turns_over}
use Rattle.vl_lower.proofs.phase.tick_cells.Goals as goal

pub returns : goal.returns
returns c =
    let ds = c.args.layout.decls.now in
    let drivers = c.args.drivers.now in
    turns_over c.args.net.now c.tick_all.new.net ds (cells_of c.in_ok-frame.frame) (cells_of c.tick_all.new.frame)
    c.in_ok-assumed.assumed c.args.settled.now.now.items c.args.settled.now.next.items c.args.settled.now.tracks.items (λ v. v) (ticked ds drivers)
    (seen_at_edges ds drivers)
    (c.in_ok-frame.ensures ∙ (λ j. over (c.as_slice-2.ensures.value j) (c.as_slice-3.ensures.value j)
    ((c.in_ok-tracks.ensures ∙ c.as_slice.ensures.value) j)))
    c.in_ok-assumed.ensures.ticks
