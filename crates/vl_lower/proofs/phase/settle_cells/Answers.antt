use Rattle.vl_lower_assign.specs.Frames.{cells_of}
use Rattle.vl_lower_spec.specs.Settled.{settled}
use Rattle.vl_lower_cell_laws.specs.Left.{left, seen_in}
use Rattle.vl_lower.proofs.Between.{turns_over}
use Rattle.vl_lower.proofs.phase.settle_cells.Goals as goal

pub returns : goal.returns
returns c =
    let ds = c.args.layout.decls.now in
    let drivers = c.args.drivers.now in
    let sequence = c.args.sequence.now in (
      c.in_ok-tracks.tracks.items,
      turns_over c.args.net.now c.settle_all.new.net ds (cells_of c.in_ok-frame.frame) (cells_of c.settle_all.new.frame)
          c.in_ok-assumed.assumed c.args.cells.now c.args.cells.now c.in_ok-tracks.tracks.items (settled ds drivers sequence) (left ds drivers sequence)
          (seen_in ds drivers sequence) c.in_ok-frame.ensures c.in_ok-assumed.ensures.settled,
    )
