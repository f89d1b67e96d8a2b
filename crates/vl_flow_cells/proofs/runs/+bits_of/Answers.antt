use Rattle.std.proofs.Common.{◌/◌, ◌||◌, ◌∙◌, length, arith}
use Rattle.vl_flow_cells.proofs.RunLists.{any_split}
use Rattle.vl_flow_cells.proofs.runs.+bits_of.Goals as goal

pub returns : goal.returns
returns t c x i =
    let runs = c.args.runs.now in
    c.in_ok-with.ensures x i ∙ (λ j. c.in_ok-first.ensures x i j || c.in_ok-second.ensures x i j)
    ∙ any_split runs (length runs / 2) x i (omega arith)
