use Rattle.std.specs.Prelude.{◌≡◌, ◌<◌, length}
use Rattle.std.proofs.Common.{arith, subst, sym}
use Rattle.vl_mean.specs.Cells.{cells}
use Rattle.vl_lower.specs.Added.{Adds, cells_added}
use Rattle.vl_lower.specs.Design.{keeping}
use Rattle.vl_lower.proofs.Following.{cell_counted, cell_more, cells_begin, cells_end, regs_counted}
use Rattle.vl_lower.proofs.Sums.{SoFar, so_far_none}
use Rattle.vl_lower.proofs.sources.Sources.add_cells.Goals as goal

pub loop-cell-init : goal.loop-cell-init
loop-cell-init c =
    let x = c.args.self.now in
    let d = c.args.decl.now in
    let keep = keeping c.args.keeps.now in
    let first = c.len-first.result in
    let whole = cells_added keep d.width first c.args.name (length x.net.regs) (cells d) in
    record {
      so_far =
          subst (λ rest. SoFar x x rest whole) (sym (cells_begin x keep d.width first c.args.name (cells d)))
          (so_far_none x whole);
      here = omega (arith, c.len-first.ensures);
      few = omega (arith, c.len-first.ensures, c.requires.regs);
    }

pub loop-cell-preserved : goal.loop-cell-preserved
loop-cell-preserved c =
    let old = c.args.self.now in
    let mid = c.loop-cell.self in
    let new = c.add_cell.new.self in
    let d = c.args.decl.now in
    let keep = keeping c.args.keeps.now in
    let first = c.len-first.result in
    let k = c.loop-cell.cell in
    let whole = cells_added keep d.width first c.args.name (length old.net.regs) (cells d) in
    let less : k < length (cells d) = omega (arith, c.loop-cell-test.true, c.cell_count-count.ensures.value) in
    let adds = c.in_ok-add_cell.ensures in
    let here = c.loop-cell.invariant.here in
    record {
      so_far =
          cell_more old mid new keep d.width first c.args.name k (cells d) whole less here c.loop-cell.invariant.so_far
          adds;
      here = cell_counted old mid new keep d.width first c.args.name k (cells d) whole here adds;
      few =
          omega (
            arith,
            c.loop-cell.invariant.few,
            regs_counted old mid new keep d.width first c.args.name k (cells d) whole c.requires.shaped.some_bits
                c.requires.shaped.few_bits adds,
          );
    }

pub returns : goal.returns
returns c =
    let old = c.args.self.now in
    let d = c.args.decl.now in
    let keep = keeping c.args.keeps.now in
    let first = c.len-first.result in
    let past : length (cells d) ≡ c.loop-cell.cell =
    omega (arith, c.loop-cell-test.false, c.loop-cell.auto.cell-end, c.cell_count-count.ensures.value) in
    subst (λ f. Adds old c.loop-cell.self (cells_added keep d.width f c.args.name (length old.net.regs) (cells d)))
    c.len-first.ensures
    (cells_end old c.loop-cell.self keep d.width first c.args.name c.loop-cell.cell (cells d)
    (cells_added keep d.width first c.args.name (length old.net.regs) (cells d)) past c.loop-cell.invariant.so_far)
