use Rattle.std.proofs.Common.{length, get_or, Some, ap, sym, ◌∙◌, arith}
use Rattle.std.specs.Prelude.{slice_range}
use Rattle.cnf_form.proofs.Starts.{part_mounts}
use Rattle.cnf_form.proofs.Pushed.{clause_is, clause_none}
use Rattle.cnf_form.proofs.flat.part_at.Goals as goal

pub returns-then-place-starts : goal.returns-then-place-starts
returns-then-place-starts c =
    sym (clause_none c.args.literals.now c.args.starts.now c.args.place c.if-place-starts.true)

pub slice_bounds-result-count : goal.slice_bounds-result-count
slice_bounds-result-count c =
    let m = part_mounts c.args.starts.now c.args.place (length c.args.literals.now) c.requires c.if-place-starts.false in
    omega (arith, m.0, c.end_of-end.ensures)

pub slice_bounds-result-start : goal.slice_bounds-result-start
slice_bounds-result-start c =
    let m = part_mounts c.args.starts.now c.args.place (length c.args.literals.now) c.requires c.if-place-starts.false in
    omega (arith, m.0, c.end_of-end.ensures)

pub slice_bounds-result-end : goal.slice_bounds-result-end
slice_bounds-result-end c =
    let m = part_mounts c.args.starts.now c.args.place (length c.args.literals.now) c.requires c.if-place-starts.false in
    omega (arith, m.1, c.end_of-end.ensures)

pub returns : goal.returns
returns c =
    ap (λ e. Some (slice_range c.args.literals.now (get_or c.args.starts.now c.args.place 0) e)) c.end_of-end.ensures
    ∙ sym (clause_is c.args.literals.now c.args.starts.now c.args.place c.if-place-starts.false)
