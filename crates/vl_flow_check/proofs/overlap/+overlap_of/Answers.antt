use Rattle.std.proofs.Common.{◌≡◌, ◌/◌, ◌||◌, ℕ, length, subst, sym}
use Rattle.fv_bit_sets.specs.Cells.{has}
use Rattle.vl_flow_check.proofs.Places.{halves, no_overlap, overlap_one}
use Rattle.vl_flow_check.specs.declared.overlap.Overlap.{Overlap}
use Rattle.vl_flow_check.specs.declared.share.Share.{Share}
use Rattle.vl_flow_check.proofs.overlap.+overlap_of.Goals as goal

pub returns-then-shares-eq0 : goal.returns-then-shares-eq0
returns-then-shares-eq0 t c = no_overlap c.args.shares.now c.none.result c.if-shares-eq0.true c.none.ensures

pub returns-then-shares-eq1 : goal.returns-then-shares-eq1
returns-then-shares-eq1 t c =
    let none = c.none-none in
    let some = c.in_ok-some.some in
    let o : Overlap = record { some = some; two = none.result } in
    overlap_one c.args.shares.now c.index-shares-0.result o none.result c.if-shares-eq1.true c.index-shares-0.is
    none.ensures
    (subst (λ (s : Share). (x i : ℕ) → has some x i ≡ (has s.bits x i || has none.result x i))
    (sym c.index-shares-0.is) c.in_ok-some.ensures) none.ensures

pub returns : goal.returns
returns t c =
    let shares = c.args.shares.now in
    halves shares (length shares / 2) c.in_ok-left.left c.in_ok-right.right c.in_ok-joined.field-0
    c.in_ok-left.ensures c.in_ok-right.ensures c.in_ok-joined.ensures
