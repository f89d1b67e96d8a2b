use Rattle.std.specs.Prelude.{◌-◌, refl}
use Rattle.std.proofs.Common.{arith, sym, ◌∙◌}
use Rattle.vl_lower.proofs.Taking.{back_one, not_past, set_past}
use Rattle.vl_lower.proofs.handed.take_back.Goals as goal

pub loop-left-preserved-then-cell-len : goal.loop-left-preserved-then-cell-len
loop-left-preserved-then-cell-len c =
    let inv = c.loop-left.invariant in record {
      back =
          back_one c.loop-left.frame.log c.loop-left.left c.in-Some.field-0 c.loop-left.frame.now.items _
          c.loop-left-test.true inv.within (sym c.get.ensures.value ∙ sym c.copied.ensures ∙ c.in-Some.is) refl
          ∙ inv.back;
      log = inv.log;
      next = inv.next;
      assumed = inv.assumed;
      tracks = inv.tracks;
      within = omega (arith, inv.within);
    }

pub loop-left-preserved-else-cell-len : goal.loop-left-preserved-else-cell-len
loop-left-preserved-else-cell-len c =
    let inv = c.loop-left.invariant in record {
      back =
          back_one c.loop-left.frame.log c.loop-left.left c.in-Some.field-0 c.loop-left.frame.now.items
          c.loop-left.frame.now.items c.loop-left-test.true inv.within
          (sym c.get.ensures.value ∙ sym c.copied.ensures ∙ c.in-Some.is)
          (set_past c.loop-left.frame.now.items c.in-Some.field-0.cell c.in-Some.field-0.node
          (omega (arith, c.if-cell-len.false, c.len.ensures)))
          ∙ inv.back;
      log = inv.log;
      next = inv.next;
      assumed = inv.assumed;
      tracks = inv.tracks;
      within = omega (arith, inv.within);
    }

pub loop-left-preserved : goal.loop-left-preserved
loop-left-preserved c =
    let inv = c.loop-left.invariant in
    absurd (not_past c.loop-left.frame.log (c.loop-left.left - 1)
    (omega (arith, c.loop-left-test.true, inv.within))
    (sym c.get.ensures.value ∙ sym c.copied.ensures ∙ c.in_default.is))
