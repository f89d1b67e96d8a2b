use Rattle.std.proofs.Common.{◌≡◌, ◌+◌, ◌∷◌, drop, sym, subst, arith}
use Rattle.std.proofs.lemmas.Grind.{common_steps}
use Rattle.vl_flow_spec.specs.Paths.{labels_read}
use Rattle.vl_flow_spec.specs.Reads.{reads}
use Rattle.vl_flow_cells.specs.Numbered.{Adds}
use Rattle.vl_flow_cells.specs.Sized.{LabelsAreSized}
use Rattle.vl_flow_cells.proofs.Adding.{adds_then}
use Rattle.vl_flow_cells.proofs.reads.labels_read.Goals as goal

pub loop-label-preserved : goal.loop-label-preserved
loop-label-preserved c =
    let ds = c.args.decls.now in
    let xs = c.args.all.now in
    let i = c.loop-label.label-index in
    let e = c.label-item.result in
    let front : drop i xs ≡ e ∷ drop (i + 1) xs = grind (arith, common_steps) in
    let old = c.loop-label.into.items in
    let new = c.expr_reads.new.into.items in record {
      left = λ h. (subst (LabelsAreSized ds) front (c.loop-label.invariant.left h)).1;
      added = λ h zs rest. c.loop-label.invariant.added h zs
          (subst (λ es. Adds ds old zs (labels_read ds es)) (sym front)
          (adds_then ds old new zs (reads ds e) (labels_read ds (drop (i + 1) xs))
          (c.in_ok-expr_reads.ensures (subst (LabelsAreSized ds) front (c.loop-label.invariant.left h)).0) rest));
    }
