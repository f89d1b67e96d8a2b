use Rattle.std.proofs.Common.{subst, sym}
use Rattle.vl_mean.specs.Parts.{design}
use Rattle.vl_elab_draft.specs.Written.{nothing}
use Rattle.vl_elab_flatten_laws.proofs.Declared.{may_be_written}
use Rattle.vl_elab_flatten_laws.proofs.Walked.{walk_open}
use Rattle.vl_elab_emit.specs.Behind.{MayStandBehind, StandBehind, placed_design}
use Rattle.vl_elab_flatten.proofs.Drawing.{drawn, lawful, placed}
use Rattle.vl_elab_flatten.proofs.whole_design.unfolded.Goals as goal

pub write_design-requires : goal.write_design-requires
write_design-requires c =
    let ms = c.args.modules.now in
    let top = c.args.top.now in
    record {
      openable = walk_open ms top c.requires.formed c.requires.fine;
      may = subst (λ w. MayStandBehind w (design ms top)) (sym c.new-draft.ensures)
          (may_be_written ms top c.requires.formed c.requires.fine);
    }

pub finish-requires : goal.finish-requires
finish-requires c =
    let ms = c.args.modules.now in
    let top = c.args.top.now in
    let v = c.write_design.new.draft in
    lawful ms top v
    (subst (λ w. StandBehind w (placed_design ms top) v) c.new-draft.ensures c.in_ok-write_design.ensures)
    c.requires.formed c.requires.fine

pub returns : goal.returns
returns c =
    let ms = c.args.modules.now in
    let top = c.args.top.now in
    let v = c.write_design.new.draft in
    let stands : StandBehind nothing (placed_design ms top) v =
    subst (λ w. StandBehind w (placed_design ms top) v) c.new-draft.ensures c.in_ok-write_design.ensures in
    record {
      drawn = drawn (placed_design ms top) v c.finish.result stands c.finish.ensures.decls c.finish.ensures.drivers
          c.finish.ensures.starts;
      placed = placed ms top v c.finish.result stands c.finish.ensures.drivers;
    }
