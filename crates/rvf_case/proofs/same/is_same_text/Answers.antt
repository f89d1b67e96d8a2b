use Rattle.std.proofs.Common.{◌≡◌, List, subst, sym}
use Rattle.ck_cfg.specs.declared.config.KindPiece.{KindPiece}
use Rattle.rvf_case.specs.Steps.{kind_lines}
use Rattle.rvf_case.specs.Texts.{is_same_text}
use Rattle.rvf_case.proofs.Sames.{by_kind_lines, same_bytes}
use Rattle.rvf_case.proofs.same.is_same_text.Goals as goal

pub loop-line-init : goal.loop-line-init
loop-line-init c =
    subst (λ (ds : List KindPiece). same_bytes (kind_lines ds c.args.kind) (kind_lines ds c.args.other)
    ≡ is_same_text c.args.config.now c.args.kind c.args.other) (sym c.as_slice-left.ensures)
    (by_kind_lines c.args.config.now c.args.kind c.args.other)
