use Rattle.std.proofs.Common.{◌≡◌, ◌++◌, drop}
use Rattle.std.specs.Prelude.{map}
use Rattle.vl_text.specs.Texts.{lines_seen}
use Rattle.rvf_case.specs.Texts.{line_text}
use Rattle.rvf_case.proofs.asked.assumptions.Given as goal

abbrev pub invariant-loop-piece : goal.invariant-loop-piece
invariant-loop-piece l =
    lines_seen l.lines.items ++ map line_text (drop l.piece-index l.config.assumes) ≡ map line_text l.config.assumes
