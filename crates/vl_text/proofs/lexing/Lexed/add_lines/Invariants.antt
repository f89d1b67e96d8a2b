use Rattle.std.proofs.Common.{drop}
use Rattle.vl_text.specs.Steps.{AddsTexts}
use Rattle.vl_text.specs.Texts.{lines_seen}
use Rattle.vl_text.specs.declared.lexing.Lexed.{Lexed}
use Rattle.vl_text.proofs.lexing.Lexed.add_lines.Given as goal

-- what the lines that are left add is added to all
abbrev pub invariant-loop-assumption : goal.invariant-loop-assumption
invariant-loop-assumption l =
    (new : Lexed) → AddsTexts (lines_seen (drop l.assumption-index l.assumptions)) l.self new
    → AddsTexts (lines_seen l.assumptions) l.fn.self new
