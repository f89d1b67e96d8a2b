use Rattle.std.proofs.Common.{drop}
use Rattle.vl_text.specs.Steps.{AddsTexts}
use Rattle.vl_text.specs.Texts.{texts_seen}
use Rattle.vl_text.specs.declared.lexing.Lexed.{Lexed}
use Rattle.vl_text.proofs.lexing.Lexed.add_texts.Given as goal

-- what the texts that are left add is added to all
abbrev pub invariant-loop-text : goal.invariant-loop-text
invariant-loop-text l =
    (new : Lexed) → AddsTexts (texts_seen (drop l.text-index l.texts)) l.self new
    → AddsTexts (texts_seen l.texts) l.fn.self new
