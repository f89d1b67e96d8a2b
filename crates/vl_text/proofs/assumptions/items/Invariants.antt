use Rattle.std.proofs.Common.{◌≡◌, ◌++◌, drop}
use Rattle.vl_text.specs.Assumptions.{items}
use Rattle.vl_text.specs.Texts.{lines_seen}
use Rattle.vl_text.proofs.assumptions.items.Given as goal

-- the items so far, and those of the lines and of the tokens that are left
abbrev pub invariant-loop-assumption : goal.invariant-loop-assumption
invariant-loop-assumption l =
    items (lines_seen l.assumptions) l.tokens
    ≡ l.all.items ++ items (lines_seen (drop l.assumption-index l.assumptions)) l.left
