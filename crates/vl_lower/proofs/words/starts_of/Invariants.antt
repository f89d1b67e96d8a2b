use Rattle.std.specs.Prelude.{◌≡◌, ◌+◌, ◌++◌, drop}
use Rattle.vl_mean.specs.Cells.{cells}
use Rattle.vl_lower_cell_laws.specs.Listing.{word_starts}
use Rattle.vl_lower.specs.Design.{keeping}
use Rattle.vl_lower.proofs.words.starts_of.Given as goal

abbrev pub invariant-loop-word : goal.invariant-loop-word
invariant-loop-word l =
    l.starts ++ word_starts (keeping l.keeps) l.decl.width (l.first + l.word) (drop l.word (cells l.decl))
    ≡ word_starts (keeping l.keeps) l.decl.width l.first (cells l.decl)
