use Rattle.std.specs.Prelude.{◌≡◌, ◌+◌, drop}
use Rattle.vl_mean.specs.Cells.{cells}
use Rattle.vl_lower.specs.Design.{are_whole, keeping}
use Rattle.vl_lower.proofs.stored.is_stored.Given as goal

abbrev pub invariant-loop-word : goal.invariant-loop-word
invariant-loop-word l =
    are_whole (keeping l.keeps) l.decl.width (l.first + l.word) (drop l.word (cells l.decl))
    ≡ are_whole (keeping l.keeps) l.decl.width l.first (cells l.decl)
