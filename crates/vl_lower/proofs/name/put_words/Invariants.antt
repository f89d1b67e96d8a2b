use Rattle.std.specs.Prelude.{◌≡◌, ◌+◌, ◌++◌}
use Rattle.vl_mean.specs.Cells.{cells}
use Rattle.vl_lower_cell_laws.specs.Entries.{node_entries}
use Rattle.vl_lower.proofs.Rest.{words_after}
use Rattle.vl_lower.proofs.name.put_words.Given as goal

abbrev pub invariant-loop-word : goal.invariant-loop-word
invariant-loop-word l =
    l.list ++ node_entries l.decl l.nodes (l.first + l.word) (words_after l.decl.name l.decl.words l.word)
    ≡ l.fn.list ++ node_entries l.decl l.nodes l.first (cells l.decl)
