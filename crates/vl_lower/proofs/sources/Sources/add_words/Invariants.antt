use Rattle.std.specs.Prelude.{◌≡◌, ◌<◌, drop, length}
use Rattle.wn_net.specs.Changes.{mem_width}
use Rattle.vl_mean.specs.Cells.{cells}
use Rattle.vl_lower.specs.Added.{words_added}
use Rattle.vl_lower.proofs.Sums.{SoFar}
use Rattle.vl_lower.proofs.sources.Sources.add_words.Given as goal

abbrev pub invariant-loop-word : goal.invariant-loop-word
invariant-loop-word l = record {
  so_far : SoFar l.fn.self l.self (words_added l.decl.width l.mem l.word (drop l.word (cells l.decl)))
      (words_added l.decl.width l.mem 0 (cells l.decl));
  mem : l.mem < length l.self.net.mems;
  width : mem_width l.self.net l.mem ≡ l.decl.width;
}
