use Rattle.std.proofs.Common.{◌≡◌, ◌++◌, drop}
use Rattle.std.specs.List.{AllByRecursion}
use Rattle.wn_net.specs.Width.{IsWidth}
use Rattle.bb_blast.specs.Choice.{numbers_from}
use Rattle.bm_decide.specs.Chosen.{bit_in}
use Rattle.bm_decide.proofs.numbers.numbers_of.Given as goal

abbrev pub invariant-loop-width : goal.invariant-loop-width
invariant-loop-width l = record {
  widths : AllByRecursion IsWidth (drop l.width-index l.widths);
  made : l.made.items ++ numbers_from (bit_in l.rest) 0 (drop l.width-index l.widths)
      ≡ numbers_from (bit_in l.bits) 0 l.widths;
}
