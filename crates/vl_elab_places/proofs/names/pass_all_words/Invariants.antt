use Rattle.std.proofs.Common.{◌≡◌}
use Rattle.std.specs.Prelude.{drop}
use Rattle.vl_elab_places.specs.Passing.{words_passed}
use Rattle.vl_elab_places.proofs.names.pass_all_words.Given as goal

abbrev pub invariant-loop-name : goal.invariant-loop-name
invariant-loop-name l = words_passed l.numbers (drop l.name-index l.all) l.at ≡ words_passed l.numbers l.all l.fn.start
