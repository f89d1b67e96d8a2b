use Rattle.vl_tree.specs.ItemSpelling.{spell_source}
use Rattle.vl_tree.proofs.Readings.{counted}
use Rattle.vl_tree.proofs.law.each_token_has_its_open_constructs.Goals as goal

pub returns : goal.returns
returns c tree = counted (spell_source tree) 0
