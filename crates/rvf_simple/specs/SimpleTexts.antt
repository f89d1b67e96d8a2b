-- Between functions: Texts that come to a simple wrapper. Rule of this project.
use Rattle.std.specs.Prelude.{◌≤◌}
use Rattle.rvf_simple.specs.SimpleTrees.{IsSimple, wrapper_ports}
use Rattle.vl_text.specs.SourceText.{Reading}
use Rattle.rvf_load.specs.Loads.{Asked, Reads}

-- one with at most 200,000 ports
pub record IsSimpleText (a : Asked) : Type 0 where
  pub reading : Reading
  pub reads : Reads a reading
  pub simple : IsSimple reading.tree.modules
  pub few : wrapper_ports reading.tree.modules ≤ 200000
