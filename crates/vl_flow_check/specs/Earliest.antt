-- Between functions: The first two of places. Rule of this project.
use Rattle.std.specs.Prelude.{List, [], ◌∷◌}
use Rattle.fv_text.specs.declared.pos.Pos.{Pos}
use Rattle.vl_flow_check.specs.declared.earliest.Earliest.{Earliest}
use Rattle.vl_flow_check.specs.declared.earliest.Earliest.TheVariants as e

-- the places that there are, the earlier one first
abbrev pub listed : Earliest → List Pos
listed e.None = []
listed (e.One p) = p ∷ []
listed (e.Two p q) = p ∷ q ∷ []
