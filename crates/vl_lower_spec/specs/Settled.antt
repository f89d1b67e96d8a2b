-- Between functions: The map that the drivers of a design make of another one, one after the other in an order. Rule
-- of this project.
use Rattle.std.specs.Prelude.{ℕ, List, [], ◌∷◌, Option, Some, None, slice_get}
use Rattle.vl_size.specs.declared.decl.Decl.{Decl}
use Rattle.vl_size.specs.Size.{Values}
use Rattle.vl_mean.specs.declared.driver.Driver.{Driver}
use Rattle.vl_flow_spec.specs.Settle.{driven}

abbrev pub driven_by_this : List Decl → Option Driver → Values → Values
driven_by_this ds None v = v
driven_by_this ds (Some x) v = driven ds x.what v

-- by numbers of drivers
abbrev pub settled : List Decl → List Driver → List ℕ → Values → Values
settled ds drivers [] v = v
settled ds drivers (i ∷ is) v = settled ds drivers is (driven_by_this ds (slice_get drivers i) v)
