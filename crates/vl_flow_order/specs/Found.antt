-- Between functions: How the drivers of a design without hierarchy stand. Rule of this project.
use Rattle.std.specs.Prelude.{◌≡◌, List, ◌∷◌}
use Rattle.vl_size.specs.declared.decl.Decl.{Decl}
use Rattle.vl_mean.specs.declared.driver.Driver.{Driver}
use Rattle.vl_flow_spec.specs.Refusals.{IsLoop}
use Rattle.vl_flow_spec.specs.Sequence.{IsSequence}
use Rattle.vl_flow_order.specs.declared.found.Found.{Found}
use Rattle.vl_flow_order.specs.declared.found.Found.TheVariants.{InOrder, Loop}
use Rattle.vl_flow_order.specs.Numbers.{places}

abbrev pub Tells : List Decl → List Driver → Found → Type 0
Tells ds drivers (InOrder sequence) = IsSequence ds drivers sequence
Tells ds drivers (Loop ps) =
    (first : Driver) × (others : List Driver) × IsLoop ds drivers first others × (ps ≡ places (first ∷ others))
