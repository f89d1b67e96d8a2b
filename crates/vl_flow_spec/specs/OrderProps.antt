-- Between functions: That an ordered design keeps facts: each has at most one proof. Rule of this project.
use Rattle.std.specs.Prelude.{ℕ, List}
use Rattle.std.proofs.Props.{props}
use Rattle.vl_size.specs.declared.decl.Decl.{Decl}
use Rattle.vl_mean.specs.declared.driver.Driver.{Driver}
use Rattle.vl_flow_spec.specs.Refusals.{HasNoRefusal}
use Rattle.vl_flow_spec.specs.Sequence.{IsSequence}

pub no_refusal_prop : (ds : List Decl) (drivers : List Driver) → IsProp (HasNoRefusal ds drivers)
no_refusal_prop ds drivers = hlevel props

pub sequence_prop : (ds : List Decl) (drivers : List Driver) (sequence : List ℕ)
    → IsProp (IsSequence ds drivers sequence)
sequence_prop ds drivers sequence = hlevel props
