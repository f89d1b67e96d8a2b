-- Meaning: Which refusal of a design's drivers is answered: the first that is there, in the order of their numbers.
-- Rule of this project.
use Rattle.std.specs.Prelude.{◌≡◌, List, ◌∷◌, Option, Some, Result, Ok, Err, is_none, if◌then◌else◌}
use Rattle.std.specs.Option.{option_map}
use Rattle.fv_text.specs.declared.pos.Pos.{Pos}
use Rattle.vl_size.specs.declared.decl.Decl.{Decl}
use Rattle.vl_mean.specs.declared.driver.Driver.{Driver}
use Rattle.vl_flow_spec.specs.Refusals.{IsLoop, blocking_shared, latch, mixed, two_drivers, undriven}
use Rattle.vl_flow.specs.declared.ordered.Ordered.{Ordered}
use Rattle.vl_flow_order.specs.Numbers.{places}
use Rattle.vl_flow.specs.declared.fault.FlowFault.{FlowFault}
use Rattle.vl_flow.specs.declared.fault.FlowFault.TheVariants as f

-- the first, where there is one
abbrev pub or_else : Option FlowFault → Option FlowFault → Option FlowFault
or_else first second = if is_none first then second else first

module _ (ds : List Decl) (drivers : List Driver) where
  -- the first of the refusals 2 to 6
  abbrev pub later_fault : Option FlowFault
  later_fault =
      or_else (option_map (λ x. f.Latch x.0 x.1) (latch ds drivers))
      (or_else (option_map (λ x. f.TwoDrivers x.0 x.1 x.2 x.3) (two_drivers ds drivers))
      (or_else (option_map (λ x. f.Undriven x.0 x.1) (undriven ds drivers))
      (or_else (option_map (λ x. f.BlockingShared x.0 x.1) (blocking_shared ds drivers))
      (option_map (λ x. f.Mixed x.0 x.1) (mixed ds drivers)))))

  -- the places are those of a loop
  abbrev pub AreLoop : List Pos → Type 0
  AreLoop ps = (first : Driver) × (others : List Driver) × IsLoop ds drivers first others
      × (ps ≡ places (first ∷ others))

  abbrev pub HasNoLoop : Type 0
  HasNoLoop = (first : Driver) (others : List Driver) → IsLoop ds drivers first others → ⊥

  -- the refusal is there, and none before it
  abbrev pub IsFault : FlowFault → Type 0
  IsFault f.Memory = ⊥
  IsFault (f.Loop ps) = AreLoop ps
  IsFault fault = HasNoLoop × (later_fault ≡ Some fault)

  -- so is what is answered, unless no memory is left
  abbrev pub IsAnswer : FlowFault → Type 0
  IsAnswer f.Memory = Unit {0}
  IsAnswer fault = IsFault fault

-- of several loops one is answered, and each other refusal as it is; unless no memory is left
abbrev pub Answers : Result Ordered FlowFault → FlowFault → Type 0
Answers (Ok ordered) fault = ⊥
Answers (Err f.Memory) fault = Unit {0}
Answers (Err (f.Loop qs)) (f.Loop ps) = Unit {0}
Answers (Err other) fault = fault ≡ other
