-- Between functions: Why modules are no design, but for the bits of its registers, which are judged last. The order is
-- a rule of this project.
use Rattle.std.specs.Prelude.{ℕ, List, [], true, Option, Some, is_none, if◌then◌else◌}
use Rattle.vl_tree.specs.declared.source.Module.{Module}
use Rattle.vl_mean.specs.Walk.{Step, Use, module_named, module_place, top_input, module_walk}
use Rattle.vl_elab_spec.specs.declared.elab_fault.ElabFault.{ElabFault}
use Rattle.vl_elab_spec.specs.declared.elab_fault.ElabFault.TheVariants as f
use Rattle.vl_elab_spec.specs.Items.{is_valued}
use Rattle.vl_elab_spec.specs.Refused.{Totals, first_refused, judged_walk, modules_twice, or_later}
use Rattle.vl_elab_spec.specs.Within.{opened_walk}

-- nothing was walked
abbrev pub nothing : Totals
nothing = record { nodes = 0; names = 0 }

-- the top module
abbrev pub top_use : Use
top_use = record { is_top = true; overrides = []; input = top_input }

-- its steps, with modules in one another no deeper than the number
abbrev pub top_steps : ℕ → List Module → Module → List Step
top_steps n ms m = opened_walk is_valued ms (module_walk is_valued n ms) (module_place m top_use [] []) m top_use

abbrev pub refused_before_bits : List Module → List ℕ → Option ElabFault
refused_before_bits ms top =
    or_later (modules_twice [] ms) (first_refused ms nothing (judged_walk ms top))

-- there is no such top module, two modules have one name, or a step is refused
abbrev pub fault_of : List Module → List ℕ → Option ElabFault
fault_of ms top = if is_none (module_named ms top) then Some (f.NoModule top) else refused_before_bits ms top
