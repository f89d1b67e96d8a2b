-- Between functions: Modules of which nothing is refused but, perhaps, that they have too many bits of registers,
-- which are judged last. Rule of this project.
use Rattle.std.specs.Prelude.{◌≡◌, ℕ, List, None}
use Rattle.vl_tree.specs.declared.source.Module.{Module}
use Rattle.vl_mean.specs.Walk.{walk}
use Rattle.vl_elab_spec.specs.Refused.{first_refused, judged_walk}

-- no step of the walk through the design with this top module is refused
abbrev pub NoStepRefused : List Module → List ℕ → Type 0
NoStepRefused ms top = first_refused ms (record { nodes = 0; names = 0 }) (walk ms top) ≡ None

-- nor of those that are judged: the others stand within what has no value
abbrev pub NoneRefused : List Module → List ℕ → Type 0
NoneRefused ms top = first_refused ms (record { nodes = 0; names = 0 }) (judged_walk ms top) ≡ None
