-- Between functions: Why modules have no design without hierarchy. Rule of this project.
use Rattle.std.specs.Prelude.{◌≡◌, ℕ, List, Some}
use Rattle.vl_tree.specs.declared.source.Module.{Module}
use Rattle.vl_elab_spec.specs.Refused.{refusal}
use Rattle.vl_elab.specs.declared.reason.Reason.{Reason}
use Rattle.vl_elab.specs.declared.reason.Reason.TheVariants as r

-- they are refused so, but want of memory says nothing of them
abbrev pub IsReason : List Module → List ℕ → Reason → Type 0
IsReason ms top (r.Refused g) = refusal ms top ≡ Some g
IsReason ms top r.Memory = Unit {0}
