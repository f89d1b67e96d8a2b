-- From modules to their design in order.
use Rattle.std.specs.Prelude.{◌≡◌, ℕ, List, None, Result, Ok, Err}
use Rattle.std.proofs.Common.{subst, sym}
use Rattle.vl_mean_flat.specs.DriverPlaces.{driver_places, places_of}
use Rattle.vl_tree.specs.declared.source.Module.{Module}
use Rattle.vl_mean.specs.declared.flat.Flat.{Flat}
use Rattle.vl_mean.specs.FlatParts.{flat_parts}
use Rattle.vl_mean.specs.Parts.{design}
use Rattle.vl_mean_flat.specs.SameMaps.{AreSameMaps}
use Rattle.vl_elab_draft.specs.Drawn.{IsDrawn}
use Rattle.vl_elab_spec.specs.Refused.{refusal}
use Rattle.vl_elab.specs.Reasons.{IsReason}
use Rattle.vl_elab.specs.declared.reason.Reason.{Reason}
use Rattle.vl_elab.specs.declared.reason.Reason.TheVariants as reason
use Rattle.vl_flow.specs.declared.ordered.Ordered.{Ordered}
use Rattle.vl_flow.specs.Faults.{IsAnswer}
use Rattle.vl_flow.specs.declared.fault.FlowFault.{FlowFault}
use Rattle.vl_flow.specs.declared.fault.FlowFault.TheVariants as flow
use Rattle.rvf_load.specs.Loads.{IsFlat, top}
use Rattle.rvf_load.specs.Stages.{IsInOrder, IsOrdering, of_elab, of_flow}
use Rattle.rvf_load.specs.declared.fault.LoadFault.{LoadFault}
use Rattle.rvf_load.specs.declared.fault.LoadFault.TheVariants as fault

-- ---- by the name of the top module

pub flat_is : (modules : List Module) (name : List ℕ) (flat : Flat) → name ≡ top → refusal modules name ≡ None
    → IsDrawn (design modules name) flat → places_of flat.drivers ≡ driver_places modules name
    → AreSameMaps (design modules name) (flat_parts flat) → IsFlat modules flat
flat_is modules name flat e unrefused drawn placed same = record {
  unrefused = subst (λ (n : List ℕ). refusal modules n ≡ None) e unrefused;
  drawn = subst (λ (n : List ℕ). IsDrawn (design modules n) flat) e drawn;
  placed = subst (λ (n : List ℕ). places_of flat.drivers ≡ driver_places modules n) e placed;
  same = subst (λ (n : List ℕ). AreSameMaps (design modules n) (flat_parts flat)) e same;
}

pub no_design : (modules : List Module) (name : List ℕ) (r : Reason) → name ≡ top → IsReason modules name r
    → IsInOrder modules (Err (of_elab r))
no_design modules name (reason.Refused f) e h = subst (λ (n : List ℕ). IsReason modules n (reason.Refused f)) e h
no_design modules name reason.Memory e h = tt

-- ---- by the order of drivers

pub unordered : (flat : Flat) (f : FlowFault) → IsAnswer flat.decls flat.drivers f
    → IsOrdering flat (Err (of_flow f))
unordered flat flow.Memory h = tt
unordered flat (flow.Loop ps) h = h
unordered flat (flow.Latch name p) h = h
unordered flat (flow.TwoDrivers name bit p q) h = h
unordered flat (flow.Undriven name bit) h = h
unordered flat (flow.BlockingShared name p) h = h
unordered flat (flow.Mixed name p) h = h

pub in_order : (modules : List Module) (flat : Flat) (result : Result Ordered LoadFault) → IsFlat modules flat
    → IsOrdering flat result → IsInOrder modules result
in_order modules flat (Ok ordered) is e = subst (λ (f : Flat). IsFlat modules f) (sym e) is
in_order modules flat (Err (fault.Text f)) is h = h
in_order modules flat (Err (fault.Elab f)) is h = absurd h
in_order modules flat (Err (fault.Flow f)) is h = record { flat = flat; is_flat = is; refused = h }
in_order modules flat (Err (fault.Heavy place product)) is h = h
in_order modules flat (Err (fault.Port f)) is h = h
in_order modules flat (Err fault.Memory) is h = tt
