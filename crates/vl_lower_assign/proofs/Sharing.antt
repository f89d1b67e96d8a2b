-- A cell that is the same now and for the next cycle is written once.
use Rattle.std.specs.Prelude.{◌≡◌, refl, ℕ, ◌<◌, ◌&&◌, Bool, true, false, List, length, slice_index, slice_set}
use Rattle.std.specs.Prelude.{Option}
use Rattle.std.proofs.Common.{ap, sym, ◌∙◌, subst}
use Rattle.std.proofs.lemmas.Bool.{eq-eqb}
use Rattle.wn_net.specs.Value.{Given}
use Rattle.wn_net.specs.Net.{Netlist, IsNodeOf, value_at, width_at}
use Rattle.vl_lower_assign.specs.declared.slot.Holder.TheVariants as holder
use Rattle.vl_lower_assign.specs.declared.slot.Slot.{Slot}
use Rattle.vl_lower_assign.specs.Slots.{AreCells, Writes, hits, is_taken}
use Rattle.vl_lower_assign.proofs.Written.{after_put, cell_writes}

pub shared_writes : (old new : Netlist) (now after next : List ℕ) (path : Option ℕ) (slot : Slot) (value at : ℕ)
    → slot.holder ≡ holder.Cell at → Writes old new now after path slot value → AreCells old next
    → at < length now → at < length next → slice_index next at ≡ slice_index now at
    → IsNodeOf old slot.width (slice_index now at) → IsNodeOf old slot.count value
    → Writes old new next (slice_set next at (slice_index after at)) path slot value
shared_writes old new now after next path slot value at e one are within there same wide fits =
    let P : ℕ → Type 0 = λ id. IsNodeOf old slot.width id in
    let Q : ℕ → Type 0 = λ id. IsNodeOf new (width_at old id) (slice_index after at) in
    let next_wide = subst P (sym same) wide in
    cell_writes old new next path slot value at (slice_index after at) e are there next_wide fits one.adds
    (subst Q (sym same) (one.alike.node at within))
    (λ g p given here.
    let y = value_at old g value in
    one.numbers g p at given here within
    ∙ (λ i. after_put (is_taken old g path && hit g i) slot.count slot.width p y (value_at old g (sym same i)))
    ∙ ap (λ t. after_put t slot.count slot.width p y (value_at old g (slice_index next at)))
    (whole (is_taken old g path))
    ∙ (λ i. after_put (is_taken old g path) (sym fits.1 i) (sym next_wide.1 i) p y (value_at old g (slice_index next at))))
  where
    hit : (g : Given) → hits old g slot.holder at ≡ true
    hit g = ap (λ h. hits old g h at) e ∙ eq-eqb at at refl

    whole : (t : Bool) → (t && true) ≡ t
    whole true = refl
    whole false = refl
