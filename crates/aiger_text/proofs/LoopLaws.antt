-- The first gate on a circle is told by its line.
use Rattle.std.proofs.Common.{◌≡◌, ℕ, ◌<◌, List, length, Some, get_or, refl, ap, sym, ◌∙◌, subst, arith}
use Rattle.std.proofs.lemmas.List.{length-map}
use Rattle.std.proofs.lemmas.Option.{slice_get-get_or}
use Rattle.aiger_text.specs.declared.fault.AagFault.TheVariants.{Loop}
use Rattle.aiger_text.specs.declared.wires.Wire.{Wire}
use Rattle.aiger_text.specs.Wires.{row_of, successors, IsLooped}
use Rattle.aiger_text.specs.Circles.{IsFirstOnCircle}

pub looped_at : (inputs : ℕ) (wires : List Wire) (rows : List (List ℕ)) (k : ℕ) (w : Wire)
    → rows ≡ successors inputs wires → IsFirstOnCircle rows (Some k) → w ≡ get_or wires k w
    → IsLooped inputs wires (Loop w.line)
looped_at inputs wires rows k w e f own =
    let g = subst (λ r. IsFirstOnCircle r (Some k)) e f in
    let m = g.0 in
    let l : k < length wires = omega (arith, m, length-map wires (row_of inputs)) in
    (k, w, g, slice_get-get_or wires k w l ∙ ap (λ x. Some x) (sym own), refl)
