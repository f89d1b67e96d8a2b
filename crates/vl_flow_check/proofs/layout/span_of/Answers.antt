use Rattle.std.proofs.Common.{◌≡◌, ◌∙◌, ◌-◌, arith, ap, sym, suc, get_or, length, refl, slice_get}
use Rattle.std.proofs.lemmas.Option.{slice_get-get_or}
use Rattle.vl_flow_check.specs.declared.layout.Span.{Span}
use Rattle.vl_flow_check.proofs.Layouts.{first_span, later_span}
use Rattle.vl_flow_check.proofs.layout.span_of.Goals as goal

pub returns-then-place-eq0 : goal.returns-then-place-eq0
returns-then-place-eq0 c ds w =
    let place = c.args.place in
    let ends = c.as_slice-ends.result.now in
    let size : length ends ≡ length c.args.groups.now.ends = ap length c.as_slice-ends.ensures in
    let s : Span = record { first = 0; past = get_or ends place 0 } in
    first_span ds c.args.groups.now place s (omega (arith, c.if-place-eq0.true))
    (ap (λ xs. slice_get xs place) (sym c.as_slice-ends.ensures)
    ∙ slice_get-get_or ends place 0 (omega (arith, size, c.requires))) refl w

pub returns : goal.returns
returns c ds w =
    let place = c.args.place in
    let ends = c.as_slice-ends.result.now in
    let size : length ends ≡ length c.args.groups.now.ends = ap length c.as_slice-ends.ensures in
    let s : Span = record { first = get_or ends (place - 1) 0; past = get_or ends place 0 } in
    let behind : place ≡ suc (place - 1) = omega (arith, c.if-place-eq0.false) in
    later_span ds c.args.groups.now place (place - 1) s behind
    (ap (λ xs. slice_get xs place) (sym c.as_slice-ends.ensures)
    ∙ slice_get-get_or ends place 0 (omega (arith, size, c.requires)))
    (ap (λ xs. slice_get xs (place - 1)) (sym c.as_slice-ends.ensures)
    ∙ slice_get-get_or ends (place - 1) 0 (omega (arith, size, c.requires))) w
