use Rattle.std.proofs.Common.{◌≡◌, None, ap, sym, ◌∙◌}
use Rattle.vl_mean.specs.Parts.{design}
use Rattle.vl_elab_spec.specs.Refused.{or_later, state_bits, too_many_bits}
use Rattle.vl_elab_flatten_laws.proofs.DesignSteps.{design_maps}
use Rattle.vl_elab.proofs.Deciding.{bits_decide, no_fault, no_step}
use Rattle.vl_elab.proofs.whole.elaborate.Goals as goal

pub returns-in-None-clause-unrefused : goal.returns-in-None-clause-unrefused
returns-in-None-clause-unrefused c =
    let ms = c.args.modules.now in
    let top = c.args.top.now in
    let none : None ≡ c.in_ok-fault.field-0 = no_fault c.in_ok-fault.field-0 c.in_default.not-Some in
    bits_decide ms top c.in_ok-flat.flat c.in_ok-bits.bits _ c.requires (none ∙ c.in_ok-fault.ensures.fault c.requires)
    (c.in_ok-fault.ensures.refusal c.requires
    ∙ ap (λ o. or_later o (let ps = design ms top in too_many_bits (state_bits ps ps))) (sym none))
    c.in_ok-flat.ensures.drawn c.in_ok-bits.ensures (sym c.in-None.is ∙ c.too_many_bits.ensures)

pub returns-in-None-clause-maps : goal.returns-in-None-clause-maps
returns-in-None-clause-maps c =
    let ms = c.args.modules.now in
    let top = c.args.top.now in
    let none : None ≡ c.in_ok-fault.field-0 = no_fault c.in_ok-fault.field-0 c.in_default.not-Some in
    design_maps ms top c.in_ok-flat.flat c.requires
    (no_step ms top c.requires (none ∙ c.in_ok-fault.ensures.fault c.requires))
    c.in_ok-flat.ensures.drawn

pub returns-in-Some-too_many_bits-clause-refused : goal.returns-in-Some-too_many_bits-clause-refused
returns-in-Some-too_many_bits-clause-refused c =
    let ms = c.args.modules.now in
    let top = c.args.top.now in
    let none : None ≡ c.in_ok-fault.field-0 = no_fault c.in_ok-fault.field-0 c.in_default.not-Some in
    bits_decide ms top c.in_ok-flat.flat c.in_ok-bits.bits _ c.requires (none ∙ c.in_ok-fault.ensures.fault c.requires)
    (c.in_ok-fault.ensures.refusal c.requires
    ∙ ap (λ o. or_later o (let ps = design ms top in too_many_bits (state_bits ps ps))) (sym none))
    c.in_ok-flat.ensures.drawn c.in_ok-bits.ensures (sym c.in-Some-too_many_bits.is ∙ c.too_many_bits.ensures)

pub unfolded-requires-clause-fine : goal.unfolded-requires-clause-fine
unfolded-requires-clause-fine c =
    let ms = c.args.modules.now in
    let top = c.args.top.now in
    let none : None ≡ c.in_ok-fault.field-0 = no_fault c.in_ok-fault.field-0 c.in_default.not-Some in
    no_step ms top c.requires (none ∙ c.in_ok-fault.ensures.fault c.requires)
