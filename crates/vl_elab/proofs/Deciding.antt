-- Modules are refused by the walk through them, or else for the bits of their registers.
use Rattle.std.specs.Prelude.{◌≡◌, refl, ℕ, List, [], Bool, true, false, All, Option, Some, None, is_none}
use Rattle.std.specs.Prelude.{if◌then◌else◌}
use Rattle.std.proofs.Common.{ap, sym, ◌∙◌, true≢false}
use Rattle.vl_tree.specs.declared.source.Module.{Module}
use Rattle.vl_tree.specs.WellFormed.{IsModule}
use Rattle.vl_mean.specs.declared.flat.Flat.{Flat}
use Rattle.vl_mean.specs.FlatParts.{flat_parts}
use Rattle.vl_mean.specs.Parts.{design}
use Rattle.vl_mean.specs.Walk.{module_named}
use Rattle.vl_elab_spec.specs.declared.elab_fault.ElabFault.{ElabFault}
use Rattle.vl_elab_spec.specs.declared.elab_fault.ElabFault.TheVariants as f
use Rattle.vl_elab_spec.specs.Refused.{first_refused, judged_walk, modules_twice, or_later, refusal, state_bits}
use Rattle.vl_elab_spec.specs.Refused.{too_many_bits}
use Rattle.vl_elab_accepted_laws.specs.Unrefused.{NoStepRefused}
use Rattle.vl_elab_accepted_laws.proofs.JudgedWalked.{all_steps_judged}
use Rattle.vl_elab_draft.specs.Drawn.{IsDrawn}
use Rattle.vl_elab_check.specs.Judged.{fault_of, refused_before_bits}
use Rattle.vl_elab.proofs.Drawn.{drawn_bits}

later_none : (g h : Option ElabFault) → or_later g h ≡ None → h ≡ None
later_none None h e = e
later_none (Some g) h e = absurd (true≢false (sym (ap is_none e)))

pub no_step : (ms : List Module) (top : List ℕ) → All IsModule ms → None ≡ fault_of ms top → NoStepRefused ms top
no_step ms top formed e = by (is_none (module_named ms top)) (sym e)
  where
    by : (b : Bool) → (if b then Some (f.NoModule top) else refused_before_bits ms top) ≡ None
        → NoStepRefused ms top
    by true e = absurd (true≢false (sym (ap is_none e)))
    by false e =
        all_steps_judged ms top formed (later_none (modules_twice [] ms)
        (first_refused ms (record { nodes = 0; names = 0 }) (judged_walk ms top)) e)

-- where the walk refuses nothing, the bits decide
pub bits_decide : (ms : List Module) (top : List ℕ) (flat : Flat) (bits : ℕ) (o : Option ElabFault) → All IsModule ms
    → None ≡ fault_of ms top
    → refusal ms top ≡ or_later None (let ps = design ms top in too_many_bits (state_bits ps ps))
    → IsDrawn (design ms top) flat → bits ≡ state_bits (flat_parts flat) (flat_parts flat)
    → o ≡ too_many_bits bits → refusal ms top ≡ o
bits_decide ms top flat bits o formed e h drawn b k =
    h ∙ ap too_many_bits (sym (drawn_bits ms top flat formed (no_step ms top formed e) drawn) ∙ sym b) ∙ sym k

pub refused_first : (ms : List Module) (top : List ℕ) (g : ElabFault) (o : Option ElabFault) → o ≡ Some g
    → refusal ms top ≡ or_later o (let ps = design ms top in too_many_bits (state_bits ps ps))
    → refusal ms top ≡ Some g
refused_first ms top g o e h =
    h ∙ ap (λ x. or_later x (let ps = design ms top in too_many_bits (state_bits ps ps))) e

pub no_fault : (o : Option ElabFault) → ((g : ElabFault) → o ≡ Some g → ⊥) → None ≡ o
no_fault None h = refl
no_fault (Some g) h = absurd (h g refl)
