-- Elaboration refuses no text that comes to a simple wrapper with few ports.
use Rattle.std.specs.Prelude.{◌≡◌, ◌≤◌, None, Err}
use Rattle.std.proofs.Common.{ap, sym, ◌∙◌, true≢false, arith}
use Rattle.std.specs.Prelude.{is_none}
use Rattle.vl_elab_spec.specs.declared.elab_fault.ElabFault.{ElabFault}
use Rattle.vl_elab_spec.specs.Refused.{refusal}
use Rattle.rvf_simple.specs.SimpleTrees.{IsSimple, wrapper_ports}
use Rattle.rvf_simple.proofs.Tokens.{simple_nodes}
use Rattle.rvf_simple.proofs.Unrefused.{simple_unrefused}
use Rattle.vl_text.specs.SourceText.{Reading}
use Rattle.rvf_load.specs.Loads.{Answers, Asked, IsNoDesign, Reads, top}
use Rattle.rvf_load.specs.declared.fault.LoadFault.TheVariants as fault
use Rattle.rvf_load.proofs.Readings.{reading_comes}
use Rattle.rvf_simple.specs.SimpleTexts.{IsSimpleText}
use Rattle.rvf_simple.proofs.OneReading.{one_reading}
use Rattle.rvf_simple.proofs.Parsed.{tree_of_few}

-- The tree of texts isn't refused that is a simple wrapper with few ports.
pub simple_is_elaborated : (a : Asked) (r : Reading) → Reads a r → IsSimple r.tree.modules
    → wrapper_ports r.tree.modules ≤ 200000 → refusal r.tree.modules top ≡ None
simple_is_elaborated a r reads simple few =
    let of = tree_of_few a.core a.texts a.lines r simple (reading_comes a.texts a.lines a.core r reads) in
    simple_unrefused r.tree.modules simple few
    (omega (arith, simple_nodes r.tree of.tokens of.parsed.tree_of.1 simple, of.few))

pub texts_have_one_reading : (a : Asked) (r s : Reading) → Reads a r → Reads a s → r ≡ s
texts_have_one_reading a r s h k =
    one_reading a.core a.lines r s a.texts (reading_comes a.texts a.lines a.core r h)
    (reading_comes a.texts a.lines a.core s k)

pub never_refused_by_elaboration : (a : Asked) → IsSimpleText a → (f : ElabFault) → IsNoDesign a f → ⊥
never_refused_by_elaboration a h f it =
    let same : it.reading ≡ h.reading
    = texts_have_one_reading a it.reading h.reading it.reads h.reads in
    let none : refusal it.reading.tree.modules top ≡ None
    = ap (λ (r : Reading). refusal r.tree.modules top) same
    ∙ simple_is_elaborated a h.reading h.reads h.simple h.few in
    true≢false (ap is_none (sym none ∙ it.refused))

pub elaboration_is_no_answer : (a : Asked) → IsSimpleText a → (f : ElabFault) → Answers a (Err (fault.Elab f)) → ⊥
elaboration_is_no_answer a h f answer = never_refused_by_elaboration a h f answer.is
