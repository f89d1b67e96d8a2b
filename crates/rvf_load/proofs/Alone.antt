-- Of texts one thing is there alone: what is loaded of them, or one refusal.
use Rattle.std.specs.Prelude.{◌≡◌, ℕ, Bool, true, false, Option, Some, None, Result, Ok, Err, is_none}
use Rattle.std.proofs.Common.{ap, sym, ◌∙◌, subst, true≢false}
use Rattle.std.proofs.lemmas.Option.{same_Some}
use Rattle.vl_mean.specs.declared.flat.Flat.{Flat}
use Rattle.vl_elab_spec.specs.Refused as elab
use Rattle.vl_elab_spec.specs.declared.elab_fault.ElabFault.{ElabFault}
use Rattle.vl_flow_spec.specs.Refusals.{HasNoRefusal}
use Rattle.vl_flow_spec.specs.Weight.{design_weight}
use Rattle.vl_flow.specs.Faults.{IsFault}
use Rattle.vl_flow.specs.declared.fault.FlowFault.{FlowFault}
use Rattle.rvfi_port.specs.declared.fault.PortFault.{PortFault}
use Rattle.vl_text.specs.SourceText.{Comes, Reading}
use Rattle.vl_text.specs.declared.fault.TextFault.{TextFault}
use Rattle.rvf_load.specs.Loads.{Asked, Reads, IsFlat, Writes, wants_of, weight_of, too_heavy, top, IsLoadedFrom}
use Rattle.rvf_load.specs.Loads.{IsUnread, IsNoDesign, IsUnordered, IsTooHeavy, HasNoPort, IsRefused, IsSame}
use Rattle.rvf_load.specs.Loads.{IsTheRefusal, NoneRefuses, Answers}
use Rattle.rvf_load.specs.Ports.{port_refusal}
use Rattle.rvf_load.specs.Stages.{Gives}
use Rattle.rvf_load.specs.declared.loaded.Loaded.{Loaded}
use Rattle.rvf_load.specs.declared.fault.LoadFault.{LoadFault}
use Rattle.rvf_load.specs.declared.fault.LoadFault.TheVariants as fault
use Rattle.rvf_load.proofs.Drawings.{Lists, lists_of, one_design}
use Rattle.rvf_load.proofs.FlowFaults.{none_refused, one_refusal}
use Rattle.rvf_load.proofs.Readings.{reading_comes}

-- ---- answers that are equal

abbrev is_read : Result Reading TextFault → Bool
is_read (Ok r) = true
is_read (Err f) = false

abbrev reading_or : Reading → Result Reading TextFault → Reading
reading_or r (Ok s) = s
reading_or r (Err f) = r

abbrev fault_or : TextFault → Result Reading TextFault → TextFault
fault_or f (Ok s) = f
fault_or f (Err g) = g

some_none : {A : Type 0} {o : Option A} {x : A} → o ≡ None → o ≡ Some x → ⊥
some_none e g = true≢false (ap is_none (sym e ∙ g))

-- texts come to one thing alone
abbrev pub ComeToOne : Asked → Type 0
ComeToOne a = (x y : Result Reading TextFault) → Comes a.core a.texts a.lines x → Comes a.core a.texts a.lines y → x ≡ y

module _ (a : Asked) (one : ComeToOne a) where
  -- ---- what two parts say is of one reading

  comes : (r : Reading) → Reads a r → Comes a.core a.texts a.lines (Ok r)
  comes r h = reading_comes a.texts a.lines a.core r h

  one_reading : (r s : Reading) → Reads a r → Reads a s → s ≡ r
  one_reading r s h k = ap (reading_or r) (one (Ok s) (Ok r) (comes s k) (comes r h))

  unread : (r : Reading) (f : TextFault) → Reads a r → IsUnread a f → ⊥
  unread r f h k = true≢false (ap is_read (one (Ok r) (Err f) (comes r h) k))

  one_unread : (f g : TextFault) → IsUnread a f → IsUnread a g → g ≡ f
  one_unread f g h k = ap (fault_or f) (one (Err g) (Err f) k h)

  -- a refused design is none
  refused_of : (r : Reading) (f : ElabFault) → Reads a r → IsNoDesign a f → elab.refusal r.tree.modules top ≡ Some f
  refused_of r f h k =
      subst (λ (s : Reading). elab.refusal s.tree.modules top ≡ Some f) (one_reading r k.reading h k.reads) k.refused

  no_design : (r : Reading) (flat : Flat) (f : ElabFault) → Writes a r flat → IsNoDesign a f → ⊥
  no_design r flat f h k = some_none h.is_flat.unrefused (refused_of r f h.reads k)

  one_refused : (f g : ElabFault) → IsNoDesign a f → IsNoDesign a g → g ≡ f
  one_refused f g h k = same_Some g f (sym (refused_of h.reading g h.reads k) ∙ h.refused)

  -- and of one design
  one_flat : (r s : Reading) (flat other : Flat) → Writes a r flat → Writes a s other → lists_of other ≡ lists_of flat
  one_flat r s flat other h k =
      one_design r.tree.modules other flat
      (subst (λ (t : Reading). IsFlat t.tree.modules other) (one_reading r s h.reads k.reads) k.is_flat) h.is_flat

  -- ---- what is said of that design

  module _ (r : Reading) (flat : Flat) (h : Writes a r flat) where
    flow_of : (f : FlowFault) → IsUnordered a f → IsFault flat.decls flat.drivers f
    flow_of f k =
        subst (λ (t : Lists). IsFault t.0 t.1 f) (one_flat r k.reading flat k.flat h k.writes) k.refused

    -- a design in order is not without one
    not_unordered : HasNoRefusal flat.decls flat.drivers → (f : FlowFault) → IsUnordered a f → ⊥
    not_unordered none f k = none_refused flat.decls flat.drivers f none (flow_of f k)

    order_of : (s : Reading) (other : Flat) → Writes a s other → HasNoRefusal other.decls other.drivers
        → HasNoRefusal flat.decls flat.drivers
    order_of s other k =
        subst (λ (t : Lists). HasNoRefusal t.0 t.1) (one_flat r s flat other h k)

    weight_is : (s : Reading) (other : Flat) → Writes a s other
        → too_heavy (weight_of other) 0 a.factors ≡ too_heavy (weight_of flat) 0 a.factors
    weight_is s other k =
        ap (λ (t : Lists). too_heavy (design_weight t.0 t.1) 0 a.factors) (one_flat r s flat other h k)

    heavy_of : (place product : ℕ) → IsTooHeavy a place product
        → too_heavy (weight_of flat) 0 a.factors ≡ Some (place, product)
    heavy_of place product k = sym (weight_is k.reading k.flat k.writes) ∙ k.heavy

    light_of : (s : Reading) (other : Flat) → Writes a s other → too_heavy (weight_of other) 0 a.factors ≡ None
        → too_heavy (weight_of flat) 0 a.factors ≡ None
    light_of s other k e = sym (weight_is s other k) ∙ e

    -- its outputs are refused alike
    port_of : (s : Reading) (other : Flat) (o : Option PortFault) → Writes a s other
        → port_refusal other.decls a.channels (wants_of a.probes s.macros) ≡ o
        → port_refusal flat.decls a.channels (wants_of a.probes r.macros) ≡ o
    port_of s other o k e =
        ap (λ (t : Lists). port_refusal t.0 a.channels (wants_of a.probes r.macros))
        (sym (one_flat r s flat other h k))
        ∙ ap (λ (t : Reading). port_refusal other.decls a.channels (wants_of a.probes t.macros))
        (sym (one_reading r s h.reads k.reads)) ∙ e

  -- ---- one refusal, and nothing loaded

  the_text : (f : TextFault) → IsUnread a f → IsTheRefusal a (fault.Text f)
  the_text f h = record {
    is = h;
    only = others;
    none = λ l k. unread k.reading f k.writes.reads h;
  }
    where
      others : (g : LoadFault) → IsRefused a g → IsSame (fault.Text f) g
      others (fault.Text g) k = ap fault.Text (one_unread f g h k)
      others (fault.Elab g) k = absurd (unread k.reading f k.reads h)
      others (fault.Flow g) k = absurd (unread k.reading f k.writes.reads h)
      others (fault.Heavy place product) k = absurd (unread k.reading f k.writes.reads h)
      others (fault.Port g) k = absurd (unread k.reading f k.writes.reads h)
      others fault.Memory k = absurd k

  the_elab : (f : ElabFault) → IsNoDesign a f → IsTheRefusal a (fault.Elab f)
  the_elab f h = record {
    is = h;
    only = others;
    none = λ l k. no_design k.reading k.flat f k.writes h;
  }
    where
      others : (g : LoadFault) → IsRefused a g → IsSame (fault.Elab f) g
      others (fault.Text g) k = absurd (unread h.reading g h.reads k)
      others (fault.Elab g) k = ap fault.Elab (one_refused f g h k)
      others (fault.Flow g) k = absurd (no_design k.reading k.flat f k.writes h)
      others (fault.Heavy place product) k = absurd (no_design k.reading k.flat f k.writes h)
      others (fault.Port g) k = absurd (no_design k.reading k.flat f k.writes h)
      others fault.Memory k = absurd k

  the_flow : (f : FlowFault) → IsUnordered a f → IsTheRefusal a (fault.Flow f)
  the_flow f h = record {
    is = h;
    only = others;
    none = λ l k. not_unordered k.reading k.flat k.writes k.ordered f h;
  }
    where
      others : (g : LoadFault) → IsRefused a g → IsSame (fault.Flow f) g
      others (fault.Text g) k = absurd (unread h.reading g h.writes.reads k)
      others (fault.Elab g) k = absurd (no_design h.reading h.flat g h.writes k)
      others (fault.Flow g) k =
          one_refusal h.flat.decls h.flat.drivers f g h.refused (flow_of h.reading h.flat h.writes g k)
      others (fault.Heavy place product) k = absurd (not_unordered k.reading k.flat k.writes k.ordered f h)
      others (fault.Port g) k = absurd (not_unordered k.reading k.flat k.writes k.ordered f h)
      others fault.Memory k = absurd k

  the_heavy : (place product : ℕ) → IsTooHeavy a place product → IsTheRefusal a (fault.Heavy place product)
  the_heavy place product h = record {
    is = h;
    only = others;
    none = λ l k. some_none k.light (heavy_of k.reading k.flat k.writes place product h);
  }
    where
      others : (g : LoadFault) → IsRefused a g → IsSame (fault.Heavy place product) g
      others (fault.Text g) k = absurd (unread h.reading g h.writes.reads k)
      others (fault.Elab g) k = absurd (no_design h.reading h.flat g h.writes k)
      others (fault.Flow g) k = absurd (not_unordered h.reading h.flat h.writes h.ordered g k)
      others (fault.Heavy at number) k =
          ap (λ (x : ℕ × ℕ). fault.Heavy x.0 x.1) (same_Some (at, number) (place, product)
          (sym (heavy_of h.reading h.flat h.writes at number k) ∙ h.heavy))
      others (fault.Port g) k = absurd (some_none k.light (heavy_of k.reading k.flat k.writes place product h))
      others fault.Memory k = absurd k

  the_port : (f : PortFault) → HasNoPort a f → IsTheRefusal a (fault.Port f)
  the_port f h = record {
    is = h;
    only = others;
    none = λ l k. some_none k.bound
        (port_of k.reading k.flat k.writes h.reading h.flat (Some f) h.writes h.refused);
  }
    where
      others : (g : LoadFault) → IsRefused a g → IsSame (fault.Port f) g
      others (fault.Text g) k = absurd (unread h.reading g h.writes.reads k)
      others (fault.Elab g) k = absurd (no_design h.reading h.flat g h.writes k)
      others (fault.Flow g) k = absurd (not_unordered h.reading h.flat h.writes h.ordered g k)
      others (fault.Heavy place product) k =
          absurd (some_none h.light (heavy_of h.reading h.flat h.writes place product k))
      others (fault.Port g) k =
          ap fault.Port (same_Some g f
          (sym (port_of h.reading h.flat h.writes k.reading k.flat (Some g) k.writes k.refused) ∙ h.refused))
      others fault.Memory k = absurd k

  -- what is loaded isn't refused
  none_refuses : (l : Loaded) → IsLoadedFrom a l → NoneRefuses a
  none_refuses l h (fault.Text g) k = unread h.reading g h.writes.reads k
  none_refuses l h (fault.Elab g) k = no_design h.reading h.flat g h.writes k
  none_refuses l h (fault.Flow g) k = not_unordered h.reading h.flat h.writes h.ordered g k
  none_refuses l h (fault.Heavy place product) k =
      some_none h.light (heavy_of h.reading h.flat h.writes place product k)
  none_refuses l h (fault.Port g) k =
      some_none h.bound
      (port_of h.reading h.flat h.writes k.reading k.flat (Some g) k.writes k.refused)
  none_refuses l h fault.Memory k = k

  pub alone : (result : Result Loaded LoadFault) → Gives a result → Answers a result
  alone (Ok l) h = (h, none_refuses l h)
  alone (Err (fault.Text f)) h = the_text f h
  alone (Err (fault.Elab f)) h = the_elab f h
  alone (Err (fault.Flow f)) h = the_flow f h
  alone (Err (fault.Heavy place product)) h = the_heavy place product h
  alone (Err (fault.Port f)) h = the_port f h
  alone (Err fault.Memory) h = tt
