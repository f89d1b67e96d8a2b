-- The drivers of a design have one refusal, of several loops any one, or none.
use Rattle.std.specs.Prelude.{◌≡◌, refl, List, true, Option, Some, None, is_none}
use Rattle.std.specs.Option.{option_map}
use Rattle.std.proofs.Common.{ap, sym, ◌∙◌, true≢false}
use Rattle.std.proofs.lemmas.Option.{same_Some}
use Rattle.fv_text.specs.declared.pos.Pos.{Pos}
use Rattle.vl_size.specs.declared.decl.Decl.{Decl}
use Rattle.vl_mean.specs.declared.driver.Driver.{Driver}
use Rattle.vl_flow_spec.specs.Refusals.{HasNoRefusal, blocking_shared, latch, mixed, two_drivers, undriven}
use Rattle.vl_flow.specs.declared.fault.FlowFault.{FlowFault}
use Rattle.vl_flow.specs.declared.fault.FlowFault.TheVariants as f
use Rattle.vl_flow.specs.Faults.{AreLoop, HasNoLoop, IsFault, later_fault, or_else}
use Rattle.rvf_load.specs.Loads.{IsSameFlow}

-- none at a refusal that isn't there
past_none : {A : Type 0} (g : A → FlowFault) (o : Option A) (rest : Option FlowFault) → is_none o ≡ true → rest ≡ None
    → or_else (option_map g o) rest ≡ None
past_none g None rest e h = h
past_none g (Some x) rest e h = absurd (true≢false (sym e))

unmapped : {A : Type 0} (g : A → FlowFault) (o : Option A) → is_none o ≡ true → option_map g o ≡ None
unmapped g None e = refl
unmapped g (Some x) e = absurd (true≢false (sym e))

module _ (ds : List Decl) (drivers : List Driver) where
  none_later : HasNoRefusal ds drivers → later_fault ds drivers ≡ None
  none_later h =
      past_none (λ x. f.Latch x.0 x.1) (latch ds drivers) _ h.latchless
      (past_none (λ x. f.TwoDrivers x.0 x.1 x.2 x.3) (two_drivers ds drivers) _ h.single
      (past_none (λ x. f.Undriven x.0 x.1) (undriven ds drivers) _ h.driven
      (past_none (λ x. f.BlockingShared x.0 x.1) (blocking_shared ds drivers) _ h.apart
      (unmapped (λ x. f.Mixed x.0 x.1) (mixed ds drivers) h.pure))))

  not_later : {x : FlowFault} → HasNoRefusal ds drivers → later_fault ds drivers ≡ Some x → ⊥
  not_later h e = true≢false (ap is_none (sym (none_later h) ∙ e))

  -- a design in order has no refusal
  pub none_refused : (x : FlowFault) → HasNoRefusal ds drivers → IsFault ds drivers x → ⊥
  none_refused f.Memory h is = is
  none_refused (f.Loop ps) h is = h.loopless is.0 is.1 is.2
  none_refused (f.Latch name p) h is = not_later h is.1
  none_refused (f.TwoDrivers name bit p q) h is = not_later h is.1
  none_refused (f.Undriven name bit) h is = not_later h is.1
  none_refused (f.BlockingShared name p) h is = not_later h is.1
  none_refused (f.Mixed name p) h is = not_later h is.1

  same_later : (x y : FlowFault) → later_fault ds drivers ≡ Some x → later_fault ds drivers ≡ Some y → y ≡ x
  same_later x y e g = same_Some y x (sym g ∙ e)

  no_loop : {ps : List Pos} → AreLoop ds drivers ps → HasNoLoop ds drivers → ⊥
  no_loop h none = none h.0 h.1 h.2

  -- beside a loop there is no other refusal
  beside_loop : (ps : List Pos) (y : FlowFault) → AreLoop ds drivers ps → IsFault ds drivers y
      → IsSameFlow (f.Loop ps) y
  beside_loop ps f.Memory h is = absurd is
  beside_loop ps (f.Loop qs) h is = tt
  beside_loop ps (f.Latch name p) h is = absurd (no_loop h is.0)
  beside_loop ps (f.TwoDrivers name bit p q) h is = absurd (no_loop h is.0)
  beside_loop ps (f.Undriven name bit) h is = absurd (no_loop h is.0)
  beside_loop ps (f.BlockingShared name p) h is = absurd (no_loop h is.0)
  beside_loop ps (f.Mixed name p) h is = absurd (no_loop h is.0)

  -- and beside another one none
  beside_later : (x y : FlowFault) → HasNoLoop ds drivers → later_fault ds drivers ≡ Some x → IsFault ds drivers y
      → y ≡ x
  beside_later x f.Memory none e is = absurd is
  beside_later x (f.Loop qs) none e is = absurd (no_loop is none)
  beside_later x (f.Latch name p) none e is = same_later x (f.Latch name p) e is.1
  beside_later x (f.TwoDrivers name bit p q) none e is = same_later x (f.TwoDrivers name bit p q) e is.1
  beside_later x (f.Undriven name bit) none e is = same_later x (f.Undriven name bit) e is.1
  beside_later x (f.BlockingShared name p) none e is = same_later x (f.BlockingShared name p) e is.1
  beside_later x (f.Mixed name p) none e is = same_later x (f.Mixed name p) e is.1

  pub one_refusal : (x y : FlowFault) → IsFault ds drivers x → IsFault ds drivers y → IsSameFlow x y
  one_refusal f.Memory y h k = absurd h
  one_refusal (f.Loop ps) y h k = beside_loop ps y h k
  one_refusal (f.Latch name p) y h k = beside_later (f.Latch name p) y h.0 h.1 k
  one_refusal (f.TwoDrivers name bit p q) y h k = beside_later (f.TwoDrivers name bit p q) y h.0 h.1 k
  one_refusal (f.Undriven name bit) y h k = beside_later (f.Undriven name bit) y h.0 h.1 k
  one_refusal (f.BlockingShared name p) y h k = beside_later (f.BlockingShared name p) y h.0 h.1 k
  one_refusal (f.Mixed name p) y h k = beside_later (f.Mixed name p) y h.0 h.1 k
