-- Settling drivers leaves the bits that are kept over the clock's edge.
use Rattle.std.specs.Prelude.{◌≡◌, refl, ℕ, zero, suc, ◌≤◌, List, [], ◌∷◌, Bool, true, false, not, All, Option, Some}
use Rattle.std.specs.Prelude.{None}
use Rattle.std.specs.Prelude.{slice_get}
use Rattle.std.proofs.Common.{ap, sym, ◌∙◌, subst, true≢false}
use Rattle.vl_size.specs.declared.decl.Class.TheVariants as class
use Rattle.vl_size.specs.declared.decl.Decl.{Decl}
use Rattle.vl_size.specs.Size.{Values}
use Rattle.vl_size.specs.Table.{AreApart, AreDifferent, IsShaped, declared_as}
use Rattle.vl_mean.specs.declared.driver.Driver.{Driver}
use Rattle.vl_mean.specs.declared.driver.DriverKind.{DriverKind}
use Rattle.vl_mean.specs.declared.driver.DriverKind.TheVariants as k
use Rattle.vl_mean.specs.declared.driver.Start.{Start}
use Rattle.vl_mean.specs.Execution.{assigned, begun}
use Rattle.vl_mean.specs.FlatLaw.{IsDriver, IsLawful, flat_scopes, is_net, is_variable}
use Rattle.vl_mean.specs.FlatParts.{driver_part, parts_of}
use Rattle.vl_mean.specs.Parts.{Part}
use Rattle.vl_mean.specs.Runs.{is_chosen, is_driven, is_driven_by}
use Rattle.vl_mean.specs.Targets.{bit_of}
use Rattle.vl_flow_spec.specs.Drivers.{driven_by, is_clocked}
use Rattle.vl_flow_spec.specs.Reads.{IsCellOf}
use Rattle.vl_flow_spec.specs.Settle.{settle}
use Rattle.vl_flow_spec.proofs.Bools.{none_of}
use Rattle.vl_flow_spec.proofs.Execs.{assigned_small, net_counted}
use Rattle.vl_flow_spec.proofs.Stays.{no_write}
use Rattle.vl_flow_spec.proofs.Targets.{marks}
use Rattle.vl_flow_spec.proofs.Writes.{puts_stay}
use Rattle.vl_flow_spec.specs.Refusals.{HasNoRefusal}
use Rattle.vl_flow_spec.specs.Sequence.{IsSequence, is_settled}
use Rattle.vl_flow_spec.proofs.Changed.{driver_changed}
use Rattle.vl_flow_spec.proofs.Chain.{AreSettled, kinds}
use Rattle.vl_flow_spec.proofs.Choices.{chosen_at, driven_among, driven_parts}
use Rattle.vl_flow_spec.proofs.Elements.{all_at}
use Rattle.vl_flow_spec.proofs.Held as held
use Rattle.vl_lower_spec.specs.Built.{AreKeptAlike, AreRanged, is_kept}
use Rattle.vl_lower_spec.specs.Settled.{driven_by_this, settled}
use Rattle.vl_lower_spec.proofs.Agreeing as agreeing
use Rattle.vl_lower_spec.proofs.Kept as kept
use Rattle.vl_lower_spec.proofs.LoweredWhole.{settled_is}
use Rattle.vl_lower_cell_laws.proofs.Next.{not_net}
use Rattle.vl_lower_cell_laws.proofs.Stays.{stored_stays}
use Rattle.vl_lower_cell_laws.specs.Left.{LeftBitsAreKept, left, left_by, left_by_this}

module _ (ds : List Decl) (wide : (d : Decl) → declared_as ds d.name ≡ Some d → 1 ≤ d.width) (n : List ℕ) (i : ℕ) where
  -- what a driver doesn't drive it leaves
  by_leaves : (x : DriverKind) → IsDriver ds x → driven_by ds x n i ≡ false → (v w : Values)
      → bit_of (left_by ds x v w n) i ≡ bit_of (w n) i
  by_leaves (k.Assign l e) is free v w =
      puts_stay (assigned (flat_scopes ds) l (flat_scopes ds) e v) w n i (assigned_small ds l e v)
      (no_write ds l e v (marks ds wide is_net net_counted true l is.0.0) n i free)
  by_leaves (k.Comb z) is free v w = stored_stays ds wide z is (begun v) w n i free
  by_leaves (k.Clocked z) is free v w = refl

  left_stays : (drivers : List Driver) → All (λ x. IsDriver ds x.what) drivers → (s : List ℕ) → AreSettled drivers s
      → ((j : ℕ) (x : Driver) → slice_get drivers j ≡ Some x → is_clocked x.what ≡ false
      → driven_by ds x.what n i ≡ false)
      → (v w : Values) → bit_of (left ds drivers s v w n) i ≡ bit_of (w n) i
  left_stays drivers are [] settles free v w = refl
  left_stays drivers are (j ∷ js) settles free v w =
      left_stays drivers are js (λ a m e. settles (suc a) m e) free (driven_by_this ds (slice_get drivers j) v)
      (left_by_this ds (slice_get drivers j) v w)
      ∙ by (slice_get drivers j) refl (settles zero j refl)
    where
      by : (o : Option Driver) → slice_get drivers j ≡ o → is_settled o ≡ true
          → bit_of (left_by_this ds o v w n) i ≡ bit_of (w n) i
      by None e t = refl
      by (Some x) e t =
          by_leaves x.what (all_at (λ x. IsDriver ds x.what) drivers j x e are)
          (free j x e (unclocked (is_clocked x.what) t)) v w
        where
          unclocked : (b : Bool) → not b ≡ true → b ≡ false
          unclocked true h = sym h
          unclocked false h = refl

module _ (ds : List Decl) (drivers : List Driver) (firsts : List Start) (s : List ℕ) (shaped : All IsShaped ds)
    (different : AreDifferent ds) (apart : AreApart ds) (lawful : IsLawful ds drivers firsts)
    (none : HasNoRefusal ds drivers) (order : IsSequence ds drivers s) where
  abbrev ps : List Part
  ps = parts_of ds drivers firsts

  -- a kept bit is driven at the clock's edge alone
  kept_undriven : (d : Decl) (n : List ℕ) (i : ℕ) → IsCellOf ds d n → d.class ≡ class.Variable
      → is_driven ps n i ≡ false → (j : ℕ) (x : Driver) → slice_get drivers j ≡ Some x → is_clocked x.what ≡ false
      → driven_by ds x.what n i ≡ false
  kept_undriven d n i of var free j x at unclocked =
      none_of (driven_by ds x.what n i) (λ t. by x.what refl
      (all_at (λ x. IsDriver ds x.what) drivers j x at lawful.driven) t)
    where
      by : (y : DriverKind) → x.what ≡ y → IsDriver ds x.what → driven_by ds x.what n i ≡ true → false ≡ true
      by (k.Assign l e) what is t =
          let c = driver_changed ds (k.Assign l e) (subst (IsDriver ds) what is) n i
          (sym (ap (λ o. driven_by ds o n i) what) ∙ t) in
          let same : c.decl ≡ d =
          held.cells ds drivers firsts shaped different apart lawful none s order c.decl d n c.of of in
          absurd (not_net d d.class refl (subst (λ q. is_net q ≡ true) same c.may_be)
          (ap (λ c. is_variable (record d { class = c })) var))
      by (k.Comb z) what is t =
          sym free ∙ driven_parts ds drivers firsts n i
          ∙ driven_among (flat_scopes ds) drivers n i j x at
          (ap (λ o. is_driven_by (driver_part (flat_scopes ds) o) n i) what
          ∙ sym (ap (λ o. driven_by ds o n i) what) ∙ t)
      by (k.Clocked z) what is t = absurd (true≢false (sym (ap is_clocked what) ∙ unclocked))

  alike : (v : Values) → AreRanged ds v
      → AreKeptAlike ps (left ds drivers s v v) (settled ds drivers s v)
  alike v ranged =
      agreeing.bits_all ds drivers firsts shaped different apart lawful none s order
      (λ n i. bit_of (left ds drivers s v v n) i ≡ bit_of (settled ds drivers s v n) i)
      (λ d n i. is_kept ps d.class n i)
      (λ d n i of less t. let is = kept.kept_is ps d.class n i t in
      left_stays ds (held.wide ds drivers firsts shaped different apart lawful none s order) n i drivers lawful.driven s
      order.only (kept_undriven d n i of is.0 is.1) v v
      ∙ sym (chosen_at ds drivers firsts
      (agreeing.declared ds drivers firsts shaped different apart lawful none s order) (settle ds (kinds drivers s) v) v
      (held.settled_holds ds drivers firsts shaped different apart lawful none s order v ranged).1 d n i of less
      (ap (λ c. is_chosen ps c n i) is.0 ∙ ap not is.1))
      ∙ ap (λ (u : Values). bit_of (u n) i) (sym (settled_is ds drivers s v)))

pub kept_bits : LeftBitsAreKept
kept_bits ds drivers firsts s shaped different apart lawful none order v ranged =
    alike ds drivers firsts s shaped different apart lawful none order v ranged
