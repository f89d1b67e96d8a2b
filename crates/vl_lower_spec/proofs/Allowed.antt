-- Runs of a lowered net are runs that the design allows.
use Rattle.std.specs.Prelude.{◌≡◌, refl, ℕ, zero, suc, ◌↔◌, List, [], ◌∷◌, length}
use Rattle.std.proofs.Common.{ap, sym, ◌∙◌, arith, subst}
use Rattle.vl_size.specs.Size.{Values}
use Rattle.vl_mean.specs.Parts.{Part}
use Rattle.vl_mean.specs.Runs.{Each, FollowedBy, HasReset, Holds, Init, IsAssumed, IsRun, KeepsOnce, Next}
use Rattle.wn_net.specs.declared.names.Names.{Names}
use Rattle.wn_net.specs.Value.{Given}
use Rattle.wn_net.specs.Net.{Netlist, IsNet}
use Rattle.wn_net.specs.Given.{IsGiven}
use Rattle.wn_net.specs.Next.{next_state}
use Rattle.wn_run.specs.Runs.{Choices, AreChoicesOf, IsMet, cycle_at, inputs_at, reset_at, start_of}
use Rattle.wn_run.proofs.Given.{choices_run, cycles_given}
use Rattle.vl_lower_spec.specs.Maps.{map_of, given_of}
use Rattle.vl_lower_spec.specs.Evaluations.{IsLowered, HaveReset, KeepOnce, maps_from, run_of}
use Rattle.vl_lower_spec.proofs.Inputs.{has_reset, keeps_once, reset_later}

module _ (ps : List Part) (net : Netlist) (names : Names) (h : IsLowered ps net names) (whole : IsNet net)
    (ch : Choices) (of : AreChoicesOf net ch) where
  abbrev cycle : ℕ → Given
  cycle k = cycle_at net (inputs_at net ch) (start_of net ch) k

  given : (k : ℕ) → IsGiven net (cycle k)
  given k = cycles_given net (inputs_at net ch) (start_of net ch) k whole (choices_run net ch whole of)

  abbrev map_at : ℕ → Values
  map_at k = map_of net names (cycle k)

  holds : (k : ℕ) → Holds ps (map_at k)
  holds k = h.holds (cycle k) (given k)

  back : (k : ℕ) → given_of names (map_at k) ≡ cycle k
  back k = h.back (cycle k) (given k)

  next : (k : ℕ) → Next ps (map_at k) (map_at (suc k))
  next k =
      (h.steps (map_at k) (map_at (suc k)) (holds k) (holds (suc k))).1
      (ap (λ g. g.state) (back (suc k)) ∙ ap (next_state net) (sym (back k)))

  begins : Init ps (map_at 0)
  begins = (h.starts (map_at 0) (holds 0)).1 (record { choices = ch; of = of; same = ap (λ g. g.state) (back 0) })

  reset : (k : ℕ) → HasReset ps (reset_at k) (map_at k)
  reset k =
      let P : List ℕ → Type 0 = λ ns. HaveReset net (reset_at k) ns in
      (h.resets (map_at k) (reset_at k) (holds k)).1 (subst P (sym (ap (λ g. g.inputs) (back k))) (has_reset net ch k))

  once : (k : ℕ) → KeepsOnce ps (map_at k) (map_at (suc k))
  once k =
      let P : Given → Type 0 = λ g. KeepOnce net g.inputs (given_of names (map_at (suc k))).inputs in
      let Q : Given → Type 0 = λ g. KeepOnce net (cycle k).inputs g.inputs in
      (h.once (map_at k) (map_at (suc k)) (holds k) (holds (suc k))).1
      (subst P (sym (back k)) (subst Q (sym (back (suc k))) (keeps_once net ch k)))

  -- ---- so many cycles

  long : (k n : ℕ) → length (maps_from net names cycle k n) ≡ n
  long k zero = refl
  long k (suc n) = ap suc (long (suc k) n)

  each_holds : (k n : ℕ) → Each (Holds ps) (maps_from net names cycle k n)
  each_holds k zero = tt
  each_holds k (suc n) = (holds k, each_holds (suc k) n)

  followed : (R : Values → Values → Type 0) → ((k : ℕ) → R (map_at k) (map_at (suc k))) → (k n : ℕ)
      → FollowedBy R (map_at k) (maps_from net names cycle (suc k) n)
  followed R r k zero = tt
  followed R r k (suc n) = (r k, followed R r (suc k) n)

  no_reset : (k n : ℕ) → Each (HasReset ps 0) (maps_from net names cycle (suc k) n)
  no_reset k zero = tt
  no_reset k (suc n) =
      let P : ℕ → Type 0 = λ y. HasReset ps y (map_at (suc k)) in
      (subst P (reset_later k) (reset (suc k)), no_reset (suc k) n)

  is_run : (d : ℕ) → IsRun ps d (run_of net names ch d)
  is_run d = record {
    cycles = long 0 (suc d) ∙ (omega arith);
    holds = each_holds 0 (suc d);
    steps = followed (Next ps) next 0 d;
    begins = begins;
    reset = reset 0;
    no_reset = no_reset 0 d;
    once = followed (KeepsOnce ps) once 0 d;
  }

pub allowed : (ps : List Part) (net : Netlist) (names : Names) → IsLowered ps net names → IsNet net
    → (ch : Choices) → AreChoicesOf net ch → (d : ℕ) → IsRun ps d (run_of net names ch d)
allowed ps net names h whole ch of d = is_run ps net names h whole ch of d

-- ---- assumptions

pub assumed : (ps : List Part) (net : Netlist) (names : Names) → IsLowered ps net names → (run : List Values)
    → Each (Holds ps) run → IsAssumed ps run ↔ Each (λ v. IsMet net (given_of names v)) run
assumed ps net names h run all = (there run all, back run all)
  where
    there : (run : List Values) → Each (Holds ps) run → IsAssumed ps run → Each (λ v. IsMet net (given_of names v)) run
    there [] all a = tt
    there (v ∷ vs) all a = ((h.assumes v all.0).0 a.0, there vs all.1 a.1)

    back : (run : List Values) → Each (Holds ps) run → Each (λ v. IsMet net (given_of names v)) run → IsAssumed ps run
    back [] all a = tt
    back (v ∷ vs) all a = ((h.assumes v all.0).1 a.0, back vs all.1 a.1)
