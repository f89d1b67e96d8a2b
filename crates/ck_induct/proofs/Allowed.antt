-- The maps of a step run of a lowered net are maps that the design allows from any one on.
use Rattle.std.specs.Prelude.{◌≡◌, refl, ℕ, zero, suc, ◌+◌, ◌≤◌, List, length}
use Rattle.std.proofs.Common.{ap, sym, ◌∙◌, arith, subst}
use Rattle.vl_size.specs.Size.{Values}
use Rattle.vl_mean.specs.Parts.{Part}
use Rattle.vl_mean.specs.Runs.{Each, FollowedBy, HasReset, Holds, KeepsOnce, Next}
use Rattle.wn_net.specs.declared.names.Names.{Names}
use Rattle.wn_net.specs.Value.{Given}
use Rattle.wn_net.specs.Net.{Netlist, IsNet}
use Rattle.wn_net.specs.Given.{IsGiven}
use Rattle.wn_net.specs.Next.{next_state}
use Rattle.wn_run.specs.Runs.{Choices, AreChoicesOf}
use Rattle.vl_lower_spec.specs.Maps.{given_of, map_of}
use Rattle.vl_lower_spec.specs.Evaluations.{HaveReset, IsLowered, KeepOnce, maps_from}
use Rattle.bm_induct.specs.StepRuns.{step_cycle}
use Rattle.ck_design.specs.Retirements.{values_at}
use Rattle.ck_induct.specs.Halves.{AreMapsOn}
use Rattle.ck_induct.specs.Laws.{IsStepRunOf, StepRunsAreAllowed, step_run_of}
use Rattle.ck_induct.proofs.StepGiven.{no_reset, once_kept, step_given}

module _ (ps : List Part) (net : Netlist) (names : Names) (h : IsLowered ps net names) (whole : IsNet net)
    (ch : Choices) (of : AreChoicesOf net ch) where
  abbrev cycle : ℕ → Given
  cycle k = step_cycle net ch k

  given : (k : ℕ) → IsGiven net (cycle k)
  given k = step_given net ch k whole of

  abbrev map_at : ℕ → Values
  map_at k = map_of net names (cycle k)

  holds : (k : ℕ) → Holds ps (map_at k)
  holds k = h.holds (cycle k) (given k)

  back : (k : ℕ) → given_of names (map_at k) ≡ cycle k
  back k = h.back (cycle k) (given k)

  next : (k : ℕ) → Next ps (map_at k) (map_at (suc k))
  next k =
      (h.steps (map_at k) (map_at (suc k)) (holds k) (holds (suc k))).1
      (ap (λ g. g.state) (back (suc k)) ∙ ap (next_state net) (sym (back k)))

  reset : (k : ℕ) → HasReset ps 0 (map_at k)
  reset k =
      let P : List ℕ → Type 0 = λ ns. HaveReset net 0 ns in
      (h.resets (map_at k) 0 (holds k)).1 (subst P (sym (ap (λ g. g.inputs) (back k))) (no_reset net ch k))

  once : (k : ℕ) → KeepsOnce ps (map_at k) (map_at (suc k))
  once k =
      let P : Given → Type 0 = λ g. KeepOnce net g.inputs (given_of names (map_at (suc k))).inputs in
      let Q : Given → Type 0 = λ g. KeepOnce net (cycle k).inputs g.inputs in
      (h.once (map_at k) (map_at (suc k)) (holds k) (holds (suc k))).1
      (subst P (sym (back k)) (subst Q (sym (back (suc k))) (once_kept net ch k)))

  -- ---- so many cycles

  long : (k n : ℕ) → length (maps_from net names cycle k n) ≡ n
  long k zero = refl
  long k (suc n) = ap suc (long (suc k) n)

  each : (P : Values → Type 0) → ((k : ℕ) → P (map_at k)) → (k n : ℕ) → Each P (maps_from net names cycle k n)
  each P p k zero = tt
  each P p k (suc n) = (p k, each P p (suc k) n)

  followed : (R : Values → Values → Type 0) → ((k : ℕ) → R (map_at k) (map_at (suc k))) → (k n : ℕ)
      → FollowedBy R (map_at k) (maps_from net names cycle (suc k) n)
  followed R r k zero = tt
  followed R r k (suc n) = (r k, followed R r (suc k) n)

  are_maps : (k : ℕ) → AreMapsOn ps k (step_run_of net names ch k)
  are_maps k = record {
    cycles = long 0 (suc k) ∙ (omega arith);
    holds = each (Holds ps) holds 0 (suc k);
    steps = followed (Next ps) next 0 k;
    no_reset = each (HasReset ps 0) reset 0 (suc k);
    once = followed (KeepsOnce ps) once 0 k;
  }

pub steps_allowed : StepRunsAreAllowed
steps_allowed ps net names ch k h whole of = are_maps ps net names h whole ch of k

-- ---- the map of a cycle

pub maps_at : (net : Netlist) (names : Names) (cycle : ℕ → Given) (k n i : ℕ) → suc i ≤ n
    → values_at (maps_from net names cycle k n) i ≡ map_of net names (cycle (k + i))
maps_at net names cycle k zero i less = absurd (omega (arith, less))
maps_at net names cycle k (suc n) zero less =
    let e : k ≡ k + 0 = omega arith in
    ap (λ j. map_of net names (cycle j)) e
maps_at net names cycle k (suc n) (suc i) less =
    let e : suc k + i ≡ k + suc i = omega arith in
    maps_at net names cycle (suc k) n i (omega (arith, less)) ∙ ap (λ j. map_of net names (cycle j)) e

-- the maps of choices are theirs
pub step_of_choices : (ps : List Part) (net : Netlist) (names : Names) (ch : Choices) (k : ℕ) → IsLowered ps net names
    → IsNet net → AreChoicesOf net ch → IsStepRunOf net names ch k (step_run_of net names ch k)
step_of_choices ps net names ch k h whole of j less =
    let cycle : ℕ → Given = step_cycle net ch in
    let e : 0 + j ≡ j = omega arith in
    sym (h.back (cycle j) (step_given net ch j whole of))
    ∙ ap (given_of names)
    (sym (maps_at net names cycle 0 (suc k) j (omega (arith, less)) ∙ ap (λ i. map_of net names (cycle i)) e))
