-- What the roots of the frames say of the runs of the net itself.
use Rattle.std.specs.Prelude.{◌≡◌, refl, ℕ, zero, suc, ◌+◌, ◌<◌, ◌≤◌, ◌==◌, true}
use Rattle.std.specs.Prelude.{List, [], ◌∷◌, length, map}
use Rattle.std.specs.List.{AllByRecursion}
use Rattle.std.proofs.Common.{ap, sym, ◌∙◌, arith, subst}
use Rattle.std.proofs.lemmas.Bool.{eqb-true}
use Rattle.std.proofs.lemmas.List.{length-map}
use Rattle.wn_net.specs.declared.parts.Reg.{Reg}
use Rattle.wn_net.specs.Value.{Given}
use Rattle.wn_net.specs.Net.{Netlist, AreNodes, IsNet, IsNode, value_at, width_at}
use Rattle.wn_run.specs.Runs.{Choices, AreChoicesOf, cycle_at, inputs_at, mems_from, regs_from}
use Rattle.wn_run.specs.Runs.{start_number, start_of}
use Rattle.bm_induct.specs.StepRuns.{IsBaseRun, IsStepRun, all_mems, all_regs, run_cycle, step_cycle, step_inputs}
use Rattle.bm_induct.specs.StepRuns.{step_start}
use Rattle.bm_induct.specs.declared.how.Rebuild.TheVariants.{Waived, Freed}
use Rattle.bm_induct.specs.Rebuilt.{IsRebuilt, moved_id}
use Rattle.ck_history.proofs.Laws.{bit_below}
use Rattle.bm_unroll.specs.declared.frames.Frames.{Frames}
use Rattle.bm_unroll.specs.Frames.{HasRoots, IsBadRun, IsChoice}
use Rattle.bm_induct.specs.Halves.{AreOther, HasBase, HasStep}
use Rattle.bm_induct.specs.Past.{SaysRun, fails_first, fails_last, in_some, run_values}
use Rattle.bm_induct.proofs.Anew.{carried, freed_value, waived_value}
use Rattle.bm_induct.proofs.Choosing.{first_is, first_of, more_choices}
use Rattle.bm_induct.proofs.Halves.{on, same_other}
use Rattle.bm_induct.proofs.Runs.{run_given}
use Rattle.bm_induct.proofs.Truths as truths

-- ---- a bit that isn't 0

one_of : (net : Netlist) (g : Given) (id n : ℕ) → n < 2 → (n ≡ 0 → ⊥) → (n == 1) ≡ true
one_of net g id zero small other = absurd (other refl)
one_of net g id (suc zero) small other = refl
one_of net g id (suc (suc n)) small other = absurd (omega (arith, small))

not_zero : (n : ℕ) → (n == 1) ≡ true → n ≡ 0 → ⊥
not_zero n e z = absurd (omega (arith, eqb-true n 1 e, z))

-- ---- the same start

regs_same : (n i : ℕ) (choices : ℕ → ℕ) (rs : List Reg) → i + length rs ≤ n
    → regs_from (first_of n choices) i rs ≡ regs_from choices i rs
regs_same n i choices [] h = refl
regs_same n i choices (r ∷ rs) h = λ j.
    start_number (first_is n i choices (omega (arith, h)) j) r.init
    ∷ regs_same n (i + 1) choices rs (omega (arith, h)) j

all_same : (n i : ℕ) (choices : ℕ → ℕ) (rs : List Reg) → i + length rs ≤ n
    → all_regs (first_of n choices) i rs ≡ all_regs choices i rs
all_same n i choices [] h = refl
all_same n i choices (r ∷ rs) h = λ j.
    first_is n i choices (omega (arith, h)) j ∷ all_same n (i + 1) choices rs (omega (arith, h)) j

many : (net made : Netlist) → map (λ r. r.width) made.regs ≡ map (λ r. r.width) net.regs
    → length net.regs ≤ length made.regs
many net made e =
    omega (
      arith,
      ap length e,
      length-map made.regs (λ (r : Reg). r.width),
      length-map net.regs (λ (r : Reg). r.width),
    )

-- the start of a run, or of a step run, with 0 for what isn't of the net
run_start : (net made : Netlist) (ch : Choices) → map (λ r. r.width) made.regs ≡ map (λ r. r.width) net.regs
    → start_of net (more_choices made ch) ≡ start_of net ch
run_start net made ch e = λ j. record {
  regs = regs_same (length made.regs) 0 ch.regs net.regs (omega (arith, many net made e)) j;
  mems = mems_from ch.words 0 net.mems;
}

steps_start : (net made : Netlist) (ch : Choices) → map (λ r. r.width) made.regs ≡ map (λ r. r.width) net.regs
    → step_start net (more_choices made ch) ≡ step_start net ch
steps_start net made ch e = λ j. record {
  regs = all_same (length made.regs) 0 ch.regs net.regs (omega (arith, many net made e)) j;
  mems = all_mems ch.words 0 net.mems;
}

-- ---- lists of nodes that were moved

moved_down : (net : Netlist) (P Q : ℕ → Type 0) (ids : List ℕ) → AreNodes net ids
    → ((id : ℕ) → IsNode net id → P (moved_id net id) → Q id) → AllByRecursion P (map (moved_id net) ids)
    → AllByRecursion Q ids
moved_down net P Q [] own h all = tt
moved_down net P Q (id ∷ ids) own h all = (h id own.0 all.0, moved_down net P Q ids own.1 h all.1)

moved_up : (net : Netlist) (P Q : ℕ → Type 0) (ids : List ℕ) → AreNodes net ids
    → ((id : ℕ) → IsNode net id → Q id → P (moved_id net id)) → AllByRecursion Q ids
    → AllByRecursion P (map (moved_id net) ids)
moved_up net P Q [] own h all = tt
moved_up net P Q (id ∷ ids) own h all = (h id own.0 all.0, moved_up net P Q ids own.1 h all.1)

-- ---- the base

module _ (net made last : Netlist) (bad k root : ℕ) (whole : IsNet net) (whole_made : IsNet made)
    (whole_last : IsNet last) (own_bad : IsNode net bad) (r : IsRebuilt Waived net made)
    (says : SaysRun 3 (λ v j. in_some (fails_first (map (moved_id net) net.assumes) (moved_id net bad) v) (suc j)) made
    last root) where
  -- the value of a node of the net, in the net in the end
  base_value : (ch : Choices) (j id : ℕ) → IsNode net id
      → run_values last (more_choices made ch) j (moved_id net id) ≡ value_at net (run_cycle net ch j) id
  base_value ch j id own =
      carried made last (more_choices made ch) j (moved_id net id) whole_made says.known.adds
      (r.there (width_at net id) id (own, refl)).0
      ∙ waived_value net made (more_choices made ch) j id r own
      ∙ ap (λ s. value_at net (cycle_at net (inputs_at net ch) s j) id) (run_start net made ch r.reg_widths)

  none_assumed : last.assumes ≡ []
  none_assumed = says.known.adds.assumes ∙ r.assumes

  bad_run : (ch : Choices) → AreChoicesOf net ch → IsBaseRun net bad k ch → IsBadRun last root k (more_choices made ch)
  bad_run ch of run =
      let v = run_values last (more_choices made ch) in
      let ids = map (moved_id net) net.assumes in
      let first : truths.IsFirst ids (moved_id net bad) v run.at = record {
        some = run.some;
        met = λ i most.
            moved_up net (λ id. v i id ≡ 0 → ⊥) (λ id. value_at net (run_cycle net ch i) id ≡ 0 → ⊥) net.assumes
            whole.assumes (λ id own other z. other (sym (base_value ch i id own) ∙ z)) (run.assumed i most);
        fails = λ z. run.fails (sym (base_value ch run.at bad own_bad) ∙ z);
      } in
      let found = truths.found_some (fails_first ids (moved_id net bad) v) (suc k) run.at (omega (arith, run.few))
      (truths.first_is ids (moved_id net bad) v run.at first) in (
        λ i most. subst (λ xs. AllByRecursion (λ id. v i id ≡ 0 → ⊥) xs) (sym none_assumed) tt,
        not_zero (v k root)
            (says.tells (more_choices made ch) k (on Waived net made last 3 k r says.known ch of) ∙ found),
      )

  base_run : (ch : Choices) → AreChoicesOf net ch → IsBadRun last root k (more_choices made ch) → IsBaseRun net bad k ch
  base_run ch of run =
      let c = more_choices made ch in
      let v = run_values last c in
      let ids = map (moved_id net) net.assumes in
      let of_last = on Waived net made last 3 k r says.known ch of in
      let small = bit_below last (run_cycle last c k) root whole_last (run_given last c k whole_last of_last)
      says.node in
      let said : in_some (fails_first ids (moved_id net bad) v) (suc k) ≡ true =
      sym (says.tells c k of_last) ∙ one_of last (run_cycle last c k) root (v k root) small run.1 in
      let found = truths.some_found (fails_first ids (moved_id net bad) v) (suc k) said in
      let first = truths.is_first ids (moved_id net bad) v found.at found.holds in
      record {
        at = found.at;
        some = first.some;
        few = omega (arith, found.below);
        assumed = λ i most.
            moved_down net (λ id. v i id ≡ 0 → ⊥) (λ id. value_at net (run_cycle net ch i) id ≡ 0 → ⊥) net.assumes
            whole.assumes (λ id own other z. other (base_value ch i id own ∙ z)) (first.met i most);
        fails = λ z. first.fails (base_value ch found.at bad own_bad ∙ z);
      }

  pub has_base : (f : Frames) → AllByRecursion (IsChoice last k) f.sources → HasRoots last root k f
      → HasBase net bad k f
  has_base f own roots = λ ch of.
      let c = more_choices made ch in
      let other = same_other Waived net made last 3 k r says.known f ch own in
      let bad_runs = roots c (on Waived net made last 3 k r says.known ch of) in
      let to = λ (h : AreOther f ch). base_run ch of (bad_runs.0 (other.1 h)) in
      let from = λ (h : IsBaseRun net bad k ch). other.0 (bad_runs.1 (bad_run ch of h)) in
      (to, from)

-- ---- the step

module _ (net made last : Netlist) (bad k root : ℕ) (whole : IsNet net) (whole_made : IsNet made)
    (whole_last : IsNet last) (own_bad : IsNode net bad) (r : IsRebuilt Freed net made)
    (says : SaysRun 1 (fails_last (moved_id net bad)) made last root) where
  step_value : (ch : Choices) (j id : ℕ) → IsNode net id
      → run_values last (more_choices made ch) j (moved_id net id) ≡ value_at net (step_cycle net ch j) id
  step_value ch j id own =
      carried made last (more_choices made ch) j (moved_id net id) whole_made says.known.adds
      (r.there (width_at net id) id (own, refl)).0
      ∙ freed_value net made (more_choices made ch) j id r own
      ∙ ap (λ s. value_at net (cycle_at net (step_inputs net ch) s j) id) (steps_start net made ch r.reg_widths)

  all_assumed : last.assumes ≡ map (moved_id net) net.assumes
  all_assumed = says.known.adds.assumes ∙ r.assumes

  step_bad : (ch : Choices) → AreChoicesOf net ch → IsStepRun net bad k ch
      → IsBadRun last root k (more_choices made ch)
  step_bad ch of run =
      let c = more_choices made ch in
      let v = run_values last c in
      let fails : truths.IsLast (moved_id net bad) v k = record {
        before = λ j less. step_value ch j bad own_bad ∙ run.before j less;
        last = λ z. run.last (sym (step_value ch k bad own_bad) ∙ z);
      } in (
        λ i most. subst (λ xs. AllByRecursion (λ id. v i id ≡ 0 → ⊥) xs) (sym all_assumed)
            (moved_up net (λ id. v i id ≡ 0 → ⊥) (λ id. value_at net (step_cycle net ch i) id ≡ 0 → ⊥) net.assumes
            whole.assumes (λ id own other z. other (sym (step_value ch i id own) ∙ z)) (run.assumed i most)),
        not_zero (v k root) (says.tells c k (on Freed net made last 1 k r says.known ch of)
            ∙ truths.last_is (moved_id net bad) v k fails),
      )

  step_run : (ch : Choices) → AreChoicesOf net ch → IsBadRun last root k (more_choices made ch) → IsStepRun net bad k ch
  step_run ch of run =
      let c = more_choices made ch in
      let v = run_values last c in
      let of_last = on Freed net made last 1 k r says.known ch of in
      let small = bit_below last (run_cycle last c k) root whole_last (run_given last c k whole_last of_last)
      says.node in
      let said : fails_last (moved_id net bad) v k ≡ true =
      sym (says.tells c k of_last) ∙ one_of last (run_cycle last c k) root (v k root) small run.1 in
      let fails = truths.is_last (moved_id net bad) v k said in
      record {
        assumed = λ i most.
            moved_down net (λ id. v i id ≡ 0 → ⊥) (λ id. value_at net (step_cycle net ch i) id ≡ 0 → ⊥) net.assumes
            whole.assumes (λ id own other z. other (step_value ch i id own ∙ z))
            (subst (λ xs. AllByRecursion (λ id. v i id ≡ 0 → ⊥) xs) all_assumed (run.0 i most));
        before = λ j less. sym (step_value ch j bad own_bad) ∙ fails.before j less;
        last = λ z. fails.last (step_value ch k bad own_bad ∙ z);
      }

  pub has_step : (f : Frames) → AllByRecursion (IsChoice last k) f.sources → HasRoots last root k f
      → HasStep net bad k f
  has_step f own roots = λ ch of.
      let c = more_choices made ch in
      let other = same_other Freed net made last 1 k r says.known f ch own in
      let bad_runs = roots c (on Freed net made last 1 k r says.known ch of) in
      let to = λ (h : AreOther f ch). step_run ch of (bad_runs.0 (other.1 h)) in
      let from = λ (h : IsStepRun net bad k ch). other.0 (bad_runs.1 (step_bad ch of h)) in
      (to, from)
