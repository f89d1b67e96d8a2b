-- No run of any length.
use Rattle.std.specs.Prelude.{◌≡◌, refl, ℕ, zero, suc, ◌+◌, ◌==◌, Bool, true}
use Rattle.std.proofs.Common.{ap, sym, ◌∙◌, arith, subst}
use Rattle.std.proofs.lemmas.Bool.{eqb-true}
use Rattle.wn_net.specs.Value.{Given}
use Rattle.wn_net.specs.Net.{Netlist, IsNet, value_at}
use Rattle.wn_run.specs.Runs.{Choices, AreChoicesOf, IsAssumed, IsMet, inputs_at, start_of}
use Rattle.bm_induct.specs.Lengths.{HoldsFirst, HoldsBehind}
use Rattle.bm_induct.specs.StepRuns.{IsBaseRun, IsStepRun, run_cycle, step_cycle}
use Rattle.bm_induct.specs.Laws.{IsPart, NoneOfAnyLength}
use Rattle.bm_induct.proofs.ByLength.{each_length}
use Rattle.bm_induct.proofs.Parts.{parts_are}

-- what isn't other than 0 is 0
not_other : (n : ℕ) → ((n ≡ 0 → ⊥) → ⊥) → (n == 0) ≡ true
not_other zero h = refl
not_other (suc n) h = absurd (h (λ e. absurd (omega (arith, e))))

module _ (net : Netlist) (bad k : ℕ) (ch : Choices) (last : ℕ) (whole : IsNet net) (of : AreChoicesOf net ch)
    (assumed : IsAssumed net (inputs_at net ch) (start_of net ch) last) where
  abbrev holds : ℕ → Bool
  holds j = value_at net (run_cycle net ch j) bad == 0

  first_hold : ((c : Choices) → AreChoicesOf net c → IsBaseRun net bad k c → ⊥) → HoldsFirst holds k last
  first_hold none j some few within =
      not_other (value_at net (run_cycle net ch j) bad) (λ fails. none ch of (record {
        at = j;
        some = some;
        few = few;
        assumed = λ n most. assumed n (omega (arith, most, within));
        fails = fails;
      }))

  behind_hold : ((c : Choices) → AreChoicesOf net c → IsStepRun net bad k c → ⊥) → HoldsBehind holds k last
  behind_hold none i some within before =
      let found = parts_are net i ch whole of some in
      let part = found.0 in
      let own : IsPart net i ch part = found.1 in
      let same : (j : ℕ) → value_at net (step_cycle net part j) bad ≡ value_at net (run_cycle net ch (i + j)) bad =
      λ j. ap (λ g. value_at net g bad) (own.cycles j) in
      not_other (value_at net (run_cycle net ch (i + k)) bad) (λ fails. none part own.of_net (record {
        assumed = λ n most. subst (λ (g : Given). IsMet net g) (sym (own.cycles n))
            (assumed (i + n) (omega (arith, most, within)));
        before = λ j less. same j ∙ eqb-true (value_at net (run_cycle net ch (i + j)) bad) 0 (before j less);
        last = λ e. fails (sym (same k) ∙ e);
      }))

pub none_of_any_length : NoneOfAnyLength
none_of_any_length net bad k whole base step ch j of some assumed =
    eqb-true (value_at net (run_cycle net ch j) bad) 0
    (each_length (holds net bad k ch j whole of assumed) k j (first_hold net bad k ch j whole of assumed base)
    (behind_hold net bad k ch j whole of assumed step) j some (omega arith))
