-- Choices for a net with more registers.
use Rattle.std.specs.Prelude.{◌≡◌, refl, ℕ, zero, suc, ◌+◌, ◌<◌, ◌≤◌, ◌^◌, Bool, true, false, nat_lt, if◌then◌else◌}
use Rattle.std.specs.Prelude.{List, [], ◌∷◌, length, map, take, slice_index}
use Rattle.std.proofs.Common.{ap, ◌∙◌, arith}
use Rattle.std.proofs.lemmas.Bool.Decides.{nat_tests}
use Rattle.std.proofs.lemmas.Nat.{pow_pos}
use Rattle.std.proofs.lemmas.List.{length-map}
use Rattle.wn_net.specs.declared.parts.Reg.{Reg}
use Rattle.wn_net.specs.Net.{Netlist}
use Rattle.wn_net.proofs.Begun.{begun_map, begun_at}
use Rattle.wn_run.specs.Runs.{Choices, AreChoicesOf, inputs_from, reset_at, start_number, regs_from, mems_from}
use Rattle.wn_run.specs.Laws.{OldPartsBeginAsOldRuns, RunsExtend}

take_regs : (choices : ℕ → ℕ) (i n : ℕ) (rs : List Reg)
    → take n (regs_from choices i rs) ≡ regs_from choices i (take n rs)
take_regs choices i zero rs = refl
take_regs choices i (suc n) [] = refl
take_regs choices i (suc n) (r ∷ rs) = ap (λ ns. start_number (choices i) r.init ∷ ns) (take_regs choices (i + 1) n rs)

pub begins_as : OldPartsBeginAsOldRuns
begins_as old new ch adds = record {
  inputs = λ k. ap (inputs_from (ch.each_cycle k) ch.once (reset_at k) 0) adds.inputs;
  start = λ j. record {
    regs = (take_regs ch.regs 0 (length old.regs) new.regs ∙ ap (regs_from ch.regs 0) adds.regs) j;
    mems = ap (mems_from ch.words 0) adds.mems j;
  };
}

-- the choices, and 0 for the registers from n on
abbrev first_choices : ℕ → (ℕ → ℕ) → ℕ → ℕ
first_choices n choices i = if nat_lt i n then choices i else 0

first_is : (n i : ℕ) (choices : ℕ → ℕ) → i < n → first_choices n choices i ≡ choices i
first_is n i choices h = grind (arith, nat_tests)

same_regs : (n i : ℕ) (choices : ℕ → ℕ) (rs : List Reg) → i + length rs ≤ n
    → regs_from (first_choices n choices) i rs ≡ regs_from choices i rs
same_regs n i choices [] h = refl
same_regs n i choices (r ∷ rs) h =
    λ j. start_number (first_is n i choices (omega arith) j) r.init ∷ same_regs n (i + 1) choices rs (omega arith) j

more_fit : (n i w : ℕ) (choices : ℕ → ℕ) → (i < n → choices i < 2 ^ w) → first_choices n choices i < 2 ^ w
more_fit n i w choices h = by (nat_lt i n) refl
  where
    by : (b : Bool) → nat_lt i n ≡ b → (if b then choices i else 0) < 2 ^ w
    by true e = h (grind (arith, nat_tests, e))
    by false e = pow_pos w

pub extends : RunsExtend
extends old new ch adds own =
    let n = length old.regs in
    let more : Choices = record {
      each_cycle = ch.each_cycle;
      once = ch.once;
      regs = first_choices n ch.regs;
      words = ch.words;
    } in
    let begins = begins_as old new more adds in
    let P : Netlist → Type 0 = λ m. AreChoicesOf m ch in
    let widths = begun_map (λ r. r.width) old.regs new.regs adds.regs in
    record {
      more = more;
      choices = record {
        each_cycle = λ k i below.
            let e : length new.inputs ≡ length old.inputs = ap length adds.inputs in
            rw adds.inputs (own.each_cycle k i (omega (arith, e, below)));
        once = λ i below.
            let e : length new.inputs ≡ length old.inputs = ap length adds.inputs in
            rw adds.inputs (own.once i (omega (arith, e, below)));
        regs = λ i below.
            more_fit n i (slice_index (map (λ r. r.width) new.regs) i) ch.regs
            (λ less. rw (begun_at _ _ i widths (omega (arith, less, length-map old.regs (λ (r : Reg). r.width))))
            (own.regs i less));
        words = λ m i below.
            let e : length new.mems ≡ length old.mems = ap length adds.mems in
            rw adds.mems (own.words m i (omega (arith, e, below)));
      };
      inputs = begins.inputs;
      start = begins.start ∙ (λ j. record {
        regs = same_regs n 0 ch.regs old.regs (omega arith) j;
        mems = mems_from ch.words 0 old.mems;
      });
    }
