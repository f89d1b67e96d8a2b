-- The runs of a net that was built anew.
use Rattle.std.specs.Prelude.{◌≡◌, refl, ℕ, zero, suc, ◌+◌, ◌<◌, ◌^◌, if◌then◌else◌}
use Rattle.std.specs.Prelude.{List, [], ◌∷◌, length, map, slice_index}
use Rattle.std.proofs.Common.{ap, sym, ◌∙◌, arith, subst}
use Rattle.std.proofs.lemmas.List.{length-map}
use Rattle.wn_net.specs.declared.parts.Input.{Input}
use Rattle.wn_net.specs.declared.parts.InputKind.{InputKind}
use Rattle.wn_net.specs.declared.parts.InputKind.TheVariants.{EachCycle, Once, Reset}
use Rattle.wn_net.specs.declared.parts.Init.{Init}
use Rattle.wn_net.specs.declared.parts.Reg.{Reg}
use Rattle.wn_net.specs.declared.parts.Mem.{Mem}
use Rattle.wn_net.specs.declared.parts.State.{State}
use Rattle.wn_net.specs.Given.{given}
use Rattle.wn_net.specs.Net.{Netlist, IsNet, IsNode, value_at}
use Rattle.wn_net.specs.Changes.{AddsRegs}
use Rattle.wn_net.specs.Next.{next_state}
use Rattle.wn_run.specs.Runs.{Choices, AreChoicesOf, by_kind, cycle_at, inputs_at, inputs_from, mems_from}
use Rattle.wn_run.specs.Runs.{regs_from, reset_at, start_number, start_of, state_at, words_from}
use Rattle.wn_run.proofs.OldRun.{old_run}
use Rattle.wn_run.proofs.Chosen.{begins_as}
use Rattle.bm_induct.specs.StepRuns.{all_mems, all_regs, all_words, run_cycle, step_cycle, step_inputs, step_start}
use Rattle.bm_induct.specs.declared.how.Rebuild.{Rebuild}
use Rattle.bm_induct.specs.declared.how.Rebuild.TheVariants.{Waived, Freed}
use Rattle.bm_induct.specs.Rebuilt.{IsRebuilt, held_inputs, is_held, moved_id, start_for}

-- ---- inputs as nodes see them

waived_inputs : (xs : List Input) (ns : List ℕ) → held_inputs Waived xs ns ≡ ns
waived_inputs [] ns = refl
waived_inputs (x ∷ xs) [] = refl
waived_inputs (x ∷ xs) (n ∷ ns) = ap (λ us. n ∷ us) (waived_inputs xs ns)

no_reset : (each once reset : ℕ) (kind : InputKind)
    → (if is_held Freed kind then 0 else by_kind each once reset kind) ≡ by_kind each once 0 kind
no_reset each once reset EachCycle = refl
no_reset each once reset Once = refl
no_reset each once reset Reset = refl

freed_inputs : (each once : ℕ → ℕ) (reset i : ℕ) (xs : List Input)
    → held_inputs Freed xs (inputs_from each once reset i xs) ≡ inputs_from each once 0 i xs
freed_inputs each once reset i [] = refl
freed_inputs each once reset i (x ∷ xs) = λ j.
    no_reset (each i) (once i) reset x.kind j ∷ freed_inputs each once reset (i + 1) xs j

-- ---- starts, by what registers and words begin with

regs_by : (choices : ℕ → ℕ) (i : ℕ) (rs : List Reg)
    → regs_from choices i rs ≡ words_from choices i (map (λ r. r.init) rs)
regs_by choices i [] = refl
regs_by choices i (r ∷ rs) = ap (λ us. start_number (choices i) r.init ∷ us) (regs_by choices (i + 1) rs)

abbrev mems_by : (ℕ → ℕ → ℕ) → ℕ → List (List Init) → List (List ℕ)
mems_by choices i [] = []
mems_by choices i (xs ∷ rest) = words_from (choices i) 0 xs ∷ mems_by choices (i + 1) rest

mems_are : (choices : ℕ → ℕ → ℕ) (i : ℕ) (ms : List Mem)
    → mems_from choices i ms ≡ mems_by choices i (map (λ m. m.init) ms)
mems_are choices i [] = refl
mems_are choices i (m ∷ ms) = ap (λ us. words_from (choices i) 0 m.init ∷ us) (mems_are choices (i + 1) ms)

free_regs : (choices : ℕ → ℕ) (i : ℕ) (rs : List Reg)
    → words_from choices i (map (λ r. start_for Freed r.init) rs) ≡ all_regs choices i rs
free_regs choices i [] = refl
free_regs choices i (r ∷ rs) = ap (λ us. choices i ∷ us) (free_regs choices (i + 1) rs)

free_words : (choices : ℕ → ℕ) (i : ℕ) (xs : List Init)
    → words_from choices i (map (start_for Freed) xs) ≡ all_words choices i xs
free_words choices i [] = refl
free_words choices i (x ∷ xs) = ap (λ us. choices i ∷ us) (free_words choices (i + 1) xs)

free_mems : (choices : ℕ → ℕ → ℕ) (i : ℕ) (ms : List Mem)
    → mems_by choices i (map (λ m. map (start_for Freed) m.init) ms) ≡ all_mems choices i ms
free_mems choices i [] = refl
free_mems choices i (m ∷ ms) = λ j. free_words (choices i) 0 m.init j ∷ free_mems choices (i + 1) ms j

same_words : (xs : List Init) → map (start_for Waived) xs ≡ xs
same_words [] = refl
same_words (x ∷ xs) = ap (λ us. x ∷ us) (same_words xs)

same_mems : (choices : ℕ → ℕ → ℕ) (i : ℕ) (ms : List Mem)
    → mems_by choices i (map (λ m. map (start_for Waived) m.init) ms) ≡ mems_from choices i ms
same_mems choices i [] = refl
same_mems choices i (m ∷ ms) = λ j.
    words_from (choices i) 0 (same_words m.init j) ∷ same_mems choices (i + 1) ms j

same_regs : (choices : ℕ → ℕ) (i : ℕ) (rs : List Reg)
    → words_from choices i (map (λ r. start_for Waived r.init) rs) ≡ regs_from choices i rs
same_regs choices i [] = refl
same_regs choices i (r ∷ rs) = ap (λ us. start_number (choices i) r.init ∷ us) (same_regs choices (i + 1) rs)

waived_start : (net made : Netlist) (ch : Choices) → IsRebuilt Waived net made → start_of made ch ≡ start_of net ch
waived_start net made ch r = λ j. record {
  regs =
      (regs_by ch.regs 0 made.regs ∙ ap (words_from ch.regs 0) r.reg_starts ∙ same_regs ch.regs 0 net.regs) j;
  mems =
      (mems_are ch.words 0 made.mems ∙ ap (mems_by ch.words 0) r.mem_starts ∙ same_mems ch.words 0 net.mems) j;
}

freed_start : (net made : Netlist) (ch : Choices) → IsRebuilt Freed net made → start_of made ch ≡ step_start net ch
freed_start net made ch r = λ j. record {
  regs =
      (regs_by ch.regs 0 made.regs ∙ ap (words_from ch.regs 0) r.reg_starts ∙ free_regs ch.regs 0 net.regs) j;
  mems =
      (mems_are ch.words 0 made.mems ∙ ap (mems_by ch.words 0) r.mem_starts ∙ free_mems ch.words 0 net.mems) j;
}

-- ---- cycles

-- the state in a cycle is that of the old net under the inputs as its nodes see them
same_state : (how : Rebuild) (net made : Netlist) (inputs : ℕ → List ℕ) (start : State) (k : ℕ)
    → IsRebuilt how net made
    → state_at made inputs start k ≡ state_at net (λ i. held_inputs how net.inputs (inputs i)) start k
same_state how net made inputs start zero r = refl
same_state how net made inputs start (suc k) r =
    r.next (given (inputs k) (state_at made inputs start k))
    ∙ ap (λ s. next_state net (given (held_inputs how net.inputs (inputs k)) s))
    (same_state how net made inputs start k r)

same_value : (how : Rebuild) (net made : Netlist) (inputs : ℕ → List ℕ) (start : State) (k id : ℕ)
    → IsRebuilt how net made → IsNode net id
    → value_at made (cycle_at made inputs start k) (moved_id net id)
    ≡ value_at net (cycle_at net (λ i. held_inputs how net.inputs (inputs i)) start k) id
same_value how net made inputs start k id r own =
    r.value (cycle_at made inputs start k) id own
    ∙ ap (λ s. value_at net (given (held_inputs how net.inputs (inputs k)) s) id)
    (same_state how net made inputs start k r)

pub waived_inputs_at : (net made : Netlist) (ch : Choices) → IsRebuilt Waived net made
    → (λ (i : ℕ). held_inputs Waived net.inputs (inputs_at made ch i)) ≡ inputs_at net ch
waived_inputs_at net made ch r = λ j i.
    (waived_inputs net.inputs (inputs_at made ch i)
    ∙ ap (inputs_from (ch.each_cycle i) ch.once (reset_at i) 0) r.inputs) j

pub freed_inputs_at : (net made : Netlist) (ch : Choices) → IsRebuilt Freed net made
    → (λ (i : ℕ). held_inputs Freed net.inputs (inputs_at made ch i)) ≡ step_inputs net ch
freed_inputs_at net made ch r = λ j i.
    (ap (λ xs. held_inputs Freed net.inputs (inputs_from (ch.each_cycle i) ch.once (reset_at i) 0 xs)) r.inputs
    ∙ freed_inputs (ch.each_cycle i) ch.once (reset_at i) 0 net.inputs) j

-- the value of a node in a cycle of a run is that of the old net in this cycle
pub waived_value : (net made : Netlist) (ch : Choices) (k id : ℕ) → IsRebuilt Waived net made → IsNode net id
    → value_at made (run_cycle made ch k) (moved_id net id) ≡ value_at net (run_cycle net ch k) id
waived_value net made ch k id r own =
    same_value Waived net made (inputs_at made ch) (start_of made ch) k id r own
    ∙ (λ j. value_at net (cycle_at net (waived_inputs_at net made ch r j) (waived_start net made ch r j) k) id)

-- and of a step run
pub freed_value : (net made : Netlist) (ch : Choices) (k id : ℕ) → IsRebuilt Freed net made → IsNode net id
    → value_at made (run_cycle made ch k) (moved_id net id) ≡ value_at net (step_cycle net ch k) id
freed_value net made ch k id r own =
    same_value Freed net made (inputs_at made ch) (start_of made ch) k id r own
    ∙ (λ j. value_at net (cycle_at net (freed_inputs_at net made ch r j) (freed_start net made ch r j) k) id)

pub freed_state : (net made : Netlist) (ch : Choices) (k : ℕ) → IsRebuilt Freed net made
    → (run_cycle made ch k).state ≡ (step_cycle net ch k).state
freed_state net made ch k r =
    same_state Freed net made (inputs_at made ch) (start_of made ch) k r
    ∙ (λ j. state_at net (freed_inputs_at net made ch r j) (freed_start net made ch r j) k)

-- ---- choices

-- choices have widths alone, and these are the old ones
pub same_choices : (how : Rebuild) (net made : Netlist) (ch : Choices) → IsRebuilt how net made → AreChoicesOf net ch
    → AreChoicesOf made ch
same_choices how net made ch r of =
    let regs : length made.regs ≡ length net.regs =
    sym (length-map made.regs (λ (r : Reg). r.width)) ∙ ap length r.reg_widths
    ∙ length-map net.regs (λ (r : Reg). r.width) in
    let mems : length made.mems ≡ length net.mems =
    sym (length-map made.mems (λ (m : Mem). m.width)) ∙ ap length r.mem_widths
    ∙ length-map net.mems (λ (m : Mem). m.width) in
    let inputs : length made.inputs ≡ length net.inputs = ap length r.inputs in
    record {
      each_cycle = λ k i below.
          subst (λ xs. ch.each_cycle k i < 2 ^ slice_index (map (λ x. x.width) xs) i) (sym r.inputs)
          (of.each_cycle k i (omega (arith, below, inputs)));
      once = λ i below.
          subst (λ xs. ch.once i < 2 ^ slice_index (map (λ x. x.width) xs) i) (sym r.inputs)
          (of.once i (omega (arith, below, inputs)));
      regs = λ i below.
          subst (λ ws. ch.regs i < 2 ^ slice_index ws i) (sym r.reg_widths) (of.regs i (omega (arith, below, regs)));
      words = λ m i below.
          subst (λ ws. ch.words m i < 2 ^ slice_index ws m) (sym r.mem_widths)
          (of.words m i (omega (arith, below, mems)));
    }

pub old_choices : (how : Rebuild) (net made : Netlist) (ch : Choices) → IsRebuilt how net made → AreChoicesOf made ch
    → AreChoicesOf net ch
old_choices how net made ch r of =
    let regs : length made.regs ≡ length net.regs =
    sym (length-map made.regs (λ (r : Reg). r.width)) ∙ ap length r.reg_widths
    ∙ length-map net.regs (λ (r : Reg). r.width) in
    let mems : length made.mems ≡ length net.mems =
    sym (length-map made.mems (λ (m : Mem). m.width)) ∙ ap length r.mem_widths
    ∙ length-map net.mems (λ (m : Mem). m.width) in
    let inputs : length made.inputs ≡ length net.inputs = ap length r.inputs in
    record {
      each_cycle = λ k i below.
          subst (λ xs. ch.each_cycle k i < 2 ^ slice_index (map (λ x. x.width) xs) i) r.inputs
          (of.each_cycle k i (omega (arith, below, inputs)));
      once = λ i below.
          subst (λ xs. ch.once i < 2 ^ slice_index (map (λ x. x.width) xs) i) r.inputs
          (of.once i (omega (arith, below, inputs)));
      regs = λ i below.
          subst (λ ws. ch.regs i < 2 ^ slice_index ws i) r.reg_widths (of.regs i (omega (arith, below, regs)));
      words = λ m i below.
          subst (λ ws. ch.words m i < 2 ^ slice_index ws m) r.mem_widths (of.words m i (omega (arith, below, mems)));
    }

-- ---- with more nodes and registers

-- the value of a node that was there, in a cycle of a run
pub carried : (old new : Netlist) (ch : Choices) (k id : ℕ) → IsNet old → AddsRegs old new → IsNode old id
    → value_at new (run_cycle new ch k) id ≡ value_at old (run_cycle old ch k) id
carried old new ch k id whole adds own =
    let begins = begins_as old new ch adds in
    let same : inputs_at new ch ≡ inputs_at old ch = λ j i. begins.inputs i j in
    (old_run old new (inputs_at new ch) (start_of new ch) k whole adds).value id own
    ∙ (λ j. value_at old (cycle_at old (same j) (begins.start j) k) id)
