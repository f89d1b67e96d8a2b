-- The numbers of each cycle of a step run are numbers of the net.
use Rattle.std.specs.Prelude.{◌≡◌, refl, ℕ, zero, suc, ◌+◌, ◌<◌, ◌^◌, List, [], ◌∷◌, length, map, slice_index}
use Rattle.std.specs.List.{AllByRecursion}
use Rattle.std.proofs.Common.{ap, sym, ◌∙◌, arith, subst, lit<}
use Rattle.std.proofs.lemmas.Nat.{pow_pos}
use Rattle.std.proofs.lemmas.List.{length-map}
use Rattle.wn_net.specs.declared.parts.Init.{Init}
use Rattle.wn_net.specs.declared.parts.Input.{Input}
use Rattle.wn_net.specs.declared.parts.Reg.{Reg}
use Rattle.wn_net.specs.declared.parts.Mem.{Mem}
use Rattle.wn_net.specs.Value.{word_at}
use Rattle.wn_net.specs.Given.{AreInputsOf, AreMemsOf, IsGiven}
use Rattle.wn_net.specs.Net.{Netlist, IsMemOf, IsNet}
use Rattle.wn_run.specs.Runs.{Choices, AreChoicesOf, IsRun, inputs_at, inputs_from}
use Rattle.wn_run.proofs.Given.{choices_run, cycles_given}
use Rattle.vl_lower_spec.specs.Evaluations.{HaveReset, KeepOnce}
use Rattle.vl_lower_spec.proofs.Inputs.{has_reset, keeps_once, reset_later}
use Rattle.bm_induct.specs.StepRuns.{all_mems, all_regs, all_words, step_cycle, step_inputs, step_start}

-- ---- inputs: those of a run from cycle 1 on

abbrev later : (ℕ → ℕ → ℕ) → ℕ → ℕ → ℕ
later f zero = f 0
later f (suc k) = f k

abbrev moved : Choices → Choices
moved ch = record ch { each_cycle = later ch.each_cycle }

moved_of : (net : Netlist) (ch : Choices) → AreChoicesOf net ch → AreChoicesOf net (moved ch)
moved_of net ch of = record { each_cycle = each; once = of.once; regs = of.regs; words = of.words }
  where
    each : (k i : ℕ) → i < length net.inputs
        → later ch.each_cycle k i < 2 ^ slice_index (map (λ (x : Input). x.width) net.inputs) i
    each zero i below = of.each_cycle 0 i below
    each (suc k) i below = of.each_cycle k i below

pub same_inputs : (net : Netlist) (ch : Choices) (k : ℕ) → inputs_at net (moved ch) (suc k) ≡ step_inputs net ch k
same_inputs net ch k = ap (λ r. inputs_from (ch.each_cycle k) ch.once r 0 net.inputs) (reset_later k)

-- ---- starts

length-regs : (choices : ℕ → ℕ) (i : ℕ) (rs : List Reg) → length (all_regs choices i rs) ≡ length rs
length-regs choices i [] = refl
length-regs choices i (r ∷ rs) = ap suc (length-regs choices (i + 1) rs)

at_next : (f : ℕ → ℕ) (i j m : ℕ) → f (i + suc j) < m → f (i + 1 + j) < m
at_next f i j m h = let e : i + suc j ≡ i + 1 + j = omega arith in let P : ℕ → Type 0 = λ n. f n < m in subst P e h

at_first : (f : ℕ → ℕ) (i m : ℕ) → f (i + 0) < m → f i < m
at_first f i m h = let e : i + 0 ≡ i = omega arith in let P : ℕ → Type 0 = λ n. f n < m in subst P e h

regs_below : (choices : ℕ → ℕ) (i : ℕ) (rs : List Reg)
    → ((j : ℕ) → j < length rs → choices (i + j) < 2 ^ slice_index (map (λ r. r.width) rs) j)
    → (j : ℕ) → slice_index (all_regs choices i rs) j < 2 ^ slice_index (map (λ r. r.width) rs) j
regs_below choices i [] h j = lit< tt
regs_below choices i (r ∷ rs) h zero = at_first choices i (2 ^ r.width) (h 0 (omega arith))
regs_below choices i (r ∷ rs) h (suc j) =
    regs_below choices (i + 1) rs (λ l below. at_next choices i l _ (h (suc l) (omega (arith, below)))) j

length-words : (choices : ℕ → ℕ) (i : ℕ) (xs : List Init) → length (all_words choices i xs) ≡ length xs
length-words choices i [] = refl
length-words choices i (x ∷ xs) = ap suc (length-words choices (i + 1) xs)

words_below : (choices : ℕ → ℕ) (i w : ℕ) (xs : List Init) → ((j : ℕ) → choices j < 2 ^ w) → (j : ℕ)
    → word_at (all_words choices i xs) j < 2 ^ w
words_below choices i w [] h j = pow_pos w
words_below choices i w (x ∷ xs) h zero = h i
words_below choices i w (x ∷ xs) h (suc j) = words_below choices (i + 1) w xs h j

next_mem : (f : ℕ → ℕ → ℕ) (i j a m : ℕ) → f (i + suc j) a < m → f (i + 1 + j) a < m
next_mem f i j a m h = let e : i + suc j ≡ i + 1 + j = omega arith in let P : ℕ → Type 0 = λ n. f n a < m in subst P e h

first_mem : (f : ℕ → ℕ → ℕ) (i a m : ℕ) → f (i + 0) a < m → f i a < m
first_mem f i a m h = let e : i + 0 ≡ i = omega arith in let P : ℕ → Type 0 = λ n. f n a < m in subst P e h

mems_are : (net : Netlist) (choices : ℕ → ℕ → ℕ) (i : ℕ) (ms : List Mem) → AllByRecursion (IsMemOf net) ms
    → ((j a : ℕ) → j < length ms → choices (i + j) a < 2 ^ slice_index (map (λ m. m.width) ms) j)
    → AreMemsOf ms (all_mems choices i ms)
mems_are net choices i [] own h = tt
mems_are net choices i (m ∷ ms) own h = (
  record {
    each = length-words (choices i) 0 m.init ∙ own.0.each;
    below = words_below (choices i) 0 m.width m.init
        (λ a. first_mem choices i a (2 ^ m.width) (h 0 a (omega arith)));
  },
  mems_are net choices (i + 1) ms own.1
      (λ j a below. next_mem choices i j a _ (h (suc j) a (omega (arith, below)))),
)

plain : (f : ℕ → ℕ) (j m : ℕ) → f j < m → f (0 + j) < m
plain f j m h = let e : j ≡ 0 + j = omega arith in let P : ℕ → Type 0 = λ n. f n < m in subst P e h

plain_mem : (f : ℕ → ℕ → ℕ) (j a m : ℕ) → f j a < m → f (0 + j) a < m
plain_mem f j a m h = let e : j ≡ 0 + j = omega arith in let P : ℕ → Type 0 = λ n. f n a < m in subst P e h

-- ---- cycles

steps_run : (net : Netlist) (ch : Choices) → IsNet net → AreChoicesOf net ch
    → IsRun net (step_inputs net ch) (step_start net ch)
steps_run net ch whole of = record {
  inputs = λ k.
      subst (λ ns. AreInputsOf net ns) (same_inputs net ch k)
      ((choices_run net (moved ch) whole (moved_of net ch of)).inputs (suc k));
  start = record {
    regs = record {
      each = length-regs ch.regs 0 net.regs ∙ sym (length-map net.regs (λ r. r.width));
      below = regs_below ch.regs 0 net.regs (λ j below. plain ch.regs j _ (of.regs j below));
    };
    mems = mems_are net ch.words 0 net.mems whole.mems (λ j a below. plain_mem ch.words j a _ (of.words j a below));
  };
}

pub step_given : (net : Netlist) (ch : Choices) (k : ℕ) → IsNet net → AreChoicesOf net ch
    → IsGiven net (step_cycle net ch k)
step_given net ch k whole of =
    cycles_given net (step_inputs net ch) (step_start net ch) k whole (steps_run net ch whole of)

-- ---- resets, and what is chosen once

pub no_reset : (net : Netlist) (ch : Choices) (k : ℕ) → HaveReset net 0 (step_inputs net ch k)
no_reset net ch k =
    let Q : List ℕ → Type 0 = λ ns. HaveReset net 0 ns in
    subst Q (same_inputs net ch k)
    (subst (λ y. HaveReset net y (inputs_at net (moved ch) (suc k))) (reset_later k) (has_reset net (moved ch) (suc k)))

pub once_kept : (net : Netlist) (ch : Choices) (k : ℕ)
    → KeepOnce net (step_inputs net ch k) (step_inputs net ch (suc k))
once_kept net ch k =
    let P : List ℕ → Type 0 = λ ns. KeepOnce net ns (step_inputs net ch (suc k)) in
    let Q : List ℕ → Type 0 = λ ns. KeepOnce net (inputs_at net (moved ch) (suc k)) ns in
    subst P (same_inputs net ch k) (subst Q (same_inputs net ch (suc k)) (keeps_once net (moved ch) (suc k)))
