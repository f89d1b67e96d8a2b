-- The numbers of each cycle are numbers of the net.
use Rattle.std.specs.Prelude.{◌≡◌, refl, ℕ, zero, suc, ◌+◌, ◌<◌, ◌≤◌, ◌^◌, List, [], ◌∷◌, length, map, slice_index}
use Rattle.std.specs.List.{AllByRecursion}
use Rattle.std.proofs.Common.{ap, sym, ◌∙◌, arith, subst, lit<}
use Rattle.std.proofs.Math.Pow.{pow_mono}
use Rattle.std.proofs.lemmas.Bool.Decides.{nat_tests}
use Rattle.std.proofs.lemmas.Nat.{pow_pos}
use Rattle.std.proofs.lemmas.List.{length-map}
use Rattle.wn_net.specs.declared.parts.Input.{Input}
use Rattle.wn_net.specs.declared.parts.InputKind.{InputKind}
use Rattle.wn_net.specs.declared.parts.InputKind.TheVariants.{EachCycle, Once, Reset}
use Rattle.wn_net.specs.declared.parts.Reg.{Reg}
use Rattle.wn_net.specs.declared.parts.Init.{Init}
use Rattle.wn_net.specs.declared.parts.Init.TheVariants.{Free, Known}
use Rattle.wn_net.specs.declared.parts.Mem.{Mem}
use Rattle.wn_net.specs.declared.parts.State.{State}
use Rattle.wn_net.specs.Width.{IsWidth}
use Rattle.wn_net.specs.Value.{word_at}
use Rattle.wn_net.specs.Net.{Netlist, IsNet, IsInitOf, IsRegOf, IsMemOf}
use Rattle.wn_net.specs.Given.{AreMemsOf, IsStateOf}
use Rattle.wn_net.proofs.Moved.{next_is_state}
use Rattle.wn_run.specs.Runs.{IsRun, by_kind, inputs_from, reset_at, start_number, regs_from, words_from, mems_from}
use Rattle.wn_run.specs.Runs.{state_at, cycle_at}
use Rattle.wn_run.specs.Laws.{CyclesAreGiven, ChoicesMakeRuns}

state_is : (net : Netlist) (inputs : ℕ → List ℕ) (start : State) (k : ℕ) → IsNet net → IsRun net inputs start
    → IsStateOf net (state_at net inputs start k)
state_is net inputs start zero whole run = run.start
state_is net inputs start (suc k) whole run =
    next_is_state net (cycle_at net inputs start k) whole
    (record { inputs = run.inputs k; state = state_is net inputs start k whole run })

pub cycles_given : CyclesAreGiven
cycles_given net inputs start k whole run =
    record { inputs = run.inputs k; state = state_is net inputs start k whole run }

-- ---- by choices

at_next : (f : ℕ → ℕ) (i j m : ℕ) → f (i + suc j) < m → f (i + 1 + j) < m
at_next f i j m h = let e : i + suc j ≡ i + 1 + j = omega arith in let P : ℕ → Type 0 = λ n. f n < m in subst P e h

at_first : (f : ℕ → ℕ) (i m : ℕ) → f (i + 0) < m → f i < m
at_first f i m h = let e : i + 0 ≡ i = omega arith in let P : ℕ → Type 0 = λ n. f n < m in subst P e h

one_fits : (r w : ℕ) → r ≤ 1 → 1 ≤ w → r < 2 ^ w
one_fits r w h k = let p : 2 ^ 1 ≤ 2 ^ w = pow_mono k in omega (arith, p)

kind_fits : (each once reset w : ℕ) (kind : InputKind) → each < 2 ^ w → once < 2 ^ w → reset < 2 ^ w
    → by_kind each once reset kind < 2 ^ w
kind_fits each once reset w EachCycle h k l = h
kind_fits each once reset w Once h k l = k
kind_fits each once reset w Reset h k l = l

length-inputs_from : (each once : ℕ → ℕ) (reset i : ℕ) (xs : List Input)
    → length (inputs_from each once reset i xs) ≡ length xs
length-inputs_from each once reset i [] = refl
length-inputs_from each once reset i (x ∷ xs) = ap suc (length-inputs_from each once reset (i + 1) xs)

inputs_below : (each once : ℕ → ℕ) (reset i : ℕ) (xs : List Input) → reset ≤ 1
    → AllByRecursion (λ x. IsWidth x.width) xs
    → ((j : ℕ) → j < length xs → each (i + j) < 2 ^ slice_index (map (λ x. x.width) xs) j)
    → ((j : ℕ) → j < length xs → once (i + j) < 2 ^ slice_index (map (λ x. x.width) xs) j)
    → (j : ℕ) → slice_index (inputs_from each once reset i xs) j < 2 ^ slice_index (map (λ x. x.width) xs) j
inputs_below each once reset i [] small wide h k j = lit< tt
inputs_below each once reset i (x ∷ xs) small wide h k zero =
    kind_fits (each i) (once i) reset x.width x.kind (at_first each i (2 ^ x.width) (h 0 (omega arith)))
    (at_first once i (2 ^ x.width) (k 0 (omega arith))) (one_fits reset x.width small wide.0.0)
inputs_below each once reset i (x ∷ xs) small wide h k (suc j) =
    inputs_below each once reset (i + 1) xs small wide.1 (λ l below. at_next each i l _ (h (suc l) (omega arith)))
    (λ l below. at_next once i l _ (k (suc l) (omega arith))) j

init_fits : (choice w : ℕ) (init : Init) → choice < 2 ^ w → IsInitOf w init → start_number choice init < 2 ^ w
init_fits choice w Free h k = h
init_fits choice w (Known n) h k = k

length-regs_from : (choices : ℕ → ℕ) (i : ℕ) (rs : List Reg) → length (regs_from choices i rs) ≡ length rs
length-regs_from choices i [] = refl
length-regs_from choices i (r ∷ rs) = ap suc (length-regs_from choices (i + 1) rs)

regs_below : (net : Netlist) (choices : ℕ → ℕ) (i : ℕ) (rs : List Reg) → AllByRecursion (IsRegOf net) rs
    → ((j : ℕ) → j < length rs → choices (i + j) < 2 ^ slice_index (map (λ r. r.width) rs) j)
    → (j : ℕ) → slice_index (regs_from choices i rs) j < 2 ^ slice_index (map (λ r. r.width) rs) j
regs_below net choices i [] own h j = lit< tt
regs_below net choices i (r ∷ rs) own h zero =
    init_fits (choices i) r.width r.init (at_first choices i (2 ^ r.width) (h 0 (omega arith))) own.0.init
regs_below net choices i (r ∷ rs) own h (suc j) =
    regs_below net choices (i + 1) rs own.1 (λ l below. at_next choices i l _ (h (suc l) (omega arith))) j

length-words_from : (choices : ℕ → ℕ) (i : ℕ) (xs : List Init) → length (words_from choices i xs) ≡ length xs
length-words_from choices i [] = refl
length-words_from choices i (x ∷ xs) = ap suc (length-words_from choices (i + 1) xs)

words_below : (choices : ℕ → ℕ) (i w : ℕ) (xs : List Init) → AllByRecursion (IsInitOf w) xs
    → ((j : ℕ) → choices j < 2 ^ w)
    → (j : ℕ) → word_at (words_from choices i xs) j < 2 ^ w
words_below choices i w [] own h j = pow_pos w
words_below choices i w (x ∷ xs) own h zero = init_fits (choices i) w x (h i) own.0
words_below choices i w (x ∷ xs) own h (suc j) = words_below choices (i + 1) w xs own.1 h j

next_mem : (f : ℕ → ℕ → ℕ) (i j a m : ℕ) → f (i + suc j) a < m → f (i + 1 + j) a < m
next_mem f i j a m h = let e : i + suc j ≡ i + 1 + j = omega arith in let P : ℕ → Type 0 = λ n. f n a < m in subst P e h

first_mem : (f : ℕ → ℕ → ℕ) (i a m : ℕ) → f (i + 0) a < m → f i a < m
first_mem f i a m h = let e : i + 0 ≡ i = omega arith in let P : ℕ → Type 0 = λ n. f n a < m in subst P e h

mems_are : (net : Netlist) (choices : ℕ → ℕ → ℕ) (i : ℕ) (ms : List Mem) → AllByRecursion (IsMemOf net) ms
    → ((j a : ℕ) → j < length ms → choices (i + j) a < 2 ^ slice_index (map (λ m. m.width) ms) j)
    → AreMemsOf ms (mems_from choices i ms)
mems_are net choices i [] own h = tt
mems_are net choices i (m ∷ ms) own h = (
  record {
    each = length-words_from (choices i) 0 m.init ∙ own.0.each;
    below = words_below (choices i) 0 m.width m.init own.0.init
        (λ a. first_mem choices i a (2 ^ m.width) (h 0 a (omega arith)));
  },
  mems_are net choices (i + 1) ms own.1 (λ j a below. next_mem choices i j a _ (h (suc j) a (omega arith))),
)

reset_small : (k : ℕ) → reset_at k ≤ 1
reset_small k = grind (arith, nat_tests)

plain : (f : ℕ → ℕ) (j m : ℕ) → f j < m → f (0 + j) < m
plain f j m h = let e : j ≡ 0 + j = omega arith in let P : ℕ → Type 0 = λ n. f n < m in subst P e h

plain_mem : (f : ℕ → ℕ → ℕ) (j a m : ℕ) → f j a < m → f (0 + j) a < m
plain_mem f j a m h = let e : j ≡ 0 + j = omega arith in let P : ℕ → Type 0 = λ n. f n a < m in subst P e h

pub choices_run : ChoicesMakeRuns
choices_run net ch whole own = record {
  inputs = λ k. record {
    each = length-inputs_from (ch.each_cycle k) ch.once (reset_at k) 0 net.inputs
        ∙ sym (length-map net.inputs (λ i. i.width));
    below =
        inputs_below (ch.each_cycle k) ch.once (reset_at k) 0 net.inputs (reset_small k) whole.inputs
        (λ j below. plain (ch.each_cycle k) j _ (own.each_cycle k j below))
        (λ j below. plain ch.once j _ (own.once j below));
  };
  start = record {
    regs = record {
      each = length-regs_from ch.regs 0 net.regs ∙ sym (length-map net.regs (λ r. r.width));
      below = regs_below net ch.regs 0 net.regs whole.regs (λ j below. plain ch.regs j _ (own.regs j below));
    };
    mems = mems_are net ch.words 0 net.mems whole.mems (λ j a below. plain_mem ch.words j a _ (own.words j a below));
  };
}
