-- Nets with the same inputs, and with registers and memories of the same widths and starts, have the same choices.
use Rattle.std.specs.Prelude.{◌≡◌, refl, ◌↔◌, ℕ, ◌+◌, ◌<◌, ◌^◌, List, [], ◌∷◌, length, map, slice_index}
use Rattle.std.proofs.Common.{ap, sym, ◌∙◌, arith, subst}
use Rattle.wn_net.specs.declared.parts.Input.{Input}
use Rattle.wn_net.specs.declared.parts.Reg.{Reg}
use Rattle.wn_net.specs.declared.parts.Mem.{Mem}
use Rattle.wn_net.specs.Value.{Given, word_at}
use Rattle.wn_net.specs.Given.{AreNumbersOf, HasWords, AreMemsOf, IsGiven}
use Rattle.wn_net.specs.Net.{Netlist}
use Rattle.wn_run.specs.Runs.{Choices, AreChoicesOf, inputs_from, inputs_at, reset_at, start_number, regs_from}
use Rattle.wn_run.specs.Runs.{words_from, mems_from, start_of}

pub record HasSameState (net part : Netlist) : Type 0 where
  pub inputs : part.inputs ≡ net.inputs
  pub regs_each : length part.regs ≡ length net.regs
  pub reg_widths : map (λ r. r.width) part.regs ≡ map (λ r. r.width) net.regs
  pub reg_starts : map (λ r. r.init) part.regs ≡ map (λ r. r.init) net.regs
  pub mems_each : length part.mems ≡ length net.mems
  pub mem_widths : map (λ m. m.width) part.mems ≡ map (λ m. m.width) net.mems
  pub mem_words : map (λ m. m.words) part.mems ≡ map (λ m. m.words) net.mems
  pub mem_starts : map (λ m. m.init) part.mems ≡ map (λ m. m.init) net.mems

regs_like : (f : ℕ → ℕ) (i : ℕ) (rs qs : List Reg) → map (λ r. r.init) qs ≡ map (λ r. r.init) rs
    → regs_from f i qs ≡ regs_from f i rs
regs_like f i [] [] e = refl
regs_like f i [] (q ∷ qs) e = cc
regs_like f i (r ∷ rs) [] e = cc
regs_like f i (r ∷ rs) (q ∷ qs) e =
    let first : q.init ≡ r.init = cc in
    let rest : map (λ r. r.init) qs ≡ map (λ r. r.init) rs = cc in
    let more = regs_like f (i + 1) rs qs rest in
    λ j. start_number (f i) (first j) ∷ more j

mems_like : (f : ℕ → ℕ → ℕ) (i : ℕ) (ms ks : List Mem) → map (λ m. m.init) ks ≡ map (λ m. m.init) ms
    → mems_from f i ks ≡ mems_from f i ms
mems_like f i [] [] e = refl
mems_like f i [] (k ∷ ks) e = cc
mems_like f i (m ∷ ms) [] e = cc
mems_like f i (m ∷ ms) (k ∷ ks) e =
    let first : k.init ≡ m.init = cc in
    let rest : map (λ m. m.init) ks ≡ map (λ m. m.init) ms = cc in
    let more = mems_like f (i + 1) ms ks rest in
    λ j. words_from (f i) 0 (first j) ∷ more j

pub same_inputs : (net part : Netlist) → HasSameState net part → (ch : Choices) (k : ℕ)
    → inputs_at part ch k ≡ inputs_at net ch k
same_inputs net part h ch k = ap (inputs_from (ch.each_cycle k) ch.once (reset_at k) 0) h.inputs

pub same_start : (net part : Netlist) → HasSameState net part → (ch : Choices) → start_of part ch ≡ start_of net ch
same_start net part h ch =
    let regs = regs_like ch.regs 0 net.regs part.regs h.reg_starts in
    let mems = mems_like ch.words 0 net.mems part.mems h.mem_starts in
    λ j. record { regs = regs j; mems = mems j }

pub back : (net part : Netlist) → HasSameState net part → HasSameState part net
back net part h = record {
  inputs = sym h.inputs;
  regs_each = sym h.regs_each;
  reg_widths = sym h.reg_widths;
  reg_starts = sym h.reg_starts;
  mems_each = sym h.mems_each;
  mem_widths = sym h.mem_widths;
  mem_words = sym h.mem_words;
  mem_starts = sym h.mem_starts;
}

choices_on : (net part : Netlist) → HasSameState net part → (ch : Choices) → AreChoicesOf net ch
    → AreChoicesOf part ch
choices_on net part h ch own =
    let Each : List Input → Type 0 = λ xs. (k i : ℕ) → i < length xs
    → ch.each_cycle k i < 2 ^ slice_index (map (λ x. x.width) xs) i in
    let Once : List Input → Type 0 = λ xs. (i : ℕ) → i < length xs
    → ch.once i < 2 ^ slice_index (map (λ x. x.width) xs) i in
    record {
      each_cycle = subst Each (sym h.inputs) own.each_cycle;
      once = subst Once (sym h.inputs) own.once;
      regs = λ i below.
          let P : List ℕ → Type 0 = λ ws. ch.regs i < 2 ^ slice_index ws i in
          let less : i < length net.regs = omega (arith, below, h.regs_each) in
          subst P (sym h.reg_widths) (own.regs i less);
      words = λ m i below.
          let P : List ℕ → Type 0 = λ ws. ch.words m i < 2 ^ slice_index ws m in
          let less : m < length net.mems = omega (arith, below, h.mems_each) in
          subst P (sym h.mem_widths) (own.words m i less);
    }

pub same_choices : (net part : Netlist) → HasSameState net part → (ch : Choices)
    → AreChoicesOf net ch ↔ AreChoicesOf part ch
same_choices net part h ch = (choices_on net part h ch, choices_on part net (back net part h) ch)

-- ---- numbers of a cycle

words_on : (m k : Mem) (words : List ℕ) → k.width ≡ m.width → k.words ≡ m.words → HasWords m words → HasWords k words
words_on m k words e f h = record {
  each = h.each ∙ sym f;
  below = λ i. let P : ℕ → Type 0 = λ w. word_at words i < 2 ^ w in subst P (sym e) (h.below i);
}

mems_on : (ms ks : List Mem) (ns : List (List ℕ)) → map (λ m. m.width) ks ≡ map (λ m. m.width) ms
    → map (λ m. m.words) ks ≡ map (λ m. m.words) ms → AreMemsOf ms ns → AreMemsOf ks ns
mems_on [] [] ns e f h = h
mems_on [] (k ∷ ks) ns e f h = cc
mems_on (m ∷ ms) [] ns e f h = cc
mems_on (m ∷ ms) (k ∷ ks) [] e f h = absurd h
mems_on (m ∷ ms) (k ∷ ks) (w ∷ ns) e f h =
    let width : k.width ≡ m.width = cc in
    let words : k.words ≡ m.words = cc in
    let widths : map (λ m. m.width) ks ≡ map (λ m. m.width) ms = cc in
    let counts : map (λ m. m.words) ks ≡ map (λ m. m.words) ms = cc in
    (words_on m k w width words h.0, mems_on ms ks ns widths counts h.1)

given_on : (net part : Netlist) → HasSameState net part → (g : Given) → IsGiven net g → IsGiven part g
given_on net part h g own =
    let Inputs : List Input → Type 0 = λ xs. AreNumbersOf (map (λ i. i.width) xs) g.inputs in
    let Regs : List ℕ → Type 0 = λ ws. AreNumbersOf ws g.state.regs in
    record {
      inputs = subst Inputs (sym h.inputs) own.inputs;
      state = record {
        regs = subst Regs (sym h.reg_widths) own.state.regs;
        mems = mems_on net.mems part.mems g.state.mems h.mem_widths h.mem_words own.state.mems;
      };
    }

pub same_given : (net part : Netlist) → HasSameState net part → (g : Given) → IsGiven net g ↔ IsGiven part g
same_given net part h g = (given_on net part h g, given_on part net (back net part h) g)
