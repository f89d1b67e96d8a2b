-- The cycles of a run from one of them on.
use Rattle.std.specs.Prelude.{◌≡◌, refl, ℕ, zero, suc, ◌+◌, ◌<◌, ◌≤◌, ◌==◌, ◌^◌, if◌then◌else◌, Bool, true, false}
use Rattle.std.specs.Prelude.{List, [], ◌∷◌, length, map, slice_index}
use Rattle.std.proofs.Common.{ap, sym, ◌∙◌, arith}
use Rattle.wn_net.specs.declared.parts.Init.{Init}
use Rattle.wn_net.specs.declared.parts.Reg.{Reg}
use Rattle.wn_net.specs.declared.parts.Mem.{Mem}
use Rattle.wn_net.specs.Value.{word_at, words_at}
use Rattle.wn_net.specs.Given.{AreMemsOf, IsStateOf, given}
use Rattle.wn_net.specs.Net.{Netlist, IsNet, IsMemOf}
use Rattle.wn_net.specs.Next.{next_state}
use Rattle.std.specs.List.{AllByRecursion}
use Rattle.std.proofs.lemmas.Bool.{eqb-true}
use Rattle.std.proofs.lemmas.List.{length-map}
use Rattle.wn_run.specs.Runs.{Choices, inputs_at, inputs_from, reset_at, start_of, state_at}
use Rattle.wn_run.proofs.Given.{choices_run, cycles_given}
use Rattle.bm_induct.specs.StepRuns.{all_mems, all_regs, all_words, step_inputs, step_start}
use Rattle.bm_induct.specs.Laws.{PartsAreStepRuns}

-- ---- lists from their items

-- the items from the number i on
regs_back : (ns ms : List ℕ) (i : ℕ) (rs : List Reg) → length ms ≡ length rs
    → ((k : ℕ) → slice_index ns (i + k) ≡ slice_index ms k) → all_regs (slice_index ns) i rs ≡ ms
regs_back ns [] i [] long same = refl
regs_back ns [] i (r ∷ rs) long same = absurd (omega (arith, long))
regs_back ns (m ∷ ms) i [] long same = absurd (omega (arith, long))
regs_back ns (m ∷ ms) i (r ∷ rs) long same =
    let here : i ≡ i + 0 = omega arith in
    let there : (k : ℕ) → slice_index ns (i + 1 + k) ≡ slice_index ms k = λ k.
    (let e : i + 1 + k ≡ i + suc k = omega arith in ap (slice_index ns) e ∙ same (suc k)) in
    λ j. (ap (slice_index ns) here ∙ same 0) j ∷ regs_back ns ms (i + 1) rs (omega (arith, long)) there j

words_back : (f : ℕ → ℕ) (ms : List ℕ) (i : ℕ) (xs : List Init) → length ms ≡ length xs
    → ((k : ℕ) → f (i + k) ≡ slice_index ms k) → all_words f i xs ≡ ms
words_back f [] i [] long same = refl
words_back f [] i (x ∷ xs) long same = absurd (omega (arith, long))
words_back f (m ∷ ms) i [] long same = absurd (omega (arith, long))
words_back f (m ∷ ms) i (x ∷ xs) long same =
    let here : i ≡ i + 0 = omega arith in
    let there : (k : ℕ) → f (i + 1 + k) ≡ slice_index ms k = λ k.
    (let e : i + 1 + k ≡ i + suc k = omega arith in ap f e ∙ same (suc k)) in
    λ j. (ap f here ∙ same 0) j ∷ words_back f ms (i + 1) xs (omega (arith, long)) there j

mems_back : (net : Netlist) (f : ℕ → ℕ → ℕ) (all : List (List ℕ)) (i : ℕ) (ms : List Mem) → AreMemsOf ms all
    → AllByRecursion (IsMemOf net) ms → ((m a : ℕ) → f (i + m) a ≡ word_at (words_at all m) a)
    → all_mems f i ms ≡ all
mems_back net f [] i [] own whole same = refl
mems_back net f [] i (m ∷ ms) own whole same = absurd own
mems_back net f (ns ∷ rest) i [] own whole same = absurd own
mems_back net f (ns ∷ rest) i (m ∷ ms) own whole same =
    let here : i ≡ i + 0 = omega arith in
    let there : (k a : ℕ) → f (i + 1 + k) a ≡ word_at (words_at rest k) a = λ k a.
    (let e : i + 1 + k ≡ i + suc k = omega arith in ap (λ n. f n a) e ∙ same (suc k) a) in
    let first : all_words (f i) 0 m.init ≡ ns =
    words_back (f i) ns 0 m.init (own.0.each ∙ sym whole.0.each) (λ k.
    (let none : 0 + k ≡ k = omega arith in ap (f i) none ∙ ap (λ n. f n k) here ∙ same 0 k)) in
    λ j. first j ∷ mems_back net f rest (i + 1) ms own.1 whole.1 there j

-- ---- the part from a cycle on

abbrev part_of : Netlist → ℕ → Choices → Choices
part_of net i ch = record {
  each_cycle = λ k. ch.each_cycle (i + k);
  once = ch.once;
  regs = slice_index (state_at net (inputs_at net ch) (start_of net ch) i).regs;
  words = λ m a. word_at (words_at (state_at net (inputs_at net ch) (start_of net ch) i).mems m) a;
}

reset_later : (k : ℕ) → 1 ≤ k → 0 ≡ reset_at k
reset_later k some = by (k == 0) refl
  where
    by : (b : Bool) → (k == 0) ≡ b → ◌≡◌ {A = ℕ} 0 (if b then 1 else 0)
    by true e = let none : k ≡ 0 = eqb-true k 0 e in absurd (omega (arith, none, some))
    by false e = refl

same_inputs : (net : Netlist) (i : ℕ) (ch : Choices) (j : ℕ) → 1 ≤ i
    → step_inputs net (part_of net i ch) j ≡ inputs_at net ch (i + j)
same_inputs net i ch j some =
    ap (λ r. inputs_from (ch.each_cycle (i + j)) ch.once r 0 net.inputs) (reset_later (i + j) (omega (arith, some)))

same_start : (net : Netlist) (i : ℕ) (ch : Choices) → IsNet net
    → IsStateOf net (state_at net (inputs_at net ch) (start_of net ch) i)
    → step_start net (part_of net i ch) ≡ state_at net (inputs_at net ch) (start_of net ch) i
same_start net i ch whole own =
    let s = state_at net (inputs_at net ch) (start_of net ch) i in
    λ j. record {
      regs =
          regs_back s.regs s.regs 0 net.regs
          (own.regs.each ∙ length-map net.regs (λ (r : Reg). r.width))
          (λ k. (let none : 0 + k ≡ k = omega arith in ap (slice_index s.regs) none)) j;
      mems = mems_back net (part_of net i ch).words s.mems 0 net.mems own.mems whole.mems
          (λ m a. (let none : 0 + m ≡ m = omega arith in ap (λ n. word_at (words_at s.mems n) a) none)) j;
    }

same_state : (net : Netlist) (i : ℕ) (ch : Choices) (j : ℕ) → IsNet net → 1 ≤ i
    → IsStateOf net (state_at net (inputs_at net ch) (start_of net ch) i)
    → state_at net (step_inputs net (part_of net i ch)) (step_start net (part_of net i ch)) j
    ≡ state_at net (inputs_at net ch) (start_of net ch) (i + j)
same_state net i ch zero whole some own =
    let e : i ≡ i + 0 = omega arith in
    same_start net i ch whole own ∙ ap (state_at net (inputs_at net ch) (start_of net ch)) e
same_state net i ch (suc j) whole some own =
    let e : suc (i + j) ≡ i + suc j = omega arith in
    (λ k. next_state net (given (same_inputs net i ch j some k) (same_state net i ch j whole some own k)))
    ∙ ap (state_at net (inputs_at net ch) (start_of net ch)) e

words_fit : (ms : List Mem) (all : List (List ℕ)) (m a : ℕ) → AreMemsOf ms all → m < length ms
    → word_at (words_at all m) a < 2 ^ slice_index (map (λ m. m.width) ms) m
words_fit [] all m a own below = absurd (omega (arith, below))
words_fit (x ∷ xs) [] m a own below = absurd own
words_fit (x ∷ xs) (ns ∷ rest) zero a own below = own.0.below a
words_fit (x ∷ xs) (ns ∷ rest) (suc m) a own below = words_fit xs rest m a own.1 (omega (arith, below))

pub parts_are : PartsAreStepRuns
parts_are net i ch whole of some =
    let run = choices_run net ch whole of in
    let own : IsStateOf net (state_at net (inputs_at net ch) (start_of net ch) i) =
    (cycles_given net (inputs_at net ch) (start_of net ch) i whole run).state in
    let s = state_at net (inputs_at net ch) (start_of net ch) i in (
      part_of net i ch,
      record {
        of_net = record {
          each_cycle = λ k n below. of.each_cycle (i + k) n below;
          once = of.once;
          regs = λ n below. own.regs.below n;
          words = λ m n below. words_fit net.mems s.mems m n own.mems below;
        };
        cycles = λ j k. given (same_inputs net i ch j some k) (same_state net i ch j whole some own k);
      },
    )
