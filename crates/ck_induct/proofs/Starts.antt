-- What a step run begins with, from the choices that a state makes.
use Rattle.std.specs.Prelude.{◌≡◌, refl, ℕ, zero, suc, ◌+◌, ◌<◌, ◌^◌, List, [], ◌∷◌, length, map, slice_index}
use Rattle.std.specs.List.{AllByRecursion}
use Rattle.std.proofs.Common.{ap, sym, ◌∙◌, arith}
use Rattle.wn_net.specs.declared.parts.Init.{Init}
use Rattle.wn_net.specs.declared.parts.Reg.{Reg}
use Rattle.wn_net.specs.declared.parts.Mem.{Mem}
use Rattle.wn_net.specs.Value.{word_at, words_at}
use Rattle.wn_net.specs.Given.{AreMemsOf}
use Rattle.wn_net.specs.Net.{Netlist, IsMemOf}
use Rattle.bm_induct.specs.StepRuns.{all_mems, all_regs, all_words}

-- ---- lists from their items

-- the items from the number i on
pub regs_back : (ns ms : List ℕ) (i : ℕ) (rs : List Reg) → length ms ≡ length rs
    → ((k : ℕ) → slice_index ns (i + k) ≡ slice_index ms k) → all_regs (slice_index ns) i rs ≡ ms
regs_back ns [] i [] long same = refl
regs_back ns [] i (r ∷ rs) long same = absurd (omega (arith, long))
regs_back ns (m ∷ ms) i [] long same = absurd (omega (arith, long))
regs_back ns (m ∷ ms) i (r ∷ rs) long same =
    let here : i ≡ i + 0 = omega arith in
    let there : (k : ℕ) → slice_index ns (i + 1 + k) ≡ slice_index ms k = λ k.
    (let e : i + 1 + k ≡ i + suc k = omega arith in ap (slice_index ns) e ∙ same (suc k)) in
    λ j. (ap (slice_index ns) here ∙ same 0) j ∷ regs_back ns ms (i + 1) rs (omega (arith, long)) there j

words_back : (f : ℕ → ℕ) (ms : List ℕ) (i : ℕ) (xs : List Init) → length ms ≡ length xs
    → ((k : ℕ) → f (i + k) ≡ slice_index ms k) → all_words f i xs ≡ ms
words_back f [] i [] long same = refl
words_back f [] i (x ∷ xs) long same = absurd (omega (arith, long))
words_back f (m ∷ ms) i [] long same = absurd (omega (arith, long))
words_back f (m ∷ ms) i (x ∷ xs) long same =
    let here : i ≡ i + 0 = omega arith in
    let there : (k : ℕ) → f (i + 1 + k) ≡ slice_index ms k = λ k.
    (let e : i + 1 + k ≡ i + suc k = omega arith in ap f e ∙ same (suc k)) in
    λ j. (ap f here ∙ same 0) j ∷ words_back f ms (i + 1) xs (omega (arith, long)) there j

pub mems_back : (net : Netlist) (f : ℕ → ℕ → ℕ) (all : List (List ℕ)) (i : ℕ) (ms : List Mem) → AreMemsOf ms all
    → AllByRecursion (IsMemOf net) ms → ((m a : ℕ) → f (i + m) a ≡ word_at (words_at all m) a)
    → all_mems f i ms ≡ all
mems_back net f [] i [] own whole same = refl
mems_back net f [] i (m ∷ ms) own whole same = absurd own
mems_back net f (ns ∷ rest) i [] own whole same = absurd own
mems_back net f (ns ∷ rest) i (m ∷ ms) own whole same =
    let here : i ≡ i + 0 = omega arith in
    let there : (k a : ℕ) → f (i + 1 + k) a ≡ word_at (words_at rest k) a = λ k a.
    (let e : i + 1 + k ≡ i + suc k = omega arith in ap (λ n. f n a) e ∙ same (suc k) a) in
    let first : all_words (f i) 0 m.init ≡ ns =
    words_back (f i) ns 0 m.init (own.0.each ∙ sym whole.0.each) (λ k.
    (let none : 0 + k ≡ k = omega arith in ap (f i) none ∙ ap (λ n. f n k) here ∙ same 0 k)) in
    λ j. first j ∷ mems_back net f rest (i + 1) ms own.1 whole.1 there j

-- ---- words have the widths of their memories

pub words_fit : (ms : List Mem) (all : List (List ℕ)) (m a : ℕ) → AreMemsOf ms all → m < length ms
    → word_at (words_at all m) a < 2 ^ slice_index (map (λ m. m.width) ms) m
words_fit [] all m a own below = absurd (omega (arith, below))
words_fit (x ∷ xs) [] m a own below = absurd own
words_fit (x ∷ xs) (ns ∷ rest) zero a own below = own.0.below a
words_fit (x ∷ xs) (ns ∷ rest) (suc m) a own below = words_fit xs rest m a own.1 (omega (arith, below))
