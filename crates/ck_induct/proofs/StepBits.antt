-- The bit that a note names is that of a source's number, in maps of a step run.
use Rattle.std.specs.Prelude.{◌≡◌, refl, ℕ, zero, suc, ◌+◌, ◌*◌, ◌/◌, ◌<◌, ◌≤◌, List, [], ◌∷◌, length, map}
use Rattle.std.specs.Prelude.{Option, Some, None, is_none, slice_get, slice_index, slice_index_or}
use Rattle.std.specs.Int.{bit_at}
use Rattle.std.proofs.Common.{ap, sym, ◌∙◌, arith, subst, true≢false}
use Rattle.std.proofs.lemmas.List.{length-map}
use Rattle.std.proofs.lemmas.Nat.Bits.{bit_at-lt, bit_at-suc, bit_at_lowest}
use Rattle.std.proofs.lemmas.Option.{same_Some}
use Rattle.vl_size.specs.Size.{Values}
use Rattle.vl_mean.specs.Parts.{Part}
use Rattle.wn_net.specs.declared.names.Names.{Names}
use Rattle.wn_net.specs.declared.names.Spot.{Spot}
use Rattle.wn_net.specs.declared.parts.Init.{Init}
use Rattle.wn_net.specs.declared.parts.InputKind.{InputKind}
use Rattle.wn_net.specs.declared.parts.InputKind.TheVariants.{EachCycle, Once}
use Rattle.wn_net.specs.declared.parts.Mem.{Mem}
use Rattle.wn_net.specs.declared.parts.Reg.{Reg}
use Rattle.wn_net.specs.Value.{Given}
use Rattle.wn_net.specs.Net.{Netlist}
use Rattle.wn_net.specs.Names.{AreSpotsOf, IsSpotOf}
use Rattle.wn_run.specs.Runs.{Choices, by_kind}
use Rattle.bb_blast.specs.declared.places.Placed.{Placed}
use Rattle.bm_unroll.specs.declared.frames.Source.{Source}
use Rattle.bm_unroll.specs.declared.frames.Source.TheVariants as s
use Rattle.bm_unroll.specs.Frames.{chosen, source_width}
use Rattle.bm_induct.specs.Halves.{IsStepChoice}
use Rattle.bm_induct.specs.StepRuns.{all_mems, all_regs, all_words, step_inputs, step_start}
use Rattle.vl_lower_spec.specs.Maps.{cells_named, gathered, inputs_of, spot_number, state_of, text_of}
use Rattle.vl_lower_spec.specs.Evaluations.{IsLowered}
use Rattle.vl_lower_spec.proofs.Inputs.{input_from}
use Rattle.ck_design.specs.Notes.{source_note, spot_note}
use Rattle.ck_design.specs.Retirements.{values_at}
use Rattle.ck_design.proofs.Placed.{map_at, mapped, one_there}
use Rattle.ck_induct.specs.Laws.{IsStepRunOf}

-- ---- bits of numbers

gathered_bit : (x : ℕ) (bs : List ℕ) (b : ℕ) → b < length bs → bit_at (gathered x bs) b ≡ bit_at x (slice_index bs b)
gathered_bit x [] b less = absurd (omega (arith, less))
gathered_bit x (c ∷ cs) zero less =
    bit_at_lowest (bit_at x c + 2 * gathered x cs) ∙ omega (arith, bit_at-lt x c)
gathered_bit x (c ∷ cs) (suc b) less =
    let half : (bit_at x c + 2 * gathered x cs) / 2 ≡ gathered x cs = omega (arith, bit_at-lt x c) in
    bit_at-suc (bit_at x c + 2 * gathered x cs) b ∙ ap (λ n. bit_at n b) half
    ∙ gathered_bit x cs b (omega (arith, less))

-- ---- items at places

below : {A : Type 0} (xs : List A) (i : ℕ) (x : A) → slice_get xs i ≡ Some x → i < length xs
below [] i x e = absurd (true≢false (ap is_none e))
below (y ∷ ys) zero x e = omega arith
below (y ∷ ys) (suc i) x e = omega (arith, below ys i x e)

spot_is : (names : Names) (ws : List ℕ) (ss : List Spot) (i : ℕ) (x : Spot) → AreSpotsOf names ws ss
    → slice_get ss i ≡ Some x → IsSpotOf names (slice_index ws i) x
spot_is names ws [] i x h e = absurd (true≢false (ap is_none e))
spot_is names [] (y ∷ ys) i x h e = absurd h
spot_is names (w ∷ ws) (y ∷ ys) zero x h e =
    subst (λ (z : Spot). IsSpotOf names w z) (same_Some y x e) h.0
spot_is names (w ∷ ws) (y ∷ ys) (suc i) x h e = spot_is names ws ys i x h.1 e

any_reg : (choices : ℕ → ℕ) (i : ℕ) (rs : List Reg) (r : ℕ) → r < length rs
    → slice_index (all_regs choices i rs) r ≡ choices (i + r)
any_reg choices i [] r less = absurd (omega (arith, less))
any_reg choices i (x ∷ xs) zero less = let z : i ≡ i + 0 = omega arith in ap choices z
any_reg choices i (x ∷ xs) (suc r) less =
    let n : i + 1 + r ≡ i + suc r = omega arith in any_reg choices (i + 1) xs r (omega (arith, less)) ∙ ap choices n

any_word : (choices : ℕ → ℕ) (i : ℕ) (xs : List Init) (w : ℕ) → w < length xs
    → slice_index (all_words choices i xs) w ≡ choices (i + w)
any_word choices i [] w less = absurd (omega (arith, less))
any_word choices i (x ∷ xs) zero less = let z : i ≡ i + 0 = omega arith in ap choices z
any_word choices i (x ∷ xs) (suc w) less =
    let n : i + 1 + w ≡ i + suc w = omega arith in any_word choices (i + 1) xs w (omega (arith, less)) ∙ ap choices n

length-words : (choices : ℕ → ℕ) (i : ℕ) (xs : List Init) → length (all_words choices i xs) ≡ length xs
length-words choices i [] = refl
length-words choices i (x ∷ xs) = ap suc (length-words choices (i + 1) xs)

mem_below : (ms : List Mem) (m w : ℕ) → w < length (slice_index_or (map (λ x. x.init) ms) m []) → m < length ms
mem_below [] zero w less = absurd (omega (arith, less))
mem_below [] (suc m) w less = absurd (omega (arith, less))
mem_below (x ∷ xs) zero w less = omega arith
mem_below (x ∷ xs) (suc m) w less = omega (arith, mem_below xs m w less)

any_mem : (choices : ℕ → ℕ → ℕ) (i : ℕ) (ms : List Mem) (m : ℕ) → m < length ms
    → slice_index_or (all_mems choices i ms) m []
    ≡ all_words (choices (i + m)) 0 (slice_index_or (map (λ x. x.init) ms) m [])
any_mem choices i [] m less = absurd (omega (arith, less))
any_mem choices i (x ∷ xs) zero less =
    let z : i ≡ i + 0 = omega arith in ap (λ j. all_words (choices j) 0 x.init) z
any_mem choices i (x ∷ xs) (suc m) less =
    let n : i + 1 + m ≡ i + suc m = omega arith in
    any_mem choices (i + 1) xs m (omega (arith, less))
    ∙ ap (λ j. all_words (choices j) 0 (slice_index_or (map (λ x. x.init) xs) m [])) n

lists_at : (f : ℕ → List ℕ) (ms : List ℕ) (m : ℕ) → m < length ms
    → slice_index_or (map f ms) m [] ≡ f (slice_index ms m)
lists_at f [] m h = absurd (omega (arith, h))
lists_at f (x ∷ xs) zero h = refl
lists_at f (x ∷ xs) (suc m) h = lists_at f xs m (omega (arith, h))

cell_at : (v : Values) (cells : List (List ℕ)) (w : ℕ) → w < length cells
    → slice_index (map v cells) w ≡ v (slice_index_or cells w [])
cell_at v [] w h = absurd (omega (arith, h))
cell_at v (c ∷ cs) zero h = refl
cell_at v (c ∷ cs) (suc w) h = cell_at v cs w (omega (arith, h))

from_zero : (n : ℕ) → 0 + n ≡ n
from_zero n = omega arith

-- the note of a spot is of its own cycle
cycle_of : (names : Names) (o : Option Spot) (k : ℕ) (p : Placed) (run : List Values)
    → bit_at (values_at run (spot_note names o k p).cycle (spot_note names o k p).name) (spot_note names o k p).bit
    ≡ bit_at (values_at run k (spot_note names o k p).name) (spot_note names o k p).bit
cycle_of names None k p run = refl
cycle_of names (Some x) k p run = refl

module _ (ps : List Part) (net : Netlist) (names : Names) (lowered : IsLowered ps net names) (ch : Choices) (d : ℕ)
    (run : List Values) (is : IsStepRunOf net names ch d run) where
  -- a bit of the number of a spot is that of the name
  spot_bit : (v : Values) (width b : ℕ) (x : Spot) → IsSpotOf names width x → b < width
      → bit_at (spot_number names v x) b ≡ bit_at (v (text_of (slice_get names.list x.name))) (slice_index x.bits b)
  spot_bit v width b x own less =
      gathered_bit (v (text_of (slice_get names.list x.name))) x.bits b (omega (arith, less, own.each))

  input_bit : (k i : ℕ) (kind : InputKind) (p : Placed) → k ≤ d
      → slice_get (map (λ x. x.kind) net.inputs) i ≡ Some kind → p.bit < slice_index (map (λ x. x.width) net.inputs) i
      → bit_at (values_at run k (spot_note names (slice_get names.inputs i) k p).name)
      (spot_note names (slice_get names.inputs i) k p).bit
      ≡ bit_at (by_kind (ch.each_cycle k i) (ch.once i) 0 kind) p.bit
  input_bit k i kind p le e less =
      let input = mapped (λ x. x.kind) net.inputs i kind e in
      let there : i < length names.inputs =
      omega (arith, below net.inputs i input.0 input.1, lowered.all.inputs) in
      let spot = one_there names.inputs i there in
      let v = values_at run k in
      let own = spot_is names (map (λ x. x.width) net.inputs) names.inputs i spot.0 lowered.named.inputs spot.1 in
      let inputs : step_inputs net ch k ≡ inputs_of names v = ap (λ (g : Given). g.inputs) (is k le) in
      let same = from_zero i in
      ap (λ o. bit_at (v (spot_note names o k p).name) (spot_note names o k p).bit) spot.1
      ∙ sym (spot_bit v (slice_index (map (λ x. x.width) net.inputs) i) p.bit spot.0 own less)
      ∙ sym (ap (λ n. bit_at n p.bit) (map_at (spot_number names v) names.inputs i spot.0 spot.1))
      ∙ sym (ap (λ ns. bit_at (slice_index ns i) p.bit) inputs)
      ∙ ap (λ n. bit_at n p.bit)
      (input_from (ch.each_cycle k) ch.once 0 0 net.inputs i input.0 input.1
      ∙ (λ j. by_kind (ch.each_cycle k (same j)) (ch.once (same j)) 0 (input.2 j)))

  pub step_bit : (x : Source) (p : Placed) → IsStepChoice net d x → p.bit < source_width net x
      → bit_at (values_at run (source_note names (Some x) p).cycle (source_note names (Some x) p).name)
      (source_note names (Some x) p).bit
      ≡ bit_at (chosen ch x) p.bit
  step_bit (s.Each i k) p c less =
      cycle_of names (slice_get names.inputs i) k p run ∙ input_bit k i EachCycle p c.1 c.0 less
  step_bit (s.Once i) p c less =
      cycle_of names (slice_get names.inputs i) 0 p run ∙ input_bit 0 i Once p (omega arith) c less
  step_bit (s.RegStart r) p c less =
      let there : r < length names.regs = omega (arith, c, lowered.all.regs) in
      let spot = one_there names.regs r there in
      let v = values_at run 0 in
      let own = spot_is names (map (λ x. x.width) net.regs) names.regs r spot.0 lowered.named.regs spot.1 in
      let regs : (step_start net ch).regs ≡ (state_of names v).regs =
      ap (λ (g : Given). g.state.regs) (is 0 (omega arith)) in
      cycle_of names (slice_get names.regs r) 0 p run
      ∙ ap (λ o. bit_at (v (spot_note names o 0 p).name) (spot_note names o 0 p).bit) spot.1
      ∙ sym (spot_bit v (slice_index (map (λ x. x.width) net.regs) r) p.bit spot.0 own less)
      ∙ sym (ap (λ n. bit_at n p.bit) (map_at (spot_number names v) names.regs r spot.0 spot.1))
      ∙ sym (ap (λ ns. bit_at (slice_index ns r) p.bit) regs)
      ∙ ap (λ n. bit_at n p.bit) (any_reg ch.regs 0 net.regs r c ∙ ap ch.regs (from_zero r))
  step_bit (s.WordStart m w) p c less =
      let v = values_at run 0 in
      let cells = cells_named (slice_get names.list (slice_index names.mems m)) in
      let init = slice_index_or (map (λ x. x.init) net.mems) m [] in
      let own : m < length net.mems = mem_below net.mems m w c in
      let there : m < length names.mems = omega (arith, own, lowered.all.mems) in
      let mems : (step_start net ch).mems ≡ (state_of names v).mems =
      ap (λ (g : Given). g.state.mems) (is 0 (omega arith)) in
      let words : all_words (ch.words m) 0 init ≡ map v cells =
      ap (λ j. all_words (ch.words j) 0 init) (sym (from_zero m)) ∙ sym (any_mem ch.words 0 net.mems m own)
      ∙ ap (λ ms. slice_index_or ms m []) mems
      ∙ lists_at (λ n. map v (cells_named (slice_get names.list n))) names.mems m there in
      let long : w < length cells =
      omega (arith, c, length-words (ch.words m) 0 init, ap length words, length-map cells v) in
      ap (λ n. bit_at n p.bit)
      (sym (cell_at v cells w long) ∙ sym (ap (λ ns. slice_index ns w) words) ∙ any_word (ch.words m) 0 init w c
      ∙ ap (ch.words m) (from_zero w))
