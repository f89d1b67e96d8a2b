-- The notes of choices: a placed variable has the value of the bit that its note names.
use Rattle.std.specs.Prelude.{◌≡◌, refl, ℕ, zero, suc, ◌+◌, ◌-◌, ◌*◌, ◌/◌, ◌<◌, ◌≤◌, Bool, true, false}
use Rattle.std.specs.Prelude.{List, [], ◌∷◌, ◌++◌, length, map, Option, Some, None, is_none, slice_get, slice_index}
use Rattle.std.specs.Prelude.{slice_index_or}
use Rattle.std.specs.Int.{bit_at}
use Rattle.std.specs.List.{AllByRecursion}
use Rattle.std.proofs.Common.{ap, sym, ◌∙◌, arith, subst, true≢false}
use Rattle.std.proofs.lemmas.List.{length-map}
use Rattle.std.proofs.lemmas.Nat.Bits.{bit_at-lt, bit_at-suc, bit_at-zero, bit_at_lowest}
use Rattle.std.proofs.lemmas.Option.{same_Some}
use Rattle.fv_bits.specs.Bits.{bit}
use Rattle.vl_size.specs.Size.{Values}
use Rattle.vl_mean.specs.Parts.{Part}
use Rattle.wn_net.specs.declared.names.Names.{Names}
use Rattle.wn_net.specs.declared.names.Spot.{Spot}
use Rattle.wn_net.specs.declared.parts.InputKind.{InputKind}
use Rattle.wn_net.specs.declared.parts.InputKind.TheVariants.{EachCycle, Once}
use Rattle.wn_net.specs.declared.parts.Init.{Init}
use Rattle.wn_net.specs.declared.parts.Init.TheVariants.{Free}
use Rattle.wn_net.specs.declared.parts.Mem.{Mem}
use Rattle.wn_net.specs.declared.parts.Reg.{Reg}
use Rattle.wn_net.specs.Value.{Given}
use Rattle.wn_net.specs.Net.{Netlist}
use Rattle.wn_net.specs.Names.{AreSpotsOf, IsSpotOf}
use Rattle.wn_run.specs.Runs.{Choices, by_kind, inputs_at, mems_from, regs_from, reset_at, start_number}
use Rattle.wn_run.specs.Runs.{start_of, words_from}
use Rattle.bb_aig.specs.Bits.{number}
use Rattle.bb_blast.specs.declared.places.Placed.{Placed}
use Rattle.bb_blast.specs.Choice.{all_places, bits_from, numbers_from, places_from}
use Rattle.bm_unroll.specs.declared.frames.Source.{Source}
use Rattle.bm_unroll.specs.declared.frames.Source.TheVariants as s
use Rattle.bm_unroll.specs.Frames.{IsChoice, chosen, source_width}
use Rattle.vl_lower_spec.specs.Maps.{cells_named, gathered, inputs_of, spot_number, state_of, text_of}
use Rattle.vl_lower_spec.specs.Evaluations.{IsLowered}
use Rattle.vl_lower_spec.proofs.Inputs.{input_at}
use Rattle.ck_design.specs.Retirements.{values_at}
use Rattle.ck_design.proofs.Found.{IsRunOf}
use Rattle.ck_design.specs.Notes.{source_note, spot_note}

-- ---- bits of numbers

pub number_bit : (bs : List Bool) (b : ℕ) → bit_at (number bs) b ≡ bit (slice_index_or bs b false)
number_bit [] zero = bit_at-zero 0
number_bit [] (suc b) = bit_at-zero (suc b)
number_bit (true ∷ bs) zero = bit_at_lowest (1 + 2 * number bs) ∙ omega arith
number_bit (false ∷ bs) zero = bit_at_lowest (0 + 2 * number bs) ∙ omega arith
number_bit (true ∷ bs) (suc b) =
    let half : (1 + 2 * number bs) / 2 ≡ number bs = omega arith in
    bit_at-suc (1 + 2 * number bs) b ∙ ap (λ n. bit_at n b) half ∙ number_bit bs b
number_bit (false ∷ bs) (suc b) =
    let half : (0 + 2 * number bs) / 2 ≡ number bs = omega arith in
    bit_at-suc (0 + 2 * number bs) b ∙ ap (λ n. bit_at n b) half ∙ number_bit bs b

gathered_bit : (x : ℕ) (bs : List ℕ) (b : ℕ) → b < length bs → bit_at (gathered x bs) b ≡ bit_at x (slice_index bs b)
gathered_bit x [] b less = absurd (omega (arith, less))
gathered_bit x (c ∷ cs) zero less =
    bit_at_lowest (bit_at x c + 2 * gathered x cs) ∙ omega (arith, bit_at-lt x c)
gathered_bit x (c ∷ cs) (suc b) less =
    let half : (bit_at x c + 2 * gathered x cs) / 2 ≡ gathered x cs = omega (arith, bit_at-lt x c) in
    bit_at-suc (bit_at x c + 2 * gathered x cs) b ∙ ap (λ n. bit_at n b) half
    ∙ gathered_bit x cs b (omega (arith, less))

bit_from : (x : ℕ → Bool) (at w b : ℕ) → b < w → slice_index_or (bits_from x at w) b false ≡ x (at + b)
bit_from x at zero b less = absurd (omega (arith, less))
bit_from x at (suc w) zero less = let e : at ≡ at + 0 = omega arith in ap x e
bit_from x at (suc w) (suc b) less =
    let e : at + 1 + b ≡ at + suc b = omega arith in bit_from x (at + 1) w b (omega (arith, less)) ∙ ap x e

-- ---- places

-- the variable of a place is the bit of a number among those that inputs are the bits of
pub record IsPlaceIn (x : ℕ → Bool) (ws : List ℕ) (first at : ℕ) (p : Placed) : Type 0 where
  pub some : 1 ≤ p.node
  pub from : first ≤ p.source
  pub within : p.source - first < length ws
  pub width : p.bit < slice_index ws (p.source - first)
  pub value : bit_at (slice_index (numbers_from x at ws) (p.source - first)) p.bit ≡ bit (x (p.node - 1))

pub each : {A : Type 0} (P Q : A → Type 0) (xs : List A) → ((x : A) → P x → Q x) → AllByRecursion P xs
    → AllByRecursion Q xs
each P Q [] f h = tt
each P Q (x ∷ xs) f h = (f x h.0, each P Q xs f h.1)

pub append : {A : Type 0} (P : A → Type 0) (xs ys : List A) → AllByRecursion P xs → AllByRecursion P ys
    → AllByRecursion P (xs ++ ys)
append P [] ys h k = k
append P (x ∷ xs) ys h k = (h.0, append P xs ys h.1 k)

pub record IsOwn (source from at w : ℕ) (p : Placed) : Type 0 where
  pub source_is : p.source ≡ source
  pub low : from ≤ p.bit
  pub high : p.bit < from + w
  pub node : p.node ≡ suc (at + (p.bit - from))

own_places : (source from at w : ℕ) → AllByRecursion (IsOwn source from at w) (places_from source from at w)
own_places source from at zero = tt
own_places source from at (suc w) = (
  record { source_is = refl; low = omega arith; high = omega arith; node = omega arith },
  each (IsOwn source (from + 1) (at + 1) w) (IsOwn source from at (suc w)) (places_from source (from + 1) (at + 1) w)
      (λ p h. record {
        source_is = h.source_is;
        low = omega (arith, h.low);
        high = omega (arith, h.high);
        node = omega (arith, h.node, h.low);
      }) (own_places source (from + 1) (at + 1) w),
)

own_is : (x : ℕ → Bool) (first at w : ℕ) (ws : List ℕ) (p : Placed) → IsOwn first 0 at w p
    → IsPlaceIn x (w ∷ ws) first at p
own_is x first at w ws p h =
    let place : p.source - first ≡ 0 = omega (arith, h.source_is) in
    let node : at + p.bit ≡ p.node - 1 = omega (arith, h.node) in
    record {
      some = omega (arith, h.node);
      from = omega (arith, h.source_is);
      within = omega (arith, h.source_is);
      width = let P : ℕ → Type 0 = λ i. p.bit < slice_index (w ∷ ws) i in
          subst P (sym place) (omega (arith, h.high));
      value = ap (λ i. bit_at (slice_index (numbers_from x at (w ∷ ws)) i) p.bit) place
          ∙ number_bit (bits_from x at w) p.bit
          ∙ ap bit (bit_from x at w p.bit (omega (arith, h.high)) ∙ ap x node);
    }

later_is : (x : ℕ → Bool) (first at w : ℕ) (ws : List ℕ) (p : Placed) → IsPlaceIn x ws (first + 1) (at + w) p
    → IsPlaceIn x (w ∷ ws) first at p
later_is x first at w ws p h =
    let place : suc (p.source - (first + 1)) ≡ p.source - first = omega (arith, h.from) in
    record {
      some = h.some;
      from = omega (arith, h.from);
      within = omega (arith, h.within, h.from);
      width = let P : ℕ → Type 0 = λ i. p.bit < slice_index (w ∷ ws) i in subst P place h.width;
      value = sym (ap (λ i. bit_at (slice_index (numbers_from x at (w ∷ ws)) i) p.bit) place) ∙ h.value;
    }

pub all_placed : (x : ℕ → Bool) (first at : ℕ) (ws : List ℕ)
    → AllByRecursion (IsPlaceIn x ws first at) (all_places first at ws)
all_placed x first at [] = tt
all_placed x first at (w ∷ ws) =
    append (IsPlaceIn x (w ∷ ws) first at) (places_from first 0 at w) (all_places (first + 1) (at + w) ws)
    (each (IsOwn first 0 at w) (IsPlaceIn x (w ∷ ws) first at) (places_from first 0 at w)
    (own_is x first at w ws) (own_places first 0 at w))
    (each (IsPlaceIn x ws (first + 1) (at + w)) (IsPlaceIn x (w ∷ ws) first at) (all_places (first + 1) (at + w) ws)
    (later_is x first at w ws) (all_placed x (first + 1) (at + w) ws))

-- ---- the number of a source, by names

pub one_there : {A : Type 0} (xs : List A) (i : ℕ) → i < length xs → (x : A) × (slice_get xs i ≡ Some x)
one_there [] i h = absurd (omega (arith, h))
one_there (x ∷ xs) zero h = (x, refl)
one_there (x ∷ xs) (suc i) h = one_there xs i (omega (arith, h))

pub mapped : {A B : Type 0} (f : A → B) (xs : List A) (i : ℕ) (y : B) → slice_get (map f xs) i ≡ Some y
    → (x : A) × (slice_get xs i ≡ Some x) × (f x ≡ y)
mapped f [] i y e = absurd (true≢false (ap is_none e))
mapped f (x ∷ xs) zero y e = (x, refl, same_Some (f x) y e)
mapped f (x ∷ xs) (suc i) y e = mapped f xs i y e

pub map_at : {A : Type 0} (f : A → ℕ) (xs : List A) (i : ℕ) (x : A) → slice_get xs i ≡ Some x
    → slice_index (map f xs) i ≡ f x
map_at f [] i x e = absurd (true≢false (ap is_none e))
map_at f (y ∷ ys) zero x e = ap f (same_Some y x e)
map_at f (y ∷ ys) (suc i) x e = map_at f ys i x e

below : {A : Type 0} (xs : List A) (i : ℕ) (x : A) → slice_get xs i ≡ Some x → i < length xs
below [] i x e = absurd (true≢false (ap is_none e))
below (y ∷ ys) zero x e = omega arith
below (y ∷ ys) (suc i) x e = omega (arith, below ys i x e)

spot_is : (names : Names) (ws : List ℕ) (ss : List Spot) (i : ℕ) (x : Spot) → AreSpotsOf names ws ss
    → slice_get ss i ≡ Some x → IsSpotOf names (slice_index ws i) x
spot_is names ws [] i x h e = absurd (true≢false (ap is_none e))
spot_is names [] (y ∷ ys) i x h e = absurd h
spot_is names (w ∷ ws) (y ∷ ys) zero x h e =
    subst (λ (z : Spot). IsSpotOf names w z) (same_Some y x e) h.0
spot_is names (w ∷ ws) (y ∷ ys) (suc i) x h e = spot_is names ws ys i x h.1 e

free_reg : (choices : ℕ → ℕ) (i : ℕ) (rs : List Reg) (r : ℕ) → slice_get (map (λ x. x.init) rs) r ≡ Some Free
    → slice_index (regs_from choices i rs) r ≡ choices (i + r)
free_reg choices i [] r e = absurd (true≢false (ap is_none e))
free_reg choices i (x ∷ xs) zero e =
    let free : x.init ≡ Free = same_Some x.init Free e in
    let z : i ≡ i + 0 = omega arith in
    ap (start_number (choices i)) free ∙ ap choices z
free_reg choices i (x ∷ xs) (suc r) e =
    let n : i + 1 + r ≡ i + suc r = omega arith in free_reg choices (i + 1) xs r e ∙ ap choices n

free_word : (choices : ℕ → ℕ) (i : ℕ) (xs : List Init) (w : ℕ) → slice_get xs w ≡ Some Free
    → slice_index (words_from choices i xs) w ≡ choices (i + w)
free_word choices i [] w e = absurd (true≢false (ap is_none e))
free_word choices i (x ∷ xs) zero e =
    let z : i ≡ i + 0 = omega arith in ap (start_number (choices i)) (same_Some x Free e) ∙ ap choices z
free_word choices i (x ∷ xs) (suc w) e =
    let n : i + 1 + w ≡ i + suc w = omega arith in free_word choices (i + 1) xs w e ∙ ap choices n

length-words : (choices : ℕ → ℕ) (i : ℕ) (xs : List Init) → length (words_from choices i xs) ≡ length xs
length-words choices i [] = refl
length-words choices i (x ∷ xs) = ap suc (length-words choices (i + 1) xs)

mem_at : (choices : ℕ → ℕ → ℕ) (i : ℕ) (ms : List Mem) (m : ℕ) (w : ℕ)
    → slice_get (slice_index_or (map (λ x. x.init) ms) m []) w ≡ Some Free
    → slice_index_or (mems_from choices i ms) m []
    ≡ words_from (choices (i + m)) 0 (slice_index_or (map (λ x. x.init) ms) m [])
mem_at choices i [] m w e = absurd (true≢false (ap is_none (none_in m e)))
  where
    none_in : (m : ℕ) → slice_get (slice_index_or [] m []) w ≡ Some Free → None ≡ Some Free
    none_in zero e = e
    none_in (suc m) e = e
mem_at choices i (x ∷ xs) zero w e =
    let z : i ≡ i + 0 = omega arith in ap (λ j. words_from (choices j) 0 x.init) z
mem_at choices i (x ∷ xs) (suc m) w e =
    let n : i + 1 + m ≡ i + suc m = omega arith in
    mem_at choices (i + 1) xs m w e
    ∙ ap (λ j. words_from (choices j) 0 (slice_index_or (map (λ x. x.init) xs) m [])) n

lists_at : (f : ℕ → List ℕ) (ms : List ℕ) (m : ℕ) → m < length ms
    → slice_index_or (map f ms) m [] ≡ f (slice_index ms m)
lists_at f [] m h = absurd (omega (arith, h))
lists_at f (x ∷ xs) zero h = refl
lists_at f (x ∷ xs) (suc m) h = lists_at f xs m (omega (arith, h))

cell_at : (v : Values) (cells : List (List ℕ)) (w : ℕ) → w < length cells
    → slice_index (map v cells) w ≡ v (slice_index_or cells w [])
cell_at v [] w h = absurd (omega (arith, h))
cell_at v (c ∷ cs) zero h = refl
cell_at v (c ∷ cs) (suc w) h = cell_at v cs w (omega (arith, h))

from_zero : (n : ℕ) → 0 + n ≡ n
from_zero n = omega arith

-- the note of a spot is of its own cycle
cycle_of : (names : Names) (o : Option Spot) (k : ℕ) (p : Placed) (run : List Values)
    → bit_at (values_at run (spot_note names o k p).cycle (spot_note names o k p).name) (spot_note names o k p).bit
    ≡ bit_at (values_at run k (spot_note names o k p).name) (spot_note names o k p).bit
cycle_of names None k p run = refl
cycle_of names (Some x) k p run = refl

module _ (ps : List Part) (net : Netlist) (names : Names) (lowered : IsLowered ps net names) (ch : Choices) (d : ℕ)
    (run : List Values) (is : IsRunOf net names ch d run) where
  -- a bit of the number of a spot is that of the name
  spot_bit : (v : Values) (width b : ℕ) (x : Spot) → IsSpotOf names width x → b < width
      → bit_at (spot_number names v x) b ≡ bit_at (v (text_of (slice_get names.list x.name))) (slice_index x.bits b)
  spot_bit v width b x own less =
      gathered_bit (v (text_of (slice_get names.list x.name))) x.bits b (omega (arith, less, own.each))

  input_bit : (k i : ℕ) (kind : InputKind) (p : Placed) → k ≤ d
      → slice_get (map (λ x. x.kind) net.inputs) i ≡ Some kind → p.bit < slice_index (map (λ x. x.width) net.inputs) i
      → bit_at (values_at run k (spot_note names (slice_get names.inputs i) k p).name)
      (spot_note names (slice_get names.inputs i) k p).bit
      ≡ bit_at (by_kind (ch.each_cycle k i) (ch.once i) (reset_at k) kind) p.bit
  input_bit k i kind p le e less =
      let input = mapped (λ x. x.kind) net.inputs i kind e in
      let there : i < length names.inputs =
      omega (arith, below net.inputs i input.0 input.1, lowered.all.inputs) in
      let spot = one_there names.inputs i there in
      let v = values_at run k in
      let own = spot_is names (map (λ x. x.width) net.inputs) names.inputs i spot.0 lowered.named.inputs spot.1 in
      let inputs : inputs_at net ch k ≡ inputs_of names v = ap (λ (g : Given). g.inputs) (is k le) in
      ap (λ o. bit_at (v (spot_note names o k p).name) (spot_note names o k p).bit) spot.1
      ∙ sym (spot_bit v (slice_index (map (λ x. x.width) net.inputs) i) p.bit spot.0 own less)
      ∙ sym (ap (λ n. bit_at n p.bit) (map_at (spot_number names v) names.inputs i spot.0 spot.1))
      ∙ sym (ap (λ ns. bit_at (slice_index ns i) p.bit) inputs)
      ∙ ap (λ n. bit_at n p.bit)
      (input_at net ch k i input.0 input.1
      ∙ ap (by_kind (ch.each_cycle k i) (ch.once i) (reset_at k)) input.2)

  pub source_bit : (x : Source) (p : Placed) → IsChoice net d x → p.bit < source_width net x
      → bit_at (values_at run (source_note names (Some x) p).cycle (source_note names (Some x) p).name)
      (source_note names (Some x) p).bit
      ≡ bit_at (chosen ch x) p.bit
  source_bit (s.Each i k) p c less =
      cycle_of names (slice_get names.inputs i) k p run ∙ input_bit k i EachCycle p c.1 c.0 less
  source_bit (s.Once i) p c less =
      cycle_of names (slice_get names.inputs i) 0 p run ∙ input_bit 0 i Once p (omega arith) c less
  source_bit (s.RegStart r) p c less =
      let reg = mapped (λ x. x.init) net.regs r Free c in
      let there : r < length names.regs = omega (arith, below net.regs r reg.0 reg.1, lowered.all.regs) in
      let spot = one_there names.regs r there in
      let v = values_at run 0 in
      let own = spot_is names (map (λ x. x.width) net.regs) names.regs r spot.0 lowered.named.regs spot.1 in
      let regs : (start_of net ch).regs ≡ (state_of names v).regs =
      ap (λ (g : Given). g.state.regs) (is 0 (omega arith)) in
      cycle_of names (slice_get names.regs r) 0 p run
      ∙ ap (λ o. bit_at (v (spot_note names o 0 p).name) (spot_note names o 0 p).bit) spot.1
      ∙ sym (spot_bit v (slice_index (map (λ x. x.width) net.regs) r) p.bit spot.0 own less)
      ∙ sym (ap (λ n. bit_at n p.bit) (map_at (spot_number names v) names.regs r spot.0 spot.1))
      ∙ sym (ap (λ ns. bit_at (slice_index ns r) p.bit) regs)
      ∙ ap (λ n. bit_at n p.bit) (free_reg ch.regs 0 net.regs r c ∙ ap ch.regs (from_zero r))
  source_bit (s.WordStart m w) p c less =
      let v = values_at run 0 in
      let cells = cells_named (slice_get names.list (slice_index names.mems m)) in
      let init = slice_index_or (map (λ x. x.init) net.mems) m [] in
      let there : m < length names.mems = omega (arith, mem_below net.mems m w c, lowered.all.mems) in
      let mems : (start_of net ch).mems ≡ (state_of names v).mems =
      ap (λ (g : Given). g.state.mems) (is 0 (omega arith)) in
      let words : words_from (ch.words m) 0 init ≡ map v cells =
      ap (λ j. words_from (ch.words j) 0 init) (sym (from_zero m)) ∙ sym (mem_at ch.words 0 net.mems m w c)
      ∙ ap (λ ms. slice_index_or ms m []) mems
      ∙ lists_at (λ n. map v (cells_named (slice_get names.list n))) names.mems m there in
      let long : w < length cells =
      omega (arith, below init w Free c, length-words (ch.words m) 0 init, ap length words, length-map cells v) in
      ap (λ n. bit_at n p.bit)
      (sym (cell_at v cells w long) ∙ sym (ap (λ ns. slice_index ns w) words) ∙ free_word (ch.words m) 0 init w c
      ∙ ap (ch.words m) (from_zero w))
    where
      mem_below : (ms : List Mem) (m w : ℕ) → slice_get (slice_index_or (map (λ x. x.init) ms) m []) w ≡ Some Free
          → m < length ms
      mem_below [] zero w e = absurd (true≢false (ap is_none e))
      mem_below [] (suc m) w e = absurd (true≢false (ap is_none e))
      mem_below (x ∷ xs) zero w e = omega arith
      mem_below (x ∷ xs) (suc m) w e = omega (arith, mem_below xs m w e)
