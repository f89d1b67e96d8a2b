-- The inputs of a graph, and the words of sources.
use Rattle.std.specs.Prelude.{◌≡◌, refl, ℕ, zero, suc, ◌+◌, ◌*◌, ◌/◌, ◌<◌, ◌≤◌, Bool}
use Rattle.std.specs.Prelude.{List, []}
use Rattle.std.specs.Prelude.{◌∷◌, ◌++◌, length, sum, drop, take, slice_get, Some}
use Rattle.std.specs.Prelude.{slice_index, slice_index_or}
use Rattle.std.proofs.Common.{ap, sym, ◌∙◌, arith, inl, inr, append_assoc, append-nil}
use Rattle.std.proofs.lemmas.List.{length_push, drop_more, drop_all}
use Rattle.std.proofs.lemmas.List.Sums.{sum_by-cons}
use Rattle.std.proofs.lemmas.Bool.{cases_lt}
use Rattle.bb_aig.specs.declared.node.AigNode.{AigNode}
use Rattle.bb_aig.specs.declared.node.AigNode.TheVariants as n
use Rattle.bb_aig.specs.Graph.{lit_at, inputs_of, Adds}
use Rattle.bb_aig.proofs.Values.{count_push}
use Rattle.bb_aig.specs.Bits.{number}
use Rattle.bb_aig.specs.Gates.{Grows, AreLits, bits}
use Rattle.bb_words.specs.Words.{IsWord, AreWords}
use Rattle.bb_blast.specs.declared.places.Placed.{Placed}
use Rattle.bb_blast.specs.Choice.{bits_from, numbers_from, literals_from, table_from, places_from, all_places}
use Rattle.bb_blast.specs.Choice.{InputsAreFirst, HasInputsAlone}

-- ---- nodes at a place

get_front : (gs hs : List AigNode) (k : ℕ) → k < length gs → slice_get (gs ++ hs) k ≡ slice_get gs k
get_front [] hs k below = absurd (omega arith)
get_front (g ∷ gs) hs zero below = refl
get_front (g ∷ gs) hs (suc k) below = get_front gs hs k (omega arith)

get_last : (gs : List AigNode) (g : AigNode) (k : ℕ) → length gs ≡ k → slice_get (gs ++ g ∷ []) k ≡ Some g
get_last [] g zero e = refl
get_last [] g (suc k) e = absurd (omega arith)
get_last (h ∷ gs) g zero e = absurd (omega arith)
get_last (h ∷ gs) g (suc k) e = get_last gs g k (omega arith)

get_taken : (n : ℕ) (gs : List AigNode) (k : ℕ) → k < n → slice_get (take n gs) k ≡ slice_get gs k
get_taken zero gs k below = absurd (omega arith)
get_taken (suc n) [] k below = refl
get_taken (suc n) (g ∷ gs) zero below = refl
get_taken (suc n) (g ∷ gs) (suc k) below = get_taken n gs k (omega arith)

-- ---- inputs

pub one_more : (old new : List AigNode) (lit : ℕ) → Adds old new (n.Input (inputs_of old)) lit
    → inputs_of new ≡ inputs_of old + 1
one_more old new lit add = ap inputs_of add.nodes ∙ count_push 0 old (n.Input (inputs_of old))

pub input_lit : (old new : List AigNode) (lit : ℕ) → HasInputsAlone old → Adds old new (n.Input
    (inputs_of old)) lit
    → lit ≡ 2 * (inputs_of old + 1)
input_lit old new lit h add = omega (arith, add.place, h.each)

pub with_input : (old new : List AigNode) (lit : ℕ) → HasInputsAlone old → Adds old new (n.Input
    (inputs_of old)) lit
    → HasInputsAlone new
with_input old new lit h add =
    let k = inputs_of old in
    let more : inputs_of new ≡ k + 1 = one_more old new lit add in
    record {
      each = ap length add.nodes ∙ length_push old (n.Input k) ∙ ap (λ m. m + 1) (h.each ∙ sym more);
      inputs = record {
        nodes = λ i below. elim (cases_lt i k) [
          | inl lt ↦
              ap (λ gs. slice_get gs (i + 1)) add.nodes
              ∙ get_front old (n.Input k ∷ []) (i + 1) (omega (arith, h.each)) ∙ h.inputs.nodes i lt
          | inr ge ↦
              let is : k ≡ i = omega (arith, more) in
              ap (λ gs. slice_get gs (i + 1)) add.nodes
              ∙ get_last old (n.Input k) (i + 1) (omega (arith, h.each)) ∙ ap (λ j. Some (n.Input j)) is
        ];
        value = λ x i below. elim (cases_lt i k) [
          | inl lt ↦ add.kept x (2 * (i + 1)) (omega (arith, h.each)) ∙ h.inputs.value x i lt
          | inr ge ↦
              let is : i ≡ k = omega (arith, more) in
              let at : 2 * (i + 1) ≡ lit = omega (arith, input_lit old new lit h add) in
              ap (lit_at new x) at ∙ add.value x ∙ ap x (sym is)
        ];
      };
    }

-- ---- the words of sources

there_from : (graph : List AigNode) → HasInputsAlone graph → (at w : ℕ) → at + w ≤ inputs_of graph
    → AreLits graph (literals_from at w)
there_from graph h at zero below = tt
there_from graph h at (suc w) below =
    (omega (arith, h.each), there_from graph h (at + 1) w (omega arith))

wide_from : (at w : ℕ) → length (literals_from at w) ≡ w
wide_from at zero = refl
wide_from at (suc w) = ap suc (wide_from (at + 1) w)

value_from : (graph : List AigNode) (x : ℕ → Bool) → HasInputsAlone graph → (at w : ℕ)
    → at + w ≤ inputs_of graph
    → bits graph x (literals_from at w) ≡ bits_from x at w
value_from graph x h at zero below = refl
value_from graph x h at (suc w) below =
    ap (λ b. b ∷ bits graph x (literals_from (at + 1) w)) (h.inputs.value x at (omega arith))
    ∙ ap (λ bs. x at ∷ bs) (value_from graph x h (at + 1) w (omega arith))

source_here : (graph : List AigNode) → HasInputsAlone graph → (at w : ℕ) (ws : List ℕ)
    → at + w ≤ inputs_of graph
    → AreWords graph ws (λ x. numbers_from x (at + w) ws) (table_from (at + w) ws)
    → (i : ℕ) → i < length (table_from at (w ∷ ws))
    → IsWord graph (slice_index (w ∷ ws) i) (λ x. slice_index (numbers_from x at (w ∷ ws)) i)
    (slice_index_or (table_from at (w ∷ ws)) i [])
source_here graph h at w ws below rest zero less = record {
  there = there_from graph h at w below;
  wide = wide_from at w;
  value = λ x. ap number (value_from graph x h at w below);
}
source_here graph h at w ws below rest (suc i) less = rest.words i (omega arith)

pub source_words : (graph : List AigNode) → HasInputsAlone graph → (at : ℕ) (ws : List ℕ)
    → at + sum ws ≤ inputs_of graph → AreWords graph ws (λ x. numbers_from x at ws) (table_from at ws)
source_words graph h at [] below = record { each = refl; words = λ i less. absurd (omega arith) }
source_words graph h at (w ∷ ws) below =
    let e : sum (w ∷ ws) ≡ w + sum ws = sum_by-cons (λ x. x) w ws in
    let rest = source_words graph h (at + w) ws (omega arith) in
    record { each = ap suc rest.each; words = source_here graph h at w ws (omega arith) rest }

-- ---- one more bit of a source

pub literals_push : (at w : ℕ) → literals_from at w ++ 2 * (at + w + 1) ∷ [] ≡ literals_from at (w + 1)
literals_push at zero = let e : 2 * (at + 0 + 1) ≡ 2 * (at + 1) = omega arith in ap (λ l. l ∷ []) e
literals_push at (suc w) =
    let e : 2 * (at + suc w + 1) ≡ 2 * (at + 1 + w + 1) = omega arith in
    let s : suc (w + 1) ≡ suc w + 1 = omega arith in
    ap (λ l. literals_from at (suc w) ++ l ∷ []) e
    ∙ ap (λ ls. 2 * (at + 1) ∷ ls) (literals_push (at + 1) w) ∙ ap (literals_from at) s

pub places_push : (s b at w : ℕ)
    → places_from s b at w ++ places_from s (b + w) (at + w) 1 ≡ places_from s b at (w + 1)
places_push s b at zero =
    let e : b + 0 ≡ b = omega arith in
    let f : at + 0 ≡ at = omega arith in
    ap (λ k. places_from s k (at + 0) 1) e ∙ ap (λ k. places_from s b k 1) f
places_push s b at (suc w) =
    let e : b + suc w ≡ b + 1 + w = omega arith in
    let f : at + suc w ≡ at + 1 + w = omega arith in
    let g : suc (w + 1) ≡ suc w + 1 = omega arith in
    ap (λ k. places_from s b at (suc w) ++ places_from s k (at + suc w) 1) e
    ∙ ap (λ k. places_from s b at (suc w) ++ places_from s (b + 1 + w) k 1) f
    ∙ ap (λ ps. record { source = s; bit = b; node = at + 1 } ∷ ps) (places_push s (b + 1) (at + 1) w)
    ∙ ap (places_from s b at) g

-- ---- loops

-- What the loop over the bits of a source keeps.
pub record AddingBits (old now : List AigNode) (before places : List Placed) (source i : ℕ)
    (word : List ℕ) : Type 0 where
  pub inputs : HasInputsAlone now
  pub counted : inputs_of now ≡ inputs_of old + i
  pub literals : word ≡ literals_from (inputs_of old) i
  pub placed : places ≡ before ++ places_from source 0 (inputs_of old) i

pub adding_bits_next : (old now new : List AigNode) (before places more : List Placed) (source i lit : ℕ)
    (word longer : List ℕ) → AddingBits old now before places source i word → HasInputsAlone new
    → inputs_of new ≡ inputs_of now + 1 → lit ≡ 2 * (inputs_of now + 1)
    → more ≡ places ++ places_from source i (inputs_of now) 1 → longer ≡ word ++ lit ∷ []
    → AddingBits old new before more source (i + 1) longer
adding_bits_next old now new before places more source i lit word longer h ins one is placed pushed =
    let k = inputs_of old in
    record {
      inputs = ins;
      counted = omega (arith, one, h.counted);
      literals =
          let e : lit ≡ 2 * (k + i + 1) = omega (arith, is, h.counted) in
          pushed ∙ ap (λ ls. ls ++ lit ∷ []) h.literals ∙ ap (λ l. literals_from k i ++ l ∷ []) e
          ∙ literals_push k i;
      placed =
          let z : i ≡ 0 + i = omega arith in
          placed ∙ ap (λ ps. ps ++ places_from source i (inputs_of now) 1) h.placed
          ∙ append_assoc before (places_from source 0 k i) (places_from source i (inputs_of now) 1)
          ∙ ap (λ m. before ++ (places_from source 0 k i ++ places_from source i m 1)) h.counted
          ∙ ap (λ b. before ++ (places_from source 0 k i ++ places_from source b (k + i) 1)) z
          ∙ ap (λ ps. before ++ ps) (places_push source 0 k i);
    }

-- What the loop over the sources keeps.
pub record AddingSources (now : List AigNode) (widths : List ℕ) (i : ℕ) (places : List Placed)
    (words : List (List ℕ)) : Type 0 where
  pub inputs : HasInputsAlone now
  pub counted : inputs_of now + sum (drop i widths) ≡ sum widths
  pub table : words ++ table_from (inputs_of now) (drop i widths) ≡ table_from 0 widths
  pub placed : places ++ all_places i (inputs_of now) (drop i widths) ≡ all_places 0 0 widths

-- what stands in front is a part of what stands behind a step
step_lists : {A : Type 0} (front : List A) → (one : A) (rest all more : List A) → more ≡ front ++ one ∷ []
    → front ++ one ∷ rest ≡ all → more ++ rest ≡ all
step_lists front one rest all more e h =
    ap (λ ls. ls ++ rest) e ∙ append_assoc front (one ∷ []) rest ∙ h

pub adding_sources_next : (now new : List AigNode) (widths : List ℕ) (i width d : ℕ) (places more : List Placed)
    (words longer : List (List ℕ)) (word : List ℕ) → i < length widths → width ≡ slice_index_or widths i d
    → AddingSources now widths i places words → HasInputsAlone new → inputs_of new ≡ inputs_of now + width
    → word ≡ literals_from (inputs_of now) width → more ≡ places ++ places_from i 0 (inputs_of now) width
    → longer ≡ words ++ word ∷ [] → AddingSources new widths (i + 1) more longer
adding_sources_next now new widths i width d places more words longer word within is h ins count w placed pushed =
    let k = inputs_of now in
    let rest = drop (i + 1) widths in
    let here : drop i widths ≡ width ∷ rest = drop_more widths i d within ∙ ap (λ v. v ∷ rest) (sym is) in
    record {
      inputs = ins;
      counted =
          let e : sum (width ∷ rest) ≡ width + sum rest = sum_by-cons (λ x. x) width rest in
          omega (arith, count, h.counted, ap sum here);
      table =
          step_lists words (literals_from k width) (table_from (inputs_of new) rest) (table_from 0 widths) longer
          (pushed ∙ ap (λ ls. words ++ ls ∷ []) w)
          (ap (λ m. words ++ literals_from k width ∷ table_from m rest) count
          ∙ ap (λ ls. words ++ table_from k ls) (sym here) ∙ h.table);
      placed =
          ap (λ ps. ps ++ all_places (i + 1) (inputs_of new) rest) placed
          ∙ append_assoc places (places_from i 0 k width) (all_places (i + 1) (inputs_of new) rest)
          ∙ ap (λ m. places ++ (places_from i 0 k width ++ all_places (i + 1) m rest)) count
          ∙ ap (λ ls. places ++ all_places i k ls) (sym here) ∙ h.placed;
    }

pub adding_sources_all : (now : List AigNode) (widths : List ℕ) (i : ℕ) (places : List Placed)
    (words : List (List ℕ)) → length widths ≤ i → AddingSources now widths i places words
    → (inputs_of now ≡ sum widths) × (words ≡ table_from 0 widths) × (places ≡ all_places 0 0 widths)
adding_sources_all now widths i places words past h =
    let none : drop i widths ≡ [] = drop_all i widths past in (
      omega (arith, h.counted, ap sum none),
      sym (append-nil words) ∙ ap (λ ls. words ++ table_from (inputs_of now) ls) (sym none) ∙ h.table,
      sym (append-nil places) ∙ ap (λ ls. places ++ all_places i (inputs_of now) ls) (sym none) ∙ h.placed,
    )

-- the place of one more input
pub placed_one : (source bit k lit : ℕ) (places more : List Placed) → lit ≡ 2 * (k + 1)
    → more ≡ places ++ record { source = source; bit = bit; node = lit / 2 } ∷ []
    → more ≡ places ++ places_from source bit k 1
placed_one source bit k lit places more is e =
    let h : lit / 2 ≡ k + 1 = omega (arith, is) in
    e ∙ ap (λ m. places ++ record { source = source; bit = bit; node = m } ∷ []) h

-- a graph with node 0 alone
pub no_inputs : HasInputsAlone (n.False ∷ [])
no_inputs = record {
  each = refl;
  inputs = record { nodes = λ i below. absurd (omega arith); value = λ x i below. absurd (omega arith) };
}

-- gates behind inputs
pub inputs_on : (old new : List AigNode) → HasInputsAlone old → Grows old new → InputsAreFirst new
inputs_on old new h grows = record {
  nodes = λ i below.
      let lt : i < inputs_of old = omega (arith, grows.counted) in
      sym (get_taken (length old) new (i + 1) (omega (arith, h.each)))
      ∙ ap (λ gs. slice_get gs (i + 1)) grows.begun ∙ h.inputs.nodes i lt;
  value = λ x i below.
      let lt : i < inputs_of old = omega (arith, grows.counted) in
      grows.kept x (2 * (i + 1)) (omega (arith, h.each)) ∙ h.inputs.value x i lt;
}
