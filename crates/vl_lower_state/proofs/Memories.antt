-- Memories may be written from the cells that they are of.
use Rattle.std.specs.Prelude.{◌≡◌, refl, ℕ, zero, suc, ◌+◌, ◌<◌, ◌≤◌, List, [], ◌∷◌, length, map, Bool, true, false}
use Rattle.std.specs.Prelude.{Option, Some, None, ℤ, int_le, if◌then◌else◌, slice_index}
use Rattle.std.proofs.Common.{ap, sym, arith, subst, true≢false}
use Rattle.vl_size.specs.declared.decl.Class.{Class}
use Rattle.vl_size.specs.declared.decl.Class.TheVariants as class
use Rattle.vl_size.specs.declared.decl.Decl.{Decl}
use Rattle.vl_size.specs.Table.{span}
use Rattle.vl_mean.specs.Cells.{cells, cells_of}
use Rattle.vl_mean.specs.Parts.{Part}
use Rattle.vl_mean.specs.Runs.{Each}
use Rattle.vl_flow_cells.proofs.Lists.{get_some}
use Rattle.vl_flow_cells.proofs.Words.{words_length}
use Rattle.wn_net.specs.declared.parts.Mem.{Mem}
use Rattle.wn_net.specs.Net.{IsNodeOf, Netlist}
use Rattle.vl_lower_assign.specs.Frames.{AreCellsOf, cell_widths}
use Rattle.vl_lower_spec.specs.Sources.{AreEach}
use Rattle.vl_lower_cell_laws.specs.Entries.{is_memory}
use Rattle.vl_lower_cell_laws.specs.Listing.{Keeping, Stored, all_memories, entry_count, memories_in, stored}
use Rattle.vl_lower_state.specs.Stores.{MayStore}
use Rattle.vl_lower_state.specs.Held.{firsts_in, memory_firsts}
use Rattle.vl_lower_state.proofs.Pairs.{pairs_both}
use Rattle.vl_lower_state.specs.Ready.{HasNoWrites, MemoriesAreReady}
use Rattle.vl_lower_state.proofs.Widths.{WideFrom, from_none, node_of, own_widths, wide_back, wide_each, wide_front}

abbrev is_nil : List ℕ → Bool
is_nil [] = true
is_nil (x ∷ xs) = false

abbrev head : List ℕ → ℕ
head [] = 0
head (x ∷ xs) = x

abbrev tail : List ℕ → List ℕ
tail [] = []
tail (x ∷ xs) = xs

-- each name has a cell
pub some_cell : (d : Decl) → 1 ≤ length (cells d)
some_cell d = by d.words
  where
    by : (w : Option (ℤ × ℤ)) → 1 ≤ length (cells_of d.name w)
    by None = omega arith
    by (Some b) =
        omega (arith, words_length d.name (span b.0 b.1) (int_le b.0 b.1) b.0)

module _ (net : Netlist) (ds : List Decl) (ps : List Part) (keep : Keeping) (nodes : List ℕ)
    (own : AreCellsOf net ds nodes) where
  -- there is a cell of its width for each word
  pub record HasCells (y : Stored × ℕ) (first : ℕ) : Type 0 where
    pub there : first + y.0.words ≤ length nodes
    pub node : (k : ℕ) → k < y.0.words → IsNodeOf net y.0.width (slice_index nodes (first + k))

  of_name : (d : Decl) (first at : ℕ) → WideFrom (cell_widths ds) first (own_widths d)
      → HasCells (stored keep d first, at) first
  of_name d first at wide = record { there = enough (length (cells d)) refl; node = λ k less. (node k less).1 }
    where
      node : (k : ℕ) → k < length (cells d)
          → (first + k < length nodes) × IsNodeOf net d.width (slice_index nodes (first + k))
      node k less =
          let n = get_some (cells d) k less in
          node_of net ds nodes own (first + k) d.width (wide_each (cell_widths ds) d first wide k n.0 n.1)

      some : 1 ≤ length (cells d)
      some = some_cell d

      enough : (count : ℕ) → length (cells d) ≡ count → first + length (cells d) ≤ length nodes
      enough zero e = absurd (omega (arith, e, some))
      enough (suc k) e =
          let less : k < length (cells d) = omega (arith, e) in omega (arith, e, (node k less).0)

  of_class : (d : Decl) (c : Class) (first at : ℕ) → WideFrom (cell_widths ds) first (own_widths d)
      → AreEach HasCells (memories_in ps keep d c first at) (firsts_in ps d c first)
  of_class d class.Variable first at wide = by (is_memory ps d)
    where
      by : (b : Bool)
          → AreEach HasCells (if b then (stored keep d first, at) ∷ [] else []) (if b then first ∷ [] else [])
      by true = (of_name d first at wide, tt)
      by false = tt
  of_class d class.Clock first at wide = tt
  of_class d class.Reset first at wide = tt
  of_class d class.Input first at wide = tt
  of_class d class.Net first at wide = tt
  of_class d class.EachCycle first at wide = tt
  of_class d class.Once first at wide = tt

  all_of : (es : List Decl) (first at : ℕ) → WideFrom (cell_widths ds) first (cell_widths es)
      → AreEach HasCells (all_memories ps keep es first at) (memory_firsts ps es first)
  all_of [] first at wide = tt
  all_of (d ∷ es) first at wide =
      pairs_both HasCells (memories_in ps keep d d.class first at)
      (all_memories ps keep es (first + length (cells d)) (at + entry_count ps d)) (firsts_in ps d d.class first)
      (memory_firsts ps es (first + length (cells d)))
      (of_class d d.class first at (wide_front (cell_widths ds) first (own_widths d) (cell_widths es) wide))
      (all_of es (first + length (cells d)) (at + entry_count ps d)
      (wide_back (cell_widths ds) d first (cell_widths es) wide))

  may_each : (ms : List Mem) (ys : List (Stored × ℕ)) (fs : List ℕ)
      → map (λ (m : Mem). m.width) ms ≡ map (λ (y : Stored × ℕ). y.0.width) ys
      → map (λ (m : Mem). m.words) ms ≡ map (λ (y : Stored × ℕ). y.0.words) ys
      → Each HasNoWrites ms → AreEach HasCells ys fs → AreEach (MayStore net nodes) ms fs
  may_each [] [] [] wide many none h = tt
  may_each [] [] (f ∷ fs) wide many none h = absurd h
  may_each [] (y ∷ ys) fs wide many none h = absurd (true≢false (ap is_nil wide))
  may_each (m ∷ ms) [] fs wide many none h = absurd (true≢false (sym (ap is_nil wide)))
  may_each (m ∷ ms) (y ∷ ys) [] wide many none h = absurd h
  may_each (m ∷ ms) (y ∷ ys) (f ∷ fs) wide many none h =
      let words : m.words ≡ y.0.words = ap head many in
      let width : m.width ≡ y.0.width = ap head wide in (
        record {
          none = none.0;
          there = omega (arith, words, h.0.there);
          node = λ k less.
              subst (λ w. IsNodeOf net w (slice_index nodes (f + k))) (sym width)
              (h.0.node k (omega (arith, words, less)));
        },
        may_each ms ys fs (ap tail wide) (ap tail many) none.1 h.1,
      )

pub may_be_stored : MemoriesAreReady
may_be_stored ds ps keep net names nodes has own none =
    may_each net ds ps keep nodes own net.mems (all_memories ps keep ds 0 0) (memory_firsts ps ds 0) has.mem_widths
    has.mem_words none (all_of net ds ps keep nodes own ds 0 0 (from_none (cell_widths ds)))
