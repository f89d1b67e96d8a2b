-- Registers and memories get the numbers of the map that stands in the cells.
use Rattle.std.specs.Prelude.{◌≡◌, refl, ℕ, zero, suc, ◌+◌, ◌<◌, ◌≤◌, ◌^◌, List, [], ◌∷◌, length, map, take, drop}
use Rattle.std.specs.Prelude.{Bool, true, false, Option, Some, IfSome, is_none, slice_get, slice_index, slice_index_or}
use Rattle.std.proofs.Common.{ap, sym, ◌∙◌, arith, subst, true≢false, ◌⊎◌, inl, inr}
use Rattle.std.specs.List.{AllByRecursion}
use Rattle.std.proofs.lemmas.List.{ext_get_or, length-map}
use Rattle.std.proofs.lemmas.Option.{same_Some}
use Rattle.vl_size.specs.declared.decl.Decl.{Decl}
use Rattle.vl_size.specs.Size.{Values}
use Rattle.vl_mean.specs.Parts.{Part}
use Rattle.vl_flow_cells.specs.Numbered.{all_cells}
use Rattle.vl_flow_cells.proofs.Lists.{get_some}
use Rattle.wn_net.specs.declared.names.Names.{Names}
use Rattle.wn_net.specs.declared.names.Spot.{Spot}
use Rattle.wn_net.specs.declared.parts.Mem.{Mem}
use Rattle.wn_net.specs.declared.parts.MemWrite.{MemWrite}
use Rattle.wn_net.specs.declared.parts.Reg.{Reg}
use Rattle.wn_net.specs.Changes.{Keeps, mem_width}
use Rattle.wn_net.specs.Given.{AreMemsOf, IsGiven}
use Rattle.wn_net.specs.Net.{IsNet, IsWriteOf, Netlist, value_at, values_of}
use Rattle.wn_net.specs.Value.{Given, words_of}
use Rattle.wn_net.specs.Next.{next_mems, write_each, written}
use Rattle.wn_chain.specs.Writes.{written_at, written_by}
use Rattle.wn_chain.proofs.Behind.{written_long}
use Rattle.wn_net.proofs.Moved.{value_within}
use Rattle.vl_lower_spec.specs.Maps.{cells_named, gathered, text_of}
use Rattle.vl_lower_assign.specs.declared.track.Track.{Track}
use Rattle.vl_lower_assign.specs.Tracks.{AreTracks, LeadTo, track_at}
use Rattle.vl_lower_assign.specs.Frames.{AreCellsOf, Stand}
use Rattle.vl_lower_assign.proofs.Behind.{cell_there}
use Rattle.vl_lower_spec.specs.Sources.{AreEach}
use Rattle.vl_lower_spec.specs.Edges.{IsNextOf, WriteWords}
use Rattle.vl_lower_spec.proofs.Writing.{words_written}
use Rattle.vl_lower_cell_laws.specs.Entries.{all_entries}
use Rattle.vl_lower_cell_laws.specs.Keeps.{Kept}
use Rattle.vl_lower_cell_laws.specs.Listing.{Keeping, Stored, all_memories, all_registers, register_spot}
use Rattle.vl_lower_cell_laws.proofs.Places.{AllAt, all_at}
use Rattle.vl_lower_state.specs.Nexts.{ShowBits, with_nexts}
use Rattle.vl_lower_state.specs.Stores.{AreStored, IsKeptAs, IsStored, PutNodes, words_at}
use Rattle.vl_lower_state.proofs.Placed.{index_behind, left_over, taken}
use Rattle.vl_lower_state.specs.Held.{memory_firsts, register_places}
use Rattle.vl_lower_state.specs.Next.{RegistersAreNext, WordsAreNext}
use Rattle.vl_lower_state.proofs.Of.{AreOf, IsOf, memories_are_of, registers_are_of}

standing : (ds : List Decl) (ps : List Part) (nodes : List ℕ) (names : Names)
    → names.list ≡ all_entries ps ds nodes 0 0 → AllAt ps nodes names.list ds 0 0 0
standing ds ps nodes names list =
    all_at ps nodes names.list ds 0 0 0 (λ j x e.
    let same : 0 + j ≡ j = omega arith in
    ap (λ xs. slice_get xs (0 + j)) list ∙ ap (slice_get (all_entries ps ds nodes 0 0)) same ∙ e)

from_none : (ds : List Decl) (j : ℕ) (n : List ℕ) → slice_get (all_cells ds) j ≡ Some n
    → slice_get (all_cells ds) (0 + j) ≡ Some n
from_none ds j n e = let same : 0 + j ≡ j = omega arith in ap (slice_get (all_cells ds)) same ∙ e

-- ---- registers

many_left : (ns : List ℕ) (rs : List Reg) → length (with_nexts ns rs) ≡ length rs
many_left [] rs = refl
many_left (n ∷ ns) [] = refl
many_left (n ∷ ns) (r ∷ rs) = ap suc (many_left ns rs)

module _ (ds : List Decl) (ps : List Part) (keep : Keeping) (nodes : List ℕ) (old mid net : Netlist) (names : Names)
    (cells : List ℕ) (g : Given) (w : Values) (keeps : Keeps mid net) (given : IsGiven old g)
    (stand : Stand old g ds cells w) where
  each_next : (xs : List (Kept × ℕ)) (cs ns : List ℕ) (rs : List Reg)
      → ShowBits old mid cells (map register_spot xs) cs ns
      → AreEach (IsOf (all_cells ds) ps keep nodes names.list) xs cs → length rs ≡ length xs
      → AreEach (IsNextOf net names g w) (with_nexts ns rs) (map register_spot xs)
  each_next [] [] [] [] shows of many = tt
  each_next [] [] [] (r ∷ rs) shows of many = absurd (omega (arith, many))
  each_next [] [] (n ∷ ns) rs shows of many = absurd shows
  each_next [] (c ∷ cs) ns rs shows of many = absurd of
  each_next (x ∷ xs) [] ns rs shows of many = absurd of
  each_next (x ∷ xs) (c ∷ cs) [] rs shows of many = absurd shows
  each_next (x ∷ xs) (c ∷ cs) (n ∷ ns) [] shows of many = absurd (omega (arith, many))
  each_next (x ∷ xs) (c ∷ cs) (n ∷ ns) (r ∷ rs) shows of many = (
    keeps.values g n shows.0.node.0 ∙ shows.0.value g given
        ∙ ap (λ y. gathered y x.0.bits) (sym (stand c (text_of (slice_get names.list x.1)) of.0)),
    each_next xs cs ns rs shows.1 of.1 (omega (arith, many)),
  )

pub registers_next : RegistersAreNext
registers_next ds ps keep nodes old mid net names cells nexts rs g w list has shows regs keeps given stand =
    let xs : List (Kept × ℕ) = all_registers ps keep ds 0 0 in
    let E : List Reg → List Spot → Type 0 = λ us ss. AreEach (IsNextOf net names g w) us ss in
    subst (λ us. E us names.regs) (sym regs)
    (subst (λ ss. E (with_nexts nexts rs) ss) (sym has.reg_spots)
    (each_next ds ps keep nodes old mid net names cells g w keeps given stand xs (register_places ps keep ds 0) nexts rs
    (subst (λ ss. ShowBits old mid cells ss (register_places ps keep ds 0) nexts) has.reg_spots shows)
    (registers_are_of (all_cells ds) ps keep nodes names.list ds 0 0 0 (standing ds ps nodes names list)
    (from_none ds)) many))
  where
    many : length rs ≡ length (all_registers ps keep ds 0 0)
    many =
        sym (many_left nexts rs) ∙ ap length (sym regs) ∙ sym (length-map net.regs (λ r. r.width))
        ∙ ap length has.reg_widths
        ∙ length-map (all_registers ps keep ds 0 0) (λ (x : Kept × ℕ). x.0.width)

-- ---- memories

abbrev is_nil : List ℕ → Bool
is_nil [] = true
is_nil (x ∷ xs) = false

abbrev head : List ℕ → ℕ
head [] = 0
head (x ∷ xs) = x

abbrev tail : List ℕ → List ℕ
tail [] = []
tail (x ∷ xs) = xs

module _ (net : Netlist) (g : Given) (w : Values) (is : IsNet net) (given : IsGiven net g) where
  put_writes : (width address : ℕ) (xs : List MemWrite) (ns : List ℕ) (texts : List (List ℕ))
      → PutNodes net width address xs ns → length ns ≡ length texts
      → ((j n : ℕ) (t : List ℕ) → slice_get ns j ≡ Some n → slice_get texts j ≡ Some t → w t ≡ value_at net g n)
      → WriteWords net g width w address xs texts
  put_writes width address [] [] [] h many same = tt
  put_writes width address [] [] (t ∷ ts) h many same = absurd (omega (arith, many))
  put_writes width address [] (n ∷ ns) ts h many same = absurd h
  put_writes width address (x ∷ xs) [] ts h many same = absurd h
  put_writes width address (x ∷ xs) (n ∷ ns) [] h many same = absurd (omega (arith, many))
  put_writes width address (x ∷ xs) (n ∷ ns) (t ∷ ts) h many same =
      let here = same zero n t refl refl in (
        record {
          acts = h.0.acts.value g;
          at = h.0.at.value g;
          whole = h.0.whole.value g;
          is = ap (value_at net g) h.0.is ∙ sym here;
          small = subst (λ y. y < 2 ^ width) (sym here) (value_within net g width n is given h.0.there);
        },
        put_writes width (address + 1) xs ns ts h.1 (omega (arith, many)) (λ j m u e f. same (suc j) m u e f),
      )

-- the first elements behind a place, where there are so many
pub taken_behind : (k f : ℕ) (xs : List ℕ) → (k ≡ 0) ⊎ (f + k ≤ length xs) → length (take k (drop f xs)) ≡ k
taken_behind k f xs (inl none) = ap (λ n. length (take n (drop f xs))) none ∙ sym none
taken_behind k f xs (inr few) =
    let many = left_over f xs (omega (arith, few)) in taken k (drop f xs) (omega (arith, few, many))

nodes_at : (k f : ℕ) (xs : List ℕ) (j n : ℕ) → slice_get (take k (drop f xs)) j ≡ Some n → slice_index xs (f + j) ≡ n
nodes_at k f xs j n e = sym (index_behind f j xs) ∙ within k (drop f xs) j n e
  where
    within : (i : ℕ) (ys : List ℕ) (l m : ℕ) → slice_get (take i ys) l ≡ Some m → slice_index ys l ≡ m
    within zero ys l m h = absurd (true≢false (ap is_none h))
    within (suc i) [] l m h = absurd (true≢false (ap is_none h))
    within (suc i) (y ∷ ys) zero m h = same_Some y m h
    within (suc i) (y ∷ ys) (suc l) m h = within i ys l m h

-- writes of a net, by the numbers that they have in another one that keeps them
kept_writes : (old net : Netlist) (g : Given) (width : ℕ) (words : List ℕ) (xs : List MemWrite) → Keeps old net
    → AllByRecursion (IsWriteOf old width) xs
    → write_each (values_of net g) width words xs ≡ written_by old g width words xs
unfolding value_at
kept_writes old net g width words [] keeps fit = refl
kept_writes old net g width words (x ∷ xs) keeps fit =
    (λ i. write_each (values_of net g) width (written width words (keeps.values g x.enable fit.0.enable.0 i)
    (keeps.values g x.addr fit.0.addr i) (keeps.values g x.mask fit.0.mask.0 i)
    (keeps.values g x.value fit.0.value.0 i)) xs)
    ∙ kept_writes old net g width (written_at old g width words x) xs keeps fit.1

-- the number of a name
number_of : (w : Values) (names : List (List ℕ)) (k : ℕ) (n : List ℕ) → slice_get names k ≡ Some n
    → slice_index (map w names) k ≡ w n
number_of w [] zero n e = absurd (true≢false (ap is_none e))
number_of w [] (suc k) n e = absurd (true≢false (ap is_none e))
number_of w (x ∷ xs) zero n e = ap w (same_Some x n e)
number_of w (x ∷ xs) (suc k) n e = number_of w xs k n e

module _ (ds : List Decl) (ps : List Part) (keep : Keeping) (nodes : List ℕ) (old net : Netlist) (names : Names)
    (cells : List ℕ) (tracks : List Track) (g : Given) (w : Values) (lead : AreTracks old cells tracks)
    (own : AreCellsOf old ds cells) (keeps : Keeps old net) (is : IsNet net) (before : IsGiven old g)
    (given : IsGiven net g) (stand : Stand old g ds cells w) where
  -- a cell of a name has its number in the net too
  stands : (i : ℕ) (t : List ℕ) → slice_get (all_cells ds) i ≡ Some t → w t ≡ value_at net g (slice_index cells i)
  stands i t e =
      stand i t e ∙ sym (keeps.values g (slice_index cells i) (own.node i (cell_there old ds cells i t own e)).0)

  put_next : (m : Mem) (y : Stored × ℕ) (f : ℕ) (q : List ℕ) → length q ≡ m.words → m.words ≡ y.0.words
      → PutNodes net m.width 0 m.writes (words_at cells m f)
      → AreOf (all_cells ds) ps keep nodes names.list y f
      → write_each (values_of net g) m.width q m.writes ≡ map w (cells_named (slice_get names.list y.1))
  put_next m y f q each words stored of =
      words_written net g m.width w q m.writes (cells_named (slice_get names.list y.1)) (each ∙ words ∙ sym of.count)
      (put_writes net g w is given m.width 0 m.writes (take m.words (drop f cells))
      (cells_named (slice_get names.list y.1)) stored (many ∙ words ∙ sym of.count) (λ j n t e s.
      stands (f + j) t (of.each j t s) ∙ ap (value_at net g) (nodes_at m.words f cells j n e)))
    where
      enough : (k : ℕ) → m.words ≡ k → (k ≡ 0) ⊎ (f + k ≤ length cells)
      enough zero e = inl refl
      enough (suc k) e =
          let less : k < length (cells_named (slice_get names.list y.1)) = omega (arith, e, words, of.count) in
          let last = get_some (cells_named (slice_get names.list y.1)) k less in
          let there : f + k < length cells =
          cell_there old ds cells (f + k) last.0 own (of.each k last.0 last.1) in
          inr (omega (arith, there))

      many : length (take m.words (drop f cells)) ≡ m.words
      many = taken_behind m.words f cells (enough m.words refl)

  kept_next : (number : ℕ) (m : Mem) (y : Stored × ℕ) (f : ℕ) (q : List ℕ) → length q ≡ m.words
      → m.words ≡ y.0.words → m.width ≡ mem_width old number → q ≡ words_of g number
      → IsKeptAs tracks number m f → AreOf (all_cells ds) ps keep nodes names.list y f
      → write_each (values_of net g) m.width q m.writes ≡ map w (cells_named (slice_get names.list y.1))
  kept_next number m y f q each words wide these kept of =
      let texts = cells_named (slice_get names.list y.1) in
      let t = track_at tracks number in
      let h : LeadTo old cells number t.first t.count m.writes =
      subst (λ (o : Option (List MemWrite)). IfSome o (LeadTo old cells number t.first t.count)) kept.writes_are
      (lead.each number kept.there) in
      let W = mem_width old number in
      let us = written_by old g W (words_of g number) m.writes in
      let long : length us ≡ length (map w texts) =
      written_long old g W (words_of g number) m.writes ∙ ap length (sym these) ∙ each ∙ words ∙ sym of.count
      ∙ sym (length-map texts w) in
      (λ i. write_each (values_of net g) (wide i) (these i) m.writes)
      ∙ kept_writes old net g W (words_of g number) m.writes keeps h.fit
      ∙ ext_get_or 0 us (map w texts) long (λ k less.
      let below : k < length texts = omega (arith, less, long, length-map texts w) in
      let within : k < t.count = omega (arith, below, of.count, words, kept.count_is) in
      let n = get_some texts k below in
      sym (h.numbers g k before within)
      ∙ ap (λ j. value_at old g (slice_index cells (j + k))) kept.first_is
      ∙ sym (stand (f + k) n.0 (of.each k n.0 n.1)) ∙ sym (number_of w texts k n.0 n.1))

  one_next : (number : ℕ) (m : Mem) (y : Stored × ℕ) (f : ℕ) (q : List ℕ) → length q ≡ m.words
      → m.words ≡ y.0.words → m.width ≡ mem_width old number → q ≡ words_of g number
      → IsStored net cells tracks number m f → AreOf (all_cells ds) ps keep nodes names.list y f
      → write_each (values_of net g) m.width q m.writes ≡ map w (cells_named (slice_get names.list y.1))
  one_next number m y f q each words wide these (inl stored) of = put_next m y f q each words stored of
  one_next number m y f q each words wide these (inr kept) of =
      kept_next number m y f q each words wide these kept of

  memories_next : (number : ℕ) (ms : List Mem) (qs : List (List ℕ)) (ys : List (Stored × ℕ)) (fs : List ℕ)
      → ((j : ℕ) → slice_index_or qs j [] ≡ words_of g (number + j))
      → ((j : ℕ) → slice_index (map (λ (m : Mem). m.width) ms) j ≡ mem_width old (number + j)) → AreMemsOf ms qs
      → map (λ (m : Mem). m.words) ms ≡ map (λ (y : Stored × ℕ). y.0.words) ys
      → AreStored net cells tracks number ms fs → AreEach (AreOf (all_cells ds) ps keep nodes names.list) ys fs
      → next_mems (values_of net g) ms qs
      ≡ map (λ (at : ℕ). map w (cells_named (slice_get names.list at))) (map (λ (y : Stored × ℕ). y.1) ys)
  memories_next number [] [] [] fs these wide has same stored of = refl
  memories_next number [] (q ∷ qs) ys fs these wide has same stored of = absurd has
  memories_next number [] [] (y ∷ ys) fs these wide has same stored of = absurd (true≢false (ap is_nil same))
  memories_next number (m ∷ ms) [] ys fs these wide has same stored of = absurd has
  memories_next number (m ∷ ms) (q ∷ qs) [] fs these wide has same stored of =
      absurd (true≢false (sym (ap is_nil same)))
  memories_next number (m ∷ ms) (q ∷ qs) (y ∷ ys) [] these wide has same stored of = absurd of
  memories_next number (m ∷ ms) (q ∷ qs) (y ∷ ys) (f ∷ fs) these wide has same stored of =
      let here : number + 0 ≡ number = omega arith in
      let one = one_next number m y f q has.0.each (ap head same) (wide 0 ∙ ap (mem_width old) here)
      (these 0 ∙ ap (words_of g) here) stored.0 of.0 in
      let rest = memories_next (number + 1) ms qs ys fs
      (λ j. let next : number + suc j ≡ number + 1 + j = omega arith in these (suc j) ∙ ap (words_of g) next)
      (λ j. let next : number + suc j ≡ number + 1 + j = omega arith in wide (suc j) ∙ ap (mem_width old) next)
      has.1 (ap tail same) stored.1 of.1 in
      λ i. one i ∷ rest i

pub words_next : WordsAreNext
words_next ds ps keep nodes old net names cells tracks g w list has lead own keeps widths stored is before given stand =
    memories_next ds ps keep nodes old net names cells tracks g w lead own keeps is before given stand 0 net.mems
    g.state.mems (all_memories ps keep ds 0 0) (memory_firsts ps ds 0)
    (λ j. let same : j ≡ 0 + j = omega arith in ap (words_of g) same)
    (λ j. let same : j ≡ 0 + j = omega arith in ap (λ ws. slice_index ws j) widths ∙ ap (mem_width old) same)
    given.state.mems has.mem_words stored
    (memories_are_of (all_cells ds) ps keep nodes names.list ds 0 0 0 (standing ds ps nodes names list)
    (from_none ds))
    ∙ ap (map (λ (at : ℕ). map w (cells_named (slice_get names.list at)))) (sym has.mem_names)
