-- The bits of registers are some of the cells that they are of.
use Rattle.std.specs.Prelude.{◌≡◌, refl, ℕ, zero, suc, ◌+◌, ◌<◌, ◌≤◌, List, [], ◌∷◌, ◌++◌, length, map, Bool, true}
use Rattle.std.specs.Prelude.{false}
use Rattle.std.specs.Prelude.{All, Some, if◌then◌else◌, slice_get}
use Rattle.std.proofs.Common.{ap, sym, ◌∙◌, arith, subst, true≢false}
use Rattle.std.proofs.lemmas.List.Elements.{All-head, All-tail}
use Rattle.vl_size.specs.declared.decl.Class.{Class}
use Rattle.vl_size.specs.declared.decl.Class.TheVariants as class
use Rattle.vl_size.specs.declared.decl.Decl.{Decl}
use Rattle.vl_size.specs.Table.{IsShaped}
use Rattle.vl_mean.specs.Cells.{cells}
use Rattle.vl_mean.specs.Parts.{Part}
use Rattle.wn_net.specs.declared.names.Spot.{Spot}
use Rattle.wn_net.specs.declared.parts.Reg.{Reg}
use Rattle.wn_net.specs.Net.{IsNodeOf, Netlist}
use Rattle.vl_lower_assign.specs.Frames.{AreCellsOf, cell_widths}
use Rattle.vl_lower_cell_laws.specs.Keeps.{IsKeepOf, Kept, registers_of}
use Rattle.vl_lower_cell_laws.proofs.KeepsWhole.{keep_bits}
use Rattle.vl_lower_cell_laws.specs.Entries.{is_memory}
use Rattle.vl_lower_cell_laws.specs.Listing.{AreKeeps, Keeping, all_registers, cell_registers, entry_count}
use Rattle.vl_lower_cell_laws.specs.Listing.{named_registers, register_spot, registers_in}
use Rattle.vl_lower_state.specs.Nexts.{AreBitsOfCell, AreBitsOfCells, AreNexts, ShowBits}
use Rattle.vl_lower_state.specs.Held.{cell_places, places_in, register_places}
use Rattle.vl_lower_state.specs.Ready.{RegistersAreReady}
use Rattle.vl_lower_state.proofs.Widths.{WideFrom, from_none, node_of, own_widths, wide_back, wide_each, wide_front}

abbrev is_nil : List ℕ → Bool
is_nil [] = true
is_nil (x ∷ xs) = false

abbrev head : List ℕ → ℕ
head [] = 0
head (x ∷ xs) = x

abbrev tail : List ℕ → List ℕ
tail [] = []
tail (x ∷ xs) = xs

module _ (net : Netlist) (ds : List Decl) (ps : List Part) (keep : Keeping) (nodes : List ℕ)
    (own : AreCellsOf net ds nodes) where
  -- spots of registers, each of as many bits as it is wide, and the cells that they are of
  abbrev pub AreOf : List (Kept × ℕ) → List ℕ → Type 0
  AreOf [] [] = Unit {0}
  AreOf (x ∷ xs) (c ∷ cs) =
      AreBitsOfCell net nodes (register_spot x) c × (length x.0.bits ≡ x.0.width) × AreOf xs cs
  AreOf xs cs = ⊥

  both : (xs xs2 : List (Kept × ℕ)) (cs cs2 : List ℕ) → AreOf xs cs → AreOf xs2 cs2 → AreOf (xs ++ xs2) (cs ++ cs2)
  both [] xs2 [] cs2 h g = g
  both [] xs2 (c ∷ cs) cs2 h g = absurd h
  both (x ∷ xs) xs2 [] cs2 h g = absurd h
  both (x ∷ xs) xs2 (c ∷ cs) cs2 h g = (h.0, h.1, both xs xs2 cs cs2 h.2 g)

  module _ (d : Decl) (some : 1 ≤ d.width) (few : d.width ≤ 128) where
    of_cell : (at c : ℕ) (n : List ℕ) → IsKeepOf ps d.width n (keep c) → slice_get (cell_widths ds) c ≡ Some d.width
        → (xs : List Kept)
        → ((i : ℕ) (x : Kept) → slice_get xs i ≡ Some x
        → (j : ℕ) × (slice_get (registers_of (keep c) d.width) j ≡ Some x))
        → AreOf (named_registers at xs) (map (λ (x : Kept). c) xs)
    of_cell at c n is wide [] inside = tt
    of_cell at c n is wide (x ∷ xs) inside =
        let place = inside zero x refl in
        let kept = (keep_bits ps d.width n (keep c) some is).each place.0 x place.1 in
        let node = node_of net ds nodes own c d.width wide in (
          record {
            there = node.0;
            node = node.1.0;
            some = omega (arith, kept.some, kept.many);
            few = omega (arith, kept.few, kept.many, few);
            within = λ j k e. subst (λ w. k < w) (sym node.1.1) (kept.within j k e);
          },
          kept.many,
          of_cell at c n is wide xs (λ i y e. inside (suc i) y e),
        )

    of_cells : (first at : ℕ) (texts : List (List ℕ))
        → ((j : ℕ) (n : List ℕ) → slice_get texts j ≡ Some n → IsKeepOf ps d.width n (keep (first + j)))
        → ((j : ℕ) (n : List ℕ) → slice_get texts j ≡ Some n → slice_get (cell_widths ds) (first + j) ≡ Some d.width)
        → AreOf (cell_registers keep d.width first at texts) (cell_places keep d.width first texts)
    of_cells first at [] keeps wide = tt
    of_cells first at (t ∷ ts) keeps wide =
        let none : first + 0 ≡ first = omega arith in
        both (named_registers at (registers_of (keep first) d.width))
        (cell_registers keep d.width (first + 1) (at + 1) ts)
        (map (λ (x : Kept). first) (registers_of (keep first) d.width)) (cell_places keep d.width (first + 1) ts)
        (of_cell at first t (subst (λ k. IsKeepOf ps d.width t (keep k)) none (keeps zero t refl))
        (ap (slice_get (cell_widths ds)) (sym none) ∙ wide zero t refl) (registers_of (keep first) d.width)
        (λ i x e. (i, e)))
        (of_cells (first + 1) (at + 1) ts (λ j n e.
        let same : first + suc j ≡ first + 1 + j = omega arith in
        subst (λ k. IsKeepOf ps d.width n (keep k)) same (keeps (suc j) n e)) (λ j n e.
        let same : first + suc j ≡ first + 1 + j = omega arith in
        ap (slice_get (cell_widths ds)) (sym same) ∙ wide (suc j) n e))

  of_class : (d : Decl) (c : Class) → d.class ≡ c → IsShaped d → (first at : ℕ)
      → (d.class ≡ class.Variable → (j : ℕ) (n : List ℕ) → slice_get (cells d) j ≡ Some n
      → IsKeepOf ps d.width n (keep (first + j)))
      → WideFrom (cell_widths ds) first (own_widths d)
      → AreOf (registers_in ps keep d c first at) (places_in ps keep d c first)
  of_class d class.Variable is shape first at keeps wide = by (is_memory ps d)
    where
      by : (b : Bool)
          → AreOf (if b then [] else cell_registers keep d.width first at (cells d))
          (if b then [] else cell_places keep d.width first (cells d))
      by true = tt
      by false =
          of_cells d shape.some_bits shape.few_bits first at (cells d) (keeps is)
          (wide_each (cell_widths ds) d first wide)
  of_class d class.Clock is shape first at keeps wide = tt
  of_class d class.Reset is shape first at keeps wide = tt
  of_class d class.Input is shape first at keeps wide = tt
  of_class d class.Net is shape first at keeps wide = tt
  of_class d class.EachCycle is shape first at keeps wide = tt
  of_class d class.Once is shape first at keeps wide = tt

  all_of : (es : List Decl) → All IsShaped es → (first at : ℕ) → AreKeeps ps keep es first
      → WideFrom (cell_widths ds) first (cell_widths es)
      → AreOf (all_registers ps keep es first at) (register_places ps keep es first)
  all_of [] shaped first at keeps wide = tt
  all_of (d ∷ es) shaped first at keeps wide =
      both (registers_in ps keep d d.class first at)
      (all_registers ps keep es (first + length (cells d)) (at + entry_count ps d)) (places_in ps keep d d.class first)
      (register_places ps keep es (first + length (cells d)))
      (of_class d d.class refl (All-head IsShaped d es shaped) first at keeps.0
      (wide_front (cell_widths ds) first (own_widths d) (cell_widths es) wide))
      (all_of es (All-tail IsShaped d es shaped) (first + length (cells d)) (at + entry_count ps d) keeps.1
      (wide_back (cell_widths ds) d first (cell_widths es) wide))

  spots_of : (xs : List (Kept × ℕ)) (cs : List ℕ) → AreOf xs cs → AreBitsOfCells net nodes (map register_spot xs) cs
  spots_of [] [] h = tt
  spots_of [] (c ∷ cs) h = h
  spots_of (x ∷ xs) [] h = h
  spots_of (x ∷ xs) (c ∷ cs) h = (h.0, spots_of xs cs h.2)

  nexts_fit : (mid : Netlist) (xs : List (Kept × ℕ)) (cs ns : List ℕ) (rs : List Reg) → AreOf xs cs
      → map (λ (r : Reg). r.width) rs ≡ map (λ (x : Kept × ℕ). x.0.width) xs
      → ShowBits net mid nodes (map register_spot xs) cs ns → AreNexts mid rs ns
  nexts_fit mid [] [] [] [] h same shows = tt
  nexts_fit mid [] [] (n ∷ ns) rs h same shows = absurd shows
  nexts_fit mid [] (c ∷ cs) ns rs h same shows = absurd h
  nexts_fit mid [] [] [] (r ∷ rs) h same shows = absurd (true≢false (sym (ap is_nil same)))
  nexts_fit mid (x ∷ xs) [] ns rs h same shows = absurd h
  nexts_fit mid (x ∷ xs) (c ∷ cs) [] rs h same shows = absurd shows
  nexts_fit mid (x ∷ xs) (c ∷ cs) (n ∷ ns) [] h same shows = absurd (true≢false (ap is_nil same))
  nexts_fit mid (x ∷ xs) (c ∷ cs) (n ∷ ns) (r ∷ rs) h same shows = (
    subst (λ w. IsNodeOf mid w n) (h.1 ∙ sym (ap head same)) shows.0.node,
    nexts_fit mid xs cs ns rs h.2 (ap tail same) shows.1,
  )

pub are_ready : RegistersAreReady
are_ready ds ps keep net names nodes shaped keeps has own =
    let xs = all_registers ps keep ds 0 0 in
    let cs = register_places ps keep ds 0 in
    let of = all_of net ds ps keep nodes own ds shaped 0 0 keeps (from_none (cell_widths ds)) in
    record {
      bits =
          subst (λ (ss : List Spot). AreBitsOfCells net nodes ss cs) (sym has.reg_spots)
          (spots_of net ds ps keep nodes own xs cs of);
      nexts = λ mid ns shows.
          nexts_fit net ds ps keep nodes own mid xs cs ns net.regs of has.reg_widths
          (subst (λ (ss : List Spot). ShowBits net mid nodes ss cs ns) has.reg_spots shows);
    }
