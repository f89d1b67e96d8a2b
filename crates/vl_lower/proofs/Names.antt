-- Names, one after the other.
use Rattle.std.specs.Prelude.{◌≡◌, refl, ℕ, zero, suc, ◌+◌, ◌*◌, ◌<◌, ◌≤◌, List, [], ◌∷◌, ◌++◌, length, drop}
use Rattle.std.specs.Prelude.{Bool, true, false, Option, Some, None, is_none, if◌then◌else◌, slice_get, slice_index, ℤ}
use Rattle.std.specs.Prelude.{int_le}
use Rattle.std.proofs.Common.{ap, arith, subst, sym, ◌∙◌, true≢false}
use Rattle.std.proofs.lemmas.List.{length-append, length-map}
use Rattle.std.proofs.lemmas.Option.{same_Some}
use Rattle.vl_size.specs.declared.decl.Class.{Class}
use Rattle.vl_size.specs.declared.decl.Class.TheVariants as class
use Rattle.vl_size.specs.declared.decl.Decl.{Decl}
use Rattle.vl_size.specs.Table.{IsShaped, span}
use Rattle.vl_mean.specs.Cells.{cells, cells_of}
use Rattle.vl_mean.specs.FlatLaw.{IsKept, IsMemory, all_names_count, is_variable}
use Rattle.vl_mean.specs.Parts.{Part}
use Rattle.vl_mean.specs.Runs.{Each}
use Rattle.vl_flow_cells.specs.Numbered.{all_cells, first_cell}
use Rattle.vl_flow_cells.proofs.Numbers.{first_few, first_none, next_first}
use Rattle.vl_flow_cells.proofs.Words.{words_length}
use Rattle.wn_net.specs.declared.names.NetName.{NetName}
use Rattle.wn_net.specs.declared.parts.InputKind.{InputKind}
use Rattle.wn_net.specs.declared.parts.Mem.{Mem}
use Rattle.wn_net.specs.declared.parts.Reg.{Reg}
use Rattle.wn_net.specs.Value.{Given}
use Rattle.wn_net.specs.Net.{IsNet, IsNodeOf, value_at}
use Rattle.vl_lower_spec.specs.Sources.{kind_of}
use Rattle.vl_lower_assign.specs.Frames.{AreCellsOf, cell_widths}
use Rattle.vl_lower_cell_laws.specs.declared.keep.Keep.{Keep}
use Rattle.vl_lower_cell_laws.specs.Keeps.{IsKeepOf, Kept, registers_of}
use Rattle.vl_lower_cell_laws.specs.Entries.{is_memory}
use Rattle.vl_lower_cell_laws.specs.Listing.{AreKeeps, HasSources, Keeping, Stored, cell_registers, entry_count}
use Rattle.vl_lower_cell_laws.specs.Listing.{inputs_named, memories_in, memory_count, named_registers}
use Rattle.vl_lower_cell_laws.specs.Listing.{registers_in, stored}
use Rattle.vl_lower_cell_laws.specs.Numbers.{all_numbers}
use Rattle.vl_lower_cell_laws.proofs.Along.{inputs_many, registers_many}
use Rattle.vl_lower_cell_laws.proofs.SourcesLists.{named_many}
use Rattle.vl_lower_cell_laws.proofs.Words.{counted}
use Rattle.vl_lower.specs.declared.sources.Sources.{Sources}
use Rattle.vl_lower.specs.Added.{Added, Adds, IsNone, IsSmall, all_added, name_added}
use Rattle.vl_lower.specs.Design.{Declares, is_stored, keeping, names_with}
use Rattle.vl_lower.proofs.Following.{few_registers}
use Rattle.vl_lower.proofs.Lists.{alone, alone_map, drop_none, each_many, index_of_map, node_at}
use Rattle.vl_lower.proofs.Splitting.{memory_stored}
use Rattle.vl_lower.proofs.Sums.{SoFar, many_cells, many_inputs, many_mems, many_regs, so_far_all, so_far_more}
use Rattle.vl_lower.proofs.Sums.{so_far_none}

-- ---- how many a name adds

pub some_cells : (d : Decl) → 1 ≤ length (cells d)
some_cells d = by d.words
  where
    by : (w : Option (ℤ × ℤ)) → 1 ≤ length (cells_of d.name w)
    by None = omega arith
    by (Some b) =
        let size = words_length d.name (span b.0 b.1) (int_le b.0 b.1) b.0 in omega (arith, size)

few_inputs : (o : Option InputKind) (d : Decl) (at : ℕ) → length (inputs_named o d at) ≤ 1
few_inputs None d at = omega arith
few_inputs (Some k) d at = omega arith

few_cells : (keep : Keeping) (w first at : ℕ) (texts : List (List ℕ)) → 1 ≤ w → w ≤ 128
    → length (cell_registers keep w first at texts) ≤ 128 * length texts
few_cells keep w first at [] some few = omega arith
few_cells keep w first at (t ∷ ts) some few =
    let xs : List Kept = registers_of (keep first) w in
    omega (
      arith,
      few,
      few_registers (keep first) w some,
      named_many at xs,
      length-append (named_registers at xs) (cell_registers keep w (first + 1) (at + 1) ts),
      few_cells keep w (first + 1) (at + 1) ts some few,
    )

few_regs : (ps : List Part) (keep : Keeping) (d : Decl) (c : Class) (first at : ℕ) → 1 ≤ d.width → d.width ≤ 128
    → length (registers_in ps keep d c first at) ≤ 128 * length (cells d)
few_regs ps keep d class.Variable first at some few = by (is_memory ps d)
  where
    by : (b : Bool)
        → length (if b then [] else cell_registers keep d.width first at (cells d)) ≤ 128 * length (cells d)
    by true = omega arith
    by false = few_cells keep d.width first at (cells d) some few
few_regs ps keep d class.Clock first at some few = omega arith
few_regs ps keep d class.Reset first at some few = omega arith
few_regs ps keep d class.Input first at some few = omega arith
few_regs ps keep d class.Net first at some few = omega arith
few_regs ps keep d class.EachCycle first at some few = omega arith
few_regs ps keep d class.Once first at some few = omega arith

few_mems : (ps : List Part) (keep : Keeping) (d : Decl) (c : Class) (first at : ℕ)
    → length (memories_in ps keep d c first at) ≤ 1
few_mems ps keep d class.Variable first at = by (is_memory ps d)
  where
    by : (b : Bool) → length {A = Stored × ℕ} (if b then (stored keep d first, at) ∷ [] else []) ≤ 1
    by true = omega arith
    by false = omega arith
few_mems ps keep d class.Clock first at = omega arith
few_mems ps keep d class.Reset first at = omega arith
few_mems ps keep d class.Input first at = omega arith
few_mems ps keep d class.Net first at = omega arith
few_mems ps keep d class.EachCycle first at = omega arith
few_mems ps keep d class.Once first at = omega arith

pub few_entries : (ps : List Part) (d : Decl) → entry_count ps d ≤ length (cells d)
few_entries ps d = by d.class
  where
    own : (b : Bool) → (if b then 1 else length (cells d)) ≤ length (cells d)
    own true = some_cells d
    own false = omega arith

    by : (c : Class) → entry_count ps (record d { class = c }) ≤ length (cells d)
    by class.Clock = omega arith
    by class.Variable = own (is_memory ps d)
    by class.Reset = own (is_memory ps d)
    by class.Input = own (is_memory ps d)
    by class.Net = own (is_memory ps d)
    by class.EachCycle = own (is_memory ps d)
    by class.Once = own (is_memory ps d)

-- ---- the names up to a place

module _ (ps : List Part) (keep : Keeping) (ds : List Decl) where
  pub record IsAt (now : Sources) (name at : ℕ) : Type 0 where
    pub begun : Sources
    pub none : IsNone begun
    pub so_far : SoFar begun now
        (all_added ps keep (drop at ds) (length now.cells) name (length now.net.inputs) (length now.net.regs)
        (length now.net.mems)) (all_added ps keep ds 0 0 0 0 0)
    pub first : length now.cells ≡ first_cell ds at
    pub small : IsSmall now
    pub names : name ≤ length now.cells

  pub at_first : (x : Sources) → IsNone x → IsAt x 0 0
  at_first x none =
      let no_cells = ap length none.cells in
      let no_inputs = ap length none.net_inputs in
      let no_regs = ap length none.net_regs in
      let no_mems = ap length none.net_mems in
      record {
        begun = x;
        none = none;
        so_far =
            subst (λ rest. SoFar x x rest (all_added ps keep ds 0 0 0 0 0))
            (λ i. all_added ps keep ds (sym no_cells i) 0 (sym no_inputs i) (sym no_regs i) (sym no_mems i))
            (so_far_none x (all_added ps keep ds 0 0 0 0 0));
        first = no_cells ∙ sym (first_none ds);
        small = record {
          inputs = omega (arith, no_inputs);
          regs = omega (arith, no_regs);
          mems = omega (arith, no_mems);
        };
        names = omega arith;
      }

  front_at : (es : List Decl) (at : ℕ) (d : Decl) → slice_get es at ≡ Some d → drop at es ≡ d ∷ drop (at + 1) es
  front_at [] at d e = absurd (true≢false (ap is_none e))
  front_at (x ∷ es) zero d e = ap (λ y. y ∷ es) (same_Some x d e)
  front_at (x ∷ es) (suc at) d e =
      let same : suc at + 1 ≡ suc (at + 1) = omega arith in
      front_at es at d e ∙ ap (λ n. d ∷ drop n (x ∷ es)) (sym same)

  module _ (mid new : Sources) (name at : ℕ) (d : Decl) (there : slice_get ds at ≡ Some d) (kept : IsKept d)
      (shaped : IsShaped d) where
    abbrev own : Added
    own =
        name_added ps keep d d.class (length mid.cells) name (length mid.net.inputs) (length mid.net.regs)
        (length mid.net.mems)

    pub name_more : IsAt mid name at → Adds mid new own → IsAt new (name + entry_count ps d) (at + 1)
    name_more s h =
        let count : ℕ = length (cells d) in
        let cells_are : length new.cells ≡ length mid.cells + count =
        many_cells mid new own h ∙ ap (λ n. length mid.cells + n) (length-map (cells d) (λ (n : List ℕ). d.width)) in
        let inputs_are = many_inputs mid new own h in
        let regs_are = many_regs mid new own h in
        let mems_are = many_mems mid new own h in
        let rest : ℕ → ℕ → ℕ → ℕ → ℕ → Added = all_added ps keep (drop (at + 1) ds) in
        let split =
        subst (λ es. SoFar s.begun mid (all_added ps keep es (length mid.cells) name (length mid.net.inputs)
        (length mid.net.regs) (length mid.net.mems)) (all_added ps keep ds 0 0 0 0 0)) (front_at ds at d there) s.so_far
        in
        let more =
        so_far_more s.begun mid new own
        (rest (length mid.cells + count) (name + entry_count ps d)
        (length mid.net.inputs + length (inputs_named (kind_of d.class) d 0))
        (length mid.net.regs + length (registers_in ps keep d d.class (length mid.cells) 0))
        (length mid.net.mems + memory_count ps d)) (all_added ps keep ds 0 0 0 0 0) split h in
        let next_input : length mid.net.inputs + length (inputs_named (kind_of d.class) d 0) ≡ length new.net.inputs =
        ap (λ n. length mid.net.inputs + n) (inputs_many (kind_of d.class) d 0 name) ∙ sym inputs_are in
        let next_reg : length mid.net.regs + length (registers_in ps keep d d.class (length mid.cells) 0)
        ≡ length new.net.regs =
        ap (λ n. length mid.net.regs + n) (registers_many ps keep d d.class (length mid.cells) 0 name)
        ∙ sym regs_are in
        let next_mem : length mid.net.mems + memory_count ps d ≡ length new.net.mems =
        ap (λ n. length mid.net.mems + n) (counted_here (length mid.cells)) ∙ sym mems_are in
        record {
          begun = s.begun;
          none = s.none;
          so_far =
              subst (λ q. SoFar s.begun new q (all_added ps keep ds 0 0 0 0 0))
              (λ i. rest (sym cells_are i) (name + entry_count ps d) (next_input i) (next_reg i) (next_mem i)) more;
          first = cells_are ∙ ap (λ n. n + count) s.first ∙ sym (next_first ds at d there) ∙ ap (first_cell ds) one;
          small = record {
            inputs = omega (
              arith,
              cells_are,
              inputs_are,
              some_cells d,
              few_inputs (kind_of d.class) d name,
              s.small.inputs,
            );
            regs = omega (
              arith,
              cells_are,
              regs_are,
              few_regs ps keep d d.class (length mid.cells) name shaped.some_bits shaped.few_bits,
              s.small.regs,
            );
            mems = omega (
              arith,
              cells_are,
              mems_are,
              some_cells d,
              few_mems ps keep d d.class (length mid.cells) name,
              s.small.mems,
            );
          };
          names = omega (arith, cells_are, few_entries ps d, s.names);
        }
      where
        one : suc at ≡ at + 1
        one = omega arith

        counted_here : (first : ℕ) → memory_count ps d ≡ length (memories_in ps keep d d.class first name)
        counted_here first = counted ds ps keep [] [] (record {
          inputs = [];
          state = record { regs = []; mems = [] };
        }) (λ n. 0) d d.class refl kept.memory first name

  -- ---- all names

  all_nodes : (begun now : Sources) → IsNone begun → Adds begun now (all_added ps keep ds 0 0 0 0 0)
      → AreCellsOf now.net ds now.cells
  all_nodes begun now none h =
      let ids_are : now.cells ≡ h.ids = h.cells ∙ ap (λ xs. xs ++ h.ids) none.cells in
      subst (AreCellsOf now.net ds) (sym ids_are) (record {
        each = each_many (IsNodeOf now.net) (cell_widths ds) h.ids h.nodes;
        node = node_at now.net (cell_widths ds) h.ids h.nodes;
      })

  all_values : (begun now : Sources) → IsNone begun → Adds begun now (all_added ps keep ds 0 0 0 0 0) → (g : Given)
      (c : ℕ) → c < length now.cells
      → slice_index (all_numbers ps keep g ds 0 0 0 0) c ≡ value_at now.net g (slice_index now.cells c)
  all_values begun now none h g c less =
      let ids_are : now.cells ≡ h.ids = h.cells ∙ ap (λ xs. xs ++ h.ids) none.cells in
      let within : c < length h.ids = omega (arith, less, ap length ids_are) in
      sym (ap (λ xs. slice_index xs c) (h.numbers g)) ∙ index_of_map (value_at now.net g) h.ids c within
      ∙ ap (λ xs. value_at now.net g (slice_index xs c)) (sym ids_are)

  pub all_sources : (begun now : Sources) → IsNone begun → Adds begun now (all_added ps keep ds 0 0 0 0 0)
      → (list : List NetName) → HasSources ps keep ds now.net (names_with list now)
  all_sources begun now none h list = record {
    inputs = alone _ _ _ h.inputs none.net_inputs;
    input_spots = alone _ _ _ h.input_spots none.inputs;
    reg_widths = alone_map (λ (r : Reg). r.width) begun.net.regs _ _ h.reg_widths none.net_regs;
    reg_starts = alone_map (λ (r : Reg). r.init) begun.net.regs _ _ h.reg_starts none.net_regs;
    reg_spots = alone _ _ _ h.reg_spots none.regs;
    mem_widths = alone_map (λ (m : Mem). m.width) begun.net.mems _ _ h.mem_widths none.net_mems;
    mem_words = alone_map (λ (m : Mem). m.words) begun.net.mems _ _ h.mem_words none.net_mems;
    mem_starts = alone_map (λ (m : Mem). m.init) begun.net.mems _ _ h.mem_starts none.net_mems;
    mem_names = alone _ _ _ h.mem_names none.mems;
  }

pub all_names : (ps : List Part) (ds : List Decl) (keeps : List Keep) (now : Sources) (name at : ℕ) → IsNet now.net
    → length ds ≡ at → IsAt ps (keeping keeps) ds now name at → Declares ps ds keeps now
all_names ps ds keeps now name at whole e s =
    let keep : Keeping = keeping keeps in
    let done : Adds s.begun now (all_added ps keep ds 0 0 0 0 0) =
    so_far_all s.begun now (all_added ps keep ds 0 0 0 0 0)
    (subst (λ es. SoFar s.begun now (all_added ps keep es (length now.cells) name (length now.net.inputs)
    (length now.net.regs) (length now.net.mems)) (all_added ps keep ds 0 0 0 0 0)) (drop_none ds at e) s.so_far) in
    record {
      sources = all_sources ps keep ds s.begun now s.none done;
      register_cells = alone _ _ _ done.register_cells s.none.register_cells;
      memory_cells = alone _ _ _ done.memory_cells s.none.memory_cells;
      whole = whole;
      assumes = done.assumes ∙ s.none.assumes;
      unwritten = done.unwritten (subst (Each (λ (m : Mem). m.writes ≡ [])) (sym s.none.net_mems) tt);
      cells = all_nodes ps keep ds s.begun now s.none done;
      numbers = all_values ps keep ds s.begun now s.none done;
    }

-- ---- what is kept of a name's cells

keeps_at : (ps : List Part) (keep : Keeping) (ds : List Decl) (first at : ℕ) (d : Decl) → AreKeeps ps keep ds first
    → slice_get ds at ≡ Some d → d.class ≡ class.Variable → (j : ℕ) (n : List ℕ) → slice_get (cells d) j ≡ Some n
    → IsKeepOf ps d.width n (keep (first + first_cell ds at + j))
keeps_at ps keep [] first at d h e is j n s = absurd (true≢false (ap is_none e))
keeps_at ps keep (x ∷ ds) first zero d h e is j n s =
    let same : first + j ≡ first + 0 + j = omega arith in
    subst (λ k. IsKeepOf ps d.width n (keep k)) same
    (subst (λ y. y.class ≡ class.Variable → (j : ℕ) (n : List ℕ) → slice_get (cells y) j ≡ Some n
    → IsKeepOf ps y.width n (keep (first + j))) (same_Some x d e) h.0 is j n s)
keeps_at ps keep (x ∷ ds) first (suc at) d h e is j n s =
    let same : first + length (cells x) + first_cell ds at + j
    ≡ first + (length (cells x) + first_cell ds at) + j = omega arith in
    subst (λ k. IsKeepOf ps d.width n (keep k)) same
    (keeps_at ps keep ds (first + length (cells x)) at d h.1 e is j n s)

pub stored_at : (ps : List Part) (keep : Keeping) (ds : List Decl) (at : ℕ) (d : Decl) → AreKeeps ps keep ds 0
    → slice_get ds at ≡ Some d → IsKept d → IsShaped d → is_memory ps d ≡ is_stored keep d (first_cell ds at)
stored_at ps keep ds at d h e kept shaped =
    memory_stored ps d keep (first_cell ds at) shaped.some_bits (λ w j n s.
    let same : 0 + first_cell ds at + j ≡ first_cell ds at + j = omega arith in
    subst (λ k. IsKeepOf ps d.width n (keep k)) same
    (keeps_at ps keep ds 0 at d h e (variable (by d.words w kept.memory)) j n s))
  where
    by : (o : Option (ℤ × ℤ)) → is_none o ≡ false → IsMemory o d → is_variable d ≡ true
    by None w m = absurd (true≢false w)
    by (Some b) w m = m.2

    variable : is_variable d ≡ true → d.class ≡ class.Variable
    variable v = of d.class refl v
      where
        of : (c : Class) → d.class ≡ c → is_variable (record d { class = c }) ≡ true → c ≡ class.Variable
        of class.Variable is t = refl
        of class.Clock is t = absurd (true≢false (sym t))
        of class.Net is t = absurd (true≢false (sym t))
        of class.Input is t = absurd (true≢false (sym t))
        of class.Reset is t = absurd (true≢false (sym t))
        of class.EachCycle is t = absurd (true≢false (sym t))
        of class.Once is t = absurd (true≢false (sym t))

-- cells of a name have keeps
pub cells_within : (ds : List Decl) (at : ℕ) (d : Decl) → slice_get ds at ≡ Some d
    → first_cell ds at + length (cells d) ≤ length (all_cells ds)
cells_within [] at d e = absurd (true≢false (ap is_none e))
cells_within (x ∷ ds) zero d e =
    omega (arith, ap (λ y. length (cells y)) (same_Some x d e), length-append (cells x) (all_cells ds))
cells_within (x ∷ ds) (suc at) d e =
    omega (arith, cells_within ds at d e, length-append (cells x) (all_cells ds))

-- and they are few
pub cells_few : (ds : List Decl) (at : ℕ) (d : Decl) → slice_get ds at ≡ Some d
    → first_cell ds at + length (cells d) ≤ all_names_count ds
cells_few ds at d e = omega (arith, next_first ds at d e, first_few ds (suc at))

-- whether a name is a memory of the net
pub memory_is : (ps : List Part) (keep : Keeping) (ds : List Decl) (now : Sources) (name at : ℕ) (d : Decl) (b : Bool)
    → IsAt ps keep ds now name at → AreKeeps ps keep ds 0 → slice_get ds at ≡ Some d → IsKept d → IsShaped d
    → b ≡ is_stored keep d (length now.cells) → is_memory ps d ≡ b
memory_is ps keep ds now name at d b s are e kept shaped h =
    stored_at ps keep ds at d are e kept shaped ∙ ap (is_stored keep d) (sym s.first) ∙ sym h
