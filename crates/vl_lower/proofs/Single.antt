-- What adds one cell.
use Rattle.std.specs.Prelude.{◌≡◌, refl, ℕ, ◌-◌, List, [], ◌∷◌, ◌++◌, length, map, replicate}
use Rattle.std.proofs.Common.{ap, append-nil, arith, subst, sym, ◌∙◌}
use Rattle.std.proofs.lemmas.List.{length-append, length-map, map-append}
use Rattle.wn_net.specs.declared.parts.Init.{Init}
use Rattle.wn_net.specs.declared.parts.Input.{Input}
use Rattle.wn_net.specs.declared.parts.Mem.{Mem}
use Rattle.wn_net.specs.declared.parts.Reg.{Reg}
use Rattle.wn_net.specs.Value.{Given, words_of}
use Rattle.wn_net.specs.Net.{IsNodeOf, Netlist, value_at}
use Rattle.wn_net.specs.Changes.{AddsNodes, AddsRegs, BuildsInput, Grows, with_mem}
use Rattle.wn_net.proofs.Laws.{built_input_node, nodes_grow, regs_grow}
use Rattle.vl_mean.specs.Runs.{Each}
use Rattle.vl_lower_spec.specs.Sources.{below}
use Rattle.vl_size.specs.declared.decl.Decl.{Decl}
use Rattle.vl_mean.specs.Cells.{cells}
use Rattle.vl_lower_cell_laws.specs.declared.keep.Keep.{Keep}
use Rattle.vl_lower_cell_laws.specs.Keeps.{Kept, cell_number, registers_of}
use Rattle.vl_lower.specs.Held.{Holds}
use Rattle.vl_lower_cell_laws.specs.Listing.{Keeping, named_registers, register_spot, word_starts}
use Rattle.vl_lower_cell_laws.proofs.SourcesLists.{each_both, named_many}
use Rattle.vl_lower.specs.declared.sources.Sources.{Sources}
use Rattle.vl_lower_cell_laws.specs.Numbers.{memory_numbers}
use Rattle.vl_lower.specs.Added.{Added, Adds, both, cell_added, input_added, memory_added, nothing, words_added}
use Rattle.vl_lower.proofs.Lists.{constant_map, named_map}
use Rattle.vl_lower.proofs.Sums.{adds_both}

module _ (old new : Sources) where
  -- the lists of sources are as they were, but perhaps those of registers
  pub record Alike : Type 0 where
    pub inputs : new.inputs ≡ old.inputs
    pub mems : new.mems ≡ old.mems
    pub memory_cells : new.memory_cells ≡ old.memory_cells

  -- a node for a cell
  pub node_adds : (w id : ℕ) (number : Given → ℕ) → Alike → new.regs ≡ old.regs
      → new.register_cells ≡ old.register_cells → AddsNodes old.net new.net → IsNodeOf new.net w id
      → ((g : Given) → value_at new.net g id ≡ number g) → new.cells ≡ old.cells ++ id ∷ []
      → Adds old new (record nothing { widths = w ∷ []; numbers = λ g. number g ∷ [] })
  node_adds w id number alike regs register_cells adds node value cells = record {
    inputs = adds.inputs ∙ sym (append-nil old.net.inputs);
    input_spots = alike.inputs ∙ sym (append-nil old.inputs);
    reg_widths = ap (λ (rs : List Reg). map (λ r. r.width) rs) adds.regs
        ∙ sym (append-nil (map (λ (r : Reg). r.width) old.net.regs));
    reg_starts = ap (λ (rs : List Reg). map (λ r. r.init) rs) adds.regs
        ∙ sym (append-nil (map (λ (r : Reg). r.init) old.net.regs));
    reg_spots = regs ∙ sym (append-nil old.regs);
    register_cells = register_cells ∙ sym (append-nil old.register_cells);
    mem_widths = ap (λ (ms : List Mem). map (λ m. m.width) ms) adds.mems
        ∙ sym (append-nil (map (λ (m : Mem). m.width) old.net.mems));
    mem_words = ap (λ (ms : List Mem). map (λ m. m.words) ms) adds.mems
        ∙ sym (append-nil (map (λ (m : Mem). m.words) old.net.mems));
    mem_starts = ap (λ (ms : List Mem). map (λ m. m.init) ms) adds.mems
        ∙ sym (append-nil (map (λ (m : Mem). m.init) old.net.mems));
    mem_names = alike.mems ∙ sym (append-nil old.mems);
    memory_cells = alike.memory_cells ∙ sym (append-nil old.memory_cells);
    assumes = adds.assumes;
    unwritten = λ h. subst (Each (λ (m : Mem). m.writes ≡ [])) (sym adds.mems) h;
    grows = nodes_grow old.net new.net adds;
    ids = id ∷ [];
    cells = cells;
    nodes = (node, tt);
    numbers = λ g. ap (λ n. n ∷ []) (value g);
  }

  -- a node with registers
  pub cell_adds : (keep : Keep) (w first name id : ℕ) → Alike → AddsRegs old.net new.net
      → Holds old.net new.net (registers_of keep w) w (cell_number keep w) id
      → new.regs ≡ old.regs ++ map register_spot (named_registers name (registers_of keep w))
      → new.register_cells ≡ old.register_cells ++ replicate (length new.regs - length old.regs) first
      → new.cells ≡ old.cells ++ id ∷ []
      → Adds old new (cell_added keep w first name (length old.net.regs))
  cell_adds keep w first name id alike adds holds spots places cells =
      let xs : List Kept = registers_of keep w in
      let many : length new.regs - length old.regs ≡ length xs =
      omega (
        arith,
        ap length spots,
        length-append old.regs (map register_spot (named_registers name xs)),
        length-map (named_registers name xs) register_spot,
        named_many name xs,
      ) in record {
        inputs = adds.inputs ∙ sym (append-nil old.net.inputs);
        input_spots = alike.inputs ∙ sym (append-nil old.inputs);
        reg_widths = holds.widths
            ∙ ap (λ ys. map (λ (r : Reg). r.width) old.net.regs ++ ys)
            (sym (named_map (λ (x : Kept). x.width) name xs));
        reg_starts = holds.starts
            ∙ ap (λ ys. map (λ (r : Reg). r.init) old.net.regs ++ ys)
            (sym (named_map (λ (x : Kept). x.init) name xs));
        reg_spots = spots;
        register_cells = places
            ∙ ap (λ ns. old.register_cells ++ ns)
            (ap (λ n. replicate n first) many ∙ sym (constant_map first xs));
        mem_widths = ap (λ (ms : List Mem). map (λ m. m.width) ms) adds.mems
            ∙ sym (append-nil (map (λ (m : Mem). m.width) old.net.mems));
        mem_words = ap (λ (ms : List Mem). map (λ m. m.words) ms) adds.mems
            ∙ sym (append-nil (map (λ (m : Mem). m.words) old.net.mems));
        mem_starts = ap (λ (ms : List Mem). map (λ m. m.init) ms) adds.mems
            ∙ sym (append-nil (map (λ (m : Mem). m.init) old.net.mems));
        mem_names = alike.mems ∙ sym (append-nil old.mems);
        memory_cells = alike.memory_cells ∙ sym (append-nil old.memory_cells);
        assumes = adds.assumes;
        unwritten = λ h. subst (Each (λ (m : Mem). m.writes ≡ [])) (sym adds.mems) h;
        grows = regs_grow old.net new.net adds;
        ids = id ∷ [];
        cells = cells;
        nodes = (holds.node, tt);
        numbers = λ g. ap (λ n. n ∷ []) (holds.value g);
      }

  -- an input
  pub input_adds : (input : Input) (name id : ℕ) → new.mems ≡ old.mems → new.memory_cells ≡ old.memory_cells
      → new.regs ≡ old.regs → new.register_cells ≡ old.register_cells → BuildsInput old.net new.net input id
      → new.inputs ≡ old.inputs ++ record { name = name; bits = below input.width } ∷ []
      → new.cells ≡ old.cells ++ id ∷ [] → Adds old new (input_added input name (length old.net.inputs))
  input_adds input name id mems memory_cells regs register_cells built spots cells = record {
    inputs = built.inputs;
    input_spots = spots;
    reg_widths = ap (λ (rs : List Reg). map (λ r. r.width) rs) built.regs
        ∙ sym (append-nil (map (λ (r : Reg). r.width) old.net.regs));
    reg_starts = ap (λ (rs : List Reg). map (λ r. r.init) rs) built.regs
        ∙ sym (append-nil (map (λ (r : Reg). r.init) old.net.regs));
    reg_spots = regs ∙ sym (append-nil old.regs);
    register_cells = register_cells ∙ sym (append-nil old.register_cells);
    mem_widths = ap (λ (ms : List Mem). map (λ m. m.width) ms) built.mems
        ∙ sym (append-nil (map (λ (m : Mem). m.width) old.net.mems));
    mem_words = ap (λ (ms : List Mem). map (λ m. m.words) ms) built.mems
        ∙ sym (append-nil (map (λ (m : Mem). m.words) old.net.mems));
    mem_starts = ap (λ (ms : List Mem). map (λ m. m.init) ms) built.mems
        ∙ sym (append-nil (map (λ (m : Mem). m.init) old.net.mems));
    mem_names = mems ∙ sym (append-nil old.mems);
    memory_cells = memory_cells ∙ sym (append-nil old.memory_cells);
    assumes = built.assumes;
    unwritten = λ h. subst (Each (λ (m : Mem). m.writes ≡ [])) (sym built.mems) h;
    grows = built.grows;
    ids = id ∷ [];
    cells = cells;
    nodes = (built_input_node old.net new.net input id built, tt);
    numbers = λ g. ap (λ n. n ∷ []) (built.value g);
  }

  -- a memory, without its words
  pub mem_adds : (m : Mem) (name first : ℕ) → m.writes ≡ [] → new.net ≡ with_mem old.net m → Grows old.net new.net
      → new.inputs ≡ old.inputs → new.regs ≡ old.regs → new.register_cells ≡ old.register_cells
      → new.cells ≡ old.cells → new.mems ≡ old.mems ++ name ∷ []
      → new.memory_cells ≡ old.memory_cells ++ first ∷ []
      → Adds old new (record nothing {
        mems = (record { width = m.width; words = m.words; starts = m.init }, name) ∷ [];
        memory_cells = first ∷ [];
      })
  mem_adds m name first fresh net grows inputs regs register_cells cells mems memory_cells = record {
    inputs = ap (λ (n : Netlist). n.inputs) net ∙ sym (append-nil old.net.inputs);
    input_spots = inputs ∙ sym (append-nil old.inputs);
    reg_widths = ap (λ (n : Netlist). map (λ (r : Reg). r.width) n.regs) net
        ∙ sym (append-nil (map (λ (r : Reg). r.width) old.net.regs));
    reg_starts = ap (λ (n : Netlist). map (λ (r : Reg). r.init) n.regs) net
        ∙ sym (append-nil (map (λ (r : Reg). r.init) old.net.regs));
    reg_spots = regs ∙ sym (append-nil old.regs);
    register_cells = register_cells ∙ sym (append-nil old.register_cells);
    mem_widths = ap (λ (n : Netlist). map (λ (m : Mem). m.width) n.mems) net
        ∙ map-append (λ (m : Mem). m.width) old.net.mems (m ∷ []);
    mem_words = ap (λ (n : Netlist). map (λ (m : Mem). m.words) n.mems) net
        ∙ map-append (λ (m : Mem). m.words) old.net.mems (m ∷ []);
    mem_starts = ap (λ (n : Netlist). map (λ (m : Mem). m.init) n.mems) net
        ∙ map-append (λ (m : Mem). m.init) old.net.mems (m ∷ []);
    mem_names = mems;
    memory_cells = memory_cells;
    assumes = ap (λ (n : Netlist). n.assumes) net;
    unwritten = λ h.
        subst (Each (λ (m : Mem). m.writes ≡ [])) (sym (ap (λ (n : Netlist). n.mems) net))
        (each_both (λ (m : Mem). m.writes ≡ []) old.net.mems (m ∷ []) h (fresh, tt));
    grows = grows;
    ids = [];
    cells = cells ∙ sym (append-nil old.cells);
    nodes = tt;
    numbers = λ g. refl;
  }

-- a memory with its words
pub memory_adds : (old mid new : Sources) (keep : Keeping) (d : Decl) (first words name mem : ℕ) (starts : List Init)
    → first ≡ length old.cells → words ≡ length (cells d) → starts ≡ word_starts keep d.width first (cells d)
    → mem ≡ length old.net.mems
    → Adds old mid (record nothing {
      mems = (record { width = d.width; words = words; starts = starts }, name) ∷ [];
      memory_cells = first ∷ [];
    }) → Adds mid new (words_added d.width mem 0 (cells d))
    → Adds old new (memory_added keep d (length old.cells) name (length old.net.mems))
memory_adds old mid new keep d first words name mem starts same_first same_words same_starts same_mem h k =
    let x : Added = record nothing {
      mems = (record { width = d.width; words = words; starts = starts }, name) ∷ [];
      memory_cells = first ∷ [];
    } in
    let begins : starts ≡ word_starts keep d.width (length old.cells) (cells d) =
    same_starts ∙ ap (λ f. word_starts keep d.width f (cells d)) same_first in
    let same : both x (words_added d.width mem 0 (cells d))
    ≡ memory_added keep d (length old.cells) name (length old.net.mems) =
    λ i. record {
      inputs = [];
      regs = [];
      register_cells = [];
      mems = (record { width = d.width; words = same_words i; starts = begins i }, name) ∷ [];
      memory_cells = same_first i ∷ [];
      widths = map (λ (n : List ℕ). d.width) (cells d);
      numbers = λ g. memory_numbers (words_of g (same_mem i)) 0 (cells d);
    } in
    subst (Adds old new) same (adds_both old mid new x (words_added d.width mem 0 (cells d)) h k)
