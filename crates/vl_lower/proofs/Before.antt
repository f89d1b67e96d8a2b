-- What a net with its sources is ready for, after nodes were added.
use Rattle.std.specs.Prelude.{◌≡◌, refl, ℕ, ◌+◌, ◌<◌, ◌^◌, List, [], ◌∷◌, ◌++◌, length, map, All}
use Rattle.std.proofs.Common.{ap, sym, ◌∙◌, arith, subst}
use Rattle.std.proofs.lemmas.List.{length-map}
use Rattle.vl_size.specs.declared.decl.Decl.{Decl}
use Rattle.vl_size.specs.Table.{IsShaped}
use Rattle.vl_mean.specs.Cells.{cells}
use Rattle.vl_mean.specs.Parts.{Part}
use Rattle.vl_mean.specs.Runs.{Each}
use Rattle.vl_flow_cells.specs.Numbered.{all_cells}
use Rattle.wn_net.specs.declared.parts.Mem.{Mem}
use Rattle.wn_net.specs.Changes.{AddsNodes, Keeps}
use Rattle.wn_net.specs.Net.{AreNodes, Netlist}
use Rattle.vl_lower_assign.specs.Frames.{AreCellsOf, cell_widths}
use Rattle.vl_lower_spec.specs.Sources.{AreEach}
use Rattle.vl_lower_cell_laws.specs.declared.keep.Keep.{Keep}
use Rattle.vl_lower_cell_laws.specs.Listing.{HasSources}
use Rattle.vl_lower_state.specs.Nexts.{AreBitsOfCells, AreNexts, ShowBits}
use Rattle.vl_lower_state.specs.Stores.{MayStore}
use Rattle.vl_lower_state.proofs.StoresTogether.{as_many}
use Rattle.vl_lower_state.specs.Ready.{AreReady, HasNoWrites}
use Rattle.vl_lower_state.proofs.Memories.{may_be_stored}
use Rattle.vl_lower_state.proofs.Registers.{are_ready}
use Rattle.vl_lower.specs.declared.sources.Sources.{Sources}
use Rattle.vl_lower.specs.Design.{AreKeepsOf, Declares, keeping, names_with}

both_many : (xs ys : List (List ℕ)) → length (xs ++ ys) ≡ length xs + length ys
both_many [] ys = omega arith
both_many (x ∷ xs) ys = omega (arith, both_many xs ys)

widths_both : (xs ys : List ℕ) → length (xs ++ ys) ≡ length xs + length ys
widths_both [] ys = omega arith
widths_both (x ∷ xs) ys = omega (arith, widths_both xs ys)

-- a width for each cell
pub widths_many : (ds : List Decl) → length (cell_widths ds) ≡ length (all_cells ds)
widths_many [] = refl
widths_many (d ∷ ds) =
    omega (
      arith,
      widths_both (map (λ (n : List ℕ). d.width) (cells d)) (cell_widths ds),
      length-map (cells d) (λ (n : List ℕ). d.width),
      both_many (cells d) (all_cells ds),
      widths_many ds,
    )

pub nodes_kept : (old new : Netlist) → Keeps old new → (ids : List ℕ) → AreNodes old ids → AreNodes new ids
nodes_kept old new keeps [] h = tt
nodes_kept old new keeps (x ∷ xs) h = (omega (arith, h.0, keeps.longer), nodes_kept old new keeps xs h.1)

module _ (ds : List Decl) (ps : List Part) (keeps : List Keep) (x : Sources) (settled ticked : Netlist)
    (cells : List ℕ) (shaped : All IsShaped ds) (kept : AreKeepsOf ps ds keeps) (has : Declares ps ds keeps x)
    (first : AddsNodes x.net settled) (second : AddsNodes settled ticked) (own : AreCellsOf ticked ds cells) where
  mems : ticked.mems ≡ x.net.mems
  mems = second.mems ∙ first.mems

  regs : ticked.regs ≡ x.net.regs
  regs = second.regs ∙ first.regs

  sources : HasSources ps (keeping keeps) ds ticked (names_with [] x)
  sources =
      let begun = has.sources [] in
      record {
        inputs = second.inputs ∙ first.inputs ∙ begun.inputs;
        input_spots = begun.input_spots;
        reg_widths = ap (map (λ r. r.width)) regs ∙ begun.reg_widths;
        reg_starts = ap (map (λ r. r.init)) regs ∙ begun.reg_starts;
        reg_spots = begun.reg_spots;
        mem_widths = ap (map (λ m. m.width)) mems ∙ begun.mem_widths;
        mem_words = ap (map (λ m. m.words)) mems ∙ begun.mem_words;
        mem_starts = ap (map (λ m. m.init)) mems ∙ begun.mem_starts;
        mem_names = begun.mem_names;
      }

  ready : AreReady ds ps (keeping keeps) ticked (names_with [] x) cells
  ready = are_ready ds ps (keeping keeps) ticked (names_with [] x) cells shaped kept.are sources own

  pub bits : AreBitsOfCells ticked cells x.regs x.register_cells
  bits = subst (λ cs. AreBitsOfCells ticked cells x.regs cs) (sym has.register_cells) ready.bits

  pub nexts : (mid : Netlist) (nodes : List ℕ) → ShowBits ticked mid cells x.regs x.register_cells nodes
      → AreNexts mid ticked.regs nodes
  nexts mid nodes shows =
      ready.nexts mid nodes (subst (λ cs. ShowBits ticked mid cells x.regs cs nodes) has.register_cells shows)

  pub stored : AreEach (MayStore ticked cells) ticked.mems x.memory_cells
  stored =
      subst (λ fs. AreEach (MayStore ticked cells) ticked.mems fs) (sym has.memory_cells)
      (may_be_stored ds ps (keeping keeps) ticked (names_with [] x) cells sources own
      (subst (λ ms. Each HasNoWrites ms) (sym mems) has.unwritten))

  pub few : length x.memory_cells < 2 ^ 32
  few =
      let many = as_many ticked cells ticked.mems x.memory_cells stored in
      omega (arith, sym many ∙ ap (λ (ms : List Mem). length ms) mems, has.whole.few_mems)
