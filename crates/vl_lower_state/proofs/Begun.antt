-- The map that a cycle begins with.
use Rattle.std.specs.Prelude.{◌≡◌, refl, ℕ, ◌+◌, ◌<◌, ◌^◌, List, [], ◌∷◌, length, map, All, true}
use Rattle.std.specs.Prelude.{Option, Some, None, is_none, not, ◌&&◌, slice_get, slice_index, ℤ}
use Rattle.std.proofs.Common.{ap, sym, ◌∙◌, arith, subst, true≢false}
use Rattle.std.proofs.lemmas.Option.{same_Some}
use Rattle.vl_size.specs.declared.decl.Class.{Class}
use Rattle.vl_size.specs.declared.decl.Class.TheVariants as class
use Rattle.vl_size.specs.declared.decl.Decl.{Decl}
use Rattle.vl_size.specs.Size.{Values}
use Rattle.vl_size.specs.Table.{AreApart, AreDifferent, IsShaped}
use Rattle.vl_mean.specs.Cells.{cells}
use Rattle.vl_mean.specs.FlatLaw.{IsKept, IsMemory, is_variable}
use Rattle.vl_mean.specs.Parts.{Part}
use Rattle.vl_mean.specs.Runs.{Each}
use Rattle.vl_flow_cells.specs.Numbered.{all_cells}
use Rattle.vl_flow_cells.proofs.Lists.{get_less}
use Rattle.vl_flow_cells.proofs.Numbers.{own_number}
use Rattle.vl_lower_spec.specs.Maps.{is_split}
use Rattle.wn_net.specs.declared.names.Names.{Names}
use Rattle.wn_net.specs.declared.names.NetName.{NetName}
use Rattle.wn_net.specs.declared.parts.Input.{Input}
use Rattle.wn_net.specs.declared.parts.Mem.{Mem}
use Rattle.wn_net.specs.Value.{Given}
use Rattle.wn_net.specs.Net.{Netlist, value_at}
use Rattle.wn_net.specs.Given.{AreMemsOf, AreNumbersOf, IsGiven}
use Rattle.vl_lower_spec.specs.Sources.{kind_of}
use Rattle.vl_lower_assign.specs.Frames.{AreCellsOf, Cells, Stand}
use Rattle.vl_lower_cell_laws.specs.Entries.{MemoriesStand, all_entries, is_memory}
use Rattle.vl_lower_cell_laws.specs.Listing.{AreKeeps, HasSources, Keeping, inputs_named, memory_count, registers_in}
use Rattle.vl_lower_cell_laws.specs.Numbers.{BeginsCycle, all_numbers}
use Rattle.vl_lower_cell_laws.proofs.Beginning.{memory_has}
use Rattle.vl_lower_cell_laws.proofs.SourcesCounted.{AllHave, all_have}
use Rattle.vl_lower_cell_laws.proofs.Cycle.{begin_cycles}
use Rattle.vl_lower_cell_laws.proofs.SourcesWhole.{memories}
use Rattle.vl_lower_state.specs.Phases.{BeginCycle}
use Rattle.vl_lower_state.specs.Begins.{SourcesBeginCycles}
use Rattle.vl_lower_state.proofs.Numbered.{as_many, found, number_by}

-- ---- numbers of a cycle fit nets with the same sources

abbrev behind : {A : Type 0} → List A → List A
behind [] = []
behind (z ∷ zs) = zs

mems_alike : (ms ns : List Mem) (lists : List (List ℕ)) → map (λ m. m.width) ns ≡ map (λ m. m.width) ms
    → map (λ m. m.words) ns ≡ map (λ m. m.words) ms → AreMemsOf ms lists → AreMemsOf ns lists
mems_alike [] [] lists w c h = h
mems_alike [] (n ∷ ns) lists w c h = absurd (true≢false (sym (ap (λ zs. is_none (slice_get zs 0)) w)))
mems_alike (m ∷ ms) [] lists w c h = absurd (true≢false (ap (λ zs. is_none (slice_get zs 0)) w))
mems_alike (m ∷ ms) (n ∷ ns) [] w c h = absurd h
mems_alike (m ∷ ms) (n ∷ ns) (l ∷ ls) w c h =
    let wide : n.width ≡ m.width = same_Some n.width m.width (ap (λ zs. slice_get zs 0) w) in
    let many : n.words ≡ m.words = same_Some n.words m.words (ap (λ zs. slice_get zs 0) c) in (
      record { each = h.0.each ∙ sym many; below = λ i. subst (λ k. slice_index l i < 2 ^ k) (sym wide) (h.0.below i) },
      mems_alike ms ns ls (ap behind w) (ap behind c) h.1,
    )

pub given_alike : (ps : List Part) (keep : Keeping) (ds : List Decl) (begun net : Netlist) (names : Names) (g : Given)
    → HasSources ps keep ds begun names → HasSources ps keep ds net names → IsGiven net g → IsGiven begun g
given_alike ps keep ds begun net names g b n is = record {
  inputs =
      subst (λ ws. AreNumbersOf ws g.inputs)
      (ap (λ (is : List Input). map (λ i. i.width) is) (n.inputs ∙ sym b.inputs)) is.inputs;
  state = record {
    regs = subst (λ ws. AreNumbersOf ws g.state.regs) (n.reg_widths ∙ sym b.reg_widths) is.state.regs;
    mems = mems_alike net.mems begun.mems g.state.mems (b.mem_widths ∙ sym n.mem_widths)
        (b.mem_words ∙ sym n.mem_words) is.state.mems;
  };
}

-- ---- memories

variable_class : (c : Class) (d : Decl) → d.class ≡ c → is_variable d ≡ true → c ≡ class.Variable
variable_class class.Variable d is v = refl
variable_class class.Clock d is v = absurd (true≢false (sym v ∙ ap (λ c. is_variable (record d { class = c })) is))
variable_class class.Net d is v = absurd (true≢false (sym v ∙ ap (λ c. is_variable (record d { class = c })) is))
variable_class class.Input d is v = absurd (true≢false (sym v ∙ ap (λ c. is_variable (record d { class = c })) is))
variable_class class.Reset d is v = absurd (true≢false (sym v ∙ ap (λ c. is_variable (record d { class = c })) is))
variable_class class.EachCycle d is v = absurd (true≢false (sym v ∙ ap (λ c. is_variable (record d { class = c })) is))
variable_class class.Once d is v = absurd (true≢false (sym v ∙ ap (λ c. is_variable (record d { class = c })) is))

memory_class : (ps : List Part) (d : Decl) → IsMemory d.words d → is_memory ps d ≡ true → d.class ≡ class.Variable
memory_class ps d h e = variable_class d.class d refl (by d.words h e)
  where
    by : (w : Option (ℤ × ℤ)) → IsMemory w d → (not (is_none w) && not (is_split ps d)) ≡ true
        → is_variable d ≡ true
    by None k f = absurd (true≢false (sym f))
    by (Some b) k f = k.2

module _ (ds : List Decl) (ps : List Part) (keep : Keeping) (nodes : List ℕ) (list : List NetName) (g : Given)
    (v : Values) where
  memories_stand : (es : List Decl) → Each (λ d. IsMemory d.words d) es → (first i r m : ℕ)
      → AllHave ps keep g v es first i r m → MemoriesStand ps g v es m
  memories_stand [] memory first i r m h = tt
  memories_stand (d ∷ es) memory first i r m h = (
    λ e j n s. memory_has ds ps keep nodes list g v d (memory_class ps d memory.0 e) e first i r m h.0 j n s,
    memories_stand es memory.1 (first + length (cells d)) (i + length (inputs_named (kind_of d.class) d 0))
        (r + length (registers_in ps keep d d.class first 0)) (m + memory_count ps d) h.1,
  )

-- ---- the law

module _ (ds : List Decl) (ps : List Part) (keep : Keeping) (nodes : List ℕ) (begun net : Netlist) (names : Names)
    (frame : Cells) (shaped : All IsShaped ds) (different : AreDifferent ds) (apart : AreApart ds)
    (kept : All IsKept ds) (keeps : AreKeeps ps keep ds 0) (list : names.list ≡ all_entries ps ds nodes 0 0)
    (first : HasSources ps keep ds begun names) (last : HasSources ps keep ds net names)
    (are : AreCellsOf begun ds frame.now) (same : frame.next ≡ frame.now)
    (numbers : (g : Given) (c : ℕ) → c < length frame.now
    → slice_index (all_numbers ps keep g ds 0 0 0 0) c ≡ value_at begun g (slice_index frame.now c))
    (g : Given) (is : IsGiven net g) where
  own : IsGiven begun g
  own = given_alike ps keep ds begun net names g first last is

  abbrev v : Values
  v = number_by (slice_index (all_numbers ps keep g ds 0 0 0 0)) (all_cells ds) 0

  has : (c : ℕ) (n : List ℕ) → slice_get (all_cells ds) c ≡ Some n
      → v n ≡ slice_index (all_numbers ps keep g ds 0 0 0 0) c
  has c n s =
      let r = found (slice_index (all_numbers ps keep g ds 0 0 0 0)) (all_cells ds) 0 n c s in
      let here : 0 + r.0 ≡ c = omega (arith, own_number ds different apart kept r.0 c n r.1 s) in
      r.2 ∙ ap (slice_index (all_numbers ps keep g ds 0 0 0 0)) here

  stands : Stand begun g ds frame.now v
  stands c n s =
      let less : c < length frame.now = omega (arith, are.each, as_many ds, get_less (all_cells ds) c n s) in
      has c n s ∙ numbers g c less

  begins : BeginsCycle ds names g v
  begins = begin_cycles ds ps keep nodes begun names g v shaped different kept keeps list first own has

  memory : Each (λ d. IsMemory d.words d) ds
  memory = memories ds ps keep nodes begun names shaped different kept keeps list first

  cycle : BeginCycle ds ps begun names frame g
  cycle = record {
    first = v;
    ranged = begins.ranged;
    same = begins.same;
    now = stands;
    next = subst (λ ids. Stand begun g ds ids v) (sym same) stands;
    memories = memories_stand ds ps keep nodes names.list g v ds memory 0 0 0 0 (all_have ps keep g v ds 0 0 0 0 has);
  }

pub begin : SourcesBeginCycles
begin ds ps keep nodes begun net names frame shaped different apart kept keeps list first last are same numbers g is = (
  own ds ps keep nodes begun net names frame shaped different apart kept keeps list first last are same numbers g is,
  cycle ds ps keep nodes begun net names frame shaped different apart kept keeps list first last are same numbers g
      is,
)
