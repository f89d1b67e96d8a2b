-- For each list of maps a lowered design has a run that makes the same choices.
use Rattle.std.specs.Prelude.{◌≡◌, refl, ℕ, zero, suc, ◌+◌, ◌<◌, ◌≤◌, ◌^◌, ◌==◌, ◌⊎◌, Bool, true, false, not, ◌&&◌}
use Rattle.std.specs.Prelude.{List, [], ◌∷◌, length, map, Option, Some, None, is_none, slice_get, slice_index}
use Rattle.std.specs.Prelude.{slice_index_or}
use Rattle.std.proofs.Common.{ap, sym, ◌∙◌, arith, inl, inr, subst, true≢false}
use Rattle.std.proofs.lemmas.Bool.{and_parts}
use Rattle.std.proofs.lemmas.Bool.Decides.{nat_tests}
use Rattle.std.proofs.lemmas.Nat.{pow_pos}
use Rattle.std.proofs.lemmas.Option.{get_or_from_slice_get, same_Some, slice_get-get_or, slice_get_within}
use Rattle.vl_size.specs.declared.decl.Class.{Class}
use Rattle.vl_size.specs.declared.decl.Class.TheVariants as class
use Rattle.vl_size.specs.declared.decl.Decl.{Decl}
use Rattle.vl_size.specs.Size.{Values}
use Rattle.vl_mean.specs.Cells.{cells, contains_name}
use Rattle.vl_mean.specs.Parts.{Part}
use Rattle.vl_mean.specs.Runs.{EachBit, OnlyIf, initial_writes, is_chosen, is_driven, last_value}
use Rattle.vl_mean.specs.Targets.{bit_of}
use Rattle.vl_mean_flat.specs.Flattened.{decls_of}
use Rattle.vl_mean_flat.proofs.EachOf.{each_map}
use Rattle.vl_flow_spec.specs.Reads.{IsCellOf}
use Rattle.vl_flow_spec.proofs.Cells.{own_cells}
use Rattle.wn_net.specs.declared.names.Names.{Names}
use Rattle.wn_net.specs.declared.names.Spot.{Spot}
use Rattle.wn_net.specs.declared.parts.Init.{Init}
use Rattle.wn_net.specs.declared.parts.Init.TheVariants as init
use Rattle.wn_net.specs.declared.parts.Input.{Input}
use Rattle.wn_net.specs.declared.parts.InputKind.{InputKind}
use Rattle.wn_net.specs.declared.parts.InputKind.TheVariants as kind
use Rattle.wn_net.specs.declared.parts.Mem.{Mem}
use Rattle.wn_net.specs.declared.parts.Reg.{Reg}
use Rattle.wn_net.specs.Names.{AreSpotsOf}
use Rattle.wn_net.specs.Net.{Netlist, IsNet}
use Rattle.wn_run.specs.Runs.{Choices, AreChoicesOf}
use Rattle.vl_lower_spec.specs.Evaluations.{IsLowered, run_of}
use Rattle.vl_lower_spec.specs.Maps.{cells_named, gathered, inputs_of, spot_number, text_of}
use Rattle.vl_lower_spec.specs.Spots.{BeginsAs, IsAtSpot, IsInputOf, IsMemOf, IsRegOf, IsSource, IsWordOf, below, kind_of}
use Rattle.vl_lower_spec.proofs.Allowed.{allowed}
use Rattle.vl_lower_spec.proofs.Bits.{below_at, below_many, gathered_at, gathered_small}
use Rattle.vl_lower_spec.proofs.Free.{vector_cell}
use Rattle.vl_lower_spec.proofs.Pairs.{first_of, index_map}
use Rattle.bb_blast.specs.declared.places.Placed.{Placed}
use Rattle.bm_unroll.specs.declared.frames.Source.TheVariants as s
use Rattle.ck_design.specs.Choosing.{ChooseAlike, EachChoiceHasOneRun, IsRunBy, is_free}
use Rattle.ck_design.specs.Notes.{spot_note}
use Rattle.ck_design.specs.Retirements.{values_at}
use Rattle.ck_design.proofs.Declares.{bits_of_cells, each_declared, own_declared}
use Rattle.ck_design.proofs.Found.{IsRunOf, run_of_choices}
use Rattle.ck_design.proofs.NotesForm.{cell_there, list_at}
use Rattle.ck_design.proofs.OneRun.{agree_in_cycle, alike_from, run_maps}
use Rattle.ck_design.proofs.Placed.{map_at, one_there, source_bit}

-- ---- lists

get_map : {A B : Type 0} (f : A → B) (xs : List A) (i : ℕ) (x : A) → slice_get xs i ≡ Some x
    → slice_get (map f xs) i ≡ Some (f x)
get_map f [] i x e = absurd (true≢false (ap is_none e))
get_map f (y ∷ ys) zero x e = ap (λ z. Some (f z)) (same_Some y x e)
get_map f (y ∷ ys) (suc i) x e = get_map f ys i x e

contained : (ts : List (List ℕ)) (i : ℕ) (t : List ℕ) → slice_get ts i ≡ Some t → contains_name ts t ≡ true
contained ts i t e =
    let e' = get_or_from_slice_get ts i t [] e in
    subst (λ x. contains_name ts x ≡ true) e' (cell_there ts i (slice_get_within ts i t e))

in_below : (n i : ℕ) → i < n → slice_get (below n) i ≡ Some i
in_below n i less =
    let there : i < length (below n) = omega (arith, less, below_many n) in
    let found = slice_get-get_or (below n) i 0 there in
    found ∙ ap Some (sym (below_at n i (slice_index (below n) i) found).0)

-- ---- tests

not_one : (b : Bool) → not b ≡ true → b ≡ false
not_one true e = absurd (true≢false (sym e))
not_one false e = refl

none_is : {A : Type 0} (o : Option A) → is_none o ≡ true → o ≡ None
none_is None e = refl
none_is (Some x) e = absurd (true≢false (sym e))

-- what begins without a value is free
free_init : (x : Init) (j : ℕ) (o : Option ℕ) → BeginsAs x j o → o ≡ None → x ≡ init.Free
free_init init.Free j o b e = refl
free_init (init.Known n) j o b e = absurd (true≢false (sym (ap is_none e) ∙ ap is_none b))

-- ---- numbers of spots are small

spot_small : (names : Names) (v : Values) (ws : List ℕ) (ss : List Spot) (i : ℕ) → AreSpotsOf names ws ss
    → slice_index (map (spot_number names v) ss) i < 2 ^ slice_index ws i
spot_small names v ws [] i h = pow_pos (slice_index ws i)
spot_small names v [] (x ∷ xs) i h = absurd h
spot_small names v (w ∷ ws) (x ∷ xs) zero h =
    subst (λ n. spot_number names v x < 2 ^ n) h.0.each
    (gathered_small (v (text_of (slice_get names.list x.name))) x.bits)
spot_small names v (w ∷ ws) (x ∷ xs) (suc i) h = spot_small names v ws xs i h.1

module _ (ps : List Part) (net : Netlist) (names : Names) (h : IsLowered ps net names) (whole : IsNet net) (d : ℕ)
    (chosen : ℕ → Values) where
  abbrev ds : List Decl
  ds = decls_of ps

  -- the name of a memory's word, and the width of its words
  abbrev word_at : ℕ → ℕ → List ℕ
  word_at m j = slice_index_or (cells_named (slice_get names.list (slice_index names.mems m))) j []

  abbrev width_at : ℕ → ℕ
  width_at m = slice_index (map (λ (x : Mem). x.width) net.mems) m

  abbrev ch : Choices
  ch = record {
    each_cycle = λ k i. slice_index (inputs_of names (chosen k)) i;
    once = λ i. slice_index (inputs_of names (chosen 0)) i;
    regs = λ r. slice_index (map (spot_number names (chosen 0)) names.regs) r;
    words = λ m j. gathered (chosen 0 (word_at m j)) (below (width_at m));
  }

  of_net : AreChoicesOf net ch
  of_net = record {
    each_cycle = λ k i less.
        spot_small names (chosen k) (map (λ (x : Input). x.width) net.inputs) names.inputs i h.named.inputs;
    once = λ i less.
        spot_small names (chosen 0) (map (λ (x : Input). x.width) net.inputs) names.inputs i h.named.inputs;
    regs = λ i less. spot_small names (chosen 0) (map (λ (x : Reg). x.width) net.regs) names.regs i h.named.regs;
    words = λ m i less.
        subst (λ n. gathered (chosen 0 (word_at m i)) (below (width_at m)) < 2 ^ n) (below_many (width_at m))
        (gathered_small (chosen 0 (word_at m i)) (below (width_at m)));
  }

  abbrev run : List Values
  run = run_of net names ch d

  abbrev map_in : ℕ → Values
  map_in k = values_at run k

  is : IsRunOf net names ch d run
  is = run_of_choices ps net names ch d h whole of_net

  -- ---- bits of inputs and registers

  abbrev place_of : ℕ → Placed
  place_of offset = record { source = 0; bit = offset; node = 0 }

  -- the bit that a note names, of a spot that is there
  noted : (spots : List Spot) (k : ℕ) (text : List ℕ) (i : ℕ) (at : IsAtSpot names spots text i)
      → bit_of (values_at run (spot_note names (slice_get spots at.place) k (place_of at.offset)).cycle
      (spot_note names (slice_get spots at.place) k (place_of at.offset)).name)
      (spot_note names (slice_get spots at.place) k (place_of at.offset)).bit
      ≡ bit_of (map_in k text) i
  noted spots k text i at =
      let p = place_of at.offset in
      let index : slice_index at.spot.bits at.offset ≡ i = get_or_from_slice_get at.spot.bits at.offset i 0 at.bit in
      ap (λ o. bit_of (values_at run (spot_note names o k p).cycle (spot_note names o k p).name)
      (spot_note names o k p).bit) at.there
      ∙ (λ j. bit_of (map_in k (at.named j)) (index j))

  -- the bit of the number that was chosen for it
  wanted : (spots : List Spot) (k : ℕ) (text : List ℕ) (i : ℕ) (at : IsAtSpot names spots text i)
      → bit_of (slice_index (map (spot_number names (chosen k)) spots) at.place) at.offset ≡ bit_of (chosen k text) i
  wanted spots k text i at =
      ap (λ n. bit_of n at.offset) (index_map (spot_number names (chosen k)) spots at.place at.spot at.there)
      ∙ gathered_at (chosen k (text_of (slice_get names.list at.spot.name))) at.spot.bits at.offset i at.bit
      ∙ ap (λ n. bit_of (chosen k n) i) at.named

  record AtInput (text : List ℕ) (i : ℕ) (at : IsAtSpot names names.inputs text i) (way : InputKind) : Type 0 where
    kind_there : slice_get (map (λ x. x.kind) net.inputs) at.place ≡ Some way
    width : at.offset < slice_index (map (λ x. x.width) net.inputs) at.place

  at_input : (e : Decl) (text : List ℕ) (i : ℕ) → IsCellOf ds e text → (at : IsAtSpot names names.inputs text i)
      → (way : InputKind) → kind_of e.class ≡ Some way → AtInput text i at way
  at_input e text i of at way kind_e =
      let x = first_of (IsInputOf ds names) net.inputs names.inputs h.sources.inputs at.place at.spot at.there in
      let own : IsInputOf ds names x.0 at.spot = x.2 in
      let cell : IsCellOf ds own.decl text =
      subst (IsCellOf ds own.decl) (sym own.named ∙ at.named) (vector_cell ds own.decl own.declared own.vector) in
      let same : own.decl ≡ e = own_cells ds h.apart own.decl e text cell of in
      let way_is : x.0.kind ≡ way =
      same_Some x.0.kind way (sym own.kind ∙ ap (λ (z : Decl). kind_of z.class) same ∙ kind_e) in
      let within = slice_get_within at.spot.bits at.offset i at.bit in
      let long : length at.spot.bits ≡ own.decl.width = ap length own.bits ∙ below_many own.decl.width in
      let width = map_at (λ (z : Input). z.width) net.inputs at.place x.0 x.1 in
      record {
        kind_there = get_map (λ (z : Input). z.kind) net.inputs at.place x.0 x.1 ∙ ap Some way_is;
        width = omega (arith, within, long, width, own.width);
      }

  each_bit : (e : Decl) (text : List ℕ) (i k : ℕ) → IsCellOf ds e text → k ≤ d
      → IsAtSpot names names.inputs text i → kind_of e.class ≡ Some kind.EachCycle
      → bit_of (map_in k text) i ≡ bit_of (chosen k text) i
  each_bit e text i k of le at kind_e =
      let there = at_input e text i of at kind.EachCycle kind_e in
      sym (noted names.inputs k text i at)
      ∙ source_bit ps net names h ch d run is (s.Each at.place k) (place_of at.offset) (there.kind_there, le) there.width
      ∙ wanted names.inputs k text i at

  once_bit : (e : Decl) (text : List ℕ) (i : ℕ) → IsCellOf ds e text → IsAtSpot names names.inputs text i
      → kind_of e.class ≡ Some kind.Once → bit_of (map_in 0 text) i ≡ bit_of (chosen 0 text) i
  once_bit e text i of at kind_e =
      let there = at_input e text i of at kind.Once kind_e in
      sym (noted names.inputs 0 text i at)
      ∙ source_bit ps net names h ch d run is (s.Once at.place) (place_of at.offset) there.kind_there there.width
      ∙ wanted names.inputs 0 text i at

  reg_bit : (text : List ℕ) (i : ℕ) → last_value (initial_writes ps) text i ≡ None → IsAtSpot names names.regs text i
      → bit_of (map_in 0 text) i ≡ bit_of (chosen 0 text) i
  reg_bit text i none at =
      let r = first_of (IsRegOf ds ps names) net.regs names.regs h.sources.regs at.place at.spot at.there in
      let own : IsRegOf ds ps names r.0 at.spot = r.2 in
      let last : last_value (initial_writes ps) own.text i ≡ None =
      ap (λ t. last_value (initial_writes ps) t i) (sym own.named ∙ at.named) ∙ none in
      let free : r.0.init ≡ init.Free =
      free_init r.0.init at.offset (last_value (initial_writes ps) own.text i) (own.begins at.offset i at.bit) last in
      let within = slice_get_within at.spot.bits at.offset i at.bit in
      let width = map_at (λ (z : Reg). z.width) net.regs at.place r.0 r.1 in
      sym (noted names.regs 0 text i at)
      ∙ source_bit ps net names h ch d run is (s.RegStart at.place) (place_of at.offset)
      (get_map (λ (z : Reg). z.init) net.regs at.place r.0 r.1 ∙ ap Some free) (omega (arith, within, width, own.width))
      ∙ wanted names.regs 0 text i at

  word_bit : (e : Decl) (text : List ℕ) (i : ℕ) → IsCellOf ds e text → i < e.width
      → last_value (initial_writes ps) text i ≡ None → IsWordOf names text
      → bit_of (map_in 0 text) i ≡ bit_of (chosen 0 text) i
  word_bit e text i of less none w =
      let m = first_of (IsMemOf ds ps names) net.mems names.mems h.sources.mems w.place w.at w.there in
      let own : IsMemOf ds ps names m.0 w.at = m.2 in
      let cell : slice_get (cells own.decl) w.offset ≡ Some text =
      sym (ap (λ ts. slice_get ts w.offset) own.named) ∙ w.word in
      let cell_of : IsCellOf ds own.decl text = record {
        declared = own.declared;
        cell = contained (cells own.decl) w.offset text cell;
      } in
      let same : own.decl ≡ e = own_cells ds h.apart own.decl e text cell_of of in
      let below_width : i < own.decl.width = subst (λ (z : Decl). i < z.width) (sym same) less in
      let there : w.offset < length m.0.init =
      omega (arith, slice_get_within (cells own.decl) w.offset text cell, own.count, own.starts) in
      let x = one_there m.0.init w.offset there in
      let free : x.0 ≡ init.Free =
      free_init x.0 i (last_value (initial_writes ps) text i) (own.begins w.offset i text x.0 cell x.1 below_width) none in
      let choice : slice_get (slice_index_or (map (λ z. z.init) net.mems) w.place []) w.offset ≡ Some init.Free =
      ap (λ xs. slice_get xs w.offset) (list_at net.mems w.place m.0 m.1) ∙ x.1 ∙ ap Some free in
      let width : width_at w.place ≡ m.0.width = map_at (λ (z : Mem). z.width) net.mems w.place m.0 m.1 in
      let small : i < width_at w.place = omega (arith, below_width, width, own.width) in
      let place : slice_index names.mems w.place ≡ w.at = get_or_from_slice_get names.mems w.place w.at 0 w.there in
      let name : word_at w.place w.offset ≡ text =
      ap (λ n. slice_index_or (cells_named (slice_get names.list n)) w.offset []) place
      ∙ get_or_from_slice_get (cells_named (slice_get names.list w.at)) w.offset text [] w.word in
      sym (ap (λ n. bit_of (map_in 0 n) i) name)
      ∙ source_bit ps net names h ch d run is (s.WordStart w.place w.offset) (place_of i) choice small
      ∙ gathered_at (chosen 0 (word_at w.place w.offset)) (below (width_at w.place)) i i (in_below (width_at w.place) i small)
      ∙ ap (λ n. bit_of (chosen 0 n) i) name

  -- ---- all bits that are chosen

  source_of : (e : Decl) (text : List ℕ) (i : ℕ) → IsCellOf ds e text → i < e.width → (c : Class) → e.class ≡ c
      → is_chosen ps c text i ≡ true → IsSource names c text i
  source_of e text i of less c is_c free =
      subst (λ z. IsSource names z text i) is_c
      (h.sources.each e text i of less (subst (λ z. is_chosen ps z text i ≡ true) (sym is_c) free))

  variable_bit : (e : Decl) (text : List ℕ) (i : ℕ) → IsCellOf ds e text → i < e.width → e.class ≡ class.Variable
      → is_free ps class.Variable text i 0 ≡ true → bit_of (map_in 0 text) i ≡ bit_of (chosen 0 text) i
  variable_bit e text i of less is_c free =
      let parts = and_parts (0 == 0 && not (is_driven ps text i)) (is_none (last_value (initial_writes ps) text i)) free
      in
      let undriven = not_one (is_driven ps text i) (and_parts (0 == 0) (not (is_driven ps text i)) parts.0).1 in
      let none = none_is (last_value (initial_writes ps) text i) parts.1 in
      elim (source_of e text i of less class.Variable is_c (ap not undriven)) [
        | inl at ↦ reg_bit text i none at
        | inr w ↦ word_bit e text i of less none w
      ]

  none_later : (k : ℕ) → (suc k == 0) ≡ true → ⊥
  none_later k e = let none : suc k ≡ 0 = grind (arith, nat_tests, e) in omega (arith, none)

  alike_by : (k : ℕ) → k ≤ d → (e : Decl) (text : List ℕ) (i : ℕ) → IsCellOf ds e text → i < e.width → (c : Class)
      → e.class ≡ c → is_free ps c text i k ≡ true → bit_of (map_in k text) i ≡ bit_of (chosen k text) i
  alike_by k le e text i of less class.Input is_c free =
      each_bit e text i k of le (source_of e text i of less class.Input is_c refl) (ap kind_of is_c)
  alike_by k le e text i of less class.EachCycle is_c free =
      each_bit e text i k of le (source_of e text i of less class.EachCycle is_c refl) (ap kind_of is_c)
  alike_by zero le e text i of less class.Once is_c free =
      once_bit e text i of (source_of e text i of less class.Once is_c refl) (ap kind_of is_c)
  alike_by (suc k) le e text i of less class.Once is_c free = absurd (none_later k free)
  alike_by zero le e text i of less class.Variable is_c free = variable_bit e text i of less is_c free
  alike_by (suc k) le e text i of less class.Variable is_c free =
      let parts =
      and_parts (suc k == 0 && not (is_driven ps text i)) (is_none (last_value (initial_writes ps) text i)) free in
      absurd (none_later k (and_parts (suc k == 0) (not (is_driven ps text i)) parts.0).0)
  alike_by k le e text i of less class.Reset is_c free = absurd (true≢false (sym free))
  alike_by k le e text i of less class.Net is_c free = absurd (true≢false (sym free))
  alike_by k le e text i of less class.Clock is_c free = absurd (true≢false (sym free))

  only_if : (b : Bool) (P : Type 0) → (b ≡ true → P) → OnlyIf b P
  only_if true P f = f refl
  only_if false P f = tt

  abbrev AlikeBit : ℕ → Decl → List ℕ → ℕ → Type 0
  AlikeBit k e text i = OnlyIf (is_free ps e.class text i k) (bit_of (map_in k text) i ≡ bit_of (chosen k text) i)

  chosen_alike : (k : ℕ) → k ≤ d → ChooseAlike ps k (map_in k) (chosen k)
  chosen_alike k le =
      each_declared (λ e. EachBit (AlikeBit k e) e) ps
      (each_map (λ e own. bits_of_cells (AlikeBit k e) e (λ text c i less.
      only_if (is_free ps e.class text i k) (bit_of (map_in k text) i ≡ bit_of (chosen k text) i) (λ free.
      alike_by k le e text i (record { declared = own; cell = c }) less e.class refl free))) ds
      (own_declared ds h.different))

pub each_choice_has_one_run : EachChoiceHasOneRun
each_choice_has_one_run ps net names d given h whole =
    let chosen = values_at given in
    let made = run ps net names h whole d chosen in
    let own : IsRunBy ps d given made = record {
      is_run = allowed ps net names h whole (ch ps net names h whole d chosen) (of_net ps net names h whole d chosen) d;
      by = chosen_alike ps net names h whole d chosen;
    } in
    record {
      run = made;
      is = own;
      one = λ other r.
          agree_in_cycle ps net names h d (values_at other) (values_at made) (run_maps ps d other r.is_run)
          (run_maps ps d made own.is_run)
          (λ k le e text i of less free.
          alike_from ps k (values_at other k) (chosen k) (r.by k le) e text i of less free
          ∙ sym (alike_from ps k (values_at made k) (chosen k) (own.by k le) e text i of less free));
    }
