-- The inputs, registers and memories that a design's names come to are its sources.
use Rattle.std.specs.Prelude.{◌≡◌, refl, ℕ, ◌+◌, ◌<◌, ◌≤◌, ◌^◌, List, [], ◌∷◌, length, map, Bool, true, false, not, All}
use Rattle.std.specs.Prelude.{Some, is_none, slice_get, ◌⊎◌}
use Rattle.std.proofs.Common.{ap, sym, ◌∙◌, arith, subst, true≢false, inl, inr}
use Rattle.std.proofs.lemmas.List.Elements.{All-head, All-tail}
use Rattle.std.proofs.lemmas.Option.{same_Some}
use Rattle.vl_size.specs.declared.decl.Class.{Class}
use Rattle.vl_size.specs.declared.decl.Class.TheVariants as class
use Rattle.vl_size.specs.declared.decl.Decl.{Decl}
use Rattle.vl_size.specs.Table.{AreDifferent, IsShaped, declared_as}
use Rattle.vl_mean.specs.Cells.{cells, is_cell}
use Rattle.vl_mean.specs.FlatLaw.{IsKept, IsMemory}
use Rattle.vl_mean.specs.Parts.{Part}
use Rattle.vl_mean.specs.Runs.{Each, initial_writes, is_chosen, is_driven, last_value}
use Rattle.vl_flow_spec.specs.Reads.{IsCellOf}
use Rattle.vl_flow_spec.proofs.Cells.{own_name}
use Rattle.vl_flow_cells.proofs.Lists.{place_in}
use Rattle.vl_flow_spec.proofs.Elements.{all_declared, each_declared_as}
use Rattle.wn_net.specs.declared.names.Names.{Names}
use Rattle.wn_net.specs.declared.parts.Input.{Input}
use Rattle.wn_net.specs.declared.parts.InputKind.{InputKind}
use Rattle.wn_net.specs.declared.parts.InputKind.TheVariants as kind
use Rattle.wn_net.specs.declared.parts.Mem.{Mem}
use Rattle.wn_net.specs.declared.parts.Reg.{Reg}
use Rattle.wn_net.specs.Net.{Netlist}
use Rattle.vl_lower_spec.specs.Sources.{AreEach, AreSources, BeginsAs, IsAtSpot, IsInputOf, IsMemOf, IsRegOf, IsSource}
use Rattle.vl_lower_spec.specs.Sources.{IsWordOf}
use Rattle.vl_lower_spec.specs.Sources.{below, kind_of}
use Rattle.vl_lower_cell_laws.specs.Keeps.{Kept}
use Rattle.vl_lower_cell_laws.specs.Entries.{all_entries, is_memory}
use Rattle.vl_lower_cell_laws.specs.Listing.{AreKeeps, HasSources, Keeping, SourcesAreNamed, Stored, all_inputs}
use Rattle.vl_lower_cell_laws.specs.Listing.{all_memories}
use Rattle.vl_lower_cell_laws.specs.Listing.{all_registers, input_spot, register_spot}
use Rattle.vl_lower_cell_laws.proofs.SourcesLists.{map_get}
use Rattle.vl_lower_cell_laws.proofs.Places.{AllAt, all_at}
use Rattle.vl_lower_cell_laws.proofs.Registers.{IsHeld, IsHere, all_held, all_here}
use Rattle.vl_lower_cell_laws.proofs.Stored.{HasWords, IsStored, all_stored, all_words}
use Rattle.vl_lower_cell_laws.proofs.Asked.{IsAsked, IsTaken, all_asked, all_taken, vector_of}
use Rattle.vl_lower_cell_laws.proofs.Below.{below_there}

each_of_all : {A : Type 0} (P : A → Type 0) (xs : List A) → All P xs → Each P xs
each_of_all P [] h = tt
each_of_all P (x ∷ xs) h = (All-head P x xs h, each_of_all P xs (All-tail P x xs h))

each_as : {A : Type 0} (P Q : A → Type 0) (xs : List A) → ((x : A) → P x → Q x) → Each P xs → Each Q xs
each_as P Q [] f h = tt
each_as P Q (x ∷ xs) f h = (f x h.0, each_as P Q xs f h.1)

each_pair : {A : Type 0} (P Q : A → Type 0) (xs : List A) → Each P xs → Each Q xs → Each (λ x. P x × Q x) xs
each_pair P Q [] h g = tt
each_pair P Q (x ∷ xs) h g = ((h.0, g.0), each_pair P Q xs h.1 g.1)

head_same : {A : Type 0} (x y : A) (xs ys : List A) → x ∷ xs ≡ y ∷ ys → x ≡ y
head_same x y xs ys e = same_Some x y (ap (λ zs. slice_get zs 0) e)

abbrev behind : {A : Type 0} → List A → List A
behind [] = []
behind (z ∷ zs) = zs

tail_same : {A : Type 0} (x y : A) (xs ys : List A) → x ∷ xs ≡ y ∷ ys → xs ≡ ys
tail_same x y xs ys e = ap behind e

none_first : {A B : Type 0} (y : A) (ys : List A) → [] ≡ y ∷ ys → B
none_first y ys e = absurd (true≢false (ap (λ zs. is_none (slice_get zs 0)) e))

module _ (ds : List Decl) (ps : List Part) (keep : Keeping) (nodes : List ℕ) (net : Netlist) (names : Names) where
  reg_is : (r : Reg) (x : Kept × ℕ) → r.width ≡ x.0.width → r.init ≡ x.0.init → IsHeld ds ps keep nodes names.list x
      → IsRegOf ds ps names r (register_spot x)
  reg_is r x w n h = record {
    decl = h.decl;
    text = h.text;
    of = h.of;
    variable = h.variable;
    named = h.named;
    width = h.kept.many ∙ sym w;
    within = h.kept.within;
    kept = h.kept.kept;
    begins = λ j k e.
        subst (λ i. BeginsAs i j (last_value (initial_writes ps) h.text k)) (sym n) (h.kept.begins j k e);
    small = λ y e. subst (λ m. y < 2 ^ m) (sym w) (h.kept.small y (sym n ∙ e));
  }

  regs_are : (rs : List Reg) (xs : List (Kept × ℕ)) → map (λ r. r.width) rs ≡ map (λ x. x.0.width) xs
      → map (λ r. r.init) rs ≡ map (λ x. x.0.init) xs → Each (IsHeld ds ps keep nodes names.list) xs
      → AreEach (IsRegOf ds ps names) rs (map register_spot xs)
  regs_are [] [] w n h = tt
  regs_are [] (x ∷ xs) w n h = none_first x.0.width (map (λ (x : Kept × ℕ). x.0.width) xs) w
  regs_are (r ∷ rs) [] w n h = none_first r.width (map (λ (r : Reg). r.width) rs) (sym w)
  regs_are (r ∷ rs) (x ∷ xs) w n h = (
    reg_is r x
        (head_same r.width x.0.width (map (λ (r : Reg). r.width) rs) (map (λ (x : Kept × ℕ). x.0.width) xs) w)
        (head_same r.init x.0.init (map (λ (r : Reg). r.init) rs) (map (λ (x : Kept × ℕ). x.0.init) xs) n) h.0,
    regs_are rs xs
        (tail_same r.width x.0.width (map (λ (r : Reg). r.width) rs) (map (λ (x : Kept × ℕ). x.0.width) xs) w)
        (tail_same r.init x.0.init (map (λ (r : Reg). r.init) rs) (map (λ (x : Kept × ℕ). x.0.init) xs) n) h.1,
  )

  mem_is : (m : Mem) (x : Stored × ℕ) → m.width ≡ x.0.width → m.words ≡ x.0.words → m.init ≡ x.0.starts
      → IsStored ds ps keep nodes names.list x → IsMemOf ds ps names m x.1
  mem_is m x w c n h = record {
    decl = h.decl;
    declared = h.declared;
    variable = h.variable;
    named = h.named;
    width = w ∙ h.width;
    count = h.count ∙ sym c;
    starts = ap length n ∙ h.many ∙ sym c;
    kept = h.kept;
    begins = λ j k text i e s less. h.begins j k text i e (ap (λ is. slice_get is j) (sym n) ∙ s) less;
    small = λ j y s. subst (λ k. y < 2 ^ k) (sym w) (h.small j y (ap (λ is. slice_get is j) (sym n) ∙ s));
  }

  mems_are : (ms : List Mem) (xs : List (Stored × ℕ)) → map (λ m. m.width) ms ≡ map (λ x. x.0.width) xs
      → map (λ m. m.words) ms ≡ map (λ x. x.0.words) xs → map (λ m. m.init) ms ≡ map (λ x. x.0.starts) xs
      → Each (IsStored ds ps keep nodes names.list) xs → AreEach (IsMemOf ds ps names) ms (map (λ x. x.1) xs)
  mems_are [] [] w c n h = tt
  mems_are [] (x ∷ xs) w c n h = none_first x.0.width (map (λ (x : Stored × ℕ). x.0.width) xs) w
  mems_are (m ∷ ms) [] w c n h = none_first m.width (map (λ (m : Mem). m.width) ms) (sym w)
  mems_are (m ∷ ms) (x ∷ xs) w c n h = (
    mem_is m x
        (head_same m.width x.0.width (map (λ (m : Mem). m.width) ms) (map (λ (x : Stored × ℕ). x.0.width) xs) w)
        (head_same m.words x.0.words (map (λ (m : Mem). m.words) ms) (map (λ (x : Stored × ℕ). x.0.words) xs) c)
        (head_same m.init x.0.starts (map (λ (m : Mem). m.init) ms) (map (λ (x : Stored × ℕ). x.0.starts) xs) n) h.0,
    mems_are ms xs
        (tail_same m.width x.0.width (map (λ (m : Mem). m.width) ms) (map (λ (x : Stored × ℕ). x.0.width) xs) w)
        (tail_same m.words x.0.words (map (λ (m : Mem). m.words) ms) (map (λ (x : Stored × ℕ). x.0.words) xs) c)
        (tail_same m.init x.0.starts (map (λ (m : Mem). m.init) ms) (map (λ (x : Stored × ℕ). x.0.starts) xs) n) h.1,
  )

  inputs_are : (xs : List (Input × ℕ)) → Each (IsAsked ds ps nodes names.list) xs
      → AreEach (IsInputOf ds names) (map (λ x. x.0) xs) (map input_spot xs)
  inputs_are [] h = tt
  inputs_are (x ∷ xs) h = (
    record {
      decl = h.0.decl;
      declared = h.0.declared;
      vector = h.0.vector;
      named = h.0.named;
      kind = h.0.kind;
      width = h.0.width;
      bits = ap below h.0.width;
    },
    inputs_are xs h.1,
  )

  module _ (shaped : All IsShaped ds) (different : AreDifferent ds) (kept : All IsKept ds)
      (keeps : AreKeeps ps keep ds 0) (list : names.list ≡ all_entries ps ds nodes 0 0)
      (has : HasSources ps keep ds net names) where
    pub placed : AllAt ps nodes names.list ds 0 0 0
    placed =
        all_at ps nodes names.list ds 0 0 0 (λ j x e.
        let same : 0 + j ≡ j = omega arith in
        ap (slice_get names.list) same ∙ ap (λ xs. slice_get xs j) list ∙ e)

    declared : Each (λ d. declared_as ds d.name ≡ Some d) ds
    declared = all_declared ds different

    pub own : Each (λ d. (declared_as ds d.name ≡ Some d) × (1 ≤ d.width)) ds
    own =
        each_pair (λ d. declared_as ds d.name ≡ Some d) (λ d. 1 ≤ d.width) ds declared
        (each_as IsShaped (λ d. 1 ≤ d.width) ds (λ d s. s.some_bits) (each_of_all IsShaped ds shaped))

    pub memories : Each (λ d. IsMemory d.words d) ds
    memories = each_as IsKept (λ d. IsMemory d.words d) ds (λ d s. s.memory) (each_of_all IsKept ds kept)

    regs : AreEach (IsRegOf ds ps names) net.regs names.regs
    regs =
        subst (AreEach (IsRegOf ds ps names) net.regs) (sym has.reg_spots)
        (regs_are net.regs (all_registers ps keep ds 0 0) has.reg_widths has.reg_starts
        (all_held ds ps keep nodes names.list ds own 0 0 0 placed keeps))

    mems : AreEach (IsMemOf ds ps names) net.mems names.mems
    mems =
        subst (AreEach (IsMemOf ds ps names) net.mems) (sym has.mem_names)
        (mems_are net.mems (all_memories ps keep ds 0 0) has.mem_widths has.mem_words has.mem_starts
        (all_stored ds ps keep nodes names.list ds own 0 0 0 placed keeps))

    inputs : AreEach (IsInputOf ds names) net.inputs names.inputs
    inputs =
        subst (λ xs. AreEach (IsInputOf ds names) xs names.inputs) (sym has.inputs)
        (subst (λ xs. AreEach (IsInputOf ds names) (map (λ x. x.0) (all_inputs ps ds 0)) xs) (sym has.input_spots)
        (inputs_are (all_inputs ps ds 0) (all_asked ds ps nodes names.list ds declared memories 0 0 0 placed)))

    -- ---- each free bit

    in_regs : (d : Decl) (text : List ℕ) (k : ℕ) → IsCellOf ds d text → k < d.width → d.class ≡ class.Variable
        → is_memory ps d ≡ false → is_driven ps text k ≡ false → IsAtSpot names names.regs text k
    in_regs d text k c less is flat free =
        let p = place_in (cells d) text c.cell in
        let all = all_registers ps keep ds 0 0 in
        let r : IsHere ds ps keep nodes names.list (all_registers ps keep ds 0 0) text k =
        each_declared_as (λ d. d.class ≡ class.Variable → is_memory ps d ≡ false → (j : ℕ) (n : List ℕ)
        → slice_get (cells d) j ≡ Some n → (k : ℕ) → k < d.width → is_driven ps n k ≡ false
        → IsHere ds ps keep nodes names.list (all_registers ps keep ds 0 0) n k) ds d.name d c.declared
        (all_here ds ps keep nodes names.list (all_registers ps keep ds 0 0) ds own 0 0 0 placed keeps
        (λ i x e. (i, e))) is flat p.0 text p.1 k less free in
        record {
          place = r.place;
          spot = register_spot (r.register, r.at);
          there = ap (λ xs. slice_get xs r.place) has.reg_spots
              ∙ map_get register_spot (all_registers ps keep ds 0 0) r.place (r.register, r.at) r.there;
          named = r.named;
          offset = r.offset;
          bit = r.bit;
        }

    in_mems : (d : Decl) (text : List ℕ) → IsCellOf ds d text → d.class ≡ class.Variable → is_memory ps d ≡ true
        → IsWordOf names text
    in_mems d text c is memory =
        let p = place_in (cells d) text c.cell in
        let r : HasWords ds ps keep nodes names.list (all_memories ps keep ds 0 0) text =
        each_declared_as (λ d. d.class ≡ class.Variable → is_memory ps d ≡ true → (j : ℕ) (n : List ℕ)
        → slice_get (cells d) j ≡ Some n → HasWords ds ps keep nodes names.list (all_memories ps keep ds 0 0) n) ds
        d.name d c.declared
        (all_words ds ps keep nodes names.list (all_memories ps keep ds 0 0) ds own 0 0 0 placed keeps
        (λ i x e. (i, e))) is memory p.0 text p.1 in
        record {
          place = r.place;
          at = r.at;
          there = ap (λ xs. slice_get xs r.place) has.mem_names
              ∙ map_get (λ (x : Stored × ℕ). x.1) (all_memories ps keep ds 0 0) r.place (r.memory, r.at) r.there;
          offset = r.offset;
          word = r.word;
        }

    in_inputs : (d : Decl) (text : List ℕ) (k : ℕ) → IsCellOf ds d text → k < d.width → (y : InputKind)
        → kind_of d.class ≡ Some y → IsAtSpot names names.inputs text k
    in_inputs d text k c less y e =
        let vector = vector_of d y e
        (each_declared_as (λ d. IsMemory d.words d) ds d.name d c.declared memories) in
        let same : text ≡ d.name =
        own_name d.name text (subst (λ w. is_cell d.name w text ≡ true) vector c.cell) in
        let r : IsTaken ds ps nodes names.list (all_inputs ps ds 0) d.name d.width =
        each_declared_as (λ d. (k : InputKind) → kind_of d.class ≡ Some k
        → IsTaken ds ps nodes names.list (all_inputs ps ds 0) d.name d.width) ds d.name d c.declared
        (all_taken ds ps nodes names.list (all_inputs ps ds 0) ds memories 0 0 0 placed (λ i x s. (i, s))) y e in
        record {
          place = r.place;
          spot = input_spot (r.input, r.at);
          there = ap (λ xs. slice_get xs r.place) has.input_spots
              ∙ map_get input_spot (all_inputs ps ds 0) r.place (r.input, r.at) r.there;
          named = r.named ∙ sym same;
          offset = k;
          bit = ap (λ w. slice_get (below w) k) r.wide ∙ below_there d.width k less;
        }

    each : (d : Decl) (c : Class) → d.class ≡ c → (text : List ℕ) (k : ℕ) → IsCellOf ds d text → k < d.width
        → is_chosen ps c text k ≡ true → IsSource names c text k
    each d class.Variable is text k o less h = by (is_memory ps d) refl
      where
        unturned : (b : Bool) → not b ≡ true → b ≡ false
        unturned false e = refl
        unturned true e = absurd (true≢false (sym e))

        by : (b : Bool) → is_memory ps d ≡ b → IsAtSpot names names.regs text k ⊎ IsWordOf names text
        by true e = inr (in_mems d text o is e)
        by false e = inl (in_regs d text k o less is e (unturned (is_driven ps text k) h))
    each d class.Input is text k o less h = in_inputs d text k o less kind.EachCycle (ap kind_of is)
    each d class.EachCycle is text k o less h = in_inputs d text k o less kind.EachCycle (ap kind_of is)
    each d class.Reset is text k o less h = in_inputs d text k o less kind.Reset (ap kind_of is)
    each d class.Once is text k o less h = in_inputs d text k o less kind.Once (ap kind_of is)
    each d class.Net is text k o less h = absurd (true≢false (sym h))
    each d class.Clock is text k o less h = absurd (true≢false (sym h))

    sources : AreSources ds ps net names
    sources = record {
      inputs = inputs;
      regs = regs;
      mems = mems;
      each = λ d text k o less h. each d d.class refl text k o less h;
    }

pub are_named : SourcesAreNamed
are_named ds ps keep nodes net names shaped different kept keeps list has =
    sources ds ps keep nodes net names shaped different kept keeps list has
