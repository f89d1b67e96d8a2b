-- The cells that registers and memories are of have the texts of their entries.
use Rattle.std.specs.Prelude.{◌≡◌, refl, ℕ, zero, suc, ◌+◌, List, [], ◌∷◌, ◌++◌, length, map, Bool, true, false, Some}
use Rattle.std.specs.Prelude.{if◌then◌else◌, slice_get}
use Rattle.std.proofs.Common.{ap, sym, ◌∙◌, arith}
use Rattle.vl_size.specs.declared.decl.Class.{Class}
use Rattle.vl_size.specs.declared.decl.Class.TheVariants as class
use Rattle.vl_size.specs.declared.decl.Decl.{Decl}
use Rattle.vl_mean.specs.Cells.{cells}
use Rattle.vl_mean.specs.Parts.{Part}
use Rattle.vl_mean.specs.Scopes.{is_clock_class}
use Rattle.vl_flow_cells.specs.Numbered.{all_cells}
use Rattle.vl_flow_cells.proofs.Lists.{get_left, get_right}
use Rattle.vl_lower_spec.specs.Maps.{cells_named, text_of}
use Rattle.wn_net.specs.declared.names.NetName.{NetName}
use Rattle.vl_lower_spec.specs.Sources.{AreEach}
use Rattle.vl_lower_cell_laws.specs.Keeps.{Kept, registers_of}
use Rattle.vl_lower_cell_laws.specs.Entries.{is_memory}
use Rattle.vl_lower_cell_laws.specs.Listing.{Keeping, Stored, all_memories, all_registers, cell_registers, entry_count}
use Rattle.vl_lower_cell_laws.specs.Listing.{memories_in, memory_count, named_registers, registers_in, stored}
use Rattle.vl_lower_cell_laws.proofs.Places.{AllAt, HeadAt, memory_there, text_there}
use Rattle.vl_lower_state.specs.Held.{cell_places, firsts_in, memory_firsts, places_in, register_places}
use Rattle.vl_lower_state.proofs.Pairs.{pairs_both}

module _ (whole : List (List ℕ)) (ps : List Part) (keep : Keeping) (nodes : List ℕ) (list : List NetName) where
  -- the cell has the text of the register's entry
  abbrev pub IsOf : Kept × ℕ → ℕ → Type 0
  IsOf x c = slice_get whole c ≡ Some (text_of (slice_get list x.1))

  -- a memory's cells from the first one on are the words of its entry
  pub record AreOf (y : Stored × ℕ) (first : ℕ) : Type 0 where
    pub count : length (cells_named (slice_get list y.1)) ≡ y.0.words
    pub each : (j : ℕ) (n : List ℕ) → slice_get (cells_named (slice_get list y.1)) j ≡ Some n
        → slice_get whole (first + j) ≡ Some n

  -- cells stand among all from a number on
  abbrev pub StandFrom : ℕ → List (List ℕ) → Type 0
  StandFrom first texts = (j : ℕ) (n : List ℕ) → slice_get texts j ≡ Some n → slice_get whole (first + j) ≡ Some n

  stand_front : (first : ℕ) (xs ys : List (List ℕ)) → StandFrom first (xs ++ ys) → StandFrom first xs
  stand_front first xs ys h j n e = h j n (get_left xs ys j n e)

  stand_back : (first : ℕ) (xs ys : List (List ℕ)) → StandFrom first (xs ++ ys) → StandFrom (first + length xs) ys
  stand_back first xs ys h j n e =
      let same : first + (length xs + j) ≡ first + length xs + j = omega arith in
      ap (slice_get whole) (sym same) ∙ h (length xs + j) n (get_right xs ys j (length xs + j) refl ∙ e)

  -- ---- registers

  named_of : (at c : ℕ) (xs : List Kept) → slice_get whole c ≡ Some (text_of (slice_get list at))
      → AreEach IsOf (named_registers at xs) (map (λ (x : Kept). c) xs)
  named_of at c [] h = tt
  named_of at c (x ∷ xs) h = (h, named_of at c xs h)

  cells_of : (width first at : ℕ) (texts : List (List ℕ)) → StandFrom first texts
      → ((j : ℕ) (n : List ℕ) → slice_get texts j ≡ Some n → text_of (slice_get list (at + j)) ≡ n)
      → AreEach IsOf (cell_registers keep width first at texts) (cell_places keep width first texts)
  cells_of width first at [] h named = tt
  cells_of width first at (t ∷ ts) h named =
      pairs_both IsOf (named_registers at (registers_of (keep first) width))
      (cell_registers keep width (first + 1) (at + 1) ts)
      (map (λ (x : Kept). first) (registers_of (keep first) width)) (cell_places keep width (first + 1) ts)
      (named_of at first (registers_of (keep first) width) here)
      (cells_of width (first + 1) (at + 1) ts (λ j n e.
      let same : first + suc j ≡ first + 1 + j = omega arith in
      ap (slice_get whole) (sym same) ∙ h (suc j) n e) (λ j n e.
      let same : at + 1 + j ≡ at + suc j = omega arith in
      ap (λ k. text_of (slice_get list k)) same ∙ named (suc j) n e))
    where
      here : slice_get whole first ≡ Some (text_of (slice_get list at))
      here =
          let same : first ≡ first + 0 = omega arith in
          let own : at ≡ at + 0 = omega arith in
          ap (slice_get whole) same ∙ h zero t refl
          ∙ ap Some (sym (ap (λ k. text_of (slice_get list k)) own ∙ named zero t refl))

  class_of : (d : Decl) (c : Class) → d.class ≡ c → (first at m : ℕ) → HeadAt ps nodes list d first at m
      → StandFrom first (cells d) → AreEach IsOf (registers_in ps keep d c first at) (places_in ps keep d c first)
  class_of d class.Variable is first at m h stand = by (is_memory ps d) refl
    where
      by : (b : Bool) → is_memory ps d ≡ b
          → AreEach IsOf (if b then [] else cell_registers keep d.width first at (cells d))
          (if b then [] else cell_places keep d.width first (cells d))
      by true e = tt
      by false e =
          cells_of d.width first at (cells d) stand
          (text_there ps nodes list d first at m h (ap is_clock_class is) e)
  class_of d class.Clock is first at m h stand = tt
  class_of d class.Reset is first at m h stand = tt
  class_of d class.Input is first at m h stand = tt
  class_of d class.Net is first at m h stand = tt
  class_of d class.EachCycle is first at m h stand = tt
  class_of d class.Once is first at m h stand = tt

  pub registers_are_of : (es : List Decl) (first at m : ℕ) → AllAt ps nodes list es first at m
      → StandFrom first (all_cells es)
      → AreEach IsOf (all_registers ps keep es first at) (register_places ps keep es first)
  registers_are_of [] first at m h stand = tt
  registers_are_of (d ∷ es) first at m h stand =
      pairs_both IsOf (registers_in ps keep d d.class first at)
      (all_registers ps keep es (first + length (cells d)) (at + entry_count ps d)) (places_in ps keep d d.class first)
      (register_places ps keep es (first + length (cells d)))
      (class_of d d.class refl first at m h.0 (stand_front first (cells d) (all_cells es) stand))
      (registers_are_of es (first + length (cells d)) (at + entry_count ps d) (m + memory_count ps d) h.1
      (stand_back first (cells d) (all_cells es) stand))

  -- ---- memories

  class_are : (d : Decl) (c : Class) → d.class ≡ c → (first at m : ℕ) → HeadAt ps nodes list d first at m
      → StandFrom first (cells d) → AreEach AreOf (memories_in ps keep d c first at) (firsts_in ps d c first)
  class_are d class.Variable is first at m h stand = by (is_memory ps d) refl
    where
      by : (b : Bool) → is_memory ps d ≡ b
          → AreEach AreOf (if b then (stored keep d first, at) ∷ [] else []) (if b then first ∷ [] else [])
      by true e =
          let named : cells_named (slice_get list at) ≡ cells d =
          memory_there ps nodes list d first at m h (ap is_clock_class is) e in (
            record {
              count = ap length named;
              each = λ j n s. stand j n (ap (λ ns. slice_get ns j) (sym named) ∙ s);
            },
            tt,
          )
      by false e = tt
  class_are d class.Clock is first at m h stand = tt
  class_are d class.Reset is first at m h stand = tt
  class_are d class.Input is first at m h stand = tt
  class_are d class.Net is first at m h stand = tt
  class_are d class.EachCycle is first at m h stand = tt
  class_are d class.Once is first at m h stand = tt

  pub memories_are_of : (es : List Decl) (first at m : ℕ) → AllAt ps nodes list es first at m
      → StandFrom first (all_cells es)
      → AreEach AreOf (all_memories ps keep es first at) (memory_firsts ps es first)
  memories_are_of [] first at m h stand = tt
  memories_are_of (d ∷ es) first at m h stand =
      pairs_both AreOf (memories_in ps keep d d.class first at)
      (all_memories ps keep es (first + length (cells d)) (at + entry_count ps d)) (firsts_in ps d d.class first)
      (memory_firsts ps es (first + length (cells d)))
      (class_are d d.class refl first at m h.0 (stand_front first (cells d) (all_cells es) stand))
      (memories_are_of es (first + length (cells d)) (at + entry_count ps d) (m + memory_count ps d) h.1
      (stand_back first (cells d) (all_cells es) stand))
