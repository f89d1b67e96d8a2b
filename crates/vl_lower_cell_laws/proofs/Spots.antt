-- Spots of inputs, registers and memories: each is of an entry that is there.
use Rattle.std.specs.Prelude.{◌≡◌, refl, ℕ, zero, suc, ◌+◌, ◌<◌, ◌==◌, ◌≤◌, List, [], ◌∷◌, ◌++◌, length, map, Bool}
use Rattle.std.specs.Prelude.{true}
use Rattle.std.specs.Prelude.{false, Option, Some, None, is_none, not, ◌&&◌, if◌then◌else◌, slice_get, slice_index}
use Rattle.std.specs.List.{IsDistinct}
use Rattle.std.proofs.Common.{ap, sym, ◌∙◌, arith, subst, true≢false}
use Rattle.std.proofs.lemmas.Option.{same_Some}
use Rattle.vl_size.specs.declared.decl.Class.{Class}
use Rattle.vl_size.specs.declared.decl.Class.TheVariants as class
use Rattle.vl_size.specs.declared.decl.Decl.{Decl}
use Rattle.vl_mean.specs.Cells.{cells, cells_of}
use Rattle.vl_mean.specs.FlatLaw.{IsMemory}
use Rattle.vl_mean.specs.Parts.{Part}
use Rattle.vl_mean.specs.Runs.{Each}
use Rattle.vl_mean.specs.Scopes.{is_clock_class}
use Rattle.wn_net.specs.declared.names.Names.{Names}
use Rattle.wn_net.specs.declared.parts.Input.{Input}
use Rattle.wn_net.specs.declared.parts.InputKind.{InputKind}
use Rattle.wn_net.specs.Names.{AreMemNames, IsSpotOf}
use Rattle.vl_lower_spec.specs.Maps.{is_split}
use Rattle.vl_lower_spec.specs.Sources.{below, kind_of}
use Rattle.vl_lower_spec.proofs.Bits.{below_at, below_many}
use Rattle.vl_lower_cell_laws.specs.declared.keep.Keep.{Keep}
use Rattle.vl_lower_cell_laws.specs.Keeps.{IsKeepOf, Kept, has_bit, is_whole, kept_bit, kept_bits, registers_of}
use Rattle.vl_lower_cell_laws.specs.Keeps.{whole_kept}
use Rattle.vl_lower_cell_laws.proofs.KeepsWhole.{keep_bits}
use Rattle.vl_lower_cell_laws.specs.Entries.{is_memory, memories_of, memory_entry, node_entries, node_entry}
use Rattle.vl_lower_cell_laws.specs.Listing.{AreKeeps, Keeping, Stored, all_inputs, all_memories, all_registers}
use Rattle.vl_lower_cell_laws.specs.Listing.{cell_registers, entry_count, input_spot, inputs_named, memories_in}
use Rattle.vl_lower_cell_laws.specs.Listing.{memory_count}
use Rattle.vl_lower_cell_laws.specs.Listing.{named_registers, register_spot, registers_in, stored}
use Rattle.vl_lower_cell_laws.proofs.Asked.{not_clock, vector_of}
use Rattle.vl_lower_cell_laws.proofs.SourcesLists.{each_both}
use Rattle.vl_lower_cell_laws.proofs.Places.{AllAt, HeadAt}
use Rattle.vl_lower_cell_laws.proofs.ShownCounted.{count_of}
use Rattle.vl_lower_cell_laws.proofs.Entries.{node_there}
use Rattle.vl_lower_cell_laws.proofs.ShownLists.{all_of_places, numbers_once}

-- ---- bits of registers differ

below_once : (n : ℕ) → IsDistinct (λ (a b : ℕ). a == b) (below n)
below_once n =
    numbers_once (below n) (λ j k i e f. (below_at n j i e).0 ∙ sym (below_at n k i f).0)

one_once : (k : ℕ) → IsDistinct (λ (a b : ℕ). a == b) (k ∷ [])
unfolding IsDistinct
one_once k = (tt, tt)

bit_once : (keep : Keep) (w i : ℕ) (x : Kept) → slice_get (kept_bits keep w) i ≡ Some x
    → IsDistinct (λ (a b : ℕ). a == b) x.bits
bit_once keep zero i x e = absurd (true≢false (ap is_none e))
bit_once keep (suc w) i x e = by (has_bit keep.driven w) e (λ j f. bit_once keep w j x f)
  where
    here : (j : ℕ) → slice_get (kept_bit keep w ∷ kept_bits keep w) j ≡ Some x
        → ((k : ℕ) → slice_get (kept_bits keep w) k ≡ Some x → IsDistinct (λ (a b : ℕ). a == b) x.bits)
        → IsDistinct (λ (a b : ℕ). a == b) x.bits
    here zero f g =
        subst (λ y. IsDistinct (λ (a b : ℕ). a == b) y.bits) (same_Some (kept_bit keep w) x f) (one_once w)
    here (suc j) f g = g j f

    by : (b : Bool)
        → slice_get (if b then kept_bits keep w else kept_bit keep w ∷ kept_bits keep w) i ≡ Some x
        → ((k : ℕ) → slice_get (kept_bits keep w) k ≡ Some x → IsDistinct (λ (a b : ℕ). a == b) x.bits)
        → IsDistinct (λ (a b : ℕ). a == b) x.bits
    by true f g = g i f
    by false f g = here i f g

bits_once : (keep : Keep) (w i : ℕ) (x : Kept) → slice_get (registers_of keep w) i ≡ Some x
    → IsDistinct (λ (a b : ℕ). a == b) x.bits
bits_once keep w i x e = by (is_whole keep w) e
  where
    one : (j : ℕ) → slice_get (whole_kept keep w ∷ []) j ≡ Some x → IsDistinct (λ (a b : ℕ). a == b) x.bits
    one zero f =
        subst (λ y. IsDistinct (λ (a b : ℕ). a == b) y.bits) (same_Some (whole_kept keep w) x f) (below_once w)
    one (suc j) f = absurd (true≢false (ap is_none f))

    by : (b : Bool) → slice_get (if b then whole_kept keep w ∷ [] else kept_bits keep w) i ≡ Some x
        → IsDistinct (λ (a b : ℕ). a == b) x.bits
    by true f = one i f
    by false f = bit_once keep w i x f

module _ (ps : List Part) (keep : Keeping) (nodes : List ℕ) (names : Names) where
  -- an entry at a node is there
  entry_there : (d : Decl) (first at m : ℕ) → HeadAt ps nodes names.list d first at m → is_clock_class d.class ≡ false
      → is_memory ps d ≡ false → (j : ℕ) (n : List ℕ) → slice_get (cells d) j ≡ Some n
      → slice_get names.list (at + j) ≡ Some (node_entry d n (slice_index nodes (first + j)))
  entry_there d first at m h c e j n s =
      h c j (node_entry d n (slice_index nodes (first + j)))
      (ap (λ (b : Bool). slice_get (if b then memory_entry d m ∷ [] else node_entries d nodes first (cells d)) j) e
      ∙ node_there ps nodes d first (cells d) j n s)

  -- ---- inputs

  abbrev pub IsInputSpot : Input × ℕ → Type 0
  IsInputSpot x = IsSpotOf names x.0.width (input_spot x)

  input_here : (d : Decl) → IsMemory d.words d → (first at m : ℕ) → HeadAt ps nodes names.list d first at m
      → (o : Option InputKind) → kind_of d.class ≡ o → Each IsInputSpot (inputs_named o d at)
  input_here d memory first at m h None e = tt
  input_here d memory first at m h (Some k) e = (
    record {
      name = node_entry d d.name (slice_index nodes (first + 0));
      there =
          ap (slice_get names.list) same
          ∙ entry_there d first at m h (not_clock d.class k e) none 0 d.name
          (ap (λ o. slice_get (cells_of d.name o) 0) vector);
      each = below_many d.width;
      within = all_of_places (λ b. b < d.width) (below d.width) (λ j b f. (below_at d.width j b f).1);
      once = below_once d.width;
    },
    tt,
  )
    where
      same : at ≡ at + 0
      same = omega arith

      vector : d.words ≡ None
      vector = vector_of d k e memory

      none : is_memory ps d ≡ false
      none = ap (λ o. not (is_none o) && not (is_split ps d)) vector

  pub input_spots : (es : List Decl) → Each (λ d. IsMemory d.words d) es → (first at m : ℕ)
      → AllAt ps nodes names.list es first at m → Each IsInputSpot (all_inputs ps es at)
  input_spots [] memory first at m h = tt
  input_spots (d ∷ es) memory first at m h =
      each_both IsInputSpot (inputs_named (kind_of d.class) d at) (all_inputs ps es (at + entry_count ps d))
      (input_here d memory.0 first at m h.0 (kind_of d.class) refl)
      (input_spots es memory.1 (first + length (cells d)) (at + entry_count ps d) (m + memory_count ps d) h.1)

  -- ---- registers

  abbrev pub IsRegisterSpot : Kept × ℕ → Type 0
  IsRegisterSpot x = IsSpotOf names x.0.width (register_spot x)

  named_spots : (at : ℕ) (xs : List Kept) → ((i : ℕ) (x : Kept) → slice_get xs i ≡ Some x → IsRegisterSpot (x, at))
      → Each IsRegisterSpot (named_registers at xs)
  named_spots at [] h = tt
  named_spots at (x ∷ xs) h = (h zero x refl, named_spots at xs (λ i y e. h (suc i) y e))

  cell_spots : (d : Decl) → 1 ≤ d.width → (first at : ℕ) (texts : List (List ℕ))
      → ((j : ℕ) (n : List ℕ) → slice_get texts j ≡ Some n
      → slice_get names.list (at + j) ≡ Some (node_entry d n (slice_index nodes (first + j))))
      → ((j : ℕ) (n : List ℕ) → slice_get texts j ≡ Some n → IsKeepOf ps d.width n (keep (first + j)))
      → Each IsRegisterSpot (cell_registers keep d.width first at texts)
  cell_spots d some first at [] there keeps = tt
  cell_spots d some first at (t ∷ ts) there keeps =
      each_both IsRegisterSpot (named_registers at (registers_of (keep first) d.width))
      (cell_registers keep d.width (first + 1) (at + 1) ts)
      (named_spots at (registers_of (keep first) d.width) (λ i x e.
      let kept = (keep_bits ps d.width t (keep first) some own).each i x e in
      record {
        name = node_entry d t (slice_index nodes (first + 0));
        there = ap (slice_get names.list) same ∙ there zero t refl;
        each = kept.many;
        within = all_of_places (λ b. b < d.width) x.bits (λ j b f. kept.within j b f);
        once = bits_once (keep first) d.width i x e;
      }))
      (cell_spots d some (first + 1) (at + 1) ts (λ j n e.
      let next : at + 1 + j ≡ at + suc j = omega arith in
      let number : first + suc j ≡ first + 1 + j = omega arith in
      ap (slice_get names.list) next ∙ there (suc j) n e
      ∙ ap (λ k. Some (node_entry d n (slice_index nodes k))) number) (λ j n e.
      let number : first + suc j ≡ first + 1 + j = omega arith in
      subst (λ k. IsKeepOf ps d.width n (keep k)) number (keeps (suc j) n e)))
    where
      same : at ≡ at + 0
      same = omega arith

      own : IsKeepOf ps d.width t (keep first)
      own =
          let number : first + 0 ≡ first = omega arith in
          subst (λ k. IsKeepOf ps d.width t (keep k)) number (keeps zero t refl)

  class_spots : (d : Decl) (c : Class) → d.class ≡ c → 1 ≤ d.width → (first at m : ℕ)
      → HeadAt ps nodes names.list d first at m
      → (d.class ≡ class.Variable → (j : ℕ) (n : List ℕ) → slice_get (cells d) j ≡ Some n
      → IsKeepOf ps d.width n (keep (first + j)))
      → Each IsRegisterSpot (registers_in ps keep d c first at)
  class_spots d class.Variable is some first at m h keeps = by (is_memory ps d) refl
    where
      by : (b : Bool) → is_memory ps d ≡ b
          → Each IsRegisterSpot (if b then [] else cell_registers keep d.width first at (cells d))
      by true e = tt
      by false e =
          cell_spots d some first at (cells d) (entry_there d first at m h (ap is_clock_class is) e) (keeps is)
  class_spots d class.Clock is some first at m h keeps = tt
  class_spots d class.Reset is some first at m h keeps = tt
  class_spots d class.Input is some first at m h keeps = tt
  class_spots d class.Net is some first at m h keeps = tt
  class_spots d class.EachCycle is some first at m h keeps = tt
  class_spots d class.Once is some first at m h keeps = tt

  pub register_spots : (es : List Decl) → Each (λ d. 1 ≤ d.width) es → (first at m : ℕ)
      → AllAt ps nodes names.list es first at m → AreKeeps ps keep es first
      → Each IsRegisterSpot (all_registers ps keep es first at)
  register_spots [] some first at m h keeps = tt
  register_spots (d ∷ es) some first at m h keeps =
      each_both IsRegisterSpot (registers_in ps keep d d.class first at)
      (all_registers ps keep es (first + length (cells d)) (at + entry_count ps d))
      (class_spots d d.class refl some.0 first at m h.0 keeps.0)
      (register_spots es some.1 (first + length (cells d)) (at + entry_count ps d) (m + memory_count ps d) h.1 keeps.1)

  -- ---- memories

  none_more : (d : Decl) (m : ℕ) (rest : List (Stored × ℕ)) → 0 ≡ memory_count ps d
      → AreMemNames names (m + memory_count ps d) (map (λ x. x.1) rest)
      → AreMemNames names m (map (λ x. x.1) rest)
  none_more d m rest none later =
      let same : m + memory_count ps d ≡ m = omega (arith, none) in
      subst (λ k. AreMemNames names k (map (λ x. x.1) rest)) same later

  class_mems : (d : Decl) (c : Class) → d.class ≡ c → (first at m : ℕ) → HeadAt ps nodes names.list d first at m
      → (rest : List (Stored × ℕ)) → AreMemNames names (m + memory_count ps d) (map (λ x. x.1) rest)
      → IsMemory d.words d → AreMemNames names m (map (λ x. x.1) (memories_in ps keep d c first at ++ rest))
  class_mems d class.Variable is first at m h rest later memory = by (is_memory ps d) refl
    where
      count : (b : Bool) → is_memory ps d ≡ b → memory_count ps d ≡ (if b then 1 else 0)
      count b e =
          ap (λ c. if is_clock_class c then 0 else memories_of ps d) is
          ∙ ap (λ (z : Bool). if z then 1 else 0) e

      by : (b : Bool) → is_memory ps d ≡ b
          → AreMemNames names m (map (λ x. x.1) ((if b then (stored keep d first, at) ∷ [] else []) ++ rest))
      by true e =
          let same : m + memory_count ps d ≡ m + 1 = ap (λ k. m + k) (count true e) in
          let here : at ≡ at + 0 = omega arith in (
            record {
              name = memory_entry d m;
              there =
                  ap (slice_get names.list) here
                  ∙ h (ap is_clock_class is) 0 (memory_entry d m)
                  (ap (λ (b : Bool).
                  slice_get (if b then memory_entry d m ∷ [] else node_entries d nodes first (cells d)) 0) e);
              place = refl;
            },
            subst (λ k. AreMemNames names k (map (λ x. x.1) rest)) same later,
          )
      by false e = none_more d m rest (sym (count false e)) later
  class_mems d class.Clock is first at m h rest later memory =
      none_more d m rest (count_of ps keep d memory first at class.Clock is) later
  class_mems d class.Reset is first at m h rest later memory =
      none_more d m rest (count_of ps keep d memory first at class.Reset is) later
  class_mems d class.Input is first at m h rest later memory =
      none_more d m rest (count_of ps keep d memory first at class.Input is) later
  class_mems d class.Net is first at m h rest later memory =
      none_more d m rest (count_of ps keep d memory first at class.Net is) later
  class_mems d class.EachCycle is first at m h rest later memory =
      none_more d m rest (count_of ps keep d memory first at class.EachCycle is) later
  class_mems d class.Once is first at m h rest later memory =
      none_more d m rest (count_of ps keep d memory first at class.Once is) later

  pub memory_names : (es : List Decl) → Each (λ d. IsMemory d.words d) es → (first at m : ℕ)
      → AllAt ps nodes names.list es first at m
      → AreMemNames names m (map (λ x. x.1) (all_memories ps keep es first at))
  memory_names [] memory first at m h = tt
  memory_names (d ∷ es) memory first at m h =
      class_mems d d.class refl first at m h.0
      (all_memories ps keep es (first + length (cells d)) (at + entry_count ps d))
      (memory_names es memory.1 (first + length (cells d)) (at + entry_count ps d) (m + memory_count ps d) h.1)
      memory.0
