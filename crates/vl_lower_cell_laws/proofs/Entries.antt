-- What each entry of a net's names is: at the node of a cell, or a memory of the net.
use Rattle.std.specs.Prelude.{◌≡◌, refl, ℕ, zero, suc, ◌+◌, List, [], ◌∷◌, ◌++◌, length, map, Bool, true, false, None}
use Rattle.std.specs.Prelude.{All, Some, is_none, if◌then◌else◌, slice_get, slice_index}
use Rattle.std.proofs.Common.{ap, sym, ◌∙◌, arith, subst, true≢false, ◌⊎◌, inl, inr}
use Rattle.std.proofs.lemmas.List.{length-map}
use Rattle.std.proofs.lemmas.List.Elements.{All-head, All-tail}
use Rattle.std.proofs.lemmas.Option.{same_Some}
use Rattle.vl_size.specs.declared.decl.Class.TheVariants as class
use Rattle.vl_size.specs.declared.decl.Decl.{Decl}
use Rattle.vl_mean.specs.Cells.{cells}
use Rattle.vl_mean.specs.FlatLaw.{IsKept, IsMemory}
use Rattle.vl_mean.specs.Parts.{Part}
use Rattle.vl_mean.specs.Scopes.{is_clock_class}
use Rattle.vl_flow_cells.specs.Numbered.{all_cells}
use Rattle.vl_flow_cells.proofs.Lists.{get_either, get_left, get_right}
use Rattle.wn_net.specs.declared.names.NetName.{NetName}
use Rattle.wn_net.specs.declared.names.Place.TheVariants as place
use Rattle.vl_lower_assign.specs.Frames.{cell_widths}
use Rattle.vl_lower_spec.proofs.Kept.{variable_is}
use Rattle.vl_lower_cell_laws.specs.Entries.{all_entries, entries_of, is_memory, memories_of, memory_entry}
use Rattle.vl_lower_cell_laws.specs.Entries.{node_entries}
use Rattle.vl_lower_cell_laws.specs.Entries.{node_entry}
use Rattle.vl_lower_cell_laws.specs.Listing.{Keeping, Stored, all_memories, entry_count, memories_in, memory_count}
use Rattle.vl_lower_cell_laws.specs.Listing.{stored}
use Rattle.vl_lower_cell_laws.proofs.SourcesLists.{map_get}
use Rattle.vl_lower_cell_laws.proofs.ShownCounted.{memories_many, memory_is_variable}

module _ (ps : List Part) (nodes : List ℕ) where
  -- at the node of a cell, from a cell on
  pub record AtCell (ds : List Decl) (first : ℕ) (x : NetName) : Type 0 where
    pub cell : ℕ
    pub named : slice_get (all_cells ds) cell ≡ Some x.text
    pub width : slice_get (cell_widths ds) cell ≡ Some x.width
    pub stands : x.place ≡ place.Node (slice_index nodes (first + cell))
    pub vector : x.words ≡ None

  -- one of the memories, from one on
  pub record AtMemory (keep : Keeping) (ds : List Decl) (first at m : ℕ) (x : NetName) : Type 0 where
    pub decl : Decl
    pub index : ℕ
    pub there : slice_get ds index ≡ Some decl
    pub memory : is_memory ps decl ≡ true
    pub number : ℕ
    pub is : x ≡ memory_entry decl (m + number)
    pub listed : Stored × ℕ
    pub among : slice_get (all_memories ps keep ds first at) number ≡ Some listed
    pub width : listed.0.width ≡ decl.width
    pub words : listed.0.words ≡ length (cells decl)

  -- ---- the entries of one name

  pub of_node : (d : Decl) (first : ℕ) (texts : List (List ℕ)) (j : ℕ) (x : NetName)
      → slice_get (node_entries d nodes first texts) j ≡ Some x
      → (n : List ℕ) × (slice_get texts j ≡ Some n) × (x ≡ node_entry d n (slice_index nodes (first + j)))
  of_node d first [] j x e = absurd (true≢false (ap is_none e))
  of_node d first (t ∷ ts) zero x e =
      let same : first ≡ first + 0 = omega arith in (
        t,
        refl,
        sym (same_Some (node_entry d t (slice_index nodes first)) x e)
            ∙ ap (λ k. node_entry d t (slice_index nodes k)) same,
      )
  of_node d first (t ∷ ts) (suc j) x e =
      let r = of_node d (first + 1) ts j x e in
      let same : first + 1 + j ≡ first + suc j = omega arith in
      (r.0, r.1, r.2 ∙ ap (λ k. node_entry d r.0 (slice_index nodes k)) same)

  pub node_there : (d : Decl) (first : ℕ) (texts : List (List ℕ)) (j : ℕ) (n : List ℕ) → slice_get texts j ≡ Some n
      → slice_get (node_entries d nodes first texts) j ≡ Some (node_entry d n (slice_index nodes (first + j)))
  node_there d first [] j n e = absurd (true≢false (ap is_none e))
  node_there d first (t ∷ ts) zero n e =
      let same : first ≡ first + 0 = omega arith in
      ap (λ m. Some (node_entry d m (slice_index nodes first))) (same_Some t n e)
      ∙ ap (λ k. Some (node_entry d n (slice_index nodes k))) same
  node_there d first (t ∷ ts) (suc j) n e =
      let same : first + 1 + j ≡ first + suc j = omega arith in
      node_there d (first + 1) ts j n e ∙ ap (λ k. Some (node_entry d n (slice_index nodes k))) same

  cell_here : (d : Decl) (ds : List Decl) (first j : ℕ) (n : List ℕ) (x : NetName) → slice_get (cells d) j ≡ Some n
      → x ≡ node_entry d n (slice_index nodes (first + j)) → AtCell (d ∷ ds) first x
  cell_here d ds first j n x e is = record {
    cell = j;
    named = get_left (cells d) (all_cells ds) j n e ∙ ap (λ y. Some y.text) (sym is);
    width =
        get_left (map (λ (t : List ℕ). d.width) (cells d)) (cell_widths ds) j d.width
        (map_get (λ (t : List ℕ). d.width) (cells d) j n e)
        ∙ ap (λ y. Some y.width) (sym is);
    stands = ap (λ y. y.place) is;
    vector = ap (λ y. y.words) is;
  }

  cell_later : (d : Decl) (ds : List Decl) (first : ℕ) (x : NetName) → AtCell ds (first + length (cells d)) x
      → AtCell (d ∷ ds) first x
  cell_later d ds first x h =
      let many : length (map (λ (t : List ℕ). d.width) (cells d)) ≡ length (cells d) =
      length-map (cells d) (λ (t : List ℕ). d.width) in
      let same : first + length (cells d) + h.cell ≡ first + (length (cells d) + h.cell) = omega arith in
      record {
        cell = length (cells d) + h.cell;
        named = get_right (cells d) (all_cells ds) h.cell (length (cells d) + h.cell) refl ∙ h.named;
        width =
            get_right (map (λ (t : List ℕ). d.width) (cells d)) (cell_widths ds) h.cell (length (cells d) + h.cell)
            (ap (λ k. k + h.cell) (sym many))
            ∙ h.width;
        stands = h.stands ∙ ap (λ k. place.Node (slice_index nodes k)) same;
        vector = h.vector;
      }

  module _ (keep : Keeping) where
    memory_here : (d : Decl) (ds : List Decl) (first at m : ℕ) (x : NetName) → IsMemory d.words d
        → is_memory ps d ≡ true → x ≡ memory_entry d m → AtMemory keep (d ∷ ds) first at m x
    memory_here d ds first at m x kept e is =
        let same : m ≡ m + 0 = omega arith in record {
          decl = d;
          index = 0;
          there = refl;
          memory = e;
          number = 0;
          is = is ∙ ap (memory_entry d) same;
          listed = (stored keep d first, at);
          among =
              ap (λ c. slice_get (memories_in ps keep d c first at ++ rest) 0) class_is
              ∙ ap (λ (b : Bool). slice_get ((if b then (stored keep d first, at) ∷ [] else []) ++ rest) 0) e;
          width = refl;
          words = refl;
        }
      where
        rest : List (Stored × ℕ)
        rest = all_memories ps keep ds (first + length (cells d)) (at + entry_count ps d)

        class_is : d.class ≡ class.Variable
        class_is = variable_is d d.class refl (memory_is_variable ps d kept e)

    memory_later : (d : Decl) (ds : List Decl) (first at m : ℕ) (x : NetName) → IsMemory d.words d
        → AtMemory keep ds (first + length (cells d)) (at + entry_count ps d) (m + memory_count ps d) x
        → AtMemory keep (d ∷ ds) first at m x
    memory_later d ds first at m x kept h =
        let same : m + memory_count ps d + h.number ≡ m + (memory_count ps d + h.number) = omega arith in
        record {
          decl = h.decl;
          index = suc h.index;
          there = h.there;
          memory = h.memory;
          number = memory_count ps d + h.number;
          is = h.is ∙ ap (memory_entry h.decl) same;
          listed = h.listed;
          among =
              get_right (memories_in ps keep d d.class first at)
              (all_memories ps keep ds (first + length (cells d)) (at + entry_count ps d)) h.number
              (memory_count ps d + h.number)
              (ap (λ k. k + h.number) (sym (memories_many ps keep d kept first at)))
              ∙ h.among;
          width = h.width;
          words = h.words;
        }

    -- ---- those of all

    pub entries_are : (ds : List Decl) → All IsKept ds → (first at m j : ℕ) (x : NetName)
        → slice_get (all_entries ps ds nodes first m) j ≡ Some x
        → AtCell ds first x ⊎ AtMemory keep ds first at m x
    entries_are [] kept first at m j x e = absurd (true≢false (ap is_none e))
    entries_are (d ∷ ds) kept first at m j x e =
        by (is_clock_class d.class) refl e (λ k i f. entries_are ds (All-tail IsKept d ds kept)
        (first + length (cells d)) (at + entry_count ps d) k i x f)
      where
        own : IsMemory d.words d
        own = (All-head IsKept d ds kept).memory

        Later : ℕ → Type 0
        Later k =
            AtCell ds (first + length (cells d)) x
            ⊎ AtMemory keep ds (first + length (cells d)) (at + entry_count ps d) k x

        behind : Later (m + memory_count ps d) → AtCell (d ∷ ds) first x ⊎ AtMemory keep (d ∷ ds) first at m x
        behind (inl h) = inl (cell_later d ds first x h)
        behind (inr h) = inr (memory_later d ds first at m x own h)

        here : (i : ℕ) → slice_get (entries_of ps d nodes first m) i ≡ Some x
            → AtCell (d ∷ ds) first x ⊎ AtMemory keep (d ∷ ds) first at m x
        here i f = of (is_memory ps d) refl f
          where
            one : (k : ℕ) → slice_get (memory_entry d m ∷ []) k ≡ Some x → x ≡ memory_entry d m
            one zero g = sym (same_Some (memory_entry d m) x g)
            one (suc k) g = absurd (true≢false (ap is_none g))

            of : (b : Bool) → is_memory ps d ≡ b
                → slice_get (if b then memory_entry d m ∷ [] else node_entries d nodes first (cells d)) i ≡ Some x
                → AtCell (d ∷ ds) first x ⊎ AtMemory keep (d ∷ ds) first at m x
            of true is g = inr (memory_here d ds first at m x own is (one i g))
            of false is g =
                let r = of_node d first (cells d) i x g in inl (cell_here d ds first i r.0 x r.1 r.2)

        by : (b : Bool) → is_clock_class d.class ≡ b
            → slice_get (if b then all_entries ps ds nodes (first + length (cells d)) m
            else entries_of ps d nodes first m
            ++ all_entries ps ds nodes (first + length (cells d)) (m + memories_of ps d)) j ≡ Some x
            → ((k i : ℕ) → slice_get (all_entries ps ds nodes (first + length (cells d)) k) i ≡ Some x → Later k)
            → AtCell (d ∷ ds) first x ⊎ AtMemory keep (d ∷ ds) first at m x
        by true c f ih =
            let none : memory_count ps d ≡ 0 = ap (λ (b : Bool). if b then 0 else memories_of ps d) c in
            let same : m ≡ m + memory_count ps d = omega (arith, none) in behind (subst Later same (ih m j f))
        by false c f ih =
            let some : memories_of ps d ≡ memory_count ps d =
            sym (ap (λ (b : Bool). if b then 0 else memories_of ps d) c) in
            either (get_either (entries_of ps d nodes first m)
            (all_entries ps ds nodes (first + length (cells d)) (m + memories_of ps d)) j x f) some
          where
            either : (slice_get (entries_of ps d nodes first m) j ≡ Some x)
                ⊎ ((i : ℕ) × (j ≡ length (entries_of ps d nodes first m) + i)
                × (slice_get (all_entries ps ds nodes (first + length (cells d)) (m + memories_of ps d)) i ≡ Some x))
                → memories_of ps d ≡ memory_count ps d
                → AtCell (d ∷ ds) first x ⊎ AtMemory keep (d ∷ ds) first at m x
            either (inl g) some = here j g
            either (inr g) some =
                behind (subst (λ k. Later (m + k)) some (ih (m + memories_of ps d) g.0 g.2))
