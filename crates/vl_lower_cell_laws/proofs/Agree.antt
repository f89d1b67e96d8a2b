-- The map that entries give is the one that stands in cells and memories.
use Rattle.std.specs.Prelude.{◌≡◌, refl, ℕ, zero, suc, ◌+◌, ◌<◌, List, [], ◌∷◌, ◌++◌, length, Bool, true, false, not}
use Rattle.std.specs.Prelude.{◌&&◌, ◌||◌}
use Rattle.std.specs.Prelude.{None, Some, is_none, if◌then◌else◌, bytes_eq, nat_lt, position, slice_get, slice_index}
use Rattle.std.specs.List.{position_or_len}
use Rattle.std.proofs.Common.{ap, sym, ◌∙◌, arith, cond, subst, true≢false}
use Rattle.std.proofs.lemmas.Bool.Decides.{nat_tests}
use Rattle.std.proofs.lemmas.Slice.Eq.{bytes_eq-Decides}
use Rattle.vl_size.specs.declared.decl.Class.{Class}
use Rattle.vl_size.specs.declared.decl.Class.TheVariants as class
use Rattle.vl_size.specs.declared.decl.Decl.{Decl}
use Rattle.vl_size.specs.Size.{Values}
use Rattle.vl_mean.specs.Cells.{cells, contains_name}
use Rattle.vl_mean.specs.FlatParts.{parts_of}
use Rattle.vl_mean.specs.Parts.{Part}
use Rattle.vl_mean.specs.Runs.{AgreesAt, Each}
use Rattle.vl_mean.specs.Scopes.{is_clock_class}
use Rattle.vl_flow_spec.proofs.Bools.{or_left, or_right}
use Rattle.vl_flow_spec.proofs.Cells.{each_of_contained}
use Rattle.vl_flow_spec.proofs.Choices.{declared_of}
use Rattle.vl_lower_spec.specs.Maps.{map_in, map_of, number_or, place_number}
use Rattle.vl_flow_cells.specs.Numbered.{all_cells}
use Rattle.wn_net.specs.declared.names.NetName.{NetName}
use Rattle.wn_net.specs.declared.names.Place.TheVariants as place
use Rattle.wn_net.specs.Value.{Given, word_at, words_of}
use Rattle.wn_net.specs.Net.{Netlist, value_at}
use Rattle.vl_lower_cell_laws.specs.Entries.{EntriesAgree, MemoriesStand, all_entries, entries_of, is_memory}
use Rattle.vl_lower_cell_laws.specs.Entries.{memories_of}
use Rattle.vl_lower_cell_laws.specs.Entries.{memory_entry, node_entries}

-- ---- where a text stands

first_is : (n t : List ℕ) → bytes_eq n t ≡ true → position (bytes_eq n) (t ∷ []) ≡ Some 0
first_is n t e =
    ap (λ b. cond (nat_lt (cond (not b) (1 + 0) 0) 1) (Some (cond (not b) (1 + 0) 0)) None) e

first_isnt : (n t : List ℕ) → bytes_eq n t ≡ false → position (bytes_eq n) (t ∷ []) ≡ None
first_isnt n t e =
    ap (λ b. cond (nat_lt (cond (not b) (1 + 0) 0) 1) (Some (cond (not b) (1 + 0) 0)) None) e

first_place : (n : List ℕ) (ns : List (List ℕ)) → contains_name ns n ≡ true
    → (j : ℕ) × (position_or_len (bytes_eq n) ns ≡ j) × (j < length ns) × (slice_get ns j ≡ Some n)
first_place n [] h = absurd (true≢false (sym h))
first_place n (m ∷ ns) h = by (bytes_eq n m) refl h (first_place n ns)
  where
    by : (b : Bool) → bytes_eq n m ≡ b → (b || contains_name ns n) ≡ true
        → (contains_name ns n ≡ true
        → (j : ℕ) × (position_or_len (bytes_eq n) ns ≡ j) × (j < length ns) × (slice_get ns j ≡ Some n))
        → (j : ℕ) × (position_or_len (bytes_eq n) (m ∷ ns) ≡ j) × (j < length (m ∷ ns))
        × (slice_get (m ∷ ns) j ≡ Some n)
    by true e t f = (
      zero,
      ap (λ c. cond (not c) (1 + position_or_len (bytes_eq n) ns) 0) e,
      omega arith,
      ap Some (sym ((bytes_eq-Decides n m).0 e)),
    )
    by false e t f =
        let r = f t in
        let next : 1 + r.0 ≡ suc r.0 = omega arith in (
          suc r.0,
          ap (λ c. cond (not c) (1 + position_or_len (bytes_eq n) ns) 0) e ∙ ap (λ k. 1 + k) r.1 ∙ next,
          omega (arith, r.2),
          r.3,
        )

place_is : (n : List ℕ) (ns : List (List ℕ)) → contains_name ns n ≡ true
    → (j : ℕ) × (position (bytes_eq n) ns ≡ Some j) × (slice_get ns j ≡ Some n)
place_is n ns h =
    let r = first_place n ns h in
    let less : nat_lt r.0 (length ns) ≡ true = grind (arith, nat_tests, r.2) in (
      r.0,
      ap (λ k. cond (nat_lt k (length ns)) (Some k) None) r.1 ∙ ap (λ b. cond b (Some r.0) None) less,
      r.3,
    )

no_place : (n : List ℕ) (ns : List (List ℕ)) → contains_name ns n ≡ false → position (bytes_eq n) ns ≡ None
no_place n ns h =
    let all = len_is ns h in
    let none : nat_lt (length ns) (length ns) ≡ false = grind (arith, nat_tests) in
    ap (λ k. cond (nat_lt k (length ns)) (Some k) None) all
    ∙ ap (λ b. cond b (Some (length ns)) None) none
  where
    len_is : (ms : List (List ℕ)) → contains_name ms n ≡ false → position_or_len (bytes_eq n) ms ≡ length ms
    len_is [] g = refl
    len_is (m ∷ ms) g = by (bytes_eq n m) refl g (len_is ms)
      where
        by : (b : Bool) → bytes_eq n m ≡ b → (b || contains_name ms n) ≡ false
            → (contains_name ms n ≡ false → position_or_len (bytes_eq n) ms ≡ length ms)
            → position_or_len (bytes_eq n) (m ∷ ms) ≡ length (m ∷ ms)
        by true e t f = absurd (true≢false t)
        by false e t f =
            let next : 1 + length ms ≡ length (m ∷ ms) = omega arith in
            ap (λ c. cond (not c) (1 + position_or_len (bytes_eq n) ms) 0) e ∙ ap (λ k. 1 + k) (f t) ∙ next

-- a cell of a name that isn't the clock
abbrev has_cell : List Decl → List ℕ → Bool
has_cell [] n = false
has_cell (d ∷ ds) n = (not (is_clock_class d.class) && contains_name (cells d) n) || has_cell ds n

module _ (net : Netlist) (g : Given) (v : Values) (nodes : List ℕ) where
  abbrev Stands : ℕ → List (List ℕ) → Type 0
  Stands first texts =
      (j : ℕ) (n : List ℕ) → slice_get texts j ≡ Some n → v n ≡ value_at net g (slice_index nodes (first + j))

  behind : (first : ℕ) (t : List ℕ) (ts : List (List ℕ)) → Stands first (t ∷ ts) → Stands (first + 1) ts
  behind first t ts h j n e =
      let same : first + suc j ≡ first + 1 + j = omega arith in
      h (suc j) n e ∙ ap (λ k. value_at net g (slice_index nodes k)) same

  -- a text of node entries
  node_there : (d : Decl) (first : ℕ) (texts : List (List ℕ)) (rest : List NetName) (n : List ℕ) → Stands first texts
      → contains_name texts n ≡ true → map_in net g (node_entries d nodes first texts ++ rest) n ≡ v n
  node_there d first [] rest n h t = absurd (true≢false (sym t))
  node_there d first (m ∷ ms) rest n h t =
      by (bytes_eq n m) refl t (node_there d (first + 1) ms rest n (behind first m ms h))
    where
      by : (b : Bool) → bytes_eq n m ≡ b → (b || contains_name ms n) ≡ true
          → (contains_name ms n ≡ true → map_in net g (node_entries d nodes (first + 1) ms ++ rest) n ≡ v n)
          → map_in net g (node_entries d nodes first (m ∷ ms) ++ rest) n ≡ v n
      by true e f ih =
          let same : first + 0 ≡ first = omega arith in
          ap (λ o. number_or o (place_number net g (place.Node (slice_index nodes first)))
          (map_in net g (node_entries d nodes (first + 1) ms ++ rest) n)) (first_is n m e)
          ∙ ap (λ k. value_at net g (slice_index nodes k)) (sym same)
          ∙ sym (h zero n (ap Some (sym ((bytes_eq-Decides n m).0 e))))
      by false e f ih =
          ap (λ o. number_or o (place_number net g (place.Node (slice_index nodes first)))
          (map_in net g (node_entries d nodes (first + 1) ms ++ rest) n)) (first_isnt n m e)
          ∙ ih f

  -- no text of theirs
  node_missing : (d : Decl) (first : ℕ) (texts : List (List ℕ)) (rest : List NetName) (n : List ℕ)
      → contains_name texts n ≡ false → map_in net g (node_entries d nodes first texts ++ rest) n ≡ map_in net g rest n
  node_missing d first [] rest n t = refl
  node_missing d first (m ∷ ms) rest n t =
      by (bytes_eq n m) refl t (node_missing d (first + 1) ms rest n)
    where
      by : (b : Bool) → bytes_eq n m ≡ b → (b || contains_name ms n) ≡ false
          → (contains_name ms n ≡ false
          → map_in net g (node_entries d nodes (first + 1) ms ++ rest) n ≡ map_in net g rest n)
          → map_in net g (node_entries d nodes first (m ∷ ms) ++ rest) n ≡ map_in net g rest n
      by true e f ih = absurd (true≢false f)
      by false e f ih =
          ap (λ o. number_or o (place_number net g (place.Node (slice_index nodes first)))
          (map_in net g (node_entries d nodes (first + 1) ms ++ rest) n)) (first_isnt n m e)
          ∙ ih f

  module _ (ps : List Part) where
    abbrev MemoryStands : Decl → ℕ → Type 0
    MemoryStands d m =
        is_memory ps d ≡ true → (j : ℕ) (n : List ℕ) → slice_get (cells d) j ≡ Some n → v n ≡ word_at (words_of g m) j

    name_there : (d : Decl) (first m : ℕ) (rest : List NetName) (n : List ℕ) → Stands first (cells d) → MemoryStands d m
        → contains_name (cells d) n ≡ true → map_in net g (entries_of ps d nodes first m ++ rest) n ≡ v n
    name_there d first m rest n h words t = by (is_memory ps d) refl
      where
        by : (b : Bool) → is_memory ps d ≡ b
            → map_in net g ((if b then memory_entry d m ∷ [] else node_entries d nodes first (cells d)) ++ rest) n ≡ v n
        by true e =
            let r = place_is n (cells d) t in
            ap (λ o. number_or o (place_number net g (place.Mem m)) (map_in net g rest n)) r.1
            ∙ sym (words e r.0 n r.2)
        by false e = node_there d first (cells d) rest n h t

    name_missing : (d : Decl) (first m : ℕ) (rest : List NetName) (n : List ℕ) → contains_name (cells d) n ≡ false
        → map_in net g (entries_of ps d nodes first m ++ rest) n ≡ map_in net g rest n
    name_missing d first m rest n t = by (is_memory ps d)
      where
        by : (b : Bool)
            → map_in net g ((if b then memory_entry d m ∷ [] else node_entries d nodes first (cells d)) ++ rest) n
            ≡ map_in net g rest n
        by true =
            ap (λ o. number_or o (place_number net g (place.Mem m)) (map_in net g rest n)) (no_place n (cells d) t)
        by false = node_missing d first (cells d) rest n t

    agree_in : (ds : List Decl) (first m : ℕ) → Stands first (all_cells ds) → MemoriesStand ps g v ds m → (n : List ℕ)
        → has_cell ds n ≡ true → map_in net g (all_entries ps ds nodes first m) n ≡ v n
    agree_in [] first m h words n t = absurd (true≢false (sym t))
    agree_in (d ∷ ds) first m h words n t =
        by (is_clock_class d.class) (contains_name (cells d) n) refl t words.1
        (λ k. agree_in ds (first + length (cells d)) k (λ j x e.
        let same : first + (length (cells d) + j) ≡ first + length (cells d) + j = omega arith in
        h (length (cells d) + j) x (further (cells d) (all_cells ds) j ∙ e)
        ∙ ap (λ i. value_at net g (slice_index nodes i)) same))
      where
        further : (xs ys : List (List ℕ)) (j : ℕ) → slice_get (xs ++ ys) (length xs + j) ≡ slice_get ys j
        further [] ys j = let same : 0 + j ≡ j = omega arith in ap (slice_get ys) same
        further (x ∷ xs) ys j =
            let same : suc (length xs) + j ≡ suc (length xs + j) = omega arith in
            ap (slice_get (x ∷ xs ++ ys)) same ∙ further xs ys j

        within : (xs ys : List (List ℕ)) (j : ℕ) (x : List ℕ) → slice_get xs j ≡ Some x
            → slice_get (xs ++ ys) j ≡ Some x
        within [] ys j x e = absurd (true≢false (ap is_none e))
        within (y ∷ xs) ys zero x e = e
        within (y ∷ xs) ys (suc j) x e = within xs ys j x e

        by : (c b : Bool) → contains_name (cells d) n ≡ b → ((not c && b) || has_cell ds n) ≡ true
            → MemoriesStand ps g v ds (m + (if c then 0 else memories_of ps d))
            → ((k : ℕ) → MemoriesStand ps g v ds k → (x : List ℕ) → has_cell ds x ≡ true
            → map_in net g (all_entries ps ds nodes (first + length (cells d)) k) x ≡ v x)
            → map_in net g (if c then all_entries ps ds nodes (first + length (cells d)) m
            else entries_of ps d nodes first m
            ++ all_entries ps ds nodes (first + length (cells d)) (m + memories_of ps d)) n ≡ v n
        by true b e f later ih =
            let same : m + 0 ≡ m = omega arith in ih m (subst (MemoriesStand ps g v ds) same later) n f
        by false true e f later ih =
            name_there d first m (all_entries ps ds nodes (first + length (cells d)) (m + memories_of ps d)) n
            (λ j x at. h j x (within (cells d) (all_cells ds) j x at)) words.0 e
        by false false e f later ih =
            name_missing d first m (all_entries ps ds nodes (first + length (cells d)) (m + memories_of ps d)) n e
            ∙ ih (m + memories_of ps d) later n f

in_all : (P : List ℕ → Type 0) (ds : List Decl)
    → ((n : List ℕ) → has_cell ds n ≡ true → P n)
    → Each (λ d. is_clock_class d.class ≡ false → Each P (cells d)) ds
in_all P [] h = tt
in_all P (d ∷ ds) h = (
  λ counted. each_of_contained P (cells d) (λ n c. h n
      (or_left (not (is_clock_class d.class) && contains_name (cells d) n) (has_cell ds n)
      ((λ i. not (counted i) && c i)))),
  in_all P ds (λ n t. h n (or_right (not (is_clock_class d.class) && contains_name (cells d) n) (has_cell ds n) t)),
)

agrees_class : (u v : Values) (d : Decl) (c : Class) → (is_clock_class c ≡ false → Each (λ n. u n ≡ v n) (cells d))
    → AgreesAt u v d c
agrees_class u v d class.Clock h = tt
agrees_class u v d class.Reset h = h refl
agrees_class u v d class.Input h = h refl
agrees_class u v d class.Net h = h refl
agrees_class u v d class.Variable h = h refl
agrees_class u v d class.EachCycle h = h refl
agrees_class u v d class.Once h = h refl

agrees_each : (u v : Values) (ds : List Decl)
    → Each (λ d. is_clock_class d.class ≡ false → Each (λ n. u n ≡ v n) (cells d)) ds
    → Each (λ d. AgreesAt u v d d.class) ds
agrees_each u v [] h = tt
agrees_each u v (d ∷ ds) h = (agrees_class u v d d.class h.0, agrees_each u v ds h.1)

pub agree : EntriesAgree
agree ds drivers firsts nodes net names g v list h words =
    let ps = parts_of ds drivers firsts in
    let u : Values = map_of net names g in
    declared_of (λ d. AgreesAt u v d d.class) ds drivers firsts
    (agrees_each u v ds
    (in_all (λ n. u n ≡ v n) ds (λ n t.
    ap (λ xs. map_in net g xs n) list
    ∙ agree_in net g v nodes ps ds 0 0
    (λ j x e. let same : 0 + j ≡ j = omega arith in
    h j x e ∙ ap (λ k. value_at net g (slice_index nodes k)) (sym same)) words n t)))
