-- Where the entries of each name stand among the names of a net.
use Rattle.std.specs.Prelude.{◌≡◌, refl, ℕ, zero, suc, ◌+◌, List, [], ◌∷◌, ◌++◌, length, Bool, true, false, Some}
use Rattle.std.specs.Prelude.{is_none}
use Rattle.std.specs.Prelude.{if◌then◌else◌, slice_get, slice_index}
use Rattle.std.proofs.Common.{ap, sym, ◌∙◌, arith, subst, true≢false}
use Rattle.std.proofs.lemmas.Option.{same_Some}
use Rattle.vl_size.specs.declared.decl.Decl.{Decl}
use Rattle.vl_mean.specs.Cells.{cells}
use Rattle.vl_mean.specs.Parts.{Part}
use Rattle.vl_mean.specs.Scopes.{is_clock_class}
use Rattle.vl_lower_spec.specs.Maps.{cells_named, text_of}
use Rattle.wn_net.specs.declared.names.NetName.{NetName}
use Rattle.vl_lower_cell_laws.specs.Entries.{all_entries, entries_of, is_memory, memories_of, memory_entry}
use Rattle.vl_lower_cell_laws.specs.Entries.{node_entries}
use Rattle.vl_lower_cell_laws.specs.Entries.{node_entry}
use Rattle.vl_lower_cell_laws.specs.Listing.{entry_count, memory_count}
use Rattle.vl_lower_cell_laws.proofs.SourcesLists.{further, within}

module _ (ps : List Part) (nodes : List ℕ) (list : List NetName) where
  -- those of a name stand from a place on
  abbrev pub HeadAt : Decl → ℕ → ℕ → ℕ → Type 0
  HeadAt d first at m =
      is_clock_class d.class ≡ false → (j : ℕ) (x : NetName)
      → slice_get (entries_of ps d nodes first m) j ≡ Some x → slice_get list (at + j) ≡ Some x

  abbrev pub AllAt : List Decl → ℕ → ℕ → ℕ → Type 0
  AllAt [] first at m = Unit {0}
  AllAt (d ∷ ds) first at m =
      HeadAt d first at m × AllAt ds (first + length (cells d)) (at + entry_count ps d) (m + memory_count ps d)

  nodes_many : (d : Decl) (first : ℕ) (texts : List (List ℕ))
      → length (node_entries d nodes first texts) ≡ length texts
  nodes_many d first [] = refl
  nodes_many d first (t ∷ ts) = ap suc (nodes_many d (first + 1) ts)

  entries_many : (d : Decl) (first m : ℕ)
      → length (entries_of ps d nodes first m) ≡ (if is_memory ps d then 1 else length (cells d))
  entries_many d first m = by (is_memory ps d)
    where
      by : (b : Bool)
          → length (if b then memory_entry d m ∷ [] else node_entries d nodes first (cells d))
          ≡ (if b then 1 else length (cells d))
      by true = refl
      by false = nodes_many d first (cells d)

  pub all_at : (ds : List Decl) (first at m : ℕ)
      → ((j : ℕ) (x : NetName) → slice_get (all_entries ps ds nodes first m) j ≡ Some x
      → slice_get list (at + j) ≡ Some x)
      → AllAt ds first at m
  all_at [] first at m h = tt
  all_at (d ∷ ds) first at m h = by (is_clock_class d.class) refl h (all_at ds (first + length (cells d)))
    where
      by : (b : Bool) → is_clock_class d.class ≡ b
          → ((j : ℕ) (x : NetName)
          → slice_get (if b then all_entries ps ds nodes (first + length (cells d)) m
          else entries_of ps d nodes first m
          ++ all_entries ps ds nodes (first + length (cells d)) (m + memories_of ps d)) j ≡ Some x
          → slice_get list (at + j) ≡ Some x)
          → ((a k : ℕ) → ((j : ℕ) (x : NetName)
          → slice_get (all_entries ps ds nodes (first + length (cells d)) k) j ≡ Some x
          → slice_get list (a + j) ≡ Some x)
          → AllAt ds (first + length (cells d)) a k)
          → HeadAt d first at m
          × AllAt ds (first + length (cells d))
          (at + (if b then 0 else (if is_memory ps d then 1 else length (cells d))))
          (m + (if b then 0 else memories_of ps d))
      by true e g f =
          let same_at : at ≡ at + 0 = omega arith in
          let same_m : m ≡ m + 0 = omega arith in (
            λ c. absurd (true≢false (sym e ∙ c)),
            subst (λ k. AllAt ds (first + length (cells d)) k (m + 0)) same_at
                (subst (λ k. AllAt ds (first + length (cells d)) at k) same_m (f at m g)),
          )
      by false e g f =
          let own : List NetName = entries_of ps d nodes first m in
          let rest : List NetName =
          all_entries ps ds nodes (first + length (cells d)) (m + memories_of ps d) in
          let count : ℕ = if is_memory ps d then 1 else length (cells d) in (
            λ c j x s. g j x (within own rest j x s),
            f (at + count) (m + memories_of ps d) (λ j x s.
                let many : length own ≡ count = entries_many d first m in
                let same : at + count + j ≡ at + (length own + j) = omega (arith, many) in
                ap (slice_get list) same ∙ g (length own + j) x (further own rest j ∙ s)),
          )

  node_text : (d : Decl) (first : ℕ) (texts : List (List ℕ)) (j : ℕ) (n : List ℕ) → slice_get texts j ≡ Some n
      → (x : NetName) × (slice_get (node_entries d nodes first texts) j ≡ Some x) × (x.text ≡ n)
  node_text d first [] j n e = absurd (true≢false (ap is_none e))
  node_text d first (t ∷ ts) zero n e = (node_entry d t (slice_index nodes first), refl, same_Some t n e)
  node_text d first (t ∷ ts) (suc j) n e = node_text d (first + 1) ts j n e

  -- a name's own texts, and the words of what is kept as a memory
  pub text_there : (d : Decl) (first at m : ℕ) → HeadAt d first at m → is_clock_class d.class ≡ false
      → is_memory ps d ≡ false → (j : ℕ) (n : List ℕ) → slice_get (cells d) j ≡ Some n
      → text_of (slice_get list (at + j)) ≡ n
  text_there d first at m h c e j n s =
      let r = node_text d first (cells d) j n s in
      let there : slice_get (entries_of ps d nodes first m) j ≡ Some r.0 =
      ap (λ (b : Bool).
      slice_get (if b then memory_entry d m ∷ [] else node_entries d nodes first (cells d)) j) e
      ∙ r.1 in
      ap text_of (h c j r.0 there) ∙ r.2

  pub memory_there : (d : Decl) (first at m : ℕ) → HeadAt d first at m → is_clock_class d.class ≡ false
      → is_memory ps d ≡ true → cells_named (slice_get list at) ≡ cells d
  memory_there d first at m h c e =
      let there : slice_get (entries_of ps d nodes first m) 0 ≡ Some (memory_entry d m) =
      ap (λ (b : Bool).
      slice_get (if b then memory_entry d m ∷ [] else node_entries d nodes first (cells d)) 0) e in
      let same : at ≡ at + 0 = omega arith in
      ap cells_named (ap (slice_get list) same ∙ h c 0 (memory_entry d m) there)
