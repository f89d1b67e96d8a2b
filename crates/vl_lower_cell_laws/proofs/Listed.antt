-- Entries are one for each listed name.
use Rattle.std.specs.Prelude.{◌≡◌, refl, ℕ, ◌+◌, List, [], ◌∷◌, ◌++◌, length, Bool, true, false, not, ◌&&◌, Option}
use Rattle.std.specs.Prelude.{None, Some}
use Rattle.std.specs.Prelude.{is_none, if◌then◌else◌, ℤ}
use Rattle.std.proofs.Common.{ap, sym, subst}
use Rattle.vl_size.specs.declared.decl.Decl.{Decl}
use Rattle.vl_mean.specs.declared.driver.Driver.{Driver}
use Rattle.vl_mean.specs.declared.driver.DriverKind.{DriverKind}
use Rattle.vl_mean.specs.declared.driver.DriverKind.TheVariants as k
use Rattle.vl_mean.specs.declared.driver.Start.{Start}
use Rattle.vl_mean.specs.Cells.{cells, cells_of}
use Rattle.vl_mean.specs.FlatLaw.{flat_scopes}
use Rattle.vl_mean.specs.FlatParts.{driver_part, parts_of}
use Rattle.vl_mean.specs.Parts.{Part}
use Rattle.vl_mean.specs.Scopes.{is_clock_class}
use Rattle.vl_flow_spec.proofs.Elements.{decl_parts, driver_parts, start_parts}
use Rattle.vl_lower_spec.specs.Maps.{AreEntriesOf, as_vectors, is_split, listed_in, listed_of}
use Rattle.wn_net.specs.declared.names.NetName.{NetName}
use Rattle.vl_lower_cell_laws.specs.Entries.{EntriesAreListed, all_entries, entries_of, memories_of, memory_entry}
use Rattle.vl_lower_cell_laws.specs.Entries.{node_entries}

entries_both : (ds es : List Decl) (xs ys : List NetName) → AreEntriesOf ds xs → AreEntriesOf es ys
    → AreEntriesOf (ds ++ es) (xs ++ ys)
entries_both [] es [] ys h g = g
entries_both [] es (x ∷ xs) ys h g = absurd h
entries_both (d ∷ ds) es [] ys h g = absurd h
entries_both (d ∷ ds) es (x ∷ xs) ys h g = (h.0, entries_both ds es xs ys h.1 g)

of_words : (d : Decl) (nodes : List ℕ) (first : ℕ) (texts : List (List ℕ))
    → AreEntriesOf (as_vectors d texts) (node_entries d nodes first texts)
of_words d nodes first [] = tt
of_words d nodes first (text ∷ texts) =
    (record { text = refl; width = refl; output = refl; words = refl }, of_words d nodes (first + 1) texts)

name_by : (d : Decl) (nodes : List ℕ) (first m : ℕ) (b : Bool) (w : Option (ℤ × ℤ)) → d.words ≡ w
    → AreEntriesOf (if b then as_vectors d (cells d) else d ∷ [])
    (if not (is_none w) && not b then memory_entry d m ∷ [] else node_entries d nodes first (cells d))
name_by d nodes first m true None e = of_words d nodes first (cells d)
name_by d nodes first m true (Some x) e = of_words d nodes first (cells d)
name_by d nodes first m false None e =
    subst (λ o. AreEntriesOf (d ∷ []) (node_entries d nodes first (cells_of d.name o))) (sym e)
    (record { text = refl; width = refl; output = refl; words = sym e }, tt)
name_by d nodes first m false (Some x) e = (record { text = refl; width = refl; output = refl; words = refl }, tt)

module _ (ps : List Part) (nodes : List ℕ) where
  of_name : (d : Decl) (first m : ℕ) → AreEntriesOf (listed_of ps d) (entries_of ps d nodes first m)
  of_name d first m = name_by d nodes first m (is_split ps d) d.words refl

  all_listed : (rest : List Part) → listed_in ps rest ≡ [] → (ds : List Decl) (first m : ℕ)
      → AreEntriesOf (listed_in ps (decl_parts ds ++ rest)) (all_entries ps ds nodes first m)
  all_listed rest none [] first m = subst (λ zs. AreEntriesOf zs []) (sym none) tt
  all_listed rest none (d ∷ ds) first m =
      by (is_clock_class d.class) (λ n. all_listed rest none ds (first + length (cells d)) n)
    where
      by : (b : Bool)
          → ((n : ℕ) → AreEntriesOf (listed_in ps (decl_parts ds ++ rest))
          (all_entries ps ds nodes (first + length (cells d)) n))
          → AreEntriesOf
          (if b then listed_in ps (decl_parts ds ++ rest) else listed_of ps d ++ listed_in ps (decl_parts ds ++ rest))
          (if b then all_entries ps ds nodes (first + length (cells d)) m else entries_of ps d nodes first m
          ++ all_entries ps ds nodes (first + length (cells d)) (m + memories_of ps d))
      by true f = f m
      by false f =
          entries_both (listed_of ps d) (listed_in ps (decl_parts ds ++ rest)) (entries_of ps d nodes first m)
          (all_entries ps ds nodes (first + length (cells d)) (m + memories_of ps d)) (of_name d first m)
          (f (m + memories_of ps d))

  no_starts : (ds : List Decl) (xs : List Start) → listed_in ps (start_parts (flat_scopes ds) xs) ≡ []
  no_starts ds [] = refl
  no_starts ds (x ∷ xs) = no_starts ds xs

  no_drivers : (ds : List Decl) (xs : List Driver) (qs : List Part) → listed_in ps qs ≡ []
      → listed_in ps (driver_parts (flat_scopes ds) xs ++ qs) ≡ []
  no_drivers ds [] qs e = e
  no_drivers ds (x ∷ xs) qs e = by x.what (no_drivers ds xs qs e)
    where
      by : (y : DriverKind) → listed_in ps (driver_parts (flat_scopes ds) xs ++ qs) ≡ []
          → listed_in ps (driver_part (flat_scopes ds) y ∷ (driver_parts (flat_scopes ds) xs ++ qs)) ≡ []
      by (k.Assign l f) h = h
      by (k.Comb z) h = h
      by (k.Clocked z) h = h

grouped : (ps qs rs : List Part) → (ps ++ qs) ++ rs ≡ ps ++ (qs ++ rs)
grouped [] qs rs = refl
grouped (p ∷ ps) qs rs = ap (λ zs. p ∷ zs) (grouped ps qs rs)

pub are_listed : EntriesAreListed
are_listed ds drivers firsts nodes =
    let ps = parts_of ds drivers firsts in
    let behind : List Part = driver_parts (flat_scopes ds) drivers ++ start_parts (flat_scopes ds) firsts in
    subst (λ zs. AreEntriesOf (listed_in ps zs) (all_entries ps ds nodes 0 0))
    (sym (grouped (decl_parts ds) (driver_parts (flat_scopes ds) drivers) (start_parts (flat_scopes ds) firsts)))
    (all_listed ps nodes behind
    (no_drivers ps nodes ds drivers (start_parts (flat_scopes ds) firsts) (no_starts ps nodes ds firsts)) ds 0 0)
