-- Masks that show the bits which combinational blocks assign count the bits of registers.
use Rattle.std.specs.Prelude.{◌≡◌, refl, ℕ, zero, suc, ◌+◌, List, [], ◌∷◌, ◌++◌, length, map, take, drop}
use Rattle.std.specs.Prelude.{Some, slice_get, slice_index, if◌then◌else◌}
use Rattle.std.proofs.Common.{ap, sym, ◌∙◌, arith}
use Rattle.fv_bit_sets.specs.Cells.{is_set}
use Rattle.vl_size.specs.declared.decl.Class.{Class}
use Rattle.vl_size.specs.declared.decl.Class.TheVariants as class
use Rattle.vl_size.specs.declared.decl.Decl.{Decl}
use Rattle.vl_mean.specs.declared.driver.Driver.{Driver}
use Rattle.vl_mean.specs.declared.driver.DriverKind.{DriverKind}
use Rattle.vl_mean.specs.declared.driver.DriverKind.TheVariants as k
use Rattle.vl_mean.specs.declared.driver.Start.{Start}
use Rattle.vl_mean.specs.Cells.{cells}
use Rattle.vl_mean.specs.FlatLaw.{flat_scopes}
use Rattle.vl_mean.specs.FlatParts.{driver_part, parts_of, start_part}
use Rattle.vl_mean.specs.Parts.{Part, declares, combinational}
use Rattle.vl_mean.specs.Runs.{is_driven}
use Rattle.vl_mean.specs.Scopes.{Scope}
use Rattle.vl_elab_spec.specs.Refused.{all_kept_bits, class_bits, kept_bits, state_bits}
use Rattle.vl_flow_cells.specs.Numbered.{all_cells}
use Rattle.vl_flow_effects.specs.Masks.{AreDriven, AreMasks}
use Rattle.vl_elab.specs.Bits.{all_mask_bits, all_outside, bits_outside, mask_bits}

-- the bits of what is declared
abbrev pub decl_bits : List Part → List Decl → ℕ
decl_bits all [] = 0
decl_bits all (d ∷ ds) = class_bits all d d.class + decl_bits all ds

module _ (all : List Part) where
  pub bits_declared : (ds : List Decl) (ps : List Part)
      → state_bits all (map (λ d. declares d) ds ++ ps) ≡ decl_bits all ds + state_bits all ps
  bits_declared [] ps = omega arith
  bits_declared (d ∷ ds) ps = let e = bits_declared ds ps in omega (arith, e)

  -- drivers and values at first declare nothing
  driver_none : (ss : List Scope) (what : DriverKind) (ps : List Part)
      → state_bits all (driver_part ss what ∷ ps) ≡ state_bits all ps
  driver_none ss (k.Assign l e) ps = refl
  driver_none ss (k.Comb s) ps = refl
  driver_none ss (k.Clocked s) ps = refl

  drivers_none : (ss : List Scope) (xs : List Driver) (ps : List Part)
      → state_bits all (map (λ x. driver_part ss x.what) xs ++ ps) ≡ state_bits all ps
  drivers_none ss [] ps = refl
  drivers_none ss (x ∷ xs) ps =
      driver_none ss x.what (map (λ x. driver_part ss x.what) xs ++ ps) ∙ drivers_none ss xs ps

  starts_none : (ss : List Scope) (xs : List Start) → state_bits all (map (start_part ss) xs) ≡ 0
  starts_none ss [] = refl
  starts_none ss (x ∷ xs) = starts_none ss xs

append_parts : (xs ys zs : List Part) → (xs ++ ys) ++ zs ≡ xs ++ (ys ++ zs)
append_parts [] ys zs = refl
append_parts (x ∷ xs) ys zs = ap (λ l. x ∷ l) (append_parts xs ys zs)

pub flat_bits : (all : List Part) (ds : List Decl) (drivers : List Driver) (xs : List Start)
    → state_bits all (parts_of ds drivers xs) ≡ decl_bits all ds
flat_bits all ds drivers xs =
    let ss : List Scope = flat_scopes ds in
    let middle : List Part = map (λ x. driver_part ss x.what) drivers in
    let last : List Part = map (start_part ss) xs in
    let none : state_bits all (middle ++ last) ≡ 0 = drivers_none all ss drivers last ∙ starts_none all ss xs in
    let split : state_bits all (map (λ d. declares d) ds ++ (middle ++ last))
    ≡ decl_bits all ds + state_bits all (middle ++ last) = bits_declared all ds (middle ++ last) in
    ap (state_bits all) (append_parts (map (λ d. declares d) ds) middle last) ∙ omega (arith, none, split)

-- ---- masks of cells, one by one

module _ (all : List Part) where
  abbrev pub Told : List (List ℕ) → List ℕ → Type 0
  Told [] [] = Unit {0}
  Told [] (m ∷ ms) = ⊥
  Told (t ∷ ts) [] = ⊥
  Told (t ∷ ts) (m ∷ ms) = ((i : ℕ) → is_set m i ≡ is_driven all t i) × Told ts ms

  pub told : (ts : List (List ℕ)) (ms : List ℕ) → length ms ≡ length ts
      → ((c : ℕ) (n : List ℕ) (i : ℕ) → slice_get ts c ≡ Some n → is_set (slice_index ms c) i ≡ is_driven all n i)
      → Told ts ms
  told [] [] e f = tt
  told [] (m ∷ ms) e f = absurd (omega (arith, e))
  told (t ∷ ts) [] e f = absurd (omega (arith, e))
  told (t ∷ ts) (m ∷ ms) e f =
      (λ i. f 0 t i refl, told ts ms (omega (arith, e)) (λ c n i at. f (suc c) n i at))

  told_front : (ts us : List (List ℕ)) (ms : List ℕ) → Told (ts ++ us) ms → Told ts (take (length ts) ms)
  told_front [] us ms h = tt
  told_front (t ∷ ts) us [] h = absurd h
  told_front (t ∷ ts) us (m ∷ ms) h = (h.0, told_front ts us ms h.1)

  told_back : (ts us : List (List ℕ)) (ms : List ℕ) → Told (ts ++ us) ms → Told us (drop (length ts) ms)
  told_back [] us ms h = h
  told_back (t ∷ ts) us [] h = absurd h
  told_back (t ∷ ts) us (m ∷ ms) h = told_back ts us ms h.1

  one_cell : (t : List ℕ) (m : ℕ) → ((i : ℕ) → is_set m i ≡ is_driven all t i) → (w : ℕ)
      → bits_outside m w ≡ kept_bits all t w
  one_cell t m f zero = refl
  one_cell t m f (suc w) = λ j. (if f w j then 0 else 1) + one_cell t m f w j

  all_told : (w : ℕ) (ts : List (List ℕ)) (ms : List ℕ) → Told ts ms → all_outside w ms ≡ all_kept_bits all w ts
  all_told w [] [] h = refl
  all_told w [] (m ∷ ms) h = absurd h
  all_told w (t ∷ ts) [] h = absurd h
  all_told w (t ∷ ts) (m ∷ ms) h = λ j. one_cell t m h.0 w j + all_told w ts ms h.1 j

  class_told : (d : Decl) (c : Class) (ms : List ℕ) → Told (cells d) ms → mask_bits c d.width ms ≡ class_bits all d c
  class_told d class.Variable ms h = all_told d.width (cells d) ms h
  class_told d class.Input ms h = refl
  class_told d class.Reset ms h = refl
  class_told d class.Clock ms h = refl
  class_told d class.EachCycle ms h = refl
  class_told d class.Once ms h = refl
  class_told d class.Net ms h = refl

  decls_told : (ds : List Decl) (ms : List ℕ) → Told (all_cells ds) ms → all_mask_bits ds ms ≡ decl_bits all ds
  decls_told [] ms h = refl
  decls_told (d ∷ ds) ms h =
      λ j. class_told d d.class (take (length (cells d)) ms) (told_front (cells d) (all_cells ds) ms h) j
      + decls_told ds (drop (length (cells d)) ms) (told_back (cells d) (all_cells ds) ms h) j

  pub masked : (ds : List Decl) (ms : List ℕ) → AreMasks ds ms (is_driven all) → all_mask_bits ds ms ≡ decl_bits all ds
  masked ds ms h = decls_told ds ms (told (all_cells ds) ms h.0 h.1)

pub counted : (ds : List Decl) (drivers : List Driver) (xs : List Start) (ms : List ℕ) (bits : ℕ)
    → AreDriven ds drivers ms → bits ≡ all_mask_bits ds ms
    → bits ≡ state_bits (parts_of ds drivers xs) (parts_of ds drivers xs)
counted ds drivers xs ms bits h e =
    e ∙ masked (parts_of ds drivers xs) ds ms (h xs) ∙ sym (flat_bits (parts_of ds drivers xs) ds drivers xs)
