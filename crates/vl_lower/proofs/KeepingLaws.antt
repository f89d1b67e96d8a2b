-- Masks and numbers of cells are what is kept of them.
use Rattle.std.specs.Prelude.{◌≡◌, refl, ℕ, ◌+◌, ◌<◌, ◌==◌, max, List, [], ◌∷◌, ◌++◌, length, Bool}
use Rattle.std.specs.Prelude.{Option, Some, None, is_some, slice_get, slice_index, if◌then◌else◌}
use Rattle.std.proofs.Common.{ap, sym, ◌∙◌, arith, subst}
use Rattle.vl_size.specs.declared.decl.Decl.{Decl}
use Rattle.vl_mean.specs.Cells.{cells}
use Rattle.vl_mean.specs.declared.driver.Driver.{Driver}
use Rattle.vl_mean.specs.declared.driver.Start.{Start}
use Rattle.vl_mean.specs.FlatParts.{parts_of}
use Rattle.vl_mean.specs.Parts.{Part, clocked, combinational, declares, equation, starts}
use Rattle.vl_mean.specs.Runs.{initial_writes, last_value}
use Rattle.vl_mean.specs.Scopes.{no_values, operand_in}
use Rattle.vl_mean.specs.Targets.{Spot, Write, bit_of, spots, written}
use Rattle.vl_flow_cells.specs.Numbered.{all_cells}
use Rattle.vl_flow_cells.proofs.Lists.{get_left, get_less, get_right}
use Rattle.vl_lower_cell_laws.specs.declared.keep.Keep.{Keep}
use Rattle.vl_lower_cell_laws.specs.Keeps.{AreSmall, IsKeepOf, value_or}
use Rattle.vl_lower_cell_laws.proofs.Starting.{leave_last}
use Rattle.vl_lower_cell_laws.specs.Listing.{AreKeeps}
use Rattle.vl_flow_effects.specs.Masks.{AreDriven, AreStarted}
use Rattle.vl_lower_stmt.specs.First.{AreFirst}
use Rattle.vl_lower.specs.Design.{keeping}
use Rattle.vl_lower.specs.Keeping.{AreJoined}

-- ---- what is written are bits

bits_small : (spots : List (Option Spot)) (x : ℕ) → AreSmall (written spots x)
bits_small [] x = tt
bits_small (None ∷ spots) x = bits_small spots x
bits_small (Some s ∷ spots) x = (omega arith, bits_small spots x)

small_append : (ws vs : List Write) → AreSmall ws → AreSmall vs → AreSmall (ws ++ vs)
small_append [] vs h k = k
small_append (w ∷ ws) vs h k = (h.0, small_append ws vs h.1 k)

writes_small : (ps : List Part) → AreSmall (initial_writes ps)
writes_small [] = tt
writes_small (declares d ∷ ps) = writes_small ps
writes_small (equation ts l ss e ∷ ps) = writes_small ps
writes_small (combinational ss s ∷ ps) = writes_small ps
writes_small (clocked ss s ∷ ps) = writes_small ps
writes_small (starts ss l e ∷ ps) =
    let bits = spots ss no_values l in
    let x = operand_in ss no_values e in
    small_append (written bits (x.at (max (length bits) x.size) x.sign)) (initial_writes ps)
    (bits_small bits (x.at (max (length bits) x.size) x.sign)) (writes_small ps)

-- ---- a cell

-- a bit that is known has the value that stands in its place
begins_so : (o : Option ℕ) (known : Bool) (value : ℕ) → known ≡ is_some o → value ≡ value_or o 0
    → o ≡ (if known then Some value else None)
begins_so None known value k e = sym (ap (λ (b : Bool). if b then Some value else None) k)
begins_so (Some y) known value k e =
    ap (λ x. Some x) (sym e) ∙ sym (ap (λ (b : Bool). if b then Some value else None) k)

none_given : (k : ℕ) → bit_of 0 k ≡ 0
none_given k = omega arith

module _ (ds : List Decl) (drivers : List Driver) (xs : List Start) (driven known values : List ℕ) (keeps : List Keep)
    (all : AreDriven ds drivers driven) (begun : AreStarted ds xs known) (first : AreFirst ds xs values)
    (joined : AreJoined driven known values keeps) where
  abbrev parts : List Part
  parts = parts_of ds drivers xs

  -- whatever its width
  cell_kept : (c : ℕ) (n : List ℕ) → slice_get (all_cells ds) c ≡ Some n → (width : ℕ)
      → IsKeepOf parts width n (keeping keeps c)
  cell_kept c n at width =
      let less : c < length driven = omega (arith, get_less (all_cells ds) c n at, (all xs).0) in
      let P : Keep → Type 0 = IsKeepOf parts width n in
      subst P (sym (joined.same c less)) (record {
        driven = λ k within. (all xs).1 c n k at;
        begins = λ k within.
            let ws = initial_writes parts in
            begins_so (last_value ws n k) (bit_of (slice_index known c) k == 1) (bit_of (slice_index values c) k)
            ((begun drivers).1 c n k at)
            (ap (λ x. bit_of x k) (first.same drivers c n at) ∙ leave_last ws no_values n k (writes_small parts)
            ∙ ap (value_or (last_value ws n k)) (none_given k));
      })

  -- ---- all cells

  keeps_from : (es : List Decl) (at : ℕ)
      → ((c : ℕ) (n : List ℕ) → slice_get (all_cells es) c ≡ Some n → (width : ℕ)
      → IsKeepOf parts width n (keeping keeps (at + c)))
      → AreKeeps parts (keeping keeps) es at
  keeps_from [] at h = tt
  keeps_from (d ∷ es) at h = (
    λ variable j n there. h j n (get_left (cells d) (all_cells es) j n there) d.width,
    keeps_from es (at + length (cells d)) (λ c n there width.
        let number : at + (length (cells d) + c) ≡ at + length (cells d) + c = omega arith in
        subst (λ m. IsKeepOf parts width n (keeping keeps m)) number
        (h (length (cells d) + c) n
        (get_right (cells d) (all_cells es) c (length (cells d) + c) refl ∙ there) width)),
  )

  pub all_kept : AreKeeps parts (keeping keeps) ds 0
  all_kept =
      keeps_from ds 0 (λ c n there width.
      let number : c ≡ 0 + c = omega arith in
      subst (λ m. IsKeepOf parts width n (keeping keeps m)) number (cell_kept c n there width))
