-- A map that has given numbers at numbered texts.
use Rattle.std.specs.Prelude.{◌≡◌, refl, ℕ, zero, suc, ◌+◌, List, [], ◌∷◌, length, map, Bool, true, false}
use Rattle.std.specs.Prelude.{Some, is_none, if◌then◌else◌, slice_get, bytes_eq}
use Rattle.std.proofs.Common.{ap, sym, ◌∙◌, arith, true≢false}
use Rattle.std.proofs.lemmas.List.{length-append, length-map}
use Rattle.std.proofs.lemmas.Option.{same_Some}
use Rattle.std.proofs.lemmas.Slice.Eq.{bytes_eq-Decides}
use Rattle.vl_size.specs.declared.decl.Decl.{Decl}
use Rattle.vl_size.specs.Size.{Values}
use Rattle.vl_mean.specs.Cells.{cells}
use Rattle.vl_flow_cells.specs.Numbered.{all_cells}
use Rattle.vl_lower_assign.specs.Frames.{cell_widths}

-- the number of the first text that is the name
abbrev pub number_by : (ℕ → ℕ) → List (List ℕ) → ℕ → Values
number_by f [] k n = 0
number_by f (t ∷ ts) k n = if bytes_eq n t then f k else number_by f ts (k + 1) n

pub found : (f : ℕ → ℕ) (ts : List (List ℕ)) (k : ℕ) (n : List ℕ) (j : ℕ) → slice_get ts j ≡ Some n
    → (e : ℕ) × (slice_get ts e ≡ Some n) × (number_by f ts k n ≡ f (k + e))
found f [] k n j s = absurd (true≢false (ap is_none s))
found f (t ∷ ts) k n zero s =
    let same : k ≡ k + 0 = omega arith in
    let own : bytes_eq n t ≡ true = (bytes_eq-Decides n t).1 (sym (same_Some t n s)) in
    (0, s, ap (λ (b : Bool). if b then f k else number_by f ts (k + 1) n) own ∙ ap f same)
found f (t ∷ ts) k n (suc j) s = by (bytes_eq n t) refl (found f ts (k + 1) n j s)
  where
    by : (b : Bool) → bytes_eq n t ≡ b
        → (e : ℕ) × (slice_get ts e ≡ Some n) × (number_by f ts (k + 1) n ≡ f (k + 1 + e))
        → (e : ℕ) × (slice_get (t ∷ ts) e ≡ Some n)
        × ((if b then f k else number_by f ts (k + 1) n) ≡ f (k + e))
    by true own h =
        let same : k ≡ k + 0 = omega arith in (0, ap Some (sym ((bytes_eq-Decides n t).0 own)), ap f same)
    by false other h =
        let next : k + 1 + h.0 ≡ k + suc h.0 = omega arith in (suc h.0, h.1, h.2 ∙ ap f next)

-- there is a width for each cell
pub as_many : (ds : List Decl) → length (cell_widths ds) ≡ length (all_cells ds)
as_many [] = refl
as_many (d ∷ ds) =
    length-append (map (λ n. d.width) (cells d)) (cell_widths ds)
    ∙ (λ i. length-map (cells d) (λ (n : List ℕ). d.width) i + as_many ds i)
    ∙ sym (length-append (cells d) (all_cells ds))
