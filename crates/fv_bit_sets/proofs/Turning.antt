-- What each turn of a walk from one cell, where a set changes, to the next one keeps.
use Rattle.std.specs.Prelude.{◌≡◌, refl, ℕ, suc, ◌-◌, ◌<◌, ◌≤◌, ◌^◌, List, Bool, true}
use Rattle.std.specs.Prelude.{false, ◌&&◌, Option, Some, None}
use Rattle.std.proofs.Common.{ap, sym, ◌∙◌, arith, ◌⊎◌, inl, inr}
use Rattle.std.proofs.lemmas.Bool.{cases_lt, and_parts}
use Rattle.std.specs.Int.Bits.{and_le_l}
use Rattle.std.specs.Prelude.{bit_and}
use Rattle.fv_bit_sets.specs.declared.how.How.{How}
use Rattle.fv_bit_sets.specs.declared.run.Run.{Run}
use Rattle.fv_bit_sets.specs.declared.step.Step.{Step}
use Rattle.fv_bit_sets.specs.Cells.{is_set, has, IsBare, IsBefore, AreRising, Puts}
use Rattle.fv_bit_sets.specs.Runs.{IsRunOf, KeepsTo}
use Rattle.fv_bit_sets.specs.Ways.{way_of}
use Rattle.fv_bit_sets.proofs.Masks.{set_zero, set_and, some_set}
use Rattle.fv_bit_sets.proofs.Rising.{before_down, rising_to}

-- how far it is to the end of all cells
abbrev pub ahead : Option ℕ → ℕ
ahead None = 0
ahead (Some cell) = 2 ^ 64 - cell

pub nearer : (cell : ℕ) (past : Option ℕ) → cell < 2 ^ 64 → IsBefore cell past
    → ahead past < ahead (Some cell)
nearer cell None few h = omega (arith, few)
nearer cell (Some p) few h = omega (arith, few, h)

-- ---- joining

abbrev pub IsJoinedTo : How → List Step → List Step → Option ℕ → List Step → Type 0
IsJoinedTo how first second past made =
    (cell bit : ℕ) → IsBefore cell past
    → has made cell bit ≡ way_of how (has first cell bit) (has second cell bit)

pub joined_on : (how : How) (first second made after : List Step) (s : Step) (l r : Run) (past : Option ℕ)
    → IsJoinedTo how first second (Some s.cell) made → Puts made s after → IsRunOf 0 None first s.cell l
    → IsRunOf 0 None second s.cell r
    → ((bit : ℕ) → is_set s.mask bit ≡ way_of how (is_set l.mask bit) (is_set r.mask bit))
    → KeepsTo how l r past → IsJoinedTo how first second past after
joined_on how first second made after s l r past joined puts left right masks keeps cell bit before =
    by (cases_lt cell s.cell)
  where
    by : (cell < s.cell) ⊎ (s.cell ≤ cell)
        → has after cell bit ≡ way_of how (has first cell bit) (has second cell bit)
    by (inl less) = ap (λ z. is_set z bit) (puts.below cell less) ∙ joined cell bit less
    by (inr le) =
        ap (λ z. is_set z bit) (puts.above cell le) ∙ masks bit
        ∙ sym (keeps first second s.cell cell bit left right le before)

-- ---- up to where the bits stay as they are

pub keeps_both : (how : How) (l r : Run) (past : Option ℕ)
    → ((c : ℕ) → IsBefore c past → IsBefore c l.past × IsBefore c r.past) → KeepsTo how l r past
keeps_both how l r past both first second at cell bit left right le before =
    let ends = both cell before in
    ap (λ z. way_of how (is_set z bit) (has second cell bit)) (left.same cell le ends.0)
    ∙ ap (λ z. way_of how (is_set l.mask bit) (is_set z bit)) (right.same cell le ends.1)

-- where the first set has none, and so none is taken
pub keeps_left : (how : How) (l r : Run) → ((b : Bool) → way_of how false b ≡ false) → l.mask ≡ 0
    → KeepsTo how l r l.past
keeps_left how l r none bare first second at cell bit left right le before =
    ap (λ z. way_of how (is_set z bit) (has second cell bit)) (left.same cell le before ∙ bare)
    ∙ ap (λ b. way_of how b (has second cell bit)) (set_zero bit) ∙ none (has second cell bit)
    ∙ sym (ap (λ z. way_of how (is_set z bit) (is_set r.mask bit)) bare
    ∙ ap (λ b. way_of how b (is_set r.mask bit)) (set_zero bit) ∙ none (is_set r.mask bit))

-- where the second one has none
pub keeps_right : (how : How) (l r : Run) → ((b : Bool) → way_of how b false ≡ false) → r.mask ≡ 0
    → KeepsTo how l r r.past
keeps_right how l r none bare first second at cell bit left right le before =
    ap (λ z. way_of how (has first cell bit) (is_set z bit)) (right.same cell le before ∙ bare)
    ∙ ap (λ b. way_of how (has first cell bit) b) (set_zero bit) ∙ none (has first cell bit)
    ∙ sym (ap (λ z. way_of how (is_set l.mask bit) (is_set z bit)) bare
    ∙ ap (λ b. way_of how (is_set l.mask bit) b) (set_zero bit) ∙ none (is_set l.mask bit))

pub none_first : (b : Bool) → (false && b) ≡ false
none_first b = refl

pub none_second : (b : Bool) → (b && false) ≡ false
none_second true = refl
none_second false = refl

pub rising_on : (cell : ℕ) (past : Option ℕ) (ss : List Step) → AreRising 0 (Some (suc cell)) ss
    → IsBefore cell past → AreRising 0 past ss
rising_on cell past ss rising before =
    rising_to 0 (Some (suc cell)) past ss (λ c less. before_down c cell past (omega (arith, less)) before) rising

-- ---- looking for a bit

abbrev pub IsFrom : ℕ → Option ℕ → Type 0
IsFrom from None = Unit {0}
IsFrom from (Some cell) = from ≤ cell

pub from_on : (from cell : ℕ) (past : Option ℕ) → from ≤ cell → IsBefore cell past → IsFrom from past
from_on from cell None le h = tt
from_on from cell (Some p) le h = omega (arith, le, h)

abbrev pub AreBareTo : List Step → ℕ → Option ℕ → Type 0
AreBareTo steps from past = (cell : ℕ) → from ≤ cell → IsBefore cell past → IsBare steps cell

pub bare_on : (steps : List Step) (from at : ℕ) (run : Run) → AreBareTo steps from (Some at)
    → IsRunOf 0 None steps at run → run.mask ≡ 0 → AreBareTo steps from run.past
bare_on steps from at run bare is none cell le before bit = by (cases_lt cell at)
  where
    by : (cell < at) ⊎ (at ≤ cell) → has steps cell bit ≡ false
    by (inl less) = bare cell le less bit
    by (inr past) = ap (λ z. is_set z bit) (is.same cell past before ∙ none) ∙ set_zero bit

-- ---- looking for a bit of both

abbrev pub AreApartTo : List Step → List Step → ℕ → Option ℕ → Type 0
AreApartTo first second from past =
    (cell bit : ℕ) → from ≤ cell → IsBefore cell past → (has first cell bit && has second cell bit) ≡ false

pub apart_on : (first second : List Step) (from at : ℕ) (l r : Run) (past : Option ℕ)
    → AreApartTo first second from (Some at) → IsRunOf 0 None first at l → IsRunOf 0 None second at r
    → ((bit : ℕ) → (is_set l.mask bit && is_set r.mask bit) ≡ false)
    → ((c : ℕ) → IsBefore c past → IsBefore c l.past × IsBefore c r.past) → AreApartTo first second from past
apart_on first second from at l r past apart left right none both cell bit le before = by (cases_lt cell at)
  where
    by : (cell < at) ⊎ (at ≤ cell) → (has first cell bit && has second cell bit) ≡ false
    by (inl less) = apart cell bit le less
    by (inr behind) =
        let ends = both cell before in
        ap (λ z. is_set z bit && has second cell bit) (left.same cell behind ends.0)
        ∙ ap (λ z. is_set l.mask bit && is_set z bit) (right.same cell behind ends.1) ∙ none bit

-- ---- a bit that is there

pub has_found : (steps : List Step) (at : ℕ) (run : Run) → IsRunOf 0 None steps at run → (run.mask ≡ 0 → ⊥)
    → run.mask < 2 ^ 128 → (bit : ℕ) × (has steps at bit ≡ true)
has_found steps at run is some few =
    let found = some_set run.mask (omega (arith, some)) few in
    (found.0, ap (λ z. is_set z found.0) (is.same at (omega arith) is.inside) ∙ found.1)

pub both_found : (first second : List Step) (at : ℕ) (l r : Run) → IsRunOf 0 None first at l
    → IsRunOf 0 None second at r → (bit_and l.mask r.mask ≡ 0 → ⊥) → l.mask < 2 ^ 128
    → (bit : ℕ) × (has first at bit ≡ true) × (has second at bit ≡ true)
both_found first second at l r left right some few =
    let found = some_set (bit_and l.mask r.mask) (omega (arith, some)) (omega (arith, few, and_le_l l.mask r.mask)) in
    let parts = and_parts (is_set l.mask found.0) (is_set r.mask found.0)
    (sym (set_and l.mask r.mask found.0) ∙ found.1) in (
      found.0,
      ap (λ z. is_set z found.0) (left.same at (omega arith) left.inside) ∙ parts.0,
      ap (λ z. is_set z found.0) (right.same at (omega arith) right.inside) ∙ parts.1,
    )

pub none_both : (l r : ℕ) → bit_and l r ≡ 0 → (bit : ℕ) → (is_set l bit && is_set r bit) ≡ false
none_both l r e bit = sym (set_and l r bit) ∙ ap (λ z. is_set z bit) e ∙ set_zero bit
