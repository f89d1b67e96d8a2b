-- Cells that are taken back, one change after the other.
use Rattle.std.specs.Prelude.{◌≡◌, refl, ℕ, zero, suc, ◌+◌, ◌-◌, ◌<◌, ◌≤◌, List, [], ◌∷◌, ◌++◌, length}
use Rattle.std.specs.Prelude.{take, Some, None, is_none}
use Rattle.std.specs.Prelude.{slice_get, slice_set}
use Rattle.std.proofs.lemmas.List.{take_more}
use Rattle.std.proofs.lemmas.Option.{get_or_from_slice_get}
use Rattle.std.proofs.Common.{ap, sym, ◌∙◌, arith, true≢false}
use Rattle.vl_lower_assign.specs.declared.change.Change.{Change}
use Rattle.vl_lower_assign.specs.Frames.{taken_back}
use Rattle.vl_lower_assign.proofs.Logging.{back_append}

-- past the last cell nothing is set
pub set_past : (xs : List ℕ) (i x : ℕ) → length xs ≤ i → slice_set xs i x ≡ xs
set_past [] i x h = refl
set_past (y ∷ ys) zero x h = absurd (omega (arith, h))
set_past (y ∷ ys) (suc i) x h = ap (λ zs. y ∷ zs) (set_past ys i x (omega (arith, h)))

-- the last of the first changes is taken back first
pub last_back : (log : List Change) (left : ℕ) (c : Change) (cells : List ℕ)
    → take (left + 1) log ≡ take left log ++ c ∷ []
    → taken_back (take (left + 1) log) cells ≡ taken_back (take left log) (slice_set cells c.cell c.node)
last_back log left c cells more =
    ap (λ xs. taken_back xs cells) more ∙ back_append (take left log) (c ∷ []) cells

-- one change fewer is left, and its cell is taken back, if it is there
pub back_one : (log : List Change) (left : ℕ) (c : Change) (cells other : List ℕ) → 0 < left → left ≤ length log
    → slice_get log (left - 1) ≡ Some c → slice_set cells c.cell c.node ≡ other
    → taken_back (take (left - 1) log) other ≡ taken_back (take left log) cells
back_one log left c cells other some within at set =
    let less : left - 1 < length log = omega (arith, some, within) in
    let next : left - 1 + 1 ≡ left = omega (arith, some) in
    let more : take (left - 1 + 1) log ≡ take (left - 1) log ++ c ∷ [] =
    take_more log (left - 1) c less
    ∙ ap (λ x. take (left - 1) log ++ x ∷ []) (get_or_from_slice_get log (left - 1) c c at) in
    ap (taken_back (take (left - 1) log)) (sym set)
    ∙ sym (last_back log (left - 1) c cells more) ∙ ap (λ n. taken_back (take n log) cells) next

pub not_past : (log : List Change) (i : ℕ) → i < length log → slice_get log i ≡ None → ⊥
not_past [] i less e = omega (arith, less)
not_past (c ∷ cs) zero less e = true≢false (ap is_none (sym e))
not_past (c ∷ cs) (suc i) less e = not_past cs i (omega (arith, less)) e
