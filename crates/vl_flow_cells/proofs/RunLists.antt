-- What runs one behind the other take.
use Rattle.std.specs.Prelude.{◌≡◌, refl, ℕ, ◌-◌, ◌≤◌, List, [], ◌∷◌, ◌++◌, length, Bool, true, false, ◌||◌}
use Rattle.std.specs.Prelude.{take, drop}
use Rattle.std.proofs.Common.{ap, sym, ◌∙◌, arith, length-drop}
use Rattle.std.proofs.lemmas.List.{take_all, take-append-drop}
use Rattle.vl_flow_cells.specs.declared.cell_run.CellRun.{CellRun}
use Rattle.vl_flow_cells.specs.Numbered.{takes, any_takes}

assoc : (a b c : Bool) → (a || (b || c)) ≡ ((a || b) || c)
assoc true b c = refl
assoc false b c = refl

or_false : (a : Bool) → (a || false) ≡ a
or_false true = refl
or_false false = refl

pub any_append : (xs ys : List CellRun) (c i : ℕ) → any_takes (xs ++ ys) c i ≡ (any_takes xs c i || any_takes ys c i)
any_append [] ys c i = refl
any_append (r ∷ xs) ys c i =
    ap (λ b. takes r c i || b) (any_append xs ys c i) ∙ assoc (takes r c i) (any_takes xs c i) (any_takes ys c i)

pub any_more : (xs : List CellRun) (r : CellRun) (c i : ℕ)
    → any_takes (xs ++ r ∷ []) c i ≡ (any_takes xs c i || takes r c i)
any_more xs r c i = any_append xs (r ∷ []) c i ∙ ap (λ b. any_takes xs c i || b) (or_false (takes r c i))

-- the first ones, and those behind them
pub any_split : (xs : List CellRun) (k c i : ℕ) → k ≤ length xs
    → (any_takes (take k xs) c i || any_takes (take (length xs - k) (drop k xs)) c i) ≡ any_takes xs c i
any_split xs k c i le =
    let size : length (drop k xs) ≤ length xs - k = omega (arith, length-drop k xs) in
    ap (λ ys. any_takes (take k xs) c i || any_takes ys c i) (take_all (length xs - k) (drop k xs) size)
    ∙ sym (any_append (take k xs) (drop k xs) c i) ∙ ap (λ ys. any_takes ys c i) (take-append-drop k xs)
