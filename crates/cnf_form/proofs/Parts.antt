-- Parts of a list that grows.
use Rattle.std.proofs.Common.{◌≡◌, ℕ, ◌-◌, ◌≤◌, List, ◌++◌, length, take, drop, ap, sym, ◌∙◌, arith}
use Rattle.std.proofs.Common.{length-append, length-drop}
use Rattle.std.specs.Prelude.{slice_range}
use Rattle.std.proofs.lemmas.List.{drop-append-le, take-append-le, drop_at, take_all}

pub part_kept : {A : Type 0} → (all more : List A) (s e : ℕ) → s ≤ e → e ≤ length all
    → slice_range (all ++ more) s e ≡ slice_range all s e
part_kept all more s e l m =
    ap (take (e - s)) (drop-append-le s all more (omega (arith, l, m)))
    ∙ take-append-le (e - s) (drop s all) more (omega (arith, length-drop s all, l, m))

pub part_last : {A : Type 0} → (all more : List A) (s e : ℕ) → s ≡ length all → e ≡ length (all ++ more)
    → slice_range (all ++ more) s e ≡ more
part_last all more s e l m =
    ap (take (e - s)) (drop_at all more s (sym l))
    ∙ take_all (e - s) more (omega (arith, l, m, length-append all more))
