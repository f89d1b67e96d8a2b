-- One line more.
use Rattle.std.proofs.Common.{◌≡◌, ℕ, ◌+◌, ◌<◌, ◌≤◌, List, [], ◌∷◌, ◌++◌, length, get_or, drop, ap, sym, ◌∙◌}
use Rattle.std.proofs.Common.{append_assoc}
use Rattle.std.proofs.lemmas.List.{at_drop_more, at_drop_all, append-nil}
use Rattle.rvf_checks.specs.Checked.{skips_of}
use Rattle.rvf_checks.specs.CheckLines.{skip_line}
use Rattle.rvf_report.specs.declared.delivery.Delivery.{Delivery}
use Rattle.rvf_report.specs.declared.delivery.Delivery.TheVariants.{Line}

pub skips_step : (before after all : List Delivery) (i : ℕ) (xs : List (List ℕ)) (x line : List ℕ) → i < length xs
    → x ≡ get_or xs i x → before ++ skips_of (drop i xs) ≡ all → line ≡ skip_line x
    → after ≡ before ++ Line line ∷ [] → after ++ skips_of (drop (i + 1) xs) ≡ all
skips_step before after all i xs x line below here own is more =
    let rest = skips_of (drop (i + 1) xs) in
    ap (λ z. z ++ rest) (more ∙ ap (λ z. before ++ Line z ∷ []) is)
    ∙ append_assoc before (Line (skip_line x) ∷ []) rest
    ∙ ap (λ z. before ++ z) (sym (at_drop_more skips_of xs i x below
    ∙ ap (λ z. skips_of (z ∷ drop (i + 1) xs)) (sym here))) ∙ own

pub skips_end : (before all : List Delivery) (i : ℕ) (xs : List (List ℕ)) → length xs ≤ i
    → before ++ skips_of (drop i xs) ≡ all → before ≡ all
skips_end before all i xs past own =
    sym (ap (λ z. before ++ z) (at_drop_all skips_of xs i past) ∙ append-nil before) ∙ own
