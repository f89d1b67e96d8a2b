-- One note more.
use Rattle.std.specs.Prelude.{◌≡◌, ℕ, ◌+◌, ◌<◌, ◌≤◌, List, [], ◌∷◌, ◌++◌, length, map}
use Rattle.std.proofs.Common.{ap, sym, ◌∙◌, append_assoc, get_or, drop}
use Rattle.std.proofs.lemmas.List.{at_drop_more, at_drop_all, append-nil}
use Rattle.ck_design.specs.declared.note.Note.{Note}
use Rattle.rvf_judge.specs.Lines.{note_text}

pub lines_step : (before after all : List (List ℕ)) (i : ℕ) (xs : List Note) (x : Note) (t : List ℕ) → i < length xs
    → x ≡ get_or xs i x → before ++ map note_text (drop i xs) ≡ all → t ≡ note_text x → after ≡ before ++ t ∷ []
    → after ++ map note_text (drop (i + 1) xs) ≡ all
lines_step before after all i xs x t below here own is more =
    let rest = map note_text (drop (i + 1) xs) in
    ap (λ z. z ++ rest) (more ∙ ap (λ z. before ++ z ∷ []) is)
    ∙ append_assoc before (note_text x ∷ []) rest
    ∙ ap (λ z. before ++ z) (sym (at_drop_more (map note_text) xs i x below
    ∙ ap (λ z. map note_text (z ∷ drop (i + 1) xs)) (sym here))) ∙ own

pub lines_end : (before all : List (List ℕ)) (i : ℕ) (xs : List Note) → length xs ≤ i
    → before ++ map note_text (drop i xs) ≡ all → before ≡ all
lines_end before all i xs past own =
    sym (ap (λ z. before ++ z) (at_drop_all (map note_text) xs i past) ∙ append-nil before) ∙ own
