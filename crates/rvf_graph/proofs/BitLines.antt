-- One name more.
use Rattle.std.specs.Prelude.{◌≡◌, ℕ, ◌+◌, ◌<◌, ◌≤◌, List, [], ◌∷◌, ◌++◌, length, map}
use Rattle.std.proofs.Common.{ap, sym, ◌∙◌, append_assoc, get_or, drop}
use Rattle.std.proofs.lemmas.List.{at_drop_more, at_drop_all, append-nil}
use Rattle.ck_design.specs.declared.note.Note.{Note}
use Rattle.ck_design.specs.NotesForm.{bit_named}
use Rattle.rvf_graph.specs.BitNames.{bit_name}

abbrev pub name_of : Note → List ℕ
name_of note = bit_name (bit_named note)

pub names_step : (before after all : List (List ℕ)) (i : ℕ) (xs : List Note) (x : Note) (t : List ℕ) → i < length xs
    → x ≡ get_or xs i x → before ++ map name_of (drop i xs) ≡ all → t ≡ name_of x → after ≡ before ++ t ∷ []
    → after ++ map name_of (drop (i + 1) xs) ≡ all
names_step before after all i xs x t below here own is more =
    let rest = map name_of (drop (i + 1) xs) in
    ap (λ z. z ++ rest) (more ∙ ap (λ z. before ++ z ∷ []) is)
    ∙ append_assoc before (name_of x ∷ []) rest
    ∙ ap (λ z. before ++ z) (sym (at_drop_more (map name_of) xs i x below
    ∙ ap (λ z. map name_of (z ∷ drop (i + 1) xs)) (sym here))) ∙ own

pub names_end : (before all : List (List ℕ)) (i : ℕ) (xs : List Note) → length xs ≤ i
    → before ++ map name_of (drop i xs) ≡ all → before ≡ all
names_end before all i xs past own =
    sym (ap (λ z. before ++ z) (at_drop_all (map name_of) xs i past) ∙ append-nil before) ∙ own
