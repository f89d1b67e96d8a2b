-- One placed bit more.
use Rattle.std.specs.Prelude.{◌≡◌, ℕ, ◌+◌, ◌<◌, ◌≤◌, List, [], ◌∷◌, ◌++◌, length, Option, slice_get}
use Rattle.std.proofs.Common.{ap, sym, ◌∙◌, append_assoc, get_or, drop}
use Rattle.std.proofs.lemmas.List.{at_drop_more, at_drop_all, append-nil}
use Rattle.wn_net.specs.declared.names.Names.{Names}
use Rattle.bb_blast.specs.declared.places.Placed.{Placed}
use Rattle.bm_unroll.specs.declared.frames.Source.{Source}
use Rattle.ck_design.specs.declared.note.Note.{Note}
use Rattle.ck_design.specs.Notes.{source_note}
use Rattle.rvf_judge.specs.NoteLinesParts.{placed_notes}

pub choices_step : (before after all : List Note) (names : Names) (sources : List Source) (i : ℕ) (xs : List Placed)
    (x : Placed) (s : Option Source) (n : Note) → i < length xs → x ≡ get_or xs i x
    → before ++ placed_notes names sources (drop i xs) ≡ all → s ≡ slice_get sources x.source
    → n ≡ source_note names s x → after ≡ before ++ n ∷ []
    → after ++ placed_notes names sources (drop (i + 1) xs) ≡ all
choices_step before after all names sources i xs x s n below here own from is more =
    let rest = placed_notes names sources (drop (i + 1) xs) in
    let note = source_note names (slice_get sources x.source) x in
    ap (λ z. z ++ rest) (more ∙ ap (λ z. before ++ z ∷ []) (is ∙ ap (λ z. source_note names z x) from))
    ∙ append_assoc before (note ∷ []) rest
    ∙ ap (λ z. before ++ z) (sym (at_drop_more (placed_notes names sources) xs i x below
    ∙ ap (λ z. placed_notes names sources (z ∷ drop (i + 1) xs)) (sym here))) ∙ own

pub choices_end : (before all : List Note) (names : Names) (sources : List Source) (i : ℕ) (xs : List Placed)
    → length xs ≤ i → before ++ placed_notes names sources (drop i xs) ≡ all → before ≡ all
choices_end before all names sources i xs past own =
    sym (ap (λ z. before ++ z) (at_drop_all (placed_notes names sources) xs i past) ∙ append-nil before) ∙ own
