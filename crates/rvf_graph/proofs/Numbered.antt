-- Places of inputs are numbered one after the other, and so are the bits that they name.
use Rattle.std.specs.Prelude.{◌≡◌, refl, ℕ, zero, suc, ◌+◌, ◌-◌, ◌<◌, ◌==◌, Bool, false, List, [], ◌∷◌, ◌++◌, length}
use Rattle.std.specs.Prelude.{map, pos, slice_get, slice_index_or, sum}
use Rattle.std.specs.Int.{bit_at}
use Rattle.std.specs.List.{AllByRecursion}
use Rattle.std.proofs.Common.{ap, sym, ◌∙◌, arith, subst}
use Rattle.std.proofs.lemmas.List.{length-append}
use Rattle.std.proofs.lemmas.List.Sums.{sum_by-cons}
use Rattle.vl_size.specs.Size.{Values}
use Rattle.wn_net.specs.declared.names.Names.{Names}
use Rattle.bb_blast.specs.declared.places.Placed.{Placed}
use Rattle.bb_blast.specs.Choice.{all_places, places_from}
use Rattle.bm_unroll.specs.declared.frames.Source.{Source}
use Rattle.ck_design.specs.declared.note.Note.{Note}
use Rattle.ck_design.specs.Notes.{source_note}
use Rattle.ck_design.specs.NotesForm.{bit_named}
use Rattle.ck_design.specs.Tight.{Agree, note_value}
use Rattle.ck_design.proofs.NotesWhole.{source_literal}
use Rattle.rvf_graph.specs.GraphTexts.{bit_in}

-- ---- places

abbrev pub AreNumbered : ℕ → List Placed → Type 0
AreNumbered at [] = Unit {0}
AreNumbered at (p ∷ ps) = (p.node ≡ at + 1) × AreNumbered (at + 1) ps

many_from : (source bit at w : ℕ) → length (places_from source bit at w) ≡ w
many_from source bit at zero = refl
many_from source bit at (suc w) = ap suc (many_from source (bit + 1) (at + 1) w)

pub all_many : (source at : ℕ) (ws : List ℕ) → length (all_places source at ws) ≡ sum ws
all_many source at [] = refl
all_many source at (w ∷ ws) =
    length-append (places_from source 0 at w) (all_places (source + 1) (at + w) ws)
    ∙ ap (λ n. n + length (all_places (source + 1) (at + w) ws)) (many_from source 0 at w)
    ∙ ap (λ n. w + n) (all_many (source + 1) (at + w) ws) ∙ sym (sum_by-cons (λ n. n) w ws)

numbered_from : (source bit at w : ℕ) (rest : List Placed) → AreNumbered (at + w) rest
    → AreNumbered at (places_from source bit at w ++ rest)
numbered_from source bit at zero rest h = let e : at + 0 ≡ at = omega arith in subst (λ n. AreNumbered n rest) e h
numbered_from source bit at (suc w) rest h =
    let e : at + suc w ≡ at + 1 + w = omega arith in
    (refl, numbered_from source (bit + 1) (at + 1) w rest (subst (λ n. AreNumbered n rest) e h))

pub all_numbered : (source at : ℕ) (ws : List ℕ) → AreNumbered at (all_places source at ws)
all_numbered source at [] = tt
all_numbered source at (w ∷ ws) =
    numbered_from source 0 at w (all_places (source + 1) (at + w) ws) (all_numbered (source + 1) (at + w) ws)

-- ---- bits

-- values of inputs as those of variables: variable 1 is the first input
abbrev pub variables : (ℕ → Bool) → ℕ → Bool
variables x k = x (k - 1)

module _ (names : Names) (sources : List Source) (run : List Values) where
  abbrev note_of : Placed → Note
  note_of p = source_note names (slice_get sources p.source) p

  abbrev value_of : Placed → Bool
  value_of p = bit_in run (bit_named (note_of p))

  -- inputs that have the bits that are named agree with the notes
  pub agree_of : (x : ℕ → Bool) (at : ℕ) (ps : List Placed) → AreNumbered at ps
      → ((j : ℕ) → x (at + j) ≡ slice_index_or (map value_of ps) j false) → Agree (variables x) run (map note_of ps)
  agree_of x at [] numbered h = tt
  agree_of x at (p ∷ ps) numbered h =
      let literal = source_literal names (slice_get sources p.source) p in
      let node : p.node - 1 ≡ at + 0 = omega (arith, numbered.0) in (
        ap (note_value (variables x)) literal ∙ ap x node ∙ h 0,
        agree_of x (at + 1) ps numbered.1
            (λ j. let e : at + 1 + j ≡ at + suc j = omega arith in ap x e ∙ h (suc j)),
      )

  -- and the other way round
  pub values_of : (x : ℕ → Bool) (at : ℕ) (ps : List Placed) (inputs : List Bool) → AreNumbered at ps
      → length inputs ≡ length ps → ((j : ℕ) → j < length inputs → x (at + j) ≡ slice_index_or inputs j false)
      → Agree (variables x) run (map note_of ps) → map value_of ps ≡ inputs
  values_of x at [] [] numbered long h agree = refl
  values_of x at [] (b ∷ bs) numbered long h agree = absurd (omega (arith, long))
  values_of x at (p ∷ ps) [] numbered long h agree = absurd (omega (arith, long))
  values_of x at (p ∷ ps) (b ∷ bs) numbered long h agree =
      let literal = source_literal names (slice_get sources p.source) p in
      let node : at + 0 ≡ p.node - 1 = omega (arith, numbered.0) in
      let own : value_of p ≡ b =
      sym agree.0 ∙ ap (note_value (variables x)) literal ∙ sym (ap x node) ∙ h 0 (omega arith) in
      let rest : map value_of ps ≡ bs =
      values_of x (at + 1) ps bs numbered.1 (omega (arith, long))
      (λ j less. let e : at + 1 + j ≡ at + suc j = omega arith in ap x e ∙ h (suc j) (omega (arith, less))) agree.1 in
      λ i. own i ∷ rest i
