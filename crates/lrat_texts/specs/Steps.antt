-- Between functions: What a proof says (LRAT, without the binary form): one step a line, `ID LITERALS 0 HINTS 0` or
-- `ID d IDS 0`. Where blank lines may stand, and how long numbers may be, are rules of this project.
use Rattle.std.specs.Prelude.{
  ◌≡◌,
  ℕ,
  ◌<◌,
  ◌≤◌,
  not,
  List,
  [],
  ◌∷◌,
  ◌++◌,
  length,
  filter,
  map,
  codes,
}
use Rattle.std.specs.Prelude.{ℤ, unsigned_abs}
use Rattle.std.specs.List.{AllZip}
use Rattle.fv_lines.specs.Words.{is_nil, lines, words}
use Rattle.lrat_check.specs.declared.step.Step.{Step}
use Rattle.lrat_check.specs.declared.step.Step.TheVariants.{Add, Delete}
use Rattle.lrat_texts.specs.Numerals.{SaysNumber, SaysInteger, without_sign}

-- an id: at most 18 digits
abbrev pub SaysId : List ℕ → ℕ → Type 0
SaysId word id = SaysNumber word id × (length word ≤ 18)

-- the id of a clause that is deleted: not 0
abbrev pub SaysDeleted : List ℕ → ℕ → Type 0
SaysDeleted word id = SaysId word id × (0 < id)

-- a literal or a hint: at most 18 digits, with or without `-` before them, not 0
abbrev pub SaysLiteral : List ℕ → ℤ → Type 0
SaysLiteral word l = SaysInteger word l × (length (without_sign word) ≤ 18) × (0 < unsigned_abs l)

-- `ID LITERALS 0 HINTS 0`
pub record SaysAdd (ws : List (List ℕ)) (id : ℕ) (lits hints : List ℤ) : Type 0 where
  pub id_word : List ℕ
  pub lit_words : List (List ℕ)
  pub hint_words : List (List ℕ)
  pub words_are : ws ≡ id_word ∷ (lit_words ++ codes "0" ∷ (hint_words ++ codes "0" ∷ []))
  pub id_is : SaysId id_word id
  pub lits_are : AllZip SaysLiteral lit_words lits
  pub hints_are : AllZip SaysLiteral hint_words hints

-- `ID d IDS 0`
pub record SaysDelete (ws : List (List ℕ)) (id : ℕ) (ids : List ℕ) : Type 0 where
  pub id_word : List ℕ
  pub deleted_words : List (List ℕ)
  pub words_are : ws ≡ id_word ∷ codes "d" ∷ (deleted_words ++ codes "0" ∷ [])
  pub id_is : SaysId id_word id
  pub ids_are : AllZip SaysDeleted deleted_words ids

-- the words of a line say a step
abbrev pub SaysStep : List (List ℕ) → Step → Type 0
SaysStep ws (Add id lits hints) = SaysAdd ws id lits hints
SaysStep ws (Delete id ids) = SaysDelete ws id ids

-- the words of each line that isn't blank
abbrev pub said_lines : List ℕ → List (List (List ℕ))
said_lines bytes = filter (λ ws. not (is_nil ws)) (map words (lines bytes))

-- these lines say the steps, one each, in order
abbrev pub SaysSteps : List ℕ → List Step → Type 0
SaysSteps bytes steps = AllZip SaysStep (said_lines bytes) steps
