-- Meaning: The questions that are asked of a configuration, their texts, and which of these are one. Rules of this
-- project.
use Rattle.std.specs.Prelude.{ℕ, ◌+◌, ◌-◌, ◌^◌, ◌==◌, min, Bool, true, false, ◌&&◌, if◌then◌else◌, List, [], ◌∷◌, ◌++◌}
use Rattle.std.specs.Prelude.{map, bytes_eq}
use Rattle.std.specs.List.{filter, list_any}
use Rattle.rv_table.specs.declared.retire.Isa.{Isa}
use Rattle.ck_cfg.specs.declared.check.Check.{Check}
use Rattle.ck_cfg.specs.declared.config.Config.{Config}
use Rattle.ck_cfg.specs.declared.config.Piece.{Piece}
use Rattle.ck_cfg.specs.declared.kind.CheckKind.{CheckKind}
use Rattle.ck_cfg.specs.declared.kind.CheckKind.TheVariants as kind
use Rattle.ck_cfg.specs.Checks.{checks_of, is_named}
use Rattle.ck_cfg.specs.Kind.{is_kind}
use Rattle.ck_cover.specs.Targets.{targets_of}
use Rattle.ck_gen.specs.Monitors.{is_of_one_cycle}
use Rattle.ck_induct.specs.OneCycle.{in_cycle}
use Rattle.vl_text.specs.Texts.{Text}
use Rattle.vl_text.specs.declared.macros.Core.{Core}
use Rattle.vl_text.specs.declared.macros.Retirements.{Retirements}
use Rattle.vl_text.specs.declared.macros.Retirements.TheVariants.{One, Two}
use Rattle.rvf_load.specs.declared.asked.Probes.{Probes}
use Rattle.rvf_load.specs.Loads.{Asked}
use Rattle.ck_ask.specs.Questions.{question_cycle, question_kind}
use Rattle.ck_ask.specs.ZbChecks.{zb_checks_of}
use Rattle.ck_ask.specs.declared.question.Question.{Question}
use Rattle.ck_ask.specs.declared.question.Question.TheVariants as question
use Rattle.rvf_case.specs.Askings.{Asking}
use Rattle.rvf_case.specs.Askings as asking

-- ---- which questions are asked

-- of these checks the first one with the name alone
abbrev pub only_named : List ℕ → List Check → List Check
only_named name [] = []
only_named name (x ∷ xs) = if is_named name x then x ∷ [] else only_named name xs

-- of these checks those that look at one cycle alone, in this cycle
abbrev pub of_one_cycle : ℕ → List Check → List Check
of_one_cycle cycle xs = map (λ x. in_cycle x cycle) (filter (λ x. is_of_one_cycle x.kind) xs)

-- One for each of its checks, of the targets of these, or of the checks of Zba and Zbs beside them, in their order. Or
-- one for each check of one cycle, in the last cycle of an induction's base; or one for the check with a name.
abbrev pub questions_of : Asking → Config → List Question
questions_of asking.Checks c = map (λ x. question.Check x) (checks_of c)
questions_of asking.Targets c = map (λ t. question.Target t) (targets_of (checks_of c))
questions_of asking.Zb c = map (λ z. question.Zb z) (zb_checks_of (checks_of c) c.nret)
questions_of (asking.Lengths steps) c = map (λ x. question.Check x) (of_one_cycle steps (checks_of c))
questions_of (asking.One name) c = map (λ x. question.Check x) (only_named name (checks_of c))

-- ---- a question's text: lines of the configuration, and then the files

-- the lines that stand in front of the files: those for all checks, and then those for the checks of a kind
abbrev pub lines_for : Config → CheckKind → List Piece
lines_for c kind = c.defines ++ map (λ x. x.piece) (filter (λ x. is_kind x.kind kind) c.kind_defines)

-- a line of the configuration, which is file 0
abbrev pub line_text : Piece → Text
line_text p = record { file = 0; line = p.line; bytes = p.text }

-- the files in their order, from one number on; the number stands still at its end
abbrev pub file_texts : ℕ → List (List ℕ) → List Text
file_texts number [] = []
file_texts number (bytes ∷ more) =
    record { file = min number (2 ^ 32 - 1); line = 1; bytes = bytes } ∷ file_texts (number + 1) more

abbrev pub texts_for : Config → List (List ℕ) → CheckKind → List Text
texts_for c files kind = map line_text (lines_for c kind) ++ file_texts 1 files

-- ---- which texts are one

abbrev pub are_same_lines : List Piece → List Piece → Bool
are_same_lines [] [] = true
are_same_lines (p ∷ ps) (q ∷ qs) = bytes_eq p.text q.text && are_same_lines ps qs
are_same_lines ps qs = false

-- the lines are the same, wherever they stand in the configuration
abbrev pub is_same_text : Config → CheckKind → CheckKind → Bool
is_same_text c kind other = are_same_lines (lines_for c kind) (lines_for c other)

-- the checks that have the text of a kind, in their order
abbrev pub sharing : Config → CheckKind → List Check
sharing c kind = filter (λ x. is_same_text c kind x.kind) (checks_of c)

-- of these questions those that have the text of a kind, in their order
abbrev pub with_text : Config → CheckKind → List Question → List Question
with_text c kind qs = filter (λ q. is_same_text c kind (question_kind q)) qs

-- of each text of these questions the kind of the first one, behind those that are there
abbrev pub leaders_behind : Config → List CheckKind → List Question → List CheckKind
leaders_behind c there [] = there
leaders_behind c there (q ∷ qs) =
    if list_any (λ kind. is_same_text c kind (question_kind q)) there then leaders_behind c there qs
    else leaders_behind c (there ++ question_kind q ∷ []) qs

abbrev pub leaders : Config → List Question → List CheckKind
leaders c qs = leaders_behind c [] qs

-- the kind whose text stands for that of a kind
abbrev pub leader_among : Config → CheckKind → List CheckKind → CheckKind
leader_among c kind [] = kind
leader_among c kind (k ∷ ks) = if is_same_text c k kind then k else leader_among c kind ks

abbrev pub leader_of : Config → List Question → CheckKind → CheckKind
leader_of c qs kind = leader_among c kind (leaders c qs)

-- ---- what is asked of a text

-- how many instructions may retire in one cycle; a configuration has one channel or two
abbrev pub retirements_of : ℕ → Retirements
retirements_of channels = if channels == 2 then Two else One

abbrev pub core_of : Isa → ℕ → Core
core_of isa channels = record { compressed = isa.c; retirements = retirements_of channels }

abbrev pub probes_for : List Check → Probes
probes_for xs =
    record { imem = list_any (λ x. is_kind x.kind kind.Imem) xs; dmem = list_any (λ x. is_kind x.kind kind.Dmem) xs }

-- one more than the last cycle of each
abbrev pub factors_of : List Question → List ℕ
factors_of qs = map (λ q. question_cycle q + 1) qs

-- The text of a kind: it has the probes of all checks of the configuration that have it, and is weighed for each of the
-- questions that do.
abbrev pub asked_for : Config → List (List ℕ) → List Question → CheckKind → Asked
asked_for c files qs kind = record {
  core = core_of c.isa c.nret;
  texts = texts_for c files kind;
  lines = map line_text c.assumes;
  channels = c.nret;
  probes = probes_for (sharing c kind);
  factors = factors_of (with_text c kind qs);
}
