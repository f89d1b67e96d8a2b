-- Parts in turn: where each comes to one thing alone, so do they together.
use Rattle.std.proofs.Common.{List, Result, Ok, Err, refl, ap, ◌∙◌, subst}
use Rattle.vl_prep.specs.Prep.{Outcome}
use Rattle.vl_tree.specs.declared.source.Source.{Source}
use Rattle.vl_text.specs.Assumptions.{with_assumptions}
use Rattle.vl_text.specs.SourceText.{Then, InTurn, Only, Answers, AreParsed, AreRead, with_macros}
use Rattle.vl_text.specs.Texts.{Text}
use Rattle.vl_text.specs.declared.fault.TextFault.{TextFault}
use Rattle.vl_text.specs.declared.fault.TextFault.TheVariants.{Lex, Prep, Parse, Memory}

pub only_answers : {A : Type 0} (Is : Result A TextFault → Type 0) (r : Result A TextFault) → Only Is r → Answers Is r
only_answers Is (Ok a) h = h
only_answers Is (Err (Lex f)) h = h
only_answers Is (Err (Prep f)) h = h
only_answers Is (Err (Parse f)) h = h
only_answers Is (Err Memory) h = tt

module _ {A B : Type 0} (First : Result A TextFault → Type 0) (Next : A → Result B TextFault → Type 0) where
  behind_ok : (a : A) → Only First (Ok a) → (r : Result B TextFault) → Only (Next a) r
      → Only (λ s. InTurn First Next s) r
  behind_ok a first r next = record {
    is = record { middle = Ok a; first = first.is; next = next.is };
    only = λ other h. next.only other (subst (λ m. Then m Next other) (first.only h.middle h.first) h.next);
  }

  pub answer_behind : (a : A) → Only First (Ok a) → (r : Result B TextFault) → Answers (Next a) r
      → Answers (λ s. InTurn First Next s) r
  answer_behind a first (Ok b) next = behind_ok a first (Ok b) next
  answer_behind a first (Err (Lex f)) next = behind_ok a first (Err (Lex f)) next
  answer_behind a first (Err (Prep f)) next = behind_ok a first (Err (Prep f)) next
  answer_behind a first (Err (Parse f)) next = behind_ok a first (Err (Parse f)) next
  answer_behind a first (Err Memory) next = tt

  stopped : (f : TextFault) → Only First (Err f) → Only (λ s. InTurn First Next s) (Err f)
  stopped f first = record {
    is = record { middle = Err f; first = first.is; next = refl };
    only = λ other h. subst (λ m. Then m Next other) (first.only h.middle h.first) h.next;
  }

  pub answer_stopped : (f : TextFault) → Answers First (Err f) → Answers (λ s. InTurn First Next s) (Err f)
  answer_stopped (Lex f) first = stopped (Lex f) first
  answer_stopped (Prep f) first = stopped (Prep f) first
  answer_stopped (Parse f) first = stopped (Parse f) first
  answer_stopped Memory first = tt

-- with macros beside the tree
module _ (lines : List Text) (done : Outcome) where
  read_only : (r : Result Source TextFault) → Only (AreParsed (with_assumptions lines done.output)) r
      → Only (AreRead lines done) (with_macros done.macros r)
  read_only r h = record {
    is = record { tree = r; parsed = h.is; comes = refl };
    only = λ other o. o.comes ∙ ap (with_macros done.macros) (h.only o.tree o.parsed);
  }

  pub read_answer : (r : Result Source TextFault) → Answers (AreParsed (with_assumptions lines done.output)) r
      → Answers (AreRead lines done) (with_macros done.macros r)
  read_answer (Ok tree) h = read_only (Ok tree) h
  read_answer (Err (Lex f)) h = read_only (Err (Lex f)) h
  read_answer (Err (Prep f)) h = read_only (Err (Prep f)) h
  read_answer (Err (Parse f)) h = read_only (Err (Parse f)) h
  read_answer (Err Memory) h = tt
