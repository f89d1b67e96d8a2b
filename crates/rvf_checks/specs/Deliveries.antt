-- Meaning: What is delivered of a check, in this order: its files, and its line. Rules of this project.
use Rattle.std.specs.Prelude.{ℕ, List, [], ◌∷◌, ◌++◌, codes}
use Rattle.rvf_judge.specs.declared.judged.CertificateTexts.{CertificateTexts}
use Rattle.rvf_judge.specs.declared.judged.Judged.{Judged}
use Rattle.rvf_judge.specs.declared.judged.Judged.TheVariants as judged
use Rattle.rvf_report.specs.declared.delivery.Delivery.{Delivery}
use Rattle.rvf_report.specs.declared.delivery.Delivery.TheVariants.{File, Line}
use Rattle.rvf_checks.specs.declared.wording.Wording.{Wording}
use Rattle.rvf_checks.specs.declared.wording.Wording.TheVariants as wording
use Rattle.rvf_checks.specs.CheckLines.{named_line, spent_line}

-- a check's file in a folder
abbrev pub path : List ℕ → List ℕ → List ℕ → List ℕ
path folder name ending = folder ++ (47 ∷ (name ++ ending))

-- the clauses in one file, and the steps in a second one
abbrev pub files_of : List ℕ → List ℕ → CertificateTexts → List Delivery
files_of folder name texts =
    File (path folder name (codes ".cnf")) texts.clauses ∷ File (path folder name (codes ".lrat")) texts.steps ∷ []

-- these, and then a line
abbrev pub certified : List ℕ → List ℕ → CertificateTexts → List ℕ → List Delivery
certified folder name texts line = files_of folder name texts ++ Line line ∷ []

-- the dump in a file, and then a line
abbrev pub dumped : List ℕ → List ℕ → List ℕ → List ℕ → List Delivery
dumped folder name dump line = File (path folder name (codes ".vcd")) dump ∷ Line line ∷ []

-- by what the question comes to, with the words for it where no run gives what is sought, and where one does
abbrev pub deliveries_of : List ℕ → List ℕ → List ℕ → List ℕ → ℕ → Judged → List Delivery
deliveries_of never found folder name budget (judged.Never texts) =
    certified folder name texts (named_line never name)
deliveries_of never found folder name budget (judged.Found dump) = dumped folder name dump (named_line found name)
deliveries_of never found folder name budget (judged.Spent texts) =
    certified folder name texts (spent_line name budget)

-- the files alone, where the budget is used up
abbrev pub files_if_spent : List ℕ → List ℕ → Judged → List Delivery
files_if_spent folder name (judged.Never texts) = []
files_if_spent folder name (judged.Found dump) = []
files_if_spent folder name (judged.Spent texts) = files_of folder name texts

-- in these words: a check passes where no run lacks its property, a row of Zba or Zbs where none does otherwise, and a
-- target is reached where a run reaches it
abbrev pub deliveries_in : Wording → List ℕ → List ℕ → ℕ → Judged → List Delivery
deliveries_in wording.Run folder name budget j = deliveries_of (codes "pass ") (codes "fail ") folder name budget j
deliveries_in (wording.Bench size) folder name budget j = files_if_spent folder name j
deliveries_in wording.Cover folder name budget j =
    deliveries_of (codes "unreached ") (codes "reached ") folder name budget j
deliveries_in wording.Zb folder name budget j = deliveries_of (codes "pass ") (codes "fail ") folder name budget j
