-- The numbers that words ask for are in their ranges.
use Rattle.std.proofs.Common.{◌≡◌, ℕ, ◌<◌, ◌≤◌, Bool, true, false, if◌then◌else◌, List, Option, Some, None, IfSome}
use Rattle.std.proofs.Common.{nat_le, option_and_then, option_map, refl, sym, subst, length, arith}
use Rattle.std.proofs.lemmas.Bool.Decides.{nat_tests}
use Rattle.std.specs.Prelude.{bytes_eq, codes}
use Rattle.clap.specs.Words.{Row, first_of, subcommand_of}
use Rattle.clap.specs.Walk.{is_empty}
use Rattle.clap.specs.Faults.{fault_of}
use Rattle.fv_lines.specs.Numbers.{at_most, natural_of, number_up_to}
use Rattle.rvf_words.specs.declared.line.Line.{Line}
use Rattle.rvf_words.specs.declared.line.Line.TheVariants as line
use Rattle.rvf_words.specs.declared.line.Options.{Options}
use Rattle.rvf_words.specs.Line.{asked, bench_line, budget_of, count_of, cover_line, cubes_of, jobs_of, line_of}
use Rattle.rvf_words.specs.Line.{fromaig_line, induct_line, list_line, lrat_line, options_in, run_line, size_of}
use Rattle.rvf_words.specs.Line.{steps_of, toaig_line, zb_line}
use Rattle.rvf_words.specs.Table.{program}
use Rattle.rvf_core.specs.Run.{IsLine}

-- ---- facts of what is there, if anything

if_kept : {A : Type 0} (P : A → Type 0) (kept : Bool) (found : Option A) → IfSome found P
    → IfSome (if kept then found else None) P
if_kept P true found p = p
if_kept P false found p = tt

if_chosen : {A : Type 0} (P : A → Type 0) (first : Bool) (one other : Option A) → IfSome one P → IfSome other P
    → IfSome (if first then one else other) P
if_chosen P true one other p q = p
if_chosen P false one other p q = q

if_then : {A B : Type 0} (Q : A → Type 0) (P : B → Type 0) (next : A → Option B) (found : Option A) → IfSome found Q
    → ((a : A) → Q a → IfSome (next a) P) → IfSome (option_and_then next found) P
if_then Q P next None q f = tt
if_then Q P next (Some a) q f = f a q

if_next : {A B : Type 0} (P : B → Type 0) (next : A → Option B) (found : Option A)
    → ((a : A) → IfSome (next a) P) → IfSome (option_and_then next found) P
if_next P next None f = tt
if_next P next (Some a) f = f a

if_mapped : {A B : Type 0} (Q : A → Type 0) (P : B → Type 0) (make : A → B) (found : Option A) → IfSome found Q
    → ((a : A) → Q a → P (make a)) → IfSome (option_map make found) P
if_mapped Q P make None q f = tt
if_mapped Q P make (Some a) q f = f a q

if_any : {A : Type 0} (found : Option A) → IfSome found (λ a. Unit {0})
if_any None = tt
if_any (Some a) = tt

-- ---- numbers

abbrev IsCount : ℕ → ℕ → Type 0
IsCount most n = (1 ≤ n) × (n ≤ most)

below : (most n : ℕ) (is : Bool) → nat_le n most ≡ is → IfSome (if is then Some n else None) (λ m. m ≤ most)
below most n true e = grind (arith, nat_tests)
below most n false e = tt

at_most_below : (most : ℕ) (found : Option ℕ) → IfSome (at_most most found) (λ n. n ≤ most)
at_most_below most None = tt
at_most_below most (Some n) = below most n (nat_le n most) refl

from_one : (most n : ℕ) (is : Bool) → n ≤ most → nat_le 1 n ≡ is
    → IfSome (if is then Some n else None) (IsCount most)
from_one most n true le e = (grind (arith, nat_tests), le)
from_one most n false le e = tt

counted : (most : ℕ) (digits : List ℕ) → IfSome (count_of 1 most digits) (IsCount most)
counted most digits =
    if_kept (IsCount most) (nat_le (length digits) 10)
    (option_and_then (λ n. if nat_le 1 n then Some n else None) (number_up_to most digits))
    (if_then (λ n. n ≤ most) (IsCount most) (λ n. if nat_le 1 n then Some n else None) (number_up_to most digits)
    (at_most_below most (natural_of digits)) (λ n le. from_one most n (nat_le 1 n) le refl))

-- where none is a number too
kept_most : (most n : ℕ) (is : Bool) → n ≤ most → IfSome (if is then Some n else None) (λ m. m ≤ most)
kept_most most n true le = le
kept_most most n false le = tt

counted_up : (most : ℕ) (digits : List ℕ) → IfSome (count_of 0 most digits) (λ m. m ≤ most)
counted_up most digits =
    if_kept (λ m. m ≤ most) (nat_le (length digits) 10)
    (option_and_then (λ n. if nat_le 0 n then Some n else None) (number_up_to most digits))
    (if_then (λ n. n ≤ most) (λ m. m ≤ most) (λ n. if nat_le 0 n then Some n else None) (number_up_to most digits)
    (at_most_below most (natural_of digits)) (λ n le. kept_most most n (nat_le 0 n) le))

-- ---- lines

-- the numbers of options are in their ranges
abbrev AreInRange : Options → Type 0
AreInRange o = (0 < o.budget) × (1 ≤ o.jobs) × (o.jobs ≤ 64)

options_in_range : (rows : List Row) → IfSome (options_in rows) AreInRange
options_in_range rows =
    if_next AreInRange _ (first_of (codes "cfg") rows) (λ cfg.
    if_next AreInRange _ (first_of (codes "outdir") rows) (λ outdir.
    if_next AreInRange _ (first_of (codes "core") rows) (λ core.
    if_next AreInRange _ (first_of (codes "basedir") rows) (λ basedir.
    if_then (IsCount 1000000000) AreInRange _ (option_and_then budget_of (first_of (codes "budget") rows))
    (if_next (IsCount 1000000000) budget_of (first_of (codes "budget") rows) (counted 1000000000)) (λ budget in_range.
    if_mapped (IsCount 64) AreInRange (λ jobs. record {
      cfg = cfg;
      outdir = outdir;
      core = core;
      basedir = basedir;
      budget = budget;
      jobs = jobs;
    })
    (option_and_then jobs_of (first_of (codes "jobs") rows))
    (if_next (IsCount 64) jobs_of (first_of (codes "jobs") rows) (counted 64)) (λ jobs is.
    (in_range.0, is.0, is.1)))))))

run_in_range : (rows : List Row) → IfSome (run_line rows) IsLine
run_in_range rows =
    if_then AreInRange IsLine _ (options_in rows) (options_in_range rows) (λ o is.
    if_mapped (λ n. n ≤ 6) IsLine (λ cubes. line.Run o.cfg o.outdir o.core o.basedir o.budget o.jobs cubes)
    (option_and_then cubes_of (first_of (codes "cubes") rows))
    (if_next (λ n. n ≤ 6) cubes_of (first_of (codes "cubes") rows) (counted_up 6))
    (λ cubes few. (is.0, is.1, is.2, few)))

list_in_range : (rows : List Row) → IfSome (list_line rows) IsLine
list_in_range rows =
    if_mapped (λ cfg. Unit {0}) IsLine (λ cfg. line.List cfg) (first_of (codes "cfg") rows)
    (if_any (first_of (codes "cfg") rows)) (λ cfg u. tt)

lrat_in_range : (rows : List Row) → IfSome (lrat_line rows) IsLine
lrat_in_range rows =
    if_next IsLine _ (first_of (codes "cnf") rows) (λ cnf.
    if_mapped (λ proof. Unit {0}) IsLine (λ proof. line.Lrat cnf proof) (first_of (codes "proof") rows)
    (if_any (first_of (codes "proof") rows)) (λ proof u. tt))

bench_in_range : (rows : List Row) → IfSome (bench_line rows) IsLine
bench_in_range rows =
    if_mapped (λ size. Unit {0}) IsLine (λ size. line.Bench size)
    (option_and_then size_of (first_of (codes "size") rows))
    (if_any (option_and_then size_of (first_of (codes "size") rows))) (λ size u. tt)

cover_in_range : (rows : List Row) → IfSome (cover_line rows) IsLine
cover_in_range rows =
    if_mapped AreInRange IsLine (λ o. line.Cover o) (options_in rows) (options_in_range rows) (λ o is. is)

zb_in_range : (rows : List Row) → IfSome (zb_line rows) IsLine
zb_in_range rows =
    if_mapped AreInRange IsLine (λ o. line.Zb o) (options_in rows) (options_in_range rows) (λ o is. is)

induct_in_range : (rows : List Row) → IfSome (induct_line rows) IsLine
induct_in_range rows =
    if_then AreInRange IsLine _ (options_in rows) (options_in_range rows) (λ o is.
    if_mapped (IsCount 100) IsLine (λ steps. line.Induct o steps)
    (option_and_then steps_of (first_of (codes "steps") rows))
    (if_next (IsCount 100) steps_of (first_of (codes "steps") rows) (counted 100))
    (λ steps in_range. (is.0, is.1, is.2, in_range.0, in_range.1)))

toaig_in_range : (rows : List Row) → IfSome (toaig_line rows) IsLine
toaig_in_range rows =
    if_next IsLine _ (first_of (codes "cfg") rows) (λ cfg. if_next IsLine _ (first_of (codes "check") rows) (λ check.
    if_next IsLine _ (first_of (codes "file") rows) (λ file. if_next IsLine _ (first_of (codes "core") rows) (λ core.
    if_mapped (λ basedir. Unit {0}) IsLine (λ basedir. line.Toaig cfg check file core basedir)
    (first_of (codes "basedir") rows) (if_any (first_of (codes "basedir") rows)) (λ basedir u. tt)))))

fromaig_in_range : (rows : List Row) → IfSome (fromaig_line rows) IsLine
fromaig_in_range rows =
    if_next IsLine _ (first_of (codes "aag") rows) (λ aag.
    if_mapped (λ cnf. Unit {0}) IsLine (λ cnf. line.Fromaig aag cnf) (first_of (codes "cnf") rows)
    (if_any (first_of (codes "cnf") rows)) (λ cnf u. tt))

asked_in_range : (name : List ℕ) (rows : List Row) → IfSome (asked name rows) IsLine
asked_in_range name rows =
    if_chosen IsLine (bytes_eq name (codes "run")) (run_line rows)
    (if bytes_eq name (codes "list") then list_line rows
    else if bytes_eq name (codes "lrat") then lrat_line rows
    else if bytes_eq name (codes "bench") then bench_line rows
    else if bytes_eq name (codes "cover") then cover_line rows
    else if bytes_eq name (codes "zb") then zb_line rows
    else if bytes_eq name (codes "induct") then induct_line rows
    else if bytes_eq name (codes "toaig") then toaig_line rows
    else if bytes_eq name (codes "fromaig") then fromaig_line rows else None) (run_in_range rows)
    (if_chosen IsLine (bytes_eq name (codes "list")) (list_line rows)
    (if bytes_eq name (codes "lrat") then lrat_line rows
    else if bytes_eq name (codes "bench") then bench_line rows
    else if bytes_eq name (codes "cover") then cover_line rows
    else if bytes_eq name (codes "zb") then zb_line rows
    else if bytes_eq name (codes "induct") then induct_line rows
    else if bytes_eq name (codes "toaig") then toaig_line rows
    else if bytes_eq name (codes "fromaig") then fromaig_line rows else None) (list_in_range rows)
    (if_chosen IsLine (bytes_eq name (codes "lrat")) (lrat_line rows)
    (if bytes_eq name (codes "bench") then bench_line rows
    else if bytes_eq name (codes "cover") then cover_line rows
    else if bytes_eq name (codes "zb") then zb_line rows
    else if bytes_eq name (codes "induct") then induct_line rows
    else if bytes_eq name (codes "toaig") then toaig_line rows
    else if bytes_eq name (codes "fromaig") then fromaig_line rows else None) (lrat_in_range rows)
    (if_chosen IsLine (bytes_eq name (codes "bench")) (bench_line rows)
    (if bytes_eq name (codes "cover") then cover_line rows
    else if bytes_eq name (codes "zb") then zb_line rows
    else if bytes_eq name (codes "induct") then induct_line rows
    else if bytes_eq name (codes "toaig") then toaig_line rows
    else if bytes_eq name (codes "fromaig") then fromaig_line rows else None) (bench_in_range rows)
    (if_chosen IsLine (bytes_eq name (codes "cover")) (cover_line rows)
    (if bytes_eq name (codes "zb") then zb_line rows
    else if bytes_eq name (codes "induct") then induct_line rows
    else if bytes_eq name (codes "toaig") then toaig_line rows
    else if bytes_eq name (codes "fromaig") then fromaig_line rows else None) (cover_in_range rows)
    (if_chosen IsLine (bytes_eq name (codes "zb")) (zb_line rows)
    (if bytes_eq name (codes "induct") then induct_line rows
    else if bytes_eq name (codes "toaig") then toaig_line rows
    else if bytes_eq name (codes "fromaig") then fromaig_line rows else None) (zb_in_range rows)
    (if_chosen IsLine (bytes_eq name (codes "induct")) (induct_line rows)
    (if bytes_eq name (codes "toaig") then toaig_line rows
    else if bytes_eq name (codes "fromaig") then fromaig_line rows else None) (induct_in_range rows)
    (if_chosen IsLine (bytes_eq name (codes "toaig")) (toaig_line rows)
    (if bytes_eq name (codes "fromaig") then fromaig_line rows else None) (toaig_in_range rows)
    (if_kept IsLine (bytes_eq name (codes "fromaig")) (fromaig_line rows) (fromaig_in_range rows)))))))))

line_in_range : (words : List (List ℕ)) → IfSome (line_of words) IsLine
line_in_range words =
    if_kept IsLine (is_empty (fault_of program words))
    (option_and_then (λ used. asked used.0 used.1) (subcommand_of program words))
    (if_next IsLine (λ used. asked used.0 used.1) (subcommand_of program words)
    (λ used. asked_in_range used.0 used.1))

pub IsLine-read : (words : List (List ℕ)) (line : Line) → Some line ≡ line_of words → IsLine line
IsLine-read words line e = subst (λ found. IfSome found IsLine) (sym e) (line_in_range words)
