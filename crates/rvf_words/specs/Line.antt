-- Meaning: What the words of a command line ask for. Rule of this project.
use Rattle.std.specs.Prelude.{ℕ, List, [], ◌∷◌, Option, Some, None, length, nat_le, bytes_eq}
use Rattle.std.specs.Prelude.{if◌then◌else◌, codes, option_and_then, option_map}
use Rattle.fv_lines.specs.Numbers.{number_up_to}
use Rattle.clap.specs.Words.{Row, Text, first_of, subcommand_of}
use Rattle.clap.specs.Walk.{is_empty}
use Rattle.clap.specs.Faults.{fault_of}
use Rattle.rvf_words.specs.declared.line.Line.{Line}
use Rattle.rvf_words.specs.declared.line.Line.TheVariants.{Run, List as Listed, Lrat, Bench, Cover, Zb, Induct, Toaig}
use Rattle.rvf_words.specs.declared.line.Line.TheVariants.{Fromaig}
use Rattle.rvf_words.specs.declared.line.Options.{Options}
use Rattle.rvf_words.specs.Table.{program}

-- one to ten digits, a number from the least to the most
abbrev pub count_of : ℕ → ℕ → Text → Option ℕ
count_of least most digits =
    if nat_le (length digits) 10
    then option_and_then (λ n. if nat_le least n then Some n else None) (number_up_to most digits)
    else None

abbrev pub budget_of : Text → Option ℕ
budget_of digits = count_of 1 1000000000 digits

abbrev pub jobs_of : Text → Option ℕ
jobs_of digits = count_of 1 64 digits

abbrev pub cubes_of : Text → Option ℕ
cubes_of digits = count_of 0 6 digits

abbrev pub steps_of : Text → Option ℕ
steps_of digits = count_of 1 100 digits

abbrev pub size_of : Text → Option ℕ
size_of digits = count_of 2 32 digits

-- the values of the operands and options of a subcommand that judges what a configuration asks for
abbrev pub options_in : List Row → Option Options
options_in rows =
    option_and_then (λ cfg. option_and_then (λ outdir. option_and_then (λ core. option_and_then (λ basedir.
    option_and_then (λ budget. option_map (λ jobs. record {
      cfg = cfg;
      outdir = outdir;
      core = core;
      basedir = basedir;
      budget = budget;
      jobs = jobs;
    }) (option_and_then jobs_of (first_of (codes "jobs") rows)))
    (option_and_then budget_of (first_of (codes "budget") rows)))
    (first_of (codes "basedir") rows)) (first_of (codes "core") rows)) (first_of (codes "outdir") rows))
    (first_of (codes "cfg") rows)

abbrev pub run_line : List Row → Option Line
run_line rows =
    option_and_then (λ o. option_map (λ cubes. Run o.cfg o.outdir o.core o.basedir o.budget o.jobs cubes)
    (option_and_then cubes_of (first_of (codes "cubes") rows))) (options_in rows)

abbrev pub list_line : List Row → Option Line
list_line rows = option_map (λ cfg. Listed cfg) (first_of (codes "cfg") rows)

abbrev pub lrat_line : List Row → Option Line
lrat_line rows =
    option_and_then (λ cnf. option_map (λ proof. Lrat cnf proof) (first_of (codes "proof") rows))
    (first_of (codes "cnf") rows)

abbrev pub bench_line : List Row → Option Line
bench_line rows = option_map (λ size. Bench size) (option_and_then size_of (first_of (codes "size") rows))

abbrev pub cover_line : List Row → Option Line
cover_line rows = option_map (λ options. Cover options) (options_in rows)

abbrev pub zb_line : List Row → Option Line
zb_line rows = option_map (λ options. Zb options) (options_in rows)

abbrev pub induct_line : List Row → Option Line
induct_line rows =
    option_and_then (λ options. option_map (λ steps. Induct options steps)
    (option_and_then steps_of (first_of (codes "steps") rows))) (options_in rows)

abbrev pub toaig_line : List Row → Option Line
toaig_line rows =
    option_and_then (λ cfg. option_and_then (λ check. option_and_then (λ file. option_and_then (λ core.
    option_map (λ basedir. Toaig cfg check file core basedir) (first_of (codes "basedir") rows))
    (first_of (codes "core") rows)) (first_of (codes "file") rows)) (first_of (codes "check") rows))
    (first_of (codes "cfg") rows)

abbrev pub fromaig_line : List Row → Option Line
fromaig_line rows =
    option_and_then (λ aag. option_map (λ cnf. Fromaig aag cnf) (first_of (codes "cnf") rows))
    (first_of (codes "aag") rows)

-- what a subcommand asks for with the values of its operands and options
abbrev pub asked : Text → List Row → Option Line
asked name rows =
    if bytes_eq name (codes "run") then run_line rows
    else if bytes_eq name (codes "list") then list_line rows
    else if bytes_eq name (codes "lrat") then lrat_line rows
    else if bytes_eq name (codes "bench") then bench_line rows
    else if bytes_eq name (codes "cover") then cover_line rows
    else if bytes_eq name (codes "zb") then zb_line rows
    else if bytes_eq name (codes "induct") then induct_line rows
    else if bytes_eq name (codes "toaig") then toaig_line rows
    else if bytes_eq name (codes "fromaig") then fromaig_line rows else None

-- what words ask for; None where the table refuses them, or a number isn't in its range
abbrev pub line_of : List Text → Option Line
line_of words =
    if is_empty (fault_of program words)
    then option_and_then (λ used. asked used.0 used.1) (subcommand_of program words) else None
