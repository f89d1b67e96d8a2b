-- Meaning: The subcommands, operands and options of the command line, as a simple command of `clap`, which says what
-- such a table makes of words. Rule of this project.
use Rattle.std.specs.Prelude.{ℕ, true, List, [], ◌∷◌, Option, Some, codes}
use Rattle.clap.specs.Words.{App, Rule, Shape, Text, new_app, new_rule, with_rule, with_subcommand}

-- a word that has to be there, told by its place
abbrev pub operand : Text → Rule
operand id = record (new_rule id) { required = true }

-- an option with one value, and the value where it isn't used
abbrev pub choice : Text → Text → Rule
choice id default = record (new_rule id) { long = Some id; defaults = default ∷ [] }

-- `CFG OUTDIR [--core NAME] [--basedir DIR] [--budget N] [--jobs N]`
abbrev pub with_options : App → App
with_options app =
    with_rule (with_rule (with_rule (with_rule (with_rule (with_rule app
    (operand (codes "cfg"))) (operand (codes "outdir")))
    (choice (codes "core") (codes "core"))) (choice (codes "basedir") (codes ".")))
    (choice (codes "budget") (codes "200000"))) (choice (codes "jobs") (codes "1"))

-- `run` with these, and `[--cubes N]` behind them
abbrev pub run : App
run = with_rule (with_options (new_app (codes "run"))) (choice (codes "cubes") (codes "0"))

-- `list CFG`
abbrev pub list : App
list = with_rule (new_app (codes "list")) (operand (codes "cfg"))

-- `lrat CNF PROOF`
abbrev pub lrat : App
lrat = with_rule (with_rule (new_app (codes "lrat")) (operand (codes "cnf"))) (operand (codes "proof"))

-- `bench N`
abbrev pub bench : App
bench = with_rule (new_app (codes "bench")) (operand (codes "size"))

-- `cover` with them alone
abbrev pub cover : App
cover = with_options (new_app (codes "cover"))

-- `zb` with them alone
abbrev pub zb : App
zb = with_options (new_app (codes "zb"))

-- `induct` with these, and `[--steps K]` behind them
abbrev pub induct : App
induct = with_rule (with_options (new_app (codes "induct"))) (choice (codes "steps") (codes "1"))

-- `toaig CFG CHECK FILE [--core NAME] [--basedir DIR]`
abbrev pub toaig : App
toaig =
    with_rule (with_rule (with_rule (with_rule (with_rule (new_app (codes "toaig"))
    (operand (codes "cfg"))) (operand (codes "check"))) (operand (codes "file")))
    (choice (codes "core") (codes "core"))) (choice (codes "basedir") (codes "."))

-- `fromaig AAG CNF`
abbrev pub fromaig : App
fromaig = with_rule (with_rule (new_app (codes "fromaig")) (operand (codes "aag"))) (operand (codes "cnf"))

-- the words behind the program's name, of which the first has to be a subcommand
abbrev pub top : Shape
top = record (new_app (codes "rvf")).top { no_binary_name = true; subcommand_required = true }

-- the program without its subcommands
abbrev pub alone : App
alone = record { top = top; subs = [] }

abbrev pub program : App
program =
    with_subcommand (with_subcommand (with_subcommand (with_subcommand (with_subcommand (with_subcommand
    (with_subcommand (with_subcommand (with_subcommand alone run.top) list.top) lrat.top) bench.top) cover.top) zb.top)
    induct.top) toaig.top) fromaig.top
