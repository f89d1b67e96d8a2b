-- Between functions: What a graph of a design without hierarchy says of the design that the source writes. Rules of
-- this project.
use Rattle.std.specs.Prelude.{◌≡◌, ℕ, List}
use Rattle.rv_table.specs.declared.retire.Opts.{Opts}
use Rattle.vl_mean.specs.declared.flat.Flat.{Flat}
use Rattle.vl_mean.specs.FlatParts.{flat_parts}
use Rattle.vl_mean.specs.Parts.{Part}
use Rattle.vl_mean_flat.specs.Flattened.{decls_of}
use Rattle.vl_mean_flat.specs.SameMaps.{AreSameMaps}
use Rattle.vl_elab_draft.specs.Drawn.{IsDrawn}
use Rattle.rvfi_port.specs.declared.port.Wants.{Wants}
use Rattle.ck_ask.specs.declared.question.Question.{Question}
use Rattle.rvf_graph.specs.GraphTexts.{TellsRuns}
use Rattle.rvf_graph.specs.declared.text.GraphText.{GraphText}

-- a graph speaks of maps and of declarations alone
abbrev pub GraphsDependOnMaps : Type 0
GraphsDependOnMaps =
    (ps qs : List Part) (channels : ℕ) (wants : Wants) (q : Question) (opts : Opts) (t : GraphText)
    → AreSameMaps ps qs → decls_of ps ≡ decls_of qs → TellsRuns qs channels wants q opts t
    → TellsRuns ps channels wants q opts t

-- so it is one of the design from which one without hierarchy is drawn that has the same maps
abbrev pub GraphsAreTheSources : Type 0
GraphsAreTheSources =
    (ps : List Part) (flat : Flat) (channels : ℕ) (wants : Wants) (q : Question) (opts : Opts) (t : GraphText)
    → IsDrawn ps flat → AreSameMaps ps (flat_parts flat) → TellsRuns (flat_parts flat) channels wants q opts t
    → TellsRuns ps channels wants q opts t
