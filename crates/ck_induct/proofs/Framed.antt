-- The clauses of frames are those of choices of the net.
use Rattle.std.specs.Prelude.{◌≡◌, ◌↔◌, [], map, slice_index}
use Rattle.std.specs.List.{AllByRecursion}
use Rattle.std.proofs.Common.{sym, subst}
use Rattle.wn_net.specs.Width.{IsWidth}
use Rattle.wn_net.specs.Net.{Netlist}
use Rattle.wn_run.specs.Runs.{Choices, AreChoicesOf}
use Rattle.bb_blast.specs.Choice.{all_places}
use Rattle.bb_blast.specs.Walk.{all_other_than_0, values_by}
use Rattle.bb_clauses.specs.Models.{ModelsAreNumbers, read_at}
use Rattle.bm_unroll.specs.declared.frames.Frames.{Frames}
use Rattle.bm_unroll.specs.declared.frames.Source.{Source}
use Rattle.bm_unroll.specs.Frames.{AreChosen, AreDistinct, source_width}
use Rattle.bm_induct.specs.Halves.{AreOther}
use Rattle.bm_decide.specs.declared.runs.RunClauses.{RunClauses}
use Rattle.bm_decide.specs.Runs.{ModelsAreRuns}
use Rattle.bm_decide.specs.Settled.{bits_of, certificate_of}
use Rattle.ck_induct.specs.Verdicts.{AreBitsBy, AreOfChoices}
use Rattle.ck_induct.proofs.Joining.{models_are_choices}

pub of_frames : (net : Netlist) (IsSource : Source → Type 0) (IsBad : Choices → Type 0) (f : Frames) (made : RunClauses)
    → made.frames ≡ f → AllByRecursion IsSource f.sources → f.widths ≡ map (source_width net) f.sources
    → AllByRecursion IsWidth f.widths → AreDistinct f.sources → AreChosen net f.widths f.sources
    → ((ch : Choices) → AreChoicesOf net ch → AreOther f ch ↔ IsBad ch) → f.watch ≡ []
    → made.encoded.places ≡ all_places 0 0 f.widths
    → ModelsAreNumbers f.widths (read_at made.encoded.places f.widths)
    (λ numbers. all_other_than_0 (values_by f.widths f.nodes numbers) f.roots)
    (λ numbers. map (λ i. slice_index (values_by f.widths f.nodes numbers) i) f.watch) made.encoded.watch
    made.encoded.formula
    → AreBitsBy net IsSource (bits_of made) × AreOfChoices net IsSource IsBad (certificate_of made [])
of_frames net IsSource IsBad f made same sources widths wide distinct chosen roots none places m =
    let b = made.encoded in
    let P : Frames → Type 0 = λ x. AreBitsBy net IsSource
    (record { sources = x.sources; widths = x.widths; places = b.places })
    × ModelsAreRuns net IsBad (λ ch. []) x.sources (read_at b.places x.widths) b.watch made.encoded.formula in
    subst P (sym same) (
      record {
        sources = sources;
        distinct = distinct;
        widths = widths;
        wide = wide;
        places = places;
        chosen = chosen;
      },
      models_are_choices net IsBad f b.places b.watch made.encoded.formula places m chosen roots none,
    )
