use Rattle.std.specs.Prelude.{ℕ, List, length, map, refl}
use Rattle.std.proofs.Common.{ap, sym, ◌∙◌, subst, arith}
use Rattle.std.proofs.lemmas.List.{length-map}
use Rattle.wn_net.specs.declared.parts.Input.{Input}
use Rattle.wn_net.specs.declared.parts.Mem.{Mem}
use Rattle.wn_net.specs.Net.{shape_of}
use Rattle.wn_mem.specs.Words.{words_width}
use Rattle.bm_unroll.specs.Walk.{AreRows}
use Rattle.bm_unroll.specs.declared.draft.Draft.{Draft}
use Rattle.bm_unroll.specs.declared.frames.Frames.{Frames}
use Rattle.bm_unroll.specs.Frames.{source_width}
use Rattle.bm_unroll.specs.Shrunk.{frames_of}
use Rattle.bm_unroll.proofs.Choosing.{are_chosen}
use Rattle.bm_unroll.proofs.Rows.{rows_there}
use Rattle.bm_unroll.proofs.Beginning.{has_begun, words_some}
use Rattle.bm_unroll.proofs.FirstState.{start_on}
use Rattle.bm_unroll.proofs.Runs.{AreFramed, framed_roots, framed_watch}
use Rattle.bm_unroll.proofs.Shrinking.{distinct_picked, shrunk_choices, shrunk_roots, shrunk_watch, shrunk_widths}
use Rattle.bm_unroll.proofs.top.unroll.Goals as goal

pub starts-requires-clause-room : goal.starts-requires-clause-room
starts-requires-clause-room c =
    record {
      each = ap length c.new-draft.ensures.inputs ∙ sym (ap length c.new-draft.ensures.none);
      few = omega (arith, ap length c.new-draft.ensures.none);
    }

pub input_rows-requires-clause-room : goal.input_rows-requires-clause-room
input_rows-requires-clause-room c =
    record {
      each = c.in_ok-words.ensures.extends.each;
      few = omega (arith, c.in_ok-words.ensures.extends.few, ap length c.new-draft.ensures.none);
    }

pub begin-requires-clause-each : goal.begin-requires-clause-each
begin-requires-clause-each c =
    let net = c.args.net.now in
    let start = c.in_ok-words.ensures.start in
    sym (length-map c.in_ok-words.words.mems (words_width c.starts.new.draft.net)) ∙ ap length start.mems
    ∙ length-map net.mems (λ (m : Mem). m.width)

pub begin-requires-clause-some : goal.begin-requires-clause-some
begin-requires-clause-some c =
    words_some c.starts.new.draft.net c.in_ok-words.words.mems c.in_ok-words.ensures.start.mems_there

pub walk_cycles-requires-clause-each : goal.walk_cycles-requires-clause-each
walk_cycles-requires-clause-each c = ap length c.as_slice-rows.ensures.value ∙ c.in_ok-rows.ensures.each

pub walk_cycles-requires-clause-rows : goal.walk_cycles-requires-clause-rows
walk_cycles-requires-clause-rows c =
    let d = c.input_rows.new.draft in
    let P : List (List ℕ) → Type 0 = λ rows. AreRows d.net (shape_of c.args.net.now) rows in
    subst P (sym c.as_slice-rows.ensures.value)
    (rows_there c.args.net.now d c.in_ok-rows.rows.items c.in_ok-rows.ensures.rows)

pub walk_cycles-requires-clause-start : goal.walk_cycles-requires-clause-start
walk_cycles-requires-clause-start c =
    (has_begun c.args.net.now c.input_rows.new.draft c.in_ok-words.words c.in_ok-start.start
    (start_on c.args.net.now c.starts.new.draft c.input_rows.new.draft 101000000 c.in_ok-words.words
    c.in_ok-rows.ensures.extends c.in_ok-words.ensures.start)
    c.in_ok-start.ensures.regs (c.in_ok-start.ensures.mems c.input_rows.new.draft.net)).start

pub shrink-requires-clause-flat : goal.shrink-requires-clause-flat
shrink-requires-clause-flat c =
    let net = c.args.net.now in
    let d = c.input_rows.new.draft in
    let drafted = c.in_ok-rows.ensures.draft
    (c.in_ok-words.ensures.draft c.args.cycle (c.new-draft.ensures.draft net c.args.cycle)) in
    (c.in_ok-walked.ensures.adds.regs ∙ drafted.no_regs, c.in_ok-walked.ensures.adds.mems ∙ drafted.no_mems)

pub shrink-requires-clause-inputs : goal.shrink-requires-clause-inputs
shrink-requires-clause-inputs c =
    let net = c.args.net.now in
    let d = c.input_rows.new.draft in
    let drafted = c.in_ok-rows.ensures.draft
    (c.in_ok-words.ensures.draft c.args.cycle (c.new-draft.ensures.draft net c.args.cycle)) in
    ap (map (λ (x : Input). x.width)) c.in_ok-walked.ensures.adds.inputs ∙ drafted.inputs

pub shrink-requires-clause-each : goal.shrink-requires-clause-each
shrink-requires-clause-each c =
    let net = c.args.net.now in
    let d = c.input_rows.new.draft in
    let drafted = c.in_ok-rows.ensures.draft
    (c.in_ok-words.ensures.draft c.args.cycle (c.new-draft.ensures.draft net c.args.cycle)) in
    ap length drafted.widths ∙ length-map d.sources.items (source_width net)

pub returns-clause-whole : goal.returns-clause-whole
returns-clause-whole c = c.in_ok-frames.ensures.whole

pub returns-clause-read : goal.returns-clause-read
returns-clause-read c = c.in_ok-frames.ensures.read

pub returns-clause-roots : goal.returns-clause-roots
returns-clause-roots c =
    let net = c.args.net.now in
    let d = c.input_rows.new.draft in
    let drafted = c.in_ok-rows.ensures.draft
    (c.in_ok-words.ensures.draft c.args.cycle (c.new-draft.ensures.draft net c.args.cycle)) in
    let all : Draft = record { net = c.walk_cycles.new.frames; sources = d.sources; widths = d.widths } in
    let old : Frames = frames_of all c.in_ok-walked.walked in
    let made : AreFramed d c.walk_cycles.new.frames old = record {
      adds = c.in_ok-walked.ensures.adds;
      nodes_are = refl;
      sources_are = refl;
      widths_are = refl;
    } in
    let start = has_begun net d c.in_ok-words.words c.in_ok-start.start
    (start_on net c.starts.new.draft d 101000000 c.in_ok-words.words c.in_ok-rows.ensures.extends
    c.in_ok-words.ensures.start)
    c.in_ok-start.ensures.regs (c.in_ok-start.ensures.mems d.net) in
    shrunk_roots net c.args.cycle old c.in_ok-frames.frames c.in_ok-frames.ensures drafted.choices drafted.widths
    c.args.bad
    (framed_roots net d c.walk_cycles.new.frames old c.args.cycle _ c.args.bad c.in_ok-rows.rows.items
    c.as_slice-rows.result.now c.in_ok-start.start c.in_ok-walked.walked.roots.items drafted made
    c.in_ok-rows.ensures.rows c.in_ok-rows.ensures.each c.as_slice-rows.ensures.value start refl
    c.in_ok-walked.ensures.roots)

pub returns-clause-watch : goal.returns-clause-watch
returns-clause-watch c =
    let net = c.args.net.now in
    let d = c.input_rows.new.draft in
    let drafted = c.in_ok-rows.ensures.draft
    (c.in_ok-words.ensures.draft c.args.cycle (c.new-draft.ensures.draft net c.args.cycle)) in
    let all : Draft = record { net = c.walk_cycles.new.frames; sources = d.sources; widths = d.widths } in
    let old : Frames = frames_of all c.in_ok-walked.walked in
    let made : AreFramed d c.walk_cycles.new.frames old = record {
      adds = c.in_ok-walked.ensures.adds;
      nodes_are = refl;
      sources_are = refl;
      widths_are = refl;
    } in
    let start = has_begun net d c.in_ok-words.words c.in_ok-start.start
    (start_on net c.starts.new.draft d 101000000 c.in_ok-words.words c.in_ok-rows.ensures.extends
    c.in_ok-words.ensures.start)
    c.in_ok-start.ensures.regs (c.in_ok-start.ensures.mems d.net) in
    shrunk_watch net c.args.cycle old c.in_ok-frames.frames c.in_ok-frames.ensures drafted.choices drafted.widths
    c.args.watch.now
    (framed_watch net d c.walk_cycles.new.frames old c.args.cycle _ c.args.watch.now c.in_ok-rows.rows.items
    c.as_slice-rows.result.now c.in_ok-start.start c.in_ok-walked.walked.watch.items drafted made
    c.in_ok-rows.ensures.rows c.in_ok-rows.ensures.each c.as_slice-rows.ensures.value start refl
    c.in_ok-walked.ensures.watch)

pub returns-clause-sources : goal.returns-clause-sources
returns-clause-sources c =
    let net = c.args.net.now in
    let d = c.input_rows.new.draft in
    let drafted = c.in_ok-rows.ensures.draft
    (c.in_ok-words.ensures.draft c.args.cycle (c.new-draft.ensures.draft net c.args.cycle)) in
    let all : Draft = record { net = c.walk_cycles.new.frames; sources = d.sources; widths = d.widths } in
    let old : Frames = frames_of all c.in_ok-walked.walked in
    shrunk_choices net c.args.cycle old c.in_ok-frames.frames c.in_ok-frames.ensures drafted.choices drafted.widths

pub returns-clause-widths : goal.returns-clause-widths
returns-clause-widths c =
    let net = c.args.net.now in
    let d = c.input_rows.new.draft in
    let drafted = c.in_ok-rows.ensures.draft
    (c.in_ok-words.ensures.draft c.args.cycle (c.new-draft.ensures.draft net c.args.cycle)) in
    let all : Draft = record { net = c.walk_cycles.new.frames; sources = d.sources; widths = d.widths } in
    let old : Frames = frames_of all c.in_ok-walked.walked in
    shrunk_widths net c.args.cycle old c.in_ok-frames.frames c.in_ok-frames.ensures drafted.choices drafted.widths

pub returns-clause-distinct : goal.returns-clause-distinct
returns-clause-distinct c =
    let net = c.args.net.now in
    let d = c.input_rows.new.draft in
    let drafted = c.in_ok-rows.ensures.draft
    (c.in_ok-words.ensures.draft c.args.cycle (c.new-draft.ensures.draft net c.args.cycle)) in
    let all : Draft = record { net = c.walk_cycles.new.frames; sources = d.sources; widths = d.widths } in
    let old : Frames = frames_of all c.in_ok-walked.walked in
    let s = c.in_ok-frames.ensures in
    distinct_picked old.sources drafted.distinct c.in_ok-frames.frames.sources s.kept s.sources s.rising

pub returns-clause-chosen : goal.returns-clause-chosen
returns-clause-chosen c =
    let net = c.args.net.now in
    let d = c.input_rows.new.draft in
    let drafted = c.in_ok-rows.ensures.draft
    (c.in_ok-words.ensures.draft c.args.cycle (c.new-draft.ensures.draft net c.args.cycle)) in
    let all : Draft = record { net = c.walk_cycles.new.frames; sources = d.sources; widths = d.widths } in
    let old : Frames = frames_of all c.in_ok-walked.walked in
    let s = c.in_ok-frames.ensures in
    let f = c.in_ok-frames.frames in
    are_chosen net c.args.cycle f.widths f.sources
    (shrunk_widths net c.args.cycle old f s drafted.choices drafted.widths)
    (shrunk_choices net c.args.cycle old f s drafted.choices drafted.widths)
    (distinct_picked old.sources drafted.distinct f.sources s.kept s.sources s.rising)
