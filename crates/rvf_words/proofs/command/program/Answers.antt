use Rattle.std.proofs.Common.{◌≡◌, ap, ap₂, ◌∙◌}
use Rattle.std.proofs.lemmas.Result.{IfOk-weaker}
use Rattle.clap.specs.Words.{App, Shape, app_of, with_subcommand}
use Rattle.rvf_words.specs.Table as table
use Rattle.rvf_words.proofs.command.program.Goals as goal

abbrev top_of : App → Shape
top_of a = a.top

abbrev with_run : App
with_run = with_subcommand table.alone table.run.top

abbrev with_list : App
with_list = with_subcommand with_run table.list.top

abbrev with_lrat : App
with_lrat = with_subcommand with_list table.lrat.top

abbrev with_bench : App
with_bench = with_subcommand with_lrat table.bench.top

abbrev with_cover : App
with_cover = with_subcommand with_bench table.cover.top

abbrev with_zb : App
with_zb = with_subcommand with_cover table.zb.top

abbrev with_induct : App
with_induct = with_subcommand with_zb table.induct.top

abbrev with_toaig : App
with_toaig = with_subcommand with_induct table.toaig.top

pub returns : goal.returns
returns c =
    let run_is : app_of c.in_ok-checks.checks ≡ with_run =
    c.in_ok-checks.ensures ∙ ap₂ with_subcommand c.alone.ensures (ap top_of c.in_ok-run.ensures.shape) in
    let list_is : app_of c.in_ok-names.names ≡ with_list =
    c.in_ok-names.ensures ∙ ap₂ with_subcommand run_is (ap top_of c.in_ok-list.ensures.shape) in
    let lrat_is : app_of c.in_ok-proofs.proofs ≡ with_lrat =
    c.in_ok-proofs.ensures ∙ ap₂ with_subcommand list_is (ap top_of c.in_ok-lrat.ensures.shape) in
    let bench_is : app_of c.in_ok-benches.benches ≡ with_bench =
    c.in_ok-benches.ensures ∙ ap₂ with_subcommand lrat_is (ap top_of c.in_ok-bench.ensures.shape) in
    let cover_is : app_of c.in_ok-targets.targets ≡ with_cover =
    c.in_ok-targets.ensures ∙ ap₂ with_subcommand bench_is (ap top_of c.in_ok-cover.ensures.shape) in
    let zb_is : app_of c.in_ok-bits.bits ≡ with_zb =
    c.in_ok-bits.ensures ∙ ap₂ with_subcommand cover_is (ap top_of c.in_ok-zb.ensures.shape) in
    let induct_is : app_of c.in_ok-lengths.lengths ≡ with_induct =
    c.in_ok-lengths.ensures ∙ ap₂ with_subcommand zb_is (ap top_of c.in_ok-induct.ensures.shape) in
    let toaig_is : app_of c.in_ok-graphs.graphs ≡ with_toaig =
    c.in_ok-graphs.ensures ∙ ap₂ with_subcommand induct_is (ap top_of c.in_ok-toaig.ensures.shape) in
    IfOk-weaker c.below-9.result _ _
    (λ m h. h ∙ ap₂ with_subcommand toaig_is (ap top_of c.in_ok-fromaig.ensures.shape)) c.below-9.ensures
