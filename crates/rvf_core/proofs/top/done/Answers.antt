use Rattle.std.proofs.Common.{Some, arith, refl}
use Rattle.rvf_core.specs.Tasks.{run_task}
use Rattle.rvf_core.specs.Works.{length_seen, task_seen}
use Rattle.rvf_core.specs.Run.{Run}
use Rattle.rvf_core.proofs.Asking.{cover_asks, run_asks, run_between, task_statuses, zb_asks}
use Rattle.rvf_core.proofs.FromChecks.{le_itself}
use Rattle.rvf_core.proofs.FromWords.{bench_ends, bench_statuses, certificate_ends, list_ends, list_statuses, lrat_ends}
use Rattle.rvf_core.proofs.FromWords.{induct_ends, induct_statuses, toaig_ends, toaig_statuses}
use Rattle.rvf_core.proofs.FromWords.{fromaig_ends, fromaig_statuses, graph_ends, graph_leaves, lrat_statuses, names_end}
use Rattle.rvf_report.specs.Outcome.{outside}
use Rattle.rvf_core.proofs.Quiet.{put_counts}
use Rattle.rvf_core.proofs.top.done.Goals as goal

pub returns-in-Run-clause-ends : goal.returns-in-Run-clause-ends
returns-in-Run-clause-ends g c =
    c.check.ensures.ends c.args.line.now
    (run_asks c.args.line.now _ _ _ _ c.bytes.result.now c.bytes-in-Run-3.result.now c.bytes-in-Run.result.now
    c.bytes-in-Run-2.result.now c.in-Run.budget c.in-Run.jobs c.in-Run.cubes c.in-Run.is c.bytes.ensures
    c.bytes-in-Run-3.ensures c.bytes-in-Run.ensures c.bytes-in-Run-2.ensures)

pub returns-in-Run-clause-statuses : goal.returns-in-Run-clause-statuses
returns-in-Run-clause-statuses g c = λ asked.
    let r : Run =
    run_between asked (outside (g.F.Files.state c.args.files.now) (g.O.Out.state c.args.out.now))
    (outside (g.F.Files.state c.check.new.files) (g.O.Out.state c.check.new.out)) in
    task_statuses (Some c.args.line.now)
    (run_task c.bytes.result.now c.bytes-in-Run-3.result.now c.bytes-in-Run.result.now c.bytes-in-Run-2.result.now
    c.in-Run.budget c.in-Run.cubes) r c.check.result
    (run_asks c.args.line.now _ _ _ _ c.bytes.result.now c.bytes-in-Run-3.result.now c.bytes-in-Run.result.now
    c.bytes-in-Run-2.result.now c.in-Run.budget c.in-Run.jobs c.in-Run.cubes c.in-Run.is c.bytes.ensures
    c.bytes-in-Run-3.ensures c.bytes-in-Run.ensures c.bytes-in-Run-2.ensures) (c.check.ensures.causes asked)

pub returns-in-Cover-clause-ends : goal.returns-in-Cover-clause-ends
returns-in-Cover-clause-ends g c =
    c.check-in-Cover.ensures.ends c.args.line.now
    (cover_asks c.args.line.now _ (task_seen c.of-work.result) c.in-Cover.is c.of-work.ensures.task)

pub returns-in-Cover-clause-statuses : goal.returns-in-Cover-clause-statuses
returns-in-Cover-clause-statuses g c = λ asked.
    let r : Run =
    run_between asked (outside (g.F.Files.state c.args.files.now) (g.O.Out.state c.args.out.now))
    (outside (g.F.Files.state c.check-in-Cover.new.files) (g.O.Out.state c.check-in-Cover.new.out)) in
    task_statuses (Some c.args.line.now) (task_seen c.of-work.result) r c.check-in-Cover.result
    (cover_asks c.args.line.now _ (task_seen c.of-work.result) c.in-Cover.is c.of-work.ensures.task)
    (c.check-in-Cover.ensures.causes asked)

pub returns-in-Zb-clause-ends : goal.returns-in-Zb-clause-ends
returns-in-Zb-clause-ends g c =
    c.check-in-Zb.ensures.ends c.args.line.now
    (zb_asks c.args.line.now _ (task_seen c.of-work-in-Zb.result) c.in-Zb.is c.of-work-in-Zb.ensures.task)

pub returns-in-Zb-clause-statuses : goal.returns-in-Zb-clause-statuses
returns-in-Zb-clause-statuses g c = λ asked.
    let r : Run =
    run_between asked (outside (g.F.Files.state c.args.files.now) (g.O.Out.state c.args.out.now))
    (outside (g.F.Files.state c.check-in-Zb.new.files) (g.O.Out.state c.check-in-Zb.new.out)) in
    task_statuses (Some c.args.line.now) (task_seen c.of-work-in-Zb.result) r c.check-in-Zb.result
    (zb_asks c.args.line.now _ (task_seen c.of-work-in-Zb.result) c.in-Zb.is c.of-work-in-Zb.ensures.task)
    (c.check-in-Zb.ensures.causes asked)

pub returns-in-List-clause-ends : goal.returns-in-List-clause-ends
returns-in-List-clause-ends g c = λ asked.
    list_ends c.args.line.now _ c.put_report.result _ c.bytes-in-List.result.now c.in-List.is c.bytes-in-List.ensures
    (names_end asked
    (outside (g.F.Files.state c.args.files.now) (g.O.Out.state c.args.out.now))
    (outside (g.F.Files.state c.list.new.files) (g.O.Out.state c.args.out.now))
    (outside (g.F.Files.state c.put_report.new.files) (g.O.Out.state c.put_report.new.out))
    c.list.ensures.kept refl c.list.ensures.unwritten refl c.list.ensures.faults_grow
    (le_itself (g.O.Out.state c.args.out.now).faults)
    (omega (arith, c.put_report.ensures.misses_kept)) c.put_report.ensures.faults_grow c.put_report.ensures.unheard
    c.bytes-in-List.result.now c.list.result c.put_report.result c.list.ensures.says c.list.ensures.read_on
    c.put_report.ensures.puts)

pub returns-in-List-clause-statuses : goal.returns-in-List-clause-statuses
returns-in-List-clause-statuses g c = λ asked.
    let r : Run =
    run_between asked (outside (g.F.Files.state c.args.files.now) (g.O.Out.state c.args.out.now))
    (outside (g.F.Files.state c.put_report.new.files) (g.O.Out.state c.put_report.new.out)) in
    list_statuses c.args.line.now r c.put_report.result _ c.in-List.is

pub returns-in-Lrat-clause-ends : goal.returns-in-Lrat-clause-ends
returns-in-Lrat-clause-ends g c = λ asked.
    lrat_ends c.args.line.now _ c.put_report-in-Lrat.result _ _ c.bytes-in-Lrat.result.now
    c.bytes-in-Lrat-2.result.now c.in-Lrat.is c.bytes-in-Lrat.ensures c.bytes-in-Lrat-2.ensures
    (certificate_ends asked
    (outside (g.F.Files.state c.args.files.now) (g.O.Out.state c.args.out.now))
    (outside (g.F.Files.state c.refute-report.new.files) (g.O.Out.state c.args.out.now))
    (outside (g.F.Files.state c.put_report-in-Lrat.new.files) (g.O.Out.state c.put_report-in-Lrat.new.out))
    c.refute-report.ensures.kept refl c.refute-report.ensures.unwritten refl c.refute-report.ensures.faults_grow
    (le_itself (g.O.Out.state c.args.out.now).faults)
    (omega (arith, c.put_report-in-Lrat.ensures.misses_kept)) c.put_report-in-Lrat.ensures.faults_grow
    c.put_report-in-Lrat.ensures.unheard
    c.bytes-in-Lrat.result.now c.bytes-in-Lrat-2.result.now c.refute-report.result c.put_report-in-Lrat.result
    c.refute-report.ensures.says c.refute-report.ensures.read_on c.put_report-in-Lrat.ensures.puts)

pub returns-in-Lrat-clause-statuses : goal.returns-in-Lrat-clause-statuses
returns-in-Lrat-clause-statuses g c = λ asked.
    let r : Run =
    run_between asked (outside (g.F.Files.state c.args.files.now) (g.O.Out.state c.args.out.now))
    (outside (g.F.Files.state c.put_report-in-Lrat.new.files) (g.O.Out.state c.put_report-in-Lrat.new.out)) in
    lrat_statuses c.args.line.now r c.put_report-in-Lrat.result _ _ c.in-Lrat.is

pub returns-in-Bench-clause-ends : goal.returns-in-Bench-clause-ends
returns-in-Bench-clause-ends g c = λ asked.
    bench_ends c.args.line.now _ c.bench.result c.in-Bench.size c.in-Bench.is (c.bench.ensures.ends asked)

pub returns-in-Bench-clause-statuses : goal.returns-in-Bench-clause-statuses
returns-in-Bench-clause-statuses g c = λ asked.
    let r : Run =
    run_between asked (outside (g.F.Files.state c.args.files.now) (g.O.Out.state c.args.out.now))
    (outside (g.F.Files.state c.bench.new.files) (g.O.Out.state c.bench.new.out)) in
    bench_statuses c.args.line.now r c.bench.result c.in-Bench.size c.in-Bench.is

pub returns-in-List-clause-counts : goal.returns-in-List-clause-counts
returns-in-List-clause-counts g c =
    put_counts
    (outside (g.F.Files.state c.args.files.now) (g.O.Out.state c.args.out.now))
    (outside (g.F.Files.state c.list.new.files) (g.O.Out.state c.args.out.now))
    (outside (g.F.Files.state c.put_report.new.files) (g.O.Out.state c.put_report.new.out))
    (record {
      held = c.list.ensures.kept;
      sent = refl;
      written = c.list.ensures.unwritten;
      taken = refl;
      faults = c.list.ensures.faults_grow;
      out_faults = le_itself (g.O.Out.state c.args.out.now).faults;
    })
    refl c.list.result c.put_report.result c.list.ensures.told c.put_report.ensures.puts c.put_report.ensures.quiet

pub returns-in-Lrat-clause-counts : goal.returns-in-Lrat-clause-counts
returns-in-Lrat-clause-counts g c =
    put_counts
    (outside (g.F.Files.state c.args.files.now) (g.O.Out.state c.args.out.now))
    (outside (g.F.Files.state c.refute-report.new.files) (g.O.Out.state c.args.out.now))
    (outside (g.F.Files.state c.put_report-in-Lrat.new.files) (g.O.Out.state c.put_report-in-Lrat.new.out))
    (record {
      held = c.refute-report.ensures.kept;
      sent = refl;
      written = c.refute-report.ensures.unwritten;
      taken = refl;
      faults = c.refute-report.ensures.faults_grow;
      out_faults = le_itself (g.O.Out.state c.args.out.now).faults;
    })
    refl c.refute-report.result c.put_report-in-Lrat.result c.refute-report.ensures.told
    c.put_report-in-Lrat.ensures.puts c.put_report-in-Lrat.ensures.quiet

pub returns-in-Fromaig-clause-ends : goal.returns-in-Fromaig-clause-ends
returns-in-Fromaig-clause-ends g c = λ asked.
    fromaig_ends c.args.line.now _ c.put_report-in-Fromaig.result _ _ c.bytes-in-Fromaig.result.now
    c.bytes-in-Fromaig-2.result.now c.in-Fromaig.is c.bytes-in-Fromaig.ensures c.bytes-in-Fromaig-2.ensures
    (graph_ends asked
    (outside (g.F.Files.state c.args.files.now) (g.O.Out.state c.args.out.now))
    (outside (g.F.Files.state c.encode-report.new.files) (g.O.Out.state c.args.out.now))
    (outside (g.F.Files.state c.put_report-in-Fromaig.new.files) (g.O.Out.state c.put_report-in-Fromaig.new.out))
    c.encode-report.ensures.kept refl c.encode-report.ensures.unwritten refl c.encode-report.ensures.faults_grow
    (le_itself (g.O.Out.state c.args.out.now).faults)
    (omega (arith, c.put_report-in-Fromaig.ensures.misses_kept)) c.put_report-in-Fromaig.ensures.faults_grow
    c.put_report-in-Fromaig.ensures.unheard
    c.bytes-in-Fromaig.result.now c.bytes-in-Fromaig-2.result.now c.encode-report.result c.put_report-in-Fromaig.result
    c.encode-report.ensures.says c.encode-report.ensures.read_on c.put_report-in-Fromaig.ensures.puts)

pub returns-in-Fromaig-clause-statuses : goal.returns-in-Fromaig-clause-statuses
returns-in-Fromaig-clause-statuses g c = λ asked.
    let r : Run =
    run_between asked (outside (g.F.Files.state c.args.files.now) (g.O.Out.state c.args.out.now))
    (outside (g.F.Files.state c.put_report-in-Fromaig.new.files) (g.O.Out.state c.put_report-in-Fromaig.new.out)) in
    fromaig_statuses c.args.line.now r c.put_report-in-Fromaig.result _ _ c.bytes-in-Fromaig-2.result.now
    c.in-Fromaig.is c.bytes-in-Fromaig-2.ensures
    (graph_leaves asked
    (outside (g.F.Files.state c.args.files.now) (g.O.Out.state c.args.out.now))
    (outside (g.F.Files.state c.encode-report.new.files) (g.O.Out.state c.args.out.now))
    (outside (g.F.Files.state c.put_report-in-Fromaig.new.files) (g.O.Out.state c.put_report-in-Fromaig.new.out))
    c.encode-report.ensures.kept refl c.encode-report.ensures.unwritten refl c.encode-report.ensures.faults_grow
    (le_itself (g.O.Out.state c.args.out.now).faults)
    (omega (arith, c.put_report-in-Fromaig.ensures.misses_kept)) c.put_report-in-Fromaig.ensures.faults_grow
    c.put_report-in-Fromaig.ensures.unheard
    c.bytes-in-Fromaig.result.now c.bytes-in-Fromaig-2.result.now c.encode-report.result c.put_report-in-Fromaig.result
    c.encode-report.ensures.says c.put_report-in-Fromaig.ensures.puts)

pub returns-in-Fromaig-clause-counts : goal.returns-in-Fromaig-clause-counts
returns-in-Fromaig-clause-counts g c =
    put_counts
    (outside (g.F.Files.state c.args.files.now) (g.O.Out.state c.args.out.now))
    (outside (g.F.Files.state c.encode-report.new.files) (g.O.Out.state c.args.out.now))
    (outside (g.F.Files.state c.put_report-in-Fromaig.new.files) (g.O.Out.state c.put_report-in-Fromaig.new.out))
    (record {
      held = c.encode-report.ensures.kept;
      sent = refl;
      written = c.encode-report.ensures.unwritten;
      taken = refl;
      faults = c.encode-report.ensures.faults_grow;
      out_faults = le_itself (g.O.Out.state c.args.out.now).faults;
    })
    refl c.encode-report.result c.put_report-in-Fromaig.result c.encode-report.ensures.told
    c.put_report-in-Fromaig.ensures.puts c.put_report-in-Fromaig.ensures.quiet

pub returns-in-Toaig-clause-ends : goal.returns-in-Toaig-clause-ends
returns-in-Toaig-clause-ends g c = λ asked.
    toaig_ends c.args.line.now _ c.export.result _ _ _ _ _ c.bytes-in-Toaig.result.now c.bytes-in-Toaig-2.result.now
    c.bytes-in-Toaig-3.result.now c.bytes-in-Toaig-4.result.now c.bytes-in-Toaig-5.result.now c.in-Toaig.is
    c.bytes-in-Toaig.ensures c.bytes-in-Toaig-2.ensures c.bytes-in-Toaig-3.ensures c.bytes-in-Toaig-4.ensures
    c.bytes-in-Toaig-5.ensures (c.export.ensures.ends asked)

pub returns-in-Toaig-clause-statuses : goal.returns-in-Toaig-clause-statuses
returns-in-Toaig-clause-statuses g c = λ asked.
    toaig_statuses c.args.line.now _ c.export.result _ _ _ _ _ c.bytes-in-Toaig.result.now c.bytes-in-Toaig-2.result.now
    c.bytes-in-Toaig-3.result.now c.bytes-in-Toaig-4.result.now c.bytes-in-Toaig-5.result.now c.in-Toaig.is
    c.bytes-in-Toaig.ensures c.bytes-in-Toaig-2.ensures c.bytes-in-Toaig-3.ensures c.bytes-in-Toaig-4.ensures
    c.bytes-in-Toaig-5.ensures (c.export.ensures.statuses asked)

pub returns-in-Induct-clause-ends : goal.returns-in-Induct-clause-ends
returns-in-Induct-clause-ends g c = λ asked.
    induct_ends c.args.line.now _ c.lengths.result (length_seen c.of-order.result) c.in-Induct.options c.in-Induct.steps
    c.in-Induct.is c.of-order.ensures.line (c.lengths.ensures.ends asked)

pub returns-in-Induct-clause-statuses : goal.returns-in-Induct-clause-statuses
returns-in-Induct-clause-statuses g c = λ asked.
    induct_statuses c.args.line.now _ c.lengths.result (length_seen c.of-order.result) c.in-Induct.options
    c.in-Induct.steps c.in-Induct.is c.of-order.ensures.line (c.lengths.ensures.statuses asked)
