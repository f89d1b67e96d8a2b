use Rattle.std.proofs.Common.{arith}
use Rattle.fv_base.specs.declared.out.OutFault.TheVariants as out
use Rattle.rvf_report.proofs.Standing.{breaks, concludes, cut_by, unless_broken, wants}
use Rattle.rvf_report.proofs.reporting.conclude.Goals as goal

pub returns-in-Ok : goal.returns-in-Ok
returns-in-Ok g c =
    record {
      concluded = concludes (g.Q.Inquiry.plan c.args.inquiry.now) c.status.result c.in-Ok.tally _ _
          c.status.ensures.value c.status.ensures.own c.in-Ok.ensures.0;
      unheard = c.in-Ok.ensures.1.heard;
      misses_kept = c.in-Ok.ensures.1.misses;
      faults_grow = omega (arith, c.in-Ok.ensures.1.faults);
      out_faults_grow = omega (arith, c.in-Ok.ensures.1.out_faults);
      quiet = unless_broken c.status.result _ c.status.ensures.own
          (c.in-Ok.ensures.1.faults, c.in-Ok.ensures.1.out_faults);
    }

pub returns-in-Err-Failed : goal.returns-in-Err-Failed
returns-in-Err-Failed g c =
    let plan = g.Q.Inquiry.plan c.args.inquiry.now in
    let cut =
    cut_by plan _ _ c.in-Err-Failed.field-0 out.Failed c.in-Err-Failed.field-0-is c.in-Err-Failed.ensures in
    record {
      concluded = breaks plan _ _ cut;
      unheard = cut.counts.heard;
      misses_kept = cut.counts.misses;
      faults_grow = cut.counts.faults;
      out_faults_grow = cut.counts.out_faults;
      quiet = tt;
    }

pub returns-in-Err-Memory : goal.returns-in-Err-Memory
returns-in-Err-Memory g c =
    let plan = g.Q.Inquiry.plan c.args.inquiry.now in
    let cut =
    cut_by plan _ _ c.in-Err-Memory.field-0 out.Memory c.in-Err-Memory.field-0-is c.in-Err-Memory.ensures in
    record {
      concluded = wants plan _ _ cut;
      unheard = cut.counts.heard;
      misses_kept = cut.counts.misses;
      faults_grow = omega (arith, cut.counts.faults);
      out_faults_grow = omega (arith, cut.counts.out_faults);
      quiet = (cut.counts.faults, cut.counts.out_faults);
    }
