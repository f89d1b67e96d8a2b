use Rattle.std.specs.Prelude.{ℕ, Vec}
use Rattle.std.specs.declared.alloc.Global.{Global}
use Rattle.std.proofs.Common.{[], ◌∷◌, Err, ap}
use Rattle.fv_base.specs.Events.{read_events}
use Rattle.fv_base.specs.declared.event.Event.TheVariants.{Gave}
use Rattle.rvf_case.proofs.Files.{reads_bytes, reads_fault}
use Rattle.rvf_case.proofs.Quiet.{becomes_quiet}
use Rattle.rvf_case.proofs.reading.read_file.Goals as goal

pub returns-in-Ok-clause-reads : goal.returns-in-Ok-clause-reads
returns-in-Ok-clause-reads g c = record {
  events = Gave c.args.name.now c.in-Ok.bytes.items ∷ [];
  behind = c.in-Ok.ensures.heard;
  are = reads_bytes c.args.name.now c.in-Ok.bytes.items c.from_vec.result _ c.from_vec.ensures c.in-Ok.ensures.bytes;
}

pub returns-in-Err-clause-reads : goal.returns-in-Err-clause-reads
returns-in-Err-clause-reads g c = record {
  events = read_events c.args.name.now (Err c.in-Err.fault);
  behind = c.in-Err.ensures.heard;
  are = reads_fault c.unread.result c.in-Err.fault c.args.name.now _ c.unread.ensures
      (λ is. c.in-Err.ensures.absent (ap (λ fault. Err fault) is))
      (λ is. c.in-Err.ensures.missed (ap (λ fault. Err fault) is))
      (λ is. c.in-Err.ensures.failed (ap (λ fault. Err fault) is));
}

pub returns-in-Err-clause-quiet : goal.returns-in-Err-clause-quiet
returns-in-Err-clause-quiet g c =
    becomes_quiet (Vec ℕ Global) c.unread.result c.in-Err.fault c.args.name.now _ c.unread.ensures
    c.in-Err.ensures.quiet
