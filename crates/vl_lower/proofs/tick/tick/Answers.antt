use Rattle.std.specs.Prelude.{refl}
use Rattle.std.proofs.Common.{sym, subst}
use Rattle.vl_mean.specs.declared.driver.DriverKind.{DriverKind}
use Rattle.vl_lower_assign.specs.Frames.{cells_of}
use Rattle.vl_lower_cell_laws.specs.Cycles.{Ticks}
use Rattle.vl_lower.proofs.Driving.{block_ticks, none_ticks, unclocked}
use Rattle.vl_lower.proofs.tick.tick.Goals as goal

pub returns-in_ok-execute-clause-ticks : goal.returns-in_ok-execute-clause-ticks
returns-in_ok-execute-clause-ticks c =
    let ds = c.args.layout.decls.now in
    let old = c.args.net.now in
    let new = c.execute.new.net in
    let f = cells_of c.args.frame.now in
    let b = cells_of c.take_back.new.frame in
    let P : DriverKind → Type 0 = λ x. Ticks ds old new f b b.assumed x in
    subst P (sym c.in-Clocked.is)
    (block_ticks ds old new f (cells_of c.execute.new.frame) c.requires.empty c.in-Clocked.stmt b c.requires.frame
    c.requires.log c.in_ok-execute.ensures c.take_back.ensures.now c.take_back.ensures.next c.take_back.ensures.assumed
    c.take_back.ensures.tracks)

pub returns-in_default : goal.returns-in_default
returns-in_default c = record {
  ticks =
      none_ticks c.args.layout.decls.now c.args.net.now (cells_of c.args.frame.now) c.requires.frame c.requires.empty
      c.args.driver.now.what (unclocked c.args.driver.now.what (λ s e. c.in_default.not-Clocked s e));
  now = refl;
  log = c.requires.log;
}
