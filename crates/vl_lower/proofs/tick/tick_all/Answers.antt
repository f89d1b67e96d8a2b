use Rattle.std.specs.Prelude.{refl, ℕ, List, [], ◌∷◌, ◌++◌, length, take}
use Rattle.std.proofs.Common.{ap, sym, ◌∙◌, subst}
use Rattle.std.proofs.lemmas.List.{take_all}
use Rattle.std.proofs.lemmas.Option.{slice_get_read}
use Rattle.vl_mean.specs.declared.driver.Driver.{Driver}
use Rattle.vl_lower_assign.specs.declared.frame.Frame.{Frame}
use Rattle.vl_lower_assign.specs.Frames.{cells_of}
use Rattle.vl_lower_cell_laws.specs.Ticked.{stored_by}
use Rattle.vl_lower_cell_laws.specs.Left.{seen_at_edge}
use Rattle.vl_lower_cell_laws.specs.Cycles.{TicksAll}
use Rattle.vl_lower_cell_laws.proofs.Turning.{grow}
use Rattle.vl_lower.proofs.Driving.{handed, take_get}
use Rattle.vl_lower.proofs.tick.tick_all.Goals as goal

pub loop-at-preserved : goal.loop-at-preserved
loop-at-preserved c =
    let ds = c.args.layout.decls.now in
    let drivers = c.args.drivers.now in
    let x : Driver = c.index-drivers-at.result in
    let at = slice_get_read drivers (length drivers) c.loop-at.at x refl c.loop-at-test.true c.index-drivers-at.is in
    let old = c.args.net.now in
    let new = c.tick.new.net in
    let f = cells_of c.args.frame.now in
    let h = cells_of c.tick.new.frame in
    let k = cells_of c.hand_over.new.frame in
    let inv = c.loop-at.invariant in
    let given = c.in_ok-hand_over.ensures.frame in
    let acted = c.in_ok-tick.ensures in
    let one = handed ds c.loop-at.net new (cells_of c.loop-at.frame) h k h.assumed refl
    (ap (λ (fr : Frame). fr.now.items) given) (ap (λ (fr : Frame). fr.next.items) given)
    (ap (λ (fr : Frame). fr.assumed) given) (ap (λ (fr : Frame). fr.tracks.items) given) (λ v. v) (stored_by ds x.what) (seen_at_edge ds x.what) acted.ticks in
    let more =
    (grow ds drivers old c.loop-at.net new f (cells_of c.loop-at.frame) k c.loop-at.nodes h.assumed).ticks_more
    (take c.loop-at.at drivers) x inv.done one in
    let P : List ℕ → Type 0 = λ ids. TicksAll ds old new f k ids (take c.loop-at.at drivers ++ x ∷ []) in
    let Q : List Driver → Type 0 = λ xs. TicksAll ds old new f k c.hand_over.new.nodes xs in record {
      done =
          subst Q (sym (take_get drivers c.loop-at.at x at)) (subst P (sym c.in_ok-hand_over.ensures.nodes) more);
      empty = ap (λ (fr : Frame). fr.assumed) given;
      log = ap (λ (fr : Frame). fr.log) given ∙ acted.log;
      now = ap (λ (fr : Frame). fr.now.items) given ∙ acted.now ∙ inv.now;
    }

pub returns-clause-ticks : goal.returns-clause-ticks
returns-clause-ticks c =
    let Q : List Driver → Type 0 = λ xs.
    TicksAll c.args.layout.decls.now c.args.net.now c.loop-at.net (cells_of c.args.frame.now) (cells_of c.loop-at.frame)
    c.loop-at.nodes xs in
    subst Q (take_all c.loop-at.at c.args.drivers.now c.loop-at-test.false) c.loop-at.invariant.done
