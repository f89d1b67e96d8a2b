use Rattle.std.specs.Prelude.{◌≡◌, refl, ℕ, List, [], ◌∷◌, ◌++◌, length, take, slice_get, slice_index_or, false}
use Rattle.std.proofs.Common.{ap, sym, ◌∙◌, subst}
use Rattle.std.proofs.lemmas.List.{take_all}
use Rattle.std.proofs.lemmas.Option.{same_Some, slice_get_read, slice_get_within}
use Rattle.vl_mean.specs.FlatLaw.{IsDriver}
use Rattle.vl_mean.specs.declared.driver.Driver.{Driver}
use Rattle.vl_flow_spec.specs.Drivers.{is_clocked}
use Rattle.vl_flow_spec.specs.Settle.{driven}
use Rattle.vl_flow_spec.proofs.Elements.{all_at}
use Rattle.vl_lower_assign.specs.declared.frame.Frame.{Frame}
use Rattle.vl_lower_assign.specs.Frames.{cells_of}
use Rattle.vl_lower_cell_laws.specs.Left.{left_by, seen_by}
use Rattle.vl_lower_cell_laws.specs.Cycles.{SettlesAll}
use Rattle.vl_lower_cell_laws.proofs.Turning.{grow}
use Rattle.vl_lower.proofs.Driving.{get_index, handed, settled_some, take_get}
use Rattle.vl_lower.proofs.settle.settle_all.Goals as goal

pub bounds-drivers-number : goal.bounds-drivers-number
bounds-drivers-number c =
    let i = slice_index_or c.args.sequence.now c.loop-at.at 0 in
    let s = settled_some (slice_get c.args.drivers.now i)
    (c.requires.sequence c.loop-at.at i (get_index c.args.sequence.now c.loop-at.at c.loop-at-test.true)) in
    slice_get_within c.args.drivers.now i s.0 s.1

pub settle-requires-clause-driver : goal.settle-requires-clause-driver
settle-requires-clause-driver c =
    let ds = c.args.layout.decls.now in
    let drivers = c.args.drivers.now in
    let i = slice_index_or c.args.sequence.now c.loop-at.at 0 in
    let s = settled_some (slice_get drivers i)
    (c.requires.sequence c.loop-at.at i (get_index c.args.sequence.now c.loop-at.at c.loop-at-test.true)) in
    all_at (λ x. IsDriver ds x.what) drivers i c.index-drivers-number.result
    (slice_get_read drivers (length drivers) i c.index-drivers-number.result refl
    (slice_get_within drivers i s.0 s.1) c.index-drivers-number.is) c.requires.drivers

pub settle-requires-clause-settled : goal.settle-requires-clause-settled
settle-requires-clause-settled c =
    let drivers = c.args.drivers.now in
    let i = slice_index_or c.args.sequence.now c.loop-at.at 0 in
    let s = settled_some (slice_get drivers i)
    (c.requires.sequence c.loop-at.at i (get_index c.args.sequence.now c.loop-at.at c.loop-at-test.true)) in
    let at = slice_get_read drivers (length drivers) i c.index-drivers-number.result refl
    (slice_get_within drivers i s.0 s.1) c.index-drivers-number.is in
    subst (λ (x : Driver). is_clocked x.what ≡ false) (same_Some s.0 c.index-drivers-number.result (sym s.1 ∙ at)) s.2

pub loop-at-preserved : goal.loop-at-preserved
loop-at-preserved c =
    let ds = c.args.layout.decls.now in
    let drivers = c.args.drivers.now in
    let numbers = c.args.sequence.now in
    let i = slice_index_or numbers c.loop-at.at 0 in
    let x : Driver = c.index-drivers-number.result in
    let s = settled_some (slice_get drivers i)
    (c.requires.sequence c.loop-at.at i (get_index numbers c.loop-at.at c.loop-at-test.true)) in
    let at = slice_get_read drivers (length drivers) i x refl (slice_get_within drivers i s.0 s.1)
    c.index-drivers-number.is in
    let old = c.args.net.now in
    let new = c.settle.new.net in
    let f = cells_of c.args.frame.now in
    let h = cells_of c.settle.new.frame in
    let k = cells_of c.hand_over.new.frame in
    let inv = c.loop-at.invariant in
    let given = c.in_ok-hand_over.ensures.frame in
    let one = handed ds c.loop-at.net new (cells_of c.loop-at.frame) h k h.assumed refl
    (ap (λ (fr : Frame). fr.now.items) given) (ap (λ (fr : Frame). fr.next.items) given)
    (ap (λ (fr : Frame). fr.assumed) given) (ap (λ (fr : Frame). fr.tracks.items) given) (driven ds x.what) (left_by ds x.what) (seen_by ds x.what)
    c.in_ok-settle.ensures in
    let more =
    (grow ds drivers old c.loop-at.net new f (cells_of c.loop-at.frame) k c.loop-at.nodes h.assumed).settles_more
    (take c.loop-at.at numbers) i x at inv.done one in
    let P : List ℕ → Type 0 = λ ids. SettlesAll ds old new f k ids drivers (take c.loop-at.at numbers ++ i ∷ []) in
    let Q : List ℕ → Type 0 = λ js. SettlesAll ds old new f k c.hand_over.new.nodes drivers js in record {
      done =
          subst Q (sym (take_get numbers c.loop-at.at i (get_index numbers c.loop-at.at c.loop-at-test.true)))
          (subst P (sym c.in_ok-hand_over.ensures.nodes) more);
      empty = ap (λ (fr : Frame). fr.assumed) given;
    }

pub returns-clause-settled : goal.returns-clause-settled
returns-clause-settled c =
    let Q : List ℕ → Type 0 = λ js.
    SettlesAll c.args.layout.decls.now c.args.net.now c.loop-at.net (cells_of c.args.frame.now)
    (cells_of c.loop-at.frame) c.loop-at.nodes c.args.drivers.now js in
    subst Q (take_all c.loop-at.at c.args.sequence.now c.loop-at-test.false) c.loop-at.invariant.done
