use Rattle.std.specs.Prelude.{◌≡◌, ◌+◌, ◌*◌, ◌^◌, ℕ, List, [], ◌∷◌, ◌++◌, length}
use Rattle.std.proofs.Common.{ap, sym, subst, arith, ◌∙◌}
use Rattle.bm_unroll.specs.Draft.{HasRows, IsDraft}
use Rattle.bm_unroll.proofs.Drafting.{extends_more, room_left}
use Rattle.bm_unroll.proofs.Rows.{laying_next, laying_none}
use Rattle.bm_unroll.proofs.inputs.input_rows.Goals as goal

pub loop-number-init : goal.loop-number-init
loop-number-init c = laying_none c.args.net.now c.args.draft.now c.args.cycle _ c.in_ok-made.ensures.items c.requires.room.each

pub input_row-requires-clause-room : goal.input_row-requires-clause-room
input_row-requires-clause-room c =
    room_left c.args.draft.now c.loop-number.draft (c.loop-number.number * 1000000) 1000000 101000000
    (omega (arith, c.requires.cycle)) c.loop-number.invariant.extends c.requires.room

pub input_row-requires-clause-count : goal.input_row-requires-clause-count
input_row-requires-clause-count c = ap length c.as_slice-done.ensures.value ∙ c.loop-number.invariant.each

pub input_row-requires-clause-rows : goal.input_row-requires-clause-rows
input_row-requires-clause-rows c =
    let P : List (List ℕ) → Type 0 = λ rows. HasRows c.args.net.now c.loop-number.draft rows in
    subst P (sym c.as_slice-done.ensures.value) c.loop-number.invariant.own

pub loop-number-preserved : goal.loop-number-preserved
loop-number-preserved c =
    let net = c.args.net.now in
    let new = c.input_row.new.draft in
    let P : List (List ℕ) → Type 0 = λ rows. HasRows net new (rows ++ c.in_ok-row.row ∷ []) in
    laying_next net c.args.draft.now c.loop-number.draft new c.args.cycle c.loop-number.number
    c.loop-number.made.items c.push.new.self.items c.in_ok-row.row (omega arith) c.loop-number.invariant
    c.in_ok-row.ensures.extends (subst P c.as_slice-done.ensures.value c.in_ok-row.ensures.row)
    c.in_ok-row.ensures.draft c.in_ok-push.ensures.items

pub returns-clause-extends : goal.returns-clause-extends
returns-clause-extends c =
    extends_more c.args.draft.now c.loop-number.draft (c.loop-number.number * 1000000) 101000000
    (omega (arith, c.loop-number.invariant.low, c.requires.cycle)) c.loop-number.invariant.extends

pub returns-clause-each : goal.returns-clause-each
returns-clause-each c = omega (arith, c.loop-number.invariant.each, c.loop-number.invariant.low)

pub returns-clause-rows : goal.returns-clause-rows
returns-clause-rows c = c.loop-number.invariant.own

pub returns-clause-draft : goal.returns-clause-draft
returns-clause-draft c = λ h.
    let all : c.loop-number.number ≡ c.args.cycle + 1 = omega (arith, c.loop-number.invariant.low) in
    let D : ℕ → Type 0 = λ m. IsDraft c.args.net.now c.args.cycle (2 ^ 66 + m * 2 ^ 32) c.loop-number.draft in
    subst D all (c.loop-number.invariant.draft h)
