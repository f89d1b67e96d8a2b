use Rattle.std.specs.Prelude.{ℕ, ◌+◌, ◌*◌, ◌^◌, ◌<◌, ◌==◌, Some}
use Rattle.std.proofs.Common.{ap, sym, ◌∙◌, subst, arith}
use Rattle.std.proofs.lemmas.Option.{IfSome_then}
use Rattle.wn_net.specs.declared.parts.Input.{Input}
use Rattle.wn_net.specs.declared.parts.InputKind.{InputKind}
use Rattle.wn_run.specs.Runs.{by_kind, reset_at}
use Rattle.bm_unroll.specs.Draft.{Means}
use Rattle.bm_unroll.proofs.Items.{get_mapped, index_mapped}
use Rattle.bm_unroll.proofs.Drafting.{draft_more, extends_more, room_less}
use Rattle.bm_unroll.proofs.Rows.{bit_fits}
use Rattle.bm_unroll.proofs.inputs.input_node.Goals as goal

pub once_node-requires-clause-before : goal.once_node-requires-clause-before
once_node-requires-clause-before c =
    IfSome_then c.args.before c.requires.before (λ id own. own c.in-Once.is)

pub known-requires-clause-room : goal.known-requires-clause-room
known-requires-clause-room c = room_less c.args.draft.now 0 1 (omega arith) c.requires.room

pub returns-in_ok-each-in-EachCycle-clause-means : goal.returns-in_ok-each-in-EachCycle-clause-means
returns-in_ok-each-in-EachCycle-clause-means c =
    let i = c.args.index in
    let k = c.args.cycle in
    let P : InputKind → Type 0 = λ kind. Means c.source.new.self c.args.input.now.width
    (λ ch. by_kind (ch.each_cycle k i) (ch.once i) (reset_at k) kind) c.in_ok-each-in-EachCycle.each in
    subst P (sym c.in-EachCycle.is) c.in_ok-each-in-EachCycle.ensures.means

pub returns-in_ok-each-in-EachCycle-clause-draft : goal.returns-in_ok-each-in-EachCycle-clause-draft
returns-in_ok-each-in-EachCycle-clause-draft c = λ net last bound h at low past.
    c.in_ok-each-in-EachCycle.ensures.draft net last bound h
    (get_mapped (λ (x : Input). x.kind) net.inputs c.args.index c.args.input.now at ∙ ap Some c.in-EachCycle.is, low)
    (sym (index_mapped (λ (x : Input). x.width) net.inputs c.args.index c.args.input.now at)) past

pub returns-in_ok-once-in-Once-clause-means : goal.returns-in_ok-once-in-Once-clause-means
returns-in_ok-once-in-Once-clause-means c =
    let i = c.args.index in
    let k = c.args.cycle in
    let P : InputKind → Type 0 = λ kind. Means c.once_node.new.draft c.args.input.now.width
    (λ ch. by_kind (ch.each_cycle k i) (ch.once i) (reset_at k) kind) c.in_ok-once-in-Once.once in
    subst P (sym c.in-Once.is) c.in_ok-once-in-Once.ensures.means

pub returns-in_ok-once-in-Once-clause-draft : goal.returns-in_ok-once-in-Once-clause-draft
returns-in_ok-once-in-Once-clause-draft c = λ net last bound h at low past.
    c.in_ok-once-in-Once.ensures.draft net last bound (2 ^ 66 + c.args.cycle * 2 ^ 32 + c.args.index + 1) h
    (get_mapped (λ (x : Input). x.kind) net.inputs c.args.index c.args.input.now at ∙ ap Some c.in-Once.is)
    (sym (index_mapped (λ (x : Input). x.width) net.inputs c.args.index c.args.input.now at))
    (λ none. let zero_is = c.requires.first none in omega (arith, past, zero_is)) (omega (arith, past)) (omega arith)

pub returns-in_ok-reset-in-Reset-clause-extends : goal.returns-in_ok-reset-in-Reset-clause-extends
returns-in_ok-reset-in-Reset-clause-extends c =
    extends_more c.args.draft.now c.known.new.self 0 1 (omega arith) c.in_ok-reset-in-Reset.ensures.extends

pub returns-in_ok-reset-in-Reset-clause-draft : goal.returns-in_ok-reset-in-Reset-clause-draft
returns-in_ok-reset-in-Reset-clause-draft c = λ net last bound h at low past.
    draft_more net last bound _ _ (omega (arith, past)) (c.in_ok-reset-in-Reset.ensures.draft net last bound h)

pub known-requires-clause-fits : goal.known-requires-clause-fits
known-requires-clause-fits c =
    let P : ℕ → Type 0 = λ n. n < 2 ^ c.args.input.now.width in
    subst P (sym c.from.ensures) (bit_fits (c.args.cycle == 0) c.args.input.now.width c.requires.width.0)
