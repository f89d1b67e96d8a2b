use Rattle.std.specs.Prelude.{length, slice_index_or}
use Rattle.std.proofs.Common.{arith, ap, ◌∙◌, refl}
use Rattle.wn_net.specs.declared.parts.Input.{Input}
use Rattle.wn_net.specs.declared.parts.InputKind.TheVariants.{EachCycle}
use Rattle.wn_net.specs.Width.{IsWidth}
use Rattle.bm_induct.proofs.Items.{all_in, at_place, get_within, take_long}
use Rattle.bm_induct.proofs.Begun.{inputs_next}
use Rattle.bm_induct.proofs.begin.put_inputs.Goals as goal

-- what a read past the last input would give
abbrev no_input : Input
no_input = record { width = 0; kind = EachCycle }

pub input-requires-clause-some : goal.input-requires-clause-some
input-requires-clause-some c =
    let net = c.args.net.now in
    let i = c.loop-own.own-index in
    let items = c.inputs-own-items.result.now in
    (all_in (λ (x : Input). IsWidth x.width) net.inputs i (slice_index_or items i no_input)
    c.inputs-own-items.ensures.whole.inputs
    (at_place items net.inputs i (slice_index_or items i no_input) no_input c.inputs-own-items.ensures.value
    (omega arith) refl)).0

pub input-requires-clause-few : goal.input-requires-clause-few
input-requires-clause-few c =
    let net = c.args.net.now in
    let i = c.loop-own.own-index in
    let items = c.inputs-own-items.result.now in
    (all_in (λ (x : Input). IsWidth x.width) net.inputs i (slice_index_or items i no_input)
    c.inputs-own-items.ensures.whole.inputs
    (at_place items net.inputs i (slice_index_or items i no_input) no_input c.inputs-own-items.ensures.value
    (omega arith) refl)).1

pub input-requires-clause-room : goal.input-requires-clause-room
input-requires-clause-room c =
    let net = c.args.net.now in
    let i = c.loop-own.own-index in
    let items = c.inputs-own-items.result.now in
    let at = at_place items net.inputs i (slice_index_or items i no_input) no_input c.inputs-own-items.ensures.value
    (omega arith) refl in
    let many = ap (λ m. length m.inputs) c.loop-own.invariant ∙ take_long net.inputs i _ at in
    let below = get_within net.inputs i _ at in
    let few = c.inputs-own-items.ensures.whole.few_inputs in
    omega (arith, many, below, few)

pub loop-own-preserved : goal.loop-own-preserved
loop-own-preserved c =
    let net = c.args.net.now in
    let i = c.loop-own.own-index in
    let items = c.inputs-own-items.result.now in
    let at = at_place items net.inputs i (slice_index_or items i no_input) no_input c.inputs-own-items.ensures.value
    (omega arith) refl in
    inputs_next net c.loop-own.made c.input.new.self i _ (slice_index_or items i no_input) c.loop-own.invariant at
    c.in_ok-input.ensures.built
