use Rattle.std.specs.Prelude.{◌≡◌, ℕ, ◌<◌, List, Some, length, slice_get, slice_index_or}
use Rattle.std.proofs.Common.{ap, sym, ◌∙◌, arith}
use Rattle.std.proofs.lemmas.Option.{slice_get-get_or}
use Rattle.wn_net.specs.declared.parts.Input.{Input}
use Rattle.wn_net.specs.declared.parts.InputKind.TheVariants.{EachCycle}
use Rattle.wn_opt.proofs.Narrowing.{input_there, narrowed_input, narrowed_room, narrowed_wide}
use Rattle.wn_opt.proofs.narrow.narrow_input.Goals as goal

-- what stands for an item that isn't there
abbrev no_input : Input
no_input = record { width = 0; kind = EachCycle }

item_there : (xs ys : List Input) (m : ℕ) → xs ≡ ys → m < length ys
    → slice_get ys m ≡ Some (slice_index_or xs m no_input)
item_there xs ys m same less =
    ap (λ zs. slice_get zs m) (sym same) ∙ slice_get-get_or xs m no_input (omega (arith, less, ap length same))

pub bounds-inputs-input : goal.bounds-inputs-input
bounds-inputs-input c =
    omega (
      arith,
      ap length c.inputs.ensures.value,
      input_there c.args.net.now c.args.part.now c.args.marks.now c.args.inputs.now.items c.args.places.now
          c.requires.whole c.requires.narrowed c.args.input c.requires.marked c.requires.own c.requires.at,
    )

pub input-requires-clause-some : goal.input-requires-clause-some
input-requires-clause-some c =
    let r = c.requires in
    let net = c.args.net.now in
    let a = c.args.part.now in
    let less = input_there net a c.args.marks.now c.args.inputs.now.items c.args.places.now r.whole r.narrowed
    c.args.input r.marked r.own r.at in
    (narrowed_wide net a c.args.marks.now c.args.inputs.now.items c.args.places.now r.whole r.narrowed c.args.input
    r.marked r.own r.at (slice_index_or c.inputs.result.now c.args.input no_input)
    (item_there c.inputs.result.now net.inputs c.args.input c.inputs.ensures.value less)).0

pub input-requires-clause-few : goal.input-requires-clause-few
input-requires-clause-few c =
    let r = c.requires in
    let net = c.args.net.now in
    let a = c.args.part.now in
    let less = input_there net a c.args.marks.now c.args.inputs.now.items c.args.places.now r.whole r.narrowed
    c.args.input r.marked r.own r.at in
    (narrowed_wide net a c.args.marks.now c.args.inputs.now.items c.args.places.now r.whole r.narrowed c.args.input
    r.marked r.own r.at (slice_index_or c.inputs.result.now c.args.input no_input)
    (item_there c.inputs.result.now net.inputs c.args.input c.inputs.ensures.value less)).1

pub input-requires-clause-room : goal.input-requires-clause-room
input-requires-clause-room c =
    narrowed_room c.args.net.now c.args.part.now c.args.marks.now c.args.inputs.now.items c.args.places.now
    c.requires.whole c.requires.narrowed c.args.input c.requires.marked c.requires.own c.requires.at

pub returns : goal.returns
returns c =
    let r = c.requires in
    let net = c.args.net.now in
    let a = c.args.part.now in
    let less = input_there net a c.args.marks.now c.args.inputs.now.items c.args.places.now r.whole r.narrowed
    c.args.input r.marked r.own r.at in
    narrowed_input net a c.args.marks.now c.args.inputs.now.items c.args.places.now r.whole r.narrowed c.args.input
    r.marked r.own r.at c.input.new.self (slice_index_or c.inputs.result.now c.args.input no_input) c.in_ok-id.id
    c.push.new.self.items (item_there c.inputs.result.now net.inputs c.args.input c.inputs.ensures.value less)
    c.in_ok-id.ensures.built c.in_ok-push.ensures.items
