use Rattle.std.specs.Prelude.{◌≤◌, ◌+◌, ◌++◌, ◌∷◌, [], ℕ, List, length, take}
use Rattle.rvfi_port.specs.declared.field.Field.{Field}
use Rattle.rvfi_port.specs.declared.field.Field.TheVariants as f
use Rattle.std.proofs.Common.{rules, sym, arith, subst, add-one}
use Rattle.std.proofs.lemmas.List.{take_all}
use Rattle.wn_net.proofs.Laws.{adds_on}
use Rattle.rvfi_port.specs.Parts.{AreParts}
use Rattle.rvfi_port.proofs.Cut.{reach_long, reach_here, reaches_on, parts_on, parts_push, part_from}
use Rattle.rvfi_port.proofs.channel.field_nodes.Goals as goal

pub bounds-wholes-place : goal.bounds-wholes-place
bounds-wholes-place c =
    let long = reach_long c.args.net.now c.args.channel c.args.fields.now c.args.wholes.now c.requires in
    omega (arith, long, c.loop-place-test.true)

pub offset_bounds-wholes-place : goal.offset_bounds-wholes-place
offset_bounds-wholes-place c =
    let long = reach_long c.args.net.now c.args.channel c.args.fields.now c.args.wholes.now c.requires in
    search (rules, long)

pub field_node-requires : goal.field_node-requires
field_node-requires c =
    reaches_on c.args.net.now c.loop-place.net c.args.channel _ _ c.loop-place.invariant.adds
    (reach_here c.args.net.now c.args.channel c.args.fields.now c.args.wholes.now c.loop-place.place _ c.requires
    c.loop-place-test.true)

pub loop-place-preserved : goal.loop-place-preserved
loop-place-preserved c =
    let net = c.args.net.now in
    let now = c.loop-place.net in
    let new = c.field_node.new.net in
    let i = c.loop-place.place in
    let fields = c.args.fields.now in
    let wholes = c.args.wholes.now in
    let inv = c.loop-place.invariant in
    let more = c.in_ok-node.ensures.adds in
    let long = reach_long net c.args.channel fields wholes c.requires in
    let P : List ℕ → Type 0 = λ made. AreParts net new c.args.channel (take (i + 1) fields) (take (i + 1) wholes) made in
    let Q : ℕ → Type 0 = λ k. AreParts net new c.args.channel (take k fields) (take k wholes)
    (c.loop-place.made.items ++ c.in_ok-node.node ∷ []) in
    record {
      adds = adds_on net now new inv.adds more;
      parts = subst P (sym c.in_ok-push.ensures.items) (subst Q (sym (add-one i))
          (parts_push net new c.args.channel fields wholes c.loop-place.made.items i c.in_ok-node.node f.Valid
          (parts_on net now new c.args.channel (take i fields) (take i wholes) c.loop-place.made.items inv.adds more
          inv.parts) c.loop-place-test.true (omega (arith, long, c.loop-place-test.true))
          (part_from net now new c.args.channel _ _ c.in_ok-node.node inv.adds
          (reach_here net c.args.channel fields wholes i f.Valid c.requires c.loop-place-test.true).0 c.in_ok-node.ensures.part)));
    }

pub returns-clause-parts : goal.returns-clause-parts
returns-clause-parts c =
    let net = c.args.net.now in
    let fields = c.args.fields.now in
    let wholes = c.args.wholes.now in
    let long = reach_long net c.args.channel fields wholes c.requires in
    let past : length fields ≤ c.loop-place.place = c.loop-place-test.false in
    let P : List Field → Type 0 = λ fs. AreParts net c.loop-place.net c.args.channel fs (take c.loop-place.place wholes) c.loop-place.made.items in
    let Q : List ℕ → Type 0 = λ ws. AreParts net c.loop-place.net c.args.channel fields ws c.loop-place.made.items in
    subst Q (take_all c.loop-place.place wholes (omega (arith, long, past)))
    (subst P (take_all c.loop-place.place fields past) c.loop-place.invariant.parts)
