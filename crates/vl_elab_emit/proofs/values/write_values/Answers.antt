use Rattle.std.proofs.Common.{◌≡◌, ◌+◌, [], ◌∷◌, ap, arith}
use Rattle.std.specs.Prelude.{drop}
use Rattle.std.proofs.lemmas.Grind.{common_steps}
use Rattle.vl_mean.specs.Parts.{optional_value, values_of}
use Rattle.vl_elab_emit.specs.Behind.{placed_at}
use Rattle.vl_elab_emit.specs.OwnParts.{placed_values}
use Rattle.vl_elab_emit.proofs.Standing.{rest_first, rest_next, rest_last, may_first, may_next}
use Rattle.vl_elab_emit.proofs.values.write_values.Goals as goal

pub loop-name-init : goal.loop-name-init
loop-name-init c = record {
  may = c.requires;
  rest = rest_first c.args.draft.now (placed_values c.args.scopes.now c.args.kind c.args.all.now);
}

pub write_optional_value-requires : goal.write_optional_value-requires
write_optional_value-requires c =
    let i = c.loop-name.name-index in
    let x = c.name-item.result in
    let values = values_of c.args.scopes.now c.args.kind in
    let front : drop i c.args.all.now ≡ x ∷ drop (i + 1) c.args.all.now = grind (arith, common_steps) in
    may_first c.loop-name.draft (values (drop i c.args.all.now))
    (optional_value c.args.scopes.now c.args.kind x.name x.value) (values (drop (i + 1) c.args.all.now))
    c.loop-name.invariant.may (ap values front)

pub loop-name-preserved : goal.loop-name-preserved
loop-name-preserved c =
    let i = c.loop-name.name-index in
    let x = c.name-item.result in
    let values = values_of c.args.scopes.now c.args.kind in
    let placed = placed_values c.args.scopes.now c.args.kind in
    let here = placed_at x.pos (optional_value c.args.scopes.now c.args.kind x.name x.value) in
    let front : drop i c.args.all.now ≡ x ∷ drop (i + 1) c.args.all.now = grind (arith, common_steps) in
    record {
      may = may_next c.loop-name.draft c.write_optional_value.new.draft (values (drop i c.args.all.now)) here
          (values (drop (i + 1) c.args.all.now)) c.loop-name.invariant.may (ap values front)
          c.in_ok-write_optional_value.ensures;
      rest = rest_next c.args.draft.now (placed c.args.all.now) c.loop-name.draft c.write_optional_value.new.draft
          (placed (drop i c.args.all.now)) here (placed (drop (i + 1) c.args.all.now)) c.loop-name.invariant.rest
          (ap placed front) c.in_ok-write_optional_value.ensures;
    }

pub returns : goal.returns
returns c =
    let placed = placed_values c.args.scopes.now c.args.kind in
    let gone : drop c.loop-name.name-index c.args.all.now ≡ [] = grind (arith, common_steps) in
    rest_last c.args.draft.now (placed c.args.all.now) c.loop-name.draft
    (placed (drop c.loop-name.name-index c.args.all.now)) c.loop-name.invariant.rest (ap placed gone)
