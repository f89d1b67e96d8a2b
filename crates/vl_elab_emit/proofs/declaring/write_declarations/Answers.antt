use Rattle.std.proofs.Common.{◌≡◌, ◌+◌, [], ◌∷◌, ap, arith}
use Rattle.std.specs.Prelude.{List, drop}
use Rattle.std.proofs.lemmas.Grind.{common_steps}
use Rattle.vl_size.specs.declared.decl.Decl.{Decl}
use Rattle.vl_mean.specs.Parts.{declares_all}
use Rattle.vl_elab_emit.specs.Behind.{Placed, unplaced}
use Rattle.vl_elab_emit.proofs.Standing.{rest_first, rest_next, rest_last, may_first, may_next}
use Rattle.vl_elab_emit.proofs.declaring.write_declarations.Goals as goal

pub loop-decl-init : goal.loop-decl-init
loop-decl-init c = record {
  may = c.requires;
  rest = rest_first c.args.draft.now (unplaced (declares_all c.args.path.now c.args.all.now));
}

pub write_declaration-requires : goal.write_declaration-requires
write_declaration-requires c =
    let i = c.loop-decl.decl-index in
    let front : drop i c.args.all.now ≡ c.decl-item.result ∷ drop (i + 1) c.args.all.now
    = grind (arith, common_steps) in
    may_first c.loop-decl.draft (declares_all c.args.path.now (drop i c.args.all.now))
    (declares_all c.args.path.now (c.decl-item.result ∷ []))
    (declares_all c.args.path.now (drop (i + 1) c.args.all.now)) c.loop-decl.invariant.may
    (ap (declares_all c.args.path.now) front)

pub loop-decl-preserved : goal.loop-decl-preserved
loop-decl-preserved c =
    let i = c.loop-decl.decl-index in
    let front : drop i c.args.all.now ≡ c.decl-item.result ∷ drop (i + 1) c.args.all.now
    = grind (arith, common_steps) in
    let declared : List Decl → Placed = λ ds. unplaced (declares_all c.args.path.now ds) in
    record {
      may = may_next c.loop-decl.draft c.write_declaration.new.draft
          (declares_all c.args.path.now (drop i c.args.all.now)) (declared (c.decl-item.result ∷ []))
          (declares_all c.args.path.now (drop (i + 1) c.args.all.now)) c.loop-decl.invariant.may
          (ap (declares_all c.args.path.now) front) c.in_ok-write_declaration.ensures;
      rest = rest_next c.args.draft.now (declared c.args.all.now) c.loop-decl.draft c.write_declaration.new.draft
          (declared (drop i c.args.all.now)) (declared (c.decl-item.result ∷ []))
          (declared (drop (i + 1) c.args.all.now)) c.loop-decl.invariant.rest (ap declared front)
          c.in_ok-write_declaration.ensures;
    }

pub returns : goal.returns
returns c =
    let gone : drop c.loop-decl.decl-index c.args.all.now ≡ [] = grind (arith, common_steps) in
    let declared : List Decl → Placed = λ ds. unplaced (declares_all c.args.path.now ds) in
    rest_last c.args.draft.now (declared c.args.all.now) c.loop-decl.draft
    (declared (drop c.loop-decl.decl-index c.args.all.now)) c.loop-decl.invariant.rest (ap declared gone)
