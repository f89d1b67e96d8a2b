use Rattle.std.proofs.Common.{◌≡◌, ◌+◌, [], ◌∷◌, arith}
use Rattle.std.specs.Prelude.{drop}
use Rattle.std.proofs.lemmas.Grind.{common_steps}
use Rattle.vl_elab_flatten.specs.Levels.{with_decls}
use Rattle.vl_elab_flatten.proofs.Filled.{fills_first, fills_last, fills_on, next_fresh, next_plain, next_shaped}
use Rattle.vl_elab_flatten.proofs.filling.declare_all.Goals as goal

pub loop-decl-init : goal.loop-decl-init
loop-decl-init c =
    fills_first c.args.scope.now c.args.decls.now c.requires.different c.requires.plain c.requires.in_range

pub declare-requires : goal.declare-requires
declare-requires c =
    let whole = with_decls c.args.scope.now c.args.decls.now in
    let left = drop c.loop-decl.decl-index c.args.decls.now in
    let rest = drop (c.loop-decl.decl-index + 1) c.args.decls.now in
    let front : drop c.loop-decl.decl-index c.args.decls.now ≡ c.decl-item.result
    ∷ drop (c.loop-decl.decl-index + 1) c.args.decls.now = grind (arith, common_steps) in
    let d = c.decl-item.result in
    let e = c.in_ok-decl.decl in
    record {
      fresh = next_fresh whole c.loop-decl.scope left rest d e front c.in_ok-decl.ensures c.loop-decl.invariant;
      plain = next_plain whole c.loop-decl.scope left rest d e front c.in_ok-decl.ensures c.loop-decl.invariant;
      shaped = next_shaped whole c.loop-decl.scope left rest d e front c.in_ok-decl.ensures c.loop-decl.invariant;
    }

pub loop-decl-preserved : goal.loop-decl-preserved
loop-decl-preserved c =
    let whole = with_decls c.args.scope.now c.args.decls.now in
    let left = drop c.loop-decl.decl-index c.args.decls.now in
    let rest = drop (c.loop-decl.decl-index + 1) c.args.decls.now in
    let front : drop c.loop-decl.decl-index c.args.decls.now ≡ c.decl-item.result
    ∷ drop (c.loop-decl.decl-index + 1) c.args.decls.now = grind (arith, common_steps) in
    fills_on whole c.loop-decl.scope left rest c.decl-item.result c.in_ok-decl.decl front c.in_ok-decl.ensures
    c.loop-decl.invariant c.declare.new.self c.in_ok-declare.ensures.ok

pub returns : goal.returns
returns c =
    let gone : drop c.loop-decl.decl-index c.args.decls.now ≡ [] = grind (arith, common_steps) in
    fills_last (with_decls c.args.scope.now c.args.decls.now) c.loop-decl.scope
    (drop c.loop-decl.decl-index c.args.decls.now) gone c.loop-decl.invariant
