use Rattle.std.proofs.lemmas.Result.{on_ok_weaker}
use Rattle.vl_mean.specs.Parts.{declares_all, values_of}
use Rattle.vl_elab_emit.specs.Behind.{unplaced}
use Rattle.vl_elab_emit.specs.OwnParts.{placed_values}
use Rattle.vl_elab_emit.proofs.Standing.{both_behind, may_front, may_back}
use Rattle.vl_elab_emit.proofs.items.write_declared.Goals as goal

pub write_declarations-requires : goal.write_declarations-requires
write_declarations-requires c =
    may_front c.args.draft.now (declares_all c.args.path.now c.args.decls.now)
    (values_of c.args.scopes.now c.args.kind c.args.all.now) c.requires

pub write_values-requires : goal.write_values-requires
write_values-requires c =
    may_back c.args.draft.now c.write_declarations.new.draft
    (unplaced (declares_all c.args.path.now c.args.decls.now))
    (values_of c.args.scopes.now c.args.kind c.args.all.now) c.requires c.in_ok-write_declarations.ensures

pub returns : goal.returns
returns c =
    on_ok_weaker c.write_values.result (λ h. both_behind c.args.draft.now c.write_declarations.new.draft
    c.write_values.new.draft (unplaced (declares_all c.args.path.now c.args.decls.now))
    (placed_values c.args.scopes.now c.args.kind c.args.all.now) c.in_ok-write_declarations.ensures h)
    c.write_values.ensures
