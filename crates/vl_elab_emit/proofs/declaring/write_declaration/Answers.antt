use Rattle.std.proofs.lemmas.Result.{on_ok_weaker}
use Rattle.vl_elab_emit.proofs.Valued.{under_fresh, under_ended, under_shaped, under_behind}
use Rattle.vl_elab_emit.proofs.declaring.write_declaration.Goals as goal

pub declare-requires : goal.declare-requires
declare-requires c = record {
  fresh = under_fresh c.args.draft.now c.args.path.now c.args.decl.now c.in_ok-decl.decl c.in_ok-decl.ensures
      c.requires;
  ended = under_ended c.args.draft.now c.args.path.now c.args.decl.now c.in_ok-decl.decl c.in_ok-decl.ensures
      c.requires;
  shaped = under_shaped c.args.draft.now c.args.path.now c.args.decl.now c.in_ok-decl.decl c.in_ok-decl.ensures
      c.requires;
}

pub returns : goal.returns
returns c =
    on_ok_weaker c.declare.result (λ e. under_behind c.args.draft.now c.declare.new.self c.args.path.now c.args.decl.now
    c.in_ok-decl.decl c.in_ok-decl.ensures e) c.declare.ensures.ok
