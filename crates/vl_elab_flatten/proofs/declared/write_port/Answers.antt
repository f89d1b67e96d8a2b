use Rattle.std.proofs.Common.{subst, sym}
use Rattle.std.proofs.lemmas.Result.{on_ok_weaker}
use Rattle.vl_mean.specs.Declarations.{port_name_pos}
use Rattle.vl_mean.specs.Parts.{declares_all, optional_value}
use Rattle.vl_elab_decls.specs.Objects.{port_text}
use Rattle.vl_elab_emit.specs.Behind.{MayStandBehind, StandBehind, placed_at, unplaced}
use Rattle.vl_elab_emit.proofs.Standing.{may_back, may_front}
use Rattle.vl_elab_flatten.specs.PortParts.{port_value}
use Rattle.vl_elab_flatten.proofs.Written.{port_behind}
use Rattle.vl_elab_flatten.proofs.declared.write_port.Goals as goal

pub write_declarations-requires : goal.write_declarations-requires
write_declarations-requires c =
    may_front c.args.draft.now (declares_all c.args.path.now c.args.decls.now)
    (optional_value c.args.scopes.now c.args.net (port_text c.args.port.now.kind) (port_value c.args.port.now.kind))
    c.requires

pub write_optional_value-requires : goal.write_optional_value-requires
write_optional_value-requires c =
    let ss = c.args.scopes.now in
    let net = c.args.net in
    let v = c.write_declarations.new.draft in
    let name = port_text c.args.port.now.kind in
    let value = port_value c.args.port.now.kind in
    subst (λ t. MayStandBehind v (optional_value ss net t c.port_value-value.result.now)) (sym c.port_text-name.ensures)
    (subst (λ x. MayStandBehind v (optional_value ss net name x)) (sym c.port_value-value.ensures)
    (may_back c.args.draft.now v (unplaced (declares_all c.args.path.now c.args.decls.now))
    (optional_value ss net name value) c.requires c.in_ok-write_declarations.ensures))

pub returns : goal.returns
returns c =
    let ss = c.args.scopes.now in
    let net = c.args.net in
    let v = c.write_declarations.new.draft in
    let t = c.write_optional_value.new.draft in
    let name = port_text c.args.port.now.kind in
    let value = port_value c.args.port.now.kind in
    let p = port_name_pos c.args.port.now in
    on_ok_weaker c.write_optional_value.result (λ h. port_behind c.args.draft.now v t p c.args.path.now
    c.args.decls.now (optional_value ss net name value) c.in_ok-write_declarations.ensures
    (subst (λ x. StandBehind v (placed_at p (optional_value ss net name x)) t) c.port_value-value.ensures
    (subst (λ y. StandBehind v (placed_at p (optional_value ss net y c.port_value-value.result.now)) t)
    c.port_text-name.ensures
    (subst (λ q. StandBehind v (placed_at q (optional_value ss net c.port_text-name.result.now
    c.port_value-value.result.now)) t) c.name_pos-pos.ensures h)))) c.write_optional_value.ensures
