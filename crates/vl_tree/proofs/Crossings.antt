-- Items may be shared among threads: by the rules of their parts, one after the other, since the search for all at once
-- ends at its limits.
use denote.Param.Send as Send
use denote.Param.Send.{sendable}
use Rattle.fv_text.proofs.list.List.TheSendSync as ListCrosses
use Rattle.fv_text.proofs.number.Number.TheSendSync as NumberCrosses
use Rattle.fv_text.proofs.pos.Pos.TheSendSync as PosCrosses
use Rattle.fv_text.proofs.text.Text.TheSendSync as TextCrosses
use Rattle.std.proofs.Crossing
use Rattle.std.proofs.alloc.Global.TheSendSync as GlobalCrosses
use Rattle.std.proofs.boxed.Box.TheSendSync as BoxCrosses
use Rattle.std.proofs.option.Option.TheSendSync as OptionCrosses
use Rattle.std.proofs.rt.Memory.TheSendSync as MemoryCrosses
use Rattle.std.proofs.vec.Vec.TheSendSync as VecCrosses
use Rattle.vl_tree.proofs.declaration.NetKind.TheSendSync as NetKindCrosses
use Rattle.vl_tree.proofs.declaration.ParameterKind.TheSendSync as ParameterKindCrosses
use Rattle.vl_tree.proofs.declaration.Direction.TheSendSync as DirectionCrosses
use Rattle.vl_tree.proofs.expr.Expr.TheLaws.TheKnot as ExprKnot
use Rattle.vl_tree.proofs.item.Item.TheLaws.TheKnot as ItemKnot
use Rattle.vl_tree.proofs.item.RegionMark.TheSendSync as RegionMarkCrosses
use Rattle.vl_tree.proofs.lval.Lval.TheLaws.TheKnot as LvalKnot
use Rattle.vl_tree.proofs.operator.BinaryOperator.TheSendSync as BinaryOperatorCrosses
use Rattle.vl_tree.proofs.operator.Cast.TheSendSync as CastCrosses
use Rattle.vl_tree.proofs.operator.UnaryOperator.TheSendSync as UnaryOperatorCrosses
use Rattle.vl_tree.proofs.part.Event.TheSendSync as EventCrosses
use Rattle.vl_tree.proofs.part.EventKind.TheSendSync as EventKindCrosses
use Rattle.vl_tree.proofs.stmt.AssignKind.TheSendSync as AssignKindCrosses
use Rattle.vl_tree.proofs.stmt.CaseKind.TheSendSync as CaseKindCrosses
use Rattle.vl_tree.proofs.stmt.Stmt.TheLaws.TheKnot as StmtKnot
use Rattle.vl_tree.specs.contracts.item.Item.TheKnot as Parts

pub ruleset crossings = (
  OptionCrosses.the_field_send,
  OptionCrosses.the_send,
  OptionCrosses.the_field_sync,
  OptionCrosses.the_sync,
  MemoryCrosses.the_field_send,
  MemoryCrosses.the_send,
  MemoryCrosses.the_field_sync,
  MemoryCrosses.the_sync,
  ListCrosses.the_send,
  ListCrosses.the_sync,
  NumberCrosses.the_field_send,
  NumberCrosses.the_send,
  NumberCrosses.the_field_sync,
  NumberCrosses.the_sync,
  PosCrosses.the_field_send,
  PosCrosses.the_send,
  PosCrosses.the_field_sync,
  PosCrosses.the_sync,
  TextCrosses.the_send,
  TextCrosses.the_sync,
  BoxCrosses.the_send,
  BoxCrosses.the_sync,
  VecCrosses.the_send,
  VecCrosses.the_sync,
  GlobalCrosses.the_field_send,
  GlobalCrosses.the_send,
  GlobalCrosses.the_field_sync,
  GlobalCrosses.the_sync,
  NetKindCrosses.the_field_send,
  NetKindCrosses.the_send,
  NetKindCrosses.the_field_sync,
  NetKindCrosses.the_sync,
  ParameterKindCrosses.the_field_send,
  ParameterKindCrosses.the_send,
  ParameterKindCrosses.the_field_sync,
  ParameterKindCrosses.the_sync,
  DirectionCrosses.the_field_send,
  DirectionCrosses.the_send,
  DirectionCrosses.the_field_sync,
  DirectionCrosses.the_sync,
  BinaryOperatorCrosses.the_field_send,
  BinaryOperatorCrosses.the_send,
  BinaryOperatorCrosses.the_field_sync,
  BinaryOperatorCrosses.the_sync,
  CastCrosses.the_field_send,
  CastCrosses.the_send,
  CastCrosses.the_field_sync,
  CastCrosses.the_sync,
  UnaryOperatorCrosses.the_field_send,
  UnaryOperatorCrosses.the_send,
  UnaryOperatorCrosses.the_field_sync,
  UnaryOperatorCrosses.the_sync,
  EventCrosses.the_field_send,
  EventCrosses.the_send,
  EventCrosses.the_field_sync,
  EventCrosses.the_sync,
  EventKindCrosses.the_field_send,
  EventKindCrosses.the_send,
  EventKindCrosses.the_field_sync,
  EventKindCrosses.the_sync,
  AssignKindCrosses.the_field_send,
  AssignKindCrosses.the_send,
  AssignKindCrosses.the_field_sync,
  AssignKindCrosses.the_sync,
  CaseKindCrosses.the_field_send,
  CaseKindCrosses.the_send,
  CaseKindCrosses.the_field_sync,
  CaseKindCrosses.the_sync,
  RegionMarkCrosses.the_field_send,
  RegionMarkCrosses.the_send,
  RegionMarkCrosses.the_field_sync,
  RegionMarkCrosses.the_sync,
  Crossing.crosses,
  ExprKnot.crosses,
  LvalKnot.crosses,
  StmtKnot.crosses,
  sendable,
)

ruleset items = (crossings, ItemKnot.crosses)

pub item_send : Send.IsSend Parts.hole-Item
item_send = ItemKnot.both_send-Item
    (search items depth 60 fits 40000)
    (search items depth 60 fits 40000)
    (search items depth 60 fits 40000)
    (search items depth 60 fits 40000)
    (search items depth 60 fits 40000)
    (search items depth 60 fits 40000)
    (search items depth 60 fits 40000)
    (search items depth 60 fits 40000)
    (search items depth 60 fits 40000)
    (search items depth 60 fits 40000)
    (search items depth 60 fits 40000)
    (search items depth 60 fits 40000)
    (search items depth 60 fits 40000)
    (search items depth 60 fits 40000)
    (search items depth 60 fits 40000)
    (search items depth 60 fits 40000)
    (search items depth 60 fits 40000)
    (search items depth 60 fits 40000)
    (search items depth 60 fits 40000)
    (search items depth 60 fits 40000)
    (search items depth 60 fits 40000)
    (search items depth 60 fits 40000)
    (search items depth 60 fits 40000)
    (search items depth 60 fits 40000)
    (search items depth 60 fits 40000)
    (search items depth 60 fits 40000)
    (search items depth 60 fits 40000)
    (search items depth 60 fits 40000)
    (search items depth 60 fits 40000)
    (search items depth 60 fits 40000)
    (search items depth 60 fits 40000)
    (search items depth 60 fits 40000)
    (search items depth 60 fits 40000)
    (search items depth 60 fits 40000)
    (search items depth 60 fits 40000)
    (search items depth 60 fits 40000)

pub item_sync : Send.IsSync Parts.hole-Item
item_sync = ItemKnot.both_sync-Item
    (search items depth 60 fits 40000)
    (search items depth 60 fits 40000)
    (search items depth 60 fits 40000)
    (search items depth 60 fits 40000)
    (search items depth 60 fits 40000)
    (search items depth 60 fits 40000)
    (search items depth 60 fits 40000)
    (search items depth 60 fits 40000)
    (search items depth 60 fits 40000)
    (search items depth 60 fits 40000)
    (search items depth 60 fits 40000)
    (search items depth 60 fits 40000)
    (search items depth 60 fits 40000)
    (search items depth 60 fits 40000)
    (search items depth 60 fits 40000)
    (search items depth 60 fits 40000)
    (search items depth 60 fits 40000)
    (search items depth 60 fits 40000)
    (search items depth 60 fits 40000)
    (search items depth 60 fits 40000)
    (search items depth 60 fits 40000)
    (search items depth 60 fits 40000)
    (search items depth 60 fits 40000)
    (search items depth 60 fits 40000)
    (search items depth 60 fits 40000)
    (search items depth 60 fits 40000)
    (search items depth 60 fits 40000)
    (search items depth 60 fits 40000)
    (search items depth 60 fits 40000)
    (search items depth 60 fits 40000)
    (search items depth 60 fits 40000)
    (search items depth 60 fits 40000)
    (search items depth 60 fits 40000)
    (search items depth 60 fits 40000)
    (search items depth 60 fits 40000)
    (search items depth 60 fits 40000)
