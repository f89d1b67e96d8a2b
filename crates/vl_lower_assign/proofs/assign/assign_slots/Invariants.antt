use Rattle.std.specs.Prelude.{◌≡◌, ◌/◌, ◌^◌, take, drop}
use Rattle.wn_net.specs.Net.{value_at}
use Rattle.vl_lower_assign.specs.Frames.{Assigns, cells_of, slots_width}
use Rattle.vl_lower_assign.proofs.assign.assign_slots.Given as goal

-- the first slots have the highest bits
abbrev pub invariant-loop-slot : goal.invariant-loop-slot
invariant-loop-slot l = record {
  rest : l.rest ≡ slots_width (drop l.slot-index l.slots);
  done : Assigns l.fn.net l.net l.decls (cells_of l.fn.frame) (cells_of l.frame) l.path l.kind
      (take l.slot-index l.slots) (λ g. value_at l.fn.net g l.value / 2 ^ l.rest);
}
