use denote.Exit
use denote.Param.Send as Send
use Rattle.vl_tree.proofs.Crossings.{item_send, item_sync}
use Rattle.vl_tree.proofs.shared.items_are_shared.Goals as goal

pub is_shared-requires-send-T : goal.is_shared-requires-send-T
is_shared-requires-send-T c κs = Send.param_send 0 _ (Send.arg_send _ Exit.no _ item_send)

pub is_shared-requires-sync-T : goal.is_shared-requires-sync-T
is_shared-requires-sync-T c κs = record { shared = item_sync.shared }
