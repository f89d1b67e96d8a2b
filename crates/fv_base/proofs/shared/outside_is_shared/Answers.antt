use denote.Param.Send.{sendable}
use Rattle.std.proofs.Crossing.{crosses}
use Rattle.std.proofs.MapsCrossing.{BTreeMap-send, BTreeMap-sync}
use Rattle.fv_base.proofs.Sent.{journal_send, journal_sync}
use Rattle.fv_base.proofs.shared.outside_is_shared.Goals as goal

pub is_shared-requires-send-T : goal.is_shared-requires-send-T
is_shared-requires-send-T c κs = search (sendable, crosses, BTreeMap-send, journal_send) depth 20

pub is_shared-requires-sync-T : goal.is_shared-requires-sync-T
is_shared-requires-sync-T c κs = search (sendable, crosses, BTreeMap-sync, journal_sync) depth 20

pub is_shared-requires-2-send-T : goal.is_shared-requires-2-send-T
is_shared-requires-2-send-T c κs = search (sendable, crosses, journal_send) depth 20

pub is_shared-requires-2-sync-T : goal.is_shared-requires-2-sync-T
is_shared-requires-2-sync-T c κs = search (sendable, crosses, journal_sync) depth 20

pub is_shared-requires-3-send-T : goal.is_shared-requires-3-send-T
is_shared-requires-3-send-T c κs = search (sendable, crosses, BTreeMap-send, journal_send) depth 20

pub is_shared-requires-3-sync-T : goal.is_shared-requires-3-sync-T
is_shared-requires-3-sync-T c κs = search (sendable, crosses, BTreeMap-sync, journal_sync) depth 20

pub is_shared-requires-4-send-T : goal.is_shared-requires-4-send-T
is_shared-requires-4-send-T c κs = search (sendable, crosses, journal_send) depth 20

pub is_shared-requires-4-sync-T : goal.is_shared-requires-4-sync-T
is_shared-requires-4-sync-T c κs = search (sendable, crosses, journal_sync) depth 20
