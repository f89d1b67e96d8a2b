-- A journal may go to another thread, and be shared.
use Rattle.std.proofs.Common.{ℕ, List, Option, Some, None}
use base.Fml.{Fml}
use base.Shift.{Keyless}
use denote.Memory.{raw_all}
use denote.Param.Send.{IsSend, IsSync, owning_send, sendable, whole-keyless}
use denote.RattleType.{RattleType}
use Rattle.logbook.proofs.tokens.Seen.TheSendSync as seen
use Rattle.logbook.specs.Kept.{offer_owns}
use Rattle.logbook.specs.contracts.tokens.Offer.{the_row, the_type}
use Rattle.logbook.specs.declared.tokens.Gain as Gain
use Rattle.logbook.specs.declared.tokens.Rule as Rule
use Rattle.fv_base.specs.contracts.journal.Journal as journal

-- so may an offer of a logbook, where what its rule keeps and what it gains may
offer_keyless : {E A : Type 0} (kept : List E → Fml) (moves : List E → List E → A → Type 0) (gain : A → Fml)
    → ((log : List E) → Keyless (kept log)) → ((answer : A) → Keyless (gain answer)) → (state : Option A)
    → Keyless (offer_owns kept moves gain state)
offer_keyless kept moves gain keeps gains None = λ t moved. (keeps t.0, (keeps t.1, gains t.2))
offer_keyless kept moves gain keeps gains (Some answer) = gains answer

module _ (E A P G : RattleType) (r : Rule.Ghosts P.Denot E.Denot A.Denot) (g : Gain.Ghosts G.Denot E.Denot A.Denot)
    (keeps : (names : List ℕ) (log : List E.Denot) → Keyless (r.keeps names log))
    (gains : (names : List ℕ) (about : List E.Denot) (answer : A.Denot) → Keyless (g.after names about answer)) where
  offer_send : IsSend (the_row E A P G r g)
  offer_send =
      owning_send (the_type E A P G r g) (search sendable, tt)
      (λ d. offer_keyless (r.keeps d.names) (r.moves d.ask) (g.after d.names d.about) (keeps d.names)
      (gains d.names d.about) d.state)
      (λ k x w. tt)

  offer_sync : IsSync (the_row E A P G r g)
  offer_sync = record {
    shared = λ d b o κ q.
        whole-keyless (raw_all (the_row E A P G r g).mir) (the_row E A P G r g).own_val offer_send.owned q d b o;
  }

pub journal_send : IsSend journal.the_row
journal_send = search (sendable, seen.the_send, offer_send) depth 20

pub journal_sync : IsSync journal.the_row
journal_sync = search (sendable, seen.the_sync, offer_sync) depth 20
