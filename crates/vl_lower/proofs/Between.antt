-- Cells between phases: what is to be taken back plays no part, and memories that may be written still may be.
use Rattle.std.specs.Prelude.{◌≡◌, refl, ℕ, ◌<◌, ◌≤◌, nat_lt, Bool, true, false, List, [], ◌∷◌, length}
use Rattle.std.specs.Prelude.{Option, Some, None, IfSome}
use Rattle.std.specs.List.{AllByRecursion}
use Rattle.std.proofs.Common.{arith, subst, sym}
use Rattle.std.proofs.lemmas.Bool.Decides.{nat_tests}
use Rattle.std.proofs.lemmas.List.{get_or_past}
use Rattle.wn_net.specs.declared.parts.MemWrite.{MemWrite}
use Rattle.vl_size.specs.declared.decl.Decl.{Decl}
use Rattle.vl_size.specs.Size.{Values}
use Rattle.wn_net.specs.declared.parts.Mem.{Mem}
use Rattle.wn_net.specs.Changes.{Keeps, mem_width}
use Rattle.wn_net.specs.Net.{IsWriteOf, Netlist}
use Rattle.vl_lower_assign.specs.Tracks.{AreTracks, LeadTo, no_track, track_at}
use Rattle.vl_lower_assign.specs.declared.track.Track.{Track}
use Rattle.vl_lower_assign.specs.Frames.{Cells}
use Rattle.vl_lower_spec.specs.Sources.{AreEach}
use Rattle.vl_lower_cell_laws.specs.Cycles.{Turns}
use Rattle.vl_lower_state.specs.Stores.{MayStore}
use Rattle.vl_lower_state.proofs.Carried.{may_kept}
use Rattle.vl_lower.specs.Closing.{over}

pub turns_over : (old new : Netlist) (ds : List Decl) (before after : Cells) (nodes b1 b2 : List ℕ)
    (tracks : List Track)
    (now : Values → Values) (next : Values → Values → Values) (seen : Values → List ℕ)
    → before ≡ over b1 b2 tracks → Turns old new ds before after nodes now next seen
    → Turns old new ds (over b1 b2 tracks) (over after.now after.next after.tracks) nodes now next seen
turns_over old new ds before after nodes b1 b2 tracks now next seen e t =
    let s : Turns old new ds (over b1 b2 tracks) after nodes now next seen =
    subst (λ b. Turns old new ds b after nodes now next seen) e t in
    record {
      adds = s.adds;
      frame = record { now = s.frame.now; next = s.frame.next; assumed = tt; tracks = s.frame.tracks };
      there = s.there;
      comes = s.comes;
    }

pub may_each : (old new : Netlist) (cells : List ℕ) → Keeps old new → (ms : List Mem) (fs : List ℕ)
    → AreEach (MayStore old cells) ms fs → AreEach (MayStore new cells) ms fs
may_each old new cells keeps [] [] h = tt
may_each old new cells keeps [] (f ∷ fs) h = h
may_each old new cells keeps (m ∷ ms) [] h = h
may_each old new cells keeps (m ∷ ms) (f ∷ fs) h =
    (may_kept old new keeps cells m f h.0, may_each old new cells keeps ms fs h.1)

-- the writes that are known of each memory fit it
pub all_fit : (net : Netlist) (cells : List ℕ) (tracks : List Track) → AreTracks net cells tracks → (m : ℕ)
    → IfSome (track_at tracks m).writes (AllByRecursion (IsWriteOf net (mem_width net m)))
all_fit net cells tracks h m = by (nat_lt m (length tracks)) refl
  where
    fits : (t : Track) (o : Option (List MemWrite)) → IfSome o (LeadTo net cells m t.first t.count)
        → IfSome o (AllByRecursion (IsWriteOf net (mem_width net m)))
    fits t None l = tt
    fits t (Some ws) l = l.fit

    by : (b : Bool) → nat_lt m (length tracks) ≡ b
        → IfSome (track_at tracks m).writes (AllByRecursion (IsWriteOf net (mem_width net m)))
    by true e =
        let less : m < length tracks = grind (arith, nat_tests, e) in
        fits (track_at tracks m) (track_at tracks m).writes (h.each m less)
    by false e =
        let past : length tracks ≤ m = grind (arith, nat_tests, e) in
        subst (λ (t : Track). IfSome t.writes (AllByRecursion (IsWriteOf net (mem_width net m))))
        (sym (get_or_past tracks m no_track past)) tt
