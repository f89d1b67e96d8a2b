-- Assignments to one slot, and to one slot after others.
use Rattle.std.specs.Prelude.{◌≡◌, refl, ℕ, ◌+◌, ◌<◌, ◌≤◌, ◌==◌, ◌&&◌, ◌↔◌, nat_le, nat_lt}
use Rattle.std.specs.Prelude.{Bool, true, false}
use Rattle.std.specs.Prelude.{◌-◌, List, [], ◌∷◌, ◌++◌, length, slice_index, Option, None, IfSome}
use Rattle.std.specs.Prelude.{if◌then◌else◌}
use Rattle.std.proofs.Common.{ap, sym, ◌∙◌, arith, subst, ◌⊎◌, inl, inr}
use Rattle.std.proofs.lemmas.Bool.Decides.{nat_tests}
use Rattle.std.proofs.lemmas.List.{append-nil}
use Rattle.vl_tree.specs.declared.stmt.AssignKind.{AssignKind}
use Rattle.vl_tree.specs.declared.stmt.AssignKind.TheVariants as a
use Rattle.vl_size.specs.declared.decl.Decl.{Decl}
use Rattle.vl_size.specs.Size.{Values}
use Rattle.vl_mean.specs.Execution.{State}
use Rattle.vl_mean.specs.Runs.{Each}
use Rattle.vl_mean.specs.Targets.{Spot, Write, written, put_all}
use Rattle.wn_net.specs.Value.{Given}
use Rattle.wn_net.specs.Net.{Netlist, IsNode, AreNodes, value_at}
use Rattle.wn_net.specs.Changes.{AddsNodes}
use Rattle.wn_net.proofs.Laws.{adds_on, value_on, given_on}
use Rattle.vl_lower_assign.specs.declared.slot.Holder.{Holder}
use Rattle.vl_lower_assign.specs.declared.slot.Holder.TheVariants as holder
use Rattle.vl_lower_assign.specs.declared.slot.Slot.{Slot}
use Rattle.vl_lower_assign.specs.declared.track.WordsWrite.{WordsWrite}
use Rattle.vl_lower_assign.specs.Slots.{IsPath, Stores, Writes, is_taken, is_among}
use Rattle.vl_lower_assign.specs.Tracks.{FollowWrite}
use Rattle.vl_lower_assign.proofs.Memories.{tracks_on, tracks_written}
use Rattle.vl_lower_assign.proofs.Tests.{path_on}
use Rattle.vl_lower_assign.proofs.Written.{same_or}
use Rattle.vl_lower_assign.specs.Frames.{AreCellsOf, Stand, Cells, IsFrame, taken_back, IsSlotFor, IsSlotOf}
use Rattle.vl_lower_assign.specs.Frames.{AreSlotsOf, Assigns, with_writes}
use Rattle.vl_lower_assign.specs.Logs.{noted_of, IsWithin}
use Rattle.vl_lower_assign.proofs.Behind.{cells_on, nodes_on, met_on, met_back, stand_on}
use Rattle.vl_lower_assign.proofs.Logging.{back_append, DifferIn, noted_back}
use Rattle.vl_lower_assign.proofs.Standing.{are_cells, slot_on, cells_written, stand_written}

-- ---- the log

differ : (first k : ℕ) (before after : List ℕ) → length after ≡ length before
    → ((i : ℕ) → (nat_le first i && nat_lt i (first + k)) ≡ false → slice_index after i ≡ slice_index before i)
    → DifferIn first k before after
differ first k before after e h = record {
  each = e;
  same = λ i apart. h i (outside i apart (nat_le first i) (nat_lt i (first + k)) refl refl);
}
  where
    outside : (i : ℕ) → ((j : ℕ) → j < k → i ≡ first + j → ⊥) → (b c : Bool) → nat_le first i ≡ b
        → nat_lt i (first + k) ≡ c → (nat_le first i && nat_lt i (first + k)) ≡ false
    outside i apart false c p q = ap (λ t. t && nat_lt i (first + k)) p
    outside i apart true false p q = ap (λ t. nat_le first i && t) q ∙ ap (λ t. t && false) p
    outside i apart true true p q =
        let above : first ≤ i = grind (arith, nat_tests, p) in
        let below : i < first + k = grind (arith, nat_tests, q) in
        absurd (apart (i - first) (omega (arith, above, below)) (omega (arith, above)))

-- the log leads back over a write
pub log_back : (h : Holder) (before after : List ℕ) → IsWithin (length before) h → length after ≡ length before
    → ((i : ℕ) → is_among h i ≡ false → slice_index after i ≡ slice_index before i)
    → taken_back (noted_of h before) after ≡ before
log_back (holder.Cell at) before after within e h =
    noted_back at 1 before after (omega (arith, within)) (record {
      each = e;
      same = λ i apart. h i (other i (same_or i at) (λ s. apart 0 (omega arith) (omega (arith, s))));
    })
  where
    other : (i : ℕ) → (((i == at) ≡ true) × (i ≡ at)) ⊎ (((i == at) ≡ false) × (i ≡ at → ⊥)) → (i ≡ at → ⊥)
        → (i == at) ≡ false
    other i (inl r) f = absurd (f r.1)
    other i (inr r) f = r.0
log_back (holder.Word first count address) before after within e h =
    noted_back first count before after within (differ first count before after e h)
log_back holder.Nowhere before after within e h =
    noted_back 0 0 before after (omega arith) (record { each = e; same = λ i apart. h i refl })

-- ---- one slot

one_slot : (net : Netlist) (g : Given) (ds : List Decl) (slot : Slot) (bits : List (Option Spot))
    → AreSlotsOf net g ds (slot ∷ []) bits → IsSlotOf net g ds slot bits
one_slot net g ds slot bits h =
    let e : bits ≡ h.0 = h.4 ∙ ap (λ ys. h.0 ++ ys) h.3 ∙ append-nil h.0 in
    subst (IsSlotOf net g ds slot) (sym e) h.2

now_where : (p : Bool) (t : State) (ws : List Write)
    → (if p then put_all ws t.now else t.now) ≡ (if p then with_writes a.Blocking t ws else t).now
now_where true t ws = refl
now_where false t ws = refl

now_stays : (p : Bool) (t : State) (ws : List Write)
    → t.now ≡ (if p then with_writes a.Nonblocking t ws else t).now
now_stays true t ws = refl
now_stays false t ws = refl

seen_stays : (p : Bool) (k : AssignKind) (t : State) (ws : List Write)
    → t.seen ≡ (if p then with_writes k t ws else t).seen
seen_stays true a.Blocking t ws = refl
seen_stays true a.Nonblocking t ws = refl
seen_stays false k t ws = refl

-- what was assumed stays so
met_same : (old new : Netlist) (g : Given) (ids other : List ℕ) (xs ys : List ℕ) → AddsNodes old new → AreNodes old ids
    → other ≡ ids → xs ≡ ys
    → Each (λ x. 0 < x) xs ↔ Each (λ id. 0 < value_at old g id) ids
    → Each (λ x. 0 < x) ys ↔ Each (λ id. 0 < value_at new g id) other
met_same old new g ids other xs ys adds own e f h =
    let P : List ℕ → Type 0 = λ us. Each (λ x. 0 < x) us ↔ Each (λ id. 0 < value_at new g id) other in
    let Q : List ℕ → Type 0 = λ us. Each (λ x. 0 < x) xs ↔ Each (λ id. 0 < value_at new g id) us in
    subst P f (subst Q (sym e) (
      λ m. met_on old new g ids adds own (h.0 m),
      λ m. h.1 (met_back old new g ids adds own m),
    ))

module _ (ds : List Decl) (path : Option ℕ) (slot : Slot) (value : ℕ) where
  -- a map that another net's write was put in
  put_later : (old at : Netlist) (g : Given) (bits : List (Option Spot)) (w : Values) → AddsNodes old at
      → IsPath old path → IsNode old value
      → (if is_taken at g path then put_all (written bits (value_at at g value)) w else w)
      ≡ (if is_taken old g path then put_all (written bits (value_at old g value)) w else w)
  put_later old at g bits w adds own there =
      λ i. if path_on old at g path adds own i then put_all (written bits (value_on old at g value adds there i)) w else w

  -- now and for the next cycle: the two writes stand behind one another, or beside
  pub assigned_now : (old b c new : Netlist) (f h : Cells) → IsFrame old ds f → IsSlotFor old ds slot
      → IsPath old path → IsNode old value → AddsNodes b new → AddsNodes old c
      → Writes old b f.now h.now path slot value → Writes c new f.next h.next path slot value
      → IsWithin (length f.now) slot.holder
      → h.assumed ≡ f.assumed → h.log ≡ f.log ++ noted_of slot.holder f.now
      → FollowWrite slot.holder None f.tracks h.tracks
      → Assigns old new ds f h path a.Blocking (slot ∷ []) (λ g. value_at old g value)
  assigned_now old b c new f h own fits way there later first one two within same log follow =
      let adds = adds_on old b new one.adds later in
      let P : List ℕ → Type 0 = λ ids. AreNodes new ids in
      record {
        adds = adds;
        frame = record {
          now = cells_on b new ds h.now later (cells_written old b ds f.now h.now path slot value one own.now);
          next =
              cells_written c new ds f.next h.next path slot value two (cells_on old c ds f.next first own.next);
          assumed = subst P (sym same) (nodes_on old new f.assumed adds own.assumed);
          tracks =
              let cells = cells_on old c ds f.next first own.next in
              tracks_written c new f.next h.next path slot value None (are_cells c ds f.next cells) two tt f.tracks
              h.tracks follow
              (tracks_on old c f.next f.tracks first (are_cells old ds f.next own.next) own.tracks);
        };
        back =
            ap (λ cs. taken_back cs h.now) log ∙ back_append f.log (noted_of slot.holder f.now) h.now
            ∙ ap (taken_back f.log) (log_back slot.holder f.now h.now within one.alike.each one.kept);
        comes = λ g t w bits given has slots.
            let s = one_slot old g ds slot bits slots in
            let y = value_at old g value in
            let p = is_taken old g path in
            let Q : Values → Type 0 = λ v. Stand new g ds h.now v in
            let R : Values → Type 0 = λ v. Stand new g ds h.next v in
            let given_c = given_on old c g first given in
            record {
              now =
                  subst Q (now_where p t (written bits y))
                  (stand_on b new g ds h.now (if p then put_all (written bits y) t.now else t.now) later
                  (cells_written old b ds f.now h.now path slot value one own.now)
                  (stand_written old b g ds f.now h.now path slot value bits t.now one given own.now has.now s));
              next =
                  subst R (put_later old c g bits w first way there)
                  (stand_written c new g ds f.next h.next path slot value bits w two given_c
                  (cells_on old c ds f.next first own.next)
                  (stand_on old c g ds f.next w first own.next has.next)
                  (slot_on old c g ds slot bits first fits s));
              assumed =
                  met_same old new g f.assumed h.assumed t.seen (if p then with_writes a.Blocking t (written bits y) else t).seen
                  adds own.assumed same (seen_stays p a.Blocking t (written bits y)) has.assumed;
            };
      }

  -- for the next cycle alone
  pub assigned_next : (old new : Netlist) (f h : Cells) (made : Option WordsWrite) → IsFrame old ds f
      → IsSlotFor old ds slot → Writes old new f.next h.next path slot value
      → IfSome made (Stores old new f.next h.next slot.width slot.holder)
      → FollowWrite slot.holder made f.tracks h.tracks
      → h.now ≡ f.now → h.assumed ≡ f.assumed → h.log ≡ f.log
      → Assigns old new ds f h path a.Nonblocking (slot ∷ []) (λ g. value_at old g value)
  assigned_next old new f h made own fits one stores follow now same log =
      let adds = one.adds in
      let P : List ℕ → Type 0 = λ ids. AreNodes new ids in
      let N : List ℕ → Type 0 = λ cells. AreCellsOf new ds cells in
      record {
        adds = adds;
        frame = record {
          now = subst N (sym now) (cells_on old new ds f.now adds own.now);
          next = cells_written old new ds f.next h.next path slot value one own.next;
          assumed = subst P (sym same) (nodes_on old new f.assumed adds own.assumed);
          tracks =
              tracks_written old new f.next h.next path slot value made (are_cells old ds f.next own.next) one stores
              f.tracks h.tracks follow own.tracks;
        };
        back = (λ i. taken_back (log i) (now i));
        comes = λ g t w bits given has slots.
            let s = one_slot old g ds slot bits slots in
            let y = value_at old g value in
            let p = is_taken old g path in
            let Q : Values → Type 0 = λ v. Stand new g ds h.now v in
            let C : List ℕ → Type 0 = λ cells. Stand new g ds cells t.now in
            record {
              now =
                  subst Q (now_stays p t (written bits y))
                  (subst C (sym now) (stand_on old new g ds f.now t.now adds own.now has.now));
              next = stand_written old new g ds f.next h.next path slot value bits w one given own.next has.next s;
              assumed =
                  met_same old new g f.assumed h.assumed t.seen
                  (if p then with_writes a.Nonblocking t (written bits y) else t).seen adds own.assumed same
                  (seen_stays p a.Nonblocking t (written bits y)) has.assumed;
            };
      }
