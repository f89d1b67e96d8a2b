-- Assignments to several slots, one behind the other.
use Rattle.std.specs.Prelude.{◌≡◌, refl, ℕ, ◌/◌, ◌%◌, ◌^◌, Bool, true, false, List, [], ◌∷◌, ◌++◌, length, Option}
use Rattle.std.specs.Prelude.{if◌then◌else◌}
use Rattle.std.proofs.Common.{ap, sym, ◌∙◌, subst, append_assoc}
use Rattle.std.proofs.lemmas.List.{append-nil}
use Rattle.vl_tree.specs.declared.stmt.AssignKind.{AssignKind}
use Rattle.vl_tree.specs.declared.stmt.AssignKind.TheVariants as a
use Rattle.vl_size.specs.declared.decl.Decl.{Decl}
use Rattle.vl_size.specs.Size.{Values}
use Rattle.vl_mean.specs.Execution.{State}
use Rattle.vl_mean.specs.Targets.{Spot, Write, written, put_all}
use Rattle.wn_net.specs.Value.{Given}
use Rattle.wn_net.specs.Net.{Netlist}
use Rattle.wn_net.specs.Given.{IsGiven}
use Rattle.wn_net.specs.Changes.{AddsNodes}
use Rattle.wn_net.proofs.Laws.{adds_on, adds_none, given_on}
use Rattle.vl_lower_assign.specs.declared.slot.Slot.{Slot}
use Rattle.vl_lower_assign.specs.Slots.{IsPath, is_taken}
use Rattle.vl_lower_assign.specs.Frames.{Cells, IsFrame, StandsFor, IsSlotFor, IsSlotOf, AreSlotsOf, AllSlots, Assigns}
use Rattle.vl_lower_assign.specs.Frames.{with_writes}
use Rattle.vl_lower_assign.proofs.Writing.{puts_append, written_append, written_low, spots_count}
use Rattle.vl_lower_assign.proofs.Standing.{slot_for_on, slot_on}
use Rattle.vl_lower_assign.proofs.Tests.{path_on}

-- ---- lists of slots

-- the bits of the last slot stand behind those of the others
pub record IsParted (net : Netlist) (g : Given) (ds : List Decl) (xs : List Slot) (s : Slot) (bits : List (Option Spot))
    : Type 0 where
  pub front : List (Option Spot)
  pub back : List (Option Spot)
  pub slots : AreSlotsOf net g ds xs front
  pub last : IsSlotOf net g ds s back
  pub both : bits ≡ front ++ back

pub parted : (net : Netlist) (g : Given) (ds : List Decl) (xs : List Slot) (s : Slot) (bits : List (Option Spot))
    → AreSlotsOf net g ds (xs ++ s ∷ []) bits → IsParted net g ds xs s bits
parted net g ds [] s bits h = record {
  front = [];
  back = h.0;
  slots = refl;
  last = h.2;
  both = h.4 ∙ ap (λ ys. h.0 ++ ys) h.3 ∙ append-nil h.0;
}
parted net g ds (x ∷ xs) s bits h =
    let r = parted net g ds xs s h.1 h.3 in
    record {
      front = h.0 ++ r.front;
      back = r.back;
      slots = (h.0, r.front, h.2, r.slots, refl);
      last = r.last;
      both = h.4 ∙ ap (λ ys. h.0 ++ ys) r.both ∙ sym (append_assoc h.0 r.front r.back);
    }

pub slots_on : (old new : Netlist) (g : Given) (ds : List Decl) (xs : List Slot) (bits : List (Option Spot))
    → AddsNodes old new → AllSlots old ds xs → AreSlotsOf old g ds xs bits → AreSlotsOf new g ds xs bits
slots_on old new g ds [] bits adds own h = h
slots_on old new g ds (x ∷ xs) bits adds own h =
    (h.0, h.1, slot_on old new g ds x h.0 adds own.0 h.2, slots_on old new g ds xs h.1 adds own.1 h.3, h.4)

pub all_slots_on : (old new : Netlist) (ds : List Decl) (xs : List Slot) → AddsNodes old new → AllSlots old ds xs
    → AllSlots new ds xs
all_slots_on old new ds [] adds own = tt
all_slots_on old new ds (x ∷ xs) adds own =
    (slot_for_on old new ds x adds own.0, all_slots_on old new ds xs adds own.1)

-- ---- one more

both_writes : (p : Bool) (k : AssignKind) (t : State) (ws vs : List Write)
    → (if p then with_writes k (if p then with_writes k t ws else t) vs else (if p then with_writes k t ws else t))
    ≡ (if p then with_writes k t (ws ++ vs) else t)
both_writes false k t ws vs = refl
both_writes true a.Blocking t ws vs = λ i. record t { now = sym (puts_append ws vs t.now) i }
both_writes true a.Nonblocking t ws vs = λ i. record t { pending = append_assoc t.pending ws vs i }

both_puts : (p : Bool) (w : Values) (ws vs : List Write)
    → (if p then put_all vs (if p then put_all ws w else w) else (if p then put_all ws w else w))
    ≡ (if p then put_all (ws ++ vs) w else w)
both_puts false w ws vs = refl
both_puts true w ws vs = sym (puts_append ws vs w)

module _ (ds : List Decl) (path : Option ℕ) (kind : AssignKind) where
  pub assigned_none : (net : Netlist) (f : Cells) (number : Given → ℕ) → IsFrame net ds f
      → Assigns net net ds f f path kind [] number
  assigned_none net f number own = record {
    adds = adds_none net;
    frame = own;
    back = refl;
    comes = λ g t w bits given has slots.
        let P : State → Type 0 = λ u. StandsFor net g ds f u
        (if is_taken net g path then put_all (written bits (number g)) w else w) in
        let Q : Values → Type 0 = λ u. StandsFor net g ds f t u in
        subst P (nothing (is_taken net g path) kind t bits (number g) slots)
        (subst Q (no_put (is_taken net g path) w bits (number g) slots) has);
  }
    where
      nothing : (p : Bool) (k : AssignKind) (t : State) (bits : List (Option Spot)) (y : ℕ) → bits ≡ []
          → t ≡ (if p then with_writes k t (written bits y) else t)
      nothing false k t bits y e = refl
      nothing true a.Blocking t bits y e = λ i. record t { now = put_all (written (sym e i) y) t.now }
      nothing true a.Nonblocking t bits y e =
          (λ i. record t { pending = sym (append-nil t.pending) i })
          ∙ (λ i. record t { pending = t.pending ++ written (sym e i) y })

      no_put : (p : Bool) (w : Values) (bits : List (Option Spot)) (y : ℕ) → bits ≡ []
          → w ≡ (if p then put_all (written bits y) w else w)
      no_put false w bits y e = refl
      no_put true w bits y e = λ i. put_all (written (sym e i) y) w

  pub assigned_more : (old mid new : Netlist) (f h k : Cells) (xs : List Slot) (s : Slot) (m n whole : Given → ℕ)
      → AllSlots old ds xs → IsSlotFor old ds s → IsPath old path
      → Assigns old mid ds f h path kind xs m → Assigns mid new ds h k path kind (s ∷ []) n
      → ((g : Given) → IsGiven old g → m g ≡ whole g / 2 ^ s.count)
      → ((g : Given) → IsGiven old g → n g ≡ whole g % 2 ^ s.count)
      → Assigns old new ds f k path kind (xs ++ s ∷ []) whole
  assigned_more old mid new f h k xs s m n whole all own way one two high low = record {
    adds = adds_on old mid new one.adds two.adds;
    frame = two.frame;
    back = two.back ∙ one.back;
    comes = λ g t w bits given has slots.
        let r = parted old g ds xs s bits slots in
        let y = whole g in
        let p = is_taken old g path in
        let ws = written r.front (m g) in
        let vs = written r.back (n g) in
        let count : length r.back ≡ s.count =
        ap length r.last.bits_are ∙ spots_count s.count s.width r.last.text r.last.place in
        let same : ws ++ vs ≡ written bits y =
        (λ i. written r.front (high g given i) ++ written r.back (low g given i))
        ∙ ap (λ zs. written r.front (y / 2 ^ s.count) ++ zs) (written_low r.back s.count y count)
        ∙ (λ i. written r.front (y / 2 ^ sym count i) ++ written r.back y)
        ∙ sym (written_append r.front r.back y) ∙ ap (λ bs. written bs y) (sym r.both) in
        let first = one.comes g t w r.front given has r.slots in
        let last_slot = slot_on old mid g ds s r.back one.adds own r.last in
        let u = (if p then with_writes kind t ws else t) in
        let x = (if p then put_all ws w else w) in
        let second = two.comes g u x r.back (given_on old mid g one.adds given) first
        (r.back, [], last_slot, refl, sym (append-nil r.back)) in
        let way_is = path_on old mid g path one.adds way in
        let P : State → Type 0 = λ v. StandsFor new g ds k v
        (if is_taken mid g path then put_all vs x else x) in
        let Q : Values → Type 0 = λ v. StandsFor new g ds k
        (if p then with_writes kind t (written bits y) else t) v in
        subst Q
        ((λ i. if way_is i then put_all vs x else x) ∙ both_puts p w ws vs
        ∙ (λ i. if p then put_all (same i) w else w))
        (subst P
        ((λ i. if way_is i then with_writes kind u vs else u) ∙ both_writes p kind t ws vs
        ∙ (λ i. if p then with_writes kind t (same i) else t)) second);
  }
