-- The bits of a number go to slots one after the other: what is left, and one slot more.
use Rattle.std.specs.Prelude.{◌≡◌, ℕ, zero, suc, ◌+◌, ◌/◌, ◌%◌, ◌^◌, ◌≤◌, List, [], ◌∷◌, ◌++◌, take, drop, Option}
use Rattle.std.specs.Prelude.{if◌then◌else◌}
use Rattle.std.proofs.Common.{ap, sym, ◌∙◌, arith, subst}
use Rattle.std.proofs.lemmas.Nat.{shr-shr}
use Rattle.fv_bits.specs.Bits.{part}
use Rattle.vl_tree.specs.declared.stmt.AssignKind.{AssignKind}
use Rattle.vl_size.specs.declared.decl.Decl.{Decl}
use Rattle.vl_mean.specs.Targets.{written, put_all}
use Rattle.wn_net.specs.Net.{Netlist, IsNode, value_at}
use Rattle.wn_net.specs.declared.node.Node.TheVariants as n
use Rattle.wn_net.specs.Changes.{AddsNodes, Builds}
use Rattle.wn_net.proofs.Laws.{adds_on, value_on}
use Rattle.vl_lower_assign.specs.declared.slot.Slot.{Slot}
use Rattle.vl_lower_assign.specs.Slots.{IsPath, is_taken}
use Rattle.vl_lower_assign.specs.Frames.{Cells, StandsFor, IsSlotFor, AllSlots, Assigns, slots_width, with_writes}
use Rattle.vl_lower_assign.proofs.Behind.{frame_on, stands_on}
use Rattle.vl_lower_assign.proofs.Several.{assigned_more}

-- ---- the slots that are left

pub width_left : (i : ℕ) (xs : List Slot) → slots_width (drop i xs) ≤ slots_width xs
width_left zero xs = omega arith
width_left (suc i) [] = omega arith
width_left (suc i) (x ∷ xs) = omega (arith, width_left i xs)

pub all_taken : (net : Netlist) (ds : List Decl) (i : ℕ) (xs : List Slot) → AllSlots net ds xs
    → AllSlots net ds (take i xs)
all_taken net ds zero xs all = tt
all_taken net ds (suc i) [] all = tt
all_taken net ds (suc i) (x ∷ xs) all = (all.0, all_taken net ds i xs all.1)

pub all_left : (net : Netlist) (ds : List Decl) (i : ℕ) (xs : List Slot) → AllSlots net ds xs
    → AllSlots net ds (drop i xs)
all_left net ds zero xs all = all
all_left net ds (suc i) [] all = tt
all_left net ds (suc i) (x ∷ xs) all = all_left net ds i xs all.1

-- the next one
pub slot_next : (net : Netlist) (ds : List Decl) (i : ℕ) (xs : List Slot) (s : Slot) (ys : List Slot)
    → drop i xs ≡ s ∷ ys → AllSlots net ds xs → IsSlotFor net ds s
slot_next net ds i xs s ys e all =
    let P : List Slot → Type 0 = λ zs. AllSlots net ds zs in (subst P e (all_left net ds i xs all)).0

pub width_next : (i : ℕ) (xs : List Slot) (s : Slot) (ys : List Slot) → drop i xs ≡ s ∷ ys
    → slots_width (drop i xs) ≡ s.count + slots_width ys
width_next i xs s ys e = ap slots_width e

-- ---- one more

module _ (ds : List Decl) (path : Option ℕ) (kind : AssignKind) where
  -- nodes are added behind
  pub assigned_before : (old mid new : Netlist) (f h : Cells) (xs : List Slot) (value rest : ℕ)
      → Assigns old mid ds f h path kind xs (λ g. value_at old g value / 2 ^ rest) → AddsNodes mid new
      → Assigns old new ds f h path kind xs (λ g. value_at old g value / 2 ^ rest)
  assigned_before old mid new f h xs value rest one adds = record {
    adds = adds_on old mid new one.adds adds;
    frame = frame_on mid new ds h adds one.frame;
    back = one.back;
    comes = λ g t w bits given has slots.
        stands_on mid new g ds h _ _ adds one.frame (one.comes g t w bits given has slots);
  }

  pub assigned_part : (old at mid new : Netlist) (f h k : Cells) (xs : List Slot) (s : Slot) (value whole rest id : ℕ)
      → IsNode old value → AllSlots old ds xs → IsSlotFor old ds s → IsPath old path → whole ≡ rest + s.count
      → Assigns old at ds f h path kind xs (λ g. value_at old g value / 2 ^ whole)
      → Builds at mid (n.Slice value rest s.count) s.count (λ g. part rest s.count (value_at at g value)) id
      → Assigns mid new ds h k path kind (s ∷ []) (λ g. value_at mid g id)
      → Assigns old new ds f k path kind (xs ++ s ∷ []) (λ g. value_at old g value / 2 ^ rest)
  assigned_part old at mid new f h k xs s value whole rest id there all own way e one built two =
      assigned_more ds path kind old mid new f h k xs s (λ g. value_at old g value / 2 ^ whole) (λ g. value_at mid g id)
      (λ g. value_at old g value / 2 ^ rest) all own way
      (assigned_before old at mid f h xs value whole one built.adds) two
      (λ g given. ap (λ m. value_at old g value / 2 ^ m) e ∙ sym (shr-shr (value_at old g value) rest s.count))
      (λ g given. built.value g
      ∙ ap (λ m. (m / 2 ^ rest) % 2 ^ s.count) (value_on old at g value one.adds there))

  -- all of them
  pub assigned_whole : (old new : Netlist) (f h : Cells) (xs : List Slot) (value rest : ℕ) → rest ≡ 0
      → Assigns old new ds f h path kind xs (λ g. value_at old g value / 2 ^ rest)
      → Assigns old new ds f h path kind xs (λ g. value_at old g value)
  assigned_whole old new f h xs value rest e one = record {
    adds = one.adds;
    frame = one.frame;
    back = one.back;
    comes = λ g t w bits given has slots.
        let P : ℕ → Type 0 = λ y. StandsFor new g ds h
        (if is_taken old g path then with_writes kind t (written bits y) else t)
        (if is_taken old g path then put_all (written bits y) w else w) in
        subst P (ap (λ m. value_at old g value / 2 ^ m) e ∙ whole (value_at old g value))
        (one.comes g t w bits given has slots);
  }
    where
      whole : (y : ℕ) → y / 2 ^ 0 ≡ y
      whole y = omega arith
