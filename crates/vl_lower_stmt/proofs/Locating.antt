-- The slots of targets.
use Rattle.std.specs.Prelude.{◌≡◌, refl, ℕ, ◌+◌, ◌==◌, ◌&&◌, nat_lt, List, [], ◌∷◌, ◌++◌, Option, Some, None, IsSome}
use Rattle.std.specs.Prelude.{is_none, if◌then◌else◌}
use Rattle.std.proofs.Common.{ap, sym, ◌∙◌, arith, subst, append_assoc, true≢false}
use Rattle.std.proofs.lemmas.List.{append-nil}
use Rattle.fv_text.specs.declared.pos.Pos.{Pos}
use Rattle.vl_tree.specs.Expr.{Expr, Selects, bit, name}
use Rattle.vl_tree.specs.Lval.{Lval, lvals}
use Rattle.vl_size.specs.declared.decl.Decl.{Decl}
use Rattle.vl_size.specs.Size.{◌>>=◌, Values, index_of, or_none, size, vector_size, word_size}
use Rattle.vl_size.specs.Table.{IsShaped, declared_as}
use Rattle.vl_mean.specs.FlatLaw.{all_target_sizes, flat_scopes, target_size}
use Rattle.vl_mean.specs.Scopes.{full, operand_in}
use Rattle.vl_mean.specs.Targets.{Spot, all_spots, full_word, name_spots, spots, spots_from, spots_of, vector_spots}
use Rattle.vl_mean.specs.Targets.{word_index, word_spots}
use Rattle.vl_mean_flat.proofs.SameTarget.{flat_declared, flat_full}
use Rattle.vl_flow_spec.proofs.Same.{declared_name}
use Rattle.wn_net.specs.Value.{Given}
use Rattle.wn_net.specs.Net.{Netlist}
use Rattle.wn_net.specs.Changes.{AddsNodes}
use Rattle.wn_net.proofs.Laws.{adds_on, adds_none, given_on, there_on, value_on}
use Rattle.vl_lower_assign.specs.declared.slot.Holder.{Holder}
use Rattle.vl_lower_assign.specs.declared.slot.Holder.TheVariants as holder
use Rattle.vl_lower_assign.specs.declared.slot.Slot.{Slot}
use Rattle.vl_lower_assign.specs.Slots.{hits}
use Rattle.vl_lower_assign.specs.Frames.{AllSlots, AreCellsOf, AreSlotsOf, AreWide, IsHolderIn, IsSlotFor, IsSlotOf}
use Rattle.vl_lower_assign.specs.Frames.{slots_width}
use Rattle.vl_lower_assign.proofs.Behind.{stand_on}
use Rattle.vl_lower_assign.proofs.Several.{all_slots_on, slots_on}
use Rattle.vl_lower_stmt.specs.Located.{HasBits, IsHeld, IsLocated, Locates}

-- ---- the slot of a name

holder_on : (old new : Netlist) (h : Holder) → AddsNodes old new → IsHolderIn old h → IsHolderIn new h
holder_on old new (holder.Cell at) adds own = own
holder_on old new (holder.Word first count address) adds own = there_on old new address adds own
holder_on old new holder.Nowhere adds own = own

hits_on : (old new : Netlist) (g : Given) (h : Holder) (i : ℕ) → AddsNodes old new → IsHolderIn old h
    → hits new g h i ≡ hits old g h i
hits_on old new g (holder.Cell at) i adds own = refl
hits_on old new g (holder.Word first count address) i adds own =
    ap (λ word. nat_lt word count && (i == first + word)) (value_on old new g address adds own)
hits_on old new g holder.Nowhere i adds own = refl

-- bits of the cell that has a name
pub located : (ds : List Decl) (old mid new : Netlist) (cells : List ℕ) (d : Decl) (xs : Selects) (slot : Slot)
    (text : Values → Option (List ℕ)) → IsShaped d → AreCellsOf old ds cells
    → IsHeld ds old mid cells d.width slot.holder text → HasBits ds mid new cells d xs slot
    → IsLocated ds old new cells slot (or_none (vector_size ds d xs))
    (λ v. vector_spots (flat_scopes ds) v d (text v) xs)
located ds old mid new cells d xs slot text shaped own held bits = record {
  adds = adds_on old mid new held.adds bits.adds;
  fits = record {
    some_bits = omega (arith, bits.width, shaped.some_bits);
    few_bits = omega (arith, bits.width, shaped.few_bits);
    some = bits.some;
    few = bits.few;
    wide = let P : ℕ → Type 0 = λ w. AreWide ds w slot.holder in subst P (sym bits.width) held.wide;
    holder = holder_on mid new slot.holder bits.adds held.there;
    place = bits.there;
  };
  width = bits.count;
  is = λ g v given has.
      let r = bits.bits g v (text v) (given_on old mid g held.adds given) (stand_on old mid g ds cells v held.adds
      own has) in
      record {
        place = r.0;
        text = text v;
        at = r.1;
        bits_are = r.2 ∙ ap (λ w. spots_from slot.count w (text v) r.0) (sym bits.width);
        held = λ i n e. hits_on mid new g slot.holder i bits.adds held.there ∙ held.is g v i n given has e;
      };
}

-- what is said of a memory, and not of a vector
other : {A B : Type 0} (x y : B) (o : Option A) → IsSome o → y ≡ (if is_none o then x else y)
other x y None h = absurd (true≢false (sym h))
other x y (Some a) h = refl

module _ (ds : List Decl) (d : Decl) (text : List ℕ) (declared : declared_as ds text ≡ Some d) where
  -- of a vector
  pub vector_bits : (v : Values) (xs : Selects) → d.words ≡ None
      → vector_spots (flat_scopes ds) v d (Some d.name) xs ≡ name_spots (flat_scopes ds) v text xs
  vector_bits v xs none =
      ap (λ m. vector_spots (flat_scopes ds) v d (Some m) xs) (sym (declared_name ds text d declared) ∙ sym
      (flat_full ds text))
      ∙ ap (λ o. if is_none o then vector_spots (flat_scopes ds) v d (Some (full (flat_scopes ds) text)) xs
      else word_spots (flat_scopes ds) v d xs) (sym none)
      ∙ ap (λ o. spots_of o (λ d. if is_none d.words
      then vector_spots (flat_scopes ds) v d (Some (full (flat_scopes ds) text)) xs
      else word_spots (flat_scopes ds) v d xs)) (sym declared ∙ sym (flat_declared ds text))

  pub vector_count : (p : Pos) (xs : Selects) → d.words ≡ None
      → or_none (vector_size ds d xs) ≡ or_none (size ds (name p text xs))
  vector_count p xs none =
      ap (λ o. or_none (if is_none o then vector_size ds d xs else word_size ds d xs)) (sym none)
      ∙ ap (λ o. or_none (o >>= λ d. if is_none d.words then vector_size ds d xs else word_size ds d xs)) (sym
      declared)

  -- of a word
  pub memory_bits : (v : Values) (xs : Selects) → IsSome d.words
      → word_spots (flat_scopes ds) v d xs ≡ name_spots (flat_scopes ds) v text xs
  memory_bits v xs some =
      other (vector_spots (flat_scopes ds) v d (Some (full (flat_scopes ds) text)) xs) (word_spots (flat_scopes ds) v
      d xs)
      d.words some
      ∙ ap (λ o. spots_of o (λ d. if is_none d.words
      then vector_spots (flat_scopes ds) v d (Some (full (flat_scopes ds) text)) xs
      else word_spots (flat_scopes ds) v d xs)) (sym declared ∙ sym (flat_declared ds text))

  pub memory_count : (p : Pos) (xs : Selects) → IsSome d.words
      → or_none (word_size ds d xs) ≡ or_none (size ds (name p text xs))
  memory_count p xs some =
      ap or_none (other (vector_size ds d xs) (word_size ds d xs) d.words some)
      ∙ ap (λ o. or_none (o >>= λ d. if is_none d.words then vector_size ds d xs else word_size ds d xs)) (sym
      declared)

-- the name of the word stands in the one scope
pub word_bits : (ds : List Decl) (d : Decl) (v : Values) (p : Pos) (i : Expr) (xs : Selects)
    → vector_spots (flat_scopes ds) v d
    (full_word d.name (word_index d.words (index_of (operand_in (flat_scopes ds) v i)))) xs
    ≡ word_spots (flat_scopes ds) v d (bit p i xs)
word_bits ds d v p i xs =
    ap (λ m. vector_spots (flat_scopes ds) v d
    (full_word m (word_index d.words (index_of (operand_in (flat_scopes ds) v i)))) xs) (sym (flat_full ds d.name))

pub word_count : (ds : List Decl) (d : Decl) (p : Pos) (i : Expr) (xs : Selects) → IsSome (size ds i)
    → or_none (vector_size ds d xs) ≡ or_none (word_size ds d (bit p i xs))
word_count ds d p i xs h = by (size ds i) h
  where
    by : (o : Option ℕ) → IsSome o → or_none (vector_size ds d xs) ≡ or_none (o >>= λ k. vector_size ds d xs)
    by None h = absurd (true≢false (sym h))
    by (Some k) h = refl

-- the same slot, of bits that are one
pub located_as : (ds : List Decl) (old new : Netlist) (cells : List ℕ) (slot : Slot) (m n : ℕ)
    (bits other : Values → List (Option Spot)) → IsLocated ds old new cells slot m bits → m ≡ n
    → ((v : Values) → bits v ≡ other v) → IsLocated ds old new cells slot n other
located_as ds old new cells slot m n bits other h e same = record {
  adds = h.adds;
  fits = h.fits;
  width = h.width ∙ e;
  is = λ g v given has. subst (IsSlotOf new g ds slot) (same v) (h.is g v given has);
}

-- ---- one slot behind others

all_push : (net : Netlist) (ds : List Decl) (xs : List Slot) (s : Slot) → AllSlots net ds xs → IsSlotFor net ds s
    → AllSlots net ds (xs ++ s ∷ [])
all_push net ds [] s h k = (k, tt)
all_push net ds (x ∷ xs) s h k = (h.0, all_push net ds xs s h.1 k)

width_push : (xs : List Slot) (s : Slot) → slots_width (xs ++ s ∷ []) ≡ slots_width xs + s.count
width_push [] s = omega arith
width_push (x ∷ xs) s = let more = width_push xs s in omega (arith, more)

slots_push : (net : Netlist) (g : Given) (ds : List Decl) (xs : List Slot) (s : Slot) (front bits : List (Option Spot))
    → AreSlotsOf net g ds xs front → IsSlotOf net g ds s bits → AreSlotsOf net g ds (xs ++ s ∷ []) (front ++ bits)
slots_push net g ds [] s front bits h k =
    (bits, [], k, refl, ap (λ ys. ys ++ bits) h ∙ sym (append-nil bits))
slots_push net g ds (x ∷ xs) s front bits h k = (
  h.0,
  h.1 ++ bits,
  h.2,
  slots_push net g ds xs s h.1 bits h.3 k,
  ap (λ ys. ys ++ bits) h.4 ∙ append_assoc h.0 h.1 bits,
)

module _ (ds : List Decl) where
  pub locates_one : (old new : Netlist) (cells : List ℕ) (before after : List Slot) (slot : Slot) (count : ℕ)
      (bits : Values → List (Option Spot)) → AllSlots old ds before → IsLocated ds old new cells slot count bits
      → after ≡ before ++ slot ∷ [] → Locates ds old new cells before after count bits
  locates_one old new cells before after slot count bits all h e =
      let A : List Slot → Type 0 = λ ss. AllSlots new ds ss in
      record {
        adds = h.adds;
        slots = subst A (sym e) (all_push new ds before slot (all_slots_on old new ds before h.adds all) h.fits);
        width = ap slots_width e ∙ width_push before slot ∙ ap (λ n. slots_width before + n) h.width;
        at = λ g v front given has own.
            let P : List Slot → Type 0 = λ ss. AreSlotsOf new g ds ss (front ++ bits v) in
            subst P (sym e)
            (slots_push new g ds before slot front (bits v) (slots_on old new g ds before front h.adds all own)
            (h.is g v given has));
      }

  -- ---- several targets

  pub locates_none : (net : Netlist) (cells : List ℕ) (slots : List Slot) → AllSlots net ds slots
      → Locates ds net net cells slots slots (all_target_sizes ds (lvals []))
      (λ v. all_spots (flat_scopes ds) v (lvals []))
  locates_none net cells slots all = record {
    adds = adds_none net;
    slots = all;
    width = omega arith;
    at = λ g v front given has own. subst (AreSlotsOf net g ds slots) (sym (append-nil front)) own;
  }

  spots_behind : (v : Values) (ls : List Lval) (l : Lval)
      → all_spots (flat_scopes ds) v (lvals (ls ++ l ∷ []))
      ≡ all_spots (flat_scopes ds) v (lvals ls) ++ spots (flat_scopes ds) v l
  spots_behind v [] l = append-nil (spots (flat_scopes ds) v l)
  spots_behind v (x ∷ ls) l =
      ap (λ ys. spots (flat_scopes ds) v x ++ ys) (spots_behind v ls l)
      ∙ sym (append_assoc (spots (flat_scopes ds) v x) (all_spots (flat_scopes ds) v (lvals ls))
      (spots (flat_scopes ds) v l))

  sizes_behind : (ls : List Lval) (l : Lval)
      → all_target_sizes ds (lvals (ls ++ l ∷ [])) ≡ all_target_sizes ds (lvals ls) + target_size ds l
  sizes_behind [] l = omega arith
  sizes_behind (x ∷ ls) l = let more = sizes_behind ls l in omega (arith, more)

  pub locates_more : (a b c : Netlist) (cells : List ℕ) (before mid after : List Slot) (ls : List Lval) (l : Lval)
      → AreCellsOf a ds cells
      → Locates ds a b cells before mid (all_target_sizes ds (lvals ls))
      (λ v. all_spots (flat_scopes ds) v (lvals ls))
      → Locates ds b c cells mid after (target_size ds l) (λ v. spots (flat_scopes ds) v l)
      → Locates ds a c cells before after (all_target_sizes ds (lvals (ls ++ l ∷ [])))
      (λ v. all_spots (flat_scopes ds) v (lvals (ls ++ l ∷ [])))
  locates_more a b c cells before mid after ls l own one two = record {
    adds = adds_on a b c one.adds two.adds;
    slots = two.slots;
    width = omega (arith, one.width, two.width, sizes_behind ls l);
    at = λ g v front given has slots.
        let first = all_spots (flat_scopes ds) v (lvals ls) in
        let last = spots (flat_scopes ds) v l in
        subst (AreSlotsOf c g ds after)
        (append_assoc front first last ∙ ap (λ ys. front ++ ys) (sym (spots_behind v ls l)))
        (two.at g v (front ++ first) (given_on a b g one.adds given) (stand_on a b g ds cells v one.adds own has)
        (one.at g v front given has slots));
  }
