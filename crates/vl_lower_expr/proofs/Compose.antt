-- One step of lowering behind another.
use Rattle.std.specs.Prelude.{◌≡◌, refl, ℕ, ◌+◌, ◌<◌, List, length, Option, Some, None, MatchOption, IfSome, IsSome, ℤ}
use Rattle.std.specs.Prelude.{slice_get, slice_index, Bool, true, false, ◌&&◌, ◌||◌, ◌==◌, bit_and, bit_or}
use Rattle.std.specs.Prelude.{if◌then◌else◌}
use Rattle.std.proofs.Common.{sym, ◌∙◌, subst}
use Rattle.std.proofs.lemmas.Option.{get_or_from_slice_get, slice_get_within}
use Rattle.fv_bits.specs.Bits.{bit}
use Rattle.vl_size.specs.declared.decl.Decl.{Decl}
use Rattle.vl_size.specs.Size.{Cells}
use Rattle.vl_size.specs.Table.{span}
use Rattle.wn_net.specs.declared.node.Node.{Node}
use Rattle.wn_net.specs.Value.{Given}
use Rattle.wn_net.specs.Net.{Netlist, IsNode, IsNodeOf, value_at, width_at}
use Rattle.wn_net.specs.Given.{IsGiven}
use Rattle.wn_net.specs.Changes.{AddsNodes, Builds, Shows}
use Rattle.wn_net.proofs.Laws.{adds_on, adds_none, node_on, value_on, given_on, built_node}
use Rattle.vl_lower_expr.specs.declared.place.Place.{Place}
use Rattle.vl_lower_expr.specs.declared.place.Place.TheVariants as place
use Rattle.vl_lower_expr.specs.Bound.{Bound, HasCell, IsMemoryIn, FitsPlace, AreBound, HasNumber, HaveNumbers}
use Rattle.vl_lower_expr.specs.Bound.{word_index}
use Rattle.vl_lower_expr.specs.Lowers.{Lowers}

-- ---- places stay

cell_on : (old new : Netlist) (w : ℕ) (o : Option ℕ) → AddsNodes old new → MatchOption o ⊥ (IsNodeOf old w)
    → MatchOption o ⊥ (IsNodeOf new w)
cell_on old new w None adds h = h
cell_on old new w (Some id) adds h = node_on old new w id adds h

cells_on : (old new : Netlist) (cells : List ℕ) (w at : ℕ) (o : Option (ℤ × ℤ)) → AddsNodes old new
    → MatchOption o ⊥ (λ bounds. (k : ℕ) → k < span bounds.0 bounds.1 → HasCell old cells w (at + k))
    → MatchOption o ⊥ (λ bounds. (k : ℕ) → k < span bounds.0 bounds.1 → HasCell new cells w (at + k))
cells_on old new cells w at None adds h = h
cells_on old new cells w at (Some bounds) adds h = λ k below. cell_on old new w (slice_get cells (at + k)) adds
    (h k below)

memory_on : (old new : Netlist) (m w : ℕ) (o : Option (ℤ × ℤ)) → AddsNodes old new
    → MatchOption o ⊥ (IsMemoryIn old.mems m w) → MatchOption o ⊥ (IsMemoryIn new.mems m w)
memory_on old new m w o adds h = subst (λ ms. MatchOption o ⊥ (IsMemoryIn ms m w)) (sym adds.mems) h

fits_on : (old new : Netlist) (cells : List ℕ) (d : Decl) (p : Place) → AddsNodes old new
    → FitsPlace old cells d p → FitsPlace new cells d p
fits_on old new cells d (place.Vector at) adds h = (h.0, cell_on old new d.width (slice_get cells at) adds h.1)
fits_on old new cells d (place.Words at) adds h = cells_on old new cells d.width at d.words adds h
fits_on old new cells d (place.Memory m) adds h = memory_on old new m d.width d.words adds h

pub bound_on : (old new : Netlist) (names : Bound) → AddsNodes old new → AreBound old names → AreBound new names
bound_on old new names adds h = record {
  each = h.each;
  placed = λ d p at.
      let own = h.placed d p at in
      record {
        shaped = own.shaped;
        kept = own.kept;
        few = own.few;
        fits =
            fits_on old new names.cells d p adds own.fits;
      };
}

-- so do the numbers that stand there

cell_number : (old new : Netlist) (g : Given) (cells : List ℕ) (w at : ℕ) → AddsNodes old new → HasCell old cells w at
    → value_at new g (slice_index cells at) ≡ value_at old g (slice_index cells at)
cell_number old new g cells w at adds h = by (slice_get cells at) refl h
  where
    by : (o : Option ℕ) → slice_get cells at ≡ o → MatchOption o ⊥ (IsNodeOf old w)
        → value_at new g (slice_index cells at) ≡ value_at old g (slice_index cells at)
    by None e h = absurd h
    by (Some id) e h =
        let same : slice_index cells at ≡ id = get_or_from_slice_get cells at id 0 e in
        value_on old new g (slice_index cells at) adds (subst (λ n. IsNode old n) (sym same) h.0)

words_number : (old new : Netlist) (g : Given) (v : Cells) (cells name : List ℕ) (w at : ℕ) (o : Option (ℤ × ℤ))
    → AddsNodes old new
    → MatchOption o ⊥ (λ bounds. (k : ℕ) → k < span bounds.0 bounds.1 → HasCell old cells w (at + k))
    → IfSome o (λ bounds. (k : ℕ) → k < span bounds.0 bounds.1
    → v name (Some (word_index bounds k)) ≡ value_at old g (slice_index cells (at + k)))
    → IfSome o (λ bounds. (k : ℕ) → k < span bounds.0 bounds.1
    → v name (Some (word_index bounds k)) ≡ value_at new g (slice_index cells (at + k)))
words_number old new g v cells name w at None adds own h = h
words_number old new g v cells name w at (Some bounds) adds own h =
    λ k below. h k below ∙ sym (cell_number old new g cells w (at + k) adds (own k below))

number_on : (old new : Netlist) (g : Given) (v : Cells) (cells : List ℕ) (d : Decl) (p : Place) → AddsNodes old new
    → FitsPlace old cells d p → HasNumber old g v cells d p → HasNumber new g v cells d p
number_on old new g v cells d (place.Vector at) adds own h = h ∙ sym (cell_number old new g cells d.width at adds own.1)
number_on old new g v cells d (place.Words at) adds own h =
    words_number old new g v cells d.name d.width at d.words adds own h
number_on old new g v cells d (place.Memory m) adds own h = h

pub numbers_on : (old new : Netlist) (g : Given) (v : Cells) (names : Bound) → AddsNodes old new → AreBound old names
    → HaveNumbers old g v names → HaveNumbers new g v names
numbers_on old new g v names adds own h = λ d p at. number_on old new g v names.cells d p adds
    (own.placed d p at).fits (h d p at)

-- the node in a vector's cell
pub cell_node : (net : Netlist) (cells : List ℕ) (w at : ℕ) → HasCell net cells w at
    → (at < length cells) × IsNodeOf net w (slice_index cells at)
cell_node net cells w at h = by (slice_get cells at) refl h
  where
    by : (o : Option ℕ) → slice_get cells at ≡ o → MatchOption o ⊥ (IsNodeOf net w)
        → (at < length cells) × IsNodeOf net w (slice_index cells at)
    by None e h = absurd h
    by (Some id) e h =
        let P : ℕ → Type 0 = λ n. IsNodeOf net w n in
        (slice_get_within cells at id e, subst P (sym (get_or_from_slice_get cells at id 0 e)) h)

pub vector_place : (net : Netlist) (cells : List ℕ) (d : Decl) (p : Place) (at : ℕ) → FitsPlace net cells d p
    → p ≡ place.Vector at → (d.words ≡ None) × HasCell net cells d.width at
vector_place net cells d p at h e = let P : Place → Type 0 = λ q. FitsPlace net cells d q in subst P e h

pub vector_has : (net : Netlist) (g : Given) (v : Cells) (cells : List ℕ) (d : Decl) (p : Place) (at : ℕ)
    → HasNumber net g v cells d p → p ≡ place.Vector at → v d.name None ≡ value_at net g (slice_index cells at)
vector_has net g v cells d p at h e = let P : Place → Type 0 = λ q. HasNumber net g v cells d q in subst P e h

some_words : {A : Type 0} (o : Option A) (P : A → Type 0) → MatchOption o ⊥ P → IsSome o
some_words None P h = absurd h
some_words (Some x) P h = refl

-- what isn't a vector is a memory
pub memory_there : (net : Netlist) (cells : List ℕ) (d : Decl) (p : Place) → FitsPlace net cells d p
    → ((at : ℕ) → p ≡ place.Vector at → ⊥) → IsSome d.words
memory_there net cells d (place.Vector at) h other = absurd (other at refl)
memory_there net cells d (place.Words at) h other = some_words d.words _ h
memory_there net cells d (place.Memory m) h other = some_words d.words _ h

-- ---- what one call gives another

-- what a builder builds is shown
pub shown : (old new : Netlist) (x : Node) (w : ℕ) (m : Given → ℕ) (id : ℕ) → Builds old new x w m id
    → Shows old new w m id
shown old new x w m id h = record { node = built_node old new x w m id h; value = λ g given. h.value g }

module _ (names : Bound) where
  -- a node that shows what is meant
  pub lowered : (a c : Netlist) (w : ℕ) (m : Given → ℕ) (k : Given → Cells → ℕ) (id : ℕ) → AddsNodes a c
      → Shows a c w m id
      → ((g : Given) (v : Cells) → IsGiven a g → HaveNumbers a g v names → m g ≡ k g v) → Lowers a c names w k id
  lowered a c w m k id adds h e =
      record { adds = adds; node = h.node; value = λ g v given has. h.value g given ∙ e g v given has }

  -- another meaning that comes to the same numbers
  pub lowered_as : (a c : Netlist) (w : ℕ) (m n : Given → Cells → ℕ) (id : ℕ) → Lowers a c names w m id
      → ((g : Given) (v : Cells) → m g v ≡ n g v) → Lowers a c names w n id
  lowered_as a c w m n id h e =
      record { adds = h.adds; node = h.node; value = λ g v given has. h.value g v given has ∙ e g v }

  -- one that does where the places have the numbers
  pub lowered_where : (a c : Netlist) (w : ℕ) (m n : Given → Cells → ℕ) (id : ℕ) → Lowers a c names w m id
      → ((g : Given) (v : Cells) → HaveNumbers a g v names → m g v ≡ n g v) → Lowers a c names w n id
  lowered_where a c w m n id h e =
      record { adds = h.adds; node = h.node; value = λ g v given has. h.value g v given has ∙ e g v has }

  -- the same of another width
  pub lowered_at : (a c : Netlist) (w u : ℕ) (m n : Given → Cells → ℕ) (id : ℕ) → Lowers a c names w m id → w ≡ u
      → ((g : Given) (v : Cells) → m g v ≡ n g v) → Lowers a c names u n id
  lowered_at a c w u m n id h wide e =
      record {
        adds = h.adds;
        node = (h.node.0, h.node.1 ∙ wide);
        value = λ g v given has. h.value g v given has
            ∙ e g v;
      }

  -- the node is there already
  pub lowered_there : (a : Netlist) (w id : ℕ) → IsNodeOf a w id → Lowers a a names w (λ g v. value_at a g id) id
  lowered_there a w id h = record { adds = adds_none a; node = h; value = λ g v given has. refl }

  -- the names stay bound
  pub bound_after : (a c : Netlist) (w : ℕ) (m : Given → Cells → ℕ) (id : ℕ) → Lowers a c names w m id
      → AreBound a names
      → AreBound c names
  bound_after a c w m id h own = bound_on a c names h.adds own

  -- one operand, by its width
  pub lowered_one : (a b c : Netlist) (w : ℕ) (out : ℕ → ℕ) (m : Given → Cells → ℕ) (f : ℕ → ℕ → ℕ) (x y : ℕ)
      → Lowers a b names w m x → AddsNodes b c
      → Shows b c (out (width_at b x)) (λ g. f (width_at b x) (value_at b g x)) y
      → Lowers a c names (out w) (λ g v. f w (m g v)) y
  lowered_one a b c w out m f x y h adds k = record {
    adds = adds_on a b c h.adds adds;
    node = subst (λ z. IsNodeOf c (out z) y) h.node.1 k.node;
    value = λ g v given has. k.value g (given_on a b g h.adds given) ∙ (λ i. f (h.node.1 i) (h.value g v given has i));
  }

  -- two operands, by the widths of both
  pub lowered_two : (a b c d : Netlist) (w u : ℕ) (out : ℕ → ℕ → ℕ) (m : Given → Cells → ℕ) (n : Cells → ℕ)
      (f : ℕ → ℕ → ℕ → ℕ → ℕ) (x y z : ℕ)
      → AreBound a names → Lowers a b names w m x → Lowers b c names u (λ g v. n v) y → AddsNodes c d
      → Shows c d (out (width_at c x) (width_at c y))
      (λ g. f (width_at c x) (width_at c y) (value_at c g x) (value_at c g y)) z
      → Lowers a d names (out w u) (λ g v. f w u (m g v) (n v)) z
  lowered_two a b c d w u out m n f x y z own h k adds l =
      let there = node_on b c w x k.adds h.node in
      let both = adds_on a b c h.adds k.adds in
      record {
        adds = adds_on a c d both adds;
        node =
            subst (λ q. IsNodeOf d (out q u) z) there.1
            (subst (λ q. IsNodeOf d (out (width_at c x) q) z) k.node.1 l.node);
        value = λ g v given has.
            let after = given_on a b g h.adds given in
            l.value g (given_on a c g both given)
            ∙ (λ i. f (there.1 i) (k.node.1 i) ((value_on b c g x k.adds h.node.0 ∙ h.value g v given has) i)
            (k.value g v after (numbers_on a b g v names h.adds own has) i));
      }

  -- three operands
  pub lowered_three : (a b c d e : Netlist) (w u q : ℕ) (m n o : Cells → ℕ) (f : ℕ → ℕ → ℕ → ℕ) (x y z r : ℕ)
      → AreBound a names → Lowers a b names w (λ g v. m v) x → Lowers b c names u (λ g v. n v) y
      → Lowers c d names q (λ g v. o v) z → AddsNodes d e
      → Shows d e (width_at d y) (λ g. f (value_at d g x) (value_at d g y) (value_at d g z)) r
      → Lowers a e names u (λ g v. f (m v) (n v) (o v)) r
  lowered_three a b c d e w u q m n o f x y z r own h k l adds s =
      let both = adds_on a b c h.adds k.adds in
      let all = adds_on a c d both l.adds in
      let later = adds_on b c d k.adds l.adds in
      record {
        adds = adds_on a d e all adds;
        node = (s.node.0, s.node.1 ∙ (node_on c d u y l.adds k.node).1);
        value = λ g v given has.
            let in_b = numbers_on a b g v names h.adds own has in
            let in_c = numbers_on a c g v names both own has in
            s.value g (given_on a d g all given)
            ∙ (λ i. f ((value_on b d g x later h.node.0 ∙ h.value g v given has) i)
            ((value_on c d g y l.adds k.node.0 ∙ k.value g v (given_on a b g h.adds given) in_b) i)
            (l.value g v (given_on a c g both given) in_c i));
      }

  -- what is meant over a node that was lowered
  pub lowered_then : (a b c : Netlist) (w u : ℕ) (m : Given → Cells → ℕ) (f : Cells → ℕ → ℕ → ℕ) (x y : ℕ)
      → AreBound a names → Lowers a b names w m x → Lowers b c names u (λ g v. f v (width_at b x) (value_at b g x)) y
      → Lowers a c names u (λ g v. f v w (m g v)) y
  lowered_then a b c w u m f x y own h k = record {
    adds = adds_on a b c h.adds k.adds;
    node = k.node;
    value = λ g v given has.
        k.value g v (given_on a b g h.adds given) (numbers_on a b g v names h.adds own has)
        ∙ (λ i. f v (h.node.1 i) (h.value g v given has i));
  }

pub ruleset steps = (bound_after, bound_on)

-- ---- bits of tests

pub bit_is_one : (b : Bool) (x y : ℕ) → (if bit b == 1 then x else y) ≡ (if b then x else y)
bit_is_one true x y = refl
bit_is_one false x y = refl

pub bits_and : (a b : Bool) → bit_and (bit a) (bit b) ≡ bit (a && b)
bits_and true true = refl
bits_and true false = refl
bits_and false true = refl
bits_and false false = refl

pub bits_or : (a b : Bool) → bit_or (bit a) (bit b) ≡ bit (a || b)
bits_or true true = refl
bits_or true false = refl
bits_or false true = refl
bits_or false false = refl
