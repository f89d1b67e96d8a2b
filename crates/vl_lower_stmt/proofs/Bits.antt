-- The bits that selects of a vector take, as slots of a cell.
use Rattle.std.specs.Prelude.{◌≡◌, refl, ℕ, ◌-◌, ◌≤◌, true, false, Bool, List, [], ◌∷◌, length, Option, Some, None}
use Rattle.std.specs.Prelude.{IsSome, ℤ, pos, negsuc, ◌+ℤ◌, ◌^◌}
use Rattle.std.specs.Prelude.{nat_abs, if◌then◌else◌}
use Rattle.std.proofs.Common.{ap, sym, ◌∙◌, arith, subst, true≢false}
use Rattle.std.proofs.lemmas.Int.{ints}
use Rattle.fv_text.specs.declared.pos.Pos.{Pos}
use Rattle.fv_bits.specs.Bits.{as_int}
use Rattle.vl_tree.specs.declared.expr.Select.{Select}
use Rattle.vl_tree.specs.Expr.{Expr, Selects, whole, bit, part, indexed}
use Rattle.vl_tree.specs.ExprView.{selects}
use Rattle.vl_size.specs.declared.decl.Decl.{Decl}
use Rattle.vl_size.specs.Sign.{sign}
use Rattle.vl_size.specs.Size.{◌>>=◌, Values, descends, own, index_of, offset_of, or_none, size, is_bound, start_of}
use Rattle.vl_size.specs.Size.{vector_size, word_size}
use Rattle.vl_size.specs.Table.{is_between, span}
use Rattle.vl_mean.specs.FlatLaw.{flat_scopes}
use Rattle.vl_mean.specs.Scopes.{operand_in}
use Rattle.vl_mean.specs.Targets.{spots_from}
use Rattle.wn_net.specs.Value.{Given}
use Rattle.wn_net.specs.Net.{Netlist, IsNode, value_at, width_at}
use Rattle.wn_net.specs.Given.{IsGiven}
use Rattle.wn_net.specs.Changes.{AddsNodes}
use Rattle.wn_net.proofs.Laws.{adds_none, adds_on, given_on}
use Rattle.vl_lower_nodes.specs.declared.select.VaryingPlace.{VaryingPlace}
use Rattle.vl_lower_nodes.specs.Points.{GivePlace, is_place}
use Rattle.vl_lower_expr.proofs.Sized.{some_first}
use Rattle.vl_lower_assign.specs.declared.spread.BitPlace.{BitPlace}
use Rattle.vl_lower_assign.specs.declared.spread.BitPlace.TheVariants as place
use Rattle.vl_lower_assign.specs.declared.slot.Holder.{Holder}
use Rattle.vl_lower_stmt.specs.Executes.{Evaluates}
use Rattle.vl_lower_stmt.specs.Located.{HasBits, IsPlaced}
use Rattle.vl_lower_stmt.proofs.Contexts.{sign_in, size_in}

-- what lies between the least and the greatest bound is one
pub bound_between : (i : ℤ) → is_between (negsuc (2 ^ 31 - 1)) (pos (2 ^ 31 - 1)) i ≡ true → is_bound i ≡ true
bound_between i h = grind (arith, ints, h)

module _ (ds : List Decl) where
  -- ---- places

  pub placed_fixed : (net : Netlist) (cells : List ℕ) (q : ℤ) (at : Values → ℤ) → is_place q ≡ true
      → ((v : Values) → q ≡ at v) → IsPlaced ds net net cells (place.Fixed q) at
  placed_fixed net cells q at near same =
      record { adds = adds_none net; there = near; is = λ g v given has. same v }

  -- by the node of an index
  pub placed_varying : (old mid new : Netlist) (cells : List ℕ) (d : Decl) (e : Expr) (count node : ℕ)
      (p : VaryingPlace) (s : Bool)
      → Evaluates ds old mid cells (or_none (size ds e)) (λ v. own (operand_in (flat_scopes ds) v e)) node
      → s ≡ sign ds e → AddsNodes mid new → IsNode new p.up → IsNode new p.down
      → ((g : Given) → IsGiven mid g → GivePlace (value_at new g p.up) (value_at new g p.down)
      (start_of d (as_int (width_at mid node) s (value_at mid g node)) count))
      → IsPlaced ds old new cells (place.Varying p)
      (λ v. start_of d (index_of (operand_in (flat_scopes ds) v e)) count)
  placed_varying old mid new cells d e count node p s valued signed adds up down gives = record {
    adds = adds_on old mid new valued.adds adds;
    there = (up, down);
    is = λ g v given has.
        let wide = valued.node.1 ∙ sym (size_in ds v e) in
        let sign = signed ∙ sym (sign_in ds v e) in
        let is = valued.value g v given has in
        let P : ℤ → Type 0 = λ z. GivePlace (value_at new g p.up) (value_at new g p.down) (start_of d z count) in
        subst P (λ i. as_int (wide i) (sign i) (is i)) (gives g (given_on old mid g valued.adds given));
  }

  -- ---- selects

  -- all of it
  pub bits_whole : (net : Netlist) (cells : List ℕ) (d : Decl) (h : Holder) → 1 ≤ d.width → d.width ≤ 128
      → is_place (pos 0) ≡ true
      → HasBits ds net net cells d whole
      (record { holder = h; place = place.Fixed (pos 0); count = d.width; width = d.width })
  bits_whole net cells d h some few near = record {
    adds = adds_none net;
    there = near;
    width = refl;
    some = some;
    few = few;
    count = refl;
    bits = λ g v text given has. (pos 0, refl, refl);
  }

  -- the index of a bit has a size
  pub index_sized : (d : Decl) (p : Pos) (e : Expr) → IsSome (vector_size ds d (bit p e whole)) → IsSome (size ds e)
  index_sized d p e h = some_first (size ds e) (λ k. Some 1) h

  pub word_index_sized : (d : Decl) (p : Pos) (e : Expr) (xs : Selects) → IsSome (word_size ds d (bit p e xs))
      → IsSome (size ds e)
  word_index_sized d p e xs h = some_first (size ds e) (λ k. vector_size ds d xs) h

  pub word_behind : (d : Decl) (p : Pos) (e : Expr) (xs : Selects) → IsSome (word_size ds d (bit p e xs))
      → IsSome (vector_size ds d xs)
  word_behind d p e xs h = by (size ds e) h
    where
      by : (o : Option ℕ) → IsSome (o >>= λ k. vector_size ds d xs) → IsSome (vector_size ds d xs)
      by None h = absurd (true≢false (sym h))
      by (Some k) h = h

  -- a memory has an index
  pub no_words : (d : Decl) (ss : List Select) → length ss ≡ 0 → IsSome (word_size ds d (selects ss)) → ⊥
  no_words d [] h some = true≢false (sym some)
  no_words d (x ∷ ss) h some = omega (arith, h)

  one_of : (o : Option ℕ) → IsSome o → 1 ≡ or_none (o >>= λ k. Some 1)
  one_of None h = absurd (true≢false (sym h))
  one_of (Some k) h = refl

  first_of_one : (d : Decl) (i : ℤ) → offset_of d i ≡ start_of d i 1
  first_of_one d i = by (descends d)
    where
      same : i ≡ i +ℤ pos (1 - 1)
      same = omega (arith, ints)

      by : (b : Bool) → offset_of d i ≡ (if b then offset_of d i else offset_of d (i +ℤ pos (1 - 1)))
      by true = refl
      by false = ap (offset_of d) same

  pub bits_one : (old new : Netlist) (cells : List ℕ) (d : Decl) (h : Holder) (p : Pos) (e : Expr) (spot : BitPlace)
      → IsSome (size ds e)
      → IsPlaced ds old new cells spot (λ v. start_of d (index_of (operand_in (flat_scopes ds) v e)) 1)
      → HasBits ds old new cells d (bit p e whole)
      (record { holder = h; place = spot; count = 1; width = d.width })
  bits_one old new cells d h p e spot sized placed = record {
    adds = placed.adds;
    there = placed.there;
    width = refl;
    some = omega arith;
    few = omega arith;
    count = one_of (size ds e) sized;
    bits = λ g v text given has.
        let z = index_of (operand_in (flat_scopes ds) v e) in (
          start_of d z 1,
          placed.is g v given has,
          ap (spots_from 1 d.width text) (first_of_one d z),
        );
  }

  pub bits_part : (net : Netlist) (cells : List ℕ) (d : Decl) (h : Holder) (p : Pos) (l r : Expr) (count : ℕ) (q : ℤ)
      → 1 ≤ count → count ≤ 128 → is_place q ≡ true
      → count ≡ or_none (vector_size ds d (part p l r whole))
      → ((v : Values) → count ≡ span (index_of (operand_in (flat_scopes ds) v l))
      (index_of (operand_in (flat_scopes ds) v r)))
      → ((v : Values) → q ≡ offset_of d (index_of (operand_in (flat_scopes ds) v r)))
      → HasBits ds net net cells d (part p l r whole)
      (record { holder = h; place = place.Fixed q; count = count; width = d.width })
  bits_part net cells d h p l r count q some few near size bits low = record {
    adds = adds_none net;
    there = near;
    width = refl;
    some = some;
    few = few;
    count = size;
    bits = λ g v text given has. (q, refl, λ i. spots_from (sym (bits v) i) d.width text (sym (low v) i));
  }

  pub bits_indexed : (old new : Netlist) (cells : List ℕ) (d : Decl) (h : Holder) (p : Pos) (s n : Expr) (count : ℕ)
      (spot : BitPlace) → 1 ≤ count → count ≤ 128
      → count ≡ or_none (vector_size ds d (indexed p s n whole))
      → ((v : Values) → index_of (operand_in (flat_scopes ds) v n) ≡ pos count)
      → IsPlaced ds old new cells spot (λ v. start_of d (index_of (operand_in (flat_scopes ds) v s)) count)
      → HasBits ds old new cells d (indexed p s n whole)
      (record { holder = h; place = spot; count = count; width = d.width })
  bits_indexed old new cells d h p s n count spot some few size bits placed = record {
    adds = placed.adds;
    there = placed.there;
    width = refl;
    some = some;
    few = few;
    count = size;
    bits = λ g v text given has.
        let z = index_of (operand_in (flat_scopes ds) v s) in (
          start_of d z count,
          placed.is g v given has,
          λ i. spots_from (nat_abs (bits v i)) d.width text (start_of d z (nat_abs (bits v i))),
        );
  }
