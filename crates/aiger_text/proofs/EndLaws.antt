-- Literals of nodes in place of literals of variables.
use Rattle.std.proofs.Common.{◌≡◌, ℕ, zero, suc, ◌+◌, ◌-◌, ◌*◌, ◌/◌, ◌%◌, ◌<◌, ◌≤◌, ◌^◌, Bool, true, false, cond, ◌==◌}
use Rattle.std.proofs.Common.{◌&&◌, ◌||◌, List, [], ◌∷◌, ◌++◌, length, map, Option, Some, None, refl, ap, sym, ◌∙◌}
use Rattle.std.proofs.Common.{subst, ◌⊎◌, inl, inr, arith, get_or, take, drop}
use Rattle.std.specs.Prelude.{nat_eq, position, option_map, slice_get, All}
use Rattle.std.specs.List.{list_any}
use Rattle.std.proofs.lemmas.Bool.{cases_Bool}
use Rattle.std.proofs.lemmas.Bool.Decides.{nat_tests}
use Rattle.std.proofs.lemmas.List.{map_push, length-map, at_drop_more, at_drop_all, take_more, take_all}
use Rattle.std.proofs.lemmas.Option.{none-some, same_Some, slice_get_within, slice_get-map, get_or_from_slice_get}
use Rattle.std.proofs.lemmas.Option.{slice_get-get_or}
use Rattle.aiger_text.specs.declared.gate.Gate.{Gate}
use Rattle.aiger_text.specs.declared.wires.Wire.{Wire}
use Rattle.aiger_text.specs.Header.{if_some}
use Rattle.aiger_text.specs.Said.{variable}
use Rattle.aiger_text.specs.Profile.{is_known, unknown_line}
use Rattle.aiger_text.specs.Wires.{wire_end, wire_of, IsFew}
use Rattle.aiger_text.proofs.PlaceLaws.{any_from_place, none_from_place, place_has}
use Rattle.aiger_text.proofs.SaidLaws.{some_then}

is_zero : (n : ℕ) → (n == 0) ≡ true → n ≡ 0
is_zero n e = grind (arith, nat_tests)

not_zero : (n : ℕ) → (n == 0) ≡ false → n ≡ 0 → ⊥
not_zero n f z = grind (arith, nat_tests)

-- the literal at a place
abbrev at_place : ℕ → Option ℕ → Option ℕ
at_place literal o = option_map (λ i. 2 * (i + 1) + literal % 2) o

mapped : (literal e : ℕ) (o : Option ℕ) → at_place literal o ≡ Some e
    → (i : ℕ) × (o ≡ Some i) × (2 * (i + 1) + literal % 2 ≡ e)
mapped literal e None h = absurd (none-some e h)
mapped literal e (Some i) h = (i, refl, same_Some (2 * (i + 1) + literal % 2) e h)

mapped_none : (literal : ℕ) (o : Option ℕ) → at_place literal o ≡ None → o ≡ None
mapped_none literal None h = refl
mapped_none literal (Some i) h = absurd (none-some (2 * (i + 1) + literal % 2) (sym h))

-- what a literal becomes: 0 or 1, or that of the node behind the variable's place
pub data Ends (vs : List ℕ) (literal e : ℕ) : Type 0 where
  constant : variable literal ≡ 0 → e ≡ literal % 2 → Ends vs literal e
  placed : (i : ℕ) → (variable literal ≡ 0 → ⊥) → position (nat_eq (variable literal)) vs ≡ Some i
      → e ≡ 2 * (i + 1) + literal % 2 → Ends vs literal e

pub ends : (vs : List ℕ) (literal e : ℕ) → wire_end vs literal ≡ Some e → Ends vs literal e
ends vs literal e h = by (cases_Bool (variable literal == 0)) where
  by : ((variable literal == 0) ≡ true) ⊎ ((variable literal == 0) ≡ false) → Ends vs literal e
  by (inl t) =
      constant (is_zero (variable literal) t)
      (sym (same_Some (literal % 2) e
      (sym (ap (λ b. cond b (Some (literal % 2)) (at_place literal (position (nat_eq (variable literal)) vs))) t) ∙ h)))
  by (inr f) =
      let m = mapped literal e (position (nat_eq (variable literal)) vs)
      (sym (ap (λ b. cond b (Some (literal % 2)) (at_place literal (position (nat_eq (variable literal)) vs))) f)
      ∙ h) in
      placed m.0 (not_zero (variable literal) f) m.1 (sym m.2)

known_by : (vs : List ℕ) (literal : ℕ) → list_any (nat_eq (variable literal)) vs ≡ true → is_known vs literal ≡ true
known_by vs literal e = by (cases_Bool (variable literal == 0)) where
  by : ((variable literal == 0) ≡ true) ⊎ ((variable literal == 0) ≡ false) → is_known vs literal ≡ true
  by (inl t) = ap (λ b. b || list_any (nat_eq (variable literal)) vs) t
  by (inr f) = ap (λ b. b || list_any (nat_eq (variable literal)) vs) f ∙ e

pub end_known : (vs : List ℕ) (literal e : ℕ) → wire_end vs literal ≡ Some e → is_known vs literal ≡ true
end_known vs literal e h = by (ends vs literal e h) where
  by : Ends vs literal e → is_known vs literal ≡ true
  by (constant z q) =
      let t : (variable literal == 0) ≡ true = grind (arith, nat_tests) in
      ap (λ b. b || list_any (nat_eq (variable literal)) vs) t
  by (placed i s p q) = known_by vs literal (any_from_place (nat_eq (variable literal)) vs i p)

pub end_unknown : (vs : List ℕ) (literal : ℕ) → wire_end vs literal ≡ None → is_known vs literal ≡ false
end_unknown vs literal h = by (cases_Bool (variable literal == 0)) where
  by : ((variable literal == 0) ≡ true) ⊎ ((variable literal == 0) ≡ false) → is_known vs literal ≡ false
  by (inl t) =
      absurd (none-some (literal % 2)
      (sym h ∙ ap (λ b. cond b (Some (literal % 2)) (at_place literal (position (nat_eq (variable literal)) vs))) t))
  by (inr f) =
      ap (λ b. b || list_any (nat_eq (variable literal)) vs) f
      ∙ none_from_place (nat_eq (variable literal)) vs
      (mapped_none literal (position (nat_eq (variable literal)) vs)
      (sym (ap (λ b. cond b (Some (literal % 2)) (at_place literal (position (nat_eq (variable literal)) vs))) f)
      ∙ h))

pub end_less : (vs : List ℕ) (literal e : ℕ) → wire_end vs literal ≡ Some e → e < 2 * (length vs + 1)
end_less vs literal e h = by (ends vs literal e h) where
  by : Ends vs literal e → e < 2 * (length vs + 1)
  by (constant z q) = omega (arith, q)
  by (placed i s p q) =
      let less = slice_get_within vs i (variable literal) (place_has (variable literal) i vs p) in
      omega (arith, q, less)

-- ---- the operands of gates

pub record AreEnds (vs : List ℕ) (g : Gate) (w : Wire) : Type 0 where
  pub left : wire_end vs g.left ≡ Some w.left
  pub right : wire_end vs g.right ≡ Some w.right
  pub line : g.line ≡ w.line

pub wire_ends : (vs : List ℕ) (g : Gate) (w : Wire) → wire_of vs g ≡ Some w → AreEnds vs g w
wire_ends vs g w h =
    let l = some_then (wire_end vs g.left) (λ left. if_some (wire_end vs g.right) (λ right.
    Some (record { line = g.line; left = left; right = right }))) w h in
    let r = some_then (wire_end vs g.right) (λ right. Some (record { line = g.line; left = l.0; right = right })) w l.2 in
    let same = same_Some (record { line = g.line; left = l.0; right = r.0 }) w r.2 in
    record {
      left = l.1 ∙ ap (λ (x : Wire). Some x.left) same;
      right = r.1 ∙ ap (λ (x : Wire). Some x.right) same;
      line = ap (λ (x : Wire). x.line) same;
    }

-- whether both operands of a gate are known
abbrev both_known : List ℕ → Gate → Bool
both_known vs g = is_known vs g.left && is_known vs g.right

some_known : (vs : List ℕ) (g : Gate) (w : Wire) → wire_of vs g ≡ Some w → both_known vs g ≡ true
some_known vs g w h =
    let e = wire_ends vs g w h in
    ap (λ b. b && is_known vs g.right) (end_known vs g.left w.left e.left) ∙ end_known vs g.right w.right e.right

none_known : (vs : List ℕ) (g : Gate) → wire_of vs g ≡ None → both_known vs g ≡ false
none_known vs g h = by (wire_end vs g.left) refl (wire_end vs g.right) refl where
  by : (o : Option ℕ) → wire_end vs g.left ≡ o → (p : Option ℕ) → wire_end vs g.right ≡ p → both_known vs g ≡ false
  by None e p f = ap (λ b. b && is_known vs g.right) (end_unknown vs g.left e)
  by (Some l) e None f =
      ap (λ b. b && is_known vs g.right) (end_known vs g.left l e) ∙ end_unknown vs g.right f
  by (Some l) e (Some r) f =
      absurd (none-some (record { line = g.line; left = l; right = r })
      (sym h ∙ ap (λ o. if_some o (λ left. if_some (wire_end vs g.right) (λ right.
      Some (record { line = g.line; left = left; right = right })))) e
      ∙ ap (λ o. if_some o (λ right. Some (record { line = g.line; left = l; right = right }))) f))

-- ---- one gate more

-- an element that is there, whatever stands for those that aren't
pub own_default : (gates : List Gate) (i : ℕ) (d : Gate) → i < length gates
    → get_or gates i d ≡ get_or gates i (get_or gates i d)
own_default gates i d less =
    sym (get_or_from_slice_get gates i (get_or gates i d) (get_or gates i d) (slice_get-get_or gates i d less))

pub unknown_more : (vs : List ℕ) (gates : List Gate) (i : ℕ) (g : Gate) (w : Wire) (all : Option ℕ) → i < length gates
    → g ≡ get_or gates i g → wire_of vs g ≡ Some w → unknown_line vs (drop i gates) ≡ all
    → unknown_line vs (drop (i + 1) gates) ≡ all
unknown_more vs gates i g w all less e h p =
    sym (ap (λ b. cond b (unknown_line vs (drop (i + 1) gates)) (Some g.line)) (some_known vs g w h))
    ∙ ap (λ x. unknown_line vs (x ∷ drop (i + 1) gates)) e
    ∙ sym (at_drop_more (unknown_line vs) gates i g less) ∙ p

pub unknown_here : (vs : List ℕ) (gates : List Gate) (i : ℕ) (g : Gate) (all : Option ℕ) → i < length gates
    → g ≡ get_or gates i g → wire_of vs g ≡ None → unknown_line vs (drop i gates) ≡ all → all ≡ Some g.line
unknown_here vs gates i g all less e h p =
    sym p ∙ at_drop_more (unknown_line vs) gates i g less ∙ ap (λ x. unknown_line vs (x ∷ drop (i + 1) gates)) (sym e)
    ∙ ap (λ b. cond b (unknown_line vs (drop (i + 1) gates)) (Some g.line)) (none_known vs g h)

pub unknown_end : (vs : List ℕ) (gates : List Gate) (i : ℕ) (all : Option ℕ) → length gates ≤ i
    → unknown_line vs (drop i gates) ≡ all → all ≡ None
unknown_end vs gates i all past p = sym p ∙ at_drop_all (unknown_line vs) gates i past

pub wires_more : (vs : List ℕ) (gates : List Gate) (i : ℕ) (g : Gate) (w : Wire) (ws new : List Wire) → i < length gates
    → g ≡ get_or gates i g → wire_of vs g ≡ Some w → new ≡ ws ++ w ∷ []
    → map (λ x. Some x) ws ≡ map (wire_of vs) (take i gates)
    → map (λ x. Some x) new ≡ map (wire_of vs) (take (i + 1) gates)
wires_more vs gates i g w ws new less e h n p =
    ap (map (λ x. Some x)) n ∙ map_push (λ x. Some x) ws w ∙ ap (λ xs. xs ++ Some w ∷ []) p
    ∙ ap (λ o. map (wire_of vs) (take i gates) ++ o ∷ []) (sym h)
    ∙ sym (map_push (wire_of vs) (take i gates) g)
    ∙ ap (λ x. map (wire_of vs) (take i gates ++ x ∷ [])) e
    ∙ ap (map (wire_of vs)) (sym (take_more gates i g less))

pub wires_end : (vs : List ℕ) (gates : List Gate) (i : ℕ) (ws : List Wire) → length gates ≤ i
    → map (λ x. Some x) ws ≡ map (wire_of vs) (take i gates) → map (λ x. Some x) ws ≡ map (wire_of vs) gates
wires_end vs gates i ws past p = p ∙ ap (map (wire_of vs)) (take_all i gates past)

-- ---- all gates

module _ (vs : List ℕ) (gates : List Gate) (ws : List Wire) (e : map (λ w. Some w) ws ≡ map (wire_of vs) gates) where
  pub same_count : length ws ≡ length gates
  same_count =
      sym (length-map ws (λ (w : Wire). Some w)) ∙ ap length e ∙ length-map gates (wire_of vs)

  option_some : {X Y : Type 0} (o : Option X) (f : X → Y) (y : Y) → option_map f o ≡ Some y
      → (x : X) × (o ≡ Some x) × (f x ≡ y)
  option_some None f y h = absurd (none-some y h)
  option_some (Some x) f y h = (x, refl, same_Some (f x) y h)

  -- the operands of the gate that has this number
  pub wire_at : (k : ℕ) (g : Gate) → slice_get gates k ≡ Some g → (w : Wire) × (slice_get ws k ≡ Some w) × AreEnds vs g w
  wire_at k g h =
      let r = option_some (slice_get ws k) (λ (w : Wire). Some w) (wire_of vs g)
      (sym (slice_get-map (λ (w : Wire). Some w) ws k) ∙ ap (λ xs. slice_get xs k) e
      ∙ slice_get-map (wire_of vs) gates k ∙ ap (option_map (wire_of vs)) h) in
      (r.0, r.1, wire_ends vs g r.0 (sym r.2))

  pub gate_at : (k : ℕ) (w : Wire) → slice_get ws k ≡ Some w → (g : Gate) × (slice_get gates k ≡ Some g) × AreEnds vs g w
  gate_at k w h =
      let r = option_some (slice_get gates k) (wire_of vs) (Some w)
      (sym (slice_get-map (wire_of vs) gates k) ∙ ap (λ xs. slice_get xs k) (sym e)
      ∙ slice_get-map (λ (w : Wire). Some w) ws k ∙ ap (option_map (λ (w : Wire). Some w)) h) in
      (r.0, r.1, wire_ends vs r.0 w r.2)

  pub are_few : length vs < 2 ^ 32 → All IsFew ws
  are_few few = λ k d less.
      let r = gate_at k (get_or ws k d) (slice_get-get_or ws k d less) in
      let l = end_less vs r.0.left (get_or ws k d).left r.2.left in
      let m = end_less vs r.0.right (get_or ws k d).right r.2.right in
      (omega (arith, l, few), omega (arith, m, few))
