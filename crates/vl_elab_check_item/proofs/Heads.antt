-- Turns of a loop, one behind the other, and the refusals of its head.
use Rattle.std.specs.Prelude.{◌≡◌, refl, ℕ, zero, suc, ◌+◌, ◌-◌, ◌<◌, List, [], ◌∷◌, ◌++◌, Bool, true, false}
use Rattle.std.specs.Prelude.{Option, Some, None, is_none, is_some, ◌&&◌, if◌then◌else◌, bytes_eq}
use Rattle.std.proofs.Common.{ap, sym, ◌∙◌, arith, true≢false}
use Rattle.fv_text.specs.declared.pos.Pos.{Pos}
use Rattle.vl_tree.specs.declared.part.LoopHead.{LoopHead}
use Rattle.vl_tree.specs.Expr.{Expr}
use Rattle.vl_size.specs.Size.{is_true}
use Rattle.vl_mean.specs.declared.const_number.Const.{Const}
use Rattle.vl_mean.specs.Constants.{constant_operand}
use Rattle.vl_mean.specs.Scopes.{constant_in, constant_unless}
use Rattle.vl_mean.specs.Walk.{Place, turn_place, with_genvar, goes_on, next_turn, first_turn, genvar_value}
use Rattle.vl_elab_spec.specs.declared.elab_fault.ElabFault.{ElabFault}
use Rattle.vl_elab_spec.specs.declared.elab_fault.ElabFault.TheVariants as f
use Rattle.vl_elab_spec.specs.Expressions.{refused_if, own_refusals, refusals}
use Rattle.vl_elab_spec.specs.Items as items
use Rattle.vl_elab_spec.specs.Items.{are_none, genvar_refusals, turn_meanings, turn_refusals, turns_refusals}
use Rattle.vl_elab_spec.specs.Items.{has_value, is_valued, idle_refusals, without_value, without_start}
use Rattle.vl_elab_spec.specs.Items.{begun_refusals, head_refusals, unknown_names}
use Rattle.vl_elab_spec.specs.Meanings.{Meaning, undeclared, constant, loop_variable, object, faulty, shapeless, later}
use Rattle.vl_elab_spec.specs.Meanings.{Names, is_undeclared, meaning_in, constants, value_of, meanings_at}
use Rattle.vl_elab_spec.specs.Refused.{lower, lower_of, lowest, nowhere}
use Rattle.vl_elab_check_expr.proofs.Lowest.{lowest_two}
use Rattle.vl_elab_check_item.proofs.Lists.{assoc}
use Rattle.vl_elab_scope.specs.Alike.{Alike}
use Rattle.vl_elab_scope.proofs.Exprs as x
use Rattle.vl_elab_scope.proofs.Items as y
use Rattle.vl_elab_scope.proofs.Sizes as z
use Rattle.vl_elab_check_item.proofs.High.{unknown_first, three_high}
use Rattle.vl_elab_const.specs.Numbers.{holds as is_true_in, genvar_number}
use Rattle.vl_elab_check_item.specs.declared.reach.HeadValues.{HeadValues}
use Rattle.vl_elab_check_item.specs.TurnParts.{in_turn, holds, begins, leads_on, turn_fault, idle_fault, GoesBy}
use Rattle.vl_elab_check_item.specs.TurnParts.{turns_fault, begun_fault, if_unknown, variable_of, head_fault}

-- ---- one turn more

none_more : (o : Option ElabFault) → lower_of o None ≡ o
none_more None = refl
none_more (Some g) = refl

module _ (ns numbers : List Names) (head : LoopHead) (p : Pos) where
  abbrev own_fault : Const → Option ElabFault
  own_fault c = turn_fault (in_turn head.variable c ns) (in_turn head.variable c numbers) head

  abbrev leads : Const → Bool
  leads c = leads_on (in_turn head.variable c ns) (in_turn head.variable c numbers) head

  abbrev next : Const → Const
  next c = genvar_number (in_turn head.variable c numbers) head.next

  same_left : (n : ℕ) → 0 < n → n ≡ suc (n - 1)
  same_left n h = omega (arith, h)

  -- what is answered of a turn that leads on where the test says so
  after : ℕ → Const → Bool → Option ElabFault
  after n c b = lower_of (own_fault c) (if b then turns_fault (n - 1) ns numbers head p (next c) else None)

  as_after : (n : ℕ) (c : Const) (old whole : Option ElabFault) (b : Bool) → 0 < n → leads c ≡ b
      → lower_of old (turns_fault n ns numbers head p c) ≡ whole → lower_of old (after n c b) ≡ whole
  unfolding after
  as_after n c old whole b positive e h =
      ap (λ x. lower_of old (after n c x)) (sym e)
      ∙ ap (λ k. lower_of old (turns_fault k ns numbers head p c)) (sym (same_left n positive)) ∙ h

  pub turns_on : (n : ℕ) (c v : Const) (old new found whole : Option ElabFault) (o : Option Const) → 0 < n
      → found ≡ own_fault c → new ≡ lower_of old found → o ≡ (if leads c then Some (next c) else None)
      → o ≡ Some v → lower_of old (turns_fault n ns numbers head p c) ≡ whole
      → lower_of new (turns_fault (n - 1) ns numbers head p v) ≡ whole
  unfolding after
  turns_on n c v old new found whole o positive made joined chosen some h = by (leads c) refl
    where
      more : (b : Bool) → o ≡ (if b then Some (next c) else None) → v ≡ next c
      more true e = cc
      more false e = cc

      some_leads : (b : Bool) → o ≡ (if b then Some (next c) else None) → b ≡ true
      some_leads true e = refl
      some_leads false e = cc

      by : (b : Bool) → leads c ≡ b → lower_of new (turns_fault (n - 1) ns numbers head p v) ≡ whole
      by true e =
          let rest = turns_fault (n - 1) ns numbers head p v in
          ap (λ x. lower_of x rest) (joined ∙ ap (lower_of old) made) ∙ assoc old (own_fault c) rest
          ∙ ap (λ w. lower_of old (lower_of (own_fault c) (turns_fault (n - 1) ns numbers head p w)))
          (more (leads c) chosen) ∙ as_after n c old whole true positive e h
      by false e = absurd (true≢false (sym (some_leads (leads c) chosen) ∙ e))

  pub turns_stop : (n : ℕ) (c : Const) (old new found whole : Option ElabFault) (o : Option Const) → 0 < n
      → found ≡ own_fault c → new ≡ lower_of old found → o ≡ (if leads c then Some (next c) else None) → o ≡ None
      → lower_of old (turns_fault n ns numbers head p c) ≡ whole → new ≡ whole
  unfolding after
  turns_stop n c old new found whole o positive made joined chosen gone h =
      joined ∙ ap (lower_of old) (made ∙ sym (none_more (own_fault c)))
      ∙ as_after n c old whole false positive (none_leads (leads c) chosen) h
    where
      none_leads : (b : Bool) → o ≡ (if b then Some (next c) else None) → b ≡ false
      none_leads true e = cc
      none_leads false e = refl

-- ---- a turn's condition, and its step

pub begins_not : (own : Option ElabFault) (b : Bool) → is_some own ≡ true → false ≡ (is_none own && b)
begins_not None b h = cc
begins_not (Some g) b h = refl

pub begins_where : (own : Option ElabFault) (b : Bool) → is_some own ≡ false → b ≡ (is_none own && b)
begins_where None b h = refl
begins_where (Some g) b h = cc

pub no_next : (step : Option ElabFault) (v : Bool) (c : Const) → is_some step ≡ true
    → None ≡ (if is_none step && v then Some c else None)
no_next None v c h = cc
no_next (Some g) v c h = refl

pub some_next : (step : Option ElabFault) (v : Bool) (c : Const) → is_some step ≡ false
    → (if v then Some c else None) ≡ (if is_none step && v then Some c else None)
some_next None v c h = refl
some_next (Some g) v c h = cc

pub own_alone : (own step : Option ElabFault) → is_some step ≡ false → own ≡ lower_of own step
own_alone own None h = sym (none_more own)
own_alone own (Some g) h = cc

module _ (ns numbers : List Names) (head : LoopHead) (own : Option ElabFault) (b : Bool)
    (same : own ≡ lowest (own_refusals ns true head.condition))
    (test : b ≡ (is_none own && holds ns numbers head)) where
  pub same_test : b ≡ begins ns numbers head
  same_test = test ∙ ap (λ o. is_none o && holds ns numbers head) same

  pub turn_begun : b ≡ true → lower_of own (lowest (genvar_refusals ns head.next)) ≡ turn_fault ns numbers head
  turn_begun h =
      let begun : true ≡ begins ns numbers head = sym h ∙ same_test in
      λ i. lower_of (same i) (if begun i then lowest (genvar_refusals ns head.next) else None)

  pub turn_ended : b ≡ false → own ≡ turn_fault ns numbers head
  turn_ended h =
      let ended : false ≡ begins ns numbers head = sym h ∙ same_test in
      sym (none_more own)
      ∙ (λ i. lower_of (same i) (if ended i then lowest (genvar_refusals ns head.next) else None))

  pub next_begun : (c : Const) → b ≡ true
      → (if is_none (lowest (genvar_refusals ns head.next)) && has_value ns head.next then Some c else None)
      ≡ (if leads_on ns numbers head then Some c else None)
  next_begun c h =
      let begun : true ≡ begins ns numbers head = sym h ∙ same_test in
      λ i. if begun i && (is_none (lowest (genvar_refusals ns head.next)) && has_value ns head.next)
      then Some c else None

  pub next_ended : (c : Const) → b ≡ false → None ≡ (if leads_on ns numbers head then Some c else None)
  next_ended c h =
      let ended : false ≡ begins ns numbers head = sym h ∙ same_test in
      λ i. if ended i && (is_none (lowest (genvar_refusals ns head.next)) && has_value ns head.next)
      then Some c else None

-- ---- a start without a value, and one with a value

pub unstarted : (own x y : Option ElabFault) (b v : Bool) → b ≡ (is_none own && v) → b ≡ false
    → lower_of own y ≡ lower_of own (if is_none own && v then x else y)
unstarted own x y b v e h = ap (λ t. lower_of own (if t then x else y)) (sym h ∙ e)

pub started : (own x y : Option ElabFault) (b v : Bool) → b ≡ (is_none own && v) → b ≡ true
    → x ≡ lower_of own (if is_none own && v then x else y)
started None x y b v e h = ap (λ t. if t then x else y) (sym h ∙ e)
started (Some g) x y b v e h = absurd (true≢false (sym h ∙ e))

-- ---- what the definitions say of the same scopes

module _ (at : Place) (ns numbers : List Names) (same : Alike ns (meanings_at at))
    (agree : (text : List ℕ) → constants numbers text ≡ constant_in at.scopes text) (head : LoopHead) (p : Pos) where
  inside : (c : Const) (text : List ℕ)
      → constants (in_turn head.variable c numbers) text
      ≡ constant_in (with_genvar head.variable c at.scopes) text
  inside c text = by (bytes_eq text head.variable)
    where
      by : (b : Bool)
          → value_of (if is_undeclared (if b then constant c true else undeclared) then meaning_in numbers text
          else (if b then constant c true else undeclared))
          ≡ constant_unless (if b then Some c else None) false (constant_in at.scopes text)
      by true = refl
      by false = agree text

  same_goes : (c : Const) → is_true_in (in_turn head.variable c numbers) head.condition ≡ goes_on head at.scopes c
  same_goes c = λ i. is_true (constant_operand (λ text. inside c text i) head.condition)

  same_next : (c : Const) → genvar_number (in_turn head.variable c numbers) head.next ≡ next_turn head at.scopes c
  same_next c = λ i. genvar_value (constant_operand (λ text. inside c text i) head.next)

  same_first : genvar_number numbers head.start ≡ first_turn head at.scopes
  same_first = λ i. genvar_value (constant_operand (λ text. agree text i) head.start)

  choose : (a b : Bool) (o u : Option ElabFault) (gs hs : List ElabFault) → a ≡ b → o ≡ lowest gs → u ≡ lowest hs
      → (if a then o else u) ≡ lowest (if b then gs else hs)
  choose true true o u gs hs e h k = h
  choose true false o u gs hs e h k = absurd (true≢false e)
  choose false true o u gs hs e h k = absurd (true≢false (sym e))
  choose false false o u gs hs e h k = k

  none_lowest : (gs : List ElabFault) → is_none (lowest gs) ≡ are_none gs
  none_lowest [] = refl
  none_lowest (g ∷ gs) = refl

  alike : (c : Const) → Alike (in_turn head.variable c ns) (meanings_at (turn_place at head.variable c))
  alike c = record {
    named = ((tt, tt), same.named);
    also_named = ((tt, tt), same.also_named);
    meaning = λ text. λ i.
        let here = if bytes_eq text head.variable then constant c true else undeclared in
        if is_undeclared here then same.meaning text i else here;
  }

  same_own : (c : Const) → lowest (own_refusals (in_turn head.variable c ns) true head.condition)
      ≡ lowest (own_refusals (meanings_at (turn_place at head.variable c)) true head.condition)
  same_own c =
      ap lowest (x.same_own (in_turn head.variable c ns) (meanings_at (turn_place at head.variable c)) (alike c) true
      head.condition)

  same_step : (c : Const) → lowest (genvar_refusals (in_turn head.variable c ns) head.next)
      ≡ lowest (genvar_refusals (meanings_at (turn_place at head.variable c)) head.next)
  same_step c =
      ap lowest (y.same_genvar (in_turn head.variable c ns) (meanings_at (turn_place at head.variable c)) (alike c)
      head.next)

  same_value : has_value ns head.start ≡ is_valued at head.start
  same_value = ap (λ c. is_some c.size) (z.same_context ns (meanings_at at) same head.start)

  same_inner : (c : Const) (e : Expr)
      → has_value (in_turn head.variable c ns) e ≡ is_valued (turn_place at head.variable c) e
  same_inner c e =
      ap (λ k. is_some k.size)
      (z.same_context (in_turn head.variable c ns) (meanings_at (turn_place at head.variable c)) (alike c) e)

  same_begins : (c : Const) → begins (in_turn head.variable c ns) (in_turn head.variable c numbers) head
      ≡ items.begins head at c
  same_begins c =
      (λ i. is_none (same_own c i) && (same_inner c head.condition i && same_goes c i))
      ∙ ap (λ b. b && (has_value (turn_meanings head at c) head.condition && goes_on head at.scopes c))
      (none_lowest (own_refusals (turn_meanings head at c) true head.condition))

  same_leads : (c : Const) → leads_on (in_turn head.variable c ns) (in_turn head.variable c numbers) head
      ≡ items.leads_on head at c
  same_leads c =
      (λ i. same_begins c i && (is_none (same_step c i) && same_inner c head.next i))
      ∙ ap (λ b. items.begins head at c && (b && has_value (turn_meanings head at c) head.next))
      (none_lowest (genvar_refusals (turn_meanings head at c) head.next))

  same_turn : (c : Const) → turn_fault (in_turn head.variable c ns) (in_turn head.variable c numbers) head
      ≡ lowest (turn_refusals head at c)
  same_turn c =
      let there = turn_meanings head at c in
      lowest_two (own_refusals there true head.condition)
      (if items.begins head at c then genvar_refusals there head.next else []) _ _ (same_own c)
      (choose (begins (in_turn head.variable c ns) (in_turn head.variable c numbers) head) (items.begins head at c) _
      None (genvar_refusals there head.next) [] (same_begins c) (same_step c) refl)

  same_turns : (n : ℕ) (c : Const) → turns_fault n ns numbers head p c ≡ lowest (turns_refusals n head at p c)
  same_turns zero c =
      lowest_two (own_refusals (turn_meanings head at c) true head.condition)
      (refused_if (items.begins head at c) (f.GenLoop p)) _ _ (same_own c)
      (ap (λ b. lowest (refused_if b (f.GenLoop p))) (same_begins c))
  same_turns (suc n) c =
      let inner = in_turn head.variable c numbers in
      let more = turns_refusals n head at p (next_turn head at.scopes c) in
      lowest_two (turn_refusals head at c) (if items.leads_on head at c then more else []) _ _ (same_turn c)
      (choose (leads_on (in_turn head.variable c ns) inner head) (items.leads_on head at c)
      (turns_fault n ns numbers head p (genvar_number inner head.next)) None more [] (same_leads c)
      (ap (turns_fault n ns numbers head p) (same_next c) ∙ same_turns n (next_turn head at.scopes c)) refl)

  alike_without : Alike (without_value head.variable ns) (without_value head.variable (meanings_at at))
  alike_without = record {
    named = ((tt, tt), same.named);
    also_named = ((tt, tt), same.also_named);
    meaning = λ text. λ i.
        let here = if bytes_eq text head.variable then faulty else undeclared in
        if is_undeclared here then same.meaning text i else here;
  }

  same_idle : (c : Const) → idle_fault ns numbers head c ≡ lowest (idle_refusals head at c)
  same_idle c =
      choose (begins (in_turn head.variable c ns) (in_turn head.variable c numbers) head) (items.begins head at c)
      None (lowest (genvar_refusals (in_turn head.variable c ns) head.next)) []
      (genvar_refusals (turn_meanings head at c) head.next) (same_begins c) refl (same_step c)

  same_begun : (c : Const) → begun_fault ns numbers head p c ≡ lowest (begun_refusals head at p c)
  same_begun c =
      lowest_two (idle_refusals head at c) (turns_refusals 4096 head at p c)
      (idle_fault ns numbers head c) (turns_fault 4096 ns numbers head p c) (same_idle c) (same_turns 4096 c)

  same_without : lowest (without_start head ns) ≡ lowest (without_start head (meanings_at at))
  same_without =
      let here = without_value head.variable ns in
      let there = without_value head.variable (meanings_at at) in
      λ i. lowest (x.same_own here there alike_without true head.condition i
      ++ y.same_genvar here there alike_without head.next i)

  same_start : lowest (genvar_refusals ns head.start) ≡ lowest (genvar_refusals (meanings_at at) head.start)
  same_start = ap lowest (y.same_genvar ns (meanings_at at) same head.start)

  other : head_fault ns numbers p head (variable_of faulty)
      ≡ lowest (f.Kind head.variable p ∷ unknown_names (refusals (meanings_at at) true head.start
      ++ refusals (meanings_at at) true head.condition ++ refusals (meanings_at at) true head.next))
  other =
      ap (λ o. Some (lower (f.Kind head.variable p) o))
      ((λ i. if_unknown (lowest (x.same_refusals ns (meanings_at at) same true head.start i
      ++ x.same_refusals ns (meanings_at at) same true head.condition i
      ++ x.same_refusals ns (meanings_at at) same true head.next i)))
      ∙ unknown_first (refusals (meanings_at at) true head.start ++ refusals (meanings_at at) true head.condition
      ++ refusals (meanings_at at) true head.next) (three_high (meanings_at at) head.start head.condition head.next))

  same_kind : (m : Meaning) → head_fault ns numbers p head (variable_of m) ≡ lowest (head_refusals at p head m)
  same_kind undeclared = refl
  same_kind loop_variable =
      let start = genvar_refusals (meanings_at at) head.start in
      let first = first_turn head at.scopes in
      let begun = begun_fault ns numbers head p (genvar_number numbers head.start) in
      let starts = is_none (lowest (genvar_refusals ns head.start)) && has_value ns head.start in
      let also = are_none start && has_value (meanings_at at) head.start in
      lowest_two start (if also then begun_refusals head at p first
      else without_start head (meanings_at at)) (lowest (genvar_refusals ns head.start))
      (if starts then begun else lowest (without_start head ns)) same_start
      (choose starts also begun
      (lowest (without_start head ns)) (begun_refusals head at p first) (without_start head (meanings_at at))
      ((λ i. is_none (same_start i) && same_value i)
      ∙ ap (λ b. b && has_value (meanings_at at) head.start) (none_lowest start))
      (ap (begun_fault ns numbers head p) same_first ∙ same_begun first) same_without)
  same_kind (constant c selected) = other
  same_kind (object d role scalar) = other
  same_kind faulty = other
  same_kind shapeless = other
  same_kind later = other

  pub same_head : head_fault ns numbers p head (variable_of (meaning_in ns head.variable))
      ≡ lowest (head_refusals at p head (meaning_in (meanings_at at) head.variable))
  same_head =
      ap (λ m. head_fault ns numbers p head (variable_of m)) (same.meaning head.variable)
      ∙ same_kind (meaning_in (meanings_at at) head.variable)

-- ---- how far the loop goes

pub goes_by : (at : Place) (ns numbers : List Names) → Alike ns (meanings_at at)
    → ((text : List ℕ) → constants numbers text ≡ constant_in at.scopes text) → (head : LoopHead) (v : HeadValues)
    → v.turns ≡ (has_value ns head.start
    && has_value (in_turn head.variable (genvar_number numbers head.start) ns) head.condition)
    → v.further ≡ has_value (in_turn head.variable (genvar_number numbers head.start) ns) head.next
    → GoesBy v head at
goes_by at ns numbers same agree head v turns further =
    let first : genvar_number numbers head.start ≡ first_turn head at.scopes =
    same_first at ns numbers same agree head nowhere in record {
      turns =
          turns ∙ (λ i. same_value at ns numbers same agree head nowhere i
          && has_value (in_turn head.variable (first i) ns) head.condition)
          ∙ ap (λ b. is_valued at head.start && b)
          (same_inner at ns numbers same agree head nowhere (first_turn head at.scopes) head.condition);
      further =
          further ∙ (λ i. has_value (in_turn head.variable (first i) ns) head.next)
          ∙ same_inner at ns numbers same agree head nowhere (first_turn head at.scopes) head.next;
    }
