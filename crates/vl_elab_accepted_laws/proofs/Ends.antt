-- The turns of a loop that isn't refused come to an end.
use Rattle.std.specs.Prelude.{◌≡◌, refl, ℕ, zero, suc, List, [], ◌∷◌, ◌++◌, Bool, true, false, ◌&&◌, bytes_eq}
use Rattle.std.specs.Prelude.{is_some, if◌then◌else◌}
use Rattle.std.proofs.Common.{ap, sym, ◌∙◌, subst}
use Rattle.fv_text.specs.declared.pos.Pos.{Pos}
use Rattle.vl_tree.specs.declared.part.LoopHead.{LoopHead}
use Rattle.vl_tree.specs.declared.source.Module.{Module}
use Rattle.vl_tree.specs.Attributes.{Attributes}
use Rattle.vl_tree.specs.Expr.{Expr}
use Rattle.vl_tree.specs.ExprWellFormed.{IsWellFormed}
use Rattle.vl_tree.specs.WellFormed.{IsHead}
use Rattle.vl_tree.specs.Item.{Block, for_loop}
use Rattle.vl_size.specs.declared.context.Context.{Context}
use Rattle.vl_mean.specs.declared.const_number.Const.{Const}
use Rattle.vl_mean.specs.Walk.{Place, item, goes_on, next_turn, first_turn, turn_place}
use Rattle.vl_elab_spec.specs.declared.elab_fault.ElabFault.{ElabFault}
use Rattle.vl_elab_spec.specs.declared.elab_fault.ElabFault.TheVariants as f
use Rattle.vl_elab_spec.specs.Expressions.{refused_if, expr_refusals, own_refusals}
use Rattle.vl_elab_spec.specs.Items.{head_refusals, turns_refusals, are_none, genvar_refusals, has_value, begins}
use Rattle.vl_elab_spec.specs.Items.{leads_on, turn_refusals, idle_refusals, begun_refusals, without_start}
use Rattle.vl_elab_spec.specs.Meanings.{Meaning, undeclared, constant, loop_variable, object, faulty, shapeless, later}
use Rattle.vl_elab_spec.specs.Meanings.{Names, is_undeclared, meaning_in, meanings_at}
use Rattle.vl_elab_accepted_laws.specs.Sized.{AreSound, IsSound, IsSized}
use Rattle.vl_elab_accepted_laws.proofs.Fresh.{NoneOf, IsFine, some-fault, none-front, none-back, not-refused}
use Rattle.vl_elab_accepted_laws.proofs.Level.{all_named}
use Rattle.vl_elab_accepted_laws.proofs.Sizes.{read}
use Rattle.vl_elab_accepted_laws.proofs.Turns.{EndsIn}

pub record Ends (goes : Const → Bool) (next : Const → Const) (c : Const) : Type 0 where
  pub count : ℕ
  pub ends : EndsIn goes next count c

-- ---- what isn't refused has a value where no name is one whose own declaration is refused

pub valued : (at : Place) (c : Context) (e : Expr) → AreSound (meanings_at at) → IsWellFormed e
    → NoneOf (expr_refusals (meanings_at at) true c e) → has_value (meanings_at at) e ≡ true
valued at c e sound w h =
    let x : IsSized (meanings_at at) true e
    = read (meanings_at at) true c e (all_named at.scopes at.contents) sound w h in ap is_some x.sized

pub turn-sound : (at : Place) (text : List ℕ) (c : Const) → AreSound (meanings_at at)
    → AreSound (meanings_at (turn_place at text c))
turn-sound at text c sound other = by (bytes_eq other text)
  where
    by : (b : Bool)
        → IsSound (if is_undeclared (if b then constant c true else undeclared) then meaning_in (meanings_at at) other
        else (if b then constant c true else undeclared))
    by true = tt
    by false = sound other

-- ---- a turn in which nothing is refused leads on where its condition holds

leads-by : (own step : List ElabFault) (v w b : Bool) → (NoneOf own → v ≡ true) → (NoneOf step → w ≡ true) → NoneOf own
    → NoneOf (if are_none own && (v && b) then step else []) → ((are_none own && (v && b)) && (are_none step && w)) ≡ b
leads-by [] step v w b f g e h = by v w b (f refl) g h
  where
    by : (v w b : Bool) → v ≡ true → (NoneOf step → w ≡ true) → NoneOf (if v && b then step else [])
        → ((v && b) && (are_none step && w)) ≡ b
    by true w true e g h = (λ i. are_none (h i) && g h i)
    by true w false e g h = refl
    by false w b e g h = cc
leads-by (h ∷ gs) step v w b f g e k = absurd (some-fault h gs e)

begins-by : (own : List ElabFault) (v b : Bool) → v ≡ true → NoneOf own → (are_none own && (v && b)) ≡ b
begins-by own v b e h = λ i. are_none (h i) && (e i && b)

module _ (head : LoopHead) (at : Place) (sound : AreSound (meanings_at at)) (w : IsHead head) where
  abbrev there : Const → Place
  there c = turn_place at head.variable c

  condition-valued : (c : Const) → NoneOf (own_refusals (meanings_at (there c)) true head.condition)
      → has_value (meanings_at (there c)) head.condition ≡ true
  condition-valued c h = valued (there c) _ head.condition (turn-sound at head.variable c sound) w.3 h

  step-valued : (c : Const) → NoneOf (genvar_refusals (meanings_at (there c)) head.next)
      → has_value (meanings_at (there c)) head.next ≡ true
  step-valued c h = valued (there c) _ head.next (turn-sound at head.variable c sound) w.4 h

  leads-where-goes : (c : Const) → NoneOf (turn_refusals head at c) → leads_on head at c ≡ goes_on head at.scopes c
  leads-where-goes c h =
      let ns : List Names = meanings_at (there c) in
      let own : List ElabFault = own_refusals ns true head.condition in
      let step : List ElabFault = genvar_refusals ns head.next in
      let v : Bool = has_value ns head.condition in
      let second : List ElabFault = if are_none own && (v && goes_on head at.scopes c) then step else [] in
      leads-by own step v (has_value ns head.next) (goes_on head at.scopes c) (condition-valued c) (step-valued c)
      (none-front own second h) (none-back own second h)

  turns-end : (n : ℕ) (p : Pos) (c : Const) → NoneOf (turns_refusals n head at p c)
      → Ends (goes_on head at.scopes) (next_turn head at.scopes) c
  turns-end zero p c h =
      let ns : List Names = meanings_at (there c) in
      let own : List ElabFault = own_refusals ns true head.condition in
      let last : List ElabFault = refused_if (begins head at c) (f.GenLoop p) in
      let fine : NoneOf own = none-front own last h in record {
        count = 0;
        ends = sym (begins-by own (has_value ns head.condition) (goes_on head at.scopes c) (condition-valued c fine) fine)
            ∙ not-refused (begins head at c) _ (none-back own last h);
      }
  turns-end (suc n) p c h =
      let more : List ElabFault = turns_refusals n head at p (next_turn head at.scopes c) in
      by (goes_on head at.scopes c) refl (turns-end n p (next_turn head at.scopes c))
      (subst (λ b. NoneOf (if b then more else []))
      (leads-where-goes c (none-front (turn_refusals head at c) (if leads_on head at c then more else []) h))
      (none-back (turn_refusals head at c) (if leads_on head at c then more else []) h))
    where
      by : (b : Bool) → goes_on head at.scopes c ≡ b
          → (NoneOf (turns_refusals n head at p (next_turn head at.scopes c))
          → Ends (goes_on head at.scopes) (next_turn head at.scopes) (next_turn head at.scopes c))
          → NoneOf (if b then turns_refusals n head at p (next_turn head at.scopes c) else [])
          → Ends (goes_on head at.scopes) (next_turn head at.scopes) c
      by true e next h =
          let more : Ends (goes_on head at.scopes) (next_turn head at.scopes) (next_turn head at.scopes c) = next h
          in record { count = suc more.count; ends = (e, more.ends) }
      by false e next h = record { count = 0; ends = e }

  -- ---- the head

  begun-none : (start begun without : List ElabFault) (v : Bool) → (NoneOf start → v ≡ true)
      → NoneOf (start ++ (if are_none start && v then begun else without)) → NoneOf begun
  begun-none [] begun without true f h = h
  begun-none [] begun without false f h = let e : false ≡ true = f refl in cc
  begun-none (g ∷ gs) begun without v f h = absurd (some-fault g _ h)

  pub first-none : (start begun without : List ElabFault) (v : Bool)
      → NoneOf (start ++ (if are_none start && v then begun else without)) → NoneOf start
  first-none start begun without v h = none-front start (if are_none start && v then begun else without) h

  -- the first turn is judged, and its step also where it doesn't begin
  first-judged : (n : ℕ) (p : Pos) (c : Const) → NoneOf (turns_refusals (suc n) head at p c)
      → NoneOf (turn_refusals head at c)
  first-judged n p c h =
      let more : List ElabFault = turns_refusals n head at p (next_turn head at.scopes c) in
      none-front (turn_refusals head at c) (if leads_on head at c then more else []) h

  either : (b : Bool) (step : List ElabFault) → NoneOf (if b then [] else step) → NoneOf (if b then step else [])
      → NoneOf step
  either true step h k = k
  either false step h k = h

  pub record HaveValues : Type 0 where
    pub start : has_value (meanings_at at) head.start ≡ true
    pub condition : has_value (meanings_at (there (first_turn head at.scopes))) head.condition ≡ true
    pub next : has_value (meanings_at (there (first_turn head at.scopes))) head.next ≡ true

  head-valued : (p : Pos) (m : Meaning) → NoneOf (head_refusals at p head m) → HaveValues
  head-valued p undeclared h = absurd (some-fault _ _ h)
  head-valued p (constant c selected) h = absurd (some-fault _ _ h)
  head-valued p loop_variable h =
      let first : Const = first_turn head at.scopes in
      let start : List ElabFault = genvar_refusals (meanings_at at) head.start in
      let begun : List ElabFault = begun_refusals head at p first in
      let without : List ElabFault = without_start head (meanings_at at) in
      let v : Bool = has_value (meanings_at at) head.start in
      let started : NoneOf start → v ≡ true = λ e. valued at _ head.start sound w.2 e in
      let own : List ElabFault = own_refusals (meanings_at (there first)) true head.condition in
      let step : List ElabFault = genvar_refusals (meanings_at (there first)) head.next in
      let second : List ElabFault = if begins head at first then step else [] in
      let all : NoneOf begun = begun-none start begun without v started h in
      let turn : NoneOf (own ++ second) = first-judged 4095 p first
      (none-back (idle_refusals head at first) (turns_refusals 4096 head at p first) all) in
      let idle : NoneOf (idle_refusals head at first) =
      none-front (idle_refusals head at first) (turns_refusals 4096 head at p first) all in
      record {
        start = started (first-none start begun without v h);
        condition = condition-valued first (none-front own second turn);
        next = step-valued first (either (begins head at first) step idle (none-back own second turn));
      }
  head-valued p (object d role scalar) h = absurd (some-fault _ _ h)
  head-valued p faulty h = absurd (some-fault _ _ h)
  head-valued p shapeless h = absurd (some-fault _ _ h)
  head-valued p later h = absurd (some-fault _ _ h)

  head-ends : (p : Pos) (m : Meaning) → NoneOf (head_refusals at p head m)
      → Ends (goes_on head at.scopes) (next_turn head at.scopes) (first_turn head at.scopes)
  head-ends p undeclared h = absurd (some-fault _ _ h)
  head-ends p (constant c selected) h = absurd (some-fault _ _ h)
  head-ends p loop_variable h =
      let first : Const = first_turn head at.scopes in
      turns-end 4096 p first
      (none-back (idle_refusals head at first) (turns_refusals 4096 head at p first)
      (begun-none (genvar_refusals (meanings_at at) head.start) (begun_refusals head at p first)
      (without_start head (meanings_at at)) (has_value (meanings_at at) head.start)
      (λ e. valued at _ head.start sound w.2 e) h))
  head-ends p (object d role scalar) h = absurd (some-fault _ _ h)
  head-ends p faulty h = absurd (some-fault _ _ h)
  head-ends p shapeless h = absurd (some-fault _ _ h)
  head-ends p later h = absurd (some-fault _ _ h)

pub loop-ends : (ms : List Module) (at : Place) (attrs : Attributes) (p : Pos) (head : LoopHead) (b : Block)
    → AreSound (meanings_at at) → IsHead head → IsFine ms (item at (for_loop attrs p head b))
    → Ends (goes_on head at.scopes) (next_turn head at.scopes) (first_turn head at.scopes)
loop-ends ms at attrs p head b sound w h =
    head-ends head at sound w p (meaning_in (meanings_at at) head.variable) (none-back _ _ h)

pub loop-valued : (ms : List Module) (at : Place) (attrs : Attributes) (p : Pos) (head : LoopHead) (b : Block)
    (sound : AreSound (meanings_at at)) (w : IsHead head) → IsFine ms (item at (for_loop attrs p head b))
    → HaveValues head at sound w
loop-valued ms at attrs p head b sound w h =
    head-valued head at sound w p (meaning_in (meanings_at at) head.variable) (none-back _ _ h)
