-- Places of a walk: what is known there stays so as its steps go on, and scopes are entered.
use Rattle.std.specs.Prelude.{◌≡◌, refl, ℕ, List, [], ◌∷◌, ◌++◌, drop, false, is_some, Option, Some, None}
use Rattle.std.specs.Prelude.{if◌then◌else◌}
use Rattle.std.proofs.Common.{ap, sym, ◌∙◌, subst}
use Rattle.vl_tree.specs.declared.part.LoopHead.{LoopHead}
use Rattle.vl_tree.specs.declared.source.Module.{Module}
use Rattle.vl_tree.specs.Item.{Items}
use Rattle.vl_size.specs.Size.{is_true}
use Rattle.vl_mean.specs.declared.const_number.Const.{Const}
use Rattle.vl_mean.specs.Constants.{constant_operand}
use Rattle.vl_mean.specs.Walk.{Place, Use, block_place, genvar_value, goes_on, module_around, module_contents}
use Rattle.vl_mean.specs.Walk.{module_parameters, module_place, module_scope, next_turn, parameter_names, turn_place}
use Rattle.vl_mean.specs.Walk.{with_earlier}
use Rattle.vl_elab_spec.specs.Meanings.{Names, all_meanings, meanings_at, parameters_of}
use Rattle.vl_elab_names.specs.Known.{AreNames, contains}
use Rattle.vl_elab_names.specs.declared.set.NameSet.{NameSet}
use Rattle.vl_elab_const.specs.Given.{value_given, IsGiven}
use Rattle.vl_elab_const.specs.Numbers.{HaveNumbers, genvar_number, holds}
use Rattle.vl_elab_const.specs.declared.given.Given.{Given}
use Rattle.vl_elab_params.specs.Reached.{AreAround, AreBefore, IsReached, over, parameters_at}
use Rattle.vl_elab_params.proofs.Law.{handed_over, none_around, turn_before}
use Rattle.vl_elab_params.specs.declared.reached.Reached.{Reached}
use Rattle.vl_elab_scope.specs.Seen.{innermost}
use Rattle.vl_elab_decls.specs.declared.scopes.Inside.{Inside}
use Rattle.vl_elab_decls.specs.Stands.{Stands}
use Rattle.vl_elab_decls.proofs.TurnStands.{turn_stands}
use Rattle.vl_elab_check_item.specs.TurnParts.{in_turn}
use Rattle.vl_elab_check_scope.specs.Gives.{Gives}
use Rattle.vl_elab_spec.proofs.Inner.{nothing_earlier}
use Rattle.vl_elab_check.specs.declared.scopes.Here.{Here}
use Rattle.vl_elab_check.specs.Standing.{HasScope, IsHanded, IsHere, IsWithin}

-- with these names and numbers
abbrev pub inside_with : Inside → List Names → List Names → Inside
inside_with inside names numbers = record inside { names = names; numbers = numbers }

pub same_inside : (inside new : Inside) → new.names ≡ inside.names → new.numbers ≡ inside.numbers
    → new.clocks ≡ inside.clocks → new.around ≡ inside.around → new ≡ inside
same_inside inside new e f g k = λ i. record inside { names = e i; numbers = f i; clocks = g i; around = k i }

-- behind these
abbrev pub here_with : Here → NameSet → Reached → Here
here_with here earlier reached = record here { earlier = earlier; reached = reached }

module _ (inside : Inside) (here : Here) (path : List (List ℕ)) (at : Place) where
  pub goes_past : (xs : List (List ℕ)) (new : Here) → new.given ≡ here.given → IsHere inside here path at
      → AreNames new.earlier (at.earlier ++ xs) → IsReached new.reached at (at.earlier ++ xs)
      → IsHere inside new path (with_earlier at xs)
  goes_past xs new same h e r = record {
    within = record { stands = h.within.stands; around = h.within.around; modules = h.within.modules };
    known = record {
      alike = h.known.alike;
      constants = h.known.constants;
      shapes = h.known.shapes;
      before = e;
      parameters = r;
      overrides = subst (λ given. Gives given at) (sym same) h.known.overrides;
    };
  }

  -- past other names than these
  pub goes_further : (xs ys : List (List ℕ)) (earlier : NameSet) (reached : Reached)
      → IsHere inside here path (with_earlier at xs)
      → AreNames earlier (at.earlier ++ ys) → IsReached reached at (at.earlier ++ ys)
      → IsHere inside (here_with here earlier reached) path (with_earlier at ys)
  goes_further xs ys earlier reached h e r = record {
    within = record { stands = h.within.stands; around = h.within.around; modules = h.within.modules };
    known = record {
      alike = h.known.alike;
      constants = h.known.constants;
      shapes = h.known.shapes;
      before = e;
      parameters = r;
      overrides = h.known.overrides;
    };
  }

  pub stays_here : IsHere inside here path (with_earlier at []) → IsHere inside here path at
  stays_here h = subst (IsHere inside here path) (nothing_earlier at) h

  pub past_nothing : IsHere inside here path at → IsHere inside here path (with_earlier at [])
  past_nothing h = subst (IsHere inside here path) (sym (nothing_earlier at)) h

pub stays_within : (inside : Inside) (path : List (List ℕ)) (at : Place) (xs : List (List ℕ))
    → IsWithin inside path (with_earlier at xs) → IsWithin inside path at
stays_within inside path at xs h = record { stands = h.stands; around = h.around; modules = h.modules }

-- ---- scopes that are entered

module _ (names numbers around : List Names) (clocks earlier : NameSet) (reached : Reached) (given : Given)
    (none_before : (text : List ℕ) → contains earlier text ≡ false) (path : List (List ℕ)) where
  abbrev made_inside : Inside
  made_inside = record { names = names; numbers = numbers; clocks = clocks; around = around }

  abbrev made_here : Here
  made_here = record { earlier = earlier; reached = reached; given = given }

  pub block_entered : (at : Place) (text : List ℕ) (xs : Items) → path ≡ at.modules
      → Stands names numbers (contains clocks) (meanings_at (block_place at text xs)) (block_place at text xs).scopes
      → HaveNumbers (drop 1 numbers) (block_place at text xs).around → AreAround around (block_place at text xs)
      → ((here : Place) → parameters_at here ≡ parameters_of xs → IsReached reached here [])
      → ((name : List ℕ) → value_given given name ≡ None)
      → IsHere made_inside made_here path (block_place at text xs)
  block_entered at text xs e stands shapes said r nothing = record {
    within = record { stands = stands; around = said; modules = e };
    known = record {
      alike = stands.alike;
      constants = stands.numbers;
      shapes = shapes;
      before = none_before;
      parameters = r (block_place at text xs) refl;
      overrides = λ name. ap is_some (sym (nothing name));
    };
  }

  pub module_entered : (m : Module) (u : Use) (text : List ℕ) (modules : List (List ℕ))
      → path ≡ modules ++ m.name ∷ []
      → Stands names numbers (contains clocks) (all_meanings (module_scope m u text ∷ []) (module_contents m u ∷ []))
      (module_scope m u text ∷ [])
      → HaveNumbers (drop 1 numbers) (module_around m u) → around ≡ []
      → ((here : Place) → parameters_at here
      ≡ parameter_names (module_parameters m) ++ parameters_of (module_contents m u).items
      → IsReached reached here [])
      → IsGiven (value_given given) u.overrides
      → IsHere made_inside made_here path (module_place m u text modules)
  module_entered m u text modules e stands shapes none r values = record {
    within = record {
      stands = stands;
      around = subst (λ ns. AreAround ns (module_place m u text modules)) (sym none)
          (none_around (module_scope m u text) (module_contents m u) _);
      modules = e;
    };
    known = record {
      alike = stands.alike;
      constants = stands.numbers;
      shapes = shapes;
      before = none_before;
      parameters = r (module_place m u text modules) refl;
      overrides = values.there;
    };
  }

-- ---- turns of a loop

-- behind what stands before the loop
abbrev pub turn_inside_of : Inside → Reached → LoopHead → Const → Inside
turn_inside_of inside r head c =
    record inside {
      names = in_turn head.variable c inside.names;
      numbers = in_turn head.variable c inside.numbers;
      around = in_turn head.variable c (over r inside.around);
    }

module _ (inside : Inside) (path : List (List ℕ)) (at : Place) (h : IsWithin inside path at) (head : LoopHead)
    (c : Const) where
  turn_stood : Stands (in_turn head.variable c inside.names) (in_turn head.variable c inside.numbers)
      (contains inside.clocks) (meanings_at (turn_place at head.variable c)) (turn_place at head.variable c).scopes
  turn_stood = turn_stands at inside.names inside.numbers (contains inside.clocks) h.stands head.variable c

  pub turn_handed : (r : Reached) → IsReached r at at.earlier
      → IsHanded (turn_inside_of inside r head c) path (turn_place at head.variable c)
  turn_handed r k = record {
    stands = turn_stood;
    before = turn_before at (over r inside.around)
        (handed_over r.passed r.pending inside.around at.earlier at k h.stands.alike.also_named h.around) head.variable
        c;
    modules = h.modules;
  }

  pub turn_value : (let numbers = in_turn head.variable c inside.numbers in
      if holds numbers head.condition then Some (genvar_number numbers head.next) else None)
      ≡ (if goes_on head at.scopes c then Some (next_turn head at.scopes c) else None)
  turn_value = λ i.
      let f : List ℕ → Option Const = λ text. turn_stood.numbers text i in
      if is_true (constant_operand f head.condition) then Some (genvar_value (constant_operand f head.next)) else None

-- ---- scopes that are left

-- where both are as before
pub within_again : (inside new : Inside) (path last : List (List ℕ)) (at : Place) → new ≡ inside → last ≡ path
    → IsWithin inside path at → IsWithin new last at
within_again inside new path last at e f h =
    subst (λ i. IsWithin i last at) (sym e) (subst (λ p. IsWithin inside p at) (sym f) h)

pub here_again : (inside new : Inside) (here last : Here) (path end : List (List ℕ)) (at : Place) → new ≡ inside
    → last ≡ here → end ≡ path → IsHere inside here path at → IsHere new last end at
here_again inside new here last path end at e f g h =
    subst (λ i. IsHere i last end at) (sym e)
    (subst (λ k. IsHere inside k end at) (sym f) (subst (λ p. IsHere inside here p at) (sym g) h))

-- with what is reached as before
pub same_reached : (here walked : Here) (last : Reached) → last ≡ walked.reached → walked ≡ here
    → record walked { reached = last } ≡ here
same_reached here walked last e f = (λ i. record walked { reached = e i }) ∙ f

pub reached_again : (here walked : Here) (at : Place) → walked ≡ here → IsReached here.reached at at.earlier
    → IsReached walked.reached at at.earlier
reached_again here walked at e h = subst (λ (k : Here). IsReached k.reached at at.earlier) (sym e) h

pub scope_left : (inside entered walked left : Inside) → drop 2 entered.names ≡ inside.names
    → drop 2 entered.numbers ≡ inside.numbers → entered.clocks ≡ inside.clocks
    → drop 1 entered.around ≡ inside.around → walked ≡ entered
    → left ≡ record walked {
      names = drop 2 walked.names;
      numbers = drop 2 walked.numbers;
      around = drop 1 walked.around;
    } → left ≡ inside
scope_left inside entered walked left names numbers clocks around same out =
    out
    ∙ ap (λ (i : Inside).
    record i { names = drop 2 i.names; numbers = drop 2 i.numbers; around = drop 1 i.around }) same
    ∙ (λ i. record inside { names = names i; numbers = numbers i; clocks = clocks i; around = around i })

-- what is said around goes back with the turn
pub turn_around : (inside entered walked : Inside) (r : Reached) (head : LoopHead) (c : Const)
    → entered ≡ turn_inside_of inside r head c → walked ≡ entered → drop 1 walked.around ≡ over r inside.around
turn_around inside entered walked r head c enter same = ap (λ (i : Inside). drop 1 i.around) (same ∙ enter)

pub turn_left : (inside entered walked left : Inside) (r : Reached) (head : LoopHead) (c : Const)
    → entered ≡ turn_inside_of inside r head c → walked ≡ entered
    → left ≡ record walked {
      names = drop 1 walked.names;
      numbers = drop 1 walked.numbers;
      around = inside.around;
    } → left ≡ inside
turn_left inside entered walked left r head c enter same out =
    out
    ∙ ap (λ (i : Inside).
    record i { names = drop 1 i.names; numbers = drop 1 i.numbers; around = inside.around }) (same ∙ enter)

-- what stands before a block is handed over to it
pub block_handed : (inside : Inside) (here : Here) (path : List (List ℕ)) (at : Place) (around : List Names)
    → IsHere inside here path at → around ≡ over here.reached inside.around
    → IsHanded (record inside { around = around }) path at
block_handed inside here path at around h e = record {
  stands = h.within.stands;
  before = subst (λ ns. AreBefore ns at at.earlier) (sym e)
      (handed_over here.reached.passed here.reached.pending inside.around at.earlier at h.known.parameters
      h.within.stands.alike.also_named h.within.around);
  modules = h.within.modules;
}

pub around_again : (inside walked : Inside) (around last : List Names)
    → walked ≡ record inside { around = around } → last ≡ inside.around → record walked { around = last } ≡ inside
around_again inside walked around last same e =
    (λ i. record walked { around = e i }) ∙ ap (λ (i : Inside). record i { around = inside.around }) same

pub scope_again : (inside new : Inside) → new.numbers ≡ inside.numbers → HasScope inside → HasScope new
scope_again inside new e h = subst (λ ns. ns ≡ innermost ns ∷ drop 1 ns) (sym e) h
